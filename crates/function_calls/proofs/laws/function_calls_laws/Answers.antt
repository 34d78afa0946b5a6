use Rattle.function_calls.proofs.Confined.{applied_confined, named_confined}
use Rattle.function_calls.proofs.Counting.{applied_takes, named_takes}
use Rattle.function_calls.proofs.Fitting.{applied_fits, due_fits, named_fits, taken_fits}
use Rattle.function_calls.proofs.Leaving.{applied_leaves, due_leaves, named_leaves, taken_leaves}
use Rattle.function_calls.proofs.laws.function_calls_laws.Goals as goal

pub returns-clause-confined : goal.returns-clause-confined
returns-clause-confined c = record { applied = applied_confined; named = named_confined }

pub returns-clause-takes : goal.returns-clause-takes
returns-clause-takes c = record { applied = applied_takes; named = named_takes }

pub returns-clause-fit : goal.returns-clause-fit
returns-clause-fit c = record { applied = applied_fits; named = named_fits; due = due_fits; taken = taken_fits }

pub returns-clause-leave : goal.returns-clause-leave
returns-clause-leave c = record { applied = applied_leaves; named = named_leaves; due = due_leaves; taken = taken_leaves }
