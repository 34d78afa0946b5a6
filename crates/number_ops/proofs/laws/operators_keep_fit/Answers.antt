use Rattle.std.proofs.Common.{length}
use Rattle.number_ops.specs.Casts.{cast_at_run_time}
use Rattle.number_ops.specs.Members.{does_numbered, numbered}
use Rattle.number_ops.specs.Operators.{operate, concatenated}
use Rattle.number_ops.proofs.Keeping.{settled, operate_fits, concatenated_fits, cast_fits, numbered_fits}
use Rattle.number_ops.proofs.laws.operators_keep_fit.Goals as goal

pub returns-clause-operators : goal.returns-clause-operators
returns-clause-operators c = λ rules store o a b f. settled rules store (operate store.objects o a b) f (operate_fits (length store.objects) store.objects o a b)

pub returns-clause-concatenation : goal.returns-clause-concatenation
returns-clause-concatenation c = λ rules store a b f. settled rules store (concatenated store.objects a b) f (concatenated_fits (length store.objects) store.objects a b)

pub returns-clause-casts : goal.returns-clause-casts
returns-clause-casts c = λ rules store value to explicit f h.
    settled rules store (cast_at_run_time store.objects value to explicit) f (cast_fits (length store.objects) store.objects value to explicit h)

pub returns-clause-members : goal.returns-clause-members
returns-clause-members c = λ rules store number arguments f.
    settled rules store (does_numbered store.objects number arguments) f (numbered_fits (length store.objects) store.objects (numbered number) arguments)
