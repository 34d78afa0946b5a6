use Rattle.allowlist.proofs.Unique.{members_apart, depth_first, found_is_allowed, found_above, method_above}
use Rattle.allowlist.proofs.laws.catalogue_laws.Goals as goal

pub returns-clause-apart : goal.returns-clause-apart
returns-clause-apart c = members_apart

pub returns-clause-depth_first : goal.returns-clause-depth_first
returns-clause-depth_first c allow class name arity = depth_first allow class name arity (c.class_laws.ensures.line class)

pub returns-clause-allowed : goal.returns-clause-allowed
returns-clause-allowed c = found_is_allowed

pub returns-clause-above : goal.returns-clause-above
returns-clause-above c = found_above

pub returns-clause-method : goal.returns-clause-method
returns-clause-method c = method_above
