use Rattle.std.proofs.Common.{◌≡◌, ◌-◌}
use Rattle.allowlist.specs.Allow.{class_named_of, first_class, is_named}
use Rattle.allowlist.proofs.lookup.AllowTypeNames.class_named.Given as goal

abbrev pub invariant-loop-class : goal.invariant-loop-class
invariant-loop-class l = class_named_of l.self l.name ≡ first_class (is_named l.self l.name) l.class (57 - l.class)
