use Rattle.std.proofs.Common.{◌≡◌}
use Rattle.machine_parts.proofs.Methods.{methods_below}
use Rattle.machine_parts.proofs.method_table.MethodTable.new.Given as goal

-- what is found for the classes so far
abbrev pub invariant-loop-class : goal.invariant-loop-class
invariant-loop-class l = l.targets.items ≡ methods_below l.allow l.name l.arity l.class
