use Rattle.machine_parts.proofs.Methods.{one_more}
use Rattle.machine_parts.proofs.method_table.MethodTable.new.Goals as goal

pub loop-class-preserved : goal.loop-class-preserved
loop-class-preserved c = one_more c.args.allow.now c.args.name.now c.args.arity c.loop-class.class c.loop-class.targets.items c.push.new.self.items c.resolve.result c.loop-class.invariant c.resolve.ensures.exact c.in_ok-push.ensures.items
