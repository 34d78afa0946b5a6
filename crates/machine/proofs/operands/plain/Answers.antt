use Rattle.std.proofs.Common.{ap, ◌∙◌}
use Rattle.allowlist.specs.Allow.{AllowList}
use Rattle.def_access.specs.Access.{index_read, index_written}
use Rattle.code_meaning.specs.Machine.{on_access, on_write, plain_act}
use Rattle.machine.specs.Rows.{on_pair, on_triple}
use Rattle.machine_parts.proofs.Linked.{allows}
use Rattle.machine.proofs.Calling.{as_well}
use Rattle.machine.specs.Seen.{world_of, codes_in, limits_in}
use Rattle.machine.proofs.operands.plain.Goals as goal

pub returns-in-GetIndex-clause-exact : goal.returns-in-GetIndex-clause-exact
returns-in-GetIndex-clause-exact c =
    as_well _ _ _ _
    (ap (λ kind. plain_act (codes_in c.args.executable.now) (limits_in c.args.executable.now c.args.limits.now) kind c.args.run.now.frames.top c.args.run.now.frames.below (world_of c.args.run.now.world)) c.in-GetIndex.is
    ∙ ap (λ (list : AllowList). on_pair c.args.run.now.frames.top.stack (λ receiver index stack. on_access (codes_in c.args.executable.now) (limits_in c.args.executable.now c.args.limits.now) (index_read list c.args.run.now.world.heap receiver index) c.args.run.now.frames.top c.args.run.now.frames.below (world_of c.args.run.now.world) stack)) (allows c.args.executable.now c.args.limits.now.loops c.args.limits.now.depth c.args.run.now.frames.top.text))
    c.get_index.ensures.exact

pub returns-in-PutIndex-clause-exact : goal.returns-in-PutIndex-clause-exact
returns-in-PutIndex-clause-exact c =
    as_well _ _ _ _
    (ap (λ kind. plain_act (codes_in c.args.executable.now) (limits_in c.args.executable.now c.args.limits.now) kind c.args.run.now.frames.top c.args.run.now.frames.below (world_of c.args.run.now.world)) c.in-PutIndex.is
    ∙ ap (λ (list : AllowList). on_triple c.args.run.now.frames.top.stack (λ receiver index value stack. on_write (codes_in c.args.executable.now) (limits_in c.args.executable.now c.args.limits.now) (index_written list c.args.run.now.world.heap receiver index value) c.args.run.now.frames.top c.args.run.now.frames.below (world_of c.args.run.now.world) stack)) (allows c.args.executable.now c.args.limits.now.loops c.args.limits.now.depth c.args.run.now.frames.top.text))
    c.put_index.ensures.exact
