use Rattle.std.proofs.Common.{Some, ap, sym, ◌∙◌}
use Rattle.allowlist.specs.Allow.{AllowList}
use Rattle.def_access.specs.Access.{name_read, name_written}
use Rattle.code_meaning.specs.Machine.{on_access, on_reference, on_top, on_write, quoted_act}
use Rattle.machine.specs.Rows.{on_pair, text_act}
use Rattle.machine_parts.proofs.Linked.{allows}
use Rattle.machine.proofs.Calling.{as_well}
use Rattle.machine.specs.Seen.{world_of, codes_in, limits_in}
use Rattle.machine.proofs.references.quoted_as.Goals as goal

pub returns-in-Constant-clause-exact : goal.returns-in-Constant-clause-exact
returns-in-Constant-clause-exact c =
    as_well _ _ _ _
    (ap (λ kind. quoted_act (codes_in c.args.executable.now) (limits_in c.args.executable.now c.args.limits.now) kind c.args.text.now c.args.run.now.frames.top c.args.run.now.frames.below (world_of c.args.run.now.world)) c.in-Constant.is
    ∙ ap (λ units. text_act (Some units) c.args.run.now.frames.top c.args.run.now.frames.below (world_of c.args.run.now.world)) (sym c.requires.shared))
    c.constant.ensures.exact

pub returns-in-GetName-clause-exact : goal.returns-in-GetName-clause-exact
returns-in-GetName-clause-exact c =
    rw (c.as_str.ensures) at
    (as_well _ _ _ _
    (ap (λ kind. quoted_act (codes_in c.args.executable.now) (limits_in c.args.executable.now c.args.limits.now) kind c.as_str.result.now c.args.run.now.frames.top c.args.run.now.frames.below (world_of c.args.run.now.world)) c.in-GetName.is
    ∙ ap (λ (list : AllowList). on_top c.args.run.now.frames.top.stack (λ word stack. on_reference word (λ receiver. on_access (codes_in c.args.executable.now) (limits_in c.args.executable.now c.args.limits.now) (name_read list c.args.run.now.world.heap receiver c.as_str.result.now) c.args.run.now.frames.top c.args.run.now.frames.below (world_of c.args.run.now.world) stack))) (allows c.args.executable.now c.args.limits.now.loops c.args.limits.now.depth c.args.run.now.frames.top.text))
    c.get_name.ensures.exact)

pub returns-in-PutName-clause-exact : goal.returns-in-PutName-clause-exact
returns-in-PutName-clause-exact c =
    rw (c.as_str-in-PutName.ensures) at
    (as_well _ _ _ _
    (ap (λ kind. quoted_act (codes_in c.args.executable.now) (limits_in c.args.executable.now c.args.limits.now) kind c.as_str-in-PutName.result.now c.args.run.now.frames.top c.args.run.now.frames.below (world_of c.args.run.now.world)) c.in-PutName.is
    ∙ ap (λ (list : AllowList). on_pair c.args.run.now.frames.top.stack (λ receiver value stack. on_write (codes_in c.args.executable.now) (limits_in c.args.executable.now c.args.limits.now) (name_written list c.args.run.now.world.heap receiver c.as_str-in-PutName.result.now value) c.args.run.now.frames.top c.args.run.now.frames.below (world_of c.args.run.now.world) stack)) (allows c.args.executable.now c.args.limits.now.loops c.args.limits.now.depth c.args.run.now.frames.top.text))
    c.put_name.ensures.exact)
