use Rattle.std.proofs.Common.{◌≡◌, ◌∙◌, Some, None}
use Rattle.machine_parts.specs.Links.{methods_of}
use Rattle.machine.specs.Seen.{text_of}
use Rattle.machine.proofs.access_rows.call_method.Goals as goal

pub call_linked-requires-clause-methods : goal.call_linked-requires-clause-methods
call_linked-requires-clause-methods c =
    let same : Some c.in-Some.methods.now ≡ Some (methods_of (text_of c.args.executable.now c.args.run.now.frames.top.text).allow c.args.name.now c.args.count) = c.in-Some.ensures ∙ c.requires.linked in
    cc

pub returns-in-None-clause-exact : goal.returns-in-None-clause-exact
returns-in-None-clause-exact c =
    let none : None ≡ Some (methods_of (text_of c.args.executable.now c.args.run.now.frames.top.text).allow c.args.name.now c.args.count) = c.in-None.ensures ∙ c.requires.linked in
    absurd (cc)
