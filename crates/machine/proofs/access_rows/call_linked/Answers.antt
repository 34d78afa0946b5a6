use Rattle.std.proofs.Common.{suc, add-one, sym, ap, ◌∙◌}
use Rattle.def_access.specs.Access.{method_called}
use Rattle.code_meaning.specs.Machine.{Frame, on_access, on_first, on_values}
use Rattle.code_meaning.specs.Members.{references_in}
use Rattle.machine_parts.specs.Links.{methods_of}
use Rattle.machine.proofs.Taking.{from_words, too_few}
use Rattle.machine.specs.Seen.{world_of, codes_in, limits_in, text_of}
use Rattle.machine.proofs.access_rows.call_linked.Goals as goal

pub call_words-requires-clause-methods : goal.call_words-requires-clause-methods
call_words-requires-clause-methods c =
    c.requires.methods ∙ ap (λ (f : Frame). methods_of (text_of c.args.executable.now f.text).allow c.args.name.now c.args.count) (sym c.in-Ok-true.ensures.top)

pub returns-in-Ok-true-clause-exact : goal.returns-in-Ok-true-clause-exact
returns-in-Ok-true-clause-exact c =
    from_words (suc c.args.count) c.args.run.now.frames c.parts_off.new.frames c.parts_off.new.taken.items (rw (c.in-Ok-true.field-0-test, add-one) at c.in-Ok-true.ensures.words) c.in-Ok-true.ensures.top c.in-Ok-true.ensures.below
    (λ words f below stack. on_values (references_in words) (λ values. on_first values (λ receiver arguments. on_access (codes_in c.args.executable.now) (limits_in c.args.executable.now c.args.limits.now) (method_called (text_of c.args.executable.now f.text).allow c.args.run.now.world.heap receiver c.args.name.now arguments) f below (world_of c.args.run.now.world) stack))) _ _
    (c.call_words.ensures.exact c.args.run.now.frames.top.stack)

pub returns-in-Ok-false-clause-exact : goal.returns-in-Ok-false-clause-exact
returns-in-Ok-false-clause-exact c =
    too_few (suc c.args.count) c.args.run.now.frames (rw (c.in-Ok-false.field-0-test, add-one) at c.in-Ok-false.ensures.words)
    (λ words f below stack. on_values (references_in words) (λ values. on_first values (λ receiver arguments. on_access (codes_in c.args.executable.now) (limits_in c.args.executable.now c.args.limits.now) (method_called (text_of c.args.executable.now f.text).allow c.args.run.now.world.heap receiver c.args.name.now arguments) f below (world_of c.args.run.now.world) stack)))
