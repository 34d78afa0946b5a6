use Rattle.std.proofs.Common.{suc, ◌∷◌}
use Rattle.number_ops.specs.Relations.{is_instance}
use Rattle.code_meaning.specs.declared.word.Word.TheVariants.{I}
use Rattle.code_meaning.specs.Machine.{on_reference, to_line}
use Rattle.code_meaning.specs.Words.{bit}
use Rattle.machine.specs.Seen.{world_of}
use Rattle.machine.proofs.Rows.{from_top}
use Rattle.machine.proofs.typed.instance.Goals as goal

pub returns-in-Some-clause-exact : goal.returns-in-Some-clause-exact
returns-in-Some-clause-exact c =
    from_top c.args.run.now.frames c.pop.new.self c.in-Some.word c.in-Some.ensures.stack c.pop.ensures.top c.pop.ensures.below
    (λ word f below stack. on_reference word (λ value. to_line f below (world_of c.args.run.now.world) (suc f.line) (I (bit (is_instance c.args.run.now.world.heap.objects value c.args.of.now)) ∷ stack))) _ _
    (c.instance_word.ensures.exact c.args.run.now.frames.top.stack)
