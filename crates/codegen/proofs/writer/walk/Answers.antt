use Rattle.std.proofs.Common.{rules, ◌∷◌, List, subst}
use Rattle.source_meaning.specs.Programs.{program_of}
use Rattle.codegen.specs.Worklist.{Back, item_of, items_of}
use Rattle.program_typing.specs.Agreeing.{known}
use Rattle.codegen.specs.Sound.{Sound}
use Rattle.codegen.specs.declared.work_item.WorkItem.{WorkItem}
use Rattle.codegen.proofs.Back.{back_all}
use Rattle.codegen.proofs.writer.walk.Goals as goal

pub loop-item-preserved : goal.loop-item-preserved
loop-item-preserved c = record {
  back =
      back_all (program_of c.args.program.now) (items_of c.args.worklist.now) (item_of c.in-Some.item ∷ items_of c.pop.new.self) (items_of c.step.new.worklist) c.args.config.now c.loop-item.config c.step.new.config
      (subst (λ (ts : List WorkItem). Back (program_of c.args.program.now) (items_of c.args.worklist.now) c.args.config.now (items_of ts) c.loop-item.config) c.in-Some.ensures c.loop-item.invariant.back) c.in_ok-step.ensures.back;
  sound = λ allow s. c.in_ok-step.ensures.sound.by allow (subst (λ (ts : List WorkItem). Sound (known allow (program_of c.args.program.now)) (items_of ts) c.loop-item.config) c.in-Some.ensures (c.loop-item.invariant.sound allow s));
}

pub returns-in_err-step-clause-total : goal.returns-in_err-step-clause-total
returns-in_err-step-clause-total c = λ allow s.
    let m = c.in_err-step.ensures.sound.by allow (subst (λ (ts : List WorkItem). Sound (known allow (program_of c.args.program.now)) (items_of ts) c.loop-item.config) c.in-Some.ensures (c.loop-item.invariant.sound allow s)) in search rules

pub loop-item-smaller : goal.loop-item-smaller
loop-item-smaller c = rw c.in-Some.ensures c.in_ok-step.ensures.falls
