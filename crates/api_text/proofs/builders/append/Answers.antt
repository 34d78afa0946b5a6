use Rattle.std.proofs.Common.{sym, subst}
use Rattle.object_heap.specs.Effects.{Answers}
use Rattle.api_text.specs.declared.outcome.Outcome.TheVariants.{Extends}
use Rattle.api_text.specs.Outcomes.{WantsMemory, effect}
use Rattle.api_text.proofs.Needing.{wants}
use Rattle.api_text.proofs.OfText.{append_is}
use Rattle.api_text.proofs.builders.append.Goals as goal

pub returns-in-Some-Some-clause-does : goal.returns-in-Some-Some-clause-does
returns-in-Some-Some-clause-does c =
    let e = append_is c.args.heap.now.objects c.args.args.now c.in-Some-Some.builder c.in-Some-Some.text.now c.in-Some-Some.ensures c.in-Some-Some.ensures' in
    subst (λ told. Answers (effect c.args.heap.now told) c.args.heap.now c.extend.new.heap c.extend.result) (sym e) (rw c.units.ensures at c.extend.ensures)

pub returns-in-Some-Some-clause-memory : goal.returns-in-Some-Some-clause-memory
returns-in-Some-Some-clause-memory c =
    let e = append_is c.args.heap.now.objects c.args.args.now c.in-Some-Some.builder c.in-Some-Some.text.now c.in-Some-Some.ensures c.in-Some-Some.ensures' in
    subst (λ told. WantsMemory told c.extend.result) (sym e) (wants (Extends c.in-Some-Some.builder c.in-Some-Some.text.now) c.extend.result tt)

pub returns-in_default-clause-does : goal.returns-in_default-clause-does
returns-in_default-clause-does c = c.settle.ensures.does _ c.append_value.ensures

pub returns-in_default-clause-memory : goal.returns-in_default-clause-memory
returns-in_default-clause-memory c = c.settle.ensures.memory _ c.append_value.ensures
