use Rattle.std.proofs.Common.{◌<◌, ℕ, List, [], sym, subst, rules}
use Rattle.pl_code.specs.declared.kinds.Slot.{Slot}
use Rattle.code_meaning.specs.Machine.{depth_of, take_words}
use Rattle.machine_parts.specs.Frames.{Enters}
use Rattle.machine_paths.proofs.Moving.{called}
use Rattle.machine_paths.proofs.fast_calls.enter.Goals as goal

pub returns-then-not-enter_reserved-clause-exact : goal.returns-then-not-enter_reserved-clause-exact
returns-then-not-enter_reserved-clause-exact c = λ codes limits store reached same i. record {
  top = c.enter_reserved.ensures.top c.if-not-enter_reserved.true i;
  below = c.enter_reserved.ensures.below c.if-not-enter_reserved.true i;
  world = record { store = store; ticks = c.args.ticks.now; reached = reached };
}

pub returns-clause-exact : goal.returns-clause-exact
returns-clause-exact c = λ codes limits store reached same.
    let old = c.args.frames.now in
    let new = c.enter_reserved.new.self in
    let g = c.args.function.now in
    let less : depth_of old.below < c.args.depth = search rules in
    let there : 0 < c.args.ticks.now = search rules in
    called codes limits old new g c.args.number c.args.ticks.now store reached there (subst (λ (n : ℕ). depth_of old.below < n) (sym same) less)
    (subst (λ (n : ℕ). Enters (take_words n old.top.stack []) c.args.number g.locals old.top old.below new.top new.below) c.len.ensures
    (subst (λ (slots : List Slot). Enters (take_words c.len.result old.top.stack []) c.args.number slots old.top old.below new.top new.below) c.as_slice.ensures
    (c.enter_reserved.ensures.done c.if-not-enter_reserved.false)))
