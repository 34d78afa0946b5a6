use Rattle.std.proofs.Common.{◌≡◌, ◌+◌, ◌≤◌, suc, [], ◌∷◌, ◌++◌, length, true, subst, arith}
use Rattle.std.specs.Prelude.{reverse, take}
use Rattle.std.proofs.lemmas.List.{length-take}
use Rattle.machine_parts.specs.Frames.{GivesBack, Laid, own, lie}
use Rattle.machine_parts.proofs.Returning.{lower_fits, returned, waking}
use Rattle.machine_parts.proofs.frames.Frames.give_back.Goals as goal

pub returns-in-Some-clause-frames : goal.returns-in-Some-clause-frames
returns-in-Some-clause-frames c =
    let top = c.self.inside.top in
    let held = c.in-Some.held in
    let below = c.self.inside.below.items in
    let lower = c.pop.new.self.items in
    let xs = c.self.inside.words.items in
    let split : below ≡ lower ++ held ∷ [] = c.in-Some.ensures.items in
    let inner : held.base + held.locals ≤ top.base = lower_fits held lower below top.base split c.self.invariant.0.1 in
    let outer = c.self.invariant.0.0 in
    let fits : held.base + held.locals ≤ length (take top.base xs) = omega (arith, inner, outer, length-take top.base xs) in
    let next : held.line + 1 ≡ suc held.line = omega arith in
    let ys = take top.base xs ++ c.args.word ∷ [] in
    rw (c.push_reserved.ensures.items, c.cut.ensures.items)
    (subst (λ (v : Laid). GivesBack c.args.word v.top v.below (own (waking held (take top.base xs) c.args.word (held.line + 1) fits next) ys) (lie (reverse lower) (take held.base ys)) true) c.self.view_is
    (returned top held lower below xs c.args.word (held.line + 1) split fits next))
