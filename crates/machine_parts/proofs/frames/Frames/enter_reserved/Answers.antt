use Rattle.std.proofs.Common.{◌≡◌, ◌+◌, ◌-◌, ◌≤◌, [], ◌∷◌, ◌++◌, length, map, subst, rules}
use Rattle.std.specs.Prelude.{reverse, take}
use Rattle.code_meaning.specs.Machine.{take_words}
use Rattle.code_meaning.specs.Words.{start_of}
use Rattle.machine_parts.specs.Frames.{Laid, Enters, own, lie}
use Rattle.machine_parts.proofs.Entering.{callee, entered}
use Rattle.machine_parts.proofs.frames.Frames.enter_reserved.Goals as goal

pub returns-clause-done : goal.returns-clause-done
returns-clause-done c = λ done.
    let top = c.self.inside.top in
    let below = c.self.inside.below.items in
    let words = c.self.inside.words.items in
    let m = c.len-count.result - c.args.params in
    let fits : top.base + top.locals ≤ m = search rules in
    let all : m + c.args.params ≡ length words = search rules in
    let new = callee top below words c.args.fun c.args.params m c.args.slots.now fits all in
    let after = words ++ map start_of c.args.slots.now in
    rw (c.put_starts.ensures.items, c.push_reserved.ensures.items)
    (subst (λ (v : Laid). Enters (take_words c.args.params v.top.stack []) c.args.fun c.args.slots.now v.top v.below (own new after) (lie (reverse (below ++ top ∷ [])) (take m after))) c.self.view_is
    (entered top below words c.args.fun c.args.params m c.args.slots.now fits all))
