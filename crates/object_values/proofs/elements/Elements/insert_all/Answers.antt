use Rattle.std.proofs.Common.{◌≡◌, ◌+◌, ◌≤◌, length, take, drop, ◌++◌, ap, ◌∙◌, arith}
use Rattle.std.proofs.lemmas.List.{length-drop}
use Rattle.object_values.proofs.Behind.{run_behind}
use Rattle.object_values.proofs.elements.Elements.insert_all.Goals as goal

pub returns-clause-ok : goal.returns-clause-ok
returns-clause-ok g c =
    let xs = c.self.inside.items.items in
    let dead = c.self.inside.dead in
    let at = c.args.at in
    let more = c.args.more in
    let same : drop dead xs ≡ c.args.self.now = c.self.view_is in
    let made : c.move_in.new.items.items ≡ take (dead + at) xs ++ more ++ drop (dead + at) xs = rw c.into_vec.ensures at c.in_ok-move_in.ensures.ok in
    let long : dead + at ≤ length xs = omega (arith, ap length same, length-drop dead xs) in
    ap (drop dead) made ∙ (run_behind xs more dead at long ∙ ap (λ rest. take at rest ++ more ++ drop at rest) same)
