use Rattle.std.proofs.Common.{◌≡◌, ◌+◌, ◌≤◌, length, drop, insert, ap, ◌∙◌, arith}
use Rattle.std.proofs.lemmas.List.{length-drop}
use Rattle.object_values.proofs.Behind.{insert_behind}
use Rattle.object_values.proofs.elements.Elements.insert.Goals as goal

pub returns-clause-ok : goal.returns-clause-ok
returns-clause-ok g c =
    let xs = c.self.inside.items.items in
    let dead = c.self.inside.dead in
    let same : drop dead xs ≡ c.args.self.now = c.self.view_is in
    let made : c.insert.new.self.items ≡ insert xs (dead + c.args.at) c.args.element = c.in_ok-insert.ensures.items in
    let long : dead + c.args.at ≤ length xs = omega (arith, ap length same, length-drop dead xs) in
    ap (drop dead) made ∙ (insert_behind xs c.args.element dead c.args.at long ∙ ap (λ rest. insert rest c.args.at c.args.element) same)
