use Rattle.std.proofs.Common.{◌≡◌, ◌+◌, ◌≤◌, length, take, drop, ◌++◌, ap, ◌∙◌, arith}
use Rattle.std.proofs.lemmas.List.{length-drop}
use Rattle.object_values.proofs.Behind.{run_behind, run_for_run}
use Rattle.object_values.proofs.elements.Elements.splice.Goals as goal

pub returns-clause-ok : goal.returns-clause-ok
returns-clause-ok g c =
    let xs = c.self.inside.items.items in
    let dead = c.self.inside.dead in
    let same : drop dead xs ≡ c.args.self.now = c.self.view_is in
    let made : c.insert_run.new.items.items ≡ take (dead + c.args.to) xs ++ c.args.more.now ++ drop (dead + c.args.to) xs = c.in_ok-insert_run.ensures.ok in
    let long : dead + c.args.to ≤ length xs = omega (arith, ap length same, length-drop dead xs) in
    let there : drop dead c.insert_run.new.items.items ≡ take c.args.to c.args.self.now ++ c.args.more.now ++ drop c.args.to c.args.self.now =
    ap (drop dead) made ∙ (run_behind xs c.args.more.now dead c.args.to long ∙ ap (λ rest. take c.args.to rest ++ c.args.more.now ++ drop c.args.to rest) same) in
    c.cut_run-self-inside.ensures.rest ∙ (ap (λ rest. take c.args.from rest ++ drop c.args.to rest) there ∙ run_for_run c.args.self.now c.args.more.now c.args.from c.args.to c.requires.ordered c.requires.within)
