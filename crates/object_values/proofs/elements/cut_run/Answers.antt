use Rattle.std.proofs.Common.{◌≡◌, ◌+◌, ◌-◌, ◌≤◌, length, take, drop, ◌++◌, ap, ◌∙◌, arith}
use Rattle.std.proofs.lemmas.List.{take_at}
use Rattle.object_values.proofs.Behind.{cut_behind}
use Rattle.object_values.proofs.elements.cut_run.Goals as goal

pub returns-then-from-len-clause-rest : goal.returns-then-from-len-clause-rest
returns-then-from-len-clause-rest g c =
    let xs = c.args.items.now.items in
    let moved = c.move_up.new.items in
    let dead = c.args.dead in
    let whole : take c.args.items.now.len (moved ++ drop (length moved) xs) ≡ moved =
    take_at moved (drop (length moved) xs) c.args.items.now.len (c.move_up.ensures.length ∙ c.as_mut_slice.ensures.len) in
    c.settled.ensures.behind
    ∙ (ap (drop (dead + (c.args.to - c.args.from))) whole
    ∙ (c.move_up.ensures.behind ∙ ap (λ all. take c.args.from (drop dead all) ++ drop c.args.to (drop dead all)) c.as_mut_slice.ensures.value))

pub returns-else-from-len-clause-rest : goal.returns-else-from-len-clause-rest
returns-else-from-len-clause-rest g c =
    let xs = c.args.items.now.items in
    let dead = c.args.dead in
    let made : c.move_down.new.items.items ≡ take (dead + c.args.from) xs ++ drop (dead + c.args.to) xs = c.move_down.ensures in
    let long : dead + c.args.from ≤ length xs = omega arith in
    c.settled-else-from-len.ensures.behind ∙ (ap (drop dead) made ∙ cut_behind xs dead c.args.from c.args.to long)
