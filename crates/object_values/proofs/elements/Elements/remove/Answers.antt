use Rattle.std.proofs.Common.{◌≡◌, ◌+◌, take, drop, ◌++◌, remove, ap, ◌∙◌}
use Rattle.std.proofs.lemmas.List.{drop-set-add}
use Rattle.object_values.proofs.Behind.{remove_written}
use Rattle.object_values.proofs.elements.Elements.remove.Goals as goal

pub returns-clause-rest : goal.returns-clause-rest
returns-clause-rest g c =
    let xs = c.self.inside.items.items in
    let dead = c.self.inside.dead in
    let at = c.args.at in
    let filler = c.replace-element.new.dest in
    let same : drop dead xs ≡ c.args.self.now = c.self.view_is in
    c.cut_run-self-inside.ensures.rest
    ∙ (ap (λ rest. take at rest ++ drop (at + 1) rest) (drop-set-add dead xs at filler)
    ∙ (remove_written (drop dead xs) filler at ∙ ap (λ rest. remove rest at) same))
