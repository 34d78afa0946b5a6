use Rattle.std.proofs.Common.{rules, ◌≡◌, ◌∙◌, List, ℤ, [], ◌∷◌, ◌++◌, to_z-of_z}
use Rattle.machine.proofs.Moving.{int_moved}
use Rattle.machine.proofs.parts.ints_of.Goals as goal

pub words-preserved : goal.words-preserved
words-preserved c =
    let put : c.push.new.self ≡ c.words.numbers ++ c.in-I.number ∷ [] = search (rules, to_z-of_z) in
    (int_moved _ _ _ _ _ _ _ put c.in-I.is c.in-Some.ensures.top c.words.invariant.0, c.pop.ensures.room ∙ c.words.invariant.1)
