use Rattle.std.proofs.lemmas.Bool.Decides.{same_from_decides}
use Rattle.pl_units.proofs.PlaceLemmas.{stands_decides}
use Rattle.pl_units.proofs.text.UText.stands_at.Goals as goal

pub returns-clause-value : goal.returns-clause-value
returns-clause-value c =
    same_from_decides _ _ (rw (← c.units.ensures, ← c.units-2.ensures) c.stands_in.ensures) (stands_decides c.args.self.now c.args.part.now c.args.place)
