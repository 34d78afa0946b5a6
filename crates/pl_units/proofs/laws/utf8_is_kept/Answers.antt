use Rattle.pl_units.proofs.Utf16Lemmas.{bytes_of_units}
use Rattle.pl_units.proofs.laws.utf8_is_kept.Goals as goal

pub returns : goal.returns
returns c = bytes_of_units c.args.text.now c.utf8.text
