use Rattle.update_store.proofs.SerialLemmas.{all_serial}
use Rattle.update_store.proofs.laws.serial.Goals as goal

pub returns : goal.returns
returns c = all_serial
