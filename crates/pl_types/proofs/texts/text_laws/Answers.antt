use Rattle.pl_types.proofs.TypeTexts.{read_back, spelled}
use Rattle.pl_types.proofs.texts.text_laws.Goals as goal

pub returns-clause-read_back : goal.returns-clause-read_back
returns-clause-read_back c = read_back

pub returns-clause-spelled : goal.returns-clause-spelled
returns-clause-spelled c = spelled
