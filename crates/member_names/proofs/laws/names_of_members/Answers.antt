use Rattle.member_names.proofs.Naming.{texts_name, texts_have_forms}
use Rattle.member_names.proofs.laws.names_of_members.Goals as goal

pub returns-clause-names : goal.returns-clause-names
returns-clause-names c = texts_name

pub returns-clause-forms : goal.returns-clause-forms
returns-clause-forms c = texts_have_forms
