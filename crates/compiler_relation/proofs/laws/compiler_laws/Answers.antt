use Rattle.std.proofs.Common.{refl}
use Rattle.source_meaning.specs.Programs.{fun_of}
use Rattle.compiler_relation.specs.Correct.{programs_of}
use Rattle.compiler_relation.proofs.Correct.{ends_alike}
use Rattle.compiler_relation.proofs.laws.compiler_laws.Goals as goal

pub returns-clause-trees : goal.returns-clause-trees
returns-clause-trees c = ends_alike c.text_laws.ensures.read_back c.names_of_members.ensures.names

pub returns-clause-programs : goal.returns-clause-programs
returns-clause-programs c = λ p prelude codes made also limits args words are w bound end comes.
    ends_alike c.text_laws.ensures.read_back c.names_of_members.ensures.names (programs_of p prelude) codes (record { script = made; prelude = also }) limits
    (fun_of p.main) refl args words are w bound end comes
