-- What is known while a body is typed.
use Rattle.std.specs.Prelude.{ℕ, List, [], ◌∷◌, ◌++◌, take, Option, Some, None, Ok}
use Rattle.pl_types.specs.declared.ty.Ty.{Ty}
use Rattle.pl_types.specs.declared.rules.TheConstants.{ALREADY_DEFINED}
use Rattle.typing_rules.specs.declared.scopes.Entry.{Entry}
use Rattle.typing_rules.specs.declared.scopes.Standing.TheVariants.{Variable}
use Rattle.typing_rules.specs.declared.state.State.{State}
use Rattle.typing_rules.specs.Outcomes.{Out, refuse}
use Rattle.typing_rules.specs.Scopes.{find}

-- names declared since there were so many are forgotten
abbrev pub closed : ℕ → State → State
closed height s = record s { scopes = take height s.scopes }

abbrev pub variable : List ℕ → Ty → Entry
variable name of = record { name = name; of = of; standing = Variable }

abbrev pub declared_if : Option ℕ → ℕ → List ℕ → Ty → State → Out State
declared_if (Some _) at name of s = refuse ALREADY_DEFINED at
declared_if None at name of s = Ok (record s { scopes = s.scopes ++ variable name of ∷ [] })

-- a name is not declared again while it is in sight
abbrev pub declared : ℕ → List ℕ → Ty → State → Out State
declared at name of s = declared_if (find name s.scopes) at name of s
