-- Acts on what is known.
use Rattle.std.specs.Prelude.{ℕ, Bool, Ok}
use Rattle.pl_types.specs.declared.ty.Ty.{Ty}
use Rattle.pl_tree.specs.declared.tree.Spelled.{Spelled}
use Rattle.pl_tree.specs.declared.tree.TypeName.{TypeName}
use Rattle.typing_rules.specs.Outcomes.{Out, bind}
use Rattle.typing_rules.specs.Rules.Types.{type_of}
use Rattle.typing_rules.specs.State.{closed, declared}
use Rattle.typing_rules.specs.Typing.{alone}
use Rattle.typing_actions.specs.declared.config.Config.{Config}

-- names declared since there were so many are forgotten
abbrev pub close : ℕ → Config → Config
close height c = record c { state = closed height c.state }

-- whether a loop is around
abbrev pub looped : Bool → Config → Config
looped is c = record c { state = record c.state { looped = is } }

-- the body of a function value
abbrev pub enter : Config → Config
enter c = record c { state = alone c.state }

-- a name that a construct which is not built declares
abbrev pub declare : Spelled → Ty → Config → Out Config
declare name of c = bind (declared name.at name.spelling of c.state) (λ s. Ok (record c { state = s }))

-- the same, of a type that is written
abbrev pub declare_of : Spelled → TypeName → Config → Out Config
declare_of name of c = bind (type_of of) (λ t. declare name t c)

-- a type, which is only looked at
abbrev pub look_at : TypeName → Config → Out Config
look_at of c = bind (type_of of) (λ t. Ok c)
