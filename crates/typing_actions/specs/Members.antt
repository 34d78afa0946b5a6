-- Acts on members.
use Rattle.std.specs.Prelude.{ℕ, List}
use Rattle.pl_tree.specs.declared.operator.Access.{Access}
use Rattle.pl_tree.specs.declared.tree.TypeName.{TypeName}
use Rattle.allowlist.specs.Allow.{AllowList}
use Rattle.typing_rules.specs.Outcomes.{Out, bind}
use Rattle.typing_rules.specs.Rules.Types.{type_of}
use Rattle.typing_rules.specs.Rules.Accesses as accesses
use Rattle.typing_rules.specs.Rules.Members as members
use Rattle.typing_actions.specs.declared.config.Config.{Config}
use Rattle.typing_actions.specs.Stacks.{one, two, above, with_part}

-- a call on a value that stands below the arguments, which stand above a height
abbrev pub method : AllowList → ℕ → Access → List ℕ → ℕ → Config → Out Config
method allow at access name height c = above height c.parts (λ xs below. one below (λ x rest. with_part c rest (members.method_of allow access at name x xs)))

-- a call on a type that was looked at before
abbrev pub static : AllowList → ℕ → Access → TypeName → List ℕ → ℕ → Config → Out Config
static allow at access of name height c = above height c.parts (λ xs rest. with_part c rest (bind (type_of of) (λ t. members.static_of allow access at name t xs)))

-- `new` of such a type
abbrev pub made : AllowList → ℕ → TypeName → ℕ → Config → Out Config
made allow at of height c = above height c.parts (λ xs rest. with_part c rest (bind (type_of of) (λ t. members.new_of allow at t xs)))

-- a name of a value
abbrev pub read : AllowList → ℕ → Access → List ℕ → Config → Out Config
read allow at access name c = one c.parts (λ x rest. with_part c rest (accesses.read_of allow access at name x))

-- an element by its number
abbrev pub numbered : AllowList → ℕ → Access → List ℕ → Config → Out Config
numbered allow at access digits c = one c.parts (λ x rest. with_part c rest (accesses.numbered_of allow access at digits x))

-- an element in brackets, whose index stands above what it is an element of
abbrev pub indexed : AllowList → ℕ → Config → Out Config
indexed allow at c = two c.parts (λ x i rest. with_part c rest (accesses.index_of allow at x i))

-- a name of a type
abbrev pub field : AllowList → ℕ → Access → TypeName → List ℕ → Config → Out Config
field allow at access of name c = with_part c c.parts (bind (type_of of) (λ t. members.field_of allow access at name t))
