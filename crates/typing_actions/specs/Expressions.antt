-- Acts on expressions.
use Rattle.std.specs.Prelude.{ℕ, List, Ok}
use Rattle.pl_tree.specs.declared.operator.BinaryOperator.{BinaryOperator}
use Rattle.pl_tree.specs.declared.operator.UnaryOperator.{UnaryOperator}
use Rattle.pl_tree.specs.declared.operator.Constant as tree
use Rattle.pl_tree.specs.declared.tree.TypeName.{TypeName}
use Rattle.typing_rules.specs.declared.header.Header.{Header}
use Rattle.typing_rules.specs.Outcomes.{Out, bind}
use Rattle.typing_rules.specs.Rules.Types.{type_of}
use Rattle.typing_rules.specs.Rules.Nodes as nodes
use Rattle.typing_rules.specs.Rules.Literals as literals
use Rattle.typing_rules.specs.Rules.Casts as casts
use Rattle.typing_rules.specs.Rules.Containers as containers
use Rattle.typing_rules.specs.Rules.Operators as operators
use Rattle.typing_rules.specs.Rules.Places as places
use Rattle.typing_rules.specs.Rules.Calls as calls
use Rattle.typing_actions.specs.declared.config.Config.{Config}
use Rattle.typing_actions.specs.Stacks.{one, two, three, above, put_part, with_part}

abbrev pub integer : ℕ → List ℕ → Config → Out Config
integer at spelling c = with_part c c.parts (literals.integer at spelling)

abbrev pub negated_integer : ℕ → ℕ → List ℕ → Config → Out Config
negated_integer minus at spelling c = with_part c c.parts (literals.negated_integer minus at spelling)

abbrev pub text : ℕ → List ℕ → Config → Out Config
text at spelling c = with_part c c.parts (literals.text at spelling)

abbrev pub constant : ℕ → tree.Constant → Config → Out Config
constant at of c = with_part c c.parts (literals.constant at of)

abbrev pub local : ℕ → List ℕ → Config → Out Config
local at name c = with_part c c.parts (places.local at name c.state)

abbrev pub binary : BinaryOperator → ℕ → Config → Out Config
binary operator at c = two c.parts (λ x y rest. with_part c rest (operators.binary_of operator at x y))

abbrev pub unary : UnaryOperator → ℕ → Config → Out Config
unary operator at c = one c.parts (λ x rest. with_part c rest (operators.unary_of operator at x))

abbrev pub choice : ℕ → Config → Out Config
choice at c = three c.parts (λ z x y rest. with_part c rest (operators.choice_of at z x y))

abbrev pub elvis : ℕ → Config → Out Config
elvis at c = two c.parts (λ x y rest. with_part c rest (operators.elvis_of at x y))

abbrev pub instance_of : ℕ → TypeName → Config → Out Config
instance_of at of c = one c.parts (λ x rest. with_part c rest (bind (type_of of) (λ to. operators.instance_of at x to)))

abbrev pub bracketed : ℕ → Config → Out Config
bracketed at c = one c.parts (λ x rest. Ok (put_part c rest (nodes.bracketed at x)))

-- a list, and a map, of what stands above a height
abbrev pub list : ℕ → ℕ → Config → Out Config
list at height c = above height c.parts (λ xs rest. with_part c rest (containers.list_of at xs))

abbrev pub map_ : ℕ → ℕ → Config → Out Config
map_ at height c = above height c.parts (λ xs rest. with_part c rest (containers.map_of at xs))

-- an array of a type that was looked at before, of the sizes or of the elements above a height
abbrev pub array : ℕ → TypeName → ℕ → Config → Out Config
array at of height c = above height c.parts (λ xs rest. with_part c rest (bind (type_of of) (λ t. containers.array_of at t xs)))

abbrev pub array_with : ℕ → TypeName → ℕ → Config → Out Config
array_with at of height c = above height c.parts (λ xs rest. with_part c rest (bind (type_of of) (λ t. containers.array_with at t xs)))

-- a cast that is written, to a type that was looked at before
abbrev pub asked : ℕ → TypeName → Config → Out Config
asked at of c = one c.parts (λ x rest. with_part c rest (bind (type_of of) (λ to. casts.asked at to x)))

-- a call of a function with the arguments above a height
abbrev pub call : List Header → ℕ → List ℕ → ℕ → Config → Out Config
call headers at name height c = above height c.parts (λ xs rest. with_part c rest (calls.call_of headers at name xs))
