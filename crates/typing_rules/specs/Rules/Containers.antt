-- Lists, maps and arrays that scripts write.
use Rattle.std.specs.Prelude.{ℕ, ◌==◌, List, length, Ok, if◌then◌else◌}
use Rattle.pl_types.specs.declared.classes.TheConstants.{ARRAY_LIST, HASH_MAP}
use Rattle.pl_types.specs.declared.primitive.Primitive.TheVariants as p
use Rattle.pl_types.specs.declared.ty.Ty.{Ty}
use Rattle.pl_types.specs.declared.ty.Ty.TheVariants as t
use Rattle.typed_tree.specs.declared.operation.Operation.TheVariants as o
use Rattle.typed_tree.specs.declared.operation.Operator.{Operator}
use Rattle.typed_tree.specs.declared.operation.Operator.TheVariants as operator
use Rattle.typing_rules.specs.declared.part.Form.{Form}
use Rattle.typing_rules.specs.declared.part.Form.TheVariants as f
use Rattle.typing_rules.specs.declared.part.Part.{Part}
use Rattle.pl_types.specs.declared.rules.TheConstants.{OUT_OF_PROFILE}
use Rattle.typing_rules.specs.Outcomes.{Out, refuse, bind}
use Rattle.typing_rules.specs.Rules.Casts.{cast_each}
use Rattle.typing_rules.specs.Rules.Nodes.{applied, part}
use Rattle.typing_rules.specs.Rules.Types.{arrays}

-- parts that are all cast to one type, and what is made of them
abbrev pub made : Form → ℕ → Operator → Ty → Ty → List Part → Out Part
made form at operator of to xs = bind (cast_each to xs) (λ ys. Ok (part at form (applied at of (o.Operator operator) ys)))

-- `[a, b]`
abbrev pub list_of : ℕ → List Part → Out Part
list_of at xs = made f.Literal at operator.List (t.Class ARRAY_LIST) t.Def xs

-- `[k: v, l: w]`, of the keys and values by turns
abbrev pub map_of : ℕ → List Part → Out Part
map_of at xs = made f.Literal at operator.Map (t.Class HASH_MAP) t.Def xs

-- `new T[n][m]`, of the sizes, of which a script has one at least
abbrev pub array_of : ℕ → Ty → List Part → Out Part
array_of at of xs = if length xs == 0 then refuse OUT_OF_PROFILE at else made f.Deed at operator.NewArray (arrays (length xs) of) (t.Prim p.Int) xs

-- `new T[] {a, b}`
abbrev pub array_with : ℕ → Ty → List Part → Out Part
array_with at of xs = made f.Deed at operator.ArrayOf (t.Array of) of xs
