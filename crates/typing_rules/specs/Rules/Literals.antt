-- Literals.
use Rattle.std.specs.Prelude.{ℕ, ◌==◌, true, false, ◌^◌, List, [], ◌∷◌, nat_lt, nat_le, ℤ, pos, neg_ℤ, Option, Some, None, option_map, unwrap_or, Ok, if◌then◌else◌}
use Rattle.pl_types.specs.declared.classes.TheConstants.{STRING}
use Rattle.pl_types.specs.declared.ty.Ty.TheVariants as t
use Rattle.pl_types.specs.declared.primitive.Primitive.TheVariants.{Int, Long}
use Rattle.pl_types.specs.declared.rules.TheConstants.{LITERAL_RANGE}
use Rattle.pl_tree.specs.declared.operator.Constant as tree
use Rattle.pl_tree.specs.declared.operator.Constant.TheVariants as c
use Rattle.typed_tree.specs.declared.typed.Node.TheVariants as n
use Rattle.typed_tree.specs.declared.operation.Constant.TheVariants as k
use Rattle.typing_rules.specs.declared.part.Part.{Part}
use Rattle.typing_rules.specs.declared.part.Form.TheVariants as f
use Rattle.typing_rules.specs.Outcomes.{Out, refuse}
use Rattle.typing_rules.specs.Rules.Digits.{is_long, magnitude, unmarked}
use Rattle.typing_rules.specs.Rules.Nodes.{boolean, typed, part}

abbrev pub int_literal : ℕ → ℤ → Part
int_literal at value = part at (f.Number value) (typed at (t.Prim Int) (n.Constant (k.Int value)))

abbrev pub long_literal : ℕ → ℤ → Part
long_literal at value = part at f.Literal (typed at (t.Prim Long) (n.Constant (k.Long value)))

-- an int is below 2^31, a long below 2^63
abbrev pub integer : ℕ → List ℕ → Out Part
integer at spelling =
    if is_long spelling
    then (if nat_lt (magnitude (unmarked spelling)) (2 ^ 63) then Ok (long_literal at (pos (magnitude (unmarked spelling)))) else refuse LITERAL_RANGE at)
    else (if nat_lt (magnitude spelling) (2 ^ 31) then Ok (int_literal at (pos (magnitude spelling))) else refuse LITERAL_RANGE at)

-- One directly behind a minus, which stands at `minus`: the least int and the least long are there too.
abbrev pub negated_integer : ℕ → ℕ → List ℕ → Out Part
negated_integer minus at spelling =
    if is_long spelling
    then (if nat_le (magnitude (unmarked spelling)) (2 ^ 63) then Ok (long_literal minus (neg_ℤ (pos (magnitude (unmarked spelling))))) else refuse LITERAL_RANGE at)
    else (if nat_le (magnitude spelling) (2 ^ 31) then Ok (int_literal minus (neg_ℤ (pos (magnitude spelling)))) else refuse LITERAL_RANGE at)

abbrev pub constant : ℕ → tree.Constant → Out Part
constant at c.True = Ok (part at f.True (typed at boolean (n.Constant (k.Boolean true))))
constant at c.False = Ok (part at f.Literal (typed at boolean (n.Constant (k.Boolean false))))
constant at c.Null = Ok (part at f.Literal (typed at t.Null (n.Constant k.Null)))

-- what stands in a text: a backslash stands for nothing, and the byte behind it, another or the quote, for itself
abbrev pub unescaped : List ℕ → List ℕ
unescaped [] = []
unescaped (b ∷ []) = b ∷ []
unescaped (b ∷ c ∷ rest) = if b == 92 then c ∷ unescaped rest else b ∷ unescaped (c ∷ rest)

-- what stands before a byte, where that is the last
abbrev pub before_last : ℕ → List ℕ → Option (List ℕ)
before_last quote [] = None
before_last quote (b ∷ []) = if b == quote then Some [] else None
before_last quote (b ∷ c ∷ rest) = option_map (λ (text : List ℕ). b ∷ text) (before_last quote (c ∷ rest))

-- what stands between two of a byte, where one stands at each end
abbrev pub between : ℕ → List ℕ → Option (List ℕ)
between quote [] = None
between quote (b ∷ rest) = if b == quote then before_last quote rest else None

-- a text as it is written, without its quotes, which are `"` or `'`; one that has none, as no script has it, stands for itself
abbrev pub unquoted : List ℕ → List ℕ
unquoted spelling = unwrap_or (between 34 spelling) (unwrap_or (between 39 spelling) spelling)

abbrev pub text : ℕ → List ℕ → Out Part
text at spelling = Ok (part at f.Literal (typed at (t.Class STRING) (n.Text (unescaped (unquoted spelling)))))
