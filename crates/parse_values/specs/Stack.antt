-- Values on a stack, the last first.
use Rattle.std.specs.Prelude.{◌≡◌, List, [], ◌∷◌, ◌++◌, Some}
use Rattle.pl_tree.specs.declared.tree.Tree.{Tree}
use Rattle.pl_tree.specs.declared.tree.Function.{Function}
use Rattle.pl_tree.specs.declared.tree.Statement.{Statement}
use Rattle.pl_grammar.specs.Grammar.{Form, Trees, Production, symbols, built}
use Rattle.parse_values.specs.declared.value.Value.{Value}
use Rattle.parse_values.specs.declared.value.Value.TheVariants as v
use Rattle.parse_values.specs.Values.{value_of, values_of}

-- values that were put on others, one after the other
abbrev pub piled : List Value → List Value → List Value
piled [] below = below
piled (value ∷ values) below = piled values (value ∷ below)

-- the values of a production's symbols are on the top
abbrev pub AreOnTop : {form : Form} → Production form → List Value → Type 0
AreOnTop p stack = (trees : Trees (symbols p)) × (below : List Value) × (stack ≡ piled (values_of (symbols p) trees) below)

-- that of its tree comes in their place
abbrev pub Reduces : {form : Form} → Production form → List Value → List Value → Type 0
Reduces {form} p stack new = (trees : Trees (symbols p)) (below : List Value) → stack ≡ piled (values_of (symbols p) trees) below → new ≡ value_of form (built p trees) ∷ below

-- a tree is on the top, and below it those that it is to be joined to
abbrev pub IsOnSeveral : {A : Type 0} → (List A → Value) → (A → Value) → List Value → Type 0
IsOnSeveral {A} list value stack = (trees : List A) × (tree : A) × (below : List Value) × (stack ≡ value tree ∷ list trees ∷ below)

-- all of them come in their place
abbrev pub Extends : {A : Type 0} → (List A → Value) → (A → Value) → List Value → List Value → Type 0
Extends {A} list value stack new = (trees : List A) (tree : A) (below : List Value) → stack ≡ value tree ∷ list trees ∷ below → new ≡ list (trees ++ tree ∷ []) ∷ below

-- there are two values at least
abbrev pub AreTwo : List Value → Type 0
AreTwo stack = (value : Value) × (second : Value) × (below : List Value) × (stack ≡ value ∷ second ∷ below)

-- a function is on the top
abbrev pub FunctionOnTop : List Value → Type 0
FunctionOnTop stack = (one : Function) × (below : List Value) × (stack ≡ v.Function (Some one) ∷ below)

-- it comes to the end of those of a script, and the rest is left
abbrev pub TakesFunction : List Value → List Value → Tree → Tree → Type 0
TakesFunction stack left script new = (one : Function) (below : List Value) → stack ≡ v.Function (Some one) ∷ below → (left ≡ below) × (new ≡ record { functions = script.functions ++ one ∷ []; statements = script.statements })

-- a statement, and those that follow it above
abbrev pub StatementsOnTop : List Value → Type 0
StatementsOnTop stack = (one : Statement) × (others : List Statement) × (below : List Value) × (stack ≡ v.Statements (Some others) ∷ v.Statement (Some one) ∷ below)

-- they come to the end of those of a script, and the rest is left
abbrev pub TakesStatements : List Value → List Value → Tree → Tree → Type 0
TakesStatements stack left script new = (one : Statement) (others : List Statement) (below : List Value) → stack ≡ v.Statements (Some others) ∷ v.Statement (Some one) ∷ below → (left ≡ below) × (new ≡ record { functions = script.functions; statements = script.statements ++ one ∷ others })
