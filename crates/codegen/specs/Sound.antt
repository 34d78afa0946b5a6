-- What is still to be written agrees with the names and the flows that are there, as the parts of a well-formed program do: so it is
-- written, unless memory runs out.
use Rattle.std.specs.Prelude.{◌≡◌, ℕ, ◌<◌, ◌++◌, Bool, true, false, List, [], ◌∷◌, length, map, Option, Some, None, slice_get, Result, MatchResult}
use Rattle.pl_types.specs.declared.ty.Ty.{Ty}
use Rattle.pl_types.specs.declared.conversion.Cast.{Cast}
use Rattle.pl_types.specs.declared.conversion.Cast.TheVariants as cast
use Rattle.source_meaning.specs.Tree.{Name, Maybe, Missing, Given, Stmts, Finish, Then, Declare, NoCatch, Catch, Variable, Program, type_of}
use Rattle.program_typing.specs.Types.{HasValues}
use Rattle.program_typing.specs.Types as types
use Rattle.allowlist.specs.Allow.{AllowList}
use Rattle.allowlist.specs.declared.member.MemberKind.TheVariants as kind
use Rattle.member_names.specs.Names.{has_form}
use Rattle.listing_parts.specs.Names.{is_word}
use Rattle.source_meaning.specs.Types.{element_of}
use Rattle.typed_tree.specs.declared.operation.Operator.{Operator}
use Rattle.typed_tree.specs.declared.operation.Operator.TheVariants as operator
use Rattle.typed_tree.specs.declared.operation.Operation.{Operation}
use Rattle.typed_tree.specs.declared.operation.Operation.TheVariants as operation
use Rattle.program_typing.specs.Agreeing.{Known, known, IsVariable, ExprAgrees, ExprsAgree, TestAgrees, UpdateAgrees, StmtAgrees, StmtsAgree, CatchesAgree}
use Rattle.compiler_relation.specs.Representation.{Representation, representation_of}
use Rattle.compiler_relation.specs.Stands.{Entry, representations}
use Rattle.codegen.specs.Checks.{denoted}
use Rattle.codegen.specs.Worklist.{Item, Value, Values, Put, Convert, Operate, Write, Call, Jump, Bind, Load, Store, One, Run, Declared, Close, Flows, Both, Either, Skip, Update, Test, Last, Turned, Tried, Caught, Over, End, Wanted, Wants, lowest, scope_in, flow_of, flow_in, flow_caught, both, either, on, on_top, on_two}
use Rattle.codegen.specs.declared.work_item.Exits.{Exits}
use Rattle.codegen.specs.declared.config.Config.{Config}
use Rattle.codegen.specs.declared.config.Flow.{Flow}
use Rattle.codegen.specs.declared.error.CodeError.{CodeError}
use Rattle.codegen.specs.declared.error.CodeError.TheVariants.{NoMemory}

-- ---- names and their types

-- a name in scope, without its local
abbrev pub variable : Entry → Variable
variable y = record { name = y.name; of = y.of }

abbrev pub names_in : Config → List Variable
names_in c = map variable (scope_in c)

-- a name in sight, whose values are represented so
pub record IsNamed (g : List Variable) (x : Name) (representation : Representation) : Type 0 where
  pub of : Ty
  pub is : IsVariable g x of
  pub represented_so : representation ≡ representation_of of

-- what a variable of a type begins with is represented as its values are
abbrev pub BeginRepresented : Maybe → Ty → Type 0
BeginRepresented Missing of = Unit {0}
BeginRepresented (Given a) of = representation_of (type_of a) ≡ representation_of of

-- no parts that begin with one that is represented so are wanted
pub record Refuses (before : Wanted) (one : Representation) : Type 0 where
  pub by : (ks : List Representation) → Wants before (one ∷ ks) → ⊥

-- the names in sight behind some statements
abbrev pub names_behind : List Variable → Stmts → List Variable
names_behind g Finish = g
names_behind g (Then t rest) = names_behind g rest
names_behind g (Declare x of value rest) = names_behind (record { name = x; of = of } ∷ g) rest

-- ---- what is still to be written

-- a cast that is done when the script runs is to a type that code may name
abbrev pub Names : Cast → Ty → Type 0
Names cast.Implicit to = types.IsNamed to
Names cast.Explicit to = types.IsNamed to
Names other to = Unit {0}

-- an operator of a node of a type asks for a type that code may name
abbrev pub SpellsOperator : Operator → Ty → Type 0
SpellsOperator operator.NewArray of = types.IsNamed of
SpellsOperator operator.ArrayOf of = types.IsNamed (element_of of)
SpellsOperator operator.Element of = types.IsNamed of
SpellsOperator operator.PutElement of = types.IsNamed of
SpellsOperator other of = Unit {0}

-- what the instructions of an operation name has the form of a name
abbrev pub Spells : Operation → Ty → Type 0
Spells (operation.Operator o) of = SpellsOperator o of
Spells (operation.Cast c) of = Names c of
Spells (operation.InstanceOf is) of = types.IsNamed is
Spells (operation.Instance m) of = has_form kind.Instance m.text ≡ true
Spells (operation.Static m) of = has_form kind.Static m.text ≡ true
Spells (operation.Constructor m) of = has_form kind.Constructor m.text ≡ true
Spells (operation.Field m) of = has_form kind.Field m.text ≡ true
Spells (operation.DefCall name) of = is_word name ≡ true
Spells other of = Unit {0}

abbrev pub SpellsWrite : Operation → Ty → Type 0
SpellsWrite (operation.Operator operator.PutElement) of = types.IsNamed of
SpellsWrite (operation.Instance m) of = has_form kind.Instance m.text ≡ true
SpellsWrite other of = Unit {0}

-- there is a loop to leave
abbrev pub is_looped : Option Exits → Bool
is_looped None = false
is_looped (Some exits) = true

-- What is still to be written of a function that gives a value of this type agrees with the names in sight and with the flows.
module _ (funs : Known) (result : Ty) where
  abbrev pub Agree : List Item → List Variable → List Flow → Type 0
  Agree [] g flows = Unit {0}
  Agree (Value e ∷ todo) g flows = ExprAgrees funs g e × Agree todo g flows
  Agree (Values es wanted ∷ todo) g flows = (ExprsAgree funs g es × Wants wanted (representations es)) × Agree todo g flows
  Agree (Put is ∷ todo) g flows = Agree todo g flows
  Agree (Convert by to ∷ todo) g flows = Names by to × Agree todo g flows
  Agree (Operate does of count ∷ todo) g flows = Spells does of × Agree todo g flows
  Agree (Write does of ∷ todo) g flows = SpellsWrite does of × Agree todo g flows
  Agree (Call kind text ∷ todo) g flows = (has_form kind text ≡ true) × Agree todo g flows
  Agree (Jump kind label ∷ todo) g flows = Agree todo g flows
  Agree (Bind label ∷ todo) g flows = Agree todo g flows
  Agree (Load x representation ∷ todo) g flows = IsNamed g x representation × Agree todo g flows
  Agree (Store x representation ∷ todo) g flows = IsNamed g x representation × Agree todo g flows
  Agree (One t exits ∷ todo) g flows = StmtAgrees funs result (is_looped exits) g t × Agree todo g (flow_in t ∷ flows)
  Agree (Run body exits ∷ todo) g flows = StmtsAgree funs result (is_looped exits) g body × Agree todo (names_behind g body) (flow_of body ∷ flows)
  Agree (Declared x of ∷ todo) g flows = HasValues of × Agree todo (record { name = x; of = of } ∷ g) flows
  Agree (Close height ∷ todo) g flows = Agree todo (lowest height g) flows
  Agree (Flows x ∷ todo) g flows = Agree todo g (x ∷ flows)
  Agree (Both ∷ todo) g flows = on_two flows (λ x y flows. Agree todo g (both x y ∷ flows))
  Agree (Either ∷ todo) g flows = on_two flows (λ x y flows. Agree todo g (either x y ∷ flows))
  Agree (Skip label ∷ todo) g flows = on_top flows (λ x flows. Agree todo g (x ∷ flows))
  Agree (Update update ∷ todo) g flows = UpdateAgrees funs g update × on_top flows (λ x flows. Agree todo g (x ∷ flows))
  Agree (Test test ∷ todo) g flows = TestAgrees funs g test × Agree todo g flows
  Agree (Last test label ∷ todo) g flows = TestAgrees funs g test × on_top flows (λ x flows. Agree todo g (x ∷ flows))
  Agree (Turned ∷ todo) g flows = on_top flows (λ x flows. Agree todo g (on ∷ flows))
  Agree (Tried catches from label exits ∷ todo) g flows = CatchesAgree funs result (is_looped exits) g catches × Agree todo g (flow_caught catches ∷ flows)
  Agree (Caught catches from to label exits ∷ todo) g flows = CatchesAgree funs result (is_looped exits) g catches × Agree todo g (flow_caught catches ∷ flows)
  Agree (Over NoCatch label ∷ todo) g flows = Agree todo g flows
  Agree (Over (Catch class x body rest) label ∷ todo) g flows = on_top flows (λ x flows. Agree todo g (x ∷ flows))
  Agree (End of ∷ todo) g flows = on_top flows (λ x flows. Agree todo g (x ∷ flows))

-- ---- labels that are still to be bound

abbrev pub bind_of : Item → List ℕ
bind_of (Bind label) = label ∷ []
bind_of other = []

abbrev pub binds : List Item → List ℕ
binds [] = []
binds (item_of ∷ todo) = bind_of item_of ++ binds todo

-- They are below a limit and fall from each to the next, and none has a line yet.
abbrev pub AreFree : List (Option ℕ) → ℕ → List ℕ → Type 0
AreFree labels limit [] = Unit {0}
AreFree labels limit (label ∷ more) = (label < limit) × (slice_get labels label ≡ Some None) × AreFree labels label more

-- ---- steps

-- What is still to be written of a function of a well-formed program, behind what is written.
pub record Sound (funs : Known) (todo : List Item) (c : Config) : Type 0 where
  pub result : Ty
  pub representation : denoted c.result ≡ representation_of result
  pub agree : Agree funs result todo (names_in c) c.flows
  pub free : AreFree c.labels (length c.labels) (binds todo)

-- A step leaves what is still to be written so, whatever members are allowed, unless memory runs out.
pub record Keeps (funs : Program) (todo : List Item) (c : Config) (result : Result Unit CodeError) (todo' : List Item) (c' : Config) : Type 0 where
  pub by : (allow : AllowList) → Sound (known allow funs) todo c → MatchResult result (λ done. Sound (known allow funs) todo' c') (λ e. e ≡ NoMemory)
