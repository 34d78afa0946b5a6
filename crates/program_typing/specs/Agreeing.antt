-- Programs whose parts agree: each name that is read or written is in sight, each part has the type that its node asks for, and each
-- jump is in a loop. What is not built agrees with nothing.
use Rattle.std.specs.Prelude.{◌≡◌, ℕ, Bool, true, false, List, [], ◌∷◌, ◌++◌, map, Option, Some, None, slice_get, if◌then◌else◌}
use Rattle.std.specs.Str.{bytes_eq}
use Rattle.pl_types.specs.declared.primitive.Primitive.TheVariants as prim
use Rattle.pl_types.specs.declared.ty.Ty.{Ty}
use Rattle.pl_types.specs.declared.ty.Ty.TheVariants as t
use Rattle.pl_types.specs.declared.conversion.Cast.{Cast}
use Rattle.pl_types.specs.declared.conversion.Cast.TheVariants as cast
use Rattle.pl_types.specs.declared.ty.Ty.{out-Ty}
use Rattle.pl_types.specs.declared.ty.Ty.TheOpen.{Ty-F}
use Rattle.allowlist.specs.declared.member.MemberKind.{MemberKind}
use Rattle.allowlist.specs.declared.member.MemberKind.TheVariants as kind
use Rattle.allowlist.specs.declared.member.MemberType.{MemberType}
use Rattle.allowlist.specs.Allow.{AllowList, flag, members_in}
use Rattle.source_meaning.specs.MemberCallsMembers.{is_built}
use Rattle.member_names.specs.ListingPartsNames.{is_word}
use Rattle.member_names.specs.Names.{text_of}
use Rattle.typed_tree.specs.declared.operation.Member.{Member}
use Rattle.typed_tree.specs.declared.operation.Operation.{Operation}
use Rattle.typed_tree.specs.declared.operation.Operation.TheVariants as operation
use Rattle.typed_tree.specs.declared.operation.Target.TheVariants as target
use Rattle.typed_tree.specs.declared.operation.Change.{Change}
use Rattle.object_values.specs.declared.object.Owner.{Owner}
use Rattle.object_values.specs.declared.object.Owner.TheVariants.{Script, Prelude}
use Rattle.source_meaning.specs.World.{Limits, allowed_in}
use Rattle.source_meaning.specs.Tree.{Name, Expr, Literal, Quoted, Local, Apply, Guarded, Logic, Conditional, Elvis, Assign, Modify, Lambda, Reference, NewReference, Exprs, None', One, Maybe, Missing, Given, Stmt, Do, If, While, DoWhile, Try, Block, Break, Continue, Return, Throw, Stmts, Finish, Then, Declare, Catches, NoCatch, Catch, Variable, Fun, Program, Programs, functions_in, type_of}
use Rattle.program_typing.specs.Types.{HasValues, IsReference, AreReferences, IsNamed, IsGiven, string, IsOf, Takes, TakesReference, TakesReferences, TakesTo, PutsElement, Casts}

-- the names in sight, the newest first
abbrev pub Scope : Type 0
Scope = List Variable

abbrev pub variable_of : Scope → Name → Option Variable
variable_of [] x = None
variable_of (y ∷ ys) x = if bytes_eq x y.name then Some y else variable_of ys x

-- a name is in sight, and of a type
pub record IsVariable (g : Scope) (x : Name) (of : Ty) : Type 0 where
  pub variable : Variable
  pub is : variable_of g x ≡ Some variable
  pub has : of ≡ variable.of

abbrev pub boolean : Ty
boolean = t.Prim prim.Boolean

abbrev pub types_of : Exprs → List Ty
types_of None' = []
types_of (One a others) = type_of a ∷ types_of others

abbrev pub types_in : List Variable → List Ty
types_in xs = map (λ (x : Variable). x.of) xs

-- a program, and the members that it may call
pub record Known : Type 0 where
  pub functions : Program
  pub allowed : AllowList

abbrev pub known : AllowList → Program → Known
known allow functions = record { functions = functions; allowed = allow }

-- the function of this number takes these types and gives that one
pub record Calls (funs : Known) (number : ℕ) (ofs : List Ty) (of : Ty) : Type 0 where
  pub fun : Fun
  pub is : slice_get funs.functions number ≡ Some fun
  pub takes : ofs ≡ types_in fun.params
  pub gives : of ≡ fun.result

abbrev pub is_primitive_layer : Ty-F Ty → Bool
is_primitive_layer (Ty-F.Prim p) = true
is_primitive_layer other = false

abbrev pub is_primitive : Ty → Bool
is_primitive of = is_primitive_layer (out-Ty of)

-- the types that a member takes: the receiver's comes first, and is any reference
abbrev pub TakesTypes : MemberKind → List Ty → List Ty → Type 0
TakesTypes kind.Instance params [] = ⊥
TakesTypes kind.Instance params (of ∷ ofs) = IsReference of × (ofs ≡ params)
TakesTypes other params ofs = ofs ≡ params

-- the receiver's type is the class that has the member, or the table keeps its values at that class
abbrev pub ReceiverIsOf : MemberKind → ℕ → List Ty → Type 0
ReceiverIsOf kind.Instance owner (from ∷ ofs) = IsGiven cast.Keep from (t.Class owner)
ReceiverIsOf other owner ofs = Unit {0}

-- A call names a member: it is the list's of this number and kind, built and allowed, the text is its own, it takes and gives these
-- types, and its receiver is of the class that has it.
pub record MemberAgrees (funs : Known) (kind : MemberKind) (m : Member) (ofs : List Ty) (of : Ty) : Type 0 where
  pub member : MemberType
  pub is : slice_get (members_in funs.allowed) m.number ≡ Some member
  pub sort : member.kind ≡ kind
  pub text : m.text ≡ text_of member
  pub built : is_built m.number ≡ true
  pub allowed : flag funs.allowed.members m.number ≡ true
  pub takes : TakesTypes kind member.params ofs
  pub receiver : ReceiverIsOf kind member.owner ofs
  pub gives : of ≡ member.result

-- a call whose member is found when the script runs: of a reference, with references. Code names the member by a word.
abbrev pub FindsMethod : List Ty → Type 0
FindsMethod [] = ⊥
FindsMethod (receiver ∷ ofs) = IsReference receiver × AreReferences ofs

abbrev pub Applies : Known → Operation → List Ty → Ty → Type 0
Applies funs (operation.Operator o) ofs of = TakesTo o ofs of
Applies funs (operation.Cast c) (from ∷ []) of = Casts c from of
Applies funs (operation.InstanceOf is) (from ∷ []) of = IsReference from × IsNamed is × (of ≡ boolean)
Applies funs (operation.Function number) ofs of = Calls funs number ofs of
Applies funs (operation.Instance m) ofs of = MemberAgrees funs kind.Instance m ofs of
Applies funs (operation.Static m) ofs of = MemberAgrees funs kind.Static m ofs of
Applies funs (operation.Constructor m) ofs of = MemberAgrees funs kind.Constructor m ofs of
Applies funs (operation.Field m) ofs of = MemberAgrees funs kind.Field m ofs of
Applies funs (operation.DefCall name) ofs of = FindsMethod ofs × (of ≡ t.Def) × (is_word name ≡ true)
Applies funs (operation.DefName name) ofs of = TakesReference ofs × (of ≡ t.Def)
Applies funs operation.DefIndex ofs of = TakesReferences ofs × (of ≡ t.Def)
Applies funs other ofs of = ⊥

-- a cast that does not ask for a type when the script runs
abbrev pub IsKnownBefore : Cast → Type 0
IsKnownBefore cast.Implicit = ⊥
IsKnownBefore cast.Explicit = ⊥
IsKnownBefore other = Unit {0}

-- what is read of a target is cast, changed by a right side, and cast back
pub record Changes (change : Change) (of right : Ty) : Type 0 where
  pub left : Ty
  pub result : Ty
  pub known : IsKnownBefore change.before
  pub before : Casts change.before of left
  pub does : Takes change.operator (left ∷ right ∷ []) result
  pub after : Casts change.after result of

-- what a null receiver may leave out
abbrev pub IsGuarded : Operation → Type 0
IsGuarded (operation.Instance m) = Unit {0}
IsGuarded (operation.DefCall name) = Unit {0}
IsGuarded (operation.DefName name) = Unit {0}
IsGuarded other = ⊥

-- a call that a null receiver leaves out gives no number
pub record Guards (funs : Known) (o : Operation) (ofs : List Ty) (of : Ty) : Type 0 where
  pub sort : IsGuarded o
  pub agrees : Applies funs o ofs of
  pub whole : is_primitive of ≡ false

-- ---- places, which one operation reads and another writes

-- a member that writes a place takes the place's parts and the value; what it gives is dropped
pub record Sets (funs : Known) (m : Member) (ofs : List Ty) (of : Ty) : Type 0 where
  pub given : Ty
  pub agrees : MemberAgrees funs kind.Instance m (ofs ++ of ∷ []) given

-- an operation writes a value of a type at a place whose parts are of these types
abbrev pub Writes : Known → Operation → List Ty → Ty → Type 0
Writes funs (operation.Operator o) ofs of = PutsElement o ofs of
Writes funs (operation.Instance m) ofs of = Sets funs m ofs of
Writes funs (operation.PutDefName name) ofs of = TakesReference ofs × IsReference of
Writes funs operation.PutDefIndex ofs of = TakesReferences ofs × IsReference of
Writes funs other ofs of = ⊥

abbrev pub Reads : Known → Option Operation → List Ty → Ty → Type 0
Reads funs None ofs of = ⊥
Reads funs (Some read) ofs of = Applies funs read ofs of

-- a place has one part or two
abbrev pub IsPlace : List Ty → Type 0
IsPlace (a ∷ []) = Unit {0}
IsPlace (a ∷ b ∷ []) = Unit {0}
IsPlace others = ⊥

abbrev mutual
  pub ExprAgrees : Known → Scope → Expr → Type 0
  ExprAgrees funs g (Literal at of c) = IsOf c of
  ExprAgrees funs g (Quoted at of text) = of ≡ string
  ExprAgrees funs g (Local at of x) = IsVariable g x of
  ExprAgrees funs g (Apply at of o parts) = ExprsAgree funs g parts × Applies funs o (types_of parts) of
  ExprAgrees funs g (Guarded at of o None') = ⊥
  ExprAgrees funs g (Guarded at of o (One a others)) = ExprAgrees funs g a × ExprsAgree funs g others × Guards funs o (type_of a ∷ types_of others) of
  ExprAgrees funs g (Logic at of o left right) =
      ExprAgrees funs g left × ExprAgrees funs g right × (type_of left ≡ boolean) × (type_of right ≡ boolean) × (of ≡ boolean)
  ExprAgrees funs g (Conditional at of c a b) =
      ExprAgrees funs g c × ExprAgrees funs g a × ExprAgrees funs g b × (type_of c ≡ boolean) × (type_of a ≡ of) × (type_of b ≡ of)
  ExprAgrees funs g (Elvis at of left right) = ExprAgrees funs g left × ExprAgrees funs g right × (type_of left ≡ of) × (type_of right ≡ of) × IsReference of
  ExprAgrees funs g (Assign at of (target.Local x) parts value) = ExprAgrees funs g value × IsVariable g x of × (type_of value ≡ of)
  ExprAgrees funs g (Assign at of (target.Place read write) parts value) =
      ExprsAgree funs g parts × ExprAgrees funs g value × (type_of value ≡ of) × IsPlace (types_of parts) × Writes funs write (types_of parts) of
  ExprAgrees funs g (Modify at of (target.Local x) parts change right gives) = ExprAgrees funs g right × IsVariable g x of × Changes change of (type_of right)
  ExprAgrees funs g (Modify at of (target.Place read write) parts change right gives) =
      ExprsAgree funs g parts × ExprAgrees funs g right × Changes change of (type_of right) × IsPlace (types_of parts) × Reads funs read (types_of parts) of × Writes funs write (types_of parts) of
  ExprAgrees funs g (Lambda at of interface function) = ⊥
  ExprAgrees funs g (Reference at of interface class name) = ⊥
  ExprAgrees funs g (NewReference at of interface made) = ⊥

  pub ExprsAgree : Known → Scope → Exprs → Type 0
  ExprsAgree funs g None' = Unit {0}
  ExprsAgree funs g (One a others) = ExprAgrees funs g a × ExprsAgree funs g others

-- a test, where there is one
abbrev pub TestAgrees : Known → Scope → Maybe → Type 0
TestAgrees funs g Missing = Unit {0}
TestAgrees funs g (Given a) = ExprAgrees funs g a × (type_of a ≡ boolean)

-- what is done behind a turn
abbrev pub UpdateAgrees : Known → Scope → Maybe → Type 0
UpdateAgrees funs g Missing = Unit {0}
UpdateAgrees funs g (Given a) = ExprAgrees funs g a

-- what a variable of a type begins with
abbrev pub BeginAgrees : Known → Scope → Maybe → Ty → Type 0
BeginAgrees funs g Missing of = Unit {0}
BeginAgrees funs g (Given a) of = ExprAgrees funs g a × (type_of a ≡ of)

-- what is returned; a `return` without a value stands where none is wanted
abbrev pub ReturnAgrees : Known → Scope → Maybe → Ty → Type 0
ReturnAgrees funs g Missing of = of ≡ t.Void
ReturnAgrees funs g (Given a) of = ExprAgrees funs g a × (type_of a ≡ of)

-- Statements of a function that gives a value of a type, in a loop or not.
abbrev mutual
  pub StmtAgrees : Known → Ty → Bool → Scope → Stmt → Type 0
  StmtAgrees funs of looped g (Do a) = ExprAgrees funs g a
  StmtAgrees funs of looped g (If c a b) = ExprAgrees funs g c × (type_of c ≡ boolean) × StmtsAgree funs of looped g a × StmtsAgree funs of looped g b
  StmtAgrees funs of looped g (While test update body) = TestAgrees funs g test × UpdateAgrees funs g update × StmtsAgree funs of true g body
  StmtAgrees funs of looped g (DoWhile body test) = StmtsAgree funs of true g body × TestAgrees funs g test
  StmtAgrees funs of looped g (Try body catches) = StmtsAgree funs of looped g body × CatchesAgree funs of looped g catches
  StmtAgrees funs of looped g (Block body) = StmtsAgree funs of looped g body
  StmtAgrees funs of looped g Break = looped ≡ true
  StmtAgrees funs of looped g Continue = looped ≡ true
  StmtAgrees funs of looped g (Return value) = ReturnAgrees funs g value of
  StmtAgrees funs of looped g (Throw value) = ExprAgrees funs g value × IsReference (type_of value)

  pub StmtsAgree : Known → Ty → Bool → Scope → Stmts → Type 0
  StmtsAgree funs of looped g Finish = Unit {0}
  StmtsAgree funs of looped g (Then t rest) = StmtAgrees funs of looped g t × StmtsAgree funs of looped g rest
  StmtsAgree funs of looped g (Declare x at value rest) =
      BeginAgrees funs g value at × HasValues at × StmtsAgree funs of looped (record { name = x; of = at } ∷ g) rest

  -- a catch is of a class that code may name, and its name is in sight in its block
  pub CatchesAgree : Known → Ty → Bool → Scope → Catches → Type 0
  CatchesAgree funs of looped g NoCatch = Unit {0}
  CatchesAgree funs of looped g (Catch class x body rest) =
      IsNamed (t.Class class) × StmtsAgree funs of looped (record { name = x; of = t.Class class } ∷ g) body × CatchesAgree funs of looped g rest

-- the parameters' scope, the last of them the newest
abbrev pub scope_of : List Variable → Scope → Scope
scope_of [] g = g
scope_of (x ∷ xs) g = scope_of xs (x ∷ g)

abbrev pub HaveValues : List Variable → Type 0
HaveValues [] = Unit {0}
HaveValues (x ∷ xs) = HasValues x.of × HaveValues xs

pub record FunAgrees (funs : Known) (fun : Fun) : Type 0 where
  pub present : HaveValues fun.params
  pub body : StmtsAgree funs fun.result false (scope_of fun.params []) fun.body

-- a well-formed program: each function's parts agree
pub record WellFormed (funs : Known) : Type 0 where
  pub each : (number : ℕ) (fun : Fun) → slice_get funs.functions number ≡ Some fun → FunAgrees funs fun

-- the program of a text of a run, and the members that it may call
abbrev pub known_in : Programs → Limits → Owner → Known
known_in funs limits text = known (allowed_in limits text) (functions_in funs text)

-- the programs of both texts are well formed, each under its own list
pub record AreWellFormed (funs : Programs) (limits : Limits) : Type 0 where
  pub script : WellFormed (known_in funs limits Script)
  pub prelude : WellFormed (known_in funs limits Prelude)
