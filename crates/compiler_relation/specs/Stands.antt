-- How a program becomes code: which instructions stand at which lines of a function, part by part. A scope has the names in sight, the
-- newest first, each with its type and the number of its local. Lines and numbers of locals are threaded through the parts.
use Rattle.std.specs.Prelude.{◌≡◌, ◌≢◌, ℕ, suc, ◌*◌, ◌/◌, ◌++◌, ◌||◌, Bool, true, false, List, [], ◌∷◌, map, length, Option, Some, None, slice_get, pos, if◌then◌else◌}
use Rattle.std.specs.Str.{bytes_eq}
use Rattle.pl_types.specs.declared.ty.Ty.{Ty}
use Rattle.pl_types.specs.declared.ty.Ty.TheVariants as t
use Rattle.pl_types.specs.Classes.{full_name}
use Rattle.pl_code.specs.declared.kinds.Plain.TheVariants as plain
use Rattle.pl_code.specs.declared.kinds.Numbered.TheVariants as numbered
use Rattle.pl_code.specs.declared.kinds.Slot.{Slot}
use Rattle.pl_code.specs.declared.code.FunCode.{FunCode}
use Rattle.pl_code.specs.declared.code.Trap.{Trap}
use Rattle.pl_code.specs.declared.code.Instruction.{Instruction}
use Rattle.pl_code.specs.declared.code.Instruction.TheVariants as i
use Rattle.typed_tree.specs.declared.operation.Constant.{Constant}
use Rattle.typed_tree.specs.declared.operation.Constant.TheVariants as constant
use Rattle.allowlist.specs.declared.member.MemberKind.{MemberKind}
use Rattle.allowlist.specs.declared.member.MemberKind.TheVariants as kind
use Rattle.allowlist.specs.declared.member.MemberType.{MemberType}
use Rattle.allowlist.specs.Catalogue.{catalogue}
use Rattle.member_names.specs.Names.{text_of}
use Rattle.typed_tree.specs.declared.operation.Member.{Member}
use Rattle.typed_tree.specs.declared.operation.Operation.{Operation}
use Rattle.typed_tree.specs.declared.operation.Operation.TheVariants as operation
use Rattle.typed_tree.specs.declared.operation.Operator.{Operator}
use Rattle.typed_tree.specs.declared.operation.Operator.TheVariants as operator
use Rattle.arithmetic.specs.declared.operator.Op.{Op}
use Rattle.arithmetic.specs.declared.operator.Op.TheVariants as op
use Rattle.source_meaning.specs.Types.{element_of}
use Rattle.typed_tree.specs.declared.operation.Logical.{Logical}
use Rattle.typed_tree.specs.declared.operation.Logical.TheVariants.{And, Or}
use Rattle.typed_tree.specs.declared.operation.Target.TheVariants as target
use Rattle.typed_tree.specs.declared.operation.Change.{Change}
use Rattle.typed_tree.specs.declared.operation.Gives.{Gives}
pub use Rattle.source_meaning.specs.Falls.{falls, all_fall, continues, any_continues}
use Rattle.source_meaning.specs.Tree.{Name, Expr, Literal, Quoted, Local, Apply, Guarded, Logic, Conditional, Elvis, Assign, Modify, Lambda, Reference, NewReference, Exprs, None', One, Maybe, Missing, Given, Stmt, Do, If, While, DoWhile, Try, Block, Break, Continue, Return, Throw, Stmts, Finish, Then, Declare, Catches, NoCatch, Catch, Variable, Fun, Program, Programs, type_of}
use Rattle.object_values.specs.declared.object.Owner.{Owner}
use Rattle.object_values.specs.declared.object.Owner.TheVariants.{Script, Prelude}
use Rattle.run_state.specs.World.{has_loop_limit}
use Rattle.code_meaning.specs.Machine.{Codes, Handlers, traps_at}
use Rattle.compiler_relation.specs.Representation.{Representation, Unboxed, Boxed, Absent, representation_of, kind_of, result_of}
use Rattle.pl_types.specs.declared.conversion.Cast.{Cast}
use Rattle.pl_types.specs.declared.conversion.Cast.TheVariants as cast
use Rattle.pl_types.specs.Texts.{is_known}
use Rattle.compiler_relation.specs.Parts.{constant_code, text_code, default_code, operator_code, operator_takes, operator_gives, cast_code, cast_takes, cast_gives, operation_code, read_code, write_code, member_code, without_null, pops, kept_under, copies, kept_before, kept_behind}

pub record Entry : Type 0 where
  pub name : Name
  pub of : Ty
  pub local : ℕ

abbrev pub Scope : Type 0
Scope = List Entry

-- the entry of a name
abbrev pub entry_of : Scope → Name → Option Entry
entry_of [] x = None
entry_of (y ∷ ys) x = if bytes_eq x y.name then Some y else entry_of ys x

pub record IsEntry (g : Scope) (x : Name) (y : Entry) : Type 0 where
  pub is : entry_of g x ≡ Some y

-- ---- lines

-- The instruction stands at this line, and what is thrown there goes to these handlers.
pub record At (f : FunCode) (h : Handlers) (line : ℕ) (instruction : Instruction) : Type 0 where
  pub here : slice_get f.lines line ≡ Some instruction
  pub traps : traps_at f.traps line ≡ h

abbrev pub AllAt : FunCode → Handlers → ℕ → List Instruction → Type 0
AllAt f h line [] = Unit {0}
AllAt f h line (one ∷ more) = At f h line one × AllAt f h (suc line) more

-- the line behind these instructions
abbrev pub end_all : ℕ → List Instruction → ℕ
end_all line [] = line
end_all line (one ∷ more) = end_all (suc line) more

-- ---- where a part's code ends

-- how parts are represented
abbrev pub representations : Exprs → List Representation
representations None' = []
representations (One a others) = representation_of (type_of a) ∷ representations others

abbrev pub count : Exprs → ℕ
count parts = length (representations parts)

-- of a change of what is read, behind so many parts of its place: where its right side begins, and the line of the write behind it
abbrev pub change_first : ℕ → Gives → Change → Ty → ℕ → ℕ
change_first n gives change of q = end_all (end_all q (kept_before n gives)) (cast_code change.before of)

abbrev pub change_last : ℕ → Gives → Change → Ty → ℕ → ℕ
change_last n gives change of q = end_all (end_all (end_all q (operator_code change.operator)) (cast_code change.after of)) (kept_behind n gives)

-- where a place is read whose parts stand before a line
abbrev pub end_read : ℕ → Option Operation → Ty → ℕ → ℕ
end_read n read of q = end_all (end_all q (copies n)) (read_code read of n)

-- of an elvis: where its right side begins, behind the jumps and the null that is dropped
abbrev pub elvis_right : ℕ → ℕ
elvis_right q = suc (suc (suc (suc q)))

abbrev mutual
  pub end_expr : ℕ → Expr → ℕ
  end_expr p (Literal at of c) = suc p
  end_expr p (Quoted at of text) = suc p
  end_expr p (Local at of x) = suc p
  end_expr p (Apply at of o parts) = end_all (end_exprs p parts) (operation_code o of (count parts))
  end_expr p (Guarded at of o None') = p
  end_expr p (Guarded at of o (One a others)) = end_all (end_all (end_exprs (suc (suc (end_expr p a))) others) (member_code o (suc (count others)))) (without_null (representation_of of))
  end_expr p (Logic at of o left right) = suc (suc (end_expr (suc (end_expr p left)) right))
  end_expr p (Conditional at of c a b) = end_expr (suc (end_expr (suc (end_expr p c)) a)) b
  end_expr p (Elvis at of left right) = end_expr (elvis_right (end_expr p left)) right
  end_expr p (Assign at of (target.Local x) parts value) = suc (suc (end_expr p value))
  end_expr p (Assign at of (target.Place read write) parts value) =
      end_all (end_all (end_expr (end_exprs p parts) value) (kept_under (count parts))) (write_code write of)
  end_expr p (Modify at of (target.Local x) parts change right gives) =
      suc (change_last 0 gives change of (end_expr (change_first 0 gives change of (suc p)) right))
  end_expr p (Modify at of (target.Place read write) parts change right gives) =
      end_all (change_last (count parts) gives change of
      (end_expr (change_first (count parts) gives change of (end_read (count parts) read of (end_exprs p parts))) right)) (write_code write of)
  end_expr p (Lambda at of interface function) = p
  end_expr p (Reference at of interface class name) = p
  end_expr p (NewReference at of interface made) = p

  pub end_exprs : ℕ → Exprs → ℕ
  end_exprs p None' = p
  end_exprs p (One a others) = end_exprs (end_expr p a) others

-- ---- expressions

-- all parts are represented alike
abbrev pub AllRepresented : Representation → List Representation → Type 0
AllRepresented k [] = Unit {0}
AllRepresented k (each ∷ ks) = (each ≡ k) × AllRepresented k ks

-- a type that a cast asks for when the script runs is one of the catalogue
abbrev pub AsksKnown : Cast → Ty → Type 0
AsksKnown cast.Implicit to = is_known to ≡ true
AsksKnown cast.Explicit to = is_known to ≡ true
AsksKnown other to = Unit {0}

-- a cast to a type takes what is represented so, and gives what is represented so
pub record CastFits (c : Cast) (to : Ty) (given gives : Representation) : Type 0 where
  pub takes : given ≡ cast_takes c given
  pub representation : gives ≡ cast_gives c to given
  pub asks : AsksKnown c to

-- how the receiver, where there is one, and the arguments of a member are represented
abbrev pub with_receiver : MemberKind → List Representation → List Representation
with_receiver kind.Instance ks = Boxed ∷ ks
with_receiver other ks = ks

-- A member that a call names: it is the catalogue's of this number and kind, the text is its own, and the parts and what it gives are represented as its
-- types say. (The type of a call is that of the member, or what it was cast to is another node.)
pub record MemberFits (kind : MemberKind) (m : Member) (ks : List Representation) (of : Ty) : Type 0 where
  pub member : MemberType
  pub is : slice_get catalogue m.number ≡ Some member
  pub sort : member.kind ≡ kind
  pub text : m.text ≡ text_of member
  pub parts : ks ≡ with_receiver kind (map representation_of member.params)
  pub gives : representation_of of ≡ representation_of member.result

-- ---- operators

-- `==` and `!=` are no operators on values of any types
abbrev pub IsDynamic : Op → Type 0
IsDynamic op.Eq = ⊥
IsDynamic op.Ne = ⊥
IsDynamic o = Unit {0}

abbrev pub HasCode : Operator → Type 0
HasCode (operator.Def o) = IsDynamic o
HasCode other = Unit {0}

-- the type of elements that code reads, writes or puts into an array: one of the catalogue that has values
pub record IsElement (of : Ty) : Type 0 where
  pub known : is_known of ≡ true
  pub present : representation_of of ≢ Absent

-- what an operator of a node of a type asks for besides, of so many parts
abbrev pub Asks : Operator → Ty → ℕ → Type 0
Asks operator.Map of n = (2 * (n / 2)) ≡ n
Asks operator.NewArray of n = is_known of ≡ true
Asks other of n = HasCode other

-- How the parts of an operator of a node of a type are represented, and what it gives. What writes an element gives nothing, so that it is
-- no node.
abbrev pub OperatorFits : Operator → List Representation → Ty → Type 0
OperatorFits operator.ArrayOf ks of = AllRepresented (representation_of (element_of of)) ks × (representation_of of ≡ Boxed) × IsElement (element_of of)
OperatorFits operator.Element ks of = (ks ≡ Boxed ∷ Unboxed ∷ []) × IsElement of
OperatorFits operator.PutElement ks of = ⊥
OperatorFits o ks of = AllRepresented (operator_takes o) ks × (representation_of of ≡ operator_gives o) × Asks o of (length ks)

-- ---- operations

-- a call has a receiver
abbrev pub HasReceiver : List Representation → Type 0
HasReceiver [] = ⊥
HasReceiver (k ∷ ks) = Unit {0}

-- how the parts of an operation are represented, and what it gives, which is of a type
abbrev pub Fitting : Program → Operation → List Representation → Ty → Type 0
Fitting funs (operation.Operator o) ks of = OperatorFits o ks of
Fitting funs (operation.Cast c) (given ∷ []) of = CastFits c of given (representation_of of)
Fitting funs (operation.Cast c) other of = Unit {0}
Fitting funs (operation.InstanceOf is) ks of = AllRepresented Boxed ks × (representation_of of ≡ Unboxed) × (is_known is ≡ true)
Fitting funs (operation.Function number) ks of =
    (f : Fun) → slice_get funs number ≡ Some f → (ks ≡ map (λ (x : Variable). representation_of x.of) f.params) × (representation_of of ≡ representation_of f.result)
Fitting funs (operation.Instance m) ks of = MemberFits kind.Instance m ks of
Fitting funs (operation.Static m) ks of = MemberFits kind.Static m ks of
Fitting funs (operation.Constructor m) ks of = MemberFits kind.Constructor m ks of
Fitting funs (operation.Field m) ks of = MemberFits kind.Field m ks of
Fitting funs (operation.DefCall name) ks of = HasReceiver ks × AllRepresented Boxed ks × (representation_of of ≡ Boxed)
Fitting funs (operation.DefName name) ks of = AllRepresented Boxed ks × (representation_of of ≡ Boxed)
Fitting funs operation.DefIndex ks of = AllRepresented Boxed ks × (representation_of of ≡ Boxed)
Fitting funs other ks of = ⊥

-- what a null receiver may leave out
abbrev pub MayBeLeft : Operation → Type 0
MayBeLeft (operation.Instance m) = Unit {0}
MayBeLeft (operation.DefCall name) = Unit {0}
MayBeLeft (operation.DefName name) = Unit {0}
MayBeLeft other = ⊥

-- a call that a null receiver leaves out gives no number
pub record GuardFits (funs : Program) (o : Operation) (ks : List Representation) (of : Ty) : Type 0 where
  pub sort : MayBeLeft o
  pub fits : Fitting funs o ks of
  pub whole : representation_of of ≢ Unboxed

-- what reads a place, which a compound assignment has
abbrev pub ReadFits : Program → Option Operation → List Representation → Ty → Type 0
ReadFits funs None ks of = ⊥
ReadFits funs (Some read) ks of = Fitting funs read ks of

-- A member that writes takes the parts of its place, and behind them a value of a type. What it gives is dropped.
pub record MemberWrites (m : Member) (ks : List Representation) (of : Ty) : Type 0 where
  pub given : Ty
  pub fits : MemberFits kind.Instance m (ks ++ representation_of of ∷ []) given

abbrev pub WriteFits : Operation → List Representation → Ty → Type 0
WriteFits (operation.Operator operator.PutElement) ks of = (ks ≡ Boxed ∷ Unboxed ∷ []) × (is_known of ≡ true)
WriteFits (operation.Instance m) ks of = MemberWrites m ks of
WriteFits (operation.PutDefName name) ks of = AllRepresented Boxed ks × (representation_of of ≡ Boxed)
WriteFits operation.PutDefIndex ks of = AllRepresented Boxed ks × (representation_of of ≡ Boxed)
WriteFits other ks of = ⊥

abbrev pub AreOneOrTwo : List Representation → Type 0
AreOneOrTwo (k ∷ []) = Unit {0}
AreOneOrTwo (k ∷ j ∷ []) = Unit {0}
AreOneOrTwo others = ⊥

-- A place of one part or two, at which values of a type are written.
pub record PlaceFits (write : Operation) (ks : List Representation) (of : Ty) : Type 0 where
  pub present : representation_of of ≢ Absent
  pub few : AreOneOrTwo ks
  pub writes : WriteFits write ks of

-- A change of a value of a type: it is cast to what the operator takes, and what that gives is cast back.
pub record ChangeFits (change : Change) (of : Ty) (operand : Representation) : Type 0 where
  pub present : representation_of of ≢ Absent
  pub before : CastFits change.before of (representation_of of) (operator_takes change.operator)
  pub right : operand ≡ operator_takes change.operator
  pub after : CastFits change.after of (operator_gives change.operator) (representation_of of)
  pub does : HasCode change.operator

-- the value of the left side that settles the whole, and the jump to it
abbrev pub settled : Logical → Instruction
settled And = i.Int (pos 0)
settled Or = i.Int (pos 1)

abbrev pub settles : Logical → ℕ → Instruction
settles And to = i.Numbered numbered.IfZero to
settles Or to = i.Numbered numbered.IfNotZero to

abbrev pub literal_representation : Constant → Representation
literal_representation constant.Null = Boxed
literal_representation c = Unboxed

abbrev mutual
  pub ExprAt : Program → FunCode → Handlers → Scope → ℕ → Expr → Type 0
  ExprAt funs f h g p (Literal at of c) = At f h p (constant_code c) × (representation_of of ≡ literal_representation c)
  ExprAt funs f h g p (Quoted at of text) = At f h p (text_code text) × (representation_of of ≡ Boxed)
  ExprAt funs f h g p (Local at of x) = (y : Entry) × IsEntry g x y × (representation_of of ≡ representation_of y.of) × At f h p (i.Numbered numbered.Load y.local)
  ExprAt funs f h g p (Apply at of o parts) =
      ExprsAt funs f h g p parts × AllAt f h (end_exprs p parts) (operation_code o of (count parts)) × Fitting funs o (representations parts) of
  ExprAt funs f h g p (Guarded at of o None') = Unit {0}
  ExprAt funs f h g p (Guarded at of o (One a others)) =
      ExprAt funs f h g p a
      × At f h (end_expr p a) (i.Plain plain.Dup)
      × At f h (suc (end_expr p a)) (i.Numbered numbered.IfNull (end_all (end_exprs (suc (suc (end_expr p a))) others) (member_code o (suc (count others)))))
      × ExprsAt funs f h g (suc (suc (end_expr p a))) others
      × AllAt f h (end_exprs (suc (suc (end_expr p a))) others) (member_code o (suc (count others)))
      × AllAt f h (end_all (end_exprs (suc (suc (end_expr p a))) others) (member_code o (suc (count others)))) (without_null (representation_of of))
      × GuardFits funs o (representation_of (type_of a) ∷ representations others) of
  ExprAt funs f h g p (Logic at of o left right) =
      ExprAt funs f h g p left
      × At f h (end_expr p left) (settles o (suc (end_expr (suc (end_expr p left)) right)))
      × ExprAt funs f h g (suc (end_expr p left)) right
      × At f h (end_expr (suc (end_expr p left)) right) (i.Numbered numbered.Goto (suc (suc (end_expr (suc (end_expr p left)) right))))
      × At f h (suc (end_expr (suc (end_expr p left)) right)) (settled o)
      × (representation_of (type_of left) ≡ Unboxed) × (representation_of (type_of right) ≡ Unboxed) × (representation_of of ≡ Unboxed)
  ExprAt funs f h g p (Conditional at of c a b) =
      ExprAt funs f h g p c
      × At f h (end_expr p c) (i.Numbered numbered.IfZero (suc (end_expr (suc (end_expr p c)) a)))
      × ExprAt funs f h g (suc (end_expr p c)) a
      × At f h (end_expr (suc (end_expr p c)) a) (i.Numbered numbered.Goto (end_expr (suc (end_expr (suc (end_expr p c)) a)) b))
      × ExprAt funs f h g (suc (end_expr (suc (end_expr p c)) a)) b
      × (representation_of (type_of c) ≡ Unboxed) × (representation_of (type_of a) ≡ representation_of of) × (representation_of (type_of b) ≡ representation_of of)
  ExprAt funs f h g p (Elvis at of left right) =
      ExprAt funs f h g p left
      × At f h (end_expr p left) (i.Plain plain.Dup)
      × At f h (suc (end_expr p left)) (i.Numbered numbered.IfNull (suc (suc (suc (end_expr p left)))))
      × At f h (suc (suc (end_expr p left))) (i.Numbered numbered.Goto (end_expr (elvis_right (end_expr p left)) right))
      × At f h (suc (suc (suc (end_expr p left)))) (i.Plain plain.Pop)
      × ExprAt funs f h g (elvis_right (end_expr p left)) right
      × (representation_of (type_of left) ≡ Boxed) × (representation_of (type_of right) ≡ Boxed) × (representation_of of ≡ Boxed)
  ExprAt funs f h g p (Assign at of (target.Local x) parts value) =
      ExprAt funs f h g p value
      × At f h (end_expr p value) (i.Plain plain.Dup)
      × ((y : Entry) × IsEntry g x y × (representation_of (type_of value) ≡ representation_of y.of) × (representation_of of ≡ representation_of y.of) × At f h (suc (end_expr p value)) (i.Numbered numbered.Store y.local))
  ExprAt funs f h g p (Assign at of (target.Place read write) parts value) =
      ExprsAt funs f h g p parts
      × ExprAt funs f h g (end_exprs p parts) value
      × AllAt f h (end_expr (end_exprs p parts) value) (kept_under (count parts))
      × AllAt f h (end_all (end_expr (end_exprs p parts) value) (kept_under (count parts))) (write_code write of)
      × (representation_of (type_of value) ≡ representation_of of)
      × PlaceFits write (representations parts) of
  ExprAt funs f h g p (Modify at of (target.Local x) parts change right gives) =
      (y : Entry) × IsEntry g x y × (representation_of y.of ≡ representation_of of)
      × At f h p (i.Numbered numbered.Load y.local)
      × AllAt f h (suc p) (kept_before 0 gives)
      × AllAt f h (end_all (suc p) (kept_before 0 gives)) (cast_code change.before of)
      × ExprAt funs f h g (change_first 0 gives change of (suc p)) right
      × AllAt f h (end_expr (change_first 0 gives change of (suc p)) right) (operator_code change.operator)
      × AllAt f h (end_all (end_expr (change_first 0 gives change of (suc p)) right) (operator_code change.operator)) (cast_code change.after of)
      × AllAt f h (end_all (end_all (end_expr (change_first 0 gives change of (suc p)) right) (operator_code change.operator)) (cast_code change.after of))
      (kept_behind 0 gives)
      × At f h (change_last 0 gives change of (end_expr (change_first 0 gives change of (suc p)) right)) (i.Numbered numbered.Store y.local)
      × ChangeFits change of (representation_of (type_of right))
  ExprAt funs f h g p (Modify at of (target.Place read write) parts change right gives) =
      ExprsAt funs f h g p parts
      × AllAt f h (end_exprs p parts) (copies (count parts))
      × AllAt f h (end_all (end_exprs p parts) (copies (count parts))) (read_code read of (count parts))
      × AllAt f h (end_read (count parts) read of (end_exprs p parts)) (kept_before (count parts) gives)
      × AllAt f h (end_all (end_read (count parts) read of (end_exprs p parts)) (kept_before (count parts) gives)) (cast_code change.before of)
      × ExprAt funs f h g (change_first (count parts) gives change of (end_read (count parts) read of (end_exprs p parts))) right
      × AllAt f h (end_expr (change_first (count parts) gives change of (end_read (count parts) read of (end_exprs p parts))) right)
      (operator_code change.operator)
      × AllAt f h (end_all (end_expr (change_first (count parts) gives change of (end_read (count parts) read of (end_exprs p parts))) right)
      (operator_code change.operator)) (cast_code change.after of)
      × AllAt f h (end_all (end_all (end_expr (change_first (count parts) gives change of (end_read (count parts) read of (end_exprs p parts))) right)
      (operator_code change.operator)) (cast_code change.after of)) (kept_behind (count parts) gives)
      × AllAt f h (change_last (count parts) gives change of
      (end_expr (change_first (count parts) gives change of (end_read (count parts) read of (end_exprs p parts))) right)) (write_code write of)
      × ChangeFits change of (representation_of (type_of right))
      × ReadFits funs read (representations parts) of
      × PlaceFits write (representations parts) of
  ExprAt funs f h g p (Lambda at of interface function) = Unit {0}
  ExprAt funs f h g p (Reference at of interface class name) = Unit {0}
  ExprAt funs f h g p (NewReference at of interface made) = Unit {0}

  pub ExprsAt : Program → FunCode → Handlers → Scope → ℕ → Exprs → Type 0
  ExprsAt funs f h g p None' = Unit {0}
  ExprsAt funs f h g p (One a others) = ExprAt funs f h g p a × ExprsAt funs f h g (end_expr p a) others

-- ---- statements

-- what stands behind a turn is reached where its body is left at its end or by a `continue`
abbrev pub goes_on : Stmts → Bool
goes_on body = all_fall body || any_continues body

-- ---- where a statement's code ends

-- a jump over what follows, where it is reached
abbrev pub end_skip : Bool → ℕ → ℕ
end_skip true p = suc p
end_skip false p = p

-- an expression whose value is dropped
abbrev pub end_dropped : ℕ → Expr → ℕ
end_dropped p a = end_all (end_expr p a) (pops (representation_of (type_of a)))

-- behind a catch a jump over those that follow it, if any do, where it is reached
abbrev pub jumps_over : Stmts → Catches → Bool
jumps_over body NoCatch = false
jumps_over body (Catch class x next rest) = all_fall body

abbrev pub end_update : Bool → ℕ → Maybe → ℕ
end_update false p update = p
end_update true p Missing = p
end_update true p (Given a) = end_dropped p a

-- a loop's test, and the line of the jump behind it
abbrev pub end_test : ℕ → Maybe → ℕ
end_test p Missing = suc p
end_test p (Given a) = end_expr p a

-- the test of a `do`, and the jump out of the loop
abbrev pub end_last : Bool → ℕ → Maybe → ℕ
end_last false p test = p
end_last true p Missing = p
end_last true p (Given a) = suc (end_expr p a)

abbrev pub end_value : ℕ → Maybe → Ty → ℕ
end_value p Missing of = end_all p (default_code of)
end_value p (Given a) of = end_expr p a

abbrev pub end_returned : ℕ → Maybe → ℕ
end_returned p Missing = p
end_returned p (Given a) = end_expr p a

abbrev mutual
  pub end_stmt : ℕ → Stmt → ℕ
  end_stmt p (Do a) = end_dropped p a
  end_stmt p (If c a b) = end_stmts (end_skip (all_fall a) (end_stmts (suc (end_expr p c)) a)) b
  end_stmt p (While test update body) = suc (end_test (end_update (goes_on body) (end_stmts (suc p) body) update) test)
  end_stmt p (DoWhile body test) = suc (suc (end_last (goes_on body) (end_stmts (suc p) body) test))
  end_stmt p (Try body catches) = end_catches (end_skip (all_fall body) (end_stmts p body)) catches
  end_stmt p (Block body) = end_stmts p body
  end_stmt p Break = suc p
  end_stmt p Continue = suc p
  end_stmt p (Return value) = suc (end_returned p value)
  end_stmt p (Throw value) = suc (end_expr p value)

  pub end_stmts : ℕ → Stmts → ℕ
  end_stmts p Finish = p
  end_stmts p (Then t rest) = end_stmts (end_stmt p t) rest
  end_stmts p (Declare x of value rest) = end_stmts (suc (end_value p value of)) rest

  pub end_catches : ℕ → Catches → ℕ
  end_catches p NoCatch = p
  end_catches p (Catch class x body rest) = end_catches (end_skip (jumps_over body rest) (end_stmts (suc p) body)) rest

-- where the code of a `try` ends before its catches
abbrev pub end_tried : ℕ → Stmts → ℕ
end_tried p body = end_skip (all_fall body) (end_stmts p body)

-- where that of a catch ends before those that follow it
abbrev pub end_caught : ℕ → Stmts → Catches → ℕ
end_caught p body rest = end_skip (jumps_over body rest) (end_stmts (suc p) body)

-- the number of the next local behind a part
abbrev mutual
  pub next_stmt : ℕ → Stmt → ℕ
  next_stmt n (Do a) = n
  next_stmt n (If c a b) = next_stmts (next_stmts n a) b
  next_stmt n (While test update body) = next_stmts n body
  next_stmt n (DoWhile body test) = next_stmts n body
  next_stmt n (Try body catches) = next_catches (next_stmts n body) catches
  next_stmt n (Block body) = next_stmts n body
  next_stmt n Break = n
  next_stmt n Continue = n
  next_stmt n (Return value) = n
  next_stmt n (Throw value) = n

  pub next_stmts : ℕ → Stmts → ℕ
  next_stmts n Finish = n
  next_stmts n (Then t rest) = next_stmts (next_stmt n t) rest
  next_stmts n (Declare x of value rest) = next_stmts (suc n) rest

  pub next_catches : ℕ → Catches → ℕ
  next_catches n NoCatch = n
  next_catches n (Catch class x body rest) = next_catches (next_stmts (suc n) body) rest

-- The kinds of the locals of a part, in their order: one for each variable that it declares, and one for what each of its catches takes.
abbrev mutual
  pub locals_stmt : Stmt → List Slot
  locals_stmt (Do a) = []
  locals_stmt (If c a b) = locals_stmts a ++ locals_stmts b
  locals_stmt (While test update body) = locals_stmts body
  locals_stmt (DoWhile body test) = locals_stmts body
  locals_stmt (Try body catches) = locals_stmts body ++ locals_catches catches
  locals_stmt (Block body) = locals_stmts body
  locals_stmt Break = []
  locals_stmt Continue = []
  locals_stmt (Return value) = []
  locals_stmt (Throw value) = []

  pub locals_stmts : Stmts → List Slot
  locals_stmts Finish = []
  locals_stmts (Then t rest) = locals_stmt t ++ locals_stmts rest
  locals_stmts (Declare x of value rest) = kind_of of ∷ locals_stmts rest

  pub locals_catches : Catches → List Slot
  locals_catches NoCatch = []
  locals_catches (Catch class x body rest) = kind_of (t.Class class) ∷ (locals_stmts body ++ locals_catches rest)

-- ---- traps

-- the catches that stand from a line on
abbrev pub handlers_of : ℕ → Catches → Handlers
handlers_of p NoCatch = []
handlers_of p (Catch class x body rest) = record { class = Some class; at = p } ∷ handlers_of (end_caught p body rest) rest

abbrev pub trap_of : ℕ → ℕ → ℕ → ℕ → Trap
trap_of from to at class = record { from = from; to = to; at = at; class = full_name class }

-- The trap lines of a part in their order. Those of a `try` are over its block and the jump behind it, and come behind those of the
-- block: what is thrown goes to the innermost first.
abbrev mutual
  pub traps_stmt : ℕ → Stmt → List Trap
  traps_stmt p (Do a) = []
  traps_stmt p (If c a b) = traps_stmts (suc (end_expr p c)) a ++ traps_stmts (end_skip (all_fall a) (end_stmts (suc (end_expr p c)) a)) b
  traps_stmt p (While test update body) = traps_stmts (suc p) body
  traps_stmt p (DoWhile body test) = traps_stmts (suc p) body
  traps_stmt p (Try body catches) = traps_stmts p body ++ traps_catches p (end_tried p body) (end_tried p body) catches
  traps_stmt p (Block body) = traps_stmts p body
  traps_stmt p Break = []
  traps_stmt p Continue = []
  traps_stmt p (Return value) = []
  traps_stmt p (Throw value) = []

  pub traps_stmts : ℕ → Stmts → List Trap
  traps_stmts p Finish = []
  traps_stmts p (Then t rest) = traps_stmt p t ++ traps_stmts (end_stmt p t) rest
  traps_stmts p (Declare x of value rest) = traps_stmts (suc (end_value p value of)) rest

  -- over these lines, and the catches stand from another on
  pub traps_catches : ℕ → ℕ → ℕ → Catches → List Trap
  traps_catches from to p NoCatch = []
  traps_catches from to p (Catch class x body rest) = trap_of from to p class ∷ (traps_stmts (suc p) body ++ traps_catches from to (end_caught p body rest) rest)

-- ---- statements

-- where `break` and `continue` go
pub record Jumps : Type 0 where
  pub out : ℕ
  pub on : ℕ

-- a local, of a type's kind
pub record HasLocal (f : FunCode) (n : ℕ) (of : Ty) : Type 0 where
  pub is : slice_get (f.params ++ f.locals) n ≡ Some (kind_of of)

abbrev pub SkipAt : FunCode → Handlers → Bool → ℕ → ℕ → Type 0
SkipAt f h true p to = At f h p (i.Numbered numbered.Goto to)
SkipAt f h false p to = Unit {0}

abbrev pub DroppedAt : Program → FunCode → Handlers → Scope → ℕ → Expr → Type 0
DroppedAt funs f h g p a = ExprAt funs f h g p a × AllAt f h (end_expr p a) (pops (representation_of (type_of a)))

abbrev pub UpdateAt : Program → FunCode → Handlers → Scope → Bool → ℕ → Maybe → Type 0
UpdateAt funs f h g false p update = Unit {0}
UpdateAt funs f h g true p Missing = Unit {0}
UpdateAt funs f h g true p (Given a) = DroppedAt funs f h g p a

abbrev pub TestAt : Program → FunCode → Handlers → Scope → ℕ → Maybe → Type 0
TestAt funs f h g p Missing = At f h p (i.Int (pos 1))
TestAt funs f h g p (Given a) = ExprAt funs f h g p a × (representation_of (type_of a) ≡ Unboxed)

abbrev pub LastAt : Program → FunCode → Handlers → Scope → Bool → ℕ → Maybe → ℕ → Type 0
LastAt funs f h g false p test to = Unit {0}
LastAt funs f h g true p Missing to = Unit {0}
LastAt funs f h g true p (Given a) to = ExprAt funs f h g p a × (representation_of (type_of a) ≡ Unboxed) × At f h (end_expr p a) (i.Numbered numbered.IfZero to)

-- a variable's first value
abbrev pub ValueAt : Program → FunCode → Handlers → Scope → ℕ → Maybe → Ty → Type 0
ValueAt funs f h g p Missing of = AllAt f h p (default_code of)
ValueAt funs f h g p (Given a) of = ExprAt funs f h g p a × (representation_of (type_of a) ≡ representation_of of)

-- what is returned; k is how the function's result is represented
abbrev pub ReturnedAt : Program → FunCode → Handlers → Scope → Representation → ℕ → Maybe → Type 0
ReturnedAt funs f h g k p Missing = k ≡ Absent
ReturnedAt funs f h g k p (Given a) = ExprAt funs f h g p a × (representation_of (type_of a) ≡ k)

abbrev mutual
  pub StmtAt : Program → FunCode → Handlers → Representation → Scope → ℕ → Jumps → ℕ → Stmt → Type 0
  StmtAt funs f h k g n j p (Do a) = DroppedAt funs f h g p a
  StmtAt funs f h k g n j p (If c a b) =
      ExprAt funs f h g p c
      × (representation_of (type_of c) ≡ Unboxed)
      × At f h (end_expr p c) (i.Numbered numbered.IfZero (end_skip (all_fall a) (end_stmts (suc (end_expr p c)) a)))
      × StmtsAt funs f h k g n j (suc (end_expr p c)) a
      × SkipAt f h (all_fall a) (end_stmts (suc (end_expr p c)) a) (end_stmt p (If c a b))
      × StmtsAt funs f h k g (next_stmts n a) j (end_skip (all_fall a) (end_stmts (suc (end_expr p c)) a)) b
  StmtAt funs f h k g n j p (While test update body) =
      At f h p (i.Numbered numbered.Goto (end_update (goes_on body) (end_stmts (suc p) body) update))
      × StmtsAt funs f h k g n (record { out = end_stmt p (While test update body); on = end_stmts (suc p) body }) (suc p) body
      × UpdateAt funs f h g (goes_on body) (end_stmts (suc p) body) update
      × TestAt funs f h g (end_update (goes_on body) (end_stmts (suc p) body) update) test
      × At f h (end_test (end_update (goes_on body) (end_stmts (suc p) body) update) test) (i.Numbered numbered.Loop (suc p))
  StmtAt funs f h k g n j p (DoWhile body test) =
      At f h p (i.Numbered numbered.Goto (end_last (goes_on body) (end_stmts (suc p) body) test))
      × StmtsAt funs f h k g n (record { out = end_stmt p (DoWhile body test); on = end_stmts (suc p) body }) (suc p) body
      × LastAt funs f h g (goes_on body) (end_stmts (suc p) body) test (end_stmt p (DoWhile body test))
      × At f h (end_last (goes_on body) (end_stmts (suc p) body) test) (i.Int (pos 1))
      × At f h (suc (end_last (goes_on body) (end_stmts (suc p) body) test)) (i.Numbered numbered.Loop (suc p))
  StmtAt funs f h k g n j p (Try body catches) =
      StmtsAt funs f (handlers_of (end_tried p body) catches ++ h) k g n j p body
      × SkipAt f (handlers_of (end_tried p body) catches ++ h) (all_fall body) (end_stmts p body) (end_stmt p (Try body catches))
      × CatchesAt funs f h k g (next_stmts n body) j (end_stmt p (Try body catches)) (end_tried p body) catches
  StmtAt funs f h k g n j p (Block body) = StmtsAt funs f h k g n j p body
  StmtAt funs f h k g n j p Break = At f h p (i.Numbered numbered.Goto j.out)
  StmtAt funs f h k g n j p Continue = At f h p (i.Numbered numbered.Goto j.on)
  StmtAt funs f h k g n j p (Return value) = ReturnedAt funs f h g k p value × At f h (end_returned p value) (i.Plain plain.Ret)
  StmtAt funs f h k g n j p (Throw value) = ExprAt funs f h g p value × (representation_of (type_of value) ≡ Boxed) × At f h (end_expr p value) (i.Plain plain.Throw)

  pub StmtsAt : Program → FunCode → Handlers → Representation → Scope → ℕ → Jumps → ℕ → Stmts → Type 0
  StmtsAt funs f h k g n j p Finish = Unit {0}
  StmtsAt funs f h k g n j p (Then t rest) = StmtAt funs f h k g n j p t × StmtsAt funs f h k g (next_stmt n t) j (end_stmt p t) rest
  StmtsAt funs f h k g n j p (Declare x of value rest) =
      ValueAt funs f h g p value of
      × (representation_of of ≢ Absent)
      × HasLocal f n of
      × At f h (end_value p value of) (i.Numbered numbered.Store n)
      × StmtsAt funs f h k (record { name = x; of = of; local = n } ∷ g) (suc n) j (suc (end_value p value of)) rest

  -- each catch stores the exception in its variable; behind it control goes to a line
  pub CatchesAt : Program → FunCode → Handlers → Representation → Scope → ℕ → Jumps → ℕ → ℕ → Catches → Type 0
  CatchesAt funs f h k g n j to p NoCatch = Unit {0}
  CatchesAt funs f h k g n j to p (Catch class x body rest) =
      HasLocal f n (t.Class class)
      × At f h p (i.Numbered numbered.Store n)
      × StmtsAt funs f h k (record { name = x; of = t.Class class; local = n } ∷ g) (suc n) j (suc p) body
      × SkipAt f h (jumps_over body rest) (end_stmts (suc p) body) to
      × CatchesAt funs f h k g (next_stmts (suc n) body) j to (end_caught p body rest) rest

-- ---- functions

-- the parameters' scope, the last of them the newest
abbrev pub scope_of : List Variable → ℕ → Scope → Scope
scope_of [] n g = g
scope_of (x ∷ xs) n g = scope_of xs (suc n) (record { name = x.name; of = x.of; local = n } ∷ g)

abbrev pub no_jumps : Jumps
no_jumps = record { out = 0; on = 0 }

-- each variable has values
abbrev pub ArePresent : List Representation → Type 0
ArePresent [] = Unit {0}
ArePresent (k ∷ ks) = (k ≢ Absent) × ArePresent ks

abbrev pub representations_of : List Variable → List Representation
representations_of xs = map (λ (x : Variable). representation_of x.of) xs

-- the kinds of variables, one after the other
abbrev pub kinds_of : List Variable → List Slot
kinds_of xs = map (λ (x : Variable). kind_of x.of) xs

-- what a function gives that ends without a return
abbrev pub EndAt : FunCode → Bool → ℕ → Ty → Type 0
EndAt f false p of = Unit {0}
EndAt f true p of = AllAt f [] p (default_code of) × At f [] (end_all p (default_code of)) (i.Plain plain.Ret)

abbrev pub end_end : Bool → ℕ → Ty → ℕ
end_end false p of = p
end_end true p of = suc (end_all p (default_code of))

-- A function's code: its body, and what it gives where that falls, and no further line, local or trap line. Its text tells whether it has a
-- limit of turns.
pub record FunAt (text : Owner) (funs : Program) (code : List FunCode) (number : ℕ) (fun : Fun) : Type 0 where
  pub body : FunCode
  pub is : slice_get code number ≡ Some body
  pub loops : body.loops ≡ has_loop_limit text
  pub params : body.params ≡ kinds_of fun.params
  pub present : ArePresent (representations_of fun.params)
  pub result : body.result ≡ result_of fun.result
  pub locals : body.locals ≡ locals_stmts fun.body
  pub stands : StmtsAt funs body [] (representation_of fun.result) (scope_of fun.params 0 []) (length fun.params) no_jumps 0 fun.body
  pub ends : EndAt body (all_fall fun.body) (end_stmts 0 fun.body) fun.result
  pub lines : length body.lines ≡ end_end (all_fall fun.body) (end_stmts 0 fun.body) fun.result
  pub traps : body.traps ≡ traps_stmts 0 fun.body

-- each function of a text's program has its code, and there is no further one
pub record Compiled (text : Owner) (funs : Program) (code : List FunCode) : Type 0 where
  pub each : (number : ℕ) (fun : Fun) → slice_get funs number ≡ Some fun → FunAt text funs code number fun
  pub many : length code ≡ length funs

-- the code of each text is that of its program
pub record AreCompiled (funs : Programs) (codes : Codes) : Type 0 where
  pub script : Compiled Script funs.script codes.script
  pub prelude : Compiled Prelude funs.prelude codes.prelude
