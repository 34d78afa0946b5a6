-- Which instructions take no memory: they make no object and let none grow, throw no new exception, and neither make nor copy a text.
use Rattle.std.specs.Prelude.{◌≡◌, ℕ, ℤ, Bool, true, false, List, [], ◌∷◌, Option, Some, None, slice_get}
use Rattle.pl_types.specs.declared.ty.Ty.{Ty}
use Rattle.pl_types.specs.declared.ty.Ty.TheVariants as ty
use Rattle.pl_types.specs.Texts.{type_of_full}
use Rattle.allowlist.specs.Allow.{AllowList}
use Rattle.allowlist.specs.Index.{member_in}
use Rattle.allowlist.specs.declared.member.MemberType.{MemberType}
use Rattle.object_values.specs.declared.value.Value.{Value}
use Rattle.object_values.specs.declared.object.Object.{Object}
use Rattle.object_heap.specs.Store.{Store}
use Rattle.number_ops.specs.arithmetic_declared.operator.Op.{Op}
use Rattle.def_access.specs.Elements.{element_read, length_of}
use Rattle.def_access.specs.Loops.{has_more, next_element}
use Rattle.def_access.specs.Types.{MakesNothing}
use Rattle.number_ops.specs.Operators.{is_unary, operate}
use Rattle.number_ops.specs.Outcomes as outcomes
use Rattle.number_ops.specs.Casts.{cast_at_run_time}
use Rattle.number_ops.specs.Relations.{equal, is_exception}
use Rattle.def_access.specs.Answers as members
use Rattle.machine_parts.specs.Members.{method_of, constructor_of, field_of}
use Rattle.pl_code.specs.declared.code.FunCode.{FunCode}
use Rattle.pl_code.specs.declared.code.Instruction.{Instruction}
use Rattle.pl_code.specs.declared.code.Instruction.TheVariants as i
use Rattle.pl_code.specs.declared.kinds.Plain.{Plain}
use Rattle.pl_code.specs.declared.kinds.Plain.TheVariants as plain
use Rattle.pl_code.specs.declared.kinds.Numbered.{Numbered}
use Rattle.pl_code.specs.declared.kinds.Numbered.TheVariants as numbered
use Rattle.pl_code.specs.declared.kinds.Typed.{Typed}
use Rattle.pl_code.specs.declared.kinds.Typed.TheVariants as typed
use Rattle.machine.specs.declared.container_rows.Asked.{Asked}
use Rattle.machine.specs.declared.container_rows.Asked.TheVariants as ask
use Rattle.run_state.specs.Calls.{suits_member}
use Rattle.run_state.specs.World.{Limits, allowed_in}
use Rattle.code_meaning.specs.declared.word.Word.{Word}
use Rattle.code_meaning.specs.declared.word.Word.TheVariants.{I, R}
use Rattle.code_meaning.specs.Words.{Calculation, NoRow, Calculates, calculation, op_of_dynamic}
use Rattle.code_meaning.specs.Members.{Receiving, Unfit, OnNull, Receives, Reads, count_of, received}
use Rattle.code_meaning.specs.Machine.{Frame, Config, is_written, take_words, Codes, function_of}
pub use Rattle.machine_parts.specs.Copies.{is_text}

-- ---- texts, which are copied

-- the words that are copied are no texts
abbrev pub OneBare : List Word → Type 0
OneBare [] = Unit {0}
OneBare (z ∷ stack) = is_text z ≡ false

abbrev pub TwoBare : List Word → Type 0
TwoBare (z ∷ y ∷ stack) = (is_text z ≡ false) × (is_text y ≡ false)
TwoBare stack = Unit {0}

abbrev pub LocalBare : Option Word → Type 0
LocalBare None = Unit {0}
LocalBare (Some word) = is_text word ≡ false

-- ---- values, for which nothing is made

-- no divisor is zero: an exception would be made
abbrev pub NoZero : Calculation → Type 0
NoZero NoRow = Unit {0}
NoZero (Calculates None stack) = ⊥
NoZero (Calculates (Some number) stack) = Unit {0}

-- what holds of a word's value, if it is a reference
abbrev pub OnReference : Word → (Value → Type 0) → Type 0
OnReference (R value) holds = holds value
OnReference word holds = Unit {0}

-- the same of the word on a stack
abbrev pub OnValue : List Word → (Value → Type 0) → Type 0
OnValue [] holds = Unit {0}
OnValue (word ∷ stack) holds = OnReference word holds

-- and of two, the upper one last
abbrev pub OnValues : List Word → (Value → Value → Type 0) → Type 0
OnValues (upper ∷ lower ∷ stack) holds = OnReference upper (λ b. OnReference lower (λ a. holds a b))
OnValues stack holds = Unit {0}

-- a cast makes nothing, and throws nothing
abbrev pub CastSpares : List Object → Ty → Bool → Value → Type 0
CastSpares objects to written value = outcomes.NeedsMemory (cast_at_run_time objects value to written) → ⊥

-- two values are no larger and no deeper than what is compared
abbrev pub EqualSpares : List Object → Value → Value → Type 0
EqualSpares objects a b = outcomes.NeedsMemory (equal objects a b) → ⊥

abbrev pub OnType : Option Ty → (Ty → Type 0) → Type 0
OnType None holds = Unit {0}
OnType (Some of) holds = holds of

-- ---- calls of members: the receiver is not null, all are of the classes that are asked for, and what the member gives is there already

abbrev pub ReceivingSpares : MemberType → Receiving → ℕ → List Object → Type 0
ReceivingSpares called Unfit number objects = Unit {0}
ReceivingSpares called OnNull number objects = ⊥
ReceivingSpares called (Receives arguments) number objects = (suits_member objects called arguments ≡ true) × (members.NeedsMemory objects number arguments → ⊥)
ReceivingSpares called Reads number objects = members.NeedsMemory objects number [] → ⊥

abbrev pub CallSpares : Option (List Word × List Word) → MemberType → ℕ → List Object → Type 0
CallSpares None called number objects = Unit {0}
CallSpares (Some p) called number objects = ReceivingSpares called (received called p.0) number objects

abbrev pub MemberSpares : AllowList → Option ℕ → List Word → List Object → Type 0
MemberSpares allowed None stack objects = Unit {0}
MemberSpares allowed (Some number) stack objects = CallSpares (take_words (count_of (member_in allowed number)) stack []) (member_in allowed number) number objects

-- ---- lists, maps, arrays and iterators: what is given is there already, and no text

abbrev pub AskSpares : Asked → Store → Value → Type 0
AskSpares ask.Length store value = MakesNothing store (length_of store value)
AskSpares ask.Iterate store value = ⊥
AskSpares ask.HasMore store value = MakesNothing store (has_more store value)
AskSpares ask.Next store value = MakesNothing store (next_element store value)

abbrev pub OnInt : Word → (ℤ → Type 0) → Type 0
OnInt (I a) holds = holds a
OnInt word holds = Unit {0}

-- what holds of an index, and of an array below it
abbrev pub OnPlace : List Word → (ℤ → Value → Type 0) → Type 0
OnPlace (upper ∷ lower ∷ stack) holds = OnInt upper (λ at. OnReference lower (λ array. holds at array))
OnPlace stack holds = Unit {0}

abbrev pub ElementSpares : Store → Ty → ℤ → Value → Type 0
ElementSpares store of at array = MakesNothing store (element_read store of array at)

-- ---- operators on values of any types

abbrev pub OperationSpares : Op → List Object → Value → Value → Type 0
OperationSpares o objects a b = outcomes.NeedsMemory (operate objects o a b) → ⊥

-- of the one operand, or of both
abbrev pub Whichever : Bool → Type 0 → Type 0 → Type 0
Whichever true one two = one
Whichever false one two = two

abbrev pub OperatorSpares : Op → List Word → List Object → Type 0
OperatorSpares o [] objects = Unit {0}
OperatorSpares o (upper ∷ rest) objects =
    OnReference upper (λ b. Whichever (is_unary o) (OperationSpares o objects b b) (OnValue rest (λ a. OperationSpares o objects a b)))

-- ---- instructions

abbrev pub CopySpares : Plain → List Word → Type 0
CopySpares plain.Dup stack = OneBare stack
CopySpares plain.Dup2 stack = TwoBare stack
CopySpares plain.DupX1 stack = OneBare stack
CopySpares plain.DupX2 stack = OneBare stack
CopySpares other stack = Unit {0}

abbrev pub PlainSpares : Plain → List Word → Store → Type 0
PlainSpares plain.Concat stack store = ⊥
PlainSpares plain.Equal stack store = OnValues stack (EqualSpares store.objects)
PlainSpares plain.ArrayLength stack store = OnValue stack (AskSpares ask.Length store)
PlainSpares plain.GetIndex stack store = ⊥
PlainSpares plain.PutIndex stack store = ⊥
PlainSpares plain.Iter stack store = ⊥
PlainSpares plain.Has stack store = OnValue stack (AskSpares ask.HasMore store)
PlainSpares plain.Next stack store = OnValue stack (AskSpares ask.Next store)
PlainSpares plain.Throw stack store = OnValue stack (λ value. is_exception store.objects value ≡ true)
PlainSpares other stack store = CopySpares other stack

abbrev pub NumberedSpares : Numbered → ℕ → List Word → Type 0
NumberedSpares numbered.Load k locals = LocalBare (slice_get locals k)
NumberedSpares numbered.List k locals = ⊥
NumberedSpares numbered.Map k locals = ⊥
NumberedSpares other k locals = Unit {0}

abbrev pub TypedSpares : Typed → Ty → List Word → Store → Type 0
TypedSpares typed.IsA of stack store = Unit {0}
TypedSpares typed.LoadElement of stack store = OnPlace stack (ElementSpares store of)
TypedSpares typed.StoreElement of stack store = ⊥

-- an instruction in a frame, with these members and this store; one that has no row does nothing
abbrev pub InstructionSpares : AllowList → Instruction → Frame → Store → Type 0
InstructionSpares allowed (i.Plain p) f store = PlainSpares p f.stack store
InstructionSpares allowed (i.Arithmetic o width) f store = NoZero (calculation o width f.stack)
InstructionSpares allowed (i.Dynamic o) f store = OperatorSpares (op_of_dynamic o) f.stack store.objects
InstructionSpares allowed (i.Numbered n k) f store = NumberedSpares n k f.locals
InstructionSpares allowed (i.Unboxing p way) f store = OnValue f.stack (CastSpares store.objects (ty.Prim p) (is_written way))
InstructionSpares allowed (i.Cast to way) f store = OnType (type_of_full to) (λ to. OnValue f.stack (CastSpares store.objects to (is_written way)))
InstructionSpares allowed (i.Typed t of) f store = OnType (type_of_full of) (λ of. TypedSpares t of f.stack store)
InstructionSpares allowed (i.Sized s of n) f store = ⊥
InstructionSpares allowed (i.Quoted kind text) f store = ⊥
InstructionSpares allowed (i.DefCall name n) f store = ⊥
InstructionSpares allowed (i.Invoke method) f store = MemberSpares allowed (method_of allowed method) f.stack store.objects
InstructionSpares allowed (i.New constructor) f store = MemberSpares allowed (constructor_of allowed constructor) f.stack store.objects
InstructionSpares allowed (i.Field field) f store = MemberSpares allowed (field_of allowed field) f.stack store.objects
InstructionSpares allowed other f store = Unit {0}

abbrev pub LineSpares : AllowList → Option Instruction → Frame → Store → Type 0
LineSpares allowed None f store = Unit {0}
LineSpares allowed (Some instruction) f store = InstructionSpares allowed instruction f store

abbrev pub FunctionSpares : AllowList → Option FunCode → Frame → Store → Type 0
FunctionSpares allowed None f store = Unit {0}
FunctionSpares allowed (Some g) f store = LineSpares allowed (slice_get g.lines f.line) f store

-- the next instruction takes no memory, with the members that its text may call
abbrev pub Spares : Codes → Limits → Config → Type 0
Spares codes limits c = FunctionSpares (allowed_in limits c.top.text) (function_of codes c.top) c.top c.world.store
