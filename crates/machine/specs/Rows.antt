-- What parts of an instruction come to.
use Rattle.std.specs.Prelude.{◌≡◌, ◌<◌, ℕ, ℤ, suc, Bool, true, false, List, [], ◌∷◌, ◌++◌, map, Option, Some, None, option_map, find, pos}
use Rattle.number_ops.specs.arithmetic_declared.operator.Num.{Num}
use Rattle.object_values.specs.declared.value.Value.{Value}
use Rattle.object_values.specs.declared.value.Value.TheVariants as v
use Rattle.object_heap.specs.declared.outcome.Which.{Which}
use Rattle.pl_code.specs.declared.kinds.Slot.{Slot}
use Rattle.pl_code.specs.declared.code.FunCode.{FunCode}
use Rattle.def_access.specs.declared.accessed.Accessed.{Accessed}
use Rattle.def_access.specs.declared.accessed.Accessed.TheVariants as accessed
use Rattle.def_access.specs.Elements.{length_of}
use Rattle.def_access.specs.Loops.{has_more, iterated, next_element}
use Rattle.def_access.specs.Making.{list_made, map_made}
use Rattle.number_ops.specs.Operators.{concatenated}
use Rattle.number_ops.specs.Outcomes.{effect}
use Rattle.number_ops.specs.Relations.{equal, is_same}
use Rattle.run_state.specs.World.{World, Limits, Counted, Counts, Passes, acts_in}
use Rattle.code_meaning.specs.declared.word.Word.{Word}
use Rattle.code_meaning.specs.declared.word.Word.TheVariants.{I, J, R}
use Rattle.code_meaning.specs.Words.{bit, start_of, unboxed, Calculation, NoRow, Calculates}
use Rattle.code_meaning.specs.Machine.{Frame, Next, Goes, on_int, on_outcome, on_reference, on_top, to_line, Codes, Stuck}
use Rattle.machine.specs.declared.references.Pairing.{Pairing}
use Rattle.machine.specs.declared.references.Pairing.TheVariants as pairing
use Rattle.machine.specs.declared.container_rows.Asked.{Asked}
use Rattle.machine.specs.declared.container_rows.Asked.TheVariants as ask
use Rattle.machine.specs.declared.container_rows.Collected.{Collected}
use Rattle.machine.specs.declared.container_rows.Collected.TheVariants as collect
use Rattle.machine.specs.declared.operators.Operated.{Operated}
use Rattle.machine.specs.declared.operators.Operated.TheVariants as c
use Rattle.machine.specs.declared.operands.Copying.{Copying}
use Rattle.machine.specs.declared.operands.Copying.TheVariants as copying
use Rattle.machine_parts.specs.Handlers.{catches, line_of, linked_traps}
use Rattle.machine_parts.specs.declared.handlers.LinkedTrap.{LinkedTrap}
use Rattle.machine.specs.Seen.{limit_of}

-- a copy leaves this stack, unless there was no memory
abbrev pub Copies : Option (List Word) → List Word → Copying → Type 0
Copies given stack copying.Done = given ≡ Some stack
Copies given stack copying.Stuck = given ≡ None
Copies given stack copying.NoMemory = Unit {0}

-- what an operator comes to, and the stack that it leaves
abbrev pub CalculatesTo : Calculation → List Word → Operated → Type 0
CalculatesTo given stack c.NoRow = given ≡ NoRow
CalculatesTo given stack (c.Number number) = given ≡ Calculates (Some number) stack
CalculatesTo given stack c.ZeroDivisor = given ≡ Calculates None stack

abbrev pub calculated_of : Option Num → Operated
calculated_of None = c.ZeroDivisor
calculated_of (Some number) = c.Number number

-- a count that is paid, or the limit that it would pass, and the world behind it
abbrev pub CountsTo : Counted → World → Option Which → Type 0
CountsTo counted new None = counted ≡ Counts new
CountsTo counted new (Some which) = counted ≡ Passes (limit_of which) new

-- the word of a primitive
abbrev pub bare : Value → Option Word
bare (v.Bool flag) = Some (I (bit flag))
bare (v.Byte a) = Some (I a)
bare (v.Short a) = Some (I a)
bare (v.Char unit) = Some (I (pos unit))
bare (v.Int a) = Some (I a)
bare (v.Long a) = Some (J a)
bare value = None

-- what was taken off a stack, and the stack that is left
abbrev pub beside : List Word → Option (List Word) → Option (List Word × List Word)
beside stack None = None
beside stack (Some words) = Some (words, stack)

-- arguments with the other locals behind them
abbrev pub with_locals : List Slot → Option (List Word × List Word) → Option (List Word × List Word)
with_locals slots None = None
with_locals slots (Some p) = Some (p.0 ++ map start_of slots, p.1)

-- ---- references

-- a text, if there is one, goes on the stack
abbrev pub text_act : Option (List ℕ) → Frame → List Frame → World → Next
text_act None f below w = Stuck
text_act (Some text) f below w = to_line f below w (suc f.line) (R (v.Str text) ∷ f.stack)

-- whether a word is null; none of a number
abbrev pub null_in : Word → Option Bool
null_in (R v.Null) = Some true
null_in (R value) = Some false
null_in word = None

-- two words that are references
abbrev pub on_references : Word → Word → (Value → Value → Next) → Next
on_references lower upper next = on_reference upper (λ b. on_reference lower (λ a. next a b))

-- two references off a stack, the upper one last
abbrev pub on_pair : List Word → (Value → Value → List Word → Next) → Next
on_pair stack next = on_top stack (λ upper rest. on_reference upper (λ b. on_top rest (λ lower stack. on_reference lower (λ a. next a b stack))))

-- what is asked of two references
abbrev pub paired : Codes → Limits → Pairing → Value → Value → Frame → List Frame → World → List Word → Next
paired codes limits pairing.Concat a b f below w stack = on_outcome codes limits (acts_in w (effect w.store (concatenated w.store.objects a b))) R f below w stack
paired codes limits pairing.Equal a b f below w stack = on_outcome codes limits (acts_in w (effect w.store (equal w.store.objects a b))) unboxed f below w stack
paired codes limits pairing.Same a b f below w stack = to_line f below w (suc f.line) (I (bit (is_same a b)) ∷ stack)

-- ---- lists, maps, arrays and iterators

-- what is asked of one reference
abbrev pub asked : Codes → Limits → Asked → Value → Frame → List Frame → World → List Word → Next
asked codes limits ask.Length value f below w stack = on_outcome codes limits (acts_in w (length_of w.store value)) unboxed f below w stack
asked codes limits ask.Iterate value f below w stack = on_outcome codes limits (acts_in w (iterated w.store value)) R f below w stack
asked codes limits ask.HasMore value f below w stack = on_outcome codes limits (acts_in w (has_more w.store value)) unboxed f below w stack
asked codes limits ask.Next value f below w stack = on_outcome codes limits (acts_in w (next_element w.store value)) R f below w stack

-- what is made of so many references
abbrev pub collected : Codes → Limits → Collected → List Value → Frame → List Frame → World → List Word → Next
collected codes limits collect.List items f below w stack = on_outcome codes limits (acts_in w (list_made w.store items)) R f below w stack
collected codes limits collect.Map parts f below w stack = on_outcome codes limits (acts_in w (map_made w.store parts)) R f below w stack

-- three references, and off a stack, the upper one last
abbrev pub on_three : Word → Word → Word → (Value → Value → Value → Next) → Next
on_three first second third next = on_reference third (λ c. on_reference second (λ b. on_reference first (λ a. next a b c)))

abbrev pub on_triple : List Word → (Value → Value → Value → List Word → Next) → Next
on_triple stack next =
    on_top stack (λ third more. on_reference third (λ c. on_top more (λ second rest. on_reference second (λ b. on_top rest (λ first stack. on_reference first (λ a. next a b c stack))))))

-- a member that is called has a number below this
abbrev pub CallsWithin : Accessed → ℕ → Type 0
CallsWithin (accessed.Calls number) room = number < room
CallsWithin (accessed.CallsWith number first) room = number < room
CallsWithin (accessed.Acts answer) room = Unit {0}

-- an index, and an array below it
abbrev pub on_place : List Word → (ℤ → Value → List Word → Next) → Next
on_place stack next = on_top stack (λ upper rest. on_int upper (λ at. on_top rest (λ lower stack. on_reference lower (λ array. next at array stack))))

-- ---- where an exception goes on

-- the traps of a function, if there is one
abbrev pub traps_in : Option (List LinkedTrap) → List LinkedTrap
traps_in None = []
traps_in (Some traps) = traps

-- where an exception goes on in a function, if it is caught at this line
abbrev pub landing : Option FunCode → ℕ → ℕ → World → Option ℕ
landing f line id w = line_of (find (catches line id w) (traps_in (option_map linked_traps f)))

-- it goes on in the frame, or beyond it
abbrev pub landed : Option ℕ → Frame → List Frame → ℕ → World → Next → Next
landed None f below id w further = further
landed (Some at) f below id w further =
    Goes (record { top = record { text = f.text; fun = f.fun; line = at; locals = f.locals; stack = R (v.Ref id) ∷ []; turns = f.turns; due = f.due }; below = below; world = w })
