-- What a member is called with, as the machine takes it off the stack.
use Rattle.std.specs.Prelude.{ℤ, Bool, true, false, List, ◌++◌, Option, Some, None}
use Rattle.object_values.specs.declared.value.Value.{Value}
use Rattle.object_values.specs.declared.value.Value.TheVariants as v
use Rattle.code_meaning.specs.Members.{Receiving, Unfit, OnNull, Receives, Reads}
use Rattle.machine.specs.declared.receiving.Receiving as held
use Rattle.machine.specs.declared.receiving.Receiving.TheVariants as receiving

-- the arguments stand beside it
abbrev pub receiving_of : held.Receiving → List Value → Receiving
receiving_of receiving.Unfit arguments = Unfit
receiving_of receiving.OnNull arguments = OnNull
receiving_of receiving.Receives arguments = Receives arguments
receiving_of receiving.Reads arguments = Reads

-- what a buffer was filled with, if there was enough
abbrev pub filled : {X : Type 0} → Bool → List X → Option (List X)
filled true xs = Some xs
filled false xs = None

-- arguments behind values that are there
abbrev pub behind : List Value → Option (List Value) → Option (List Value)
behind values None = None
behind values (Some more) = Some (values ++ more)

-- the same of numbers
abbrev pub behind_ints : List ℤ → Option (List ℤ) → Option (List ℤ)
behind_ints numbers None = None
behind_ints numbers (Some more) = Some (numbers ++ more)

abbrev pub is_null : Value → Bool
is_null v.Null = true
is_null value = false

-- what a member is called with on a receiver, the first of these values
abbrev pub received_with : Bool → List Value → Receiving
received_with true values = OnNull
received_with false values = Receives values
