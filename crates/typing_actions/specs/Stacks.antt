-- Stacks, each a list that begins with its top.
use Rattle.std.specs.declared.alloc.Global.{Global}
use Rattle.std.specs.declared.vec.Vec.{Vec}
use Rattle.std.specs.Prelude.{◌≡◌, Bool, true, false, ℕ, ◌-◌, length, List, [], ◌∷◌, Option, Some, None, Result, Ok, Err}
use Rattle.std.specs.declared.alloc.AllocError.{AllocError}
use Rattle.pl_types.specs.declared.refusal.Fail.{Fail}
use Rattle.pl_types.specs.declared.refusal.Fail.TheVariants.{Refused, NoMemory}
use Rattle.plain_stack.specs.Stacks.{gathered}
use Rattle.typed_tree.specs.declared.typed.Typed.{Typed}
use Rattle.typing_rules.specs.declared.part.Part.{Part}
use Rattle.typing_rules.specs.declared.part.Place.{Place}
use Rattle.typing_rules.specs.declared.part.Step.{Step}
use Rattle.typing_rules.specs.Outcomes.{Out, refuse, refusal, bind, KeepsIn}
use Rattle.typing_actions.specs.declared.config.Config.{Config}

-- A part that an act takes is not there. No rule has the number 0. A body's meaning keeps its parts on no stack, so it is never this; and
-- what items come to is that meaning, whatever the tree. So acts that are done in their order are never stuck: code that took a part from
-- another stack would answer what the meaning is not.
abbrev pub stuck : {A : Type 0} → Out A
stuck = refuse 0 0

-- what is done with the top of a stack, and what is below it
abbrev pub one : {A B : Type 0} → List A → (A → List A → Out B) → Out B
one [] f = stuck
one (x ∷ rest) f = f x rest

-- the same with two, the upper one last
abbrev pub two : {A B : Type 0} → List A → (A → A → List A → Out B) → Out B
two xs f = one xs (λ y below. one below (λ x rest. f x y rest))

abbrev pub three : {A B : Type 0} → List A → (A → A → A → List A → Out B) → Out B
three xs f = one xs (λ z below. two below (λ x y rest. f x y z rest))

abbrev pub some_gathered : {A B : Type 0} → Option (List A × List A) → (List A → List A → Out B) → Out B
some_gathered None f = stuck
some_gathered (Some p) f = f p.0 p.1

-- what is taken above a height; where it is not there, the act is stuck
abbrev pub TakesUp : {A : Type 0} → ℕ → List A → List A → Result (Vec A Global) Fail → Type 0
TakesUp n old new (Ok taken) = gathered n old [] ≡ Some (taken.items, new)
TakesUp n old new (Err NoMemory) = Unit {0}
TakesUp n old new (Err (Refused r)) = (gathered n old [] ≡ None) × (r ≡ refusal 0 0)

-- the top is taken; where none is there, the act is stuck
abbrev pub TakesTop : {A : Type 0} → List A → List A → Result A Fail → Type 0
TakesTop old new (Ok x) = old ≡ x ∷ new
TakesTop old new (Err NoMemory) = ⊥
TakesTop old new (Err (Refused r)) = (old ≡ []) × (r ≡ refusal 0 0)

-- what a rule gives is put on the top, and its refusal is passed on
abbrev pub Puts : {A U : Type 0} → Result A Fail → List A → Result U Fail → List A → Type 0
Puts (Ok x) old result new = KeepsIn (Ok (x ∷ old)) result new
Puts (Err fail) old result new = result ≡ Err fail

-- what is done with so many from the top, and what is below them
abbrev pub many : {A B : Type 0} → ℕ → List A → (List A → List A → Out B) → Out B
many n xs f = some_gathered (gathered n xs []) f

-- a step that is there or not is taken; where it is missing, the act is stuck
abbrev pub TakesIf : Bool → List Step → List Step → Result (Option Step) Fail → Type 0
TakesIf false old new (Ok y) = (y ≡ None) × (new ≡ old)
TakesIf false old new (Err fail) = ⊥
TakesIf true old new (Ok None) = ⊥
TakesIf true old new (Ok (Some y)) = old ≡ y ∷ new
TakesIf true old new (Err NoMemory) = ⊥
TakesIf true old new (Err (Refused r)) = (old ≡ []) × (r ≡ refusal 0 0)

-- what is done with what stands above a height, and what is below
abbrev pub above : {A B : Type 0} → ℕ → List A → (List A → List A → Out B) → Out B
above height xs f = many (length xs - height) xs f

abbrev pub put_part : Config → List Part → Part → Config
put_part c rest x = record c { parts = x ∷ rest }

abbrev pub with_part : Config → List Part → Out Part → Out Config
with_part c rest o = bind o (λ x. Ok (put_part c rest x))

abbrev pub with_place : Config → Out Place → Out Config
with_place c o = bind o (λ p. Ok (record c { places = p ∷ c.places }))

abbrev pub with_step : Config → Out Step → Out Config
with_step c o = bind o (λ y. Ok (record c { steps = y ∷ c.steps }))

abbrev pub with_test : Config → Out (Option Typed) → Out Config
with_test c o = bind o (λ t. Ok (record c { tests = t ∷ c.tests }))

-- the top of the parts is taken; where none is there, the act is stuck
abbrev pub TakesPart : Config → Config → Result Part Fail → Type 0
TakesPart old new (Ok x) = old ≡ put_part new new.parts x
TakesPart old new (Err NoMemory) = ⊥
TakesPart old new (Err (Refused r)) = (old.parts ≡ []) × (r ≡ refusal 0 0)

-- a part that a rule gives is put on the parts, and the rule's refusal is passed on
abbrev pub PutsPart : {U : Type 0} → Result Part Fail → Config → Result U Fail → Config → Type 0
PutsPart (Ok x) old result new = KeepsIn (Ok (put_part old old.parts x)) result new
PutsPart (Err fail) old result new = result ≡ Err fail

abbrev pub put_step : Config → Step → Config
put_step c y = record c { steps = y ∷ c.steps }

-- the same of a step
abbrev pub PutsStep : {U : Type 0} → Result Step Fail → Config → Result U Fail → Config → Type 0
PutsStep (Ok y) old result new = KeepsIn (Ok (put_step old y)) result new
PutsStep (Err fail) old result new = result ≡ Err fail

-- the same of a step whose rule refuses nothing
abbrev pub PutsBuilt : {U : Type 0} → Result Step AllocError → Config → Result U Fail → Config → Type 0
PutsBuilt (Ok y) old result new = KeepsIn (Ok (put_step old y)) result new
PutsBuilt (Err e) old result new = result ≡ Err NoMemory

-- the same of a test
abbrev pub PutsTest : {U : Type 0} → Result Typed Fail → Config → Result U Fail → Config → Type 0
PutsTest (Ok x) old result new = KeepsIn (Ok (record old { tests = Some x ∷ old.tests })) result new
PutsTest (Err fail) old result new = result ≡ Err fail
