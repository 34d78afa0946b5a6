-- What each member comes to, and their numbers.
use Rattle.std.specs.Prelude.{ℕ, ◌==◌, Option, Some, None, List, if◌then◌else◌}
use Rattle.object_values.specs.declared.value.Value.{Value}
use Rattle.object_values.specs.declared.value.Value.TheVariants as v
use Rattle.object_heap.specs.declared.answer.Answer.{Answer}
use Rattle.object_heap.specs.declared.answer.Answer.TheVariants as a
use Rattle.object_heap.specs.Effects.{Effect, Gives}
use Rattle.object_heap.specs.Store.{Store}
use Rattle.api_iter.specs.declared.member.Member.{Member}
use Rattle.api_iter.specs.declared.member.Member.TheVariants as m
use Rattle.api_iter.specs.Iterating as iterating

abbrev pub does : Store → Member → List Value → Effect
does store m.Iterator arguments = iterating.iterator store arguments
does store m.Join arguments = iterating.join store arguments
does store m.HasNext arguments = iterating.has_next store arguments
does store m.Next arguments = iterating.next store arguments
does store m.Remove arguments = iterating.remove store arguments
does store m.GetValue arguments = iterating.get_value store arguments

-- the member of a number in the catalogue, if it is one of these
unfoldable pub numbered : ℕ → Option Member
numbered number =
    if number == 86 then Some m.Iterator
    else (if number == 96 then Some m.Join
    else (if number == 166 then Some m.HasNext
    else (if number == 167 then Some m.Next
    else (if number == 168 then Some m.Remove
    else (if number == 225 then Some m.GetValue else None)))))

abbrev pub does_found : Store → Option Member → List Value → Effect
does_found store None arguments = Gives v.Null store
does_found store (Some member) arguments = does store member arguments

-- what the member of a number comes to; any other number's is null
abbrev pub does_numbered : Store → ℕ → List Value → Effect
does_numbered store number arguments = does_found store (numbered number) arguments

-- a text, which is copied where it is given
abbrev pub IsText : Option Value → Type 0
IsText (Some (v.Str text)) = Unit {0}
IsText found = ⊥

-- What takes memory: an exception, and a text that is copied
abbrev pub Raises : Effect → Type 0
Raises (Gives value store) = ⊥
Raises effect = Unit {0}

abbrev pub RaisesOrCopies : Effect → Type 0
RaisesOrCopies (Gives value store) = IsText (Some value)
RaisesOrCopies effect = Unit {0}

-- a call answers want of memory only there
abbrev pub WantsIf : Type 0 → Answer → Type 0
WantsIf needs a.NoMemory = needs
WantsIf needs answer = Unit {0}

abbrev pub WantsMemory : Option Member → Effect → Answer → Type 0
WantsMemory None effect answer = WantsIf ⊥ answer
WantsMemory (Some m.HasNext) effect answer = WantsIf (Raises effect) answer
WantsMemory (Some m.Remove) effect answer = WantsIf (Raises effect) answer
WantsMemory (Some m.GetValue) effect answer = WantsIf (RaisesOrCopies effect) answer
WantsMemory (Some member) effect answer = Unit {0}
