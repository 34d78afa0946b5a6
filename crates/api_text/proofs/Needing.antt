-- What makes something may want memory.
use Rattle.std.proofs.Common.{ℕ, List, ℤ, Option, Some, None, length, slice_get}
use Rattle.std.specs.Prelude.{pos, negsuc}
use Rattle.object_values.specs.declared.object.Object.{Object}
use Rattle.object_values.specs.declared.value.Value.{Value}
use Rattle.object_heap.specs.declared.answer.Answer.{Answer}
use Rattle.object_heap.specs.declared.answer.Answer.TheVariants as a
use Rattle.object_heap.specs.Parts.{units_of}
use Rattle.value_walks.specs.declared.TheConstants.{VISITS}
use Rattle.value_walks.specs.Texts.{Text, Wrote, TooDeep, TooLarge, text_of}
use Rattle.api_text.specs.declared.outcome.Outcome.{Outcome}
use Rattle.api_text.specs.declared.outcome.Outcome.TheVariants.{Extends, Makes}
use Rattle.api_text.specs.Arguments.{with_two, with_three}
use Rattle.api_text.specs.Builders.{appended, deleted, deleted_in, delete_char_at, insert, inserted, put_at, put_in, resized, set_length, set_to}
use Rattle.api_text.specs.Outcomes.{NeedsMemory, WantsMemory, followed_by, says}
use Rattle.value_walks.specs.declared.outputs.Output.{Output}
use Rattle.value_walks.specs.declared.outputs.Output.TheVariants.{Kept, Over}
use Rattle.api_text.specs.Sequences.{place_before, place_within}
use Rattle.member_arguments.specs.Arguments.{int_at, object_at}
use Rattle.api_text.specs.Writing.{told_of}

-- what arguments come to
two_need : {A B : Type 0} (a : Option A) (b : Option B) (f : A → B → Outcome) → ((x : A) (y : B) → NeedsMemory (f x y)) → NeedsMemory (with_two f a b)
two_need None b f h = tt
two_need (Some x) None f h = tt
two_need (Some x) (Some y) f h = h x y

three_need : {A B C : Type 0} (a : Option A) (b : Option B) (c : Option C) (f : A → B → C → Outcome) → ((x : A) (y : B) (z : C) → NeedsMemory (f x y z)) → NeedsMemory (with_three f a b c)
three_need None b c f h = tt
three_need (Some x) None c f h = tt
three_need (Some x) (Some y) None f h = tt
three_need (Some x) (Some y) (Some z) f h = h x y z

-- what is done with the text of a walk, and the exceptions of a walk
pub walk_needs : (walk : Text) (next : List ℕ → Outcome) → ((text : List ℕ) → NeedsMemory (next text)) → NeedsMemory (followed_by walk next)
unfolding says
walk_needs (Wrote text visits) next h = h text
walk_needs TooDeep next h = tt
walk_needs TooLarge next h = tt

pub text_needs : (walk : Text) → NeedsMemory (followed_by walk Makes)
text_needs walk = walk_needs walk Makes (λ text. tt)

pub told_needs : (out : Output) → NeedsMemory (told_of out)
told_needs (Kept units room) = tt
told_needs Over = tt

pub appended_needs : (objects : List Object) (builder : ℕ) (value : Value) → NeedsMemory (appended objects builder value)
appended_needs objects builder value = walk_needs (text_of objects value VISITS) (Extends builder) (λ text. tt)

put_needs : (builder : ℕ) (units : List ℕ) (at : ℤ) (text : List ℕ) (place : Option ℕ) → NeedsMemory (put_in builder units at text place)
unfolding says
put_needs builder units at text None = tt
put_needs builder units at text (Some place) = tt

inserted_needs : (objects : List Object) (builder : ℕ) (at : ℤ) (value : Value) → NeedsMemory (inserted objects builder at value)
inserted_needs objects builder at value =
    walk_needs (text_of objects value VISITS) (put_at builder (units_of objects builder) at) (λ text. put_needs builder (units_of objects builder) at text (place_within 0 (length (units_of objects builder)) at))

pub insert_needs : (objects : List Object) (arguments : List Value) → NeedsMemory (insert objects arguments)
insert_needs objects arguments = three_need (object_at arguments 0) (int_at arguments 1) (slice_get arguments 2) (inserted objects) (inserted_needs objects)

there_needs : (builder : ℕ) (units : List ℕ) (at : ℤ) (place : Option ℕ) → NeedsMemory (deleted_in builder units at place)
unfolding says
there_needs builder units at None = tt
there_needs builder units at (Some place) = tt

deleted_needs : (objects : List Object) (builder : ℕ) (at : ℤ) → NeedsMemory (deleted objects builder at)
deleted_needs objects builder at = there_needs builder (units_of objects builder) at (place_before (length (units_of objects builder)) at)

pub delete_needs : (objects : List Object) (arguments : List Value) → NeedsMemory (delete_char_at objects arguments)
delete_needs objects arguments = two_need (object_at arguments 0) (int_at arguments 1) (deleted objects) (deleted_needs objects)

set_needs : (builder : ℕ) (units : List ℕ) (count : ℤ) → NeedsMemory (set_to builder units count)
unfolding says
set_needs builder units (pos count) = tt
set_needs builder units (negsuc n) = tt

pub length_needs : (objects : List Object) (arguments : List Value) → NeedsMemory (set_length objects arguments)
length_needs objects arguments = two_need (object_at arguments 0) (int_at arguments 1) (resized objects) (λ builder count. set_needs builder (units_of objects builder) count)

-- what makes something may be answered in any way
pub wants : (told : Outcome) (answer : Answer) → NeedsMemory told → WantsMemory told answer
wants told (a.Value value) h = tt
wants told (a.Thrown id) h = tt
wants told a.Room h = tt
wants told a.NoMemory h = h
