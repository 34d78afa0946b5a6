-- What a call says of memory, by whose the member is.
use Rattle.std.proofs.Common.{◌≡◌, ℕ, true, Some, List, inl, inr}
use Rattle.object_values.specs.declared.object.Object.{Object}
use Rattle.object_values.specs.declared.value.Value.{Value}
use Rattle.object_heap.specs.declared.answer.Answer.{Answer}
use Rattle.object_heap.specs.declared.answer.Answer.TheVariants as a
use Rattle.number_ops.specs.Members as numbers
use Rattle.number_ops.specs.Outcomes as number_outcomes
use Rattle.api_text.specs.Members as texts
use Rattle.api_text.specs.Outcomes as text_outcomes
use Rattle.container_calls.specs.Answers as containers
use Rattle.container_calls.specs.Members.{is_of_containers}
use Rattle.member_calls.specs.Answers.{WantsMemory}
use Rattle.member_calls.specs.Members.{is_of_numbers, is_of_texts, is_of_host}

pub numbers_want : (objects : List Object) (number : ℕ) (arguments : List Value) (answer : Answer) → is_of_numbers number ≡ true
    → number_outcomes.WantsMemory (numbers.does_numbered objects number arguments) answer → WantsMemory objects number arguments (Some answer)
numbers_want objects number arguments (a.Value value) h w = tt
numbers_want objects number arguments (a.Thrown id) h w = tt
numbers_want objects number arguments a.Room h w = tt
numbers_want objects number arguments a.NoMemory h w = inl (h, w)

pub texts_want : (objects : List Object) (number : ℕ) (arguments : List Value) (answer : Answer) → is_of_texts number ≡ true
    → text_outcomes.WantsMemory (texts.does_numbered objects number arguments) answer → WantsMemory objects number arguments (Some answer)
texts_want objects number arguments (a.Value value) h w = tt
texts_want objects number arguments (a.Thrown id) h w = tt
texts_want objects number arguments a.Room h w = tt
texts_want objects number arguments a.NoMemory h w = inr (inl (h, w))

pub containers_want : (objects : List Object) (number : ℕ) (arguments : List Value) (answer : Answer) → is_of_containers number ≡ true
    → containers.WantsMemory objects number arguments answer → WantsMemory objects number arguments (Some answer)
containers_want objects number arguments (a.Value value) h w = tt
containers_want objects number arguments (a.Thrown id) h w = tt
containers_want objects number arguments a.Room h w = tt
containers_want objects number arguments a.NoMemory h w = inr (inr (inl (h, w)))

pub host_wants : (objects : List Object) (number : ℕ) (arguments : List Value) (answer : Answer) → is_of_host number ≡ true → WantsMemory objects number arguments (Some answer)
unfolding text_outcomes.says
host_wants objects number arguments (a.Value value) h = tt
host_wants objects number arguments (a.Thrown id) h = tt
host_wants objects number arguments a.Room h = tt
host_wants objects number arguments a.NoMemory h = inr (inr (inr (h, tt)))
