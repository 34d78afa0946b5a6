-- What a call answers.
use Rattle.std.specs.Prelude.{◌≡◌, ℕ, true, Option, Some, None, List, ◌⊎◌}
use Rattle.pl_types.specs.Host.{no_host}
use Rattle.object_values.specs.declared.object.Object.{Object}
use Rattle.object_values.specs.declared.value.Value.{Value}
use Rattle.object_heap.specs.declared.answer.Answer.{Answer}
use Rattle.object_heap.specs.declared.answer.Answer.TheVariants as a
use Rattle.object_heap.specs.Effects.{Effect, Answers}
use Rattle.object_heap.specs.Fits.{Rules, Fits, AnswerFits}
use Rattle.object_heap.specs.Store.{Store}
use Rattle.number_ops.specs.Members as numbers
use Rattle.number_ops.specs.Outcomes as number_outcomes
use Rattle.api_text.specs.Members as texts
use Rattle.api_text.specs.Outcomes as text_outcomes
use Rattle.container_calls.specs.Answers as containers
use Rattle.container_calls.specs.Members.{is_of_containers}
use Rattle.member_calls.specs.Members.{is_of_numbers, is_of_texts, is_of_host, asked_of_host}

-- a call answers where the member is built, and then its effect; else the heap is as before
abbrev pub AnswersIfBuilt : Option Effect → Store → Store → Option Answer → Type 0
AnswersIfBuilt (Some effect) old new (Some answer) = Answers effect old new answer
AnswersIfBuilt (Some effect) old new None = ⊥
AnswersIfBuilt None old new (Some answer) = ⊥
AnswersIfBuilt None old new None = new ≡ old

-- a member of numbers, of texts or of a host that gives none takes memory where something is made, and one of containers where its
-- function does
abbrev pub NeedsMemory : List Object → ℕ → List Value → Type 0
NeedsMemory objects number arguments =
    ((is_of_numbers number ≡ true) × number_outcomes.NeedsMemory (numbers.does_numbered objects number arguments))
    ⊎ (((is_of_texts number ≡ true) × text_outcomes.NeedsMemory (texts.does_numbered objects number arguments))
    ⊎ (((is_of_containers number ≡ true) × containers.NeedsMemory objects number arguments)
    ⊎ ((is_of_host number ≡ true) × text_outcomes.NeedsMemory (asked_of_host no_host number arguments))))

-- a call answers want of memory only there
abbrev pub WantsMemory : List Object → ℕ → List Value → Option Answer → Type 0
WantsMemory objects number arguments None = Unit {0}
WantsMemory objects number arguments (Some a.NoMemory) = NeedsMemory objects number arguments
WantsMemory objects number arguments (Some answer) = Unit {0}

-- what a call answers fits the store that it leaves
abbrev pub CallFits : Rules → Store → Option Answer → Type 0
CallFits rules store None = Fits rules store.objects
CallFits rules store (Some answer) = AnswerFits rules store answer
