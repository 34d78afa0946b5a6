-- String.join: the texts of the elements of a list, a set or a view, with a text between each two.
use Rattle.std.specs.Prelude.{◌≡◌, ℕ, zero, suc, Option, Some, None, List, [], ◌∷◌, ◌++◌, map, slice_get}
use Rattle.object_values.specs.declared.object.Object.{Object}
use Rattle.object_values.specs.declared.object.Object.TheVariants as o
use Rattle.object_values.specs.declared.object.Part.{Part}
use Rattle.object_values.specs.declared.object.Part.TheVariants as part
use Rattle.object_values.specs.declared.value.Value.{Value}
use Rattle.object_heap.specs.Parts.{map_of, pairs_in}
use Rattle.value_walks.specs.declared.TheConstants.{VISITS}
use Rattle.value_walks.specs.declared.error.TextErr.{TextErr}
use Rattle.value_walks.specs.declared.error.TextErr.TheVariants.{Deep, Large, NoMemory}
use Rattle.value_walks.specs.Texts.{Node, AValue, AnEntry, Text, text_of, entry_text_of}
use Rattle.api_text.specs.declared.outcome.Outcome.{Outcome}
use Rattle.api_text.specs.declared.outcome.Outcome.TheVariants.{Makes}
use Rattle.member_arguments.specs.Arguments.{object_at, sequence_at}
use Rattle.api_text.specs.Arguments.{with_two}
use Rattle.api_text.specs.Outcomes.{NeedsMemory, followed_by, too_deep, too_large}

-- the element that a view shows of a pair; an entry is no value, and no object is made for it
abbrev pub element_of : Part → Value × Value → Node
element_of part.Keys pair = AValue pair.0
element_of part.Values pair = AValue pair.1
element_of part.Entries pair = AnEntry pair.0 pair.1

-- the elements of a list, a set or a view in their order
abbrev pub object_elements : List Object → Object → List Node
object_elements objects (o.List class items guard changes) = map AValue items
object_elements objects (o.Set class items guard changes) = map (element_of part.Keys) items
object_elements objects (o.View of part) = map (element_of part) (pairs_in (map_of objects of))
object_elements objects object = []

abbrev pub elements_in : List Object → Option Object → List Node
elements_in objects None = []
elements_in objects (Some object) = object_elements objects object

abbrev pub elements_of : List Object → ℕ → List Node
elements_of objects id = elements_in objects (slice_get objects id)

-- the text of an element, by a walk of its own
abbrev pub element_text : List Object → Node → Text
element_text objects (AValue value) = text_of objects value VISITS
element_text objects (AnEntry key value) = entry_text_of objects key value VISITS

-- the texts of elements, one after the other, and what they come to together
abbrev pub with_texts : List Object → List Node → (List (List ℕ) → Outcome) → Outcome
with_texts objects [] next = next []
with_texts objects (element ∷ elements) next = followed_by (element_text objects element) (λ text. with_texts objects elements (λ texts. next (text ∷ texts)))

-- further texts, each behind the text between
abbrev pub more_joined : List ℕ → List (List ℕ) → List ℕ
more_joined between [] = []
more_joined between (text ∷ texts) = between ++ text ++ more_joined between texts

abbrev pub joined : List ℕ → List (List ℕ) → List ℕ
joined between [] = []
joined between (text ∷ texts) = text ++ more_joined between texts

-- what stands before the element at a place
abbrev pub separator : List ℕ → ℕ → List ℕ
separator between zero = []
separator between (suc at) = between

abbrev pub joined_elements : List Object → List ℕ → List Node → Outcome
joined_elements objects between elements = with_texts objects elements (λ texts. Makes (joined between texts))

abbrev pub joined_of : List Object → List ℕ → ℕ → Outcome
joined_of objects between id = joined_elements objects between (elements_of objects id)

-- what comes of a walk that stopped
abbrev pub Stopped : Outcome → TextErr → Type 0
Stopped told Deep = told ≡ too_deep
Stopped told Large = told ≡ too_large
Stopped told NoMemory = NeedsMemory told

-- join
abbrev pub join : List Object → List Value → Outcome
join objects arguments = with_two (joined_of objects) (sequence_at objects arguments 0) (object_at arguments 1)
