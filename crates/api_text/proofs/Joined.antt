-- Texts of elements that are joined, one after the other.
use Rattle.std.proofs.Common.{◌≡◌, ℕ, zero, suc, ◌+◌, ◌-◌, List, [], ◌∷◌, ◌++◌, length, inl, inr, refl, ap, sym, subst, ◌∙◌, arith, add-one}
use Rattle.std.specs.Prelude.{Ok, Err}
use Rattle.std.proofs.lemmas.Bool.{cases_lt}
use Rattle.object_values.specs.declared.object.Object.{Object}
use Rattle.object_heap.specs.Effects.{NoRoom}
use Rattle.object_heap.specs.Store.{Store}
use Rattle.value_walks.specs.declared.error.TextErr.{TextErr}
use Rattle.value_walks.specs.declared.error.TextErr.TheVariants.{Deep, Large, NoMemory}
use Rattle.value_walks.specs.declared.outputs.Output.{Output}
use Rattle.value_walks.specs.declared.outputs.Output.TheVariants.{Kept}
use Rattle.value_walks.specs.Outputs.{put}
use Rattle.value_walks.specs.Texts.{Node, Text, Wrote, TooDeep, TooLarge, Writes}
use Rattle.value_walks.proofs.Putting.{put_beyond, put_nothing, put_put, put_within}
use Rattle.api_text.specs.declared.outcome.Outcome.{Outcome}
use Rattle.api_text.specs.declared.outcome.Outcome.TheVariants as outcome
use Rattle.api_text.specs.Joining.{Stopped, element_text, joined, joined_elements, more_joined, separator, with_texts}
use Rattle.api_text.specs.Outcomes.{NeedsMemory, Tells, effect, followed_by}
use Rattle.api_text.specs.Writing.{told_of}
use Rattle.api_text.proofs.Needing.{told_needs, walk_needs}
use Rattle.api_text.proofs.Room.{no_room_for_text}

-- texts from a place on
abbrev pub rest_joined : List ℕ → ℕ → List (List ℕ) → List ℕ
rest_joined between zero texts = joined between texts
rest_joined between (suc at) texts = more_joined between texts

-- the texts of elements, joined and written to an output with room for so many units
abbrev pub within : ℕ → List Object → List ℕ → List Node → Outcome
within room objects between elements = with_texts objects elements (λ texts. told_of (put (Kept [] room) (joined between texts)))

-- behind what is written, the elements from a place on
abbrev pub behind : List Object → List ℕ → ℕ → Output → List Node → Outcome
behind objects between at out elements = with_texts objects elements (λ texts. told_of (put out (rest_joined between at texts)))

followed_alike : (walk : Text) (f g : List ℕ → Outcome) → ((text : List ℕ) → f text ≡ g text) → followed_by walk f ≡ followed_by walk g
followed_alike (Wrote text visits) f g h = h text
followed_alike TooDeep f g h = refl
followed_alike TooLarge f g h = refl

alike : (objects : List Object) (elements : List Node) (f g : List (List ℕ) → Outcome) → ((texts : List (List ℕ)) → f texts ≡ g texts)
    → with_texts objects elements f ≡ with_texts objects elements g
alike objects [] f g h = h []
alike objects (element ∷ elements) f g h =
    followed_alike (element_text objects element) _ _ (λ text. alike objects elements (λ texts. f (text ∷ texts)) (λ texts. g (text ∷ texts)) (λ texts. h (text ∷ texts)))

one_more : (between : List ℕ) (at : ℕ) (out new : Output) (text : List ℕ) (texts : List (List ℕ)) → put (put out (separator between at)) text ≡ new
    → put out (rest_joined between at (text ∷ texts)) ≡ put new (more_joined between texts)
one_more between zero out new text texts e =
    let same : put out text ≡ new = ap (λ (o : Output). put o text) (sym (put_nothing out)) ∙ e in
    sym (put_put out text (more_joined between texts)) ∙ ap (λ (o : Output). put o (more_joined between texts)) same
one_more between (suc at) out new text texts e =
    let same : put out (between ++ text) ≡ new = sym (put_put out between text) ∙ e in
    sym (put_put out (between ++ text) (more_joined between texts)) ∙ ap (λ (o : Output). put o (more_joined between texts)) same

-- the text of one element more
next_walk : (objects : List Object) (between : List ℕ) (at : ℕ) (out new : Output) (elements : List Node) (walk : Text) (visits : ℕ)
    → Writes walk (put out (separator between at)) new (Ok visits)
    → followed_by walk (λ text. with_texts objects elements (λ texts. told_of (put out (rest_joined between at (text ∷ texts))))) ≡ behind objects between (suc at) new elements
next_walk objects between at out new elements (Wrote text left) visits h =
    let e : put (put out (separator between at)) text ≡ new = cc in
    alike objects elements _ _ (λ texts. ap told_of (one_more between at out new text texts e))
next_walk objects between at out new elements TooDeep visits h = absurd (cc)
next_walk objects between at out new elements TooLarge visits h = absurd (cc)

pub next : (objects : List Object) (between : List ℕ) (at : ℕ) (out new : Output) (element : Node) (elements : List Node) (visits : ℕ)
    → Writes (element_text objects element) (put out (separator between at)) new (Ok visits)
    → behind objects between at out (element ∷ elements) ≡ behind objects between (at + 1) new elements
next objects between at out new element elements visits h =
    next_walk objects between at out new elements (element_text objects element) visits h ∙ ap (λ (n : ℕ). behind objects between n new elements) (sym (add-one at))

-- joined texts are made
texts_need : (objects : List Object) (elements : List Node) (f : List (List ℕ) → Output) → NeedsMemory (with_texts objects elements (λ texts. told_of (f texts)))
texts_need objects [] f = told_needs (f [])
texts_need objects (element ∷ elements) f = walk_needs (element_text objects element) _ (λ text. texts_need objects elements (λ texts. f (text ∷ texts)))

-- a walk that stops
stopped_walk : (walk : Text) (more : List ℕ → Outcome) (old new : Output) (cause : TextErr) → Writes walk old new (Err cause)
    → NeedsMemory (followed_by walk more) → Stopped (followed_by walk more) cause
stopped_walk walk more old new Deep h m = ap (λ (w : Text). followed_by w more) h
stopped_walk walk more old new Large h m = ap (λ (w : Text). followed_by w more) h
stopped_walk walk more old new NoMemory h m = m

pub stops : (objects : List Object) (between : List ℕ) (at : ℕ) (out old new : Output) (element : Node) (elements : List Node) (cause : TextErr)
    → Writes (element_text objects element) old new (Err cause) → Stopped (behind objects between at out (element ∷ elements)) cause
stops objects between at out old new element elements cause h =
    stopped_walk (element_text objects element) _ old new cause h (texts_need objects (element ∷ elements) (λ texts. put out (rest_joined between at texts)))

-- ---- behind the last element

rest_none : (between : List ℕ) (at : ℕ) → rest_joined between at [] ≡ []
rest_none between zero = refl
rest_none between (suc at) = refl

pub ended : (objects : List Object) (between : List ℕ) (at : ℕ) (out : Output) → behind objects between at out [] ≡ told_of out
ended objects between at out = ap told_of (ap (put out) (rest_none between at) ∙ put_nothing out)

-- ---- what is not made for want of room

refused : (store : Store) (text : List ℕ) (result : Outcome) → effect store (outcome.Makes text) ≡ NoRoom → Tells store outcome.NoRoom result → Tells store (outcome.Makes text) result
refused store text outcome.NoRoom e h = e
refused store text outcome.NoMemory e h = tt
refused store text other e h = absurd (cc)

text_told : (store : Store) (text : List ℕ) (result : Outcome) → Tells store (told_of (put (Kept [] (store.room - 1)) text)) result → Tells store (outcome.Makes text) result
text_told store text result h = elim (cases_lt (store.room - 1) (length text)) [
  | inl l ↦ refused store text result (no_room_for_text store text (omega arith))
      (subst (λ (o : Output). Tells store (told_of o) result) (put_beyond [] text (store.room - 1) l) h)
  | inr g ↦ subst (λ (o : Output). Tells store (told_of o) result) (put_within [] text (store.room - 1) g) h
]

walk_told : (store : Store) (walk : Text) (f g : List ℕ → Outcome) (result : Outcome) → ((text : List ℕ) → Tells store (f text) result → Tells store (g text) result)
    → Tells store (followed_by walk f) result → Tells store (followed_by walk g) result
walk_told store (Wrote text visits) f g result k h = k text h
walk_told store TooDeep f g result k h = h
walk_told store TooLarge f g result k h = h

texts_told : (store : Store) (elements : List Node) (f : List (List ℕ) → List ℕ) (result : Outcome)
    → Tells store (with_texts store.objects elements (λ texts. told_of (put (Kept [] (store.room - 1)) (f texts)))) result
    → Tells store (with_texts store.objects elements (λ texts. outcome.Makes (f texts))) result
texts_told store [] f result h = text_told store (f []) result h
texts_told store (element ∷ elements) f result h =
    walk_told store (element_text store.objects element) _ _ result (λ text. texts_told store elements (λ texts. f (text ∷ texts)) result) h

pub joined_told : (store : Store) (between : List ℕ) (elements : List Node) (result : Outcome)
    → Tells store (within (store.room - 1) store.objects between elements) result → Tells store (joined_elements store.objects between elements) result
joined_told store between elements result h = texts_told store elements (joined between) result h
