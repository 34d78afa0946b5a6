-- Asking for all elements of a collection, and items that stay behind one another.
use Rattle.std.proofs.Common.{◌≡◌, ℕ, ◌+◌, List, Some, [], ◌∷◌, ◌++◌, drop, slice_get, refl, ap, sym, ◌∙◌, append_assoc, append-nil, Err}
use Rattle.object_values.specs.declared.value.Value.{Value}
use Rattle.container_outcomes.proofs.Stepping.{got}
use Rattle.object_heap.specs.Fits.{AllFit, ValueFits}
use Rattle.container_outcomes.specs.declared.comparing.Compared.{Compared}
use Rattle.container_outcomes.specs.Outcomes.{NeedsMemory, says}
use Rattle.api_map.specs.declared.bulk.Choice.{Choice}
use Rattle.api_map.specs.declared.bulk.Choice.TheVariants as choice
use Rattle.api_map.specs.declared.bulk.SiftErr.{SiftErr}
use Rattle.api_map.specs.declared.bulk.SiftErr.TheVariants as sift_err
use Rattle.api_list.specs.Bulk.{all_there, and_then, chosen, list_left, sift, Left, Put, Sifted, Sifts, Stops, TooDeep, TooLarge}

-- ---- containsAll

pub there_step : (test : Value → Compared) (values : List Value) (at : ℕ) (value : Value) (is : Compared) → slice_get values at ≡ Some value → test value ≡ is
    → all_there test (drop at values) ≡ and_then is (all_there test (drop (at + 1) values))
there_step test values at value is h e =
    ap (λ (rest : List Value). all_there test rest) (got values at value h) ∙ ap (λ (x : Compared). and_then x (all_there test (drop (at + 1) values))) e

-- ---- removeAll and retainAll

-- a list with the items that stay is made
pub list_needs : (id class changes before : ℕ) (sifted : Sifted) → NeedsMemory (list_left id class changes before sifted)
unfolding says
list_needs id class changes before (Left left) = tt
list_needs id class changes before TooDeep = tt
list_needs id class changes before TooLarge = tt

-- items that stay, behind others
abbrev pub behind : List Value → Sifted → Sifted
behind left (Left more) = Left (left ++ more)
behind left TooDeep = TooDeep
behind left TooLarge = TooLarge

behind_put : (is : Choice) (item : Value) (old new : List Value) (rest : Sifted) → Put is item old new → behind old (chosen is item rest) ≡ behind new rest
behind_put choice.Stays item old new (Left more) h =
    ap (λ (items : List Value). Left items) (sym (append_assoc old (item ∷ []) more)) ∙ ap (λ (items : List Value). Left (items ++ more)) (sym h)
behind_put choice.Stays item old new TooDeep h = refl
behind_put choice.Stays item old new TooLarge h = refl
behind_put choice.Goes item old new rest h = ap (λ (left : List Value). behind left rest) (sym h)
behind_put choice.Deep item old new rest h = absurd h
behind_put choice.Large item old new rest h = absurd h

sift_step : (choose : Value → Choice) (items left : List Value) (at : ℕ) (item : Value) → slice_get items at ≡ Some item
    → behind left (sift choose (drop at items)) ≡ behind left (chosen (choose item) item (sift choose (drop (at + 1) items)))
sift_step choose items left at item h = ap (λ (rest : List Value). behind left (sift choose rest)) (got items at item h)

pub sift_goes : (choose : Value → Choice) (items old new : List Value) (at : ℕ) (item : Value) → slice_get items at ≡ Some item → Put (choose item) item old new
    → behind [] (sift choose items) ≡ behind old (sift choose (drop at items)) → behind [] (sift choose items) ≡ behind new (sift choose (drop (at + 1) items))
sift_goes choose items old new at item h p i = i ∙ (sift_step choose items old at item h ∙ behind_put (choose item) item old new (sift choose (drop (at + 1) items)) p)

pub none_behind : (sifted : Sifted) → sifted ≡ behind [] sifted
none_behind (Left items) = refl
none_behind TooDeep = refl
none_behind TooLarge = refl

pub sift_stops : (choose : Value → Choice) (items left : List Value) (at : ℕ) (item : Value) (cause : SiftErr) → slice_get items at ≡ Some item → Stops (choose item) cause
    → behind [] (sift choose items) ≡ behind left (sift choose (drop at items)) → Sifts (sift choose items) (Err cause)
sift_stops choose items left at item sift_err.Deep h e i =
    none_behind (sift choose items) ∙ (i ∙ sift_step choose items left at item h ∙ ap (λ (is : Choice). behind left (chosen is item (sift choose (drop (at + 1) items)))) e)
sift_stops choose items left at item sift_err.Large h e i =
    none_behind (sift choose items) ∙ (i ∙ sift_step choose items left at item h ∙ ap (λ (is : Choice). behind left (chosen is item (sift choose (drop (at + 1) items)))) e)
sift_stops choose items left at item sift_err.NoMemory h e i = tt

pub sift_ends : (left : List Value) → behind left (Left []) ≡ Left left
sift_ends left = ap (λ (items : List Value). Left items) (append-nil left)

-- items that are there stay so
abbrev pub LeftFit : ℕ → Sifted → Type 0
LeftFit n (Left items) = AllFit n items
LeftFit n sifted = Unit {0}

chosen_fit : (n : ℕ) (is : Choice) (item : Value) (rest : Sifted) → ValueFits n item → LeftFit n rest → LeftFit n (chosen is item rest)
chosen_fit n choice.Stays item (Left more) h f = (h, f)
chosen_fit n choice.Stays item TooDeep h f = tt
chosen_fit n choice.Stays item TooLarge h f = tt
chosen_fit n choice.Goes item rest h f = f
chosen_fit n choice.Deep item rest h f = tt
chosen_fit n choice.Large item rest h f = tt

pub sift_fit : (n : ℕ) (choose : Value → Choice) (items : List Value) → AllFit n items → LeftFit n (sift choose items)
sift_fit n choose [] f = tt
sift_fit n choose (item ∷ items) f = chosen_fit n (choose item) item (sift choose items) f.0 (sift_fit n choose items f.1)
