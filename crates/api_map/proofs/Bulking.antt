-- Steps of the loops that ask for each element of another collection, and what the pairs that stay keep.
use Rattle.std.proofs.Common.{◌≡◌, ℕ, ◌+◌, Bool, true, false, Some, None, List, [], ◌∷◌, Err, drop, slice_get, refl, ap, sym, ◌∙◌, subst, if◌then◌else◌}
use Rattle.object_values.specs.declared.value.Value.{Value}
use Rattle.object_values.specs.declared.value.Value.TheVariants as v
use Rattle.object_values.specs.Pairs.{HasDistinctKeys, value_of, with_pairs}
use Rattle.object_values.specs.Values.{is_simple, same_value}
use Rattle.object_heap.specs.Fits.{KeysFit, PairsFit, ValueFits}
use Rattle.value_walks.proofs.Stepping.{got}
use Rattle.api_map.specs.declared.bulk.Choice.{Choice}
use Rattle.api_map.specs.declared.bulk.Choice.TheVariants as choice
use Rattle.api_map.specs.declared.bulk.SiftErr.{SiftErr}
use Rattle.api_map.specs.declared.bulk.SiftErr.TheVariants as sift_err
use Rattle.container_outcomes.specs.declared.outcome.Outcome.{Outcome}
use Rattle.container_outcomes.specs.declared.outcome.Outcome.TheVariants as outcome
use Rattle.container_outcomes.specs.declared.comparing.Compared.{Compared}
use Rattle.api_map.specs.Bulk.{Put, Sifted, Left, TooDeep, TooLarge, Sifts, Stops, chosen, each_found, found_and, is_true, sift}
use Rattle.api_map.specs.Holding.{among, or_else}
use Rattle.container_outcomes.specs.Outcomes.{NeedsMemory, Tells, flag}
use Rattle.api_map.proofs.Copying.{absent_one, absent_rest, all_copied}

-- ---- searches

pub among_step : (test : Value → Compared) (values : List Value) (at : ℕ) (value : Value) (is : Compared) → slice_get values at ≡ Some value → test value ≡ is
    → among test (drop at values) ≡ or_else is (among test (drop (at + 1) values))
among_step test values at value is h e = ap (λ (rest : List Value). among test rest) (got values at value h) ∙ ap (λ (x : Compared). or_else x (among test (drop (at + 1) values))) e

-- ---- containsAll

each_step : (found : Value → Outcome) (values : List Value) (at : ℕ) (value : Value) → slice_get values at ≡ Some value → each_found found (drop at values) ≡ found_and (found value) (each_found found (drop (at + 1) values))
each_step found values at value h = ap (λ (rest : List Value). each_found found rest) (got values at value h)

-- an outcome that is not true ends it
given_stops : (value : Value) (rest : Outcome) → is_true (outcome.Gives value) ≡ false → found_and (outcome.Gives value) rest ≡ outcome.Gives value
given_stops (v.Bool true) rest h = cc
given_stops (v.Bool false) rest h = refl
given_stops value rest h = refl

needs_stops : (asked rest : Outcome) → NeedsMemory asked → NeedsMemory (found_and asked rest)
needs_stops (outcome.Gives (v.Str text)) rest h = h
needs_stops (outcome.Gives value) rest h = cc
needs_stops asked rest h = h

same_stops : (asked told rest : Outcome) → asked ≡ told → found_and told rest ≡ told → found_and asked rest ≡ told
same_stops asked told rest e h = ap (λ (x : Outcome). found_and x rest) e ∙ h

pub stops : (asked told rest : Outcome) → Tells asked told → is_true told ≡ false → Tells (found_and asked rest) told
stops asked (outcome.Gives value) rest h e = same_stops asked (outcome.Gives value) rest h (given_stops value rest e)
stops asked outcome.NoMemory rest h e = needs_stops asked rest h
stops asked (outcome.Writes text) rest h e = same_stops asked (outcome.Writes text) rest h refl
stops asked (outcome.New object) rest h e = same_stops asked (outcome.New object) rest h refl
stops asked (outcome.Makes before object) rest h e = same_stops asked (outcome.Makes before object) rest h refl
stops asked (outcome.Inserts id at item value) rest h e = same_stops asked (outcome.Inserts id at item value) rest h refl
stops asked (outcome.Extends id at items value) rest h e = same_stops asked (outcome.Extends id at items value) rest h refl
stops asked (outcome.Sets id at item) rest h e = same_stops asked (outcome.Sets id at item) rest h refl
stops asked (outcome.SetsTwo id at item other_at other) rest h e = same_stops asked (outcome.SetsTwo id at item other_at other) rest h refl
stops asked (outcome.Cuts id at) rest h e = same_stops asked (outcome.Cuts id at) rest h refl
stops asked (outcome.Drops id at) rest h e = same_stops asked (outcome.Drops id at) rest h refl
stops asked (outcome.Puts id key value) rest h e = same_stops asked (outcome.Puts id key value) rest h refl
stops asked (outcome.Adds id key) rest h e = same_stops asked (outcome.Adds id key) rest h refl
stops asked (outcome.PutsAll id pairs) rest h e = same_stops asked (outcome.PutsAll id pairs) rest h refl
stops asked (outcome.AddsAll id keys) rest h e = same_stops asked (outcome.AddsAll id keys) rest h refl
stops asked (outcome.CutsKey id key) rest h e = same_stops asked (outcome.CutsKey id key) rest h refl
stops asked (outcome.DropsKey id key) rest h e = same_stops asked (outcome.DropsKey id key) rest h refl
stops asked (outcome.DropsEntry id key) rest h e = same_stops asked (outcome.DropsEntry id key) rest h refl
stops asked (outcome.CutsPair id at) rest h e = same_stops asked (outcome.CutsPair id at) rest h refl
stops asked (outcome.Empties id object) rest h e = same_stops asked (outcome.Empties id object) rest h refl
stops asked (outcome.Becomes id object value) rest h e = same_stops asked (outcome.Becomes id object value) rest h refl
stops asked (outcome.Throws raised message) rest h e = same_stops asked (outcome.Throws raised message) rest h refl

-- one that is true does not
given_true : (value : Value) → is_true (outcome.Gives value) ≡ true → outcome.Gives value ≡ flag true
given_true (v.Bool true) h = refl
given_true (v.Bool false) h = cc
given_true value h = cc

goes : (asked told rest : Outcome) → Tells asked told → is_true told ≡ true → found_and asked rest ≡ rest
goes asked (outcome.Gives value) rest h e = ap (λ (x : Outcome). found_and x rest) (h ∙ given_true value e)
goes asked told rest h e = cc

pub each_stops : (found : Value → Outcome) (values : List Value) (at : ℕ) (value : Value) (told : Outcome) → slice_get values at ≡ Some value → Tells (found value) told → is_true told ≡ false
    → each_found found values ≡ each_found found (drop at values) → Tells (each_found found values) told
each_stops found values at value told h t e i =
    subst (λ (x : Outcome). Tells x told) (sym (i ∙ each_step found values at value h)) (stops (found value) told (each_found found (drop (at + 1) values)) t e)

pub each_goes : (found : Value → Outcome) (values : List Value) (at : ℕ) (value : Value) (told : Outcome) → slice_get values at ≡ Some value → Tells (found value) told → is_true told ≡ true
    → each_found found values ≡ each_found found (drop at values) → each_found found values ≡ each_found found (drop (at + 1) values)
each_goes found values at value told h t e i = i ∙ (each_step found values at value h ∙ goes (found value) told (each_found found (drop (at + 1) values)) t e)

-- ---- removeAll and retainAll

-- pairs that stay, put behind others
abbrev pub into : List (Value × Value) → Sifted → Sifted
into left (Left more) = Left (with_pairs left more)
into left TooDeep = TooDeep
into left TooLarge = TooLarge

into_put : (is : Choice) (pair : Value × Value) (old new : List (Value × Value)) (rest : Sifted) → Put is pair old new → into old (chosen is pair rest) ≡ into new rest
into_put choice.Stays pair old new (Left more) h = ap (λ (left : List (Value × Value)). Left (with_pairs left more)) (sym h)
into_put choice.Stays pair old new TooDeep h = refl
into_put choice.Stays pair old new TooLarge h = refl
into_put choice.Goes pair old new rest h = ap (λ (left : List (Value × Value)). into left rest) (sym h)
into_put choice.Deep pair old new rest h = absurd h
into_put choice.Large pair old new rest h = absurd h

sift_step : (choose : Value × Value → Choice) (pairs left : List (Value × Value)) (at : ℕ) (pair : Value × Value) → slice_get pairs at ≡ Some pair
    → into left (sift choose (drop at pairs)) ≡ into left (chosen (choose pair) pair (sift choose (drop (at + 1) pairs)))
sift_step choose pairs left at pair h = ap (λ (rest : List (Value × Value)). into left (sift choose rest)) (got pairs at pair h)

pub sift_goes : (choose : Value × Value → Choice) (pairs old new : List (Value × Value)) (at : ℕ) (pair : Value × Value) → slice_get pairs at ≡ Some pair → Put (choose pair) pair old new
    → into [] (sift choose pairs) ≡ into old (sift choose (drop at pairs)) → into [] (sift choose pairs) ≡ into new (sift choose (drop (at + 1) pairs))
sift_goes choose pairs old new at pair h p i = i ∙ (sift_step choose pairs old at pair h ∙ into_put (choose pair) pair old new (sift choose (drop (at + 1) pairs)) p)

into_deep : (left : List (Value × Value)) (sifted : Sifted) → into left sifted ≡ TooDeep → sifted ≡ TooDeep
into_deep left (Left more) h = cc
into_deep left TooDeep h = refl
into_deep left TooLarge h = cc

into_large : (left : List (Value × Value)) (sifted : Sifted) → into left sifted ≡ TooLarge → sifted ≡ TooLarge
into_large left (Left more) h = cc
into_large left TooDeep h = cc
into_large left TooLarge h = refl

pub sift_stops : (choose : Value × Value → Choice) (pairs left : List (Value × Value)) (at : ℕ) (pair : Value × Value) (cause : SiftErr) → slice_get pairs at ≡ Some pair → Stops (choose pair) cause
    → into [] (sift choose pairs) ≡ into left (sift choose (drop at pairs)) → Sifts (sift choose pairs) (Err cause)
sift_stops choose pairs left at pair sift_err.Deep h e i =
    into_deep [] (sift choose pairs) (i ∙ (sift_step choose pairs left at pair h ∙ ap (λ (is : Choice). into left (chosen is pair (sift choose (drop (at + 1) pairs)))) e))
sift_stops choose pairs left at pair sift_err.Large h e i =
    into_large [] (sift choose pairs) (i ∙ (sift_step choose pairs left at pair h ∙ ap (λ (is : Choice). into left (chosen is pair (sift choose (drop (at + 1) pairs)))) e))
sift_stops choose pairs left at pair sift_err.NoMemory h e i = tt

-- keys that are absent stay absent, and distinct ones distinct
abbrev pub Lacks : Value → Sifted → Type 0
Lacks key (Left pairs) = value_of pairs key ≡ None
Lacks key sifted = Unit {0}

abbrev pub AreDistinct : Sifted → Type 0
AreDistinct (Left pairs) = HasDistinctKeys pairs
AreDistinct sifted = Unit {0}

chosen_lacks : (is : Choice) (pair : Value × Value) (rest : Sifted) (key : Value) → same_value key pair.0 ≡ false → Lacks key rest → Lacks key (chosen is pair rest)
chosen_lacks choice.Stays pair (Left more) key e h = subst (λ (b : Bool). (if b then Some pair.1 else value_of more key) ≡ None) (sym e) h
chosen_lacks choice.Stays pair TooDeep key e h = tt
chosen_lacks choice.Stays pair TooLarge key e h = tt
chosen_lacks choice.Goes pair rest key e h = h
chosen_lacks choice.Deep pair rest key e h = tt
chosen_lacks choice.Large pair rest key e h = tt

sift_lacks : (choose : Value × Value → Choice) (pairs : List (Value × Value)) (key : Value) → value_of pairs key ≡ None → Lacks key (sift choose pairs)
sift_lacks choose [] key h = refl
sift_lacks choose (pair ∷ pairs) key h = chosen_lacks (choose pair) pair (sift choose pairs) key (absent_one pair pairs key h) (sift_lacks choose pairs key (absent_rest pair pairs key h))

chosen_distinct : (is : Choice) (pair : Value × Value) (rest : Sifted) → Lacks pair.0 rest → AreDistinct rest → AreDistinct (chosen is pair rest)
chosen_distinct choice.Stays pair (Left more) h d = (h, d)
chosen_distinct choice.Stays pair TooDeep h d = tt
chosen_distinct choice.Stays pair TooLarge h d = tt
chosen_distinct choice.Goes pair rest h d = d
chosen_distinct choice.Deep pair rest h d = tt
chosen_distinct choice.Large pair rest h d = tt

pub sift_distinct : (choose : Value × Value → Choice) (pairs : List (Value × Value)) → HasDistinctKeys pairs → AreDistinct (sift choose pairs)
sift_distinct choose [] d = tt
sift_distinct choose (pair ∷ pairs) d = chosen_distinct (choose pair) pair (sift choose pairs) (sift_lacks choose pairs pair.0 d.0) (sift_distinct choose pairs d.1)

into_none : (sifted : Sifted) → AreDistinct sifted → into [] sifted ≡ sifted
into_none (Left pairs) d = ap (λ (left : List (Value × Value)). Left left) (all_copied pairs d)
into_none TooDeep d = refl
into_none TooLarge d = refl

pub sift_ends : (choose : Value × Value → Choice) (pairs left : List (Value × Value)) → HasDistinctKeys pairs → into [] (sift choose pairs) ≡ Left left → sift choose pairs ≡ Left left
sift_ends choose pairs left d h = sym (into_none (sift choose pairs) (sift_distinct choose pairs d)) ∙ h

-- keys that are simple, and values that are there, stay so
abbrev pub LeftFit : ℕ → Sifted → Type 0
LeftFit n (Left pairs) = PairsFit n pairs
LeftFit n sifted = Unit {0}

chosen_fit : (n : ℕ) (is : Choice) (pair : Value × Value) (rest : Sifted) → is_simple pair.0 ≡ true → ValueFits n pair.1 → LeftFit n rest → LeftFit n (chosen is pair rest)
chosen_fit n choice.Stays pair (Left more) s h f = (s, h, f)
chosen_fit n choice.Stays pair TooDeep s h f = tt
chosen_fit n choice.Stays pair TooLarge s h f = tt
chosen_fit n choice.Goes pair rest s h f = f
chosen_fit n choice.Deep pair rest s h f = tt
chosen_fit n choice.Large pair rest s h f = tt

pub sift_fit : (n : ℕ) (choose : Value × Value → Choice) (pairs : List (Value × Value)) → PairsFit n pairs → LeftFit n (sift choose pairs)
sift_fit n choose [] f = tt
sift_fit n choose (pair ∷ pairs) f = chosen_fit n (choose pair) pair (sift choose pairs) f.0 f.1 (sift_fit n choose pairs f.2)

abbrev pub KeysLeftFit : Sifted → Type 0
KeysLeftFit (Left items) = KeysFit items
KeysLeftFit sifted = Unit {0}

chosen_keys : (is : Choice) (pair : Value × Value) (rest : Sifted) → is_simple pair.0 ≡ true → pair.1 ≡ v.Null → KeysLeftFit rest → KeysLeftFit (chosen is pair rest)
chosen_keys choice.Stays pair (Left more) s h f = (s, h, f)
chosen_keys choice.Stays pair TooDeep s h f = tt
chosen_keys choice.Stays pair TooLarge s h f = tt
chosen_keys choice.Goes pair rest s h f = f
chosen_keys choice.Deep pair rest s h f = tt
chosen_keys choice.Large pair rest s h f = tt

pub sift_keys : (choose : Value × Value → Choice) (items : List (Value × Value)) → KeysFit items → KeysLeftFit (sift choose items)
sift_keys choose [] f = tt
sift_keys choose (pair ∷ pairs) f = chosen_keys (choose pair) pair (sift choose pairs) f.0 f.1 (sift_keys choose pairs f.2)
