-- The least name of the members that are left of a map is that of the first of them.
use Rattle.std.proofs.Common.{◌≡◌, ℕ, List, [], ◌∷◌, Bool, true, false, Option, Some, None, String, Global, Ordering, Less, Equal, Greater, string_bytes, string_cmp, nat_cmp, refl, ap}
use Rattle.std.specs.Cmp.Lexicographic.{slice_cmp}
use Rattle.std.specs.List.{AllByRecursion}
use Rattle.std.specs.List.Sorted.{IsStrictlySortedBy}
use Rattle.std.specs.Map.{keys_of}
use Rattle.std.specs.Ordering.{match_ordering}
use Rattle.std.specs.Prelude.{if◌then◌else◌}
use Rattle.serde_json.specs.Data.{Data}
use Rattle.serde_json.specs.View.{view, members_view}
use Rattle.serde_json.proofs.Views.{Entry}
use Rattle.job_file.specs.Mappings.{names_where, lesser, least}

abbrev Below : List ℕ → List ℕ → Type 0
Below name other = slice_cmp nat_cmp name other ≡ Less

-- a name is below another one, if there is one
abbrev BelowAny : List ℕ → Option (List ℕ) → Type 0
BelowAny name None = Unit {0}
BelowAny name (Some other) = Below name other

below_picked : (name one other : List ℕ) (o : Ordering) → Below name one → Below name other → Below name (match_ordering o one one other)
below_picked name one other Less h k = h
below_picked name one other Equal h k = h
below_picked name one other Greater h k = k

below_lesser : (name one : List ℕ) (rest : Option (List ℕ)) → Below name one → BelowAny name rest → Below name (lesser one rest)
below_lesser name one None h k = h
below_lesser name one (Some other) h k = below_picked name one other (slice_cmp nat_cmp one other) h k

below_least : (name : List ℕ) (names : List (List ℕ)) → AllByRecursion (λ y. Below name y) names → BelowAny name (least names)
below_least name [] h = tt
below_least name (one ∷ names) h = below_lesser name one (least names) h.0 (below_least name names h.1)

lesser_first : (name : List ℕ) (rest : Option (List ℕ)) → BelowAny name rest → lesser name rest ≡ name
lesser_first name None h = refl
lesser_first name (Some other) h = rw h refl

below_kept : (b : Bool) (name one : List ℕ) (names : List (List ℕ)) → Below name one → AllByRecursion (λ y. Below name y) names → AllByRecursion (λ y. Below name y) (if b then one ∷ names else names)
below_kept true name one names h k = (h, k)
below_kept false name one names h k = k

below_names : (test : List ℕ → Data → Bool) (es : List Entry) (name : String Global) → AllByRecursion (λ y. string_cmp name y ≡ Less) (keys_of es) → AllByRecursion (λ y. Below (string_bytes name) y) (names_where test (members_view es))
below_names test [] name h = tt
below_names test (e ∷ es) name h = below_kept (test (string_bytes e.0) (view e.1)) (string_bytes name) (string_bytes e.0) (names_where test (members_view es)) h.0 (below_names test es name h.1)

-- the first member that passes the test has the least name
pub least_here : (test : List ℕ → Data → Bool) (e : Entry) (es : List Entry) → IsStrictlySortedBy string_cmp (keys_of (e ∷ es)) → test (string_bytes e.0) (view e.1) ≡ true
    → least (names_where test (members_view (e ∷ es))) ≡ Some (string_bytes e.0)
unfolding IsStrictlySortedBy
least_here test e es h passes =
    rw passes (ap Some (lesser_first (string_bytes e.0) (least (names_where test (members_view es))) (below_least (string_bytes e.0) (names_where test (members_view es)) (below_names test es e.0 h.0))))

-- one that does not changes nothing
pub least_on : (test : List ℕ → Data → Bool) (e : Entry) (es : List Entry) → test (string_bytes e.0) (view e.1) ≡ false
    → least (names_where test (members_view (e ∷ es))) ≡ least (names_where test (members_view es))
least_on test e es fails = rw fails refl

pub sorted_on : (e : Entry) (es : List Entry) → IsStrictlySortedBy string_cmp (keys_of (e ∷ es)) → IsStrictlySortedBy string_cmp (keys_of es)
unfolding IsStrictlySortedBy
sorted_on e es h = h.1
