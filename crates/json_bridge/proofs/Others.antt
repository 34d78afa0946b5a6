-- Steps of the walk over the pairs of a map without some of its keys.
use Rattle.std.proofs.Common.{◌≡◌, ◌∙◌, ℕ, ◌+◌, ◌&&◌, Bool, true, false, Some, List, ◌∷◌, drop, slice_get, ap, if◌then◌else◌}
use Rattle.object_values.specs.declared.value.Value.{Value}
use Rattle.serde_json.specs.Data.{Data, Members, put}
use Rattle.json_bridge.specs.declared.error.GiveErr.{GiveErr}
use Rattle.json_bridge.specs.Giving.{Walk, Makes, follow, name_of, is_new_name, are_new_names, members_given, TellsEnd}
use Rattle.json_bridge.specs.Without.{is_one_of, without}
use Rattle.json_bridge.proofs.Stepping.{got}
use Rattle.json_bridge.proofs.Walking.{ends_so}

-- a pair that is left out, and one that is not
pub left_out : (keys : List Value) (pairs : List (Value × Value)) (at : ℕ) (pair : Value × Value) → slice_get pairs at ≡ Some pair → is_one_of keys pair.0 ≡ true
    → without keys (drop at pairs) ≡ without keys (drop (at + 1) pairs)
left_out keys pairs at pair h e =
    ap (without keys) (got pairs at pair h) ∙ ap (λ (b : Bool). if b then without keys (drop (at + 1) pairs) else pair ∷ without keys (drop (at + 1) pairs)) e

pub left_in : (keys : List Value) (pairs : List (Value × Value)) (at : ℕ) (pair : Value × Value) → slice_get pairs at ≡ Some pair → is_one_of keys pair.0 ≡ false
    → without keys (drop at pairs) ≡ pair ∷ without keys (drop (at + 1) pairs)
left_in keys pairs at pair h e =
    ap (without keys) (got pairs at pair h) ∙ ap (λ (b : Bool). if b then without keys (drop (at + 1) pairs) else pair ∷ without keys (drop (at + 1) pairs)) e

-- a key that is no name, and one that is, in front of further pairs
pub first_fails : (names : List (List ℕ)) (pairs rest : List (Value × Value)) (pair : Value × Value) → pairs ≡ pair ∷ rest → is_new_name names pair.0 ≡ false
    → are_new_names names pairs ≡ false
first_fails names pairs rest pair h e = ap (are_new_names names) h ∙ ap (λ b. b && are_new_names (name_of pair.0 ∷ names) rest) e

pub first_holds : (names : List (List ℕ)) (pairs rest : List (Value × Value)) (pair : Value × Value) → pairs ≡ pair ∷ rest → is_new_name names pair.0 ≡ true
    → are_new_names names pairs ≡ are_new_names (name_of pair.0 ∷ names) rest
first_holds names pairs rest pair h e = ap (are_new_names names) h ∙ ap (λ b. b && are_new_names (name_of pair.0 ∷ names) rest) e

-- a member that is made, and one at which the walk ends
pub first_made : (give : Value → ℕ → Walk Data) (made : Members) (pairs rest : List (Value × Value)) (pair : Value × Value) (nodes left : ℕ) (d : Data) → pairs ≡ pair ∷ rest
    → give pair.1 nodes ≡ Makes d left → members_given give made pairs nodes ≡ members_given give (put (name_of pair.0) d made) rest left
first_made give made pairs rest pair nodes left d h k =
    ap (λ xs. members_given give made xs nodes) h ∙ ap (λ w. follow w (λ x n. members_given give (put (name_of pair.0) x made) rest n)) k

pub first_ends : (give : Value → ℕ → Walk Data) (made : Members) (pairs rest : List (Value × Value)) (pair : Value × Value) (nodes : ℕ) (whole : Walk Members) (cause : GiveErr)
    → pairs ≡ pair ∷ rest → whole ≡ members_given give made pairs nodes → TellsEnd (give pair.1 nodes) cause → TellsEnd whole cause
first_ends give made pairs rest pair nodes whole cause h is t =
    ends_so (give pair.1 nodes) whole cause
    (λ fault k. is ∙ (ap (λ xs. members_given give made xs nodes) h ∙ ap (λ w. follow w (λ x n. members_given give (put (name_of pair.0) x made) rest n)) k)) t
