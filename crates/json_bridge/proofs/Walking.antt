-- Steps of the walk that gives a value as JSON.
use Rattle.std.proofs.Common.{◌≡◌, ◌≢◌, ◌∙◌, ℕ, zero, suc, ◌+◌, ◌-◌, Some, List, [], ◌∷◌, ◌++◌, drop, slice_get, refl, ap, arith}
use Rattle.object_values.specs.declared.value.Value.{Value}
use Rattle.object_values.specs.declared.object.Object.{Object}
use Rattle.serde_json.specs.Data.{Data, Members, put}
use Rattle.json_bridge.specs.declared.error.GiveErr.{GiveErr}
use Rattle.json_bridge.specs.declared.error.GiveErr.TheVariants as e
use Rattle.json_bridge.specs.Giving.{Fault, Key, Depth, Size, Kind, Walk, Makes, Ends, follow, Node, name_of, items_given, members_given, node_given, node_at, TellsEnd}
use Rattle.json_bridge.proofs.Stepping.{got}

-- a walk ends where a part of it does
pub ends_so : {A B : Type 0} → (part : Walk A) (whole : Walk B) (cause : GiveErr) → ((fault : Fault) → part ≡ Ends fault → whole ≡ Ends fault)
    → TellsEnd part cause → TellsEnd whole cause
ends_so part whole e.Key h t = h Key t
ends_so part whole e.Depth h t = h Depth t
ends_so part whole e.Size h t = h Size t
ends_so part whole e.Kind h t = h Kind t
ends_so part whole e.NoMemory h t = tt

pub ends_first : {A B : Type 0} → (part : Walk A) (further : A → ℕ → Walk B) (cause : GiveErr) → TellsEnd part cause → TellsEnd (follow part further) cause
ends_first part further cause t = ends_so part (follow part further) cause (λ fault h. ap (λ w. follow w further) h) t

-- a node where neither levels nor nodes are at an end
pub met : (levels nodes : ℕ) (objects : List Object) (node : Node) → levels ≢ 0 → nodes ≢ 0
    → node_at levels objects node nodes ≡ node_given (node_at (levels - 1) objects) objects node (nodes - 1)
met zero nodes objects node h k = absurd (h refl)
met (suc levels) zero objects node h k = absurd (k refl)
met (suc levels) (suc nodes) objects node h k =
    let l : suc levels - 1 ≡ levels = omega arith in
    let n : suc nodes - 1 ≡ nodes = omega arith in
    rw (l, n) refl

-- an item that is made, and one at which the walk ends
pub item_made : {A : Type 0} → (give : A → ℕ → Walk Data) (made : List Data) (items : List A) (at : ℕ) (item : A) (nodes rest : ℕ) (d : Data) → slice_get items at ≡ Some item
    → give item nodes ≡ Makes d rest → items_given give made (drop at items) nodes ≡ items_given give (made ++ d ∷ []) (drop (at + 1) items) rest
item_made give made items at item nodes rest d h k =
    ap (λ xs. items_given give made xs nodes) (got items at item h) ∙ ap (λ w. follow w (λ x n. items_given give (made ++ x ∷ []) (drop (at + 1) items) n)) k

pub item_ends : {A : Type 0} → (give : A → ℕ → Walk Data) (made : List Data) (items : List A) (at : ℕ) (item : A) (nodes : ℕ) (whole : Walk (List Data)) (cause : GiveErr)
    → slice_get items at ≡ Some item → whole ≡ items_given give made (drop at items) nodes → TellsEnd (give item nodes) cause → TellsEnd whole cause
item_ends give made items at item nodes whole cause h is t =
    ends_so (give item nodes) whole cause
    (λ fault k. is ∙ (ap (λ xs. items_given give made xs nodes) (got items at item h) ∙ ap (λ w. follow w (λ x n. items_given give (made ++ x ∷ []) (drop (at + 1) items) n)) k)) t

-- the same of members
pub member_made : (give : Value → ℕ → Walk Data) (made : Members) (pairs : List (Value × Value)) (at : ℕ) (pair : Value × Value) (nodes rest : ℕ) (d : Data) → slice_get pairs at ≡ Some pair
    → give pair.1 nodes ≡ Makes d rest → members_given give made (drop at pairs) nodes ≡ members_given give (put (name_of pair.0) d made) (drop (at + 1) pairs) rest
member_made give made pairs at pair nodes rest d h k =
    ap (λ xs. members_given give made xs nodes) (got pairs at pair h) ∙ ap (λ w. follow w (λ x n. members_given give (put (name_of pair.0) x made) (drop (at + 1) pairs) n)) k

pub member_ends : (give : Value → ℕ → Walk Data) (made : Members) (pairs : List (Value × Value)) (at : ℕ) (pair : Value × Value) (nodes : ℕ) (whole : Walk Members) (cause : GiveErr)
    → slice_get pairs at ≡ Some pair → whole ≡ members_given give made (drop at pairs) nodes → TellsEnd (give pair.1 nodes) cause → TellsEnd whole cause
member_ends give made pairs at pair nodes whole cause h is t =
    ends_so (give pair.1 nodes) whole cause
    (λ fault k. is ∙ (ap (λ xs. members_given give made xs nodes) (got pairs at pair h) ∙ ap (λ w. follow w (λ x n. members_given give (put (name_of pair.0) x made) (drop (at + 1) pairs) n)) k)) t
