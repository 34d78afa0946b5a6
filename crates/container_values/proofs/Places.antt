-- Elements by their places.
use Rattle.std.proofs.Common.{◌≡◌, ℕ, zero, suc, ◌+◌, Some, List, [], ◌∷◌, ◌++◌, length, slice_get, refl, ap, sym, ◌∙◌, arith, drop, append_assoc, add-one}
use Rattle.object_values.specs.declared.object.Object.{Object}
use Rattle.object_values.specs.declared.object.Object.TheVariants as o
use Rattle.object_values.specs.declared.value.Value.{Value}
use Rattle.object_values.specs.declared.value.Value.TheVariants as v
use Rattle.object_values.specs.Pairs.{key_at, pair_value_at}
use Rattle.container_values.specs.Elements.{entries_under, keys_in, references, values_in}

pub length_keys : (pairs : List (Value × Value)) → length (keys_in pairs) ≡ length pairs
length_keys [] = refl
length_keys (pair ∷ pairs) = ap suc (length_keys pairs)

pub length_values : (pairs : List (Value × Value)) → length (values_in pairs) ≡ length pairs
length_values [] = refl
length_values (pair ∷ pairs) = ap suc (length_values pairs)

pub key_there : (pairs : List (Value × Value)) (at : ℕ) → key_at pairs at ≡ slice_get (keys_in pairs) at
key_there [] at = refl
key_there (pair ∷ pairs) zero = refl
key_there (pair ∷ pairs) (suc at) = key_there pairs at

pub value_there : (pairs : List (Value × Value)) (at : ℕ) → pair_value_at pairs at ≡ slice_get (values_in pairs) at
value_there [] at = refl
value_there (pair ∷ pairs) zero = refl
value_there (pair ∷ pairs) (suc at) = value_there pairs at

-- one entry more
pub entries_more : (map : ℕ) (keys : List Value) (key : Value) → entries_under map (keys ++ key ∷ []) ≡ entries_under map keys ++ o.Entry map key ∷ []
entries_more map [] key = refl
entries_more map (x ∷ keys) key = ap (λ (rest : List Object). o.Entry map x ∷ rest) (entries_more map keys key)

pub length_entries : (map : ℕ) (keys : List Value) → length (entries_under map keys) ≡ length keys
length_entries map [] = refl
length_entries map (key ∷ keys) = ap suc (length_entries map keys)

-- one reference more
pub references_more : (from count : ℕ) → references from (suc count) ≡ references from count ++ v.Ref (from + count) ∷ []
references_more from zero = let same : from + 0 ≡ from = omega arith in ap (λ (n : ℕ). v.Ref n ∷ []) (sym same)
references_more from (suc count) =
    let same : (from + 1) + count ≡ from + suc count = omega arith in
    ap (λ (rest : List Value). v.Ref from ∷ rest) (references_more (from + 1) count ∙ ap (λ (n : ℕ). references (from + 1) count ++ v.Ref n ∷ []) same)

pub length_references : (from count : ℕ) → length (references from count) ≡ count
length_references from zero = refl
length_references from (suc count) = ap suc (length_references (from + 1) count)

-- ---- steps of loops

got_here : {A : Type 0} → (xs : List A) (at : ℕ) (x : A) → slice_get xs at ≡ Some x → drop at xs ≡ x ∷ drop (suc at) xs
got_here [] at x h = cc
got_here {A} (y ∷ xs) zero x h = let same : y ≡ x = cc in ap (λ (z : A). z ∷ xs) same
got_here (y ∷ xs) (suc at) x h = got_here xs at x h

got : {A : Type 0} → (xs : List A) (at : ℕ) (x : A) → slice_get xs at ≡ Some x → drop at xs ≡ x ∷ drop (at + 1) xs
got xs at x h = rw (add-one) (got_here xs at x h)

pub value_pushed : (all copy new : List Value) (at : ℕ) (value : Value) → slice_get all at ≡ Some value → new ≡ copy ++ value ∷ [] → copy ++ drop at all ≡ all → new ++ drop (at + 1) all ≡ all
value_pushed all copy new at value h e i =
    ap (λ (l : List Value). l ++ drop (at + 1) all) e
    ∙ (append_assoc copy (value ∷ []) (drop (at + 1) all)
    ∙ (ap (λ (l : List Value). copy ++ l) (sym (got all at value h)) ∙ i))

pub entry_pushed : (map : ℕ) (keys : List Value) (made new : List Object) (at : ℕ) (key : Value) → slice_get keys at ≡ Some key → new ≡ made ++ o.Entry map key ∷ []
    → made ++ entries_under map (drop at keys) ≡ entries_under map keys → new ++ entries_under map (drop (at + 1) keys) ≡ entries_under map keys
entry_pushed map keys made new at key h e i =
    ap (λ (l : List Object). l ++ entries_under map (drop (at + 1) keys)) e
    ∙ (append_assoc made (o.Entry map key ∷ []) (entries_under map (drop (at + 1) keys))
    ∙ (ap (λ (l : List Value). made ++ entries_under map l) (sym (got keys at key h)) ∙ i))

pub reference_pushed : (initial values new : List Value) (from at id : ℕ) → id ≡ from + at → new ≡ values ++ v.Ref id ∷ [] → values ≡ initial ++ references from at → new ≡ initial ++ references from (at + 1)
reference_pushed initial values new from at id n e i =
    e ∙ (ap (λ (l : List Value). l ++ v.Ref id ∷ []) i
    ∙ (append_assoc initial (references from at) (v.Ref id ∷ [])
    ∙ ap (λ (l : List Value). initial ++ l) (ap (λ (m : ℕ). references from at ++ v.Ref m ∷ []) n ∙ (sym (references_more from at) ∙ ap (references from) (sym (add-one at))))))
