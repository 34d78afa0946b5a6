-- A table in the code against what it has to say at each place.
use Rattle.std.proofs.Common.{◌≡◌, ℕ, ◌<◌, ◌+◌, List, get_or, map, sym, ap, ◌∙◌, arith}
use Rattle.std.specs.List.{range_with_len}
use Rattle.std.proofs.Math.ListN.{get_or-map}
use Rattle.std.proofs.lemmas.List.FromFn.{get_or-map-range_with_len}
use Rattle.std.specs.Borrow.{Bor}
use Rattle.pl_types.specs.Refusals.{rule_name}
use Rattle.pl_types.specs.Classes.{full_name, short_name, parents_of, lineage_of}
use Rattle.pl_types.specs.Names.{numbers_of_length}

agree_at : {R X : Type 0} (f : R → X) (g : ℕ → X) (rows : List R) (n i : ℕ) (d : R) → map f rows ≡ map g (range_with_len 0 n) → i < n → f (get_or rows i d) ≡ g i
agree_at f g rows n i d same h =
    sym (get_or-map f rows i d) ∙ ap (λ xs. get_or xs i (f d)) same ∙ get_or-map-range_with_len g 0 n i i (f d) h (omega arith)

pub full_at : (rows : List (Bor (List ℕ))) (i : ℕ) (d : Bor (List ℕ)) → map (λ (r : Bor (List ℕ)). r.now) rows ≡ map full_name (range_with_len 0 57) → i < 57 → (get_or rows i d).now ≡ full_name i
full_at rows i d same h = agree_at (λ (r : Bor (List ℕ)). r.now) full_name rows 57 i d same h

pub short_at : (rows : List (Bor (List ℕ))) (i : ℕ) (d : Bor (List ℕ)) → map (λ (r : Bor (List ℕ)). r.now) rows ≡ map short_name (range_with_len 0 57) → i < 57 → (get_or rows i d).now ≡ short_name i
short_at rows i d same h = agree_at (λ (r : Bor (List ℕ)). r.now) short_name rows 57 i d same h

pub parents_at : (rows : List (Bor (List ℕ))) (i : ℕ) (d : Bor (List ℕ)) → map (λ (r : Bor (List ℕ)). r.now) rows ≡ map parents_of (range_with_len 0 57) → i < 57 → (get_or rows i d).now ≡ parents_of i
parents_at rows i d same h = agree_at (λ (r : Bor (List ℕ)). r.now) parents_of rows 57 i d same h

pub lineage_at : (rows : List (Bor (List ℕ))) (i : ℕ) (d : Bor (List ℕ)) → map (λ (r : Bor (List ℕ)). r.now) rows ≡ map lineage_of (range_with_len 0 57) → i < 57 → (get_or rows i d).now ≡ lineage_of i
lineage_at rows i d same h = agree_at (λ (r : Bor (List ℕ)). r.now) lineage_of rows 57 i d same h

pub rule_at : (rows : List (Bor (List ℕ))) (i : ℕ) (d : Bor (List ℕ)) → map (λ (r : Bor (List ℕ)). r.now) rows ≡ map (λ k. rule_name (k + 1)) (range_with_len 0 34) → i < 34 → (get_or rows i d).now ≡ rule_name (i + 1)
rule_at rows i d same h = agree_at (λ (r : Bor (List ℕ)). r.now) (λ k. rule_name (k + 1)) rows 34 i d same h

pub rule_here : (rows : List (Bor (List ℕ))) (number i : ℕ) (d : Bor (List ℕ)) → map (λ (r : Bor (List ℕ)). r.now) rows ≡ map (λ k. rule_name (k + 1)) (range_with_len 0 34) → i + 1 ≡ number → i < 34 → (get_or rows i d).now ≡ rule_name number
rule_here rows number i d same e h = rule_at rows i d same h ∙ ap rule_name e

pub numbers_at : (rows : List (Bor (List ℕ))) (i : ℕ) (d : Bor (List ℕ)) → map (λ (r : Bor (List ℕ)). r.now) rows ≡ map numbers_of_length (range_with_len 0 50) → i < 50 → (get_or rows i d).now ≡ numbers_of_length i
numbers_at rows i d same h = agree_at (λ (r : Bor (List ℕ)). r.now) numbers_of_length rows 50 i d same h
