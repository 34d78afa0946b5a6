-- What holds of each class, found by trying all.
use Rattle.std.proofs.Common.{◌≡◌, ℕ, ◌<◌, Bool, true, false, ◌&&◌, eqb, ltb, Option, Some, None, get_or, length, map, refl, sym, ap, ◌∙◌, inl, inr, arith}
use Rattle.std.specs.List.{range_with_len}
use Rattle.std.proofs.lemmas.Bool.{and_parts, cases_lt, eqb-true, false≢true, ltb-true}
use Rattle.std.proofs.lemmas.List.FromFn.{get_or-map-range_with_len}
use Rattle.pl_types.specs.Classes.{lineage_of, parents_of, class_row, class_table}
use Rattle.allowlist.specs.Catalogue.{catalogue}
use Rattle.allowlist.specs.Allow.{iface_method_of}
use Rattle.allowlist.specs.Index.{member_at}
use Rattle.allowlist.proofs.Members.{iface_past}
use Rattle.object_heap.specs.Fits.{arity_of}

-- what holds of all holds of one
pub at_class : (test : ℕ → Bool) (class : ℕ) → class < 57 → map test (range_with_len 0 57) ≡ map (λ c. true) (range_with_len 0 57) → test class ≡ true
at_class test class h all =
    sym (get_or-map-range_with_len test 0 57 class class true h (omega arith))
    ∙ ap (λ xs. get_or xs class true) all
    ∙ get_or-map-range_with_len (λ c. true) 0 57 class class true h (omega arith)

-- ---- the methods of interfaces

has_arity : ℕ → Option ℕ → Bool
has_arity count None = false
has_arity count (Some arity) = eqb arity count && ltb count 3

method_has : ℕ → Option ℕ → Bool
method_has class None = true
method_has class (Some number) = has_arity (length (member_at number).params) (arity_of class)

each_has : map (λ class. method_has class (iface_method_of class)) (range_with_len 0 57) ≡ map (λ class. true) (range_with_len 0 57)
unfolding method_has has_arity iface_method_of lineage_of parents_of class_row class_table catalogue
each_has = refl

arity_known : (count : ℕ) (arity : Option ℕ) → has_arity count arity ≡ true → (arity ≡ Some count) × (count < 3)
unfolding has_arity
arity_known count None h = absurd (false≢true h)
arity_known count (Some arity) h = let p = and_parts (eqb arity count) (ltb count 3) h in (ap Some (eqb-true arity count p.0), ltb-true count 3 p.1)

method_known : (class number : ℕ) → iface_method_of class ≡ Some number → method_has class (Some number) ≡ true
method_known class number h =
    elim (cases_lt class 57) [
      | inl l ↦ ap (method_has class) (sym h) ∙ at_class (λ c. method_has c (iface_method_of c)) class l each_has
      | inr g ↦ (let e = sym (iface_past class g) ∙ h in cc)
    ]

pub method_arity : (class number : ℕ) → iface_method_of class ≡ Some number → (arity_of class ≡ Some (length (member_at number).params)) × (length (member_at number).params < 3)
unfolding method_has
method_arity class number h = arity_known (length (member_at number).params) (arity_of class) (method_known class number h)
