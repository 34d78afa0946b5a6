-- Tables in the code against what they have to say at each place.
use Rattle.std.proofs.Common.{◌≡◌, ℕ, ◌<◌, List, Option, get_or, length, map, refl, ap, ◌∙◌, arith}
use Rattle.std.specs.List.{range_with_len}
use Rattle.std.proofs.lemmas.List.FromFn.{get_or-map-range_with_len}
use Rattle.allowlist.specs.Allow.{start_of, iface_method_of}
use Rattle.allowlist.specs.Catalogue.{catalogue}

pub start_at : (xs : List ℕ) (i d : ℕ) → xs ≡ map start_of (range_with_len 0 58) → i < 58 → get_or xs i d ≡ start_of i
start_at xs i d same h = ap (λ ys. get_or ys i d) same ∙ get_or-map-range_with_len start_of 0 58 i i d h (omega arith)

pub method_at : (xs : List (Option ℕ)) (i : ℕ) (d : Option ℕ) → xs ≡ map iface_method_of (range_with_len 0 57) → i < 57 → get_or xs i d ≡ iface_method_of i
method_at xs i d same h = ap (λ ys. get_or ys i d) same ∙ get_or-map-range_with_len iface_method_of 0 57 i i d h (omega arith)

pub length-catalogue : length catalogue ≡ 228
unfolding catalogue
length-catalogue = refl
