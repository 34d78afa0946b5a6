-- Whether a list is in the range of `order`, by its length.
use Rattle.std.proofs.Common.{◌≡◌, ℕ, ◌<◌, ◌≤◌, [], ◌∷◌, true, false, length, List, nat_le, refl, arith}
use Rattle.std.proofs.lemmas.Bool.Decides.{nat_tests}
use Rattle.serde_json.specs.View.{items_view}
use Rattle.serde_json.specs.declared.value.Value.{Value}
use Rattle.job_file.specs.Limits.{entries, all_name_turns, is_order}

pub entries_counted : (vs : List Value) → length (entries (items_view vs)) ≡ length vs
entries_counted [] = refl
entries_counted (v ∷ vs) = rw (entries_counted vs) refl

short : (m n : ℕ) → m ≡ n → n ≤ 100000 → nat_le m 100000 ≡ true
short m n e h = rw e (grind (arith, nat_tests))

long : (m n : ℕ) → m ≡ n → 100000 < n → nat_le m 100000 ≡ false
long m n e h = rw e (grind (arith, nat_tests))

pub order_if_short : (count : ℕ) (vs : List Value) → length vs ≤ 100000 → is_order count (entries (items_view vs)) ≡ all_name_turns count (entries (items_view vs))
order_if_short count vs h = rw (short (length (entries (items_view vs))) (length vs) (entries_counted vs) h) refl

pub no_order_if_long : (count : ℕ) (vs : List Value) → 100000 < length vs → is_order count (entries (items_view vs)) ≡ false
no_order_if_long count vs h = rw (long (length (entries (items_view vs))) (length vs) (entries_counted vs) h) refl
