-- Which field a mapping is refused for, by the count of its fields.
use Rattle.std.proofs.Common.{◌≡◌, ℕ, ◌<◌, ◌≤◌, [], Some, true, false, length, List, nat_lt, refl, arith}
use Rattle.std.proofs.lemmas.Bool.Decides.{nat_tests}
use Rattle.serde_json.specs.Data.{Members}
use Rattle.serde_json.specs.View.{members_view}
use Rattle.serde_json.proofs.Views.{Entry}
use Rattle.job_file.specs.Mappings.{bad_field, is_bad, least, names_where, members_len}
use Rattle.job_file.proofs.Least.{members_counted}

many : (ms : Members) (n : ℕ) → members_len ms ≡ n → 1000 < n → nat_lt 1000 (members_len ms) ≡ true
many ms n e h = rw e (grind (arith, nat_tests))

few : (ms : Members) (n : ℕ) → members_len ms ≡ n → n ≤ 1000 → nat_lt 1000 (members_len ms) ≡ false
few ms n e h = rw e (grind (arith, nat_tests))

-- too many fields
pub bad_if_many : (es : List Entry) → 1000 < length es → bad_field (members_view es) ≡ Some []
bad_if_many es h = rw (many (members_view es) (length es) (members_counted es) h) refl

pub bad_if_few : (es : List Entry) → length es ≤ 1000 → bad_field (members_view es) ≡ least (names_where is_bad (members_view es))
bad_if_few es h = rw (few (members_view es) (length es) (members_counted es) h) refl
