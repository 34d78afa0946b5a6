-- What has only whole numbers has no float.
use Rattle.std.proofs.Common.{◌≡◌, Bool, true, false, ◌&&◌, ◌||◌, refl}
use Rattle.std.proofs.lemmas.Bool.{false≢true}
use Rattle.std.specs.Prelude.{is_some}
use Rattle.serde_json.specs.Data.{Num, unsigned, negative, float, Data, null, boolean, number, string, array, object, Items, no_items, item, Members, no_members, member}
use Rattle.serde_json.specs.Find.{as_i64, is_float}
use Rattle.serde_json.specs.Written.{has_float, items_have_float, members_have_float}
use Rattle.job_file.specs.Values.{has_whole_numbers, items_have_whole_numbers, members_have_whole_numbers}

each : (a b : Bool) → (a && b) ≡ true → (a ≡ true) × (b ≡ true)
each true b h = (refl, h)
each false b h = absurd (false≢true h)

neither : (a b : Bool) → a ≡ false → b ≡ false → (a || b) ≡ false
neither a b h k = rw (h, k) refl

no_float : (n : Num) → is_some (as_i64 n) ≡ true → is_float n ≡ false
no_float (unsigned n) h = refl
no_float (negative z) h = refl
no_float (float x) h = absurd (false≢true h)

mutual
  pub whole_has_none : (d : Data) → has_whole_numbers d ≡ true → has_float d ≡ false
  whole_has_none null h = refl
  whole_has_none (boolean b) h = refl
  whole_has_none (number n) h = no_float n h
  whole_has_none (string s) h = refl
  whole_has_none (array ds) h = items_have_none ds h
  whole_has_none (object ms) h = members_have_none ms h

  items_have_none : (ds : Items) → items_have_whole_numbers ds ≡ true → items_have_float ds ≡ false
  items_have_none no_items h = refl
  items_have_none (item d ds) h =
      let parts = each (has_whole_numbers d) (items_have_whole_numbers ds) h in
      neither (has_float d) (items_have_float ds) (whole_has_none d parts.0) (items_have_none ds parts.1)

  members_have_none : (ms : Members) → members_have_whole_numbers ms ≡ true → members_have_float ms ≡ false
  members_have_none no_members h = refl
  members_have_none (member name d ms) h =
      let parts = each (has_whole_numbers d) (members_have_whole_numbers ms) h in
      neither (has_float d) (members_have_float ms) (whole_has_none d parts.0) (members_have_none ms parts.1)
