-- A code of JSON data as a tree of numbers, by which proofs tell its values apart.
use Rattle.std.proofs.Common.{◌≡◌, ℕ, List, refl, ap, arith}
use Rattle.std.specs.Coded.{Coded, coded_ℕ, coded_ℤ, coded_bool, coded_list}
use base.Stored.{Gv, gnil, gnum, gcons, coded_float}
use Rattle.serde_json.specs.Data.{Num, unsigned, negative, float, Data, null, boolean, number, string, array, object, Items, no_items, item, Members, no_members, member}

-- which variant a code is of, and what it holds
abbrev kind : Gv → ℕ
kind gnil = 0
kind (gnum n) = n
kind (gcons a b) = 0

abbrev first : Gv → Gv
first gnil = gnil
first (gnum n) = gnil
first (gcons a b) = a

abbrev second : Gv → Gv
second gnil = gnil
second (gnum n) = gnil
second (gcons a b) = b

abbrev which : Gv → ℕ
which code = kind (first code)

abbrev bytes : Coded (List ℕ)
bytes = coded_list coded_ℕ

abbrev pub num_code : Num → Gv
num_code (unsigned n) = gcons (gnum 0) (gnum n)
num_code (negative z) = gcons (gnum 1) (coded_ℤ.code z)
num_code (float x) = gcons (gnum 2) (coded_float.code x)

pub num_apart : (x y : Num) → num_code x ≡ num_code y → x ≡ y
num_apart (unsigned m) (unsigned n) p = ap unsigned (coded_ℕ.inj m n (ap second p))
num_apart (negative y) (negative z) p = ap negative (coded_ℤ.inj y z (ap second p))
num_apart (float x) (float y) p = ap float (coded_float.inj x y (ap second p))
num_apart (unsigned m) other p = absurd (omega (arith, ap which p))
num_apart (negative y) other p = absurd (omega (arith, ap which p))
num_apart (float x) other p = absurd (omega (arith, ap which p))

abbrev mutual
  pub code : Data → Gv
  code null = gcons (gnum 0) gnil
  code (boolean b) = gcons (gnum 1) (coded_bool.code b)
  code (number n) = gcons (gnum 2) (num_code n)
  code (string s) = gcons (gnum 3) (bytes.code s)
  code (array ds) = gcons (gnum 4) (items_code ds)
  code (object ms) = gcons (gnum 5) (members_code ms)

  pub items_code : Items → Gv
  items_code no_items = gcons (gnum 0) gnil
  items_code (item d ds) = gcons (gnum 1) (gcons (code d) (items_code ds))

  pub members_code : Members → Gv
  members_code no_members = gcons (gnum 0) gnil
  members_code (member k d ms) = gcons (gnum 1) (gcons (bytes.code k) (gcons (code d) (members_code ms)))

mutual
  pub apart : (x y : Data) → code x ≡ code y → x ≡ y
  apart null null p = refl
  apart (boolean a) (boolean b) p = ap boolean (coded_bool.inj a b (ap second p))
  apart (number m) (number n) p = ap number (num_apart m n (ap second p))
  apart (string s) (string t) p = ap string (bytes.inj s t (ap second p))
  apart (array ds) (array es) p = ap array (items_apart ds es (ap second p))
  apart (object ms) (object ns) p = ap object (members_apart ms ns (ap second p))
  apart null other p = absurd (omega (arith, ap which p))
  apart (boolean b) other p = absurd (omega (arith, ap which p))
  apart (number n) other p = absurd (omega (arith, ap which p))
  apart (string s) other p = absurd (omega (arith, ap which p))
  apart (array ds) other p = absurd (omega (arith, ap which p))
  apart (object ms) other p = absurd (omega (arith, ap which p))

  pub items_apart : (xs ys : Items) → items_code xs ≡ items_code ys → xs ≡ ys
  items_apart no_items no_items p = refl
  items_apart (item d ds) (item e es) p = λ i. item (apart d e (ap (λ g. first (second g)) p) i) (items_apart ds es (ap (λ g. second (second g)) p) i)
  items_apart no_items (item e es) p = absurd (omega (arith, ap which p))
  items_apart (item d ds) no_items p = absurd (omega (arith, ap which p))

  pub members_apart : (xs ys : Members) → members_code xs ≡ members_code ys → xs ≡ ys
  members_apart no_members no_members p = refl
  members_apart (member k d ms) (member l e ns) p =
      λ i. member (bytes.inj k l (ap (λ g. first (second g)) p) i) (apart d e (ap (λ g. first (second (second g))) p) i) (members_apart ms ns (ap (λ g. second (second (second g))) p) i)
  members_apart no_members (member l e ns) p = absurd (omega (arith, ap which p))
  members_apart (member k d ms) no_members p = absurd (omega (arith, ap which p))

abbrev pub data_code : Coded Data
data_code = record { code = code; inj = apart }
