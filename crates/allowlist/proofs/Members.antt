-- The first member that passes a test.
use Rattle.std.proofs.Common.{◌≡◌, ℕ, zero, suc, ◌+◌, ◌-◌, ◌<◌, ◌≤◌, Bool, true, false, cond, ◌&&◌, ◌||◌, eqb, leb, ltb, List, [], ◌∷◌, Option, Some, None, get_or, length, drop, take, map, sym, refl, ap, ◌∙◌, inl, inr, arith}
use Rattle.std.specs.List.{range_with_len, list_all, flat_map}
use Rattle.std.proofs.Math.ListN.{get_or-eq_default}
use Rattle.std.proofs.lemmas.Bool.{ne_eqb, le-ltb, cases_lt, leb-true, false≢true, and_parts, ltb-true}
use Rattle.std.proofs.lemmas.List.{at_drop_more, at_drop_all, get_or-map, length-drop, take_rest}
use Rattle.std.proofs.lemmas.List.Folds.{list_all_at}
use Rattle.std.proofs.lemmas.List.FromFn.{get_or-map-range_with_len}
use Rattle.pl_types.specs.Classes.{lineage_of, lineage_within, parents_of, class_row, class_table, no_class, has}
use Rattle.allowlist.specs.declared.member.MemberType.{MemberType}
use Rattle.allowlist.specs.Catalogue.{catalogue}
use Rattle.allowlist.specs.Allow.{first_member, start_of, own_member, AllowList, flag, has_name, is_called, or_else, first_along, member_of, iface_method_of, plain_member, functional_interfaces, first_class}
use Rattle.allowlist.specs.Lines.{Form}
use Rattle.allowlist.specs.Files.{declares, declared_member}
use Rattle.std.specs.List.{slice_get}
use Rattle.std.proofs.lemmas.Option.{slice_get_within, get_or_from_slice_get}
use Rattle.allowlist.proofs.Tables.{length-catalogue}

-- a member that does not pass is passed over
pub first_member-no : (test : ℕ → MemberType → Bool) (n : ℕ) (m : MemberType) (ms : List MemberType) → test n m ≡ false → first_member test n (m ∷ ms) ≡ first_member test (n + 1) ms
first_member-no test n m ms h = ap (λ b. cond b (Some n) (first_member test (n + 1) ms)) h

pub first_member-yes : (test : ℕ → MemberType → Bool) (n : ℕ) (m : MemberType) (ms : List MemberType) → test n m ≡ true → first_member test n (m ∷ ms) ≡ Some n
first_member-yes test n m ms h = ap (λ b. cond b (Some n) (first_member test (n + 1) ms)) h

and_false : (b : Bool) → (b && false) ≡ false
and_false true = refl
and_false false = refl

-- members that do not pass are passed over
pub skip : (test : ℕ → MemberType → Bool) (k n : ℕ) (xs : List MemberType) → ((i : ℕ) (d : MemberType) → i < k → test (n + i) (get_or xs i d) ≡ false) → first_member test n xs ≡ first_member test (n + k) (drop k xs)
skip test zero n xs h = let e : n + 0 ≡ n = omega arith in ap (λ m. first_member test m xs) (sym e)
skip test (suc k) n [] h = refl
skip test (suc k) n (m ∷ ms) h =
    let e : (n + 1) + k ≡ n + suc k = omega arith in
    let z : n + 0 ≡ n = omega arith in
    let first : test n m ≡ false = ap (λ j. test j m) (sym z) ∙ h 0 m (omega arith) in
    let others : (i : ℕ) (d : MemberType) → i < k → test ((n + 1) + i) (get_or ms i d) ≡ false = λ i d l. (let q : (n + 1) + i ≡ n + suc i = omega arith in ap (λ j. test j (get_or ms i d)) q ∙ h (suc i) d (omega arith)) in
    first_member-no test n m ms first ∙ skip test k (n + 1) ms others ∙ ap (λ j. first_member test j (drop k ms)) e

-- Which members are a class's: those of its part of the catalogue.

owned : ℕ → List Bool
owned class = map (λ m. eqb m.owner class) catalogue

between_ : ℕ → ℕ → List Bool
between_ first end = map (λ i. leb first i && ltb i end) (range_with_len 0 228)

owners : map owned (range_with_len 0 57) ≡ map (λ c. between_ (start_of c) (start_of (c + 1))) (range_with_len 0 57)
unfolding owned between_ start_of catalogue
owners = refl

owned_at : (class : ℕ) → class < 57 → owned class ≡ between_ (start_of class) (start_of (class + 1))
owned_at class h =
    sym (get_or-map-range_with_len owned 0 57 class class [] h (omega arith)) ∙ ap (λ xs. get_or xs class []) owners
    ∙ get_or-map-range_with_len (λ c. between_ (start_of c) (start_of (c + 1))) 0 57 class class [] h (omega arith)

pub owner_test : (class i : ℕ) (d : MemberType) → class < 57 → i < 228 → eqb (get_or catalogue i d).owner class ≡ (leb (start_of class) i && ltb i (start_of (class + 1)))
unfolding owned between_
owner_test class i d h k =
    let within : i < length catalogue = omega (arith, length-catalogue) in
    sym (get_or-map (λ m. eqb m.owner class) catalogue i d false within)
    ∙ ap (λ xs. get_or xs i false) (owned_at class h)
    ∙ get_or-map-range_with_len (λ j. leb (start_of class) j && ltb j (start_of (class + 1))) 0 228 i i false k (omega arith)

owners_small : list_all (λ m. ltb m.owner 57) catalogue ≡ true
unfolding catalogue
owners_small = refl

starts_small : map (λ c. leb (start_of c) 228) (range_with_len 0 58) ≡ map (λ c. true) (range_with_len 0 58)
unfolding start_of catalogue
starts_small = refl

pub start_within : (class : ℕ) → class < 58 → start_of class ≤ 228
start_within class h = leb-true (start_of class) 228
    (sym (get_or-map-range_with_len (λ c. leb (start_of c) 228) 0 58 class class true h (omega arith)) ∙ ap (λ xs. get_or xs class true) starts_small ∙ get_or-map-range_with_len (λ c. true) 0 58 class class true h (omega arith))

-- where no member passes there is none
pub none : (test : ℕ → MemberType → Bool) (n : ℕ) (xs : List MemberType) → ((i : ℕ) (d : MemberType) → i < length xs → test (n + i) (get_or xs i d) ≡ false) → first_member test n xs ≡ None
none test n [] h = refl
none test n (m ∷ ms) h =
    let z : n + 0 ≡ n = omega arith in
    let first : test n m ≡ false = ap (λ j. test j m) (sym z) ∙ h 0 m (omega arith) in
    let others : (i : ℕ) (d : MemberType) → i < length ms → test ((n + 1) + i) (get_or ms i d) ≡ false = λ i d l. (let q : (n + 1) + i ≡ n + suc i = omega arith in ap (λ j. test j (get_or ms i d)) q ∙ h (suc i) d (omega arith)) in
    first_member-no test n m ms first ∙ none test (n + 1) ms others

small_owner : (i : ℕ) (d : MemberType) → i < 228 → (get_or catalogue i d).owner < 57
small_owner i d h =
    let within : i < length catalogue = omega (arith, length-catalogue) in
    elim (cases_lt (get_or catalogue i d).owner 57) [
      | inl l ↦ l
      | inr g ↦ absurd (false≢true (sym (list_all_at (λ m. ltb m.owner 57) catalogue i d within (le-ltb (get_or catalogue i d).owner 57 g)) ∙ owners_small))
    ]

abbrev pub asks : AllowList → ℕ → List ℕ → ℕ → ℕ → MemberType → Bool
asks allow class name arity n m = flag allow.members n && is_called class name arity m

module _ (allow : AllowList) (class : ℕ) (name : List ℕ) (arity : ℕ) where
  -- another class's member does not pass
  other : (n : ℕ) (m : MemberType) → eqb m.owner class ≡ false → asks allow class name arity n m ≡ false
  other n m h = ap (λ t. flag allow.members n && (t && has_name name arity m)) h ∙ and_false (flag allow.members n)

  pub own_past : 57 ≤ class → own_member allow class name arity ≡ None
  unfolding own_member
  own_past h = none (asks allow class name arity) 0 catalogue (λ i d l.
      let w : i < 228 = omega (arith, length-catalogue) in
      let s : (get_or catalogue i d).owner < 57 = small_owner i d w in
      other (0 + i) (get_or catalogue i d) (ne_eqb (get_or catalogue i d).owner class (λ e. omega arith)))

-- Along a lineage.

abbrev pub own_of : AllowList → List ℕ → ℕ → ℕ → Option ℕ
own_of allow name arity class = own_member allow class name arity

pub member_along : (allow : AllowList) (class : ℕ) (name : List ℕ) (arity : ℕ) (xs : List ℕ) → xs ≡ lineage_of class → member_of allow class name arity ≡ first_along (own_of allow name arity) xs
unfolding member_of
member_along allow class name arity xs e = ap (first_along (own_of allow name arity)) (sym e)

lineage-past : (class : ℕ) → 57 ≤ class → lineage_of class ≡ class ∷ []
unfolding lineage_of parents_of class_row class_table
lineage-past class h = ap (λ r. class ∷ flat_map (lineage_within 4) r.parents) (get_or-eq_default class_table no_class h)

pub member_past : (allow : AllowList) (class : ℕ) (name : List ℕ) (arity : ℕ) → 57 ≤ class → member_of allow class name arity ≡ None
unfolding member_of
member_past allow class name arity h = ap (first_along (λ c. own_member allow c name arity)) (lineage-past class h) ∙ ap (λ o. or_else o None) (own_past allow class name arity h)

pub first_gives : (f : ℕ → Option ℕ) (xs : List ℕ) (number : ℕ) → 1 ≤ length xs → f (get_or xs 0 0) ≡ Some number → first_along f xs ≡ Some number
first_gives f [] number h e = absurd (omega (arith, h))
first_gives f (x ∷ xs) number h e = ap (λ o. or_else o (first_along f xs)) e

pub others_give : (f : ℕ → Option ℕ) (xs : List ℕ) → 1 ≤ length xs → f (get_or xs 0 0) ≡ None → first_along f xs ≡ first_along f (take (length xs - 1) (drop 1 xs))
others_give f [] h e = absurd (omega (arith, h))
others_give f (x ∷ xs) h e = ap (λ o. or_else o (first_along f xs)) e ∙ ap (first_along f) (sym (take_rest (x ∷ xs) 1))

pub none_gives : (f : ℕ → Option ℕ) (xs : List ℕ) → length xs < 1 → first_along f xs ≡ None
none_gives f [] h = refl
none_gives f (x ∷ xs) h = absurd (omega (arith, h))

pub fewer : (xs : List ℕ) → 1 ≤ length xs → length (take (length xs - 1) (drop 1 xs)) < length xs
fewer xs h = omega (arith, ap length (take_rest xs 1), length-drop 1 xs)

-- A number past the classes is no functional interface.
not_in : (xs : List ℕ) (class : ℕ) → list_all (λ y. ltb y 57) xs ≡ true → 57 ≤ class → has xs class ≡ false
not_in [] class h k = refl
not_in (x ∷ xs) class h k =
    let a = and_parts (ltb x 57) (list_all (λ y. ltb y 57) xs) h in
    let small : x < 57 = ltb-true x 57 a.0 in
    ap (λ t. t || has xs class) (ne_eqb x class (λ e. omega arith)) ∙ not_in xs class a.1 k

pub iface_past : (class : ℕ) → 57 ≤ class → iface_method_of class ≡ None
unfolding iface_method_of
iface_past class h = ap (λ t. cond t (first_along plain_member (lineage_of class)) None) (not_in functional_interfaces class refl h)

-- the first class with a name
pub first_class-no : (test : ℕ → Bool) (n k m : ℕ) → k ≡ suc m → test n ≡ false → first_class test n k ≡ first_class test (n + 1) m
first_class-no test n k m e h = ap (first_class test n) e ∙ ap (λ b. cond b (Some n) (first_class test (n + 1) m)) h

-- The member that a line declares.

abbrev pub declared_test : ℕ → Form → ℕ → MemberType → Bool
declared_test class form n m = eqb m.owner class && declares form m

pub declared_begins : (class : ℕ) (form : Form) → declared_member class form ≡ first_member (declared_test class form) 0 (drop 0 catalogue)
unfolding declared_member
declared_begins class form = refl

at_number : (class : ℕ) (form : Form) (n : ℕ) (m : MemberType) → slice_get catalogue n ≡ Some m → first_member (declared_test class form) n (drop n catalogue) ≡ first_member (declared_test class form) n (m ∷ drop (n + 1) catalogue)
at_number class form n m e =
    at_drop_more (first_member (declared_test class form) n) catalogue n m (slice_get_within catalogue n m e)
    ∙ ap (λ x. first_member (declared_test class form) n (x ∷ drop (n + 1) catalogue)) (get_or_from_slice_get catalogue n m m e)

pub declared_no : (class : ℕ) (form : Form) (n : ℕ) (m : MemberType) → slice_get catalogue n ≡ Some m → (eqb m.owner class && declares form m) ≡ false → first_member (declared_test class form) n (drop n catalogue) ≡ first_member (declared_test class form) (n + 1) (drop (n + 1) catalogue)
declared_no class form n m e h = at_number class form n m e ∙ first_member-no (declared_test class form) n m (drop (n + 1) catalogue) h

pub declared_yes : (class : ℕ) (form : Form) (n : ℕ) (m : MemberType) → slice_get catalogue n ≡ Some m → (eqb m.owner class && declares form m) ≡ true → first_member (declared_test class form) n (drop n catalogue) ≡ Some n
declared_yes class form n m e h = at_number class form n m e ∙ first_member-yes (declared_test class form) n m (drop (n + 1) catalogue) h

pub declared_ends : (class : ℕ) (form : Form) (n : ℕ) → 228 ≤ n → first_member (declared_test class form) n (drop n catalogue) ≡ None
declared_ends class form n h = at_drop_all (first_member (declared_test class form) n) catalogue n (omega (arith, length-catalogue))
