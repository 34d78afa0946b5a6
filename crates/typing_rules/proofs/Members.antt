-- What is found of the members of a list.
use Rattle.std.proofs.Common.{◌≡◌, ◌≢◌, ℕ, zero, suc, ◌+◌, ◌<◌, ◌≤◌, Bool, true, false, cond, eqb, ltb, List, [], ◌∷◌, ◌++◌, Option, Some, None, get_or, length, sym, refl, ap, ◌∙◌, inl, inr, arith}
use Rattle.std.specs.Prelude.{codes}
use Rattle.std.specs.List.{list_all, slice_get, slice_index_or, flat_map}
use Rattle.std.specs.Str.{bytes_eq}
use Rattle.std.specs.Char.{to_ascii_uppercase}
use Rattle.std.proofs.lemmas.Bool.Decides.{nat_tests}
use Rattle.std.proofs.lemmas.Bool.{and_parts, and_from, cases_lt, eqb-true, eq-eqb, false≢true, le-ltb}
use Rattle.std.proofs.lemmas.List.Folds.{list_all_at}
use Rattle.std.proofs.lemmas.Option.{slice_get_within, get_or_from_slice_get}
use Rattle.std.proofs.lemmas.Slice.Eq.{bytes_eq-Decides}
use Rattle.pl_types.specs.Classes.{lineage_of, lineage_within, parents_of}
use Rattle.allowlist.specs.declared.member.MemberType.{MemberType}
use Rattle.allowlist.specs.declared.name.Accessor.TheVariants as accessor
use Rattle.allowlist.specs.Accessors.{accessor_name, capitalized}
use Rattle.allowlist.specs.Catalogue.{catalogue, constructor}
use Rattle.allowlist.specs.Allow.{AllowList, flag, first_member, first_along, or_else, own_member, member_of, is_called, has_name}
use Rattle.allowlist.specs.Index.{member_at, member_in}
use Rattle.allowlist.proofs.Members.{own_of, asks}
use Rattle.allowlist.proofs.Places.{own_found}
use Rattle.allowlist.proofs.Tables.{length-catalogue}
use Rattle.allowlist.proofs.Unique.{found_is_allowed}
use Rattle.typing_rules.specs.Rules.Locations as locations
use Rattle.typing_rules.specs.Rules.Members as spec

-- what is read at a number
pub read_at : (number : ℕ) (m : MemberType) → slice_get catalogue number ≡ Some m → m ≡ member_at number
read_at number m h = sym (get_or_from_slice_get catalogue number m (constructor 0 []) h)

found_within : (allow : AllowList) (class : ℕ) (name : List ℕ) (arity number : ℕ) → member_of allow class name arity ≡ Some number → number < 228
found_within allow class name arity number h =
    let found = found_is_allowed allow class name arity number h in
    omega (arith, slice_get_within catalogue number found.1.0 found.1.1, length-catalogue)

-- ---- no member has so many parameters

few : list_all (λ (m : MemberType). ltb (length m.params) 256) catalogue ≡ true
unfolding catalogue
few = refl

few_at : (allow : AllowList) (class : ℕ) (name : List ℕ) (arity number : ℕ) → member_of allow class name arity ≡ Some number → arity < 256
few_at allow class name arity number h =
    let found = found_is_allowed allow class name arity number h in
    let m = found.1.0 in
    let count : length (get_or catalogue number m).params ≡ arity = ap (λ (x : MemberType). length x.params) (get_or_from_slice_get catalogue number m m found.1.1) ∙ found.1.3 in
    elim (cases_lt arity 256) [
      | inl l ↦ l
      | inr g ↦ absurd (false≢true (sym (list_all_at (λ (x : MemberType). ltb (length x.params) 256) catalogue number m (slice_get_within catalogue number m found.1.1)
          (ap (λ n. ltb n 256) count ∙ le-ltb arity 256 g)) ∙ few))
    ]

none_as : (allow : AllowList) (class : ℕ) (name : List ℕ) (arity : ℕ) (found : Option ℕ) → member_of allow class name arity ≡ found → 256 ≤ arity → member_of allow class name arity ≡ None
none_as allow class name arity None e h = e
none_as allow class name arity (Some number) e h = absurd (omega (arith, h, few_at allow class name arity number e))

pub too_many : (allow : AllowList) (class : ℕ) (name : List ℕ) (arity : ℕ) → 256 ≤ arity → member_of allow class name arity ≡ None
too_many allow class name arity h = none_as allow class name arity (member_of allow class name arity) refl h

-- ---- a class's own

-- what is found first passes the test
abbrev Passes : (ℕ → MemberType → Bool) → ℕ → List MemberType → ℕ → Type 0
Passes test n ms k = (i : ℕ) × (m : MemberType) × (k ≡ n + i) × (slice_get ms i ≡ Some m) × (test k m ≡ true)

passes_at : (test : ℕ → MemberType → Bool) (n : ℕ) (m : MemberType) (ms : List MemberType) (k : ℕ) (t : Bool) → test n m ≡ t → first_member test n (m ∷ ms) ≡ Some k → (first_member test (n + 1) ms ≡ Some k → Passes test (n + 1) ms k) → Passes test n (m ∷ ms) k
passes_at test n m ms k true e h further =
    let s : Some n ≡ Some k = sym (ap (λ t. cond t (Some n) (first_member test (n + 1) ms)) e) ∙ h in
    let k_is : n ≡ k = cc in
    (0, m, (let z : n + 0 ≡ n = omega arith in sym k_is ∙ sym z), refl, ap (λ j. test j m) (sym k_is) ∙ e)
passes_at test n m ms k false e h further =
    let r = further (sym (ap (λ t. cond t (Some n) (first_member test (n + 1) ms)) e) ∙ h) in
    (suc r.0, r.1, (let q : (n + 1) + r.0 ≡ n + suc r.0 = omega arith in r.2 ∙ q), r.3, r.4)

passes : (test : ℕ → MemberType → Bool) (n : ℕ) (ms : List MemberType) (k : ℕ) → first_member test n ms ≡ Some k → Passes test n ms k
passes test n [] k h = cc
passes test n (m ∷ ms) k h = passes_at test n m ms k (test n m) refl h (passes test (n + 1) ms k)

own_owner : (allow : AllowList) (class : ℕ) (name : List ℕ) (arity number : ℕ) → own_member allow class name arity ≡ Some number → (member_in allow number).owner ≡ class
unfolding own_member
own_owner allow class name arity number h =
    let p = passes (asks allow class name arity) 0 catalogue number h in
    let a = and_parts (flag allow.members number) (is_called class name arity p.1) p.4 in
    let b = and_parts (eqb p.1.owner class) (has_name name arity p.1) a.1 in
    let z : number ≡ p.0 = (let q : 0 + p.0 ≡ p.0 = omega arith in p.2 ∙ q) in
    ap (λ m. m.owner) (sym (read_at number p.1 (ap (slice_get catalogue) z ∙ p.3))) ∙ eqb-true p.1.owner class b.0

-- it comes before what the parents give
along : (allow : AllowList) (class : ℕ) (name : List ℕ) (arity : ℕ) → member_of allow class name arity ≡ or_else (own_member allow class name arity) (first_along (own_of allow name arity) (flat_map (lineage_within 4) (parents_of class)))
unfolding member_of lineage_of
along allow class name arity = refl

own_first : (allow : AllowList) (class : ℕ) (name : List ℕ) (arity number : ℕ) → own_member allow class name arity ≡ Some number → member_of allow class name arity ≡ Some number
own_first allow class name arity number h =
    along allow class name arity ∙ ap (λ o. or_else o (first_along (own_of allow name arity) (flat_map (lineage_within 4) (parents_of class)))) h

none_at : (allow : AllowList) (class : ℕ) (name : List ℕ) (arity : ℕ) (own : Option ℕ) → own_member allow class name arity ≡ own → member_of allow class name arity ≡ None → own_member allow class name arity ≡ None
none_at allow class name arity None e h = e
none_at allow class name arity (Some k) e h = let s = own_first allow class name arity k e in cc

pub own_none : (allow : AllowList) (class : ℕ) (name : List ℕ) (arity : ℕ) → member_of allow class name arity ≡ None → own_member allow class name arity ≡ None
own_none allow class name arity h = none_at allow class name arity (own_member allow class name arity) refl h

other_at : (allow : AllowList) (class : ℕ) (name : List ℕ) (arity number : ℕ) (own : Option ℕ) → own_member allow class name arity ≡ own → member_of allow class name arity ≡ Some number
    → (member_in allow number).owner ≢ class → own_member allow class name arity ≡ None
other_at allow class name arity number None e h differs = e
other_at allow class name arity number (Some k) e h differs =
    let s : Some k ≡ Some number = sym (own_first allow class name arity k e) ∙ h in
    let n : k ≡ number = cc in
    absurd (differs (ap (λ j. (member_in allow j).owner) (sym n) ∙ own_owner allow class name arity k e))

-- what is found above it is not its own
pub own_other : (allow : AllowList) (class : ℕ) (name : List ℕ) (arity number : ℕ) → member_of allow class name arity ≡ Some number → (member_in allow number).owner ≢ class → own_member allow class name arity ≡ None
own_other allow class name arity number h differs = other_at allow class name arity number (own_member allow class name arity) refl h differs

called : (class : ℕ) (name : List ℕ) (arity : ℕ) (m : MemberType) → m.owner ≡ class → m.name ≡ name → length m.params ≡ arity → is_called class name arity m ≡ true
called class name arity m o n l =
    and_from (eqb m.owner class) (has_name name arity m) (eq-eqb m.owner class o)
    (and_from (bytes_eq m.name name) (eqb (length m.params) arity) ((bytes_eq-Decides m.name name).1 n) (eq-eqb (length m.params) arity l))

has_flag : (flags : List Bool) (number : ℕ) → slice_index_or flags number false ≡ true → slice_get flags number ≡ Some true
has_flag [] number h = cc
has_flag (b ∷ bs) zero h = ap Some h
has_flag (b ∷ bs) (suc number) h = has_flag bs number h

-- and what is its own is
pub own_is : (allow : AllowList) (class : ℕ) (name : List ℕ) (arity number : ℕ) → member_of allow class name arity ≡ Some number → (member_in allow number).owner ≡ class → own_member allow class name arity ≡ Some number
own_is allow class name arity number h owner =
    let found = found_is_allowed allow class name arity number h in
    let at = read_at number found.1.0 found.1.1 in
    own_found allow class name arity number true (
      found_within allow class name arity number h,
      ap (is_called class name arity) (sym at) ∙ called class name arity found.1.0 (ap (λ m. m.owner) at ∙ owner) found.1.2 found.1.3,
    )
    (has_flag allow.members number found.0)

pub own_too_many : (allow : AllowList) (class : ℕ) (name : List ℕ) (arity : ℕ) → 256 ≤ arity → own_member allow class name arity ≡ None
own_too_many allow class name arity h = own_none allow class name arity (too_many allow class name arity h)

-- ---- getters

upper_is : (b : ℕ) → spec.upper b ≡ to_ascii_uppercase b
upper_is b = grind (arith, nat_tests)

capital_is : (name : List ℕ) → spec.capital name ≡ capitalized name
capital_is [] = refl
capital_is (b ∷ bs) = ap (λ u. u ∷ bs) (upper_is b)

getter_is : (allow : AllowList) (class : ℕ) (name : List ℕ) → spec.getter allow class name ≡ spec.or_else (member_of allow class (accessor_name accessor.Get name) 0) (member_of allow class (accessor_name accessor.Is name) 0)
getter_is allow class name = ap (λ n. spec.or_else (member_of allow class (codes "get" ++ n) 0) (member_of allow class (codes "is" ++ n) 0)) (capital_is name)

pub by_get : (allow : AllowList) (class : ℕ) (name : List ℕ) (number : ℕ) → member_of allow class (accessor_name accessor.Get name) 0 ≡ Some number → spec.getter allow class name ≡ Some number
by_get allow class name number h = getter_is allow class name ∙ ap (λ o. spec.or_else o (member_of allow class (accessor_name accessor.Is name) 0)) h

pub by_is : (allow : AllowList) (class : ℕ) (name : List ℕ) → member_of allow class (accessor_name accessor.Get name) 0 ≡ None → spec.getter allow class name ≡ member_of allow class (accessor_name accessor.Is name) 0
by_is allow class name h = getter_is allow class name ∙ ap (λ o. spec.or_else o (member_of allow class (accessor_name accessor.Is name) 0)) h

-- ---- setters

pub setter_is : (allow : AllowList) (class : ℕ) (name : List ℕ) → locations.setter allow class name ≡ member_of allow class (accessor_name accessor.Set name) 1
setter_is allow class name = ap (λ n. member_of allow class (codes "set" ++ n) 1) (capital_is name)
