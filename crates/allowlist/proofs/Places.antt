-- What an index says at its places, and what is found by it.
use Rattle.std.proofs.Common.{◌≡◌, ℕ, zero, suc, ◌+◌, ◌<◌, ◌≤◌, Bool, true, false, not, eqb, leb, ltb, List, [], ◌∷◌, Some, None, get_or, length, drop, map, sym, refl, ap, ◌∙◌, inl, inr, arith}
use Rattle.std.specs.List.{range_with_len, list_all, list_any, slice_get}
use Rattle.std.specs.Bool.{then_some}
use Rattle.std.specs.Str.{bytes_eq}
use Rattle.std.specs.Ordering.{nat_cmp, ordering_then, ordering_reverse, is_lt}
use Rattle.std.specs.declared.cmp.Ordering.{Ordering}
use Rattle.std.specs.declared.cmp.Ordering.TheVariants.{Less, Equal, Greater}
use Rattle.std.specs.Cmp.{then_flip}
use Rattle.std.specs.Cmp.Lexicographic.{slice_cmp, nat_list_cmp_total}
use Rattle.std.proofs.lemmas.Cmp.{tied_itself, nat_cmp_total}
use Rattle.std.proofs.lemmas.Map.Lookups.{exact_bytes, exact_unsigned}
use Rattle.std.proofs.lemmas.Bool.{eqb-true, eq-eqb, lt-ltb, le-leb, ltb-true, leb-true, cases_lt, and_parts, and_from, or_cases, not-true, false≢true, true_from_ne_false, false_from_ne_true}
use Rattle.std.proofs.lemmas.List.{length-map, get_or-map, get_or_default, at_drop_more}
use Rattle.std.proofs.lemmas.List.Folds.{list_all_at}
use Rattle.std.proofs.lemmas.List.FromFn.{get_or-range_with_len}
use Rattle.std.proofs.lemmas.Option.{slice_get-get_or, get_or_from_slice_get}
use Rattle.std.proofs.lemmas.Slice.Eq.{bytes_eq-Decides}
use Rattle.allowlist.specs.declared.member.MemberType.{MemberType}
use Rattle.allowlist.specs.Catalogue.{catalogue, constructor}
use Rattle.allowlist.specs.Allow.{AllowList, first_member, start_of, own_member, flag, has_name, is_called}
use Rattle.allowlist.specs.Index.{order_of, stands_before, ascends, member_at, IsIndex, IsMemberCalled}
use Rattle.allowlist.proofs.Tables.{length-catalogue}
use Rattle.allowlist.proofs.Members.{asks, owner_test, start_within, skip, none, first_member-yes}
use Rattle.allowlist.proofs.Unique.{members_apart}

passes : {X : Type 0} (f : X → Bool) (xs : List X) (i : ℕ) (d : X) → list_all f xs ≡ true → i < length xs → f (get_or xs i d) ≡ true
passes f xs i d h l = true_from_ne_false (f (get_or xs i d)) (λ e. false≢true (sym (list_all_at f xs i d l e) ∙ h))

place_of : {X : Type 0} (f : X → Bool) (xs : List X) (d : X) → list_any f xs ≡ true → (p : ℕ) × (p < length xs) × (f (get_or xs p d) ≡ true)
place_of f [] d h = absurd (false≢true h)
place_of f (x ∷ xs) d h = elim (or_cases (f x) (list_any f xs) h) [
  | inl a ↦ (0, omega arith, a)
  | inr b ↦ (let r = place_of f xs d b in (suc r.0, omega (arith, r.1), r.2))
]

-- The order of names and numbers of parameters.

is_less : (o : Ordering) → is_lt o ≡ true → o ≡ Less
is_less Less h = refl
is_less Equal h = cc
is_less Greater h = cc

equal_parts : (a b : Ordering) → ordering_then a b ≡ Equal → (a ≡ Equal) × (b ≡ Equal)
equal_parts Less b h = cc
equal_parts Equal b h = (refl, h)
equal_parts Greater b h = cc

pub equal_named : (name : List ℕ) (arity : ℕ) (m : MemberType) → order_of name arity m ≡ Equal → has_name name arity m ≡ true
equal_named name arity m h =
    let e = equal_parts (slice_cmp nat_cmp m.name name) (nat_cmp (length m.params) arity) h in
    and_from (bytes_eq m.name name) (eqb (length m.params) arity)
    ((bytes_eq-Decides m.name name).1 (exact_bytes m.name name e.0))
    (eq-eqb (length m.params) arity (exact_unsigned (length m.params) arity e.1))

-- a name and a number of parameters that a member has
keyed : (name : List ℕ) (arity : ℕ) (m : MemberType) → has_name name arity m ≡ true → (m.name ≡ name) × (length m.params ≡ arity)
keyed name arity m h =
    let b = and_parts (bytes_eq m.name name) (eqb (length m.params) arity) h in
    ((bytes_eq-Decides m.name name).0 b.0, eqb-true (length m.params) arity b.1)

order_as : (name : List ℕ) (arity : ℕ) (m x : MemberType) → has_name name arity m ≡ true → order_of name arity x ≡ order_of m.name (length m.params) x
order_as name arity m x h =
    let k = keyed name arity m h in
    ap (λ n. order_of n arity x) (sym k.0) ∙ ap (λ a. order_of m.name a x) (sym k.1)

order_itself : (m : MemberType) → order_of m.name (length m.params) m ≡ Equal
order_itself m = ap (λ o. ordering_then o (nat_cmp (length m.params) (length m.params))) (tied_itself nat_list_cmp_total m.name) ∙ tied_itself nat_cmp_total (length m.params)

order_turned : (a b : MemberType) → order_of a.name (length a.params) b ≡ ordering_reverse (order_of b.name (length b.params) a)
order_turned a b =
    ap (λ o. ordering_then o (nat_cmp (length b.params) (length a.params))) (nat_list_cmp_total.antisymm b.name a.name)
    ∙ ap (ordering_then (ordering_reverse (slice_cmp nat_cmp a.name b.name))) (nat_cmp_total.antisymm (length b.params) (length a.params))
    ∙ then_flip (slice_cmp nat_cmp a.name b.name) (nat_cmp (length a.params) (length b.params))

-- What stands at a place.

abbrev pub at_place : List ℕ → ℕ → MemberType
at_place index p = member_at (get_or index p 0)

pub length-index : (index : List ℕ) → IsIndex index → length index ≡ 228
length-index index ok =
    sym (length-map index (λ n. (member_at n).owner)) ∙ ap length ok.classes ∙ length-map catalogue (λ m. m.owner) ∙ length-catalogue

pub number_within : (index : List ℕ) (p d : ℕ) → IsIndex index → p < 228 → get_or index p d < 228
number_within index p d ok h =
    ltb-true (get_or index p d) 228 (passes (λ n. ltb n 228) index p d ok.within (omega (arith, length-index index ok)))

place_owner : (index : List ℕ) (p : ℕ) (d : MemberType) → IsIndex index → p < 228 → (at_place index p).owner ≡ (get_or catalogue p d).owner
place_owner index p d ok h =
    sym (get_or-map (λ n. (member_at n).owner) index p 0 0 (omega (arith, length-index index ok)))
    ∙ ap (λ xs. get_or xs p 0) ok.classes
    ∙ get_or-map (λ m. m.owner) catalogue p d 0 (omega (arith, length-catalogue))

-- the places of a class
abbrev pub IsPlaceOf : ℕ → ℕ → Type 0
IsPlaceOf class p = (start_of class ≤ p) × (p < start_of (class + 1))

pub place_within : (class p : ℕ) → class < 57 → IsPlaceOf class p → p < 228
place_within class p h i = let small : start_of (class + 1) ≤ 228 = start_within (class + 1) (omega arith) in omega (arith, i.1)

owner_is : (index : List ℕ) (class p : ℕ) → IsIndex index → class < 57 → IsPlaceOf class p → (at_place index p).owner ≡ class
owner_is index class p ok h i =
    let d = constructor 0 [] in
    place_owner index p d ok (place_within class p h i)
    ∙ eqb-true (get_or catalogue p d).owner class (owner_test class p d h (place_within class p h i) ∙ and_from (leb (start_of class) p) (ltb p (start_of (class + 1))) (le-leb (start_of class) p i.0) (lt-ltb p (start_of (class + 1)) i.1))

is_place : (index : List ℕ) (class p : ℕ) → IsIndex index → class < 57 → p < 228 → (at_place index p).owner ≡ class → IsPlaceOf class p
is_place index class p ok h l e =
    let d = constructor 0 [] in
    let t = and_parts (leb (start_of class) p) (ltb p (start_of (class + 1))) (sym (owner_test class p d h l) ∙ eq-eqb (get_or catalogue p d).owner class (sym (place_owner index p d ok l) ∙ e)) in
    (leb-true (start_of class) p t.0, ltb-true p (start_of (class + 1)) t.1)

ascends_at : (ms : List MemberType) (p q : ℕ) (d : MemberType) → ascends ms ≡ true → p < q → q < length ms → stands_before (get_or ms p d) (get_or ms q d) ≡ true
ascends_at [] p q d h a b = absurd (omega (arith, b))
ascends_at (m ∷ ms) p zero d h a b = absurd (omega (arith, a))
ascends_at (m ∷ ms) zero (suc q) d h a b = passes (stands_before m) ms q d (and_parts (list_all (stands_before m) ms) (ascends ms) h).0 (omega (arith, b))
ascends_at (m ∷ ms) (suc p) (suc q) d h a b = ascends_at ms p q d (and_parts (list_all (stands_before m) ms) (ascends ms) h).1 (omega (arith, a)) (omega (arith, b))

-- an earlier place of a class has the lesser name and number of parameters
place_before : (index : List ℕ) (p q : ℕ) → IsIndex index → p < q → q < 228 → (at_place index p).owner ≡ (at_place index q).owner → order_of (at_place index q).name (length (at_place index q).params) (at_place index p) ≡ Less
place_before index p q ok a b same =
    let len = length-index index ok in
    let d = constructor 0 [] in
    let m : get_or (map member_at index) p d ≡ at_place index p = get_or-map member_at index p 0 d (omega (arith, len)) in
    let n : get_or (map member_at index) q d ≡ at_place index q = get_or-map member_at index q 0 d (omega (arith, len)) in
    let h : stands_before (get_or (map member_at index) p d) (get_or (map member_at index) q d) ≡ true =
    ascends_at (map member_at index) p q d ok.by_name a (omega (arith, len, length-map index member_at)) in
    let k : stands_before (at_place index p) (at_place index q) ≡ true =
    ap (λ x. stands_before x (at_place index q)) (sym m) ∙ ap (stands_before (get_or (map member_at index) p d)) (sym n) ∙ h in
    elim (or_cases (not (eqb (at_place index p).owner (at_place index q).owner)) (is_lt (order_of (at_place index q).name (length (at_place index q).params) (at_place index p))) k) [
      | inl e ↦ absurd (false≢true (sym (not-true _ e) ∙ eq-eqb (at_place index p).owner (at_place index q).owner same))
      | inr e ↦ is_less _ e
    ]

-- The part of the index that is still to be searched.

abbrev pub Window : List ℕ → ℕ → List ℕ → ℕ → ℕ → ℕ → Type 0
Window index class name arity low high = (p : ℕ) → IsPlaceOf class p → has_name name arity (at_place index p) ≡ true → (low ≤ p) × (p < high)

same_owner : (index : List ℕ) (class p q : ℕ) → IsIndex index → class < 57 → IsPlaceOf class p → IsPlaceOf class q → (at_place index p).owner ≡ (at_place index q).owner
same_owner index class p q ok h a b = owner_is index class p ok h a ∙ sym (owner_is index class q ok h b)

-- the member at a place against the name and number of parameters of one at another place
named_after : (index : List ℕ) (class : ℕ) (name : List ℕ) (arity p q : ℕ) → IsIndex index → class < 57 → IsPlaceOf class p → IsPlaceOf class q → p < q → has_name name arity (at_place index q) ≡ true → order_of name arity (at_place index p) ≡ Less
named_after index class name arity p q ok h a b l e =
    order_as name arity (at_place index q) (at_place index p) e
    ∙ place_before index p q ok l (place_within class q h b) (same_owner index class p q ok h a b)

named_before : (index : List ℕ) (class : ℕ) (name : List ℕ) (arity p q : ℕ) → IsIndex index → class < 57 → IsPlaceOf class p → IsPlaceOf class q → p < q → has_name name arity (at_place index p) ≡ true → order_of name arity (at_place index q) ≡ Greater
named_before index class name arity p q ok h a b l e =
    order_as name arity (at_place index p) (at_place index q) e
    ∙ order_turned (at_place index p) (at_place index q)
    ∙ ap ordering_reverse (place_before index p q ok l (place_within class q h b) (same_owner index class p q ok h a b))

named_here : (index : List ℕ) (name : List ℕ) (arity p q : ℕ) → p ≡ q → has_name name arity (at_place index p) ≡ true → order_of name arity (at_place index q) ≡ Equal
named_here index name arity p q same e =
    ap (λ x. order_of name arity (at_place index x)) (sym same) ∙ order_as name arity (at_place index p) (at_place index p) e ∙ order_itself (at_place index p)

pub window_whole : (index : List ℕ) (class : ℕ) (name : List ℕ) (arity : ℕ) → Window index class name arity (start_of class) (start_of (class + 1))
window_whole index class name arity p i e = i

pub window_upper : (index : List ℕ) (class : ℕ) (name : List ℕ) (arity low middle high : ℕ) → IsIndex index → class < 57 → IsPlaceOf class middle → order_of name arity (at_place index middle) ≡ Less → Window index class name arity low high → Window index class name arity (middle + 1) high
window_upper index class name arity low middle high ok h i o w p j e =
    elim (cases_lt middle p) [
      | inl l ↦ (omega (arith, l), (w p j e).1)
      | inr g ↦ elim (cases_lt p middle) [
        | inl l ↦ (let t = named_before index class name arity p middle ok h j i l e in cc)
        | inr k ↦ (let s : p ≡ middle = omega (arith, g, k) in let t = named_here index name arity p middle s e in cc)
      ]
    ]

pub window_lower : (index : List ℕ) (class : ℕ) (name : List ℕ) (arity low middle high : ℕ) → IsIndex index → class < 57 → IsPlaceOf class middle → order_of name arity (at_place index middle) ≡ Greater → Window index class name arity low high → Window index class name arity low middle
window_lower index class name arity low middle high ok h i o w p j e =
    elim (cases_lt p middle) [
      | inl l ↦ ((w p j e).0, l)
      | inr g ↦ elim (cases_lt middle p) [
        | inl l ↦ (let t = named_after index class name arity middle p ok h i j l e in cc)
        | inr k ↦ (let s : p ≡ middle = omega (arith, g, k) in let t = named_here index name arity p middle s e in cc)
      ]
    ]

pub found : (index : List ℕ) (class : ℕ) (name : List ℕ) (arity middle : ℕ) → IsIndex index → class < 57 → IsPlaceOf class middle → order_of name arity (at_place index middle) ≡ Equal → IsMemberCalled class name arity (Some (get_or index middle 0))
found index class name arity middle ok h i o = (
  number_within index middle 0 ok (place_within class middle h i),
  and_from (eqb (at_place index middle).owner class) (has_name name arity (at_place index middle)) (eq-eqb (at_place index middle).owner class (owner_is index class middle ok h i)) (equal_named name arity (at_place index middle) o),
)

pub not_found : (index : List ℕ) (class : ℕ) (name : List ℕ) (arity low high : ℕ) → IsIndex index → class < 57 → high ≤ low → Window index class name arity low high → IsMemberCalled class name arity None
not_found index class name arity low high ok h gone w number l =
    false_from_ne_true (is_called class name arity (member_at number)) (λ e.
    let parts = and_parts (eqb (member_at number).owner class) (has_name name arity (member_at number)) e in
    let z : 0 + number ≡ number = omega arith in
    let there : list_any (λ n. eqb n number) index ≡ true =
    ap (λ k. list_any (λ n. eqb n k) index) (sym (get_or-range_with_len 0 228 number 0 l ∙ z))
    ∙ passes (λ k. list_any (λ n. eqb n k) index) (range_with_len 0 228) number 0 ok.whole l in
    let place = place_of (λ n. eqb n number) index 0 there in
    let is : get_or index place.0 0 ≡ number = eqb-true (get_or index place.0 0) number place.2 in
    let owner : (at_place index place.0).owner ≡ class = ap (λ n. (member_at n).owner) is ∙ eqb-true (member_at number).owner class parts.0 in
    let named : has_name name arity (at_place index place.0) ≡ true = ap (λ n. has_name name arity (member_at n)) is ∙ parts.1 in
    let in_window = w place.0 (is_place index class place.0 ok h (omega (arith, place.1, length-index index ok)) owner) named in
    omega (arith, in_window.0, in_window.1, gone))

-- a member of the catalogue that was read at a number
pub read_member : (types : List MemberType) (number : ℕ) (m : MemberType) → types ≡ catalogue → number < 228 → m ≡ get_or types number m → m ≡ member_at number
read_member types number m e h is = is ∙ ap (λ xs. get_or xs number m) e ∙ get_or_default catalogue number m (constructor 0 []) (omega (arith, length-catalogue))

-- The class's own member, where the list allows it.

member_is : (i : ℕ) (d : MemberType) → i < 228 → get_or catalogue i d ≡ member_at i
member_is i d h = get_or_default catalogue i d (constructor 0 []) (omega (arith, length-catalogue))

-- two members that are called alike are one
same_called : (class : ℕ) (name : List ℕ) (arity i k : ℕ) → i < 228 → k < 228 → is_called class name arity (member_at i) ≡ true → is_called class name arity (member_at k) ≡ true → i ≡ k
same_called class name arity i k h l a b =
    let p = and_parts (eqb (member_at i).owner class) (has_name name arity (member_at i)) a in
    let q = and_parts (eqb (member_at k).owner class) (has_name name arity (member_at k)) b in
    let n = keyed name arity (member_at i) p.1 in
    let m = keyed name arity (member_at k) q.1 in
    members_apart i k (member_at i) (member_at k)
    (slice_get-get_or catalogue i (constructor 0 []) (omega (arith, length-catalogue)))
    (slice_get-get_or catalogue k (constructor 0 []) (omega (arith, length-catalogue)))
    (eqb-true (member_at i).owner class p.0 ∙ sym (eqb-true (member_at k).owner class q.0))
    (n.0 ∙ sym m.0)
    (n.1 ∙ sym m.1)

pub own_none : (allow : AllowList) (class : ℕ) (name : List ℕ) (arity : ℕ) → IsMemberCalled class name arity None → own_member allow class name arity ≡ None
unfolding own_member
own_none allow class name arity h = none (asks allow class name arity) 0 catalogue (λ i d l.
    let w : i < 228 = omega (arith, length-catalogue) in
    let z : 0 + i ≡ i = omega arith in
    ap (λ m. asks allow class name arity (0 + i) m) (member_is i d w)
    ∙ false_from_ne_true (asks allow class name arity (0 + i) (member_at i)) (λ e. false≢true (sym (h i w) ∙ (and_parts (flag allow.members (0 + i)) (is_called class name arity (member_at i)) e).1)))

own_left_out : (allow : AllowList) (class : ℕ) (name : List ℕ) (arity number : ℕ) → IsMemberCalled class name arity (Some number) → flag allow.members number ≡ false → own_member allow class name arity ≡ None
unfolding own_member
own_left_out allow class name arity number h f = none (asks allow class name arity) 0 catalogue (λ i d l.
    let w : i < 228 = omega (arith, length-catalogue) in
    let z : 0 + i ≡ i = omega arith in
    ap (λ m. asks allow class name arity (0 + i) m) (member_is i d w)
    ∙ false_from_ne_true (asks allow class name arity (0 + i) (member_at i)) (λ e.
    let p = and_parts (flag allow.members (0 + i)) (is_called class name arity (member_at i)) e in
    let s : i ≡ number = same_called class name arity i number w h.0 p.1 h.1 in
    false≢true (sym f ∙ ap (flag allow.members) (sym (z ∙ s)) ∙ p.0)))

own_allowed : (allow : AllowList) (class : ℕ) (name : List ℕ) (arity number : ℕ) → IsMemberCalled class name arity (Some number) → flag allow.members number ≡ true → own_member allow class name arity ≡ Some number
unfolding own_member
own_allowed allow class name arity number h f =
    let z : 0 + number ≡ number = omega arith in
    skip (asks allow class name arity) number 0 catalogue (λ i d l.
    let w : i < 228 = omega (arith, h.0) in
    ap (λ m. asks allow class name arity (0 + i) m) (member_is i d w)
    ∙ false_from_ne_true (asks allow class name arity (0 + i) (member_at i)) (λ e.
    let p = and_parts (flag allow.members (0 + i)) (is_called class name arity (member_at i)) e in
    let s : i ≡ number = same_called class name arity i number w h.0 p.1 h.1 in
    omega (arith, s, l)))
    ∙ ap (λ j. first_member (asks allow class name arity) j (drop number catalogue)) z
    ∙ at_drop_more (first_member (asks allow class name arity) number) catalogue number (constructor 0 []) (omega (arith, h.0, length-catalogue))
    ∙ first_member-yes (asks allow class name arity) number (member_at number) (drop (number + 1) catalogue) (and_from (flag allow.members number) (is_called class name arity (member_at number)) f h.1)

pub own_found : (allow : AllowList) (class : ℕ) (name : List ℕ) (arity number : ℕ) (allowed : Bool) → IsMemberCalled class name arity (Some number) → slice_get allow.members number ≡ Some allowed → own_member allow class name arity ≡ then_some allowed number
own_found allow class name arity number true h f = own_allowed allow class name arity number h (get_or_from_slice_get allow.members number true false f)
own_found allow class name arity number false h f = own_left_out allow class name arity number h (get_or_from_slice_get allow.members number false false f)
