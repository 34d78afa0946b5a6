-- The members of the catalogue, and what is found among them.
use Rattle.std.proofs.Common.{◌≡◌, ℕ, zero, suc, ◌+◌, ◌<◌, Bool, true, false, not, ◌&&◌, ◌||◌, cond, eqb, ltb, List, [], ◌∷◌, ◌++◌, Option, Some, None, IfSome, get_or, length, map, refl, sym, ap, ◌∙◌, inl, inr, arith}
use Rattle.std.specs.Str.{bytes_eq}
use Rattle.std.specs.List.{list_any, flat_map, range_with_len, slice_get}
use Rattle.std.proofs.lemmas.Bool.{eqb-true, eq-eqb, and_parts, not-true, false≢true, cases_lt, ltb-true}
use Rattle.std.proofs.lemmas.List.FromFn.{get_or-map-range_with_len}
use Rattle.std.proofs.lemmas.Option.{slice_get-get_or, slice_get_within}
use Rattle.std.proofs.lemmas.Slice.Eq.{bytes_eq-Decides}
use Rattle.pl_types.specs.Classes.{class_is_below, class_row, class_table, has, lineage_of, parents_of}
use Rattle.allowlist.specs.declared.member.MemberType.{MemberType}
use Rattle.allowlist.specs.declared.member.MemberKind.{MemberKind}
use Rattle.allowlist.specs.declared.member.MemberKind.TheVariants.{Constructor, Static, Instance, Field}
use Rattle.allowlist.specs.Catalogue.{catalogue, constructor}
use Rattle.allowlist.specs.Index.{member_at}
use Rattle.allowlist.specs.Allow.{AllowList, flag, has_name, is_called, first_member, own_member, member_of, first_along, or_else, iface_method_of}
use Rattle.allowlist.proofs.Members.{own_of, asks, iface_past}
use Rattle.allowlist.proofs.Tables.{length-catalogue}

same_key : MemberType → MemberType → Bool
same_key a b = eqb a.owner b.owner && eqb (length a.params) (length b.params) && bytes_eq a.name b.name

unique : List MemberType → Bool
unique [] = true
unique (m ∷ ms) = not (list_any (same_key m) ms) && unique ms

all_unique : unique catalogue ≡ true
unfolding unique same_key catalogue
all_unique = refl

among : (test : MemberType → Bool) (ms : List MemberType) (k : ℕ) (b : MemberType) → slice_get ms k ≡ Some b → test b ≡ true → list_any test ms ≡ true
among test [] k b e h = cc
among test (m ∷ ms) zero b e h = let s : m ≡ b = cc in ap (λ x. test x || list_any test ms) s ∙ ap (λ t. t || list_any test ms) h
among test (m ∷ ms) (suc k) b e h = or_right (test m) (list_any test ms) (among test ms k b e h)
  where
    or_right : (a b : Bool) → b ≡ true → (a || b) ≡ true
    or_right true b h = refl
    or_right false b h = h

apart : (ms : List MemberType) (i k : ℕ) (a b : MemberType) → unique ms ≡ true → slice_get ms i ≡ Some a → slice_get ms k ≡ Some b → same_key a b ≡ true → same_key b a ≡ true → i ≡ k
unfolding unique
apart [] i k a b u e f h g = cc
apart (m ∷ ms) zero zero a b u e f h g = refl
apart (m ∷ ms) zero (suc k) a b u e f h g =
    let s : m ≡ a = cc in
    let t : same_key m b ≡ true = ap (λ x. same_key x b) s ∙ h in
    absurd (false≢true (sym (not-true (list_any (same_key m) ms) (and_parts (not (list_any (same_key m) ms)) (unique ms) u).0) ∙ among (same_key m) ms k b f t))
apart (m ∷ ms) (suc i) zero a b u e f h g =
    let s : m ≡ b = cc in
    let t : same_key m a ≡ true = ap (λ x. same_key x a) s ∙ g in
    absurd (false≢true (sym (not-true (list_any (same_key m) ms) (and_parts (not (list_any (same_key m) ms)) (unique ms) u).0) ∙ among (same_key m) ms i a e t))
apart (m ∷ ms) (suc i) (suc k) a b u e f h g = ap suc (apart ms i k a b (and_parts (not (list_any (same_key m) ms)) (unique ms) u).1 e f h g)

key : (a b : MemberType) → a.owner ≡ b.owner → a.name ≡ b.name → length a.params ≡ length b.params → same_key a b ≡ true
unfolding same_key
key a b o n p = ap (λ t. t && eqb (length a.params) (length b.params) && bytes_eq a.name b.name) (eq-eqb a.owner b.owner o)
    ∙ ap (λ t. t && bytes_eq a.name b.name) (eq-eqb (length a.params) (length b.params) p)
    ∙ (bytes_eq-Decides a.name b.name).1 n

pub members_apart : (i k : ℕ) (a b : MemberType) → slice_get catalogue i ≡ Some a → slice_get catalogue k ≡ Some b → a.owner ≡ b.owner → a.name ≡ b.name → length a.params ≡ length b.params → i ≡ k
members_apart i k a b e f o n p = apart catalogue i k a b all_unique e f (key a b o n p) (key b a (sym o) (sym n) (sym p))

-- Along a lineage.

or_else_assoc : (a b c : Option ℕ) → or_else (or_else a b) c ≡ or_else a (or_else b c)
or_else_assoc None b c = refl
or_else_assoc (Some x) b c = refl

along-append : (f : ℕ → Option ℕ) (xs ys : List ℕ) → first_along f (xs ++ ys) ≡ or_else (first_along f xs) (first_along f ys)
along-append f [] ys = refl
along-append f (x ∷ xs) ys = ap (or_else (f x)) (along-append f xs ys) ∙ sym (or_else_assoc (f x) (first_along f xs) (first_along f ys))

along-flat_map : (f : ℕ → Option ℕ) (g : ℕ → List ℕ) (xs : List ℕ) → first_along f (flat_map g xs) ≡ first_along (λ x. first_along f (g x)) xs
along-flat_map f g [] = refl
along-flat_map f g (x ∷ xs) = along-append f (g x) (flat_map g xs) ∙ ap (or_else (first_along f (g x))) (along-flat_map f g xs)

pub depth_first : (allow : AllowList) (class : ℕ) (name : List ℕ) (arity : ℕ) → lineage_of class ≡ class ∷ flat_map lineage_of (parents_of class) → member_of allow class name arity ≡ or_else (own_member allow class name arity) (first_along (λ parent. member_of allow parent name arity) (parents_of class))
unfolding member_of
depth_first allow class name arity line = ap (first_along (own_of allow name arity)) line ∙ ap (or_else (own_member allow class name arity)) (along-flat_map (own_of allow name arity) lineage_of (parents_of class))

-- What is found passes.

abbrev Passes : (ℕ → MemberType → Bool) → ℕ → List MemberType → ℕ → Type 0
Passes test n ms k = (i : ℕ) × (m : MemberType) × (k ≡ n + i) × (slice_get ms i ≡ Some m) × (test k m ≡ true)

found_at : (test : ℕ → MemberType → Bool) (n : ℕ) (m : MemberType) (ms : List MemberType) (k : ℕ) (t : Bool) → test n m ≡ t → first_member test n (m ∷ ms) ≡ Some k → (first_member test (n + 1) ms ≡ Some k → Passes test (n + 1) ms k) → Passes test n (m ∷ ms) k
found_at test n m ms k true e h further =
    let s : Some n ≡ Some k = sym (ap (λ t. cond t (Some n) (first_member test (n + 1) ms)) e) ∙ h in
    let k_is : n ≡ k = cc in
    (0, m, (let z : n + 0 ≡ n = omega arith in sym k_is ∙ sym z), refl, ap (λ j. test j m) (sym k_is) ∙ e)
found_at test n m ms k false e h further =
    let r = further (sym (ap (λ t. cond t (Some n) (first_member test (n + 1) ms)) e) ∙ h) in
    (suc r.0, r.1, (let q : (n + 1) + r.0 ≡ n + suc r.0 = omega arith in r.2 ∙ q), r.3, r.4)

found_passes : (test : ℕ → MemberType → Bool) (n : ℕ) (ms : List MemberType) (k : ℕ) → first_member test n ms ≡ Some k → Passes test n ms k
found_passes test n [] k h = cc
found_passes test n (m ∷ ms) k h = found_at test n m ms k (test n m) refl h (found_passes test (n + 1) ms k)

one_at : (f : ℕ → Option ℕ) (x : ℕ) (xs : List ℕ) (k : ℕ) (o : Option ℕ) → f x ≡ o → first_along f (x ∷ xs) ≡ Some k → (first_along f xs ≡ Some k → (y : ℕ) × (f y ≡ Some k)) → (y : ℕ) × (f y ≡ Some k)
one_at f x xs k None e h further = further (sym (ap (λ z. or_else z (first_along f xs)) e) ∙ h)
one_at f x xs k (Some j) e h further = (x, e ∙ sym (ap (λ z. or_else z (first_along f xs)) e) ∙ h)

one_of : (f : ℕ → Option ℕ) (xs : List ℕ) (k : ℕ) → first_along f xs ≡ Some k → (x : ℕ) × (f x ≡ Some k)
one_of f [] k h = cc
one_of f (x ∷ xs) k h = one_at f x xs k (f x) refl h (one_of f xs k)

pub found_is_allowed : (allow : AllowList) (class : ℕ) (name : List ℕ) (arity number : ℕ) → member_of allow class name arity ≡ Some number → (flag allow.members number ≡ true) × ((m : MemberType) × (slice_get catalogue number ≡ Some m) × (m.name ≡ name) × (length m.params ≡ arity))
unfolding member_of own_member
found_is_allowed allow class name arity number h =
    let o = one_of (own_of allow name arity) (lineage_of class) number h in
    let p = found_passes (asks allow o.0 name arity) 0 catalogue number o.1 in
    let a = and_parts (flag allow.members number) (is_called o.0 name arity p.1) p.4 in
    let b = and_parts (eqb p.1.owner o.0) (has_name name arity p.1) a.1 in
    let d = and_parts (bytes_eq p.1.name name) (eqb (length p.1.params) arity) b.1 in
    let z : number ≡ p.0 = (let q : 0 + p.0 ≡ p.0 = omega arith in p.2 ∙ q) in
    (a.0, (p.1, ap (slice_get catalogue) z ∙ p.3, (bytes_eq-Decides p.1.name name).0 d.0, eqb-true (length p.1.params) arity d.1))

-- what is found along a lineage is found at a class of it
one_in_at : (f : ℕ → Option ℕ) (x : ℕ) (xs : List ℕ) (k : ℕ) (o : Option ℕ) → f x ≡ o → first_along f (x ∷ xs) ≡ Some k → (first_along f xs ≡ Some k → (y : ℕ) × (has xs y ≡ true) × (f y ≡ Some k)) → (y : ℕ) × (has (x ∷ xs) y ≡ true) × (f y ≡ Some k)
one_in_at f x xs k None e h further =
    let r = further (sym (ap (λ z. or_else z (first_along f xs)) e) ∙ h) in
    (r.0, or_right (eqb x r.0) (has xs r.0) r.1, r.2)
  where
    or_right : (a b : Bool) → b ≡ true → (a || b) ≡ true
    or_right true b h = refl
    or_right false b h = h
one_in_at f x xs k (Some j) e h further =
    (x, ap (λ t. t || has xs x) (eq-eqb x x refl), e ∙ sym (ap (λ z. or_else z (first_along f xs)) e) ∙ h)

one_in : (f : ℕ → Option ℕ) (xs : List ℕ) (k : ℕ) → first_along f xs ≡ Some k → (x : ℕ) × (has xs x ≡ true) × (f x ≡ Some k)
one_in f [] k h = cc
one_in f (x ∷ xs) k h = one_in_at f x xs k (f x) refl h (one_in f xs k)

pub found_above : (allow : AllowList) (class : ℕ) (name : List ℕ) (arity number : ℕ) → member_of allow class name arity ≡ Some number → (m : MemberType) × (slice_get catalogue number ≡ Some m) × (class_is_below class m.owner ≡ true)
unfolding member_of own_member class_is_below
found_above allow class name arity number h =
    let o = one_in (own_of allow name arity) (lineage_of class) number h in
    let p = found_passes (asks allow o.0 name arity) 0 catalogue number o.2 in
    let a = and_parts (flag allow.members number) (is_called o.0 name arity p.1) p.4 in
    let b = and_parts (eqb p.1.owner o.0) (has_name name arity p.1) a.1 in
    let z : number ≡ p.0 = (let q : 0 + p.0 ≡ p.0 = omega arith in p.2 ∙ q) in
    (p.1, ap (slice_get catalogue) z ∙ p.3, ap (has (lineage_of class)) (eqb-true p.1.owner o.0 b.0) ∙ o.1)

-- The one method of an interface.

is_instance : MemberKind → Bool
is_instance Instance = true
is_instance Constructor = false
is_instance Static = false
is_instance Field = false

instance_is : (k : MemberKind) → is_instance k ≡ true → k ≡ Instance
unfolding is_instance
instance_is Instance h = refl
instance_is Constructor h = absurd (false≢true h)
instance_is Static h = absurd (false≢true h)
instance_is Field h = absurd (false≢true h)

method_fits : ℕ → Option ℕ → Bool
method_fits class None = true
method_fits class (Some number) = ltb number 228 && (is_instance (member_at number).kind && class_is_below class (member_at number).owner)

each_fits : map (λ c. method_fits c (iface_method_of c)) (range_with_len 0 57) ≡ map (λ c. true) (range_with_len 0 57)
unfolding method_fits is_instance iface_method_of class_is_below lineage_of parents_of class_row class_table catalogue
each_fits = refl

fits_at : (class : ℕ) → class < 57 → method_fits class (iface_method_of class) ≡ true
fits_at class h =
    sym (get_or-map-range_with_len (λ c. method_fits c (iface_method_of c)) 0 57 class class true h (omega arith))
    ∙ ap (λ xs. get_or xs class true) each_fits
    ∙ get_or-map-range_with_len (λ c. true) 0 57 class class true h (omega arith)

abbrev MethodOf : ℕ → ℕ → Type 0
MethodOf class number = (m : MemberType) × (slice_get catalogue number ≡ Some m) × (m.kind ≡ Instance) × (class_is_below class m.owner ≡ true)

fitting : (class number : ℕ) → method_fits class (Some number) ≡ true → MethodOf class number
unfolding method_fits
fitting class number h =
    let a = and_parts (ltb number 228) (is_instance (member_at number).kind && class_is_below class (member_at number).owner) h in
    let b = and_parts (is_instance (member_at number).kind) (class_is_below class (member_at number).owner) a.1 in
    let within : number < length catalogue = omega (arith, ltb-true number 228 a.0, length-catalogue) in
    (member_at number, slice_get-get_or catalogue number (constructor 0 []) within, instance_is (member_at number).kind b.0, b.1)

pub method_above : (class number : ℕ) → iface_method_of class ≡ Some number → MethodOf class number
method_above class number h =
    elim (cases_lt class 57) [
      | inl l ↦ fitting class number (ap (method_fits class) (sym h) ∙ fits_at class l)
      | inr g ↦ (let e = sym (iface_past class g) ∙ h in cc)
    ]

-- What a list allows is below its length.

flag_within : (flags : List Bool) (number : ℕ) → flag flags number ≡ true → number < length flags
flag_within [] number h = cc
flag_within (b ∷ bs) zero h = omega arith
flag_within (b ∷ bs) (suc number) h = let l = flag_within bs number h in omega (arith, l)

pub found_in_list : (allow : AllowList) (class : ℕ) (name : List ℕ) (arity number : ℕ) → member_of allow class name arity ≡ Some number → number < length allow.members
found_in_list allow class name arity number h = flag_within allow.members number (found_is_allowed allow class name arity number h).0

pub all_in_list : (allow : AllowList) (class : ℕ) (name : List ℕ) (arity : ℕ) (found : Option ℕ) → found ≡ member_of allow class name arity → IfSome found (λ number. number < length allow.members)
all_in_list allow class name arity None h = tt
all_in_list allow class name arity (Some number) h = found_in_list allow class name arity number (sym h)

-- and the method of an interface is, where the list has the whole catalogue
pub method_in_list : (class most : ℕ) (found : Option ℕ) → found ≡ iface_method_of class → most ≡ 228 → IfSome found (λ number. number < most)
method_in_list class most None h whole = tt
method_in_list class most (Some number) h whole =
    let m = method_above class number (sym h) in
    omega (arith, slice_get_within catalogue number m.0 m.1, length-catalogue, whole)
