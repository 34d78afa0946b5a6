-- The member for a static type is that of a value.
use Rattle.std.proofs.Common.{◌≡◌, ℕ, ◌<◌, Bool, true, false, ◌||◌, eqb, List, [], ◌∷◌, ◌++◌, Option, Some, None, length, refl, sym, ap, ◌∙◌, inl, inr}
use Rattle.std.specs.Prelude.{slice_get}
use Rattle.std.proofs.Math.Bool.{or-true}
use Rattle.std.proofs.lemmas.Bool.{cases_lt, eq-eqb, eqb-true, false≢true}
use Rattle.pl_types.specs.Classes.{class_is_below, has, lineage_of, parents_of}
use Rattle.allowlist.specs.declared.member.MemberKind.TheVariants.{Instance}
use Rattle.allowlist.specs.Allow.{AllowList, first_along, member_of, members_in, or_else, own_member}
use Rattle.allowlist.specs.Index.{member_in}
use Rattle.allowlist.proofs.Members.{own_of, member_past}
use Rattle.allowlist.proofs.Unique.{found_is_allowed, found_above}
use Rattle.def_resolve.specs.Resolution.{instance_in, instance_member}
use Rattle.def_resolve.specs.Laws.{Inherits, is_removal, itself, by_parent}
use Rattle.def_resolve.proofs.Clashes.{IsCalled, one_member}
use Rattle.def_resolve.proofs.Members.{is_instance_in, read_at}

-- ---- through the same parents

after_at : (f : ℕ → Option ℕ) (y : ℕ) (rest : Option ℕ) (found : Option ℕ) → f y ≡ found → or_else (f y) rest ≡ None → (f y ≡ None) × (rest ≡ None)
after_at f y rest None e h = (e, sym (ap (λ z. or_else z rest) e) ∙ h)
after_at f y rest (Some k) e h = let s = sym (ap (λ z. or_else z rest) e) ∙ h in cc

first_after : (f : ℕ → Option ℕ) (before : List ℕ) (x : ℕ) (after : List ℕ) (k : ℕ) → first_along f before ≡ None → f x ≡ Some k → first_along f (before ++ x ∷ after) ≡ Some k
first_after f [] x after k h e = ap (λ z. or_else z (first_along f after)) e
first_after f (y ∷ ys) x after k h e =
    let p = after_at f y (first_along f ys) (f y) refl h in
    ap (λ z. or_else z (first_along f (ys ++ x ∷ after))) p.0 ∙ first_after f ys x after k p.1 e

abbrev pub DepthFirst : Type 0
DepthFirst = (allow : AllowList) (class : ℕ) (name : List ℕ) (arity : ℕ) → member_of allow class name arity
    ≡ or_else (own_member allow class name arity) (first_along (λ parent. member_of allow parent name arity) (parents_of class))

inherited : DepthFirst → (allow : AllowList) (name : List ℕ) (arity class above k : ℕ) → Inherits allow name arity class above → member_of allow above name arity ≡ Some k → member_of allow class name arity ≡ Some k
inherited first allow name arity class above k itself h = h
inherited first allow name arity class above k (by_parent {parent} before after own parents none rest) h =
    let f = λ (p : ℕ). member_of allow p name arity in
    first allow class name arity
    ∙ ap (λ z. or_else z (first_along f (parents_of class))) own
    ∙ ap (first_along f) parents
    ∙ first_after f before parent after k none (inherited first allow name arity parent above k rest h)

-- what is one member of the catalogue is one instance member
pub as_instance : (allow : AllowList) (class above : ℕ) (name : List ℕ) (arity number : ℕ) → (member_of allow above name arity ≡ Some number → member_of allow class name arity ≡ Some number)
    → instance_member allow above name arity ≡ Some number → instance_member allow class name arity ≡ Some number
unfolding instance_member
as_instance allow class above name arity number same h =
    let p = is_instance_in allow (member_of allow above name arity) number h in
    ap (instance_in allow) (same p.0 ∙ sym p.0) ∙ h

pub same_member : DepthFirst → (allow : AllowList) (class above : ℕ) (name : List ℕ) (arity number : ℕ) → Inherits allow name arity class above
    → instance_member allow above name arity ≡ Some number → instance_member allow class name arity ≡ Some number
same_member first allow class above name arity number inherits =
    as_instance allow class above name arity number (inherited first allow name arity class above number inherits)

-- ---- under every list

-- what is found along a lineage is found at a class of it
one_in_at : (f : ℕ → Option ℕ) (x : ℕ) (xs : List ℕ) (k : ℕ) (o : Option ℕ) → f x ≡ o → first_along f (x ∷ xs) ≡ Some k → (first_along f xs ≡ Some k → (y : ℕ) × (has xs y ≡ true) × (f y ≡ Some k)) → (y : ℕ) × (has (x ∷ xs) y ≡ true) × (f y ≡ Some k)
one_in_at f x xs k None e h further =
    let r = further (sym (ap (λ z. or_else z (first_along f xs)) e) ∙ h) in
    (r.0, ap (λ t. eqb x r.0 || t) r.1 ∙ or-true (eqb x r.0), r.2)
one_in_at f x xs k (Some j) e h further =
    (x, ap (λ t. t || has xs x) (eq-eqb x x refl), e ∙ sym (ap (λ z. or_else z (first_along f xs)) e) ∙ h)

one_in : (f : ℕ → Option ℕ) (xs : List ℕ) (k : ℕ) → first_along f xs ≡ Some k → (y : ℕ) × (has xs y ≡ true) × (f y ≡ Some k)
one_in f [] k h = cc
one_in f (x ∷ xs) k h = one_in_at f x xs k (f x) refl h (one_in f xs k)

-- and where a class of a lineage gives something, something is found along it
some_at : (f : ℕ → Option ℕ) (x : ℕ) (xs : List ℕ) (y k : ℕ) (o : Option ℕ) (t : Bool) → f x ≡ o → eqb x y ≡ t → (t || has xs y) ≡ true → f y ≡ Some k
    → (has xs y ≡ true → (j : ℕ) × (first_along f xs ≡ Some j)) → (j : ℕ) × (first_along f (x ∷ xs) ≡ Some j)
some_at f x xs y k (Some j) t e same h g further = (j, ap (λ z. or_else z (first_along f xs)) e)
some_at f x xs y k None true e same h g further = let s = ap f (sym (eqb-true x y same)) ∙ e in cc
some_at f x xs y k None false e same h g further = let r = further h in (r.0, ap (λ z. or_else z (first_along f xs)) e ∙ r.1)

some_along : (f : ℕ → Option ℕ) (xs : List ℕ) (y k : ℕ) → has xs y ≡ true → f y ≡ Some k → (j : ℕ) × (first_along f xs ≡ Some j)
some_along f [] y k h g = absurd (false≢true h)
some_along f (x ∷ xs) y k h g = some_at f x xs y k (f x) (eqb x y) refl refl h g (λ r. some_along f xs y k r g)

abbrev pub Transitive : Type 0
Transitive = (a b c : ℕ) → class_is_below a b ≡ true → class_is_below b c ≡ true → class_is_below a c ≡ true

-- a class below has a member of this name too
some_below : Transitive → (allow : AllowList) (class above : ℕ) (name : List ℕ) (arity number : ℕ) → class_is_below class above ≡ true → member_of allow above name arity ≡ Some number
    → (k : ℕ) × (member_of allow class name arity ≡ Some k)
unfolding member_of class_is_below
some_below trans allow class above name arity number below h =
    let o = one_in (own_of allow name arity) (lineage_of above) number h in
    some_along (own_of allow name arity) (lineage_of class) o.0 number (trans class above o.0 below o.1) o.2

called : (allow : AllowList) (class : ℕ) (name : List ℕ) (arity k : ℕ) → member_of allow class name arity ≡ Some k → IsCalled (member_in allow k) class name arity
called allow class name arity k h =
    let f = found_is_allowed allow class name arity k h in
    let a = found_above allow class name arity k h in
    let at = sym (read_at k f.1.0 f.1.1) in
    record {
      name_is = ap (λ m. m.name) at ∙ f.1.2;
      arity_is = ap (λ m. length m.params) at ∙ f.1.3;
      below = ap (λ m. class_is_below class m.owner) (sym (read_at k a.0 a.1)) ∙ a.2;
    }

there : (allow : AllowList) (class : ℕ) (name : List ℕ) (arity k : ℕ) → member_of allow class name arity ≡ Some k → slice_get (members_in allow) k ≡ Some (member_in allow k)
there allow class name arity k h = let f = found_is_allowed allow class name arity k h in f.1.1 ∙ ap Some (read_at k f.1.0 f.1.1)

small : (allow : AllowList) (class : ℕ) (name : List ℕ) (arity k : ℕ) → member_of allow class name arity ≡ Some k → class < 57
small allow class name arity k h = elim (cases_lt class 57) [ inl l ↦ l | inr g ↦ (let e = sym (member_past allow class name arity g) ∙ h in cc) ]

one_found : Transitive → (allow : AllowList) (class above : ℕ) (name : List ℕ) (arity number : ℕ) → class_is_below class above ≡ true → is_removal name arity ≡ false
    → (member_in allow number).kind ≡ Instance → member_of allow above name arity ≡ Some number → member_of allow class name arity ≡ Some number
one_found trans allow class above name arity number below kept kind h =
    let s = some_below trans allow class above name arity number below h in
    let p = called allow above name arity number h in
    let here : IsCalled (member_in allow number) class name arity = record { name_is = p.name_is; arity_is = p.arity_is; below = trans class above (member_in allow number).owner below p.below } in
    let same = one_member number s.0 (member_in allow number) (member_in allow s.0) class name arity (small allow class name arity s.0 s.1)
    (there allow above name arity number h) (there allow class name arity s.0 s.1) kind kept here (called allow class name arity s.0 s.1) in
    s.1 ∙ ap Some (sym same)

pub one_instance : Transitive → (allow : AllowList) (class above : ℕ) (name : List ℕ) (arity number : ℕ) → class_is_below class above ≡ true → is_removal name arity ≡ false
    → instance_member allow above name arity ≡ Some number → instance_member allow class name arity ≡ Some number
unfolding instance_member
one_instance trans allow class above name arity number below kept h =
    let p = is_instance_in allow (member_of allow above name arity) number h in
    as_instance allow class above name arity number (one_found trans allow class above name arity number below kept p.1) h
