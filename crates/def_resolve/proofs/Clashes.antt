-- No class has two members of one name and number of parameters, whether its own or from above, but for `remove` with one.
use Rattle.std.proofs.Common.{◌≡◌, ℕ, zero, suc, ◌+◌, ◌<◌, Bool, true, false, not, ◌&&◌, eqb, List, [], ◌∷◌, Some, length, refl, sym, ap, ◌∙◌, arith}
use Rattle.std.specs.Prelude.{slice_get}
use Rattle.std.specs.List.{list_all, list_any, range_with_len}
use Rattle.std.specs.Str.{bytes_eq}
use Rattle.std.proofs.lemmas.Bool.{and_parts, and_from, eq-eqb, false≢true, not-true}
use Rattle.std.proofs.lemmas.List.Folds.{list_any_at}
use Rattle.std.proofs.lemmas.List.FromFn.{get_or-range_with_len, length-range_with_len}
use Rattle.std.proofs.lemmas.Slice.Eq.{bytes_eq-Decides}
use Rattle.pl_types.specs.Classes.{class_is_below, lineage_of, parents_of, class_row, class_table}
use Rattle.allowlist.specs.declared.member.MemberKind.TheVariants.{Instance}
use Rattle.allowlist.specs.declared.member.MemberType.{MemberType}
use Rattle.allowlist.specs.Catalogue.{catalogue}
use Rattle.def_resolve.specs.Resolution.{is_instance}
use Rattle.def_resolve.specs.Laws.{is_removal}

-- a class stands below both owners
below_both : MemberType → MemberType → ℕ → Bool
below_both a b class = class_is_below class a.owner && class_is_below class b.owner

shares : MemberType → MemberType → Bool
shares a b = list_any (below_both a b) (range_with_len 0 57)

same_call : MemberType → MemberType → Bool
same_call a b = is_instance a.kind && (not (is_removal a.name (length a.params)) && (eqb (length a.params) (length b.params) && bytes_eq a.name b.name))

-- only what is called alike is looked at for a common class
if_same : Bool → MemberType → MemberType → Bool
if_same true a b = shares a b
if_same false a b = false

clash : MemberType → MemberType → Bool
clash a b = if_same (same_call a b) a b

apart : MemberType → MemberType → Bool
apart a b = not (clash a b) && not (clash b a)

all_apart : List MemberType → Bool
all_apart [] = true
all_apart (m ∷ ms) = list_all (apart m) ms && all_apart ms

catalogue_apart : all_apart catalogue ≡ true
unfolding all_apart apart clash if_same same_call shares below_both class_is_below lineage_of parents_of class_row class_table catalogue
catalogue_apart = refl

-- ---- members that are called alike are one

among : (test : MemberType → Bool) (ms : List MemberType) (k : ℕ) (b : MemberType) → slice_get ms k ≡ Some b → list_all test ms ≡ true → test b ≡ true
among test [] k b e h = cc
among test (m ∷ ms) zero b e h = let s : m ≡ b = cc in ap test (sym s) ∙ (and_parts (test m) (list_all test ms) h).0
among test (m ∷ ms) (suc k) b e h = among test ms k b e (and_parts (test m) (list_all test ms) h).1

clashes_not : (a b : MemberType) → clash a b ≡ true → apart a b ≡ true → ⊥
unfolding apart
clashes_not a b c h = false≢true (sym (not-true (clash a b) (and_parts (not (clash a b)) (not (clash b a)) h).0) ∙ c)

clashes_not_back : (a b : MemberType) → clash a b ≡ true → apart b a ≡ true → ⊥
unfolding apart
clashes_not_back a b c h = false≢true (sym (not-true (clash a b) (and_parts (not (clash b a)) (not (clash a b)) h).1) ∙ c)

one_place : (ms : List MemberType) (i k : ℕ) (a b : MemberType) → all_apart ms ≡ true → slice_get ms i ≡ Some a → slice_get ms k ≡ Some b → clash a b ≡ true → i ≡ k
unfolding all_apart
one_place [] i k a b h e f c = cc
one_place (m ∷ ms) zero zero a b h e f c = refl
one_place (m ∷ ms) zero (suc k) a b h e f c =
    let s : m ≡ a = cc in
    let p = and_parts (list_all (apart m) ms) (all_apart ms) h in
    absurd (clashes_not a b c (ap (λ x. apart x b) (sym s) ∙ among (apart m) ms k b f p.0))
one_place (m ∷ ms) (suc i) zero a b h e f c =
    let s : m ≡ b = cc in
    let p = and_parts (list_all (apart m) ms) (all_apart ms) h in
    absurd (clashes_not_back a b c (ap (λ x. apart x a) (sym s) ∙ among (apart m) ms i a e p.0))
one_place (m ∷ ms) (suc i) (suc k) a b h e f c = ap suc (one_place ms i k a b (and_parts (list_all (apart m) ms) (all_apart ms) h).1 e f c)

-- what a member is called, and that a class stands below its owner
pub record IsCalled (m : MemberType) (class : ℕ) (name : List ℕ) (arity : ℕ) : Type 0 where
  pub name_is : m.name ≡ name
  pub arity_is : length m.params ≡ arity
  pub below : class_is_below class m.owner ≡ true

instance_is : (a : MemberType) → a.kind ≡ Instance → is_instance a.kind ≡ true
instance_is a h = ap is_instance h

called_alike : (a b : MemberType) (class : ℕ) (name : List ℕ) (arity : ℕ) → a.kind ≡ Instance → is_removal name arity ≡ false → IsCalled a class name arity → IsCalled b class name arity → same_call a b ≡ true
unfolding same_call
called_alike a b class name arity kind kept p q =
    and_from (is_instance a.kind) (not (is_removal a.name (length a.params)) && (eqb (length a.params) (length b.params) && bytes_eq a.name b.name)) (instance_is a kind)
    (and_from (not (is_removal a.name (length a.params))) (eqb (length a.params) (length b.params) && bytes_eq a.name b.name)
    (ap (λ n. not (is_removal n (length a.params))) p.name_is ∙ ap (λ n. not (is_removal name n)) p.arity_is ∙ ap not kept)
    (and_from (eqb (length a.params) (length b.params)) (bytes_eq a.name b.name)
    (eq-eqb (length a.params) (length b.params) (p.arity_is ∙ sym q.arity_is))
    ((bytes_eq-Decides a.name b.name).1 (p.name_is ∙ sym q.name_is))))

both_shared : (a b : MemberType) (class : ℕ) → class < 57 → class_is_below class a.owner ≡ true → class_is_below class b.owner ≡ true → shares a b ≡ true
unfolding shares below_both
both_shared a b class h p q =
    let z : 0 + class ≡ class = omega arith in
    list_any_at (below_both a b) (range_with_len 0 57) class 0 (omega (arith, length-range_with_len 0 57))
    (ap (below_both a b) (get_or-range_with_len 0 57 class 0 h ∙ z) ∙ and_from (class_is_below class a.owner) (class_is_below class b.owner) p q)

-- An instance member and another that one class has, itself or from above, and that are called alike, are one.
pub one_member : (i k : ℕ) (a b : MemberType) (class : ℕ) (name : List ℕ) (arity : ℕ) → class < 57 → slice_get catalogue i ≡ Some a → slice_get catalogue k ≡ Some b
    → a.kind ≡ Instance → is_removal name arity ≡ false → IsCalled a class name arity → IsCalled b class name arity → i ≡ k
unfolding clash if_same
one_member i k a b class name arity small e f kind kept p q =
    one_place catalogue i k a b catalogue_apart e f
    (ap (λ t. if_same t a b) (called_alike a b class name arity kind kept p q) ∙ both_shared a b class small p.below q.below)
