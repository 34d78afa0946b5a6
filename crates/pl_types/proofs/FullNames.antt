-- What is found among the classes whose full names have a length.
use Rattle.std.proofs.Common.{◌≡◌, ℕ, zero, suc, ◌+◌, ◌<◌, ◌≤◌, Bool, true, false, ◌&&◌, cond, eqb, ltb, List, [], ◌∷◌, Option, Some, None, get_or, length, map, sym, refl, ap, ◌∙◌, arith}
use Rattle.std.specs.List.{filter, find, list_all, range_with_len}
use Rattle.std.specs.Str.{bytes_eq}
use Rattle.std.proofs.lemmas.Bool.{eqb-true, eq-eqb, false≢true, le-ltb}
use Rattle.std.proofs.lemmas.Slice.Eq.{bytes_eq-Decides}
use Rattle.std.proofs.lemmas.List.FromFn.{get_or-map-range_with_len}
use Rattle.pl_types.specs.Classes.{class_table, class_row, full_name}
use Rattle.pl_types.specs.Names.{class_of_full, numbers_of_length}

-- a search goes past what a filter leaves out, where the filter keeps all that is searched for
kept : (p : ℕ → Bool) (x : ℕ) (ys : List ℕ) (o : Option ℕ) (a b : Bool) → p x ≡ a → (a ≡ true → b ≡ true) → find p ys ≡ o → find p (cond b (x ∷ ys) ys) ≡ cond a (Some x) o
kept p x ys o true true e h k = ap (λ t. cond t (Some x) (find p ys)) e
kept p x ys o true false e h k = absurd (false≢true (h refl))
kept p x ys o false true e h k = ap (λ t. cond t (Some x) (find p ys)) e ∙ k
kept p x ys o false false e h k = k

find_filtered : (p q : ℕ → Bool) (xs : List ℕ) → ((x : ℕ) → p x ≡ true → q x ≡ true) → find p (filter q xs) ≡ find p xs
find_filtered p q [] h = refl
find_filtered p q (x ∷ xs) h = kept p x (filter q xs) (find p xs) (p x) (q x) refl (h x) (find_filtered p q xs h)

same_length : (name : List ℕ) (class : ℕ) → bytes_eq (full_name class) name ≡ true → eqb (length (full_name class)) (length name) ≡ true
same_length name class e = eq-eqb (length (full_name class)) (length name) (ap length ((bytes_eq-Decides (full_name class) name).0 e))

pub found_by_length : (name : List ℕ) (classes : List ℕ) (o : Option ℕ) → classes ≡ numbers_of_length (length name) → o ≡ find (λ class. bytes_eq (full_name class) name) classes → o ≡ class_of_full name
unfolding numbers_of_length class_of_full
found_by_length name classes o e f =
    f ∙ ap (find (λ class. bytes_eq (full_name class) name)) e
    ∙ find_filtered (λ class. bytes_eq (full_name class) name) (λ class. eqb (length (full_name class)) (length name)) (range_with_len 0 57) (same_length name)

-- no name has 50 bytes or more
short_enough : list_all (λ class. ltb (length (full_name class)) 50) (range_with_len 0 57) ≡ true
unfolding full_name class_row class_table
short_enough = refl

both : (a b : Bool) → (a && b) ≡ true → (a ≡ true) × (b ≡ true)
both true b h = (refl, h)
both false b h = absurd (false≢true h)

longer : (f : ℕ → ℕ) (m n x : ℕ) → ltb (f x) m ≡ true → m ≤ n → (b : Bool) → eqb (f x) n ≡ b → b ≡ false
longer f m n x h le false e = refl
longer f m n x h le true e = absurd (false≢true (sym (le-ltb (f x) m (omega (arith, eqb-true (f x) n e))) ∙ h))

left_out : (f : ℕ → ℕ) (m n : ℕ) (xs : List ℕ) → list_all (λ x. ltb (f x) m) xs ≡ true → m ≤ n → filter (λ x. eqb (f x) n) xs ≡ []
left_out f m n [] h le = refl
left_out f m n (x ∷ xs) h le =
    let parts = both (ltb (f x) m) (list_all (λ y. ltb (f y) m) xs) h in
    ap (λ b. cond b (x ∷ filter (λ y. eqb (f y) n) xs) (filter (λ y. eqb (f y) n) xs)) (longer f m n x parts.0 le (eqb (f x) n) refl)
    ∙ left_out f m n xs parts.1 le

pub none_so_long : (n : ℕ) → 50 ≤ n → [] ≡ numbers_of_length n
unfolding numbers_of_length
none_so_long n le = sym (left_out (λ class. length (full_name class)) 50 n (range_with_len 0 57) short_enough le)

-- a class is found by its own name
each_named : map (λ class. class_of_full (full_name class)) (range_with_len 0 57) ≡ map (λ class. Some class) (range_with_len 0 57)
unfolding class_of_full full_name class_row class_table
each_named = refl

pub named_class : (class : ℕ) → class < 57 → class_of_full (full_name class) ≡ Some class
named_class class h =
    sym (get_or-map-range_with_len (λ c. class_of_full (full_name c)) 0 57 class class None h (omega arith))
    ∙ ap (λ xs. get_or xs class None) each_named
    ∙ get_or-map-range_with_len (λ c. Some c) 0 57 class class None h (omega arith)

-- what is found passes the test and is in the range
found_here : (p : ℕ → Bool) (a n x : ℕ) (o : Option ℕ) (b : Bool) → p a ≡ b → (o ≡ Some x → (x < a + suc n) × (p x ≡ true)) → cond b (Some a) o ≡ Some x → (x < a + suc n) × (p x ≡ true)
found_here p a n x o true e k f = let same : a ≡ x = cc in (omega arith, ap p (sym same) ∙ e)
found_here p a n x o false e k f = k f

found_in_range : (p : ℕ → Bool) (a n x : ℕ) → find p (range_with_len a n) ≡ Some x → (x < a + n) × (p x ≡ true)
found_in_range p a zero x f = cc
found_in_range p a (suc n) x f =
    found_here p a n x (find p (range_with_len (a + 1) n)) (p a) refl
    (λ g. let r = found_in_range p (a + 1) n x g in (omega arith, r.1)) f

pub class_spelled : (name : List ℕ) (class : ℕ) → class_of_full name ≡ Some class → (class < 57) × (full_name class ≡ name)
unfolding class_of_full
class_spelled name class e =
    let r = found_in_range (λ c. bytes_eq (full_name c) name) 0 57 class e in
    (omega arith, (bytes_eq-Decides (full_name class) name).0 r.1)
