-- Where names stand first.
use Rattle.std.proofs.Common.{◌≡◌, ◌≢◌, ℕ, ◌+◌, ◌<◌, ◌≤◌, Bool, true, false, cond, List, [], ◌∷◌, ◌++◌, length, take, Option, Some, None, refl, sym, ap, ◌∙◌, subst, arith}
use Rattle.std.specs.Prelude.{bytes_eq, is_some}
use Rattle.std.specs.List.{position_from}
use Rattle.std.specs.Map.{update}
use Rattle.std.specs.Cmp.Lexicographic.{bytes_decides}
use Rattle.std.proofs.lemmas.Iterator.Adapters.{position_from-zero}
use Rattle.std.proofs.lemmas.List.Quantifiers.{position-Some}
use Rattle.std.proofs.lemmas.Grind.{common_steps}
use Rattle.typing_rules.specs.declared.scopes.Entry.{Entry}
use Rattle.typing_rules.specs.Scopes.{find}

abbrev or_first : Option ℕ → Option ℕ → Option ℕ
or_first None b = b
or_first (Some i) b = Some i

-- a name behind others
from_push : (t : Entry → Bool) (i : ℕ) (xs : List Entry) (y : Entry)
    → position_from t i (xs ++ y ∷ []) ≡ or_first (position_from t i xs) (cond (t y) (Some (i + length xs)) None)
from_push t i [] y = ap (λ n. cond (t y) (Some n) None) (let e : i ≡ i + 0 = omega arith in e)
from_push t i (x ∷ xs) y = pick (from_push t (i + 1) xs y ∙ ap (λ n. or_first (position_from t (i + 1) xs) (cond (t y) (Some n) None)) (let e : (i + 1) + length xs ≡ i + length (x ∷ xs) = omega arith in e)) (t x)
  where
    pick : position_from t (i + 1) (xs ++ y ∷ []) ≡ or_first (position_from t (i + 1) xs) (cond (t y) (Some (i + length (x ∷ xs))) None) → (c : Bool)
        → cond c (Some i) (position_from t (i + 1) (xs ++ y ∷ [])) ≡ or_first (cond c (Some i) (position_from t (i + 1) xs)) (cond (t y) (Some (i + length (x ∷ xs))) None)
    pick rest true = refl
    pick rest false = rest

find_push : (q : List ℕ) (es : List Entry) (e : Entry) → find q (es ++ e ∷ []) ≡ or_first (find q es) (cond (bytes_eq e.name q) (Some (length es)) None)
find_push q es e =
    position_from-zero (λ (e : Entry). bytes_eq e.name q) (es ++ e ∷ [])
    ∙ from_push (λ (e : Entry). bytes_eq e.name q) 0 es e
    ∙ ap (λ n. or_first (position_from (λ (e : Entry). bytes_eq e.name q) 0 es) (cond (bytes_eq e.name q) (Some n) None)) (let e : 0 + length es ≡ length es = omega arith in e)
    ∙ ap (λ o. or_first o (cond (bytes_eq e.name q) (Some (length es)) None)) (sym (position_from-zero (λ (e : Entry). bytes_eq e.name q) es))

below : (q : List ℕ) (es : List Entry) (e : Entry) (i : ℕ) → find q es ≡ Some i → i < length es
below q es e i is = (position-Some (λ (e : Entry). bytes_eq e.name q) es i e is).0

alone : (o : Option ℕ) → or_first o None ≡ o
alone None = refl
alone (Some i) = refl

same : (x q : List ℕ) → bytes_eq x q ≡ true → x ≡ q
same x q is = (bytes_decides x q).0 is

-- one name more, that is in sight already
pub pushed_again : (f : List ℕ → Option ℕ) (es : List Entry) (e : Entry) → ((q : List ℕ) → f q ≡ find q es) → is_some (find e.name es) ≡ true → (q : List ℕ) → f q ≡ find q (es ++ e ∷ [])
pushed_again f es e inv known q = inv q ∙ pick (bytes_eq e.name q) refl (find q es) refl ∙ sym (find_push q es e)
  where
    pick : (c : Bool) → bytes_eq e.name q ≡ c → (o : Option ℕ) → find q es ≡ o → o ≡ or_first o (cond c (Some (length es)) None)
    pick false is o at = sym (alone o)
    pick true is (Some i) at = refl
    pick true is None at = let told : false ≡ true = sym (ap is_some at) ∙ subst (λ x. is_some (find x es) ≡ true) (same e.name q is) known in cc

-- one that is not
pub pushed_first : (f g : List ℕ → Option ℕ) (es : List Entry) (e : Entry) → ((q : List ℕ) → f q ≡ find q es) → find e.name es ≡ None
    → ((q : List ℕ) → g q ≡ update bytes_eq f e.name (Some (length es)) q) → (q : List ℕ) → g q ≡ find q (es ++ e ∷ [])
pushed_first f g es e inv fresh put q = put q ∙ pick (bytes_eq e.name q) refl (find q es) refl ∙ sym (find_push q es e)
  where
    pick : (c : Bool) → bytes_eq e.name q ≡ c → (o : Option ℕ) → find q es ≡ o → cond c (Some (length es)) (f q) ≡ or_first o (cond c (Some (length es)) None)
    pick false is o at = inv q ∙ at ∙ sym (alone o)
    pick true is None at = refl
    pick true is (Some i) at = let told : Some i ≡ None = sym at ∙ subst (λ x. find x es ≡ None) (same e.name q is) fresh in cc

-- one name less, that stood first at its place
pub popped_first : (f g : List ℕ → Option ℕ) (es : List Entry) (e : Entry) → ((q : List ℕ) → f q ≡ find q (es ++ e ∷ [])) → f e.name ≡ Some (length es)
    → ((q : List ℕ) → g q ≡ update bytes_eq f e.name None q) → (q : List ℕ) → g q ≡ find q es
popped_first f g es e inv first cut q = cut q ∙ pick (bytes_eq e.name q) refl (find q es) refl
  where
    pick : (c : Bool) → bytes_eq e.name q ≡ c → (o : Option ℕ) → find q es ≡ o → cond c None (f q) ≡ find q es
    pick false is o at = inv q ∙ find_push q es e ∙ ap (λ c. or_first (find q es) (cond c (Some (length es)) None)) is ∙ alone (find q es)
    pick true is None at = sym at
    pick true is (Some i) at =
        let told : Some i ≡ Some (length es) = sym (inv q ∙ find_push q es e ∙ ap (λ o. or_first o (cond (bytes_eq e.name q) (Some (length es)) None)) at) ∙ subst (λ x. f x ≡ Some (length es)) (same e.name q is) first in
        let less : i < length es = below q es e i at in
        absurd (grind (arith, common_steps, less, told))

-- one that stood farther below too
pub popped_other : (f : List ℕ → Option ℕ) (es : List Entry) (e : Entry) → ((q : List ℕ) → f q ≡ find q (es ++ e ∷ [])) → f e.name ≢ Some (length es)
    → (q : List ℕ) → f q ≡ find q es
popped_other f es e inv other q = pick (bytes_eq e.name q) refl (find q es) refl
  where
    at_all : (c : Bool) (o : Option ℕ) → bytes_eq e.name q ≡ c → find q es ≡ o → f q ≡ or_first o (cond c (Some (length es)) None)
    at_all c o is at = inv q ∙ find_push q es e ∙ ap (λ o. or_first o (cond (bytes_eq e.name q) (Some (length es)) None)) at ∙ ap (λ c. or_first o (cond c (Some (length es)) None)) is

    pick : (c : Bool) → bytes_eq e.name q ≡ c → (o : Option ℕ) → find q es ≡ o → f q ≡ find q es
    pick false is o at = at_all false o is at ∙ alone o ∙ sym at
    pick true is (Some i) at = at_all true (Some i) is at ∙ sym at
    pick true is None at = absurd (other (subst (λ x. f x ≡ Some (length es)) (sym (same e.name q is)) (at_all true None is at)))

pub take_fewer : {A : Type 0} (n m : ℕ) (xs : List A) → n ≤ m → take n (take m xs) ≡ take n xs
take_fewer n m xs h = grind (arith, common_steps, h)

pub take_all : {A : Type 0} (n : ℕ) (xs : List A) → length xs ≤ n → take n xs ≡ xs
take_all n xs h = grind (arith, common_steps, h)
