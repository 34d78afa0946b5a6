-- Brackets and lists of types at the front of a line.
use Rattle.std.proofs.Common.{◌≡◌, ℕ, suc, ◌+◌, List, [], ◌∷◌, ◌++◌, Option, Some, None, refl, sym, ap, ◌∙◌, append_assoc}
use Rattle.std.specs.Prelude.{option_and_then, option_map}
use Rattle.allowlist.specs.Lines.{TypeText, mark_at, brackets_at, closed_pair, type_at, types_at, after_type}

brackets-suc : (n depth : ℕ) (s : List ℕ) (o : Option (List ℕ)) → mark_at 91 s ≡ o → brackets_at (suc n) depth s ≡ closed_pair (brackets_at n (depth + 1)) depth s o
unfolding brackets_at
brackets-suc n depth s o e = ap (closed_pair (brackets_at n (depth + 1)) depth s) e

pub no_bracket : (k n depth : ℕ) (s : List ℕ) → k ≡ suc n → mark_at 91 s ≡ None → brackets_at k depth s ≡ Some (depth, s)
no_bracket k n depth s e h = ap (λ j. brackets_at j depth s) e ∙ brackets-suc n depth s None h

pub open_bracket : (k n depth : ℕ) (s r : List ℕ) → k ≡ suc n → mark_at 91 s ≡ Some r → mark_at 93 r ≡ None → brackets_at k depth s ≡ None
open_bracket k n depth s r e h m = ap (λ j. brackets_at j depth s) e ∙ brackets-suc n depth s (Some r) h ∙ ap (option_and_then (brackets_at n (depth + 1))) m

pub one_bracket : (k n depth : ℕ) (s r t : List ℕ) → k ≡ suc n → mark_at 91 s ≡ Some r → mark_at 93 r ≡ Some t → brackets_at k depth s ≡ brackets_at n (depth + 1) t
one_bracket k n depth s r t e h m = ap (λ j. brackets_at j depth s) e ∙ brackets-suc n depth s (Some r) h ∙ ap (option_and_then (brackets_at n (depth + 1))) m

pub all_brackets : (k depth : ℕ) (s : List ℕ) → k ≡ 0 → brackets_at k depth s ≡ Some (depth, s)
unfolding brackets_at
all_brackets k depth s e = ap (λ j. brackets_at j depth s) e

-- types that were read, before those that are read further on
abbrev pub behind : List TypeText → Option (List TypeText × List ℕ) → Option (List TypeText × List ℕ)
behind read o = option_map (λ x. (read ++ x.0, x.1)) o

types-suc : (n : ℕ) (s : List ℕ) → types_at (suc n) s ≡ option_and_then (λ t. after_type (types_at n) t.0 t.1 (mark_at 41 t.1)) (type_at s)
unfolding types_at
types-suc n s = refl

pub type_none : (k n : ℕ) (s : List ℕ) → k ≡ suc n → type_at s ≡ None → types_at k s ≡ None
type_none k n s e h = ap (λ j. types_at j s) e ∙ types-suc n s ∙ ap (option_and_then (λ t. after_type (types_at n) t.0 t.1 (mark_at 41 t.1))) h

found : (k n : ℕ) (s a : List ℕ) (t : TypeText) (o : Option (List ℕ)) → k ≡ suc n → type_at s ≡ Some (t, a) → mark_at 41 a ≡ o → types_at k s ≡ after_type (types_at n) t a o
found k n s a t o e h m = ap (λ j. types_at j s) e ∙ types-suc n s ∙ ap (option_and_then (λ t. after_type (types_at n) t.0 t.1 (mark_at 41 t.1))) h ∙ ap (after_type (types_at n) t a) m

pub type_last : (k n : ℕ) (s a r : List ℕ) (t : TypeText) → k ≡ suc n → type_at s ≡ Some (t, a) → mark_at 41 a ≡ Some r → types_at k s ≡ Some (t ∷ [], r)
type_last k n s a r t e h m = found k n s a t (Some r) e h m

pub type_stop : (k n : ℕ) (s a : List ℕ) (t : TypeText) → k ≡ suc n → type_at s ≡ Some (t, a) → mark_at 41 a ≡ None → mark_at 44 a ≡ None → types_at k s ≡ None
type_stop k n s a t e h m c = found k n s a t None e h m ∙ ap (λ o. option_and_then (λ ts. Some (t ∷ ts.0, ts.1)) (option_and_then (types_at n) o)) c

pub type_more : (k n : ℕ) (s a r : List ℕ) (t : TypeText) → k ≡ suc n → type_at s ≡ Some (t, a) → mark_at 41 a ≡ None → mark_at 44 a ≡ Some r → types_at k s ≡ option_and_then (λ ts. Some (t ∷ ts.0, ts.1)) (types_at n r)
type_more k n s a r t e h m c = found k n s a t None e h m ∙ ap (λ o. option_and_then (λ ts. Some (t ∷ ts.0, ts.1)) (option_and_then (types_at n) o)) c

pub behind_one : (read : List TypeText) (t : TypeText) (o : Option (List TypeText × List ℕ)) → behind read (option_and_then (λ ts. Some (t ∷ ts.0, ts.1)) o) ≡ behind (read ++ t ∷ []) o
behind_one read t None = refl
behind_one read t (Some x) = ap (λ ts. Some (ts, x.1)) (sym (append_assoc read (t ∷ []) x.0))

pub no_types : (k : ℕ) (s : List ℕ) → k ≡ 0 → types_at k s ≡ None
unfolding types_at
no_types k s e = ap (λ j. types_at j s) e
