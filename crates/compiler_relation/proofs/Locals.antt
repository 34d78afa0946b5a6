-- Locals agree with the names in sight.
use Rattle.std.proofs.Common.{◌≡◌, ◌≢◌, ℕ, zero, suc, ◌+◌, ◌<◌, ◌≤◌, List, [], ◌∷◌, ◌++◌, length, Some, refl, sym, ap, ◌∙◌, arith, subst, Bool, true, false, length-append}
use Rattle.std.proofs.lemmas.Option.{slice_get_within}
use Rattle.std.specs.Prelude.{slice_get, slice_set, if◌then◌else◌}
use Rattle.std.specs.Str.{bytes_eq}
use Rattle.object_values.specs.declared.value.Value.{Value}
use Rattle.pl_types.specs.declared.ty.Ty.{Ty}
use Rattle.pl_code.specs.declared.code.FunCode.{FunCode}
use Rattle.source_meaning.specs.Tree.{Name}
use Rattle.source_meaning.specs.Meaning.{Env, lookup, assigned, older}
use Rattle.code_meaning.specs.declared.word.Word.{Word}
use Rattle.compiler_relation.specs.Representation.{Absent, representation_of, kind_of, low}
use Rattle.compiler_relation.specs.Stands.{Entry, Scope, entry_of, HasLocal}

-- each name's local has its value as it is represented there
abbrev pub Agrees : Scope → Env → List Word → Type 0
Agrees [] [] l = Unit {0}
Agrees [] (b ∷ e) l = ⊥
Agrees (y ∷ g) [] l = ⊥
Agrees (y ∷ g) (b ∷ e) l = (b.name ≡ y.name) × (representation_of y.of ≢ Absent) × (slice_get l y.local ≡ low (representation_of y.of) b.value) × Agrees g e l

-- all locals of a scope are below a number
abbrev pub Under : ℕ → Scope → Type 0
Under n [] = Unit {0}
Under n (y ∷ g) = (y.local < n) × Under n g

-- a newer name has a later local
abbrev pub Falling : Scope → Type 0
Falling [] = Unit {0}
Falling (y ∷ g) = Under y.local g × Falling g

pub record Fits (f : FunCode) (g : Scope) (e : Env) (l : List Word) : Type 0 where
  pub names : Agrees g e l
  pub size : length l ≡ length f.params + length f.locals
  pub order : Falling g
  pub within : Under (length l) g

set_same : (l : List Word) (k : ℕ) (v : Word) → k < length l → slice_get (slice_set l k v) k ≡ Some v
set_same [] k v h = absurd (omega arith)
set_same (x ∷ l) zero v h = refl
set_same (x ∷ l) (suc k) v h = set_same l k v (omega arith)

set_other : (l : List Word) (k j : ℕ) (v : Word) → j ≢ k → slice_get (slice_set l k v) j ≡ slice_get l j
set_other [] k j v h = refl
set_other (x ∷ l) zero zero v h = absurd (h refl)
set_other (x ∷ l) zero (suc j) v h = refl
set_other (x ∷ l) (suc k) zero v h = refl
set_other (x ∷ l) (suc k) (suc j) v h = set_other l k j v (λ e. h (ap suc e))

set_size : (l : List Word) (k : ℕ) (v : Word) → length (slice_set l k v) ≡ length l
set_size [] k v = refl
set_size (x ∷ l) zero v = refl
set_size (x ∷ l) (suc k) v = ap suc (set_size l k v)

pub under_more : (n m : ℕ) (g : Scope) → n ≤ m → Under n g → Under m g
under_more n m [] h u = tt
under_more n m (y ∷ g) h u = (omega (arith, u.0, h), under_more n m g h u.1)

pub local_within : (f : FunCode) (n : ℕ) (of : Ty) → HasLocal f n of → n < length f.params + length f.locals
local_within f n of has = omega (arith, slice_get_within (f.params ++ f.locals) n (kind_of of) has.is, length-append f.params f.locals)

-- the local of a name that is in sight
pub entry_under : (n : ℕ) (g : Scope) (x : Name) (y : Entry) → entry_of g x ≡ Some y → Under n g → y.local < n
entry_under n [] x y s u = cc
entry_under n (z ∷ g) x y s u = pick (entry_under n g x y) (bytes_eq x z.name) s
  where
    pick : (entry_of g x ≡ Some y → Under n g → y.local < n) → (b : Bool) → (if b then Some z else entry_of g x) ≡ Some y → y.local < n
    pick older true e = let same : z ≡ y = cc in omega (arith, u.0, ap (λ (w : Entry). w.local) same)
    pick older false e = older e u.1

-- a local that is not of the scope changes nothing
above : (g : Scope) (e : Env) (l : List Word) (k : ℕ) (v : Word) → Under k g → Agrees g e l → Agrees g e (slice_set l k v)
above [] [] l k v u a = tt
above [] (b ∷ e) l k v u a = absurd a
above (y ∷ g) [] l k v u a = absurd a
above (y ∷ g) (b ∷ e) l k v u a = (a.0, a.1, set_other l k y.local v (λ e. absurd (omega (arith, u.0, e))) ∙ a.2, above g e l k v u.1 a.3)

-- a name's value is in its local
pub reads : (g : Scope) (e : Env) (l : List Word) (x : Name) (y : Entry) → entry_of g x ≡ Some y → Agrees g e l → (v : Value) → lookup e x ≡ Some v
    → (slice_get l y.local ≡ low (representation_of y.of) v) × (representation_of y.of ≢ Absent)
reads [] e l x y s a v q = cc
reads (z ∷ g) [] l x y s a v q = absurd a
reads (z ∷ g) (b ∷ e) l x y s a v q = pick (λ s q. reads g e l x y s a.3 v q) (bytes_eq x z.name) (bytes_eq x b.name) (ap (bytes_eq x) (sym a.0)) s q
  where
    Read : Type 0
    Read = (slice_get l y.local ≡ low (representation_of y.of) v) × (representation_of y.of ≢ Absent)

    pick : (entry_of g x ≡ Some y → lookup e x ≡ Some v → Read) → (c d : Bool) → c ≡ d → (if c then Some z else entry_of g x) ≡ Some y → (if d then Some b.value else lookup e x) ≡ Some v → Read
    pick older true true r s q =
        let same : z ≡ y = cc in
        let value : b.value ≡ v = cc in
        subst (λ (y : Entry). (slice_get l y.local ≡ low (representation_of y.of) v) × (representation_of y.of ≢ Absent)) same
        (subst (λ v. (slice_get l z.local ≡ low (representation_of z.of) v) × (representation_of z.of ≢ Absent)) value (a.2, a.1))
    pick older false false r s q = older s q
    pick older true false r s q = cc
    pick older false true r s q = cc

agrees_write : (g : Scope) (e : Env) (l : List Word) (x : Name) (y : Entry) (v : Value) (w : Word) → entry_of g x ≡ Some y → low (representation_of y.of) v ≡ Some w → y.local < length l
    → Falling g → Agrees g e l → Agrees g (assigned e x v) (slice_set l y.local w)
agrees_write [] e l x y v w s representation h order a = cc
agrees_write (z ∷ g) [] l x y v w s representation h order a = absurd a
agrees_write (z ∷ g) (b ∷ e) l x y v w s representation h order a =
    pick (λ s. agrees_write g e l x y v w s representation h order.1 a.3) (bytes_eq x z.name) (bytes_eq x b.name) (ap (bytes_eq x) (sym a.0)) s
  where
    pick : (entry_of g x ≡ Some y → Agrees g (assigned e x v) (slice_set l y.local w)) → (c d : Bool) → c ≡ d → (if c then Some z else entry_of g x) ≡ Some y
        → Agrees (z ∷ g) (if d then (record { name = b.name; value = v } ∷ e) else (b ∷ assigned e x v)) (slice_set l y.local w)
    pick deeper true true q s =
        let same : y ≡ z = cc in
        let local : y.local ≡ z.local = ap (λ (t : Entry). t.local) same in
        let here : slice_get (slice_set l y.local w) z.local ≡ low (representation_of z.of) v =
        subst (λ n. slice_get (slice_set l y.local w) n ≡ low (representation_of z.of) v) local (set_same l y.local w h ∙ sym representation ∙ ap (λ (t : Entry). low (representation_of t.of) v) same) in
        (a.0, a.1, here, above g e l y.local w (subst (λ n. Under n g) (sym local) order.0) a.3)
    pick deeper false false q s =
        (a.0, a.1, set_other l y.local z.local w (λ e. absurd (omega (arith, entry_under z.local g x y s order.0, e))) ∙ a.2, deeper s)
    pick deeper true false q s = cc
    pick deeper false true q s = cc

-- an assignment
pub writes : (f : FunCode) (g : Scope) (e : Env) (l : List Word) (x : Name) (y : Entry) (v : Value) (w : Word) → entry_of g x ≡ Some y → low (representation_of y.of) v ≡ Some w
    → Fits f g e l → Fits f g (assigned e x v) (slice_set l y.local w)
writes f g e l x y v w s representation a = record {
  names = agrees_write g e l x y v w s representation (entry_under (length l) g x y s a.within) a.order a.names;
  size = set_size l y.local w ∙ a.size;
  order = a.order;
  within = subst (λ n. Under n g) (sym (set_size l y.local w)) a.within;
}

-- a new name
pub declares : (f : FunCode) (g : Scope) (e : Env) (l : List Word) (y : Entry) (v : Value) (w : Word) → y.local < length f.params + length f.locals → Under y.local g
    → representation_of y.of ≢ Absent → low (representation_of y.of) v ≡ Some w → Fits f g e l → Fits f (y ∷ g) (record { name = y.name; value = v } ∷ e) (slice_set l y.local w)
declares f g e l y v w has under some representation a = record {
  names = (refl, some, set_same l y.local w (omega (arith, has, a.size)) ∙ sym representation, above g e l y.local w under a.names);
  size = set_size l y.local w ∙ a.size;
  order = (under, a.order);
  within = (omega (arith, has, a.size, set_size l y.local w), subst (λ n. Under n g) (sym (set_size l y.local w)) a.within);
}

-- its scope ends
pub leaves : (f : FunCode) (g : Scope) (y : Entry) (e : Env) (l : List Word) → Fits f (y ∷ g) e l → Fits f g (older e) l
leaves f g y e l a = record { names = fewer e a.names; size = a.size; order = a.order.1; within = a.within.1 }
  where
    fewer : (e : Env) → Agrees (y ∷ g) e l → Agrees g (older e) l
    fewer [] h = absurd h
    fewer (b ∷ e) h = h.3
