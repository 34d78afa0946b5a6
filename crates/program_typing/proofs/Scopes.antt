-- Environments agree with the names in sight.
use Rattle.std.proofs.Common.{◌≡◌, Bool, true, false, List, [], ◌∷◌, Option, Some, refl, sym, ap, subst}
use Rattle.std.specs.Prelude.{if◌then◌else◌}
use Rattle.std.specs.Str.{bytes_eq}
use Rattle.pl_types.specs.declared.ty.Ty.{Ty}
use Rattle.object_values.specs.declared.value.Value.{Value}
use Rattle.source_meaning.specs.Tree.{Name, Variable}
use Rattle.source_meaning.specs.Meaning.{Env, lookup, assigned, older, entry}
use Rattle.program_typing.specs.Types.{Has, HaveAll}
use Rattle.program_typing.specs.Agreeing.{Scope, variable_of, types_in, scope_of}

-- each name has a value of its type
abbrev pub Bound : Scope → Env → Type 0
Bound [] [] = Unit {0}
Bound [] (b ∷ e) = ⊥
Bound (y ∷ g) [] = ⊥
Bound (y ∷ g) (b ∷ e) = (b.name ≡ y.name) × Has y.of b.value × Bound g e

-- what is read of a name
pub record Reads (of : Ty) (o : Option Value) : Type 0 where
  pub value : Value
  pub is : o ≡ Some value
  pub has : Has of value

pub reads : (g : Scope) (e : Env) (x : Name) (y : Variable) → variable_of g x ≡ Some y → Bound g e → Reads y.of (lookup e x)
reads [] e x y s h = cc
reads (z ∷ g) [] x y s h = absurd h
reads (z ∷ g) (b ∷ e) x y s h = pick (λ s. reads g e x y s h.2) (bytes_eq x z.name) (bytes_eq x b.name) (ap (bytes_eq x) (sym h.0)) s
  where
    pick : (variable_of g x ≡ Some y → Reads y.of (lookup e x)) → (c d : Bool) → c ≡ d → (if c then Some z else variable_of g x) ≡ Some y → Reads y.of (if d then Some b.value else lookup e x)
    pick older true true q s = let same : z ≡ y = cc in subst (λ (y : Variable). Reads y.of (Some b.value)) same (record { value = b.value; is = refl; has = h.1 })
    pick older false false q s = older s
    pick older true false q s = cc
    pick older false true q s = cc

pub writes : (g : Scope) (e : Env) (x : Name) (y : Variable) (value : Value) → variable_of g x ≡ Some y → Has y.of value → Bound g e → Bound g (assigned e x value)
writes [] e x y value s has h = cc
writes (z ∷ g) [] x y value s has h = absurd h
writes (z ∷ g) (b ∷ e) x y value s has h = pick (λ s. writes g e x y value s has h.2) (bytes_eq x z.name) (bytes_eq x b.name) (ap (bytes_eq x) (sym h.0)) s
  where
    pick : (variable_of g x ≡ Some y → Bound g (assigned e x value)) → (c d : Bool) → c ≡ d → (if c then Some z else variable_of g x) ≡ Some y
        → Bound (z ∷ g) (if d then (record { name = b.name; value = value } ∷ e) else (b ∷ assigned e x value))
    pick deeper true true q s = let same : y ≡ z = cc in (h.0, subst (λ (y : Variable). Has y.of value) same has, h.2)
    pick deeper false false q s = (h.0, h.1, deeper s)
    pick deeper true false q s = cc
    pick deeper false true q s = cc

pub leaves : (y : Variable) (g : Scope) (e : Env) → Bound (y ∷ g) e → Bound g (older e)
leaves y g [] h = absurd h
leaves y g (b ∷ e) h = h.2

-- arguments of their parameters' types are what a function begins with
pub record Enters (g : Scope) (o : Option Env) : Type 0 where
  pub env : Env
  pub is : o ≡ Some env
  pub bound : Bound g env

pub enters : (xs : List Variable) (values : List Value) (g : Scope) (e : Env) → HaveAll (types_in xs) values → Bound g e → Enters (scope_of xs g) (entry xs values e)
enters [] [] g e h b = record { env = e; is = refl; bound = b }
enters [] (value ∷ values) g e h b = absurd h
enters (x ∷ xs) [] g e h b = absurd h
enters (x ∷ xs) (value ∷ values) g e h b = enters xs values (x ∷ g) (record { name = x.name; value = value } ∷ e) h.1 (refl, h.0, b)
