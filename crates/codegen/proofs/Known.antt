-- The names in sight and their types.
use Rattle.std.proofs.Common.{◌≡◌, ℕ, suc, Bool, true, false, List, [], ◌∷◌, ◌++◌, length, map, Option, Some, None, refl, sym, ap, ◌∙◌, append_assoc}
use Rattle.std.specs.Prelude.{if◌then◌else◌}
use Rattle.std.specs.Str.{bytes_eq}
use Rattle.source_meaning.specs.Tree.{Name, Stmts, Finish, Then, Declare, Variable}
use Rattle.program_typing.specs.Agreeing.{variable_of}
use Rattle.program_typing.specs.Agreeing as types
use Rattle.compiler_relation.specs.Representation.{Representation, representation_of}
use Rattle.compiler_relation.specs.Stands.{Entry, Scope, entry_of}
use Rattle.compiler_relation.specs.Stands as stands
use Rattle.codegen.specs.Worklist.{lowest, scope_in}
use Rattle.codegen.specs.Sound.{IsNamed, variable, names_in, names_behind}
use Rattle.codegen.specs.declared.config.Config.{Config}
use Rattle.codegen.proofs.Bodies.{kept_under, length_mapped}

-- the entry of a name is that of its variable
record IsThere (o : Option Entry) (x : Variable) : Type 0 where
  entry : Entry
  is : o ≡ Some entry
  same : variable entry ≡ x

there : (g : Scope) (x : Name) (y : Variable) → variable_of (map variable g) x ≡ Some y → IsThere (entry_of g x) y
there [] x y s = absurd cc
there (z ∷ g) x y s = pick (there g x y) (bytes_eq x z.name) s
  where
    pick : (variable_of (map variable g) x ≡ Some y → IsThere (entry_of g x) y) → (b : Bool) → (if b then Some (variable z) else variable_of (map variable g) x) ≡ Some y → IsThere (if b then Some z else entry_of g x) y
    pick older true q = let same : variable z ≡ y = cc in record { entry = z; is = refl; same = same }
    pick older false q = older q

-- a name in sight has an entry, and it is the one that is found
pub not_missing : (g : Scope) (x : Name) (representation : Representation) → entry_of g x ≡ None → IsNamed (map variable g) x representation → ⊥
not_missing g x representation e h = let w = there g x h.is.variable h.is.is in let q : None ≡ Some w.entry = sym e ∙ w.is in absurd cc

pub represented_as_named : (g : Scope) (x : Name) (representation : Representation) (y : Entry) → entry_of g x ≡ Some y → IsNamed (map variable g) x representation → representation ≡ representation_of y.of
represented_as_named g x representation y e h =
    let w = there g x h.is.variable h.is.is in
    let q : w.entry ≡ y = let z : Some w.entry ≡ Some y = sym w.is ∙ e in cc in
    h.represented_so ∙ ap representation_of (h.is.has ∙ sym (ap (λ (v : Variable). v.of) w.same) ∙ ap (λ (y : Entry). y.of) q)

-- ---- the names behind statements

grown : (g : List Variable) (body : Stmts) → (more : List Variable) × (names_behind g body ≡ more ++ g)
grown g Finish = ([], refl)
grown g (Then t rest) = grown g rest
grown g (Declare x of value rest) = let w = grown (record { name = x; of = of } ∷ g) rest in (w.0 ++ record { name = x; of = of } ∷ [], w.1 ∙ sym (append_assoc w.0 (record { name = x; of = of } ∷ []) g))

pub closed_names : (c : Config) (height : ℕ) (body : Stmts) → height ≡ length c.scope → lowest height (names_behind (names_in c) body) ≡ names_in c
closed_names c height body e = let w = grown (names_in c) body in ap (lowest height) w.1 ∙ kept_under height w.0 (names_in c) (e ∙ sym (length_mapped c) ∙ sym (length_named (scope_in c)))
  where
    length_named : (g : Scope) → length (map variable g) ≡ length g
    length_named [] = refl
    length_named (x ∷ g) = ap suc (length_named g)

-- ---- parameters

pub parameters_named : (xs : List Variable) (n : ℕ) (g : Scope) → map variable (stands.scope_of xs n g) ≡ types.scope_of xs (map variable g)
parameters_named [] n g = refl
parameters_named (x ∷ xs) n g = parameters_named xs (suc n) (record { name = x.name; of = x.of; local = n } ∷ g)
