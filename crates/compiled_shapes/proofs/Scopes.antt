-- Names in sight have locals of their types' kinds.
use Rattle.std.proofs.Common.{◌≡◌, ℕ, Bool, true, false, [], ◌∷◌, Some, sym, subst, if◌then◌else◌}
use Rattle.std.specs.Str.{bytes_eq}
use Rattle.pl_types.specs.declared.ty.Ty.{Ty}
use Rattle.pl_code.specs.declared.code.FunCode.{FunCode}
use Rattle.program_typing.specs.Tree.{Name, Variable}
use Rattle.compiler_relation.specs.Stands.{Entry, Scope, entry_of, IsEntry, HasLocal}
use Rattle.program_typing.specs.Types.{HasValues}
use Rattle.program_typing.specs.Agreeing.{variable_of, IsVariable}
use Rattle.program_typing.specs.Agreeing.{Scope as Names}

abbrev pub names : Scope → Names
names [] = []
names (y ∷ g) = record { name = y.name; of = y.of } ∷ names g

-- a local of a type that has values
pub record Keeps (f : FunCode) (n : ℕ) (of : Ty) : Type 0 where
  pub has : HasLocal f n of
  pub values : HasValues of

abbrev pub HaveLocals : FunCode → Scope → Type 0
HaveLocals f [] = Unit {0}
HaveLocals f (y ∷ g) = Keeps f y.local y.of × HaveLocals f g

local_in : (f : FunCode) (g : Scope) (x : Name) (y : Entry) (v : Variable) → HaveLocals f g → entry_of g x ≡ Some y → variable_of (names g) x ≡ Some v → Keeps f y.local v.of
local_in f [] x y v h e d = cc
local_in f (z ∷ g) x y v h e d = pick (λ e d. local_in f g x y v h.1 e d) (bytes_eq x z.name) e d
  where
    pick : (entry_of g x ≡ Some y → variable_of (names g) x ≡ Some v → Keeps f y.local v.of) → (b : Bool) → (if b then Some z else entry_of g x) ≡ Some y
        → (if b then Some (record { name = z.name; of = z.of }) else variable_of (names g) x) ≡ Some v → Keeps f y.local v.of
    pick older true e d =
        let entry : z ≡ y = cc in
        let variable : record { name = z.name; of = z.of } ≡ v = cc in
        subst (λ (y : Entry). Keeps f y.local v.of) entry (subst (λ (v : Variable). Keeps f z.local v.of) variable h.0)
    pick older false e d = older e d

pub local_of : (f : FunCode) (g : Scope) (x : Name) (y : Entry) (of : Ty) → HaveLocals f g → IsEntry g x y → IsVariable (names g) x of → Keeps f y.local of
local_of f g x y of h e v = subst (λ of. Keeps f y.local of) (sym v.has) (local_in f g x y v.variable h e.is v.is)
