-- What holds of calls whose receiver's class is found when they run.
use Rattle.std.specs.Prelude.{◌≡◌, ℕ, ◌+◌, ◌++◌, ◌==◌, ◌&&◌, Bool, true, false, Some, None, List, ◌∷◌, codes, length, option_map}
use Rattle.std.specs.Str.{bytes_eq}
use Rattle.pl_types.specs.Classes.{class_is_below, parents_of}
use Rattle.allowlist.specs.Allow.{AllowList, own_member, member_of, first_along, iface_method_of}
use Rattle.allowlist.specs.Index.{member_at}
use Rattle.object_values.specs.declared.object.Object.{Object}
use Rattle.object_values.specs.declared.value.Value.{Value}
use Rattle.object_values.specs.declared.object.Object.TheVariants as o
use Rattle.object_values.specs.declared.object.Target.{Target}
use Rattle.object_values.specs.declared.object.Target.TheVariants as t
use Rattle.object_heap.specs.Fits.{Captures, Lambda, ObjectFits, Rules, Takes, arity_of, kinds, value_is_of}
use Rattle.object_heap.specs.Objects.{Kind}
use Rattle.def_resolve.specs.Functions.{fits}
use Rattle.def_resolve.specs.Resolution.{class_of, instance_member}

-- A class has through its parents what another one above it has: no class that is asked before that one gives such a member.
pub data Inherits (allow : AllowList) (name : List ℕ) (arity : ℕ) : ℕ → ℕ → Type 0 where
  itself : {class : ℕ} → Inherits allow name arity class class
  by_parent : {class parent above : ℕ} (before after : List ℕ) → own_member allow class name arity ≡ None
      → parents_of class ≡ before ++ parent ∷ after → first_along (λ p. member_of allow p name arity) before ≡ None
      → Inherits allow name arity parent above → Inherits allow name arity class above

-- A member that is found for the static type of a receiver is found for each value whose class has it through its parents.
abbrev pub SameMember : Type 0
SameMember = (allow : AllowList) (class above : ℕ) (name : List ℕ) (arity number : ℕ) → Inherits allow name arity class above
    → instance_member allow above name arity ≡ Some number → instance_member allow class name arity ≡ Some number

-- `remove` with one argument, which lists have with an index and other collections with an element
abbrev pub is_removal : List ℕ → ℕ → Bool
is_removal name arity = bytes_eq name (codes "remove") && (arity == 1)

-- Of all else the member for the static type is that of each value of it, under every list: no class of the catalogue has a member
-- of its own in the place of one above it.
abbrev pub OneMember : Type 0
OneMember = (allow : AllowList) (class above : ℕ) (name : List ℕ) (arity number : ℕ) → class_is_below class above ≡ true → is_removal name arity ≡ false
    → instance_member allow above name arity ≡ Some number → instance_member allow class name arity ≡ Some number

-- A value is of its class and of each one above it.
abbrev pub IsOfItsClass : Type 0
IsOfItsClass = (objects : List Object) (value : Value) (class above : ℕ) → class_of objects value ≡ Some class → class_is_below class above ≡ true
    → value_is_of (kinds objects) above value ≡ true

-- The method of an interface has as many parameters as a store that fits asks of what takes it.
abbrev pub MethodArity : Type 0
MethodArity = (iface number : ℕ) → iface_method_of iface ≡ Some number → arity_of iface ≡ Some (length (member_at number).params)

-- how many parameters a lambda has, with those that it captured
abbrev pub parameters_of : Lambda → ℕ
parameters_of (Captures captured further) = length captured + further
parameters_of (Takes parameters) = parameters

-- the number that is told of a lambda is that of its parameters
abbrev pub AreParameters : Rules → Target → ℕ → Type 0
AreParameters rules (t.Lambda owner number) params = option_map parameters_of (rules.lambda owner number) ≡ Some params
AreParameters rules target params = Unit {0}

-- A function value that fits its store and an interface fits the store once it has taken the interface.
abbrev pub TakesInterface : Type 0
TakesInterface = (allow : AllowList) (rules : Rules) (ks : List Kind) (target : Target) (captures : List Value) (params iface : ℕ)
    → AreParameters rules target params → fits allow (o.Fun None target captures) params iface ≡ true
    → ObjectFits rules ks (o.Fun None target captures) → ObjectFits rules ks (o.Fun (Some iface) target captures)
