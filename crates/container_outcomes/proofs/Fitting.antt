-- Outcomes that fit, and what of the heap and of the arguments does.
use Rattle.std.proofs.Common.{◌≡◌, ℕ, zero, suc, Bool, true, false, Option, Some, None, List, [], ◌∷◌, length, refl, sym, subst, slice_get, if◌then◌else◌}
use Rattle.object_values.specs.declared.object.Object.{Object}
use Rattle.object_values.specs.declared.value.Value.{Value}
use Rattle.object_heap.specs.Fits.{Rules, ValueFits, AllFit, ObjectFits, ObjectsFit, kinds}
use Rattle.object_heap.specs.Objects.{Kind}
use Rattle.object_heap.specs.Parts.{guard_of}
use Rattle.object_heap.proofs.Fitting.{length-kinds}
use Rattle.container_outcomes.specs.declared.comparing.Compared.{Compared}
use Rattle.container_outcomes.specs.declared.comparing.Compared.TheVariants as c
use Rattle.container_outcomes.specs.declared.comparing.Found.{Found}
use Rattle.container_outcomes.specs.declared.comparing.Found.TheVariants as f
use Rattle.container_outcomes.specs.declared.outcome.Raised.{Raised}
use Rattle.container_outcomes.specs.declared.outcome.Raised.TheVariants as raised
use Rattle.container_outcomes.specs.declared.outcome.Outcome.{Outcome}
use Rattle.container_outcomes.specs.Choices.{with_one, with_two, with_three}
use Rattle.container_outcomes.specs.Comparing.{where_equal, where_found}
use Rattle.container_outcomes.specs.Guards.{is_open, where_open}
use Rattle.container_outcomes.specs.Laws.{OutcomeFits}
use Rattle.container_outcomes.specs.Outcomes.{says, unsupported}

-- exceptions
pub says_fits : (rules : Rules) (objects : List Object) (raised : Raised) (message : List ℕ) → OutcomeFits rules objects (says raised message)
unfolding says
says_fits rules objects raised message = tt

-- choices
pub if_fits : (rules : Rules) (objects : List Object) (test : Bool) (told other : Outcome) → OutcomeFits rules objects told → OutcomeFits rules objects other → OutcomeFits rules objects (if test then told else other)
if_fits rules objects true told other h k = h
if_fits rules objects false told other h k = k

pub open_fits : (rules : Rules) (objects : List Object) (id : ℕ) (told : Outcome) → OutcomeFits rules objects told → OutcomeFits rules objects (where_open objects id told)
open_fits rules objects id told h = if_fits rules objects (is_open (guard_of objects id)) told unsupported h tt

pub equal_fits : (rules : Rules) (objects : List Object) (compared : Compared) (same other : Outcome) → OutcomeFits rules objects same → OutcomeFits rules objects other → OutcomeFits rules objects (where_equal compared same other)
equal_fits rules objects c.Same same other h k = h
equal_fits rules objects c.Other same other h k = k
equal_fits rules objects c.Deep same other h k = says_fits rules objects raised.IllegalState _
equal_fits rules objects c.Large same other h k = says_fits rules objects raised.IllegalState _

pub search_fits : (rules : Rules) (objects : List Object) (found : Found) (told : ℕ → Outcome) (none : Outcome) → ((at : ℕ) → OutcomeFits rules objects (told at)) → OutcomeFits rules objects none
    → OutcomeFits rules objects (where_found found told none)
search_fits rules objects (f.At at) told none h k = h at
search_fits rules objects f.Nowhere told none h k = k
search_fits rules objects f.Deep told none h k = says_fits rules objects raised.IllegalState _
search_fits rules objects f.Large told none h k = says_fits rules objects raised.IllegalState _

-- arguments
pub one_fits : {A : Type 0} → (rules : Rules) (objects : List Object) (f : A → Outcome) (a : Option A) → ((x : A) → a ≡ Some x → OutcomeFits rules objects (f x)) → OutcomeFits rules objects (with_one f a)
one_fits rules objects f None h = tt
one_fits rules objects f (Some x) h = h x refl

pub two_fit : {A B : Type 0} → (rules : Rules) (objects : List Object) (f : A → B → Outcome) (a : Option A) (b : Option B) → ((x : A) (y : B) → a ≡ Some x → b ≡ Some y → OutcomeFits rules objects (f x y))
    → OutcomeFits rules objects (with_two f a b)
two_fit rules objects f None b h = tt
two_fit rules objects f (Some x) None h = tt
two_fit rules objects f (Some x) (Some y) h = h x y refl refl

pub three_fit : {A B C : Type 0} → (rules : Rules) (objects : List Object) (f : A → B → C → Outcome) (a : Option A) (b : Option B) (c : Option C)
    → ((x : A) (y : B) (z : C) → a ≡ Some x → b ≡ Some y → c ≡ Some z → OutcomeFits rules objects (f x y z)) → OutcomeFits rules objects (with_three f a b c)
three_fit rules objects f None b c h = tt
three_fit rules objects f (Some x) None c h = tt
three_fit rules objects f (Some x) (Some y) None h = tt
three_fit rules objects f (Some x) (Some y) (Some z) h = h x y z refl refl refl

-- what is there fits
pub object_there : (rules : Rules) (ks : List Kind) (objects : List Object) (id : ℕ) (object : Object) → ObjectsFit rules ks objects → slice_get objects id ≡ Some object → ObjectFits rules ks object
object_there rules ks [] id object f e = cc
object_there rules ks (x ∷ objects) zero object f e = let same : x ≡ object = cc in subst (ObjectFits rules ks) same f.0
object_there rules ks (x ∷ objects) (suc id) object f e = object_there rules ks objects id object f.1 e

pub value_there : (n : ℕ) (values : List Value) (at : ℕ) (value : Value) → AllFit n values → slice_get values at ≡ Some value → ValueFits n value
value_there n [] at value f e = cc
value_there n (x ∷ values) zero value f e = let same : x ≡ value = cc in subst (ValueFits n) same f.0
value_there n (x ∷ values) (suc at) value f e = value_there n values at value f.1 e

pub counted : (objects : List Object) (value : Value) → ValueFits (length objects) value → ValueFits (length (kinds objects)) value
counted objects value h = subst (λ (n : ℕ). ValueFits n value) (sym (length-kinds objects)) h

pub all_counted : (objects : List Object) (values : List Value) → AllFit (length objects) values → AllFit (length (kinds objects)) values
all_counted objects values h = subst (λ (n : ℕ). AllFit n values) (sym (length-kinds objects)) h
