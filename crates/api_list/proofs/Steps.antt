-- Steps of loops over lists.
use Rattle.std.proofs.Common.{◌≡◌, ℕ, suc, ◌+◌, ◌-◌, ◌<◌, List, Option, Some, drop, slice_get, refl, ap, ◌∙◌, arith}
use Rattle.object_values.specs.declared.object.Object.{Object}
use Rattle.object_values.specs.declared.value.Value.{Value}
use Rattle.container_outcomes.proofs.Stepping.{got}
use Rattle.container_outcomes.specs.declared.comparing.Compared.{Compared}
use Rattle.container_outcomes.specs.declared.comparing.Compared.TheVariants.{Other}
use Rattle.container_outcomes.specs.declared.comparing.Found.{Found}
use Rattle.container_outcomes.specs.Comparing.{comparison, found_by}
use Rattle.api_list.specs.Searching.{first_from, found_at, last_before}

pub first_step : (objects : List Object) (value : Value) (items : List Value) (at : ℕ) (item : Value) (is : Compared) → slice_get items at ≡ Some item → comparison objects value item ≡ is
    → first_from objects value at (drop at items) ≡ found_by at is (first_from objects value (at + 1) (drop (at + 1) items))
first_step objects value items at item is h e =
    ap (λ (rest : List Value). first_from objects value at rest) (got items at item h)
    ∙ ap (λ (x : Compared). found_by at x (first_from objects value (at + 1) (drop (at + 1) items))) e

last_found : (objects : List Object) (value : Value) (at : ℕ) (found : Option Value) (item : Value) (is : Compared) (rest : Found) → found ≡ Some item → comparison objects value item ≡ is → found_at objects value at found rest ≡ found_by at is rest
last_found objects value at found item is rest h e = rw (h, e) refl

last_of_all : (objects : List Object) (value : Value) (items : List Value) (n at : ℕ) (item : Value) (is : Compared) → n ≡ suc at → slice_get items at ≡ Some item → comparison objects value item ≡ is
    → last_before objects value items n ≡ found_by at is (last_before objects value items at)
last_of_all objects value items n at item is same h e = rw same (last_found objects value at (slice_get items at) item is (last_before objects value items at) h e)

pub last_step : (objects : List Object) (value : Value) (items : List Value) (count passed at : ℕ) (item : Value) (is : Compared) → at ≡ count - 1 - passed → passed < count → slice_get items at ≡ Some item → comparison objects value item ≡ is
    → last_before objects value items (count - passed) ≡ found_by at is (last_before objects value items (count - (passed + 1)))
last_step objects value items count passed at item is place h found e =
    let next : count - (passed + 1) ≡ at = omega (arith, place, h) in
    rw next (last_of_all objects value items (count - passed) at item is (omega (arith, place, h)) found e)

pub last_passed : (objects : List Object) (value : Value) (items : List Value) (count passed at : ℕ) (item : Value) → at ≡ count - 1 - passed → passed < count → slice_get items at ≡ Some item → comparison objects value item ≡ Other
    → last_before objects value items (count - passed) ≡ last_before objects value items (count - (passed + 1))
last_passed objects value items count passed at item place h found e = last_step objects value items count passed at item Other place h found e
