-- Arrays that are made with their sizes: what they weigh, and that they fit.
use Rattle.std.proofs.Common.{◌≡◌, ℕ, ℤ, zero, suc, ◌+◌, ◌*◌, ◌-◌, ◌<◌, ◌≤◌, true, Some, None, List, [], ◌∷◌, ◌++◌, length, refl, ap, sym, ◌∙◌, subst, arith, slice_get, append_assoc, length-append}
use Rattle.std.specs.Prelude.{replicate}
use Rattle.std.proofs.lemmas.List.{length-replicate}
use Rattle.pl_types.specs.declared.ty.Ty.{Ty}
use Rattle.object_values.specs.declared.object.Object.{Object}
use Rattle.object_values.specs.declared.object.Object.TheVariants as o
use Rattle.object_values.specs.declared.value.Value.{Value}
use Rattle.object_values.specs.declared.value.Value.TheVariants as v
use Rattle.object_heap.specs.Fits.{Rules, Fits, Typed, ValueFits, AllFit, AreElements, ObjectFits, ObjectsFit, is_element, is_type, kinds}
use Rattle.object_heap.specs.Objects.{Kind, AnArray, kind_of, weight_of}
use Rattle.object_heap.specs.Store.{Store, paid, weight}
use Rattle.object_heap.proofs.Fitting.{length-kinds, object_more}
use Rattle.object_heap.proofs.Growth.{all_grow}
use Rattle.object_heap.proofs.KindLemmas.{Follows, follows_more}
use Rattle.object_heap.proofs.Paying.{paid_not}
use Rattle.container_values.specs.Elements.{references}
use Rattle.container_values.proofs.Places.{length_references}
use Rattle.container_ops.specs.Making.{arrays_from, arrays_of, lengths_given, level_of, rows_of}
use Rattle.container_ops.specs.Sizes.{cost_of}
use Rattle.container_ops.specs.Types.{default_of, dimensions_of, element_of}
use Rattle.container_ops.proofs.Told.{typed_is_element}
use Rattle.container_ops.proofs.Typed.{default_fits, default_typed, element_dimensions, element_is_type, reference_typed}

-- ---- weights

weight-append : (objects more : List Object) → weight (objects ++ more) ≡ weight objects + weight more
weight-append [] more = omega arith
weight-append (x ∷ objects) more = omega (arith, weight-append objects more)

array_weighs : (elem : Ty) (items : List Value) → weight_of (o.Array elem items) ≡ suc (length items)
unfolding weight_of
array_weighs elem items = omega arith

rows_weigh : (elem : Ty) (count size first : ℕ) → weight (rows_of elem count size first) ≡ count * suc size
rows_weigh elem zero size first = omega arith
rows_weigh elem (suc count) size first =
    omega (arith, array_weighs elem (references first size), length_references first size, rows_weigh elem count size (first + size))

same_weigh : (count size : ℕ) (object : Object) → weight_of object ≡ suc size → weight (replicate count object) ≡ count * suc size
same_weigh zero size object e = omega arith
same_weigh (suc count) size object e = omega (arith, e, same_weigh count size object e)

level_weighs : (elem : Ty) (count size : ℕ) (sizes : List ℕ) (first : ℕ) → weight (level_of elem count size sizes first) ≡ count * suc size
level_weighs elem count size [] first =
    same_weigh count size (o.Array elem (replicate size (default_of elem))) (omega (arith, array_weighs elem (replicate size (default_of elem)), length-replicate size (default_of elem)))
level_weighs elem count size (next ∷ sizes) first = rows_weigh elem count size first

arrays_weigh : (elem : Ty) (count : ℕ) (sizes : List ℕ) (first : ℕ) → weight (arrays_from elem count sizes first) ≡ cost_of count sizes
arrays_weigh elem count [] first = refl
arrays_weigh elem count (size ∷ sizes) first =
    omega (
      arith,
      weight-append (level_of elem count size sizes (first + count)) (arrays_from (element_of elem) (count * size) sizes (first + count)),
      level_weighs elem count size sizes (first + count),
      arrays_weigh (element_of elem) (count * size) sizes (first + count),
    )

-- where they cost more than the room nothing is paid
pub no_room : (store : Store) (of : Ty) (sizes : List ℕ) → store.room < cost_of 1 sizes → paid store (store.objects ++ arrays_of of sizes (length store.objects)) 0 ≡ None
no_room store of sizes h =
    let arrays = arrays_of of sizes (length store.objects) in
    paid_not store (store.objects ++ arrays) (weight arrays) (all_grow store.objects arrays) (omega (arith, arrays_weigh (element_of of) 1 sizes (length store.objects)))

-- ---- places of lists

got_behind : {A : Type 0} → (xs ys : List A) (n j : ℕ) → n ≡ length xs + j → slice_get (xs ++ ys) n ≡ slice_get ys j
got_behind [] ys n j e = let same : n ≡ j = omega arith in ap (slice_get ys) same
got_behind (x ∷ xs) ys zero j e = absurd (omega arith)
got_behind (x ∷ xs) ys (suc n) j e = got_behind xs ys n j (omega arith)

got_before : {A : Type 0} → (xs ys : List A) (n : ℕ) (y : A) → slice_get xs n ≡ Some y → slice_get (xs ++ ys) n ≡ Some y
got_before [] ys n y e = cc
got_before (x ∷ xs) ys zero y e = e
got_before (x ∷ xs) ys (suc n) y e = got_before xs ys n y e

is_within : {A : Type 0} → (xs : List A) (n : ℕ) (y : A) → slice_get xs n ≡ Some y → n < length xs
is_within [] n y e = cc
is_within (x ∷ xs) zero y e = omega arith
is_within (x ∷ xs) (suc n) y e = omega (arith, is_within xs n y e)

-- ---- kinds of a level

kinds-added : (objects more : List Object) → kinds (objects ++ more) ≡ kinds objects ++ kinds more
kinds-added [] more = refl
kinds-added (x ∷ objects) more = ap (λ ks. kind_of x ∷ ks) (kinds-added objects more)

rows_kinds : (elem : Ty) (count size first at : ℕ) → at < count → slice_get (kinds (rows_of elem count size first)) at ≡ Some (AnArray elem)
rows_kinds elem zero size first at h = absurd (omega arith)
rows_kinds elem (suc count) size first zero h = refl
rows_kinds elem (suc count) size first (suc at) h = rows_kinds elem count size (first + size) at (omega arith)

same_kinds : (count : ℕ) (elem : Ty) (items : List Value) (at : ℕ) → at < count → slice_get (kinds (replicate count (o.Array elem items))) at ≡ Some (AnArray elem)
same_kinds zero elem items at h = absurd (omega arith)
same_kinds (suc count) elem items zero h = refl
same_kinds (suc count) elem items (suc at) h = same_kinds count elem items at (omega arith)

level_kinds : (elem : Ty) (count size : ℕ) (sizes : List ℕ) (first at : ℕ) → at < count → slice_get (kinds (level_of elem count size sizes first)) at ≡ Some (AnArray elem)
level_kinds elem count size [] first at h = same_kinds count elem (replicate size (default_of elem)) at h
level_kinds elem count size (next ∷ sizes) first at h = rows_kinds elem count size first at h

rows_count : (elem : Ty) (count size first : ℕ) → length (rows_of elem count size first) ≡ count
rows_count elem zero size first = refl
rows_count elem (suc count) size first = ap suc (rows_count elem count size (first + size))

level_count : (elem : Ty) (count size : ℕ) (sizes : List ℕ) (first : ℕ) → length (level_of elem count size sizes first) ≡ count
level_count elem count size [] first = length-replicate count (o.Array elem (replicate size (default_of elem)))
level_count elem count size (next ∷ sizes) first = rows_count elem count size first

-- the first arrays are of the type
arrays_kinds : (elem : Ty) (count size : ℕ) (sizes : List ℕ) (first at : ℕ) → at < count → slice_get (kinds (arrays_from elem count (size ∷ sizes) first)) at ≡ Some (AnArray elem)
arrays_kinds elem count size sizes first at h =
    let level = level_of elem count size sizes (first + count) in
    let inner = arrays_from (element_of elem) (count * size) sizes (first + count) in
    subst (λ (ks : List Kind). slice_get ks at ≡ Some (AnArray elem)) (sym (kinds-added level inner)) (got_before (kinds level) (kinds inner) at (AnArray elem) (level_kinds elem count size sizes (first + count) at h))

-- ---- arrays fit

-- references to arrays of a kind that are there
abbrev ArraysThere : List Kind → Ty → ℕ → ℕ → Type 0
ArraysThere ks elem from count = (id : ℕ) → from ≤ id → id < from + count → slice_get ks id ≡ Some (AnArray elem)

references_fit : (ks : List Kind) (elem : Ty) (from size : ℕ) → ArraysThere ks elem from size → AllFit (length ks) (references from size)
references_fit ks elem from zero h = tt
references_fit ks elem from (suc size) h =
    (is_within ks from (AnArray elem) (h from (omega arith) (omega arith)), references_fit ks elem (from + 1) size (λ id a b. h id (omega arith) (omega arith)))

references_typed : (typed : Typed) (ks : List Kind) (of : Ty) (from size : ℕ) → 0 < dimensions_of of → ArraysThere ks (element_of of) from size → AreElements typed ks of (references from size)
references_typed typed ks of from zero d h = tt
references_typed typed ks of from (suc size) d h =
    (typed_is_element typed ks of (v.Ref from) (reference_typed ks of from d (h from (omega arith) (omega arith))), references_typed typed ks of (from + 1) size d (λ id a b. h id (omega arith) (omega arith)))

rows_fit : (rules : Rules) (ks : List Kind) (of : Ty) (count size first : ℕ) → is_type of ≡ true → 0 < dimensions_of of → ArraysThere ks (element_of of) first (count * size) → ObjectsFit rules ks (rows_of of count size first)
rows_fit rules ks of zero size first t d h = tt
rows_fit rules ks of (suc count) size first t d h =
    let own : ArraysThere ks (element_of of) first size = λ id a b. h id a (omega arith) in (
      (t, references_fit ks (element_of of) first size own, references_typed rules.typed ks of first size d own),
      rows_fit rules ks of count size (first + size) t d (λ id a b. h id (omega arith) (omega arith)),
    )

all_same : (n count : ℕ) (value : Value) → ValueFits n value → AllFit n (replicate count value)
all_same n zero value h = tt
all_same n (suc count) value h = (h, all_same n count value h)

same_typed : (typed : Typed) (ks : List Kind) (elem : Ty) (count : ℕ) (value : Value) → is_element typed ks elem value ≡ true → AreElements typed ks elem (replicate count value)
same_typed typed ks elem zero value h = tt
same_typed typed ks elem (suc count) value h = (h, same_typed typed ks elem count value h)

same_fit : (rules : Rules) (ks : List Kind) (count : ℕ) (object : Object) → ObjectFits rules ks object → ObjectsFit rules ks (replicate count object)
same_fit rules ks zero object h = tt
same_fit rules ks (suc count) object h = (h, same_fit rules ks count object h)

innermost_fit : (rules : Rules) (ks : List Kind) (of : Ty) (size : ℕ) → is_type of ≡ true → ObjectFits rules ks (o.Array of (replicate size (default_of of)))
innermost_fit rules ks of size t =
    (t, all_same (length ks) size (default_of of) (default_fits (length ks) of), same_typed rules.typed ks of size (default_of of) (default_typed rules.typed ks of t))

level_fits : (rules : Rules) (ks : List Kind) (of : Ty) (count size : ℕ) (sizes : List ℕ) (first : ℕ) → is_type of ≡ true → length sizes ≤ dimensions_of of
    → (0 < length sizes → ArraysThere ks (element_of of) first (count * size)) → ObjectsFit rules ks (level_of of count size sizes first)
level_fits rules ks of count size [] first t d h = same_fit rules ks count (o.Array of (replicate size (default_of of))) (innermost_fit rules ks of size t)
level_fits rules ks of count size (next ∷ sizes) first t d h = rows_fit rules ks of count size first t (omega arith) (h (omega arith))

both_fit : (rules : Rules) (ks : List Kind) (objects more : List Object) → ObjectsFit rules ks objects → ObjectsFit rules ks more → ObjectsFit rules ks (objects ++ more)
both_fit rules ks [] more f g = g
both_fit rules ks (x ∷ objects) more f g = (f.0, both_fit rules ks objects more f.1 g)

-- the arrays of the next level, which come behind those of this one
inner_there : (before level : List Kind) (elem : Ty) (count : ℕ) (sizes : List ℕ) (first : ℕ) → first ≡ length before + length level → 0 < length sizes
    → ArraysThere ((before ++ level) ++ kinds (arrays_from elem count sizes first)) elem first count
inner_there before level elem count [] first e h id a b = absurd (omega arith)
inner_there before level elem count (size ∷ sizes) first e h id a b =
    got_behind (before ++ level) (kinds (arrays_from elem count (size ∷ sizes) first)) id (id - first) (omega (arith, length-append before level))
    ∙ arrays_kinds elem count size sizes first (id - first) (omega arith)

pub arrays_fit : (rules : Rules) (before : List Kind) (of : Ty) (count : ℕ) (sizes : List ℕ) (first : ℕ) → first ≡ length before → is_type of ≡ true → length sizes ≤ suc (dimensions_of of)
    → ObjectsFit rules (before ++ kinds (arrays_from of count sizes first)) (arrays_from of count sizes first)
arrays_fit rules before of count [] first e t d = tt
arrays_fit rules before of count (size ∷ sizes) first e t d =
    let level = level_of of count size sizes (first + count) in
    let inner = arrays_from (element_of of) (count * size) sizes (first + count) in
    let here : length (kinds level) ≡ count = length-kinds level ∙ level_count of count size sizes (first + count) in
    let all : (before ++ kinds level) ++ kinds inner ≡ before ++ kinds (level ++ inner) =
    append_assoc before (kinds level) (kinds inner) ∙ ap (λ (ks : List Kind). before ++ ks) (sym (kinds-added level inner)) in
    subst (λ (ks : List Kind). ObjectsFit rules ks (level ++ inner)) all
    (both_fit rules ((before ++ kinds level) ++ kinds inner) level inner
    (level_fits rules ((before ++ kinds level) ++ kinds inner) of count size sizes (first + count) t (omega arith)
    (λ some. inner_there before (kinds level) (element_of of) (count * size) sizes (first + count) (omega arith) some))
    (arrays_fit rules (before ++ kinds level) (element_of of) (count * size) sizes (first + count) (omega (arith, length-append before (kinds level))) (element_is_type of t)
    (omega (arith, element_dimensions of))))

each_more : (rules : Rules) (ks more : List Kind) → Follows ks more → (objects : List Object) → ObjectsFit rules ks objects → ObjectsFit rules more objects
each_more rules ks more h [] f = tt
each_more rules ks more h (x ∷ objects) f = (object_more rules ks more h x f.0, each_more rules ks more h objects f.1)

pub added_arrays_fit : (rules : Rules) (objects : List Object) (of : Ty) (sizes : List ℕ) → Fits rules objects → is_type of ≡ true → length sizes ≤ dimensions_of of
    → Fits rules (objects ++ arrays_of of sizes (length objects))
added_arrays_fit rules objects of sizes f t d =
    let arrays = arrays_of of sizes (length objects) in
    let all = kinds objects ++ kinds arrays in
    record {
      each =
          subst (λ (ks : List Kind). ObjectsFit rules ks (objects ++ arrays)) (sym (kinds-added objects arrays))
          (both_fit rules all objects arrays (each_more rules (kinds objects) all (follows_more (kinds objects) (kinds arrays)) objects f.each)
          (arrays_fit rules (kinds objects) (element_of of) 1 sizes (length objects) (sym (length-kinds objects)) (element_is_type of t) (omega (arith, element_dimensions of))));
    }

pub first_is_there : (objects : List Object) (of : Ty) (sizes : List ℕ) → 0 < length sizes → length objects < length (objects ++ arrays_of of sizes (length objects))
first_is_there objects of [] h = absurd (omega arith)
first_is_there objects of (size ∷ sizes) h =
    let level = level_of (element_of of) 1 size sizes (length objects + 1) in
    let inner = arrays_from (element_of (element_of of)) (1 * size) sizes (length objects + 1) in
    omega (arith, length-append objects (level ++ inner), length-append level inner, level_count (element_of of) 1 size sizes (length objects + 1))

pub length_given : (sizes : List ℤ) → length (lengths_given sizes) ≡ length sizes
length_given [] = refl
length_given (size ∷ sizes) = ap suc (length_given sizes)
