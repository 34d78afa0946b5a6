-- Literals of lists and maps, and arrays that are made. Each is a new object, which costs its weight, and nothing is made where there is
-- no room for all of it.
use Rattle.std.specs.Prelude.{ℕ, zero, suc, ◌+◌, ◌*◌, ◌&&◌, nat_le, nat_lt, Bool, true, Option, Some, None, List, [], ◌∷◌, ◌++◌, length, ℤ, pos, negsuc, replicate, if◌then◌else◌}
use Rattle.std.specs.Fmt.{signed_decimal}
use Rattle.pl_units.specs.Utf16.{units}
use Rattle.pl_types.specs.declared.ty.Ty.{Ty}
use Rattle.pl_types.specs.declared.classes.TheConstants.{ARRAY_LIST, HASH_MAP, NEGATIVE_ARRAY_SIZE_EXCEPTION}
use Rattle.object_values.specs.declared.value.Value.{Value}
use Rattle.object_values.specs.declared.value.Value.TheVariants as v
use Rattle.object_values.specs.declared.object.Object.{Object}
use Rattle.object_values.specs.declared.object.Object.TheVariants as o
use Rattle.object_values.specs.declared.object.Guard.TheVariants as g
use Rattle.object_values.specs.Values.{is_simple}
use Rattle.object_values.specs.Pairs.{with_pairs}
use Rattle.object_heap.specs.Fits.{is_type, kinds}
use Rattle.object_heap.specs.Store.{Store, paid}
use Rattle.object_heap.specs.Effects.{Effect, Gives, after_paying, throws}
use Rattle.container_outcomes.specs.declared.outcome.Outcome.{Outcome}
use Rattle.container_outcomes.specs.declared.outcome.Outcome.TheVariants as outcome
use Rattle.container_outcomes.specs.Outcomes.{effect, not_simple}
use Rattle.container_values.specs.Elements.{references}
use Rattle.container_ops.specs.Types.{default_of, dimensions_of, element_of, are_of_type, on_other_kind, other_kind}

-- ---- literals

abbrev pub list_told : List Value → Outcome
list_told items = outcome.New (o.List ARRAY_LIST items g.Open 0)

-- `[a, b]`
unfoldable pub list_made : Store → List Value → Effect
list_made store items = effect store (list_told items)

-- keys and values by turns, as pairs
abbrev pub pairs_in : List Value → List (Value × Value)
pairs_in [] = []
pairs_in (key ∷ []) = []
pairs_in (key ∷ value ∷ more) = (key, value) ∷ pairs_in more

abbrev pub have_simple_keys : List (Value × Value) → Bool
have_simple_keys [] = true
have_simple_keys (pair ∷ pairs) = is_simple pair.0 && have_simple_keys pairs

abbrev pub map_told : List (Value × Value) → Outcome
map_told pairs = if have_simple_keys pairs then outcome.New (o.Map HASH_MAP (with_pairs [] pairs) g.Open 0) else not_simple

-- `[k: v]`: of two equal keys the first keeps its place, and has the last value
unfoldable pub map_made : Store → List Value → Effect
map_made store parts = effect store (map_told (pairs_in parts))

abbrev pub filled_told : List Object → Ty → List Value → Outcome
filled_told objects elem items = if is_type elem && are_of_type (kinds objects) elem items then outcome.New (o.Array elem items) else other_kind

-- `new T[] {..}`: elements of the type T
unfoldable pub array_filled : Store → Ty → List Value → Effect
array_filled store elem items = effect store (filled_told store.objects elem items)

-- ---- `new T[n][m]`: an array, and behind it the arrays that are its elements, and so on inwards

-- the first size that is negative
abbrev pub first_negative : List ℤ → Option ℤ
first_negative [] = None
first_negative (pos n ∷ sizes) = first_negative sizes
first_negative (negsuc n ∷ sizes) = Some (negsuc n)

abbrev pub length_given : ℤ → ℕ
length_given (pos n) = n
length_given (negsuc n) = 0

abbrev pub lengths_given : List ℤ → List ℕ
lengths_given [] = []
lengths_given (size ∷ sizes) = length_given size ∷ lengths_given sizes

-- so many arrays, each of so many references to objects that are in no other
abbrev pub rows_of : Ty → ℕ → ℕ → ℕ → List Object
rows_of elem zero size first = []
rows_of elem (suc count) size first = o.Array elem (references first size) ∷ rows_of elem count size (first + size)

-- So many arrays of a size: the innermost, which no sizes follow, hold what their type begins with, and all others the arrays that come
-- next, the first of which has this number.
abbrev pub level_of : Ty → ℕ → ℕ → List ℕ → ℕ → List Object
level_of elem count size [] first = replicate count (o.Array elem (replicate size (default_of elem)))
level_of elem count size (next ∷ sizes) first = rows_of elem count size first

-- so many arrays, of which the first has this number, and all that they hold
abbrev pub arrays_from : Ty → ℕ → List ℕ → ℕ → List Object
arrays_from elem count [] first = []
arrays_from elem count (size ∷ sizes) first = level_of elem count size sizes (first + count) ++ arrays_from (element_of elem) (count * size) sizes (first + count)

abbrev pub arrays_of : Ty → List ℕ → ℕ → List Object
arrays_of of sizes first = arrays_from (element_of of) 1 sizes first

-- an array type has a `[]` for each size, of which there is one at least
abbrev pub takes_sizes : Ty → ℕ → Bool
takes_sizes of count = nat_lt 0 count && nat_le count (dimensions_of of)

abbrev pub negative_size : Store → ℤ → Effect
negative_size store size = throws store NEGATIVE_ARRAY_SIZE_EXCEPTION (Some (units (signed_decimal size)))

-- further objects, which cost their weights, and of which this is the first
abbrev pub added_all : Store → List Object → ℕ → Effect
added_all store objects first = after_paying (paid store (store.objects ++ objects) 0) (λ paid. Gives (v.Ref first) paid)

abbrev pub arrays_made : Store → Ty → List ℕ → Effect
arrays_made store of sizes = added_all store (arrays_of of sizes (length store.objects)) (length store.objects)

abbrev pub array_made_if : Store → Ty → List ℤ → Option ℤ → Effect
array_made_if store of sizes (Some size) = negative_size store size
array_made_if store of sizes None = arrays_made store of (lengths_given sizes)

-- an array of a type, with its sizes from the outermost on
unfoldable pub array_made : Store → Ty → List ℤ → Effect
array_made store of sizes =
    if is_type of && takes_sizes of (length sizes) then array_made_if store of sizes (first_negative sizes) else on_other_kind store
