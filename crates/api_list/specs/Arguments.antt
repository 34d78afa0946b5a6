-- What arguments are: lists.
use Rattle.std.specs.Prelude.{ℕ, Option, Some, None, List, slice_get}
use Rattle.object_values.specs.declared.object.Object.{Object}
use Rattle.object_values.specs.declared.object.Object.TheVariants as o
use Rattle.object_values.specs.declared.value.Value.{Value}
use Rattle.member_arguments.specs.Arguments.{object_at}

-- the number of an object that is a list
abbrev pub if_list : ℕ → Option Object → Option ℕ
if_list id (Some (o.List class items guard changes)) = Some id
if_list id found = None

abbrev pub list_named : List Object → Option ℕ → Option ℕ
list_named objects None = None
list_named objects (Some id) = if_list id (slice_get objects id)

abbrev pub list_at : List Object → List Value → ℕ → Option ℕ
list_at objects arguments at = list_named objects (object_at arguments at)
