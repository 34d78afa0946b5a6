-- What pairs hold, in the form that they have.
use Rattle.std.specs.Prelude.{List, []}
use Rattle.object_values.specs.declared.value.Value.{Value}
use Rattle.object_values.specs.declared.pairs.Form.{Form}
use Rattle.object_values.specs.declared.pairs.Form.TheVariants.{Empty, Whole, Parted}

abbrev pub held : Form → List (Value × Value)
held Empty = []
held (Whole table) = table.value
held (Parted parts) = parts.value
