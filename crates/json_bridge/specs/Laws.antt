-- What binding and giving keep.
use Rattle.std.specs.Prelude.{◌≡◌, Bool, true, false, Ok, List, length}
use Rattle.serde_json.specs.Data.{Data}
use Rattle.serde_json.specs.Written.{has_float}
use Rattle.object_values.specs.declared.value.Value.{Value}
use Rattle.object_values.specs.declared.object.Object.{Object}
use Rattle.object_heap.specs.Fits.{Rules, ValueFits, Fits}
use Rattle.object_heap.specs.Parts.{AreFrozen}
use Rattle.json_bridge.specs.Binding.{bound}
use Rattle.json_bridge.specs.Giving.{given_of}

-- where the heap fits a program or a code, it fits it after a value is bound in it, and so does the value
abbrev pub BindFits : Type 0
BindFits = (rules : Rules) (frozen : Bool) (objects : List Object) (d : Data) → Fits rules objects
    → Fits rules (bound frozen objects d).objects × ValueFits (length (bound frozen objects d).objects) (bound frozen objects d).value

-- where nothing may change what is there, nothing may change what is bound frozen, at any depth
abbrev pub BindFreezes : Type 0
BindFreezes = (objects : List Object) (d : Data) → AreFrozen objects → AreFrozen (bound true objects d).objects

-- no number that is given is a float, so the text of what is given is known
abbrev pub GivesNoFloat : Type 0
GivesNoFloat = (objects : List Object) (value : Value) (d : Data) → given_of objects value ≡ Ok d → has_float d ≡ false
