-- What an error of a part is for a line.
use Rattle.json_reading.specs.declared.error.ReadErr.{ReadErr}
use Rattle.json_reading.specs.declared.error.ReadErr.TheVariants as r
use Rattle.json_bridge.specs.declared.error.NumErr.{NumErr}
use Rattle.json_bridge.specs.declared.error.NumErr.TheVariants as n
use Rattle.json_bridge.specs.declared.error.BindErr.{BindErr}
use Rattle.json_bridge.specs.declared.error.BindErr.TheVariants as b

abbrev pub bind_of_reading : ReadErr → BindErr
bind_of_reading r.Syntax = b.Syntax
bind_of_reading r.NoMemory = b.NoMemory

abbrev pub bind_of_number : NumErr → BindErr
bind_of_number n.Number = b.Number
bind_of_number n.NoMemory = b.NoMemory
