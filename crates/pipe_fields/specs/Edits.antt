-- What `set`, `remove` and `rename` make of a document. Each failure stands in its order, the first that comes counts.
use Rattle.std.specs.Prelude.{ℕ, Bool, true, false, List, Option, Some, None, codes, is_some, if◌then◌else◌}
use Rattle.serde_json.specs.Data.{Data, null, boolean, number, string, array, object, no_members, member}
use Rattle.pipe_fields.specs.declared.field.Field.{Field}
use Rattle.pipe_fields.specs.declared.field.Place.{Place}
use Rattle.pipe_fields.specs.declared.field.Place.TheVariants as place
use Rattle.pipe_fields.specs.declared.failure.FieldFault.{FieldFault}
use Rattle.pipe_fields.specs.declared.failure.FieldFault.TheVariants as fault
use Rattle.pipe_fields.specs.declared.edit.WhenThere.{WhenThere}
use Rattle.pipe_fields.specs.declared.edit.WhenThere.TheVariants as there
use Rattle.pipe_fields.specs.declared.edit.WhenMissing.{WhenMissing}
use Rattle.pipe_fields.specs.declared.edit.WhenMissing.TheVariants as missing
use Rattle.pipe_fields.specs.Documents.{DocData}
use Rattle.pipe_fields.specs.Ways.{find, is_blocked, is_too_deep, put_at, without}

-- ---- failures

abbrev pub kind_of : FieldFault → List ℕ
kind_of fault.Missing = codes "pipe-missing"
kind_of fault.Exists = codes "pipe-exists"
kind_of fault.Parent = codes "pipe-parent"
kind_of fault.Type = codes "pipe-type"
kind_of fault.Depth = codes "pipe-depth"

-- the error of a fault at a field
abbrev pub error_of : FieldFault → List ℕ → Data
error_of kind text = object (member (codes "field") (string text) (member (codes "kind") (string (kind_of kind)) no_members))

-- what a processor makes of a document
pub data Edited : Type 0 where
  Becomes : DocData → Edited
  Errs : Data → Edited

abbrev pub fails : FieldFault → List ℕ → Edited
fails kind text = Errs (error_of kind text)

-- ---- set

-- a value at a field of the source
abbrev pub put_field : Field → Data → DocData → Edited
put_field field v doc =
    if is_blocked field.names doc.source then fails fault.Parent field.text
    else (if is_too_deep field.names v then fails fault.Depth field.text
    else Becomes (record doc { source = put_at field.names v doc.source }))

-- the index or the id takes texts alone
abbrev pub put_beside : List ℕ → (List ℕ → DocData) → Data → Edited
put_beside name with null = fails fault.Type name
put_beside name with (boolean b) = fails fault.Type name
put_beside name with (number n) = fails fault.Type name
put_beside name with (string s) = Becomes (with s)
put_beside name with (array ds) = fails fault.Type name
put_beside name with (object ms) = fails fault.Type name

-- whether what stands at a place is kept: null is not, nor is what is absent
abbrev pub is_kept : WhenThere → Option Data → Bool
is_kept there.Replaced d = false
is_kept there.Kept None = false
is_kept there.Kept (Some null) = false
is_kept there.Kept (Some (boolean b)) = true
is_kept there.Kept (Some (number n)) = true
is_kept there.Kept (Some (string s)) = true
is_kept there.Kept (Some (array ds)) = true
is_kept there.Kept (Some (object ms)) = true

-- what stands at a place of a document
abbrev pub at_place : Place → DocData → Option Data
at_place place.Index doc = Some (string doc.index)
at_place place.Id doc = Some (string doc.id)
at_place (place.Source field) doc = find field.names doc.source

abbrev pub put_place : Place → Data → DocData → Edited
put_place place.Index v doc = put_beside (codes "_index") (λ s. record doc { index = s }) v
put_place place.Id v doc = put_beside (codes "_id") (λ s. record doc { id = s }) v
put_place (place.Source field) v doc = put_field field v doc

abbrev pub set : Place → Data → WhenThere → DocData → Edited
set at v there doc = if is_kept there (at_place at doc) then Becomes doc else put_place at v doc

-- ---- remove and rename

abbrev pub not_found : WhenMissing → List ℕ → DocData → Edited
not_found missing.Fails text doc = fails fault.Missing text
not_found missing.Passes text doc = Becomes doc

-- a document without a field of its source
abbrev pub without_field : Field → DocData → DocData
without_field field doc = record doc { source = without field.names doc.source }

abbrev pub removed : Option Data → Field → WhenMissing → DocData → Edited
removed None field missing doc = not_found missing field.text doc
removed (Some v) field missing doc = Becomes (without_field field doc)

abbrev pub remove : Field → WhenMissing → DocData → Edited
remove field missing doc = removed (find field.names doc.source) field missing doc

-- The target is looked for before the field is taken out, and the value put there behind that.
abbrev pub renamed : Option Data → Field → Field → WhenMissing → DocData → Edited
renamed None field target missing doc = not_found missing field.text doc
renamed (Some v) field target missing doc =
    if is_some (find target.names doc.source) then fails fault.Exists target.text else put_field target v (without_field field doc)

abbrev pub rename : Field → Field → WhenMissing → DocData → Edited
rename field target missing doc = renamed (find field.names doc.source) field target missing doc
