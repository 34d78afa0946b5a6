-- What binding keeps, of which types the arguments of a start are, and of which numbers a reply has none.
use Rattle.std.specs.Prelude.{◌≡◌, ℕ, true, false, List, [], ◌∷◌, length, Result, Ok, Err, is_some}
use Rattle.pl_types.specs.declared.classes.TheConstants.{MAP}
use Rattle.pl_types.specs.declared.ty.Ty.{Ty}
use Rattle.pl_types.specs.declared.ty.Ty.TheVariants as t
use Rattle.serde_json.specs.Data.{Data}
use Rattle.serde_json.specs.Find.{as_object}
use Rattle.serde_json.specs.Written.{has_float}
use Rattle.object_values.specs.declared.value.Value.{Value}
use Rattle.object_values.specs.declared.object.Object.{Object}
use Rattle.object_heap.specs.Fits.{Rules, AllFit, Fits, have_types, kinds}
use Rattle.object_heap.specs.declared.outcome.End.{End}
use Rattle.json_bridge.specs.Starts.{Start, Fault}
use Rattle.write_ctx.specs.declared.keys.WriteKind.{WriteKind}
use Rattle.write_ctx.specs.Lines.{bound_document}
use Rattle.write_ctx.specs.Replies.{reply_of}

-- the store of a start fits, and its arguments are values of that store
abbrev pub StartFits : Rules → Result Start Fault → Type 0
StartFits rules (Ok start) = Fits rules start.store.objects × AllFit (length start.store.objects) start.args
StartFits rules (Err fault) = Unit {0}

-- what a line is bound to fits every program and code, the arguments among it
abbrev pub LinesFit : Type 0
LinesFit = (rules : Rules) (kind : WriteKind) (params : Data) (room : ℕ) (line : Data) → StartFits rules (bound_document kind params room line)

-- the types of `params` and `ctx`
abbrev pub argument_types : List Ty
argument_types = t.Class MAP ∷ t.Class MAP ∷ []

abbrev pub StartTyped : Result Start Fault → Type 0
StartTyped (Ok start) = have_types (kinds start.store.objects) argument_types start.args ≡ true
StartTyped (Err fault) = Unit {0}

-- what a line is bound to are arguments of these types, where `params` is an object
abbrev pub LinesTyped : Type 0
LinesTyped = (kind : WriteKind) (params : Data) (room : ℕ) (line : Data) → is_some (as_object params) ≡ true → StartTyped (bound_document kind params room line)

-- no number of a reply is a float, so its text is known
abbrev pub RepliesHaveNoFloat : Type 0
RepliesHaveNoFloat = (kind : WriteKind) (ctx : Value) (end : End) (objects : List Object) → has_float (reply_of kind ctx end objects) ≡ false
