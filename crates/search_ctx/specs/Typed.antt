-- Of which types the arguments of a start are.
use Rattle.std.specs.Prelude.{◌≡◌, ℕ, true, List, [], ◌∷◌, Result, Ok, Err, is_some}
use Rattle.pl_types.specs.declared.classes.TheConstants.{MAP}
use Rattle.pl_types.specs.declared.primitive.Primitive.TheVariants as prim
use Rattle.pl_types.specs.declared.ty.Ty.{Ty}
use Rattle.pl_types.specs.declared.ty.Ty.TheVariants as t
use Rattle.serde_json.specs.Data.{Data}
use Rattle.serde_json.specs.Find.{as_object}
use Rattle.object_heap.specs.Fits.{have_types, kinds}
use Rattle.job_file.specs.declared.context.JobCommand.{JobCommand}
use Rattle.job_file.specs.declared.keys.Key.TheVariants as key
use Rattle.job_file.specs.declared.mapping.FieldKind.{FieldKind}
use Rattle.job_file.specs.Jobs.{JobData, Fault as JobFault, job_of_read}
use Rattle.job_file.specs.Keys.{belongs}
use Rattle.search_ctx.specs.declared.line.SearchKind.{SearchKind}
use Rattle.search_ctx.specs.declared.line.SearchKind.TheVariants as k
use Rattle.json_bridge.specs.Starts.{Start, Fault}
use Rattle.search_ctx.specs.Lines.{bound_document}

-- the types of what a context over documents binds: the params, the document, and in the context score its score
abbrev pub argument_types : SearchKind → List Ty
argument_types k.Filter = t.Class MAP ∷ t.Class MAP ∷ []
argument_types k.Score = t.Class MAP ∷ t.Class MAP ∷ t.Prim prim.Long ∷ []
argument_types k.Field = t.Class MAP ∷ t.Class MAP ∷ []

-- the arguments of a start are of these types in its store
abbrev pub StartTyped : SearchKind → Result Start Fault → Type 0
StartTyped kind (Ok start) = have_types (kinds start.store.objects) (argument_types kind) start.args ≡ true
StartTyped kind (Err fault) = Unit {0}

-- What a line is bound to are arguments of these types, where `params` is an object,
abbrev pub LinesTyped : Type 0
LinesTyped = (kind : SearchKind) (fields : List (List ℕ × FieldKind)) (params : Data) (room : ℕ) (d : Data) → is_some (as_object params) ≡ true
    → StartTyped kind (bound_document kind fields params room d)

-- .. and that of a job is one, in each context that has it.
abbrev pub ParamsAreObjects : Type 0
ParamsAreObjects = (command : JobCommand) (file : Result Data JobFault) (job : JobData) → job_of_read command file ≡ Ok job → belongs key.Params job.context ≡ true
    → is_some (as_object job.params) ≡ true
