-- What the lines of documents that a script changes are bound to: it fits every program and code, and the arguments are maps.
use Rattle.std.specs.Prelude.{◌≡◌, true, ℕ, List, Result, Ok, Err, is_some, length}
use Rattle.serde_json.specs.Find.{as_object}
use Rattle.object_heap.specs.Fits.{Rules, AllFit, Fits, have_types, kinds}
use Rattle.json_bridge.specs.Starts.{Start, Fault}
use Rattle.search_ctx.specs.Laws.{StartFits}
use Rattle.write_ctx.specs.Laws.{argument_types}
use Rattle.document_replies.specs.Changes.{Changes, change_start}

abbrev pub ChangesFit : Type 0
ChangesFit = (rules : Rules) (changes : Changes) (line : List ℕ) → StartFits rules (change_start changes line)

-- the arguments of a start are of the types of `params` and `ctx`
abbrev pub StartHasMaps : Result Start Fault → Type 0
StartHasMaps (Ok start) = have_types (kinds start.store.objects) argument_types start.args ≡ true
StartHasMaps (Err fault) = Unit {0}

-- where the params are an object
abbrev pub ChangesTyped : Type 0
ChangesTyped = (changes : Changes) (line : List ℕ) → is_some (as_object changes.params) ≡ true → StartHasMaps (change_start changes line)
