-- What a line is bound to are maps, where `params` is an object.
use Rattle.std.proofs.Common.{◌≡◌, ℕ, ◌&&◌, ◌||◌, Bool, true, false, List, [], ◌∷◌, Ok, Err, refl, ap, ◌∙◌, if◌then◌else◌}
use Rattle.std.proofs.Math.Bool.{or-true}
use Rattle.std.proofs.lemmas.Bool.{and_from, false≢true}
use Rattle.std.specs.Prelude.{◌==◌, is_some}
use Rattle.pl_types.specs.Classes.{class_is_below, lineage_of, parents_of, class_row, class_table}
use Rattle.pl_types.specs.declared.classes.TheConstants.{HASH_MAP, MAP, OBJECT}
use Rattle.pl_types.specs.declared.ty.Ty.{out-Ty}
use Rattle.serde_json.specs.Data.{Data, null, boolean, number, string, array, object}
use Rattle.serde_json.specs.Find.{as_object}
use Rattle.object_values.specs.declared.value.Value.{Value}
use Rattle.object_values.specs.declared.value.Value.TheVariants as v
use Rattle.object_values.specs.declared.object.Object.{Object}
use Rattle.object_values.specs.declared.object.Object.TheVariants as o
use Rattle.object_values.specs.declared.object.Guard.TheVariants as g
use Rattle.object_heap.specs.Objects.{AMap}
use Rattle.object_heap.specs.Fits.{have_types, kind_is_of, kinds, value_is_of}
use Rattle.job_file.specs.Values.{has_whole_numbers}
use Rattle.json_bridge.specs.Binding.{bound, bound_members, guard_of}
use Rattle.json_bridge.specs.Starts.{number_outside, field}
use Rattle.write_ctx.specs.declared.keys.WriteKind.{WriteKind}
use Rattle.write_ctx.specs.declared.keys.WriteKind.TheVariants as kind
use Rattle.write_ctx.specs.Keys.{is_line, keys_of}
use Rattle.write_ctx.specs.Laws.{LinesTyped, StartTyped, argument_types}
use Rattle.write_ctx.specs.Lines.{started}
use Rattle.write_ctx.specs.Placing.{ctx_placed, ingest_members, no_pairs, put_keys, update_at}
use Rattle.write_ctx.proofs.Beginning.{Begins, begins_then, bound_begins, kind_stays, last_kind, members_begin, one_more}

map_class : class_is_below HASH_MAP MAP ≡ true
unfolding class_is_below lineage_of parents_of class_row class_table
map_class = refl

-- a value is a map of these objects
abbrev IsMap : List Object → Value → Type 0
IsMap objects value = value_is_of (kinds objects) MAP value ≡ true

map_is_map : kind_is_of MAP (AMap HASH_MAP) ≡ true
map_is_map = ap (λ is. (MAP == OBJECT) || is) map_class ∙ or-true (MAP == OBJECT)

map_stays : (old new : List Object) (value : Value) → Begins old new → IsMap old value → IsMap new value
map_stays old new (v.Ref id) p h = kind_stays (kind_is_of MAP) old new id p h
map_stays old new value p h = h

-- what an object is bound to is a map
object_map : (frozen : Bool) (objects : List Object) (d : Data) → is_some (as_object d) ≡ true → IsMap (bound frozen objects d).objects (bound frozen objects d).value
object_map frozen objects null h = absurd (false≢true h)
object_map frozen objects (boolean b) h = absurd (false≢true h)
object_map frozen objects (number n) h = absurd (false≢true h)
object_map frozen objects (string s) h = absurd (false≢true h)
object_map frozen objects (array ds) h = absurd (false≢true h)
object_map frozen objects (object ms) h =
    let members = bound_members frozen (record { pairs = []; objects = objects }) ms in
    last_kind (kind_is_of MAP) members.objects (o.Map HASH_MAP members.pairs (guard_of frozen) 0) map_is_map

ctx_map : (which : WriteKind) (objects : List Object) (line : Data) → IsMap (ctx_placed which objects line).objects (ctx_placed which objects line).value
ctx_map kind.Update objects line =
    let members = bound_members false (no_pairs objects) (update_at line (keys_of kind.Update)) in
    last_kind (kind_is_of MAP) members.objects (o.Map HASH_MAP members.pairs (g.Keys put_keys) 0) map_is_map
ctx_map kind.Ingest objects line = object_map false objects (object (ingest_members line)) refl
ctx_map kind.Test objects line = object_map true objects (object (ingest_members line)) refl

ctx_begins : (which : WriteKind) (objects : List Object) (line : Data) → Begins objects (ctx_placed which objects line).objects
ctx_begins kind.Update objects line =
    let ms = update_at line (keys_of kind.Update) in
    begins_then objects _ _ (members_begin false (no_pairs objects) ms) (one_more _ _)
ctx_begins kind.Ingest objects line = bound_begins false objects (object (ingest_members line))
ctx_begins kind.Test objects line = bound_begins true objects (object (ingest_members line))

args_typed : (objects : List Object) (params ctx : Value) → IsMap objects params → IsMap objects ctx → have_types (kinds objects) argument_types (params ∷ ctx ∷ []) ≡ true
unfolding out-Ty denote.Hole.Carrier.out
args_typed objects params ctx a b = and_from _ _ a (and_from _ _ b refl)

started_typed : (which : WriteKind) (params : Data) (room : ℕ) (line : Data) → is_some (as_object params) ≡ true → StartTyped (Ok (started which params room line))
started_typed which params room line is =
    let first = bound true [] params in
    args_typed (ctx_placed which first.objects line).objects first.value (ctx_placed which first.objects line).value
    (map_stays first.objects _ first.value (ctx_begins which first.objects line) (object_map true [] params is)) (ctx_map which first.objects line)

pub bound_lines_typed : LinesTyped
bound_lines_typed which params room line is = by_case (has_whole_numbers line && has_whole_numbers params) (is_line which line) where
  by_case : (whole right : Bool) → StartTyped (if whole then (if right then Ok (started which params room line) else Err field) else Err number_outside)
  by_case true true = started_typed which params room line is
  by_case true false = tt
  by_case false right = tt
