-- What a line is bound to are arguments of the types of its context's variables.
use Rattle.std.proofs.Common.{◌≡◌, ℕ, ℤ, zero, suc, Bool, true, false, Option, Some, None, List, [], ◌∷◌, ◌++◌, length, refl, sym, ap, ◌∙◌, if◌then◌else◌, Err, ◌&&◌, ◌||◌, IfSome}
use Rattle.std.proofs.Math.Bool.{or-true}
use Rattle.std.proofs.lemmas.Bool.{and_from, false≢true}
use Rattle.std.specs.Prelude.{◌==◌, option_map, option_and_then, slice_get, is_some}
use Rattle.pl_types.specs.declared.classes.TheConstants.{HASH_MAP, MAP, OBJECT, SCRIPT_DOC_VALUES}
use Rattle.pl_types.specs.declared.ty.Ty.{out-Ty}
use Rattle.serde_json.specs.Data.{Data, null, boolean, number, string, array, object, Members}
use Rattle.serde_json.specs.Find.{as_object, get_member}
use Rattle.object_values.specs.declared.value.Value.{Value}
use Rattle.object_values.specs.declared.value.Value.TheVariants as v
use Rattle.object_values.specs.declared.object.Object.{Object}
use Rattle.object_values.specs.declared.object.Object.TheVariants as o
use Rattle.object_values.specs.declared.object.Guard.TheVariants as g
use Rattle.object_heap.specs.Objects.{Kind, AMap, kind_of}
use Rattle.object_heap.specs.Fits.{have_types, kind_is_of, kinds, passes, value_is_of}
use Rattle.job_file.specs.declared.mapping.FieldKind.{FieldKind}
use Rattle.job_file.specs.Values.{has_whole_numbers}
use Rattle.json_bridge.specs.Binding.{Bound, BoundMembers, bound, bound_members, guard_of, with_next_member}
use Rattle.search_ctx.specs.declared.values.FieldValues.{FieldValues}
use Rattle.search_ctx.specs.declared.line.SearchKind.{SearchKind}
use Rattle.search_ctx.specs.declared.line.SearchKind.TheVariants as k
use Rattle.search_ctx.specs.DocValues.{doc_of_members}
use Rattle.json_bridge.specs.Starts.{or_field, number_outside}
use Rattle.search_ctx.specs.Lines.{Search, started, score_args, score_of, score_key, plain_search, scored_search, search_in, search_of, without}
use Rattle.search_ctx.specs.Placing.{doc_placed, lists_placed, script_values, values_placed}
use Rattle.search_ctx.specs.Typed.{LinesTyped, StartTyped, argument_types}
use Rattle.search_ctx.proofs.Fitting.{map_class}

-- ---- objects keep their kinds as others are added

kind_stays : (test : Kind → Bool) (objects : List Object) (next : Object) (id : ℕ) → passes test (slice_get (kinds objects) id) ≡ true
    → passes test (slice_get (kinds (objects ++ next ∷ [])) id) ≡ true
kind_stays test [] next id h = absurd (false≢true h)
kind_stays test (x ∷ objects) next zero h = h
kind_stays test (x ∷ objects) next (suc id) h = kind_stays test objects next id h

last_kind : (test : Kind → Bool) (objects : List Object) (next : Object) → test (kind_of next) ≡ true → passes test (slice_get (kinds (objects ++ next ∷ [])) (length objects)) ≡ true
last_kind test [] next h = h
last_kind test (x ∷ objects) next h = last_kind test objects next h

-- ---- maps

-- a value is a map of these objects
abbrev IsMap : List Object → Value → Type 0
IsMap objects value = value_is_of (kinds objects) MAP value ≡ true

stays_map : (objects : List Object) (next : Object) (value : Value) → IsMap objects value → IsMap (objects ++ next ∷ []) value
stays_map objects next (v.Ref id) h = kind_stays (kind_is_of MAP) objects next id h
stays_map objects next value h = h

map_is_map : kind_is_of MAP (AMap HASH_MAP) ≡ true
map_is_map = ap (λ is. (MAP == OBJECT) || is) map_class ∙ or-true (MAP == OBJECT)

params_map : (params : Data) → is_some (as_object params) ≡ true → IsMap (bound true [] params).objects (bound true [] params).value
params_map null h = absurd (false≢true h)
params_map (boolean b) h = absurd (false≢true h)
params_map (number n) h = absurd (false≢true h)
params_map (string s) h = absurd (false≢true h)
params_map (array ds) h = absurd (false≢true h)
params_map (object ms) h =
    let members = bound_members true (record { pairs = []; objects = [] }) ms in
    last_kind (kind_is_of MAP) members.objects (o.Map HASH_MAP members.pairs (guard_of true) 0) map_is_map

lists_keep : (value : Value) (lists : BoundMembers) (doc : List FieldValues) (fields : List (List ℕ × FieldKind)) → IsMap lists.objects value → IsMap (lists_placed lists doc fields).objects value
lists_keep value lists [] fields h = h
lists_keep value lists (values ∷ doc) [] h = h
lists_keep value lists (values ∷ doc) (field ∷ fields) h =
    lists_keep value (with_next_member lists field.0 (values_placed lists.objects values)) doc fields
    (stays_map lists.objects (o.List SCRIPT_DOC_VALUES (script_values values) g.Frozen 0) value h)

abbrev no_lists : List Object → BoundMembers
no_lists objects = record { pairs = []; objects = objects }

doc_keeps : (value : Value) (objects : List Object) (fields : List (List ℕ × FieldKind)) (doc : List FieldValues) → IsMap objects value → IsMap (doc_placed objects fields doc).objects value
doc_keeps value objects fields doc h =
    let lists = lists_placed (no_lists objects) doc fields in
    stays_map lists.objects (o.Map HASH_MAP lists.pairs g.Mapped 0) value (lists_keep value (no_lists objects) doc fields h)

doc_map : (objects : List Object) (fields : List (List ℕ × FieldKind)) (doc : List FieldValues) → IsMap (doc_placed objects fields doc).objects (doc_placed objects fields doc).value
doc_map objects fields doc =
    let lists = lists_placed (no_lists objects) doc fields in
    last_kind (kind_is_of MAP) lists.objects (o.Map HASH_MAP lists.pairs g.Mapped 0) map_is_map

-- ---- the score, which one context has

abbrev HasScore : SearchKind → Option ℤ → Type 0
HasScore k.Filter None = Unit {0}
HasScore k.Filter (Some score) = ⊥
HasScore k.Score None = ⊥
HasScore k.Score (Some score) = Unit {0}
HasScore k.Field None = Unit {0}
HasScore k.Field (Some score) = ⊥

abbrev FoundScore : SearchKind → Option Search → Type 0
FoundScore kind found = IfSome found (λ (s : Search). HasScore kind s.score)

with_score : (kind : SearchKind) (score : Option ℤ) (doc : Option (List FieldValues)) → HasScore kind score → FoundScore kind (option_map (λ doc. record { doc = doc; score = score }) doc)
with_score kind score None h = tt
with_score kind score (Some doc) h = h

scored : (fields : List (List ℕ × FieldKind)) (ms : Members) (score : Option ℤ) → FoundScore k.Score (option_and_then (scored_search fields ms) score)
scored fields ms None = tt
scored fields ms (Some score) = with_score k.Score (Some score) (doc_of_members fields (without score_key ms)) tt

in_score : (kind : SearchKind) (fields : List (List ℕ × FieldKind)) (ms : Members) → FoundScore kind (search_in kind fields ms)
in_score k.Filter fields ms = with_score k.Filter None (doc_of_members fields ms) tt
in_score k.Score fields ms = scored fields ms (score_of (get_member score_key ms))
in_score k.Field fields ms = with_score k.Field None (doc_of_members fields ms) tt

of_object : (kind : SearchKind) (fields : List (List ℕ × FieldKind)) (ms : Option Members) → FoundScore kind (option_and_then (search_in kind fields) ms)
of_object kind fields None = tt
of_object kind fields (Some ms) = in_score kind fields ms

-- ---- lines

args_typed : (objects : List Object) (kind : SearchKind) (score : Option ℤ) (params doc : Value) → IsMap objects params → IsMap objects doc → HasScore kind score
    → have_types (kinds objects) (argument_types kind) (params ∷ doc ∷ score_args score) ≡ true
unfolding out-Ty denote.Hole.Carrier.out
args_typed objects k.Filter None params doc a b h = and_from _ _ a (and_from _ _ b refl)
args_typed objects k.Filter (Some score) params doc a b h = absurd h
args_typed objects k.Score None params doc a b h = absurd h
args_typed objects k.Score (Some score) params doc a b h = and_from _ _ a (and_from _ _ b refl)
args_typed objects k.Field None params doc a b h = and_from _ _ a (and_from _ _ b refl)
args_typed objects k.Field (Some score) params doc a b h = absurd h

started_typed : (kind : SearchKind) (fields : List (List ℕ × FieldKind)) (params : Data) (room : ℕ) → is_some (as_object params) ≡ true → (found : Option Search) → FoundScore kind found
    → StartTyped kind (or_field (option_map (started fields params room) found))
started_typed kind fields params room is None h = tt
started_typed kind fields params room is (Some one) h =
    let first = bound true [] params in
    args_typed (doc_placed first.objects fields one.doc).objects kind one.score first.value (doc_placed first.objects fields one.doc).value
    (doc_keeps first.value first.objects fields one.doc (params_map params is)) (doc_map first.objects fields one.doc) h

pub bound_lines_typed : LinesTyped
bound_lines_typed kind fields params room d is = by_case (has_whole_numbers d && has_whole_numbers params) where
  by_case : (b : Bool) → StartTyped kind (if b then or_field (option_map (started fields params room) (search_of kind fields d)) else Err number_outside)
  by_case true = started_typed kind fields params room is (search_of kind fields d) (of_object kind fields (as_object d))
  by_case false = tt
