-- The reply to a run over a line, by how it ended and what it left of `ctx`.
use Rattle.std.specs.Prelude.{ℕ, Bool, true, false, List, [], ◌∷◌, Option, Some, None, Result, Ok, Err, codes, option_and_then, slice_get, if◌then◌else◌}
use Rattle.pl_units.specs.Utf16.{units, bytes}
use Rattle.serde_json.specs.Data.{Data, string, object, member, no_members}
use Rattle.object_values.specs.declared.value.Value.{Value}
use Rattle.object_values.specs.declared.value.Value.TheVariants as v
use Rattle.object_values.specs.declared.object.Object.{Object}
use Rattle.object_values.specs.declared.object.Object.TheVariants as o
use Rattle.object_values.specs.Pairs.{value_of}
use Rattle.object_heap.specs.Parts.{asked, pairs_of}
use Rattle.object_heap.specs.declared.outcome.End.{End}
use Rattle.object_heap.specs.declared.outcome.End.TheVariants as e
use Rattle.job_file.specs.Contexts.{named}
use Rattle.json_bridge.specs.Giving.{Fault, Kind, given_of}
use Rattle.json_bridge.specs.Without.{given_without}
use Rattle.json_replies.specs.Replies.{fault_kind, kind_reply, reply_of as script_reply_of}
use Rattle.write_ctx.specs.declared.keys.WriteKind.{WriteKind}
use Rattle.write_ctx.specs.declared.keys.WriteKind.TheVariants as kind
use Rattle.write_ctx.specs.declared.replies.Operation.{Operation}
use Rattle.write_ctx.specs.declared.replies.Operation.TheVariants as op

-- ---- what stands in `ctx`

-- what is no map has no pairs
abbrev pub ctx_pairs : List Object → Value → List (Value × Value)
ctx_pairs objects (v.Ref id) = pairs_of objects id
ctx_pairs objects value = []

abbrev pub found : List Object → Value → List ℕ → Option Value
found objects ctx name = value_of (ctx_pairs objects ctx) (v.Str (units name))

-- the UTF-8 form of what is a text
abbrev pub text_in : Value → Option (List ℕ)
text_in (v.Str text) = Some (bytes text)
text_in value = None

abbrev pub text_of : Option Value → Option (List ℕ)
text_of None = None
text_of (Some value) = text_in value

abbrev pub text_at : List Object → Value → List ℕ → Option (List ℕ)
text_at objects ctx name = text_of (found objects ctx name)

-- what needs a text that is not there is an error
abbrev pub with_text : Option (List ℕ) → (List ℕ → Data) → Data
with_text None reply = kind_reply (codes "result-kind")
with_text (Some text) reply = reply text

-- ---- update

-- the operations by their names; `noop` is read as `none`
abbrev pub operations : List (List ℕ × Operation)
operations = (codes "index", op.Index) ∷ (codes "none", op.Nothing) ∷ (codes "noop", op.Nothing) ∷ (codes "delete", op.Delete) ∷ []

abbrev pub operation_named : List ℕ → Option Operation
operation_named name = named name operations

abbrev pub is_map_object : Object → Bool
is_map_object (o.Map class pairs guard changes) = true
is_map_object other = false

abbrev pub is_found_map : Option Object → Bool
is_found_map found = asked is_map_object false found

abbrev pub is_map : List Object → Value → Bool
is_map objects (v.Ref id) = is_found_map (slice_get objects id)
is_map objects value = false

-- the JSON form of a source, which has to be a map
abbrev pub source_given : List Object → Option Value → Result Data Fault
source_given objects None = Err Kind
source_given objects (Some source) = if is_map objects source then given_of objects source else Err Kind

abbrev pub index_reply : List ℕ → Result Data Fault → Data
index_reply id (Ok source) = object (member (codes "_id") (string id) (member (codes "_source") source (member (codes "op") (string (codes "index")) no_members)))
index_reply id (Err fault) = kind_reply (fault_kind fault)

-- an operation that needs no source
abbrev pub plain_reply : List ℕ → List ℕ → Data
plain_reply id name = object (member (codes "_id") (string id) (member (codes "op") (string name) no_members))

abbrev pub operation_reply : List Object → Value → Operation → List ℕ → Data
operation_reply objects ctx op.Index id = index_reply id (source_given objects (found objects ctx (codes "_source")))
operation_reply objects ctx op.Nothing id = plain_reply id (codes "none")
operation_reply objects ctx op.Delete id = plain_reply id (codes "delete")

-- the operation is tried first, then the id, and then the source
abbrev pub operated : List Object → Value → Option Operation → Data
operated objects ctx None = kind_reply (codes "bad-op")
operated objects ctx (Some operation) = with_text (text_at objects ctx (codes "_id")) (operation_reply objects ctx operation)

abbrev pub update_reply : List Object → Value → Data
update_reply objects ctx = operated objects ctx (option_and_then operation_named (text_at objects ctx (codes "op")))

-- ---- ingest

-- what is not written in the source
abbrev pub beside_keys : List Value
beside_keys = v.Str (units (codes "_id")) ∷ v.Str (units (codes "_index")) ∷ []

abbrev pub document_reply : List ℕ → List ℕ → Result Data Fault → Data
document_reply id index (Ok source) = object (member (codes "_id") (string id) (member (codes "_index") (string index) (member (codes "_source") source no_members)))
document_reply id index (Err fault) = kind_reply (fault_kind fault)

-- the id and the index are tried before the source
abbrev pub indexed_reply : List Object → Value → List ℕ → Data
indexed_reply objects ctx id =
    with_text (text_at objects ctx (codes "_index")) (λ index. document_reply id index (given_without beside_keys objects (ctx_pairs objects ctx)))

abbrev pub ingest_reply : List Object → Value → Data
ingest_reply objects ctx = with_text (text_at objects ctx (codes "_id")) (indexed_reply objects ctx)

-- ---- all

-- a run that ended normally over a document that it may change is told by `ctx`, whatever value it gave, and a test by the value
abbrev pub ended_reply : WriteKind → Value → Value → List Object → Data
ended_reply kind.Update ctx value objects = update_reply objects ctx
ended_reply kind.Ingest ctx value objects = ingest_reply objects ctx
ended_reply kind.Test ctx value objects = script_reply_of (e.Value value) objects

-- every other end is told as that of a script
abbrev pub reply_of : WriteKind → Value → End → List Object → Data
reply_of kind ctx (e.Value value) objects = ended_reply kind ctx value objects
reply_of kind ctx (e.Thrown id place) objects = script_reply_of (e.Thrown id place) objects
reply_of kind ctx (e.Limit limit place) objects = script_reply_of (e.Limit limit place) objects
