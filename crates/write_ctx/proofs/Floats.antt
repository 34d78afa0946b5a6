-- No reply has a float.
use Rattle.std.proofs.Common.{◌≡◌, ℕ, Bool, true, false, List, Option, Some, None, Result, Ok, Err, codes, refl, option_and_then, if◌then◌else◌}
use Rattle.serde_json.specs.Data.{Data}
use Rattle.serde_json.specs.Written.{has_float}
use Rattle.object_values.specs.declared.value.Value.{Value}
use Rattle.object_values.specs.declared.object.Object.{Object}
use Rattle.object_heap.specs.declared.outcome.End.TheVariants as e
use Rattle.json_bridge.specs.Giving.{Fault, Kind, given_of}
use Rattle.json_bridge.specs.Without.{given_without}
use Rattle.json_bridge.proofs.Floats.{given_whole, without_whole}
use Rattle.json_replies.proofs.Lines.{reply_has_none}
use Rattle.write_ctx.specs.declared.keys.WriteKind.TheVariants as kind
use Rattle.write_ctx.specs.declared.replies.Operation.{Operation}
use Rattle.write_ctx.specs.declared.replies.Operation.TheVariants as op
use Rattle.write_ctx.specs.Laws.{RepliesHaveNoFloat}
use Rattle.write_ctx.specs.Replies.{beside_keys, ctx_pairs, document_reply, found, index_reply, indexed_reply, ingest_reply, is_map, operated, operation_named, operation_reply, source_given, text_at, update_reply, with_text}

-- what is given has none
abbrev GivesNone : Result Data Fault → Type 0
GivesNone given = (d : Data) → given ≡ Ok d → has_float d ≡ false

text_has_none : (text : Option (List ℕ)) (reply : List ℕ → Data) → ((text : List ℕ) → has_float (reply text) ≡ false) → has_float (with_text text reply) ≡ false
text_has_none None reply h = refl
text_has_none (Some text) reply h = h text

-- ---- update

mapped_has_none : (is : Bool) (objects : List Object) (source : Value) → GivesNone (if is then given_of objects source else Err Kind)
mapped_has_none true objects source d e = given_whole objects source d e
mapped_has_none false objects source d e = absurd (cc)

source_has_none : (objects : List Object) (source : Option Value) → GivesNone (source_given objects source)
source_has_none objects None d e = absurd (cc)
source_has_none objects (Some source) d e = mapped_has_none (is_map objects source) objects source d e

index_has_none : (id : List ℕ) (given : Result Data Fault) → GivesNone given → has_float (index_reply id given) ≡ false
index_has_none id (Ok d) h = rw (h d refl) refl
index_has_none id (Err fault) h = refl

operation_has_none : (objects : List Object) (ctx : Value) (operation : Operation) (id : List ℕ) → has_float (operation_reply objects ctx operation id) ≡ false
operation_has_none objects ctx op.Index id =
    let source = found objects ctx (codes "_source") in
    index_has_none id (source_given objects source) (source_has_none objects source)
operation_has_none objects ctx op.Nothing id = refl
operation_has_none objects ctx op.Delete id = refl

operated_has_none : (objects : List Object) (ctx : Value) (operation : Option Operation) → has_float (operated objects ctx operation) ≡ false
operated_has_none objects ctx None = refl
operated_has_none objects ctx (Some operation) =
    text_has_none (text_at objects ctx (codes "_id")) (operation_reply objects ctx operation) (operation_has_none objects ctx operation)

update_has_none : (objects : List Object) (ctx : Value) → has_float (update_reply objects ctx) ≡ false
update_has_none objects ctx = operated_has_none objects ctx (option_and_then operation_named (text_at objects ctx (codes "op")))

-- ---- ingest

document_has_none : (id index : List ℕ) (given : Result Data Fault) → GivesNone given → has_float (document_reply id index given) ≡ false
document_has_none id index (Ok d) h = rw (h d refl) refl
document_has_none id index (Err fault) h = refl

indexed_has_none : (objects : List Object) (ctx : Value) (id : List ℕ) → has_float (indexed_reply objects ctx id) ≡ false
indexed_has_none objects ctx id =
    let pairs = ctx_pairs objects ctx in
    text_has_none (text_at objects ctx (codes "_index")) _
    (λ index. document_has_none id index (given_without beside_keys objects pairs) (without_whole beside_keys objects pairs))

ingest_has_none : (objects : List Object) (ctx : Value) → has_float (ingest_reply objects ctx) ≡ false
ingest_has_none objects ctx = text_has_none (text_at objects ctx (codes "_id")) (indexed_reply objects ctx) (indexed_has_none objects ctx)

-- ---- all

pub replies_have_none : RepliesHaveNoFloat
replies_have_none kind.Update ctx (e.Value value) objects = update_has_none objects ctx
replies_have_none kind.Ingest ctx (e.Value value) objects = ingest_has_none objects ctx
replies_have_none kind.Test ctx (e.Value value) objects = reply_has_none (e.Value value) objects
replies_have_none which ctx (e.Thrown id place) objects = reply_has_none (e.Thrown id place) objects
replies_have_none which ctx (e.Limit limit place) objects = reply_has_none (e.Limit limit place) objects
