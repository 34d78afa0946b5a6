-- The reply to a run over a document.
use Rattle.std.specs.Prelude.{pos, int_lt, Bool, false, List, codes, if◌then◌else◌}
use Rattle.serde_json.specs.Data.{Data}
use Rattle.object_values.specs.declared.value.Value.{Value}
use Rattle.object_values.specs.declared.value.Value.TheVariants as v
use Rattle.object_values.specs.declared.object.Object.{Object}
use Rattle.object_heap.specs.declared.outcome.End.{End}
use Rattle.object_heap.specs.declared.outcome.End.TheVariants as e
use Rattle.search_ctx.specs.declared.line.SearchKind.{SearchKind}
use Rattle.search_ctx.specs.declared.line.SearchKind.TheVariants as kind
use Rattle.json_replies.specs.Replies.{kind_reply, reply_of}

abbrev pub is_below_zero : Value → Bool
is_below_zero (v.Long number) = int_lt number (pos 0)
is_below_zero value = false

abbrev pub gives_below_zero : End → Bool
gives_below_zero (e.Value value) = is_below_zero value
gives_below_zero (e.Thrown id place) = false
gives_below_zero (e.Limit limit place) = false

-- whether a run gives a score below 0
abbrev pub is_negative_score : SearchKind → End → Bool
is_negative_score kind.Score end = gives_below_zero end
is_negative_score kind.Filter end = false
is_negative_score kind.Field end = false

-- a score below 0 is an error; every other end is told as that of a script
abbrev pub search_reply_of : SearchKind → End → List Object → Data
search_reply_of kind end objects = if is_negative_score kind end then kind_reply (codes "negative-score") else reply_of end objects
