-- No reply and no refusal has a float.
use Rattle.std.proofs.Common.{◌≡◌, ℕ, List, Bool, true, false, Option, Some, None, Result, Ok, Err, codes, refl, if◌then◌else◌}
use Rattle.serde_json.specs.Data.{Data}
use Rattle.serde_json.specs.Written.{has_float}
use Rattle.pl_types.specs.declared.refusal.Refusal.{Refusal}
use Rattle.object_values.specs.declared.object.Object.{Object}
use Rattle.object_heap.specs.Parts.{class_of, message_of}
use Rattle.object_heap.specs.declared.outcome.End.{End}
use Rattle.object_heap.specs.declared.outcome.End.TheVariants as e
use Rattle.json_bridge.specs.Giving.{Fault, given_of}
use Rattle.json_bridge.proofs.Floats.{given_whole}
use Rattle.search_ctx.specs.declared.line.SearchKind.{SearchKind}
use Rattle.json_replies.specs.Searching.{is_negative_score, search_reply_of}
use Rattle.json_replies.specs.Replies.{kind_reply, result_reply, thrown_as, reply_of, refusal_of}

given_has_none : (given : Result Data Fault) → ((d : Data) → given ≡ Ok d → has_float d ≡ false) → has_float (result_reply given) ≡ false
given_has_none (Ok d) h = rw (h d refl) refl
given_has_none (Err fault) h = refl

thrown_has_none : (class : Option ℕ) (message : Option (List ℕ)) → has_float (thrown_as class message) ≡ false
thrown_has_none class None = refl
thrown_has_none class (Some text) = refl

pub reply_has_none : (end : End) (objects : List Object) → has_float (reply_of end objects) ≡ false
reply_has_none (e.Value value) objects = given_has_none (given_of objects value) (given_whole objects value)
reply_has_none (e.Thrown id place) objects = thrown_has_none (class_of objects id) (message_of objects id)
reply_has_none (e.Limit which place) objects = refl

pub refusal_has_none : (refusal : Refusal) → has_float (refusal_of refusal) ≡ false
refusal_has_none refusal = refl

chosen_has_none : (negative : Bool) (end : End) (objects : List Object) → has_float (if negative then kind_reply (codes "negative-score") else reply_of end objects) ≡ false
chosen_has_none true end objects = refl
chosen_has_none false end objects = reply_has_none end objects

pub search_reply_has_none : (kind : SearchKind) (end : End) (objects : List Object) → has_float (search_reply_of kind end objects) ≡ false
search_reply_has_none kind end objects = chosen_has_none (is_negative_score kind end) end objects
