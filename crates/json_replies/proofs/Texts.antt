-- The lines of results that are a truth value or a whole number.
use Rattle.std.proofs.Common.{◌≡◌, ℕ, ℤ, pos, negsuc, Bool, true, false, List, [], ◌∷◌, ◌++◌, codes, refl, ap, append_assoc, if◌then◌else◌}
use Rattle.std.specs.Fmt.{signed_decimal}
use Rattle.json.specs.Print.{escape_byte}
use Rattle.serde_json.specs.Data.{Data, boolean, number}
use Rattle.serde_json.specs.Find.{of_integer}
use Rattle.serde_json.specs.Written.{compact_text}
use Rattle.object_values.specs.declared.value.Value.TheVariants as v
use Rattle.object_values.specs.declared.object.Object.{Object}
use Rattle.object_heap.specs.declared.outcome.End.TheVariants as e
use Rattle.json_bridge.specs.Giving.{given_of}
use Rattle.json_replies.specs.Replies.{line_of, only, reply_of}

-- the line of a result whose text is known
result_text : (d : Data) → line_of (only (codes "result") d) ≡ (codes "{\"result\":" ++ compact_text d) ++ codes "}\n"
unfolding escape_byte
result_text d = ap (λ (rest : List ℕ). codes "{\"result\":" ++ rest) (append_assoc (compact_text d) (125 ∷ []) (10 ∷ []))

pub flag_text : (flag : Bool) → line_of (only (codes "result") (boolean flag)) ≡ (codes "{\"result\":" ++ (if flag then codes "true" else codes "false")) ++ codes "}\n"
flag_text true = result_text (boolean true)
flag_text false = result_text (boolean false)

pub whole_text : (whole : ℤ) → line_of (only (codes "result") (number (of_integer whole))) ≡ (codes "{\"result\":" ++ signed_decimal whole) ++ codes "}\n"
whole_text (pos n) = result_text (number (of_integer (pos n)))
whole_text (negsuc n) = result_text (number (of_integer (negsuc n)))

-- ---- what is given for them

pub flag_given : (objects : List Object) (flag : Bool) → reply_of (e.Value (v.Bool flag)) objects ≡ only (codes "result") (boolean flag)
unfolding given_of
flag_given objects flag = refl

pub int_given : (objects : List Object) (whole : ℤ) → reply_of (e.Value (v.Int whole)) objects ≡ only (codes "result") (number (of_integer whole))
unfolding given_of
int_given objects whole = refl

pub long_given : (objects : List Object) (whole : ℤ) → reply_of (e.Value (v.Long whole)) objects ≡ only (codes "result") (number (of_integer whole))
unfolding given_of
long_given objects whole = refl
