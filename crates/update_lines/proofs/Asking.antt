-- What a line that may be no UTF-8 asks for.
use Rattle.std.proofs.Common.{◌≡◌, ℕ, Bool, true, false, List, Result, Err, refl, sym, subst, if◌then◌else◌}
use Rattle.std.proofs.lemmas.Str.{IsUtf8-from_is_utf8, is_utf8-from_IsUtf8}
use Rattle.std.specs.Str.{IsUtf8, is_utf8}
use Rattle.serde_json.specs.Read.{read}
use Rattle.json_bridge.specs.Starts.{syntax}
use Rattle.json_bridge.specs.declared.error.BindErr.{BindErr}
use Rattle.update_lines.specs.declared.request.Request.{Request}
use Rattle.update_lines.specs.Requests.{Asks, asked_in, asked_of}

contradicts : {b : Bool} → b ≡ true → b ≡ false → ⊥
contradicts holds fails = cc

pub asked_line : (line : List ℕ) (result : Result Request BindErr) → (IsUtf8 line → Asks result (asked_in (read line))) → ((IsUtf8 line → ⊥) → Asks result (Err syntax)) → Asks result (asked_of line)
asked_line line result text bytes = by (is_utf8 line) refl where
  Meaning : Bool → Type 0
  Meaning b = Asks result (if b then asked_in (read line) else Err syntax)

  by : (b : Bool) → is_utf8 line ≡ b → Meaning (is_utf8 line)
  by true is = subst Meaning (sym is) (text (IsUtf8-from_is_utf8 line is))
  by false is = subst Meaning (sym is) (bytes (λ utf8. contradicts (is_utf8-from_IsUtf8 line utf8) is))
