use Rattle.std.proofs.Common.{◌≡◌, Bool, true, false, List, ℕ, refl, sym}
use Rattle.std.specs.Str.{IsUtf8, is_utf8}
use Rattle.std.proofs.lemmas.Str.{IsUtf8-from_is_utf8, is_utf8-from_IsUtf8}
use Rattle.allowlist.proofs.form.is_text.Goals as goal

not_text : (bs : List ℕ) (b : Bool) → is_utf8 bs ≡ b → (IsUtf8 bs → ⊥) → false ≡ is_utf8 bs
not_text bs false e h = sym e
not_text bs true e h = absurd (h (IsUtf8-from_is_utf8 bs e))

pub returns-in-Ok : goal.returns-in-Ok
returns-in-Ok c = sym (is_utf8-from_IsUtf8 c.args.line.now c.in-Ok.ensures.cases.1)

pub returns-in-Err : goal.returns-in-Err
returns-in-Err c = not_text c.args.line.now (is_utf8 c.args.line.now) refl c.in-Err.ensures.cases.0
