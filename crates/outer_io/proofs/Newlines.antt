-- Where the first newline stands.
use Rattle.std.proofs.Common.{◌≡◌, ◌≢◌, ℕ, ◌+◌, ◌<◌, ◌≤◌, List, ◌∷◌, ◌++◌, Some, None, IfSome, length, get_or, take, drop, refl, sym, ap, ◌∙◌, subst, arith, eq-eqb, add-one, length-take, take-append-drop, drop-cons}
use Rattle.std.specs.Prelude.{Option, IfNone}
use Rattle.std.proofs.Math.Seq.{take-length}
use Rattle.std.proofs.lemmas.Bool.{eqb-true}
use Rattle.std.proofs.lemmas.List.{get_or-take}
use Rattle.std.proofs.lemmas.List.Elements.{All-from_get_or}
use Rattle.memchr.specs.Find.{IsFirstByte, is_byte, Nowhere, Passes}
use Rattle.outer_io.specs.Lines.{newline, IsUnbroken}
use Rattle.outer_io.specs.Gathering.{BreaksAt}

-- no newline stands below a place
pub unbroken_below : (bytes : List ℕ) (place : ℕ) → place ≤ length bytes → Nowhere (Passes (is_byte newline) bytes) 0 place → IsUnbroken (take place bytes)
unbroken_below bytes place within none =
    All-from_get_or (λ byte. byte ≢ newline) (take place bytes) 0 (λ k below is.
    let before : k < place = omega (arith, below, length-take place bytes) in
    none k (omega arith) before (eq-eqb (get_or bytes k 0) newline (sym (get_or-take place bytes k 0 before) ∙ is)))

pub newline-first : (bytes : List ℕ) (place : Option ℕ) → IsFirstByte (is_byte newline) bytes place → IfSome place (BreaksAt bytes) × IfNone place (IsUnbroken bytes)
newline-first bytes None none =
    (tt, subst IsUnbroken (take-length bytes) (unbroken_below bytes (length bytes) (omega arith) none))
newline-first bytes (Some place) first =
    let within : place < length bytes = first.0.high in
    let found : get_or bytes place 0 ≡ newline = eqb-true (get_or bytes place 0) newline first.1 in
    let behind : drop place bytes ≡ newline ∷ drop (place + 1) bytes = rw (add-one, drop-cons bytes place 0, found) refl in (
      record {
        within = within;
        unbroken = unbroken_below bytes place (omega arith) first.0.before;
        parts = sym (take-append-drop place bytes) ∙ ap (λ l. take place bytes ++ l) behind;
      },
      tt,
    )
