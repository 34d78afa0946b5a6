-- Lemmas on the lines of bytes.
use Rattle.std.proofs.Common.{◌≡◌, ◌≢◌, ℕ, ◌<◌, false, eqb, List, [], ◌∷◌, ◌++◌, length, refl, arith}
use Rattle.std.proofs.lemmas.List.Elements.{All-head, All-tail}
use Rattle.std.proofs.lemmas.Bool.{ne_eqb}
use Rattle.outer_io.specs.Lines.{newline, IsUnbroken, lines_of, ended_of}

-- a line, its newline, and what is behind it
pub lines_of-ended : (line bytes : List ℕ) → IsUnbroken line → lines_of (line ++ newline ∷ bytes) ≡ line ∷ lines_of bytes
lines_of-ended [] bytes unbroken = refl
lines_of-ended (byte ∷ line) bytes unbroken =
    let other : eqb byte newline ≡ false = ne_eqb byte newline (All-head (λ b. b ≢ newline) byte line unbroken) in
    let rest : lines_of (line ++ newline ∷ bytes) ≡ line ∷ lines_of bytes = lines_of-ended line bytes (All-tail (λ b. b ≢ newline) byte line unbroken) in
    rw (other, rest) refl

pub ended_of-ended : (line bytes : List ℕ) → IsUnbroken line → ended_of (line ++ newline ∷ bytes) ≡ line ∷ ended_of bytes
ended_of-ended [] bytes unbroken = refl
ended_of-ended (byte ∷ line) bytes unbroken =
    let other : eqb byte newline ≡ false = ne_eqb byte newline (All-head (λ b. b ≢ newline) byte line unbroken) in
    let rest : ended_of (line ++ newline ∷ bytes) ≡ line ∷ ended_of bytes = ended_of-ended line bytes (All-tail (λ b. b ≢ newline) byte line unbroken) in
    rw (other, rest) refl

-- bytes without a newline
pub ended_of-unbroken : (line : List ℕ) → IsUnbroken line → ended_of line ≡ []
ended_of-unbroken [] unbroken = refl
ended_of-unbroken (byte ∷ line) unbroken =
    let other : eqb byte newline ≡ false = ne_eqb byte newline (All-head (λ b. b ≢ newline) byte line unbroken) in
    let rest : ended_of line ≡ [] = ended_of-unbroken line (All-tail (λ b. b ≢ newline) byte line unbroken) in
    rw (other, rest) refl

pub lines_of-unbroken : (line : List ℕ) → IsUnbroken line → 0 < length line → lines_of line ≡ line ∷ []
lines_of-unbroken [] unbroken some = absurd (omega arith)
lines_of-unbroken (byte ∷ []) unbroken some =
    let other : eqb byte newline ≡ false = ne_eqb byte newline (All-head (λ b. b ≢ newline) byte [] unbroken) in rw other refl
lines_of-unbroken (byte ∷ (next ∷ line)) unbroken some =
    let other : eqb byte newline ≡ false = ne_eqb byte newline (All-head (λ b. b ≢ newline) byte (next ∷ line) unbroken) in
    let rest : lines_of (next ∷ line) ≡ (next ∷ line) ∷ [] = lines_of-unbroken (next ∷ line) (All-tail (λ b. b ≢ newline) byte (next ∷ line) unbroken) (omega arith) in
    rw (other, rest) refl
