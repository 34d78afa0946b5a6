-- Bytes are a text or not, and in one way.
use Rattle.std.proofs.Common.{◌≡◌, ℕ, List, length, Result, Ok, Err, sym, ◌∙◌, ap, inl, inr}
use Rattle.std.proofs.Math.Seq.{take-length}
use Rattle.std.proofs.lemmas.Bool.{cases_order}
use Rattle.std.specs.Str.{IsUtf8, IsValidUpTo}
use Rattle.pl_types.specs.declared.refusal.Refusal.{Refusal}
use Rattle.eval_command.specs.Script.{Decodes}

text_or_not : (bytes : List ℕ) (n : ℕ) → IsUtf8 bytes → IsValidUpTo bytes n → ⊥
text_or_not bytes n text up = up.longest (length bytes) up.short (rw (take-length bytes) text)

one_front : (bytes : List ℕ) (m n : ℕ) → IsValidUpTo bytes m → IsValidUpTo bytes n → m ≡ n
one_front bytes m n a b = elim (cases_order m n) [
  | inl e ↦ e
  | inr lt ↦ elim lt [ inl below ↦ absurd (a.longest n below b.front) | inr above ↦ absurd (b.longest m above a.front) ]
]

pub decodes_text : (bytes text : List ℕ) → Decodes bytes (Ok text) → (reading : Result (List ℕ) Refusal) → Decodes bytes reading → Ok text ≡ reading
decodes_text bytes text h (Ok other) g = ap Ok (h.0 ∙ sym g.0)
decodes_text bytes text h (Err refusal) g = absurd (text_or_not bytes refusal.offset h.1 g.1)

pub decodes_refused : (bytes : List ℕ) (refusal : Refusal) → Decodes bytes (Err refusal) → (reading : Result (List ℕ) Refusal) → Decodes bytes reading → Err refusal ≡ reading
decodes_refused bytes refusal h (Ok text) g = absurd (text_or_not bytes refusal.offset g.1 h.1)
decodes_refused bytes refusal h (Err other) g =
    let number : refusal.number ≡ other.number = h.0 ∙ sym g.0 in
    let offset : refusal.offset ≡ other.offset = one_front bytes refusal.offset other.offset h.1 g.1 in
    ap Err (ap (λ (n : ℕ). record { number = n; offset = refusal.offset }) number ∙ ap (λ (o : ℕ). record { number = other.number; offset = o }) offset)
