-- Stages one after the other.
use Rattle.std.specs.Prelude.{◌≡◌, Result, Ok, Err}
use Rattle.pl_types.specs.declared.refusal.Refusal.{Refusal}

-- where a stage gives something, the next stage's answer; where it refuses, that refusal
abbrev pub GoesOn : {A B : Type 0} → (A → Result B Refusal → Type 0) → Result A Refusal → Result B Refusal → Type 0
GoesOn next (Ok given) answer = next given answer
GoesOn next (Err refusal) answer = answer ≡ Err refusal

-- the answer of two stages, one after the other
abbrev pub Then : {A B : Type 0} → (Result A Refusal → Type 0) → (A → Result B Refusal → Type 0) → Result B Refusal → Type 0
Then {A} first next answer = (reading : Result A Refusal) × first reading × GoesOn next reading answer
