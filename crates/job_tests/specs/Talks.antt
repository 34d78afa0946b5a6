-- Two conversations over lines: one tells each line its number, and how many there were; the other tells a line how many before it were
-- of its kind, as short or too long.
use Rattle.std.specs.Prelude.{◌≡◌, ℕ, ◌+◌, ◌-◌, ◌^◌, Bool, true, false, List, [], ◌∷◌, ◌++◌, min, codes}
use Rattle.std.specs.Fmt.{decimal}
use Rattle.outer_io.specs.Lines.{InputLine, Within, Beyond, Nothing}
use Rattle.line_run.specs.Replies.{Reply, Talk, no_reply}
use Rattle.job_tests.specs.declared.talks.KindCounts.{KindCounts}

-- one more, as far as 64 bits count
abbrev pub next : ℕ → ℕ
next n = min (n + 1) (2 ^ 64 - 1)

-- a number on a line of its own
abbrev pub number_reply : ℕ → Reply
number_reply n = record { bytes = decimal n ++ codes "\n"; error = false; steps = 0 }

-- ---- numbers

abbrev pub counted : ℕ → List InputLine → ℕ
counted n [] = n
counted n (line ∷ lines) = counted (next n) lines

abbrev pub numbers : Talk
numbers = record {
  says = λ before line reply. reply ≡ number_reply (next (counted 0 before));
  ends = λ lines reply. reply ≡ number_reply (counted 0 lines);
}

abbrev pub HeardSoMany : ℕ → List InputLine → Type 0
HeardSoMany n lines = n ≡ counted 0 lines

-- ---- kinds

abbrev pub is_short : InputLine → Bool
is_short (Within line) = true
is_short Beyond = false
is_short Nothing = false

abbrev pub with_line : Bool → InputLine → ℕ → ℕ
with_line true (Within line) n = next n
with_line true Beyond n = n
with_line true Nothing n = n
with_line false (Within line) n = n
with_line false Beyond n = next n
with_line false Nothing n = n

abbrev pub of_kind : Bool → ℕ → List InputLine → ℕ
of_kind short n [] = n
of_kind short n (line ∷ lines) = of_kind short (with_line short line n) lines

abbrev pub kinds : Talk
kinds = record {
  says = λ before line reply. reply ≡ number_reply (of_kind (is_short line) 0 before);
  ends = λ lines reply. reply ≡ no_reply;
}

abbrev pub HeardKinds : KindCounts → List InputLine → Type 0
HeardKinds counts lines = (counts.short ≡ of_kind true 0 lines) × (counts.long ≡ of_kind false 0 lines)
