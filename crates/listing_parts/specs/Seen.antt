-- What readers of a text give, without where it lies in memory.
use Rattle.std.specs.Prelude.{ℕ, List}
use Rattle.std.specs.Borrow.{Bor}

abbrev pub seen_pair : Bor (List ℕ) × Bor (List ℕ) → List ℕ × List ℕ
seen_pair p = (p.0.now, p.1.now)

abbrev pub seen_byte : ℕ × Bor (List ℕ) → ℕ × List ℕ
seen_byte p = (p.0, p.1.now)
