-- Lines whose jumps name labels.
use Rattle.std.specs.Prelude.{ℕ, List, Option, Some, None, slice_get}
use Rattle.pl_code.specs.declared.code.Instruction.{Instruction}
use Rattle.pl_code.specs.declared.code.Instruction.TheVariants as i
use Rattle.codegen.specs.declared.labels.Line.{Line}
use Rattle.codegen.specs.declared.labels.Line.TheVariants.{Fixed, Jump}

-- the line of a label that is looked up
abbrev pub bound : Option (Option ℕ) → Option ℕ
bound None = None
bound (Some line) = line

abbrev pub or_first : Option ℕ → ℕ
or_first None = 0
or_first (Some line) = line

-- the line to which a label's jumps go
abbrev pub line_of : List (Option ℕ) → ℕ → ℕ
line_of labels label = or_first (bound (slice_get labels label))

-- a line's instruction
abbrev pub settled_line : List (Option ℕ) → Line → Instruction
settled_line labels (Fixed instruction) = instruction
settled_line labels (Jump kind label) = i.Numbered kind (line_of labels label)
