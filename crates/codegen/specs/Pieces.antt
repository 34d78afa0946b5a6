-- Pieces of code as lists of instructions.
use Rattle.std.specs.Prelude.{ℕ, List, [], ◌∷◌, Option, Some, None}
use Rattle.pl_code.specs.declared.code.Instruction.{Instruction}
use Rattle.pl_code.specs.declared.code.Instruction.TheVariants as i
use Rattle.pl_code.specs.declared.kinds.ArithmeticOp.{ArithmeticOp}
use Rattle.pl_code.specs.declared.kinds.Numbered.TheVariants as numbered
use Rattle.pl_code.specs.declared.kinds.Width.{Width}
use Rattle.compiler_relation.specs.Parts.{constant_code, text_code, default_code, operator_code, pops, kept_under, copies, kept_before, kept_behind, without_null}
use Rattle.compiler_relation.specs.Stands.{settled}
use Rattle.codegen.specs.Checks.{denoted}
use Rattle.codegen.specs.declared.pieces.Below.{Below}
use Rattle.codegen.specs.declared.pieces.Below.TheVariants as below
use Rattle.codegen.specs.declared.pieces.Piece.{Piece}
use Rattle.codegen.specs.declared.pieces.Piece.TheVariants as p

abbrev pub in_width : Option ArithmeticOp → Width → List Instruction
in_width None width = []
in_width (Some op) width = i.Arithmetic op width ∷ []

abbrev pub if_any : Option Instruction → List Instruction
if_any None = []
if_any (Some instruction) = instruction ∷ []

-- how many parts of a place lie below a value
abbrev pub parts_below : Below → ℕ
parts_below below.Nothing = 0
parts_below below.One = 1
parts_below below.Two = 2

abbrev pub piece : Piece → List Instruction
piece (p.Call number) = i.Numbered numbered.Call number ∷ []
piece (p.Operator operator) = operator_code operator
piece (p.Plain plain) = i.Plain plain ∷ []
piece (p.Int number) = i.Int number ∷ []
piece (p.Constant constant) = constant_code constant ∷ []
piece (p.Text text) = text_code text.now ∷ []
piece (p.Pop representation) = pops (denoted representation)
piece (p.WithoutNull representation) = without_null (denoted representation)
piece (p.Settled operator) = settled operator ∷ []
piece (p.Under below) = kept_under (parts_below below)
piece (p.Copies below) = copies (parts_below below)
piece (p.Before below gives) = kept_before (parts_below below) gives
piece (p.Behind below gives) = kept_behind (parts_below below) gives
piece (p.Default of) = default_code of.now
