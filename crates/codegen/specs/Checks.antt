-- How values are represented, as the code has it.
use Rattle.pl_code.specs.declared.kinds.Numbered.{Numbered}
use Rattle.pl_code.specs.declared.kinds.Numbered.TheVariants as numbered
use Rattle.typed_tree.specs.declared.operation.Logical.{Logical}
use Rattle.typed_tree.specs.declared.operation.Logical.TheVariants.{And, Or}
use Rattle.compiler_relation.specs.Representation.{Representation, Unboxed, Boxed, Absent}
use Rattle.codegen.specs.declared.representation.Representation as d
use Rattle.codegen.specs.declared.representation.Representation.TheVariants as v

-- the representation that a value of the code's type denotes
abbrev pub denoted : d.Representation → Representation
denoted v.Unboxed = Unboxed
denoted v.Boxed = Boxed
denoted v.Absent = Absent

-- the jump at the value of the left side that settles the whole
abbrev pub jump_of : Logical → Numbered
jump_of And = numbered.IfZero
jump_of Or = numbered.IfNotZero
