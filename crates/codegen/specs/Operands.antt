-- How the parts of an operation, or of a place, have to be represented.
use Rattle.std.specs.Prelude.{◌≡◌, ℕ, List, length, map, Result, MatchResult}
use Rattle.typed_tree.specs.declared.typed.Typed.{Typed}
use Rattle.source_meaning.specs.Programs.{expr_of, exprs_of}
use Rattle.pl_types.specs.declared.ty.Ty.{Ty}
use Rattle.allowlist.specs.Allow.{AllowList}
use Rattle.typed_tree.specs.declared.operation.Operation.{Operation}
use Rattle.typed_tree.specs.declared.operation.Operator.{Operator}
use Rattle.typed_tree.specs.declared.operation.Operator.TheVariants as operator
use Rattle.source_meaning.specs.Tree.{Program}
use Rattle.program_typing.specs.Agreeing.{known, Applies, Writes}
use Rattle.compiler_relation.specs.Representation.{Representation, representation_of}
use Rattle.compiler_relation.specs.Stands.{Fitting, WriteFits, AreOneOrTwo, representations}
use Rattle.codegen.specs.Worklist.{Wanted as Kinds, Wants, wanted}
use Rattle.codegen.specs.declared.work_item.Wanted.{Wanted}
use Rattle.codegen.specs.declared.error.CodeError.{CodeError}
use Rattle.codegen.specs.declared.error.CodeError.TheVariants.{NoMemory}

-- So many parts that are represented as is wanted fit the operation, which gives a value of a type.
pub record OperandsFit (funs : Program) (does : Operation) (of : Ty) (count : ℕ) (w : Wanted) : Type 0 where
  pub by : (ks : List Representation) → length ks ≡ count → Wants (wanted 0 w) ks → Fitting funs does ks of

-- Parts of a well-formed program, of which there are so many, are represented as is wanted; nothing but memory is lacking to tell.
pub record AreOperands (funs : Program) (does : Operation) (of : Ty) (count : ℕ) (result : Result Wanted CodeError) : Type 0 where
  pub by :
      (allow : AllowList) (ofs : List Ty) → length ofs ≡ count → Applies (known allow funs) does ofs of
      → MatchResult result (λ w. Wants (wanted 0 w) (map representation_of ofs)) (λ e. e ≡ NoMemory)

-- the same of a place at which an operation writes a value of a type
pub record PlaceWanted (does : Operation) (of : Ty) (w : Wanted) : Type 0 where
  pub by : (ks : List Representation) → Wants (wanted 0 w) ks → WriteFits does ks of

pub record ArePlace (funs : Program) (does : Operation) (of : Ty) (result : Result Wanted CodeError) : Type 0 where
  pub by :
      (allow : AllowList) (ofs : List Ty) → Writes (known allow funs) does ofs of
      → MatchResult result (λ w. Wants (wanted 0 w) (map representation_of ofs)) (λ e. e ≡ NoMemory)

abbrev pub representations_of : List Typed → List Representation
representations_of parts = representations (exprs_of (map expr_of parts))

-- so many parts are one or two, and represented as is wanted
pub record Lies (ks : List Representation) (kinds : Kinds) (count : ℕ) : Type 0 where
  pub few : AreOneOrTwo ks
  pub wants : Wants kinds ks
  pub many : count ≡ length ks

-- an operator takes operands that are represented alike, whatever its node's type
abbrev pub IsAlike : Operator → Type 0
IsAlike operator.ArrayOf = ⊥
IsAlike operator.Element = ⊥
IsAlike operator.PutElement = ⊥
IsAlike other = Unit {0}
