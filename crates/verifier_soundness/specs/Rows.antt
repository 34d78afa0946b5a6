-- Which instructions have a row: the others are Stuck wherever they stand. Each row that is built is listed here.
use Rattle.std.specs.Prelude.{◌≡◌, ℕ, Option, None, Bool, true, false, List, Some, is_some, slice_get}
use Rattle.std.specs.List.{list_all}
use Rattle.pl_types.specs.Texts.{type_of_full}
use Rattle.allowlist.specs.Allow.{AllowList}
use Rattle.instruction_types.specs.Members.{method_of, constructor_of, field_of}
use Rattle.member_calls.specs.Members.{is_built}
use Rattle.pl_code.specs.declared.code.FunCode.{FunCode}
use Rattle.pl_code.specs.declared.code.Instruction.{Instruction}
use Rattle.pl_code.specs.declared.code.Instruction.TheVariants as i

-- a member has a row where it is built
abbrev pub member_has_row : Option ℕ → Bool
member_has_row None = false
member_has_row (Some number) = is_built number

-- Under a list of the members that are allowed: all have a row but those that make function values. What a cast, a test of instances, or
-- an array names is a type in full.
abbrev pub has_row : AllowList → Instruction → Bool
has_row allow (i.Plain p) = true
has_row allow (i.Arithmetic o width) = true
has_row allow (i.Dynamic o) = true
has_row allow (i.Int a) = true
has_row allow (i.Long a) = true
has_row allow (i.Numbered n k) = true
has_row allow (i.Boxing p) = true
has_row allow (i.Unboxing p way) = true
has_row allow (i.Quoted q text) = true
has_row allow (i.Typed t of) = is_some (type_of_full of)
has_row allow (i.Sized s of n) = is_some (type_of_full of)
has_row allow (i.Cast to way) = is_some (type_of_full to)
has_row allow (i.DefCall name n) = true
has_row allow (i.Invoke method) = member_has_row (method_of allow method)
has_row allow (i.New constructor) = member_has_row (constructor_of allow constructor)
has_row allow (i.Field field) = member_has_row (field_of allow field)
has_row allow (i.Lambda interface function n) = false
has_row allow (i.Ref interface of name) = false
has_row allow (i.NewRef interface of) = false

-- whether an instruction names a member of the list, with a row or without
abbrev pub names_member : AllowList → Instruction → Bool
names_member allow (i.Invoke method) = is_some (method_of allow method)
names_member allow (i.New constructor) = is_some (constructor_of allow constructor)
names_member allow (i.Field field) = is_some (field_of allow field)
names_member allow other = false

abbrev pub function_has_rows : AllowList → FunCode → Bool
function_has_rows allow f = list_all (has_row allow) f.lines

-- each instruction of code has a row
pub record HaveRows (allow : AllowList) (code : List FunCode) : Type 0 where
  pub each :
      (function line : ℕ) (f : FunCode) (instruction : Instruction) → slice_get code function ≡ Some f → slice_get f.lines line ≡ Some instruction
      → has_row allow instruction ≡ true
