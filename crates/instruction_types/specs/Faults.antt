-- What can be wrong with a line whatever lies on the stack.
use Rattle.std.specs.Prelude.{ℕ, ◌==◌, ◌+◌, ◌-◌, ◌&&◌, ◌||◌, not, Bool, true, false, List, Option, Some, None, nat_lt, nat_le, is_some, length, slice_get}
use Rattle.std.specs.List.{list_all}
use Rattle.pl_code.specs.declared.kinds.Numbered.{Numbered}
use Rattle.pl_code.specs.declared.kinds.Numbered.TheVariants as numbered
use Rattle.pl_code.specs.declared.kinds.Sized.{Sized}
use Rattle.pl_code.specs.declared.kinds.Sized.TheVariants as sized
use Rattle.pl_code.specs.declared.kinds.Slot.{Slot}
use Rattle.pl_code.specs.declared.kinds.Slot.TheVariants.{R}
use Rattle.pl_code.specs.declared.code.FunCode.{FunCode}
use Rattle.pl_code.specs.declared.code.Trap.{Trap}
use Rattle.pl_code.specs.declared.code.Instruction.{Instruction}
use Rattle.pl_code.specs.declared.code.Instruction.TheVariants as code
use Rattle.allowlist.specs.Allow.{AllowList}
use Rattle.allowlist.specs.Index.{member_at}
use Rattle.instruction_types.specs.Types.{dimensions_of, catalogue_class, is_known_type, interface_method}
use Rattle.instruction_types.specs.Members.{method_of, constructor_of, field_of}
use Rattle.instruction_types.specs.declared.flow.Flow.{Flow}
use Rattle.instruction_types.specs.declared.flow.Flow.TheVariants as flow
use Rattle.instruction_types.specs.Effects.{flow_of}

-- ---- numbers out of range

abbrev pub is_reference : Slot → Bool
is_reference R = true
is_reference k = false

abbrev pub gives_reference : Option Slot → Bool
gives_reference (Some R) = true
gives_reference other = false

-- a function that may be a value: all that it takes and gives are references
unfoldable pub is_value_function : FunCode → Bool
is_value_function f = list_all is_reference f.params && gives_reference f.result

-- whether a function has beyond the given parameters others than the method of an interface takes
abbrev pub breaks_method : ℕ → Option ℕ → Bool
breaks_method others None = false
breaks_method others (Some method) = not (length (member_at method).params == others)

abbrev pub breaks_interface : ℕ → Option (List ℕ) → Bool
breaks_interface others None = false
breaks_interface others (Some interface) = breaks_method others (interface_method interface)

abbrev pub is_bad_lambda : Option (List ℕ) → ℕ → Option FunCode → Bool
is_bad_lambda interface given None = true
is_bad_lambda interface given (Some f) =
    not (is_value_function f) || nat_lt (length f.params) given || breaks_interface (length f.params - given) interface

abbrev pub numbered_out : List FunCode → FunCode → Numbered → ℕ → Bool
numbered_out functions f numbered.Load n = nat_le (length f.params + length f.locals) n
numbered_out functions f numbered.Store n = nat_le (length f.params + length f.locals) n
numbered_out functions f numbered.Goto n = nat_le (length f.lines) n
numbered_out functions f numbered.IfZero n = nat_le (length f.lines) n
numbered_out functions f numbered.IfNotZero n = nat_le (length f.lines) n
numbered_out functions f numbered.IfNull n = nat_le (length f.lines) n
numbered_out functions f numbered.Loop n = nat_le (length f.lines) n
numbered_out functions f numbered.List n = false
numbered_out functions f numbered.Map n = false
numbered_out functions f numbered.Call n = nat_le (length functions) n

abbrev pub sized_out : Sized → List ℕ → ℕ → Bool
sized_out sized.Filled ty n = false
sized_out sized.Empty ty n = (n == 0) || nat_lt (dimensions_of ty) n

unfoldable pub is_bad_target : List FunCode → FunCode → Instruction → Bool
is_bad_target functions f (code.Numbered numbered n) = numbered_out functions f numbered n
is_bad_target functions f (code.Sized s ty n) = sized_out s ty n
is_bad_target functions f (code.Lambda interface function given) = is_bad_lambda interface given (slice_get functions function)
is_bad_target functions f i = false

-- ---- members that the list lacks, and classes, types and interfaces that the catalogue lacks

abbrev pub is_unknown_interface : Option (List ℕ) → Bool
is_unknown_interface None = false
is_unknown_interface (Some interface) = not (is_some (interface_method interface))

unfoldable pub is_bad_member : AllowList → Instruction → Bool
is_bad_member allow (code.Cast ty way) = not (is_known_type ty)
is_bad_member allow (code.Typed t ty) = not (is_known_type ty)
is_bad_member allow (code.Sized s ty n) = not (is_known_type ty)
is_bad_member allow (code.Invoke m) = not (is_some (method_of allow m))
is_bad_member allow (code.New m) = not (is_some (constructor_of allow m))
is_bad_member allow (code.Field m) = not (is_some (field_of allow m))
is_bad_member allow (code.Lambda interface function given) = is_unknown_interface interface
is_bad_member allow (code.Ref interface ty word) = is_unknown_interface interface || not (is_some (catalogue_class ty))
is_bad_member allow (code.NewRef interface ty) = is_unknown_interface interface || not (is_known_type ty)
is_bad_member allow i = false

-- ---- jumps the wrong way

abbrev pub goes_wrong : ℕ → Flow → Bool
goes_wrong line flow.GoesOn = false
goes_wrong line (flow.Jumps to) = nat_le to line
goes_wrong line (flow.Branches to) = nat_le to line
goes_wrong line (flow.Turns to) = nat_lt line to
goes_wrong line flow.Ends = false

unfoldable pub is_bad_jump : ℕ → Instruction → Bool
is_bad_jump line i = goes_wrong line (flow_of i)

-- ---- traps

unfoldable pub is_bad_trap_target : ℕ → Trap → Bool
is_bad_trap_target lines t = nat_le lines t.from || nat_le lines t.to || nat_le lines t.at

unfoldable pub is_bad_trap_class : Trap → Bool
is_bad_trap_class t = not (is_some (catalogue_class t.class))

unfoldable pub is_bad_trap_order : Trap → Bool
is_bad_trap_order t = not (nat_lt t.from t.to && nat_le t.to t.at)
