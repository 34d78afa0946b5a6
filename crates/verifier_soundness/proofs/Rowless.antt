-- What has no row is stuck.
use Rattle.std.proofs.Common.{◌≡◌, ℕ, false, List, Option, Some, None, refl, sym}
use Rattle.std.specs.Prelude.{is_some}
use Rattle.std.proofs.lemmas.Bool.{false≢true}
use Rattle.pl_types.specs.declared.ty.Ty.{Ty}
use Rattle.pl_types.specs.Texts.{type_of_full}
use Rattle.pl_code.specs.declared.code.Instruction.TheVariants as i
use Rattle.allowlist.specs.Allow.{AllowList}
use Rattle.instruction_types.specs.Members.{method_of, constructor_of, field_of}
use Rattle.run_state.specs.World.{World, Limits, allowed_in}
use Rattle.code_meaning.specs.Machine.{Frame, Next, Stuck, on_type, is_written, typed_act, sized_act, cast_act, member_act, Codes}
use Rattle.verifier_soundness.specs.Laws.{NoOtherRows}

-- what names no type is stuck
type_stuck : (o : Option Ty) (next : Ty → Next) → is_some o ≡ false → on_type o next ≡ Stuck
type_stuck None next none = refl
type_stuck (Some of) next none = absurd (false≢true (sym none))

member_stuck : (codes : Codes) (limits : Limits) (allow : AllowList) (o : Option ℕ) (f : Frame) (below : List Frame) (w : World) → is_some o ≡ false → member_act codes limits allow o f below w ≡ Stuck
member_stuck codes limits allow None f below w unnamed = refl
member_stuck codes limits allow (Some number) f below w unnamed = absurd (false≢true (sym unnamed))

pub no_other_rows : NoOtherRows
no_other_rows codes limits (i.Plain p) f below w none unnamed = absurd (false≢true (sym none))
no_other_rows codes limits (i.Arithmetic o width) f below w none unnamed = absurd (false≢true (sym none))
no_other_rows codes limits (i.Int a) f below w none unnamed = absurd (false≢true (sym none))
no_other_rows codes limits (i.Long a) f below w none unnamed = absurd (false≢true (sym none))
no_other_rows codes limits (i.Numbered n k) f below w none unnamed = absurd (false≢true (sym none))
no_other_rows codes limits (i.Boxing p) f below w none unnamed = absurd (false≢true (sym none))
no_other_rows codes limits (i.Unboxing p way) f below w none unnamed = absurd (false≢true (sym none))
no_other_rows codes limits (i.Dynamic o) f below w none unnamed = absurd (false≢true (sym none))
no_other_rows codes limits (i.Quoted q text) f below w none unnamed = absurd (false≢true (sym none))
no_other_rows codes limits (i.Cast to way) f below w none unnamed = type_stuck (type_of_full to) (λ to. cast_act codes limits to (is_written way) f below w) none
no_other_rows codes limits (i.Typed t of) f below w none unnamed = type_stuck (type_of_full of) (λ of. typed_act codes limits t of f below w) none
no_other_rows codes limits (i.Sized s of n) f below w none unnamed = type_stuck (type_of_full of) (λ of. sized_act codes limits s of n f below w) none
no_other_rows codes limits (i.DefCall word n) f below w none unnamed = absurd (false≢true (sym none))
no_other_rows codes limits (i.Invoke m) f below w none unnamed = member_stuck codes limits (allowed_in limits f.text) (method_of (allowed_in limits f.text) m) f below w unnamed
no_other_rows codes limits (i.New m) f below w none unnamed = member_stuck codes limits (allowed_in limits f.text) (constructor_of (allowed_in limits f.text) m) f below w unnamed
no_other_rows codes limits (i.Field m) f below w none unnamed = member_stuck codes limits (allowed_in limits f.text) (field_of (allowed_in limits f.text) m) f below w unnamed
no_other_rows codes limits (i.Lambda interface k n) f below w none unnamed = refl
no_other_rows codes limits (i.Ref interface of word) f below w none unnamed = refl
no_other_rows codes limits (i.NewRef interface of) f below w none unnamed = refl
