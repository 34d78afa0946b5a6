-- No frame of verified code has more words than the verifier has found.
use Rattle.std.proofs.Common.{◌≡◌, ℕ, ◌+◌, ◌≤◌, List, [], ◌∷◌, ◌++◌, length, Option, Some, refl, ap, ◌∙◌, arith, length-append}
use Rattle.std.specs.Prelude.{slice_get}
use Rattle.std.proofs.lemmas.List.{length-map}
use Rattle.pl_types.specs.declared.ty.Ty.{Ty}
use Rattle.object_values.specs.declared.object.Owner.{Owner}
use Rattle.pl_code.specs.declared.kinds.Slot.{Slot}
use Rattle.pl_code.specs.declared.code.FunCode.{FunCode}
use Rattle.instruction_types.specs.Effects.{result_kinds}
use Rattle.verifier.specs.Fits.{FrameKinds, FitsLine, Awaits, at_with}
use Rattle.run_state.specs.World.{Limits, allowed_in}
use Rattle.code_meaning.specs.declared.word.Word.{Word}
use Rattle.code_meaning.specs.Machine.{Codes, Frame, Config, code_in}
use Rattle.code_meaning.specs.Sizes.{frame_words, AreWithin, IsWithin}
use Rattle.verifier_soundness.specs.Fits.{AreWellShaped, kind_of, kinds_of, frame_kinds, FrameFits, kind_behind, BelowFits, FitsConfig}
use Rattle.verifier_soundness.specs.Laws.{AllFrameWords, FramesAreWithin}
use Rattle.verifier_soundness.proofs.Standing.{begins_fit}
use Rattle.verifier_soundness.proofs.Runs.{all_well_shaped}

kinds_many : (words : List Word) → length (kinds_of words) ≡ length words
kinds_many words = length-map words kind_of

module _ (codes : Codes) (limits : Limits) (most : ℕ) (words : AllFrameWords most codes limits) where
  -- what fits a line of a text has so many kinds at most
  kinds_within : (text : Owner) (g : FunCode) (frame : FrameKinds) → FitsLine (allowed_in limits text) (code_in codes text) g frame → length frame.locals + length frame.stack ≤ most
  kinds_within text g frame fits =
      let b : length g.params + length g.locals + length frame.stack ≤ most = words text frame.function g frame.line frame.stack fits.is fits.within fits.stack in
      let l : length frame.locals ≡ length g.params + length g.locals = ap length fits.locals ∙ length-append g.params g.locals in
      omega (arith, b, l)

  top_within : (g : FunCode) (f : Frame) → FrameFits codes limits g f → frame_words f ≤ most
  top_within g f fits =
      let b : length (kinds_of f.locals) + length (kinds_of f.stack) ≤ most = kinds_within f.text g (frame_kinds f) fits in
      omega (arith, b, kinds_many f.locals, kinds_many f.stack)

  -- a frame that waits has no more than with what it waits for
  waiting_within : (g : FunCode) (f : Frame) (kind : Option Slot) → Awaits (allowed_in limits f.text) (code_in codes f.text) g (frame_kinds f) kind → frame_words f ≤ most
  waiting_within g f kind fits =
      let b : length (kinds_of f.locals) + length (result_kinds kind ++ kinds_of f.stack) ≤ most =
      kinds_within f.text g (at_with (frame_kinds f) (f.line + 1) (result_kinds kind ++ kinds_of f.stack)) fits in
      omega (arith, b, length-append (result_kinds kind) (kinds_of f.stack), kinds_many f.locals, kinds_many f.stack)

  below_within : (fs : List Frame) (text : Owner) (due : List Ty) (result : Option Slot) → BelowFits codes limits fs text due result → AreWithin most fs
  below_within [] text due result fits = tt
  below_within (f ∷ fs) text due result fits = (waiting_within fits.0 f (kind_behind due result) fits.1, below_within fs f.text f.due fits.0.result fits.3)

  -- each function has a line, where its locals count
  locals_within : AreWellShaped codes limits → (text : Owner) (k : ℕ) (g : FunCode) → slice_get (code_in codes text) k ≡ Some g → length g.locals ≤ most
  locals_within well text k g is =
      let fits = begins_fit (allowed_in limits text) (code_in codes text) g k (g.params ++ g.locals) ((well text).each k g is) is refl in
      let b : length (g.params ++ g.locals) + 0 ≤ most = kinds_within text g (record { function = k; line = 0; locals = g.params ++ g.locals; stack = [] }) fits in
      omega (arith, b, length-append g.params g.locals)

  pub is_within : (at : Config) → AreWellShaped codes limits → FitsConfig codes limits at → IsWithin most limits.depth codes at
  is_within at well fits =
      record {
        frames = (top_within fits.function at.top fits.top, below_within at.below at.top.text at.top.due fits.function.result fits.below);
        below = fits.within;
        locals = locals_within well;
      }

pub frames_are_within : FramesAreWithin
frames_are_within codes limits most at sound words fits = is_within codes limits most words at (all_well_shaped codes limits sound) fits
