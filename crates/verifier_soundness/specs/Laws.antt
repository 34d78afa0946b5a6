-- What holds of every run of verified code whose instructions have rows, with any host.
use Rattle.std.specs.Prelude.{◌≡◌, ℕ, false, List, [], ◌∷◌, map, Some, slice_get}
use Rattle.object_values.specs.declared.object.Owner.{Owner}
use Rattle.pl_code.specs.declared.code.FunCode.{FunCode}
use Rattle.pl_code.specs.declared.code.Instruction.{Instruction}
use Rattle.verifier.specs.Fits.{FitBelow}
use Rattle.verifier.specs.Verified.{CodeUnder, IsSound, FrameWords}
use Rattle.run_state.specs.World.{World, Limits, allowed_in}
use Rattle.code_meaning.specs.declared.word.Word.{Word}
use Rattle.code_meaning.specs.Machine.{Codes, Frame, Config, Next, Goes, Stuck, code_in, start, act, after}
use Rattle.code_meaning.specs.Sizes.{IsWithin}
use Rattle.verifier_soundness.specs.Rows.{has_row, names_member, HaveRows}
use Rattle.verifier_soundness.specs.Fits.{kinds_of, frame_kinds, ReachesAllowed, FitsConfig, FitsNext}
use Rattle.verifier_soundness.specs.Bounds.{most_steps, EndsWithin}

-- the code of a text of a run, and the list of the members that the text may call
abbrev pub text_under : Codes → Limits → Owner → CodeUnder
text_under codes limits text = record { code = record { functions = code_in codes text }; allow = allowed_in limits text }

-- the code of each text breaks nowhere under its list,
abbrev pub AreSound : Codes → Limits → Type 0
AreSound codes limits = (text : Owner) → IsSound (text_under codes limits text)

-- .. each of its instructions has a row there,
abbrev pub AllHaveRows : Codes → Limits → Type 0
AllHaveRows codes limits = (text : Owner) → HaveRows (allowed_in limits text) (code_in codes text)

-- .. and at each of its lines a frame has so many words at most.
abbrev pub AllFrameWords : ℕ → Codes → Limits → Type 0
AllFrameWords most codes limits = (text : Owner) → FrameWords most (text_under codes limits text)

-- Where a run begins on words of the kinds of function 0's parameters it fits, where no members but of the script's list were reached
-- before.
abbrev pub StartsFit : Type 0
StartsFit =
    (codes : Codes) (limits : Limits) (f : FunCode) (words : List Word) (w : World) → AreSound codes limits → slice_get codes.script 0 ≡ Some f → kinds_of words ≡ f.params
    → ReachesAllowed limits.ground.allowed w → FitsNext codes limits (start codes words w)

-- A run that fits goes on fitting, however many steps it takes, until it ends: it is never stuck, and reaches members of the script's list
-- alone.
abbrev pub NeverStuck : Type 0
NeverStuck =
    (codes : Codes) (limits : Limits) (from : Next) (steps : ℕ) → AreSound codes limits → AllHaveRows codes limits → FitsNext codes limits from
    → FitsNext codes limits (after codes limits steps from)

-- A run that fits ends: within a bound that the ticks that are left, the limit of depth and the longest function give.
abbrev pub RunsEnd : Type 0
RunsEnd =
    (codes : Codes) (limits : Limits) (from : Config) → AreSound codes limits → AllHaveRows codes limits → FitsConfig codes limits from
    → EndsWithin codes limits (most_steps codes limits from.world.ticks) (Goes from)

-- So a run of function 0 on words of its parameters' kinds ends, within that bound.
abbrev pub StartsEnd : Type 0
StartsEnd =
    (codes : Codes) (limits : Limits) (f : FunCode) (words : List Word) (w : World) → AreSound codes limits → AllHaveRows codes limits → slice_get codes.script 0 ≡ Some f
    → kinds_of words ≡ f.params → ReachesAllowed limits.ground.allowed w → EndsWithin codes limits (most_steps codes limits w.ticks) (start codes words w)

-- all of these frames stand in a text, and no cast is due when they return
abbrev pub StandIn : Owner → List Frame → Type 0
StandIn text [] = Unit {0}
StandIn text (f ∷ fs) = (f.text ≡ text) × (f.due ≡ []) × StandIn text fs

-- Where all frames of a configuration that fits do, those below the top are such that verified code goes on with them.
abbrev pub FramesFit : Type 0
FramesFit =
    (codes : Codes) (limits : Limits) (text : Owner) (c : Config) (fits : FitsConfig codes limits c) → StandIn text (c.top ∷ c.below)
    → FitBelow (allowed_in limits text) (code_in codes text) (map frame_kinds c.below) fits.function.result

-- A configuration that fits is within what the verifier has found.
abbrev pub FramesAreWithin : Type 0
FramesAreWithin =
    (codes : Codes) (limits : Limits) (most : ℕ) (at : Config) → AreSound codes limits → AllFrameWords most codes limits → FitsConfig codes limits at
    → IsWithin most limits.depth codes at

-- What has no row is stuck wherever it stands: the rows that are listed are all. Of a member of the list this is not said: the call of one
-- that has no row may throw, since its receiver is null, or end for want of ticks, before what the member does is asked.
abbrev pub NoOtherRows : Type 0
NoOtherRows =
    (codes : Codes) (limits : Limits) (instruction : Instruction) (f : Frame) (below : List Frame) (w : World)
    → has_row (allowed_in limits f.text) instruction ≡ false → names_member (allowed_in limits f.text) instruction ≡ false → act codes limits instruction f below w ≡ Stuck
