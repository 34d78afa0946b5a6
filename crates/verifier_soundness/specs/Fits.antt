-- What fits verified code: configurations whose frames hold, at their lines, words of the kinds that the code of their text was verified for.
use Rattle.std.specs.List.{list_all}
use Rattle.std.specs.Prelude.{◌≡◌, ◌≤◌, true, List, [], ◌∷◌, map, Option, Some, None, option_map}
use Rattle.pl_types.specs.declared.ty.Ty.{Ty, out-Ty}
use Rattle.pl_types.specs.declared.ty.Ty.TheOpen.{Ty-F}
use Rattle.pl_code.specs.declared.kinds.Slot.{Slot}
use Rattle.pl_code.specs.declared.kinds.Slot.TheVariants as slot
use Rattle.pl_code.specs.declared.code.FunCode.{FunCode}
use Rattle.allowlist.specs.Allow.{AllowList, flag}
use Rattle.instruction_types.specs.Types.{kind_of_layer}
use Rattle.verifier.specs.Fits.{FrameKinds, FitsLine, Awaits}
use Rattle.verifier.specs.Shaped.{IsWellShapedCode}
use Rattle.run_state.specs.World.{World, Limits, End, Result, Uncaught, Limited, allowed_in}
use Rattle.code_meaning.specs.declared.word.Word.{Word}
use Rattle.code_meaning.specs.declared.word.Word.TheVariants.{I, J, R}
use Rattle.code_meaning.specs.Machine.{Codes, Frame, Config, Next, Goes, Ends, Stuck, code_in, depth_of}
use Rattle.object_values.specs.declared.object.Owner.{Owner}
use Rattle.object_values.specs.declared.object.Owner.TheVariants.{Script}

abbrev pub kind_of : Word → Slot
kind_of (I a) = slot.I
kind_of (J a) = slot.J
kind_of (R value) = slot.R

abbrev pub kinds_of : List Word → List Slot
kinds_of words = map kind_of words

abbrev pub frame_kinds : Frame → FrameKinds
frame_kinds f = record { function = f.fun; line = f.line; locals = kinds_of f.locals; stack = kinds_of f.stack }

-- the kinds of what function 0 takes
abbrev pub main_params : List FunCode → List Slot
main_params [] = []
main_params (f ∷ fs) = f.params

-- what the code gives: the result of function 0
abbrev pub main_result : List FunCode → Option Slot
main_result [] = None
main_result (f ∷ fs) = f.result

-- each member that was reached is one of the list
abbrev pub ReachesAllowed : AllowList → World → Type 0
ReachesAllowed allow w = list_all (flag allow.members) w.reached ≡ true

-- ---- casts that are due

-- the kind of the word that a function of a type gives; none of void
abbrev pub given_kind_layer : Ty-F Ty → Option Slot
given_kind_layer Ty-F.Void = None
given_kind_layer layer = Some (kind_of_layer layer)

abbrev pub given_kind : Ty → Option Slot
given_kind of = given_kind_layer (out-Ty of)

-- What a function gives may be cast from the type that is due first.
abbrev pub DueFits : List Ty → Option Slot → Type 0
DueFits [] result = Unit {0}
DueFits (from ∷ tos) result = result ≡ given_kind from

-- the kind of what the frame below then takes on its stack: of what is cast a reference, and else what the function gives
abbrev pub kind_behind : List Ty → Option Slot → Option Slot
kind_behind [] result = result
kind_behind (from ∷ tos) result = Some slot.R

-- the code of each text is well shaped under the list of the members that the text may call
abbrev pub AreWellShaped : Codes → Limits → Type 0
AreWellShaped codes limits = (text : Owner) → IsWellShapedCode (allowed_in limits text) (code_in codes text)

module _ (codes : Codes) (limits : Limits) where
  -- a frame holds what its function, of the code of its text, has at its line under the list of that text
  abbrev pub FrameFits : FunCode → Frame → Type 0
  FrameFits function f = FitsLine (allowed_in limits f.text) (code_in codes f.text) function (frame_kinds f)

  -- The frames below one of a text that gives this, with the casts that are then due: each waits, at the line at which it called, for what
  -- the one above it gives, as it is cast. The lowest is of the script's text, and gives what the script's code gives, as it is.
  abbrev pub BelowFits : List Frame → Owner → List Ty → Option Slot → Type 0
  BelowFits [] text due result = (text ≡ Script) × (due ≡ []) × (result ≡ main_result codes.script)
  BelowFits (f ∷ fs) text due result =
      (g : FunCode) × Awaits (allowed_in limits f.text) (code_in codes f.text) g (frame_kinds f) (kind_behind due result) × DueFits due result × BelowFits fs f.text f.due g.result

  -- A configuration fits: its frames do, and are no more than the limit of depth allows, and members of the script's list alone were
  -- reached.
  pub record FitsConfig (c : Config) : Type 0 where
    pub function : FunCode
    pub top : FrameFits function c.top
    pub below : BelowFits c.below c.top.text c.top.due function.result
    pub within : depth_of c.below ≤ limits.depth
    pub reached : ReachesAllowed limits.ground.allowed c.world

  -- an end fits where its result is what the script's code gives, and members of the script's list alone were reached
  abbrev pub FitsEnd : End (Option Word) → Type 0
  FitsEnd (Result result w) = (option_map kind_of result ≡ main_result codes.script) × ReachesAllowed limits.ground.allowed w
  FitsEnd (Uncaught id place w) = ReachesAllowed limits.ground.allowed w
  FitsEnd (Limited limit place w) = ReachesAllowed limits.ground.allowed w

  -- What comes of a step fits: nothing that is stuck does.
  abbrev pub FitsNext : Next → Type 0
  FitsNext (Goes c) = FitsConfig c
  FitsNext (Ends r) = FitsEnd r
  FitsNext Stuck = ⊥
