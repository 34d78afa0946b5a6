-- When a moment of a run of code fits. It is said of a run that began with some objects, by the rules of a program or of a code.
use Rattle.std.specs.Prelude.{ℕ, List, [], ◌∷◌, Option, Some, None}
use Rattle.object_values.specs.declared.object.Object.{Object}
use Rattle.object_heap.specs.Fits.{Rules, ValueFits}
use Rattle.run_fit.specs.Worlds.{WorldFits, count_in, EndFits}
use Rattle.code_meaning.specs.declared.word.Word.{Word}
use Rattle.code_meaning.specs.declared.word.Word.TheVariants.{I, J, R}
use Rattle.code_meaning.specs.Machine.{Frame, Config, Next, Goes, Ends, Stuck}

-- a reference is below the number of objects
abbrev pub WordFits : ℕ → Word → Type 0
WordFits count (I a) = Unit {0}
WordFits count (J a) = Unit {0}
WordFits count (R value) = ValueFits count value

abbrev pub WordsFit : ℕ → List Word → Type 0
WordsFit count [] = Unit {0}
WordsFit count (word ∷ words) = WordFits count word × WordsFit count words

-- locals and operands
abbrev pub FrameFits : ℕ → Frame → Type 0
FrameFits count f = WordsFit count f.locals × WordsFit count f.stack

abbrev pub FramesFit : ℕ → List Frame → Type 0
FramesFit count [] = Unit {0}
FramesFit count (f ∷ fs) = FrameFits count f × FramesFit count fs

pub record ConfigFits (rules : Rules) (before : List Object) (c : Config) : Type 0 where
  pub world : WorldFits rules before c.world
  pub frames : FramesFit (count_in c.world) (c.top ∷ c.below)

abbrev pub ResultFits : ℕ → Option Word → Type 0
ResultFits count None = Unit {0}
ResultFits count (Some word) = WordFits count word

-- a moment of the run; that it is never stuck is said elsewhere
abbrev pub NextFits : Rules → List Object → Next → Type 0
NextFits rules before (Goes c) = ConfigFits rules before c
NextFits rules before (Ends end) = EndFits ResultFits rules before end
NextFits rules before Stuck = Unit {0}
