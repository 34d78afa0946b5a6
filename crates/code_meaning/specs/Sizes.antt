-- How many words frames have.
use Rattle.std.specs.Prelude.{◌≡◌, ◌≤◌, ◌+◌, ℕ, length, List, [], ◌∷◌, Some, slice_get}
use Rattle.pl_code.specs.declared.code.FunCode.{FunCode}
use Rattle.object_values.specs.declared.object.Owner.{Owner}
use Rattle.code_meaning.specs.Machine.{Codes, code_in, Frame, Config, depth_of}

abbrev pub frame_words : Frame → ℕ
frame_words f = length f.locals + length f.stack

abbrev pub words_in : List Frame → ℕ
words_in [] = 0
words_in (f ∷ fs) = words_in fs + frame_words f

-- each frame has so many words at most
abbrev pub AreWithin : ℕ → List Frame → Type 0
AreWithin most [] = Unit {0}
AreWithin most (f ∷ fs) = (frame_words f ≤ most) × AreWithin most fs

-- a configuration has so many frames below the newest one at most, each with so many words at most, and no function has more locals
pub record IsWithin (most depth : ℕ) (codes : Codes) (c : Config) : Type 0 where
  pub frames : AreWithin most (c.top ∷ c.below)
  pub below : depth_of c.below ≤ depth
  pub locals : (text : Owner) (k : ℕ) (g : FunCode) → slice_get (code_in codes text) k ≡ Some g → length g.locals ≤ most
