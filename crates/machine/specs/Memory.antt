-- When a step takes no memory: what it does takes none, and there is room where words and frames lie.
use Rattle.std.specs.Prelude.{◌≡◌, ◌≤◌, ◌<◌, ◌+◌, ℕ, length, List, Option, Some, None, slice_get}
use Rattle.object_heap.specs.Store.{Store}
use Rattle.object_values.specs.declared.object.Object.{Object}
use Rattle.object_values.specs.declared.value.Value.{Value}
pub use Rattle.number_ops.specs.Outcomes.{IsAnswered}
use Rattle.pl_code.specs.declared.code.FunCode.{FunCode}
use Rattle.run_state.specs.World.{Limits}
use Rattle.code_meaning.specs.declared.word.Word.{Word}
use Rattle.code_meaning.specs.Machine.{Config, Goes, depth_of, after, code_in}
use Rattle.code_meaning.specs.Sizes.{IsWithin}
use Rattle.machine.specs.Sparing.{EqualSpares, Spares}
use Rattle.machine_parts.specs.Frames.{Laid}
use Rattle.machine_parts.specs.Rooms.{ArgumentsWithin, IsEnough}
use Rattle.machine.specs.Seen.{Executable, codes_in, configuration_of, room_of}
use Rattle.machine.specs.declared.configuration.Configuration.{Configuration}
use Rattle.machine.specs.declared.configuration.Step.{Step}
use Rattle.machine.specs.declared.configuration.Step.TheVariants as step
use Rattle.machine.specs.declared.references.Pairing.{Pairing}
use Rattle.machine.specs.declared.references.Pairing.TheVariants as pairing
use Rattle.machine.specs.declared.operators.Operated.{Operated}
use Rattle.machine.specs.declared.operators.Operated.TheVariants as operated
use Rattle.machine.specs.declared.operands.Copying.{Copying}
use Rattle.machine.specs.declared.operands.Copying.TheVariants as copying
use Rattle.object_values.specs.declared.object.Owner.{Owner}

-- the step was not given up for want of memory
abbrev pub HasMemory : Step → Type 0
HasMemory step.Goes = Unit {0}
HasMemory step.Ends = Unit {0}
HasMemory step.Stuck = Unit {0}
HasMemory step.NoMemory = ⊥

-- A step was given up for want of memory only where nothing was made: what was thrown once goes on.
abbrev pub OnlyToMake : Store → Store → Step → Type 0
OnlyToMake old new step.NoMemory = new ≡ old
OnlyToMake old new other = Unit {0}

-- nor was the copy
abbrev pub IsCopied : Copying → Type 0
IsCopied copying.Done = Unit {0}
IsCopied copying.Stuck = Unit {0}
IsCopied copying.NoMemory = ⊥

-- there is room for what an operator gives
abbrev pub HasRoom : Operated → Laid → Type 0
HasRoom operated.NoRow s = Unit {0}
HasRoom operated.ZeroDivisor s = Unit {0}
HasRoom (operated.Number number) s = s.count < s.words

-- there is room for what is returned
abbrev pub RoomFor : Option Word → Laid → Type 0
RoomFor None s = Unit {0}
RoomFor (Some word) s = s.count < s.words

-- what is asked of two references makes nothing, and throws nothing
abbrev pub PairSpares : Pairing → List Object → Value → Value → Type 0
PairSpares pairing.Concat objects a b = ⊥
PairSpares pairing.Equal objects a b = EqualSpares objects a b
PairSpares pairing.Same objects a b = Unit {0}

-- there is room for the frame of a function that is called, if the limit of depth allows it
abbrev pub CallFinds : ℕ → Option FunCode → Laid → Type 0
CallFinds depth None s = Unit {0}
CallFinds depth (Some g) s = (depth_of s.below < depth → s.count + length g.locals ≤ s.words) × (depth ≤ s.depth)

-- There is room for what an instruction puts on the words, for the frame of a call, and for what a member takes.
pub record HasSpace (e : Executable) (depth : ℕ) (c : Configuration) : Type 0 where
  pub words : c.frames.count + 2 ≤ c.frames.words
  pub calls : (text : Owner) (k : ℕ) → CallFinds depth (slice_get (code_in (codes_in e) text) k) c.frames
  pub taken : ArgumentsWithin e c.words.room
  pub values : ArgumentsWithin e c.values.room

-- The next instructions, so many at most, take no memory, in frames that are within what was taken at the start.
pub record RunSpares (e : Executable) (limits : Limits) (count : ℕ) (c : Configuration) : Type 0 where
  pub enough : IsEnough e limits.depth (room_of c)
  pub spares : (k : ℕ) (at : Config) → k < count → after (codes_in e) limits k (Goes (configuration_of c)) ≡ Goes at
      → Spares (codes_in e) limits at × IsWithin e.frame limits.depth (codes_in e) at
