-- Turns that find memory.
use Rattle.std.proofs.Common.{◌≡◌, ℕ, true, false, Some, subst}
use Rattle.code_meaning.specs.Machine.{Next, Goes, after}
use Rattle.machine.specs.declared.configuration.Configuration.{Configuration}
use Rattle.machine.specs.declared.configuration.Limits.{Limits}
use Rattle.machine.specs.declared.configuration.Step.{Step}
use Rattle.machine.specs.declared.configuration.Step.TheVariants as said
use Rattle.machine.specs.Activations.{Activation, now_of, turn_of, HasTurned, SparesFor}
use Rattle.machine.specs.Memory.{HasMemory, RunSpares}
use Rattle.machine_parts.specs.Rooms.{FitsAtStart, IsEnough}
use Rattle.machine.specs.Seen.{Executable, codes_in, limits_in, configuration_of, room_of, goes}

pub has_turned : (last : Step) → HasMemory last → HasTurned (turn_of last)
has_turned said.Goes h = tt
has_turned said.Ends h = tt
has_turned said.Stuck h = tt
has_turned said.NoMemory h = h

module _ (e : Executable) (limits : Limits) (q : ℕ) (c : Configuration) (last : Step) (steps : ℕ) where
  abbrev at : Activation
  at = record { executable = e; limits = limits; now = now_of last c; steps = steps }

  -- what an activation spares, its run spares
  pub run_spares : goes last ≡ true → (FitsAtStart e.frame limits.depth → IsEnough e limits.depth (room_of c)) → (a : Activation) → a ≡ at → SparesFor q a → RunSpares e (limits_in e limits) q c
  run_spares going enough a is spares =
      let s : SparesFor q at = subst (SparesFor q) is spares in
      let same : Goes (configuration_of c) ≡ s.next = begins last going s.next s.stands in
      record {
        enough = enough s.fits;
        spares = λ k there less leads. s.spares k there less (subst (λ n. after (codes_in e) (limits_in e limits) k n ≡ Goes there) same leads);
      } where
        begins : (last : Step) → goes last ≡ true → (next : Next) → now_of last c ≡ Some next → Goes (configuration_of c) ≡ next
        begins said.Goes going next stands = cc
        begins said.Ends going next stands = absurd (cc)
        begins said.Stuck going next stands = absurd (cc)
        begins said.NoMemory going next stands = absurd (cc)

  -- one that has ended finds what it needs
  pub ended_turned : goes last ≡ false → (a : Activation) → a ≡ at → SparesFor q a → HasTurned (turn_of last)
  ended_turned none a is spares =
      let s : SparesFor q at = subst (SparesFor q) is spares in
      by_last last none s.next s.stands where
        by_last : (last : Step) → goes last ≡ false → (next : Next) → now_of last c ≡ Some next → HasTurned (turn_of last)
        by_last said.Goes none next stands = tt
        by_last said.Ends none next stands = tt
        by_last said.Stuck none next stands = tt
        by_last said.NoMemory none next stands = absurd (cc)
