-- Runs: what some instructions make of one, and how many there were.
use Rattle.std.specs.Prelude.{◌≡◌, ℕ}
use Rattle.run_state.specs.World.{Limits}
use Rattle.code_meaning.specs.Machine.{Goes, after, Codes}
pub use Rattle.machine_paths.specs.Steps.{CountsFit, steps_taken}
use Rattle.machine.specs.declared.configuration.Configuration.{Configuration}
use Rattle.machine.specs.declared.configuration.Step.{Step}
use Rattle.machine.specs.declared.configuration.Step.TheVariants as step
use Rattle.machine.specs.declared.running.Ran.{Ran}
use Rattle.machine.specs.Seen.{configuration_of, Comes}

-- so many steps were taken, or fewer to the end, unless there was no memory
abbrev pub RanTo : Codes → Limits → ℕ → Configuration → Step → ℕ → Configuration → Type 0
RanTo codes limits count old step.NoMemory steps new = Unit {0}
RanTo codes limits count old last steps new = Comes (after codes limits count (Goes (configuration_of old))) last new × (steps ≡ steps_taken codes limits count (Goes (configuration_of old)))

abbrev pub RanOn : Codes → Limits → ℕ → Configuration → Ran → Configuration → Type 0
RanOn codes limits count old ran new = RanTo codes limits count old ran.last ran.steps new
