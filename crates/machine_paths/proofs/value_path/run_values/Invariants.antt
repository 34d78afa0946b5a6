use Rattle.std.proofs.Common.{◌≡◌, ◌∷◌, ℕ, List, Some}
use Rattle.object_heap.specs.Store.{Store}
use Rattle.run_state.specs.World.{Limits}
use Rattle.code_meaning.specs.Machine.{function_of}
use Rattle.machine_paths.specs.Fast.{KeepsRoom, Leads, placed}
use Rattle.machine_paths.specs.Steps.{TurnsFit}
use Rattle.machine_parts.specs.Code.{codes_in}
use Rattle.machine_paths.proofs.value_path.run_values.Given as goal

-- so many instructions led here, to this function, with memory for as much as before
abbrev pub invariant-instructions : goal.invariant-instructions
invariant-instructions l = record {
  leads : (limits : Limits) (store : Store) (reached : List ℕ) → limits.loop ≡ l.fn.loops → limits.depth ≡ l.fn.depth
      → Leads (codes_in l.fn.executable) limits l.taken (placed l.initial.frames store l.initial.ticks reached) (placed l.frames store l.ticks reached);
  keeps : KeepsRoom l.initial.frames l.frames;
  counts : TurnsFit l.ticks (l.frames.top ∷ l.frames.below);
  found : function_of (codes_in l.fn.executable) l.frames.top ≡ Some l.function;
}
