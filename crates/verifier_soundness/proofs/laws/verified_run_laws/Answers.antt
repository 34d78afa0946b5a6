use Rattle.verifier_soundness.proofs.Runs.{all_starts_fit, never_stuck, runs_end, starts_end, frames_fit}
use Rattle.verifier_soundness.proofs.Sizes.{frames_are_within}
use Rattle.verifier_soundness.proofs.Rowless.{no_other_rows}
use Rattle.verifier_soundness.proofs.laws.verified_run_laws.Goals as goal

pub returns : goal.returns
returns c = record { starts = all_starts_fit; never_stuck = never_stuck; ends = runs_end; starts_end = starts_end; frames = frames_fit; within = frames_are_within; no_other_rows = no_other_rows }
