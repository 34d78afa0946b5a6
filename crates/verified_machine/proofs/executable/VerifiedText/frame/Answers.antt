use Rattle.std.proofs.Common.{subst}
use Rattle.verifier.specs.Verified.{FrameWords, IsSound}
use Rattle.verifier_soundness.specs.Rows.{HaveRows}
use Rattle.verified_machine.specs.Tasks.{ReadyText, code_under}
use Rattle.verified_machine.proofs.executable.VerifiedText.frame.Goals as goal

pub returns-clause-words : goal.returns-clause-words
returns-clause-words c = subst (λ (t : ReadyText). FrameWords c.self.inside.frame (code_under t.text)) c.self.view_is c.self.invariant.1

pub returns-clause-sound : goal.returns-clause-sound
returns-clause-sound c = subst (λ (t : ReadyText). IsSound (code_under t.text)) c.self.view_is c.self.invariant.0

pub returns-clause-rows : goal.returns-clause-rows
returns-clause-rows c = subst (λ (t : ReadyText). HaveRows t.text.allow t.text.code.functions) c.self.view_is c.self.invariant.2
