use Rattle.script_engine.proofs.prelude.VerifiedPrelude.text.Goals as goal

pub returns : goal.returns
returns c = c.self.invariant
