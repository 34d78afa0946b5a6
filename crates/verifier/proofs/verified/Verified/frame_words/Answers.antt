use Rattle.std.proofs.Common.{subst}
use Rattle.verifier.specs.Verified.{FrameWords, LeastWords}
use Rattle.verifier.proofs.verified.Verified.frame_words.Goals as goal

pub returns-clause-words : goal.returns-clause-words
returns-clause-words c = subst (FrameWords c.self.inside.words) c.self.view_is c.self.invariant.1

pub returns-clause-least : goal.returns-clause-least
returns-clause-least c = subst (LeastWords c.self.inside.words) c.self.view_is c.self.invariant.2
