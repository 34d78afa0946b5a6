use Rattle.std.proofs.Common.{◌+◌, ◌-◌, ap, ◌∙◌, arith, rules}
use Rattle.code_meaning.specs.Machine.{take_words}
use Rattle.machine.proofs.Taking.{one_more, twice}
use Rattle.machine.proofs.members.take_words.Goals as goal

pub words-preserved : goal.words-preserved
words-preserved c = (
  ap (λ taken. take_words (c.args.count - (c.words.place + 1)) c.pop.new.self.top.stack taken) c.in_ok-push-in-Some.ensures.ok
      ∙ one_more c.args.count c.words.place c.words.frames.top.stack c.pop.new.self.top.stack c.words.taken.items c.in-Some.word _ (omega arith) c.in-Some.ensures.stack c.words.invariant.0,
  twice c.args.frames.now c.words.frames c.pop.new.self c.words.invariant.1 c.pop.ensures.top,
  c.pop.ensures.below ∙ c.words.invariant.2,
  search rules,
  search rules,
  search rules,
  search rules,
  search rules,
)
