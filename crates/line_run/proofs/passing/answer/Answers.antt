use Rattle.std.proofs.Common.{inr, inl, sym, subst}
use Rattle.command_parts.specs.declared.status.Status.{Status}
use Rattle.outer_io.specs.Runs.{line_shown}
use Rattle.line_run.specs.Steps.{AnswersNot}
use Rattle.line_run.specs.Talking.{Hears}
use Rattle.line_run.proofs.passing.answer.Goals as goal

pub returns-clause-not : goal.returns-clause-not
returns-clause-not g c =
    let heard = g.T.Talker.heard c.args.talker.now in
    let Not = λ (status : Status). AnswersNot (Hears (g.T.Talker.talk c.args.talker.now) (heard c.args.state.now) (heard c.add.new.state) (line_shown c.args.line)) (g.K.Sink.held c.args.out.now) (g.K.Sink.held c.give_many.new.out) c.args.replies.now status in
    elim c.in-Err.ensures.fault [
      | inl is ↦ subst Not (sym is) (c.add.new.self, c.in-Ok.ensures, c.in-Err.ensures.front)
      | inr is ↦ subst Not (sym is) (inr (c.add.new.self, c.in-Ok.ensures, c.in-Err.ensures.front))
    ]
