use Rattle.std.proofs.Common.{inr, inl, sym, subst}
use Rattle.command_parts.specs.declared.status.Status.{Status}
use Rattle.line_run.specs.Steps.{AnswersNot}
use Rattle.line_run.specs.Talking.{Ends}
use Rattle.line_run.proofs.passing.give_end.Goals as goal

pub returns-in-Err-clause-not : goal.returns-in-Err-clause-not
returns-in-Err-clause-not g c =
    let heard = g.T.Talker.heard c.args.talker.now in
    let Not = λ (status : Status). AnswersNot (Ends (g.T.Talker.talk c.args.talker.now) (heard c.args.state)) (g.K.Sink.held c.args.out.now) (g.K.Sink.held c.give.new.out) c.args.replies.now status in
    elim c.in-Err.ensures.fault [
      | inl is ↦ subst Not (sym is) (c.add_end.new.self, c.in-Ok.ensures, c.give.ensures.front)
      | inr is ↦ subst Not (sym is) (inr (c.add_end.new.self, c.in-Ok.ensures, c.give.ensures.front))
    ]
