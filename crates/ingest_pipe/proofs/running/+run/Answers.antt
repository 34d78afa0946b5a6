use Rattle.std.proofs.Common.{refl}
use Rattle.serde_json.specs.View.{view}
use Rattle.pipe_fields.specs.Documents.{doc_view}
use Rattle.ingest_pipe.specs.declared.running.Outcome.TheVariants as o
use Rattle.ingest_pipe.specs.Running.{Gives, Drops, Fails}
use Rattle.ingest_pipe.proofs.Piping.{follows_so, recovers_so, as_before, passes_over, asked_none}
use Rattle.ingest_pipe.proofs.running.+run.Goals as goal

pub returns-in-Passed-clause-outcome : goal.returns-in-Passed-clause-outcome
returns-in-Passed-clause-outcome g t c = λ m has.
    let one = c.in-Passed.ensures.outcome m has in
    follows_so _ _ m c.args.processors.now c.in-Then.guard c.in-Then.action c.in-Then.on_failure c.in-Then.rest (doc_view c.args.doc.now) c.args.runner.now c.step.new.runner c.run.new.runner c.run.new.doc c.run.result
    (Gives (doc_view c.step.new.doc)) c.in-Then.is one
    (as_before _ _ m c.get.result.now c.in-Then.rest (doc_view c.step.new.doc) c.step.new.runner c.run.new.runner c.run.new.doc c.run.result c.get.ensures (c.run.ensures.outcome m one.asked.stays))

pub returns-in-Ignored-clause-outcome : goal.returns-in-Ignored-clause-outcome
returns-in-Ignored-clause-outcome g t c = λ m has.
    let one = c.in-Failed.ensures.outcome m has in
    follows_so _ _ m c.args.processors.now c.in-Then.guard c.in-Then.action c.in-Then.on_failure c.in-Then.rest (doc_view c.args.doc.now) c.args.runner.now c.step.new.runner c.run-in-Ignored.new.runner c.run-in-Ignored.new.doc c.run-in-Ignored.result
    (Fails (view c.in-Failed.error)) c.in-Then.is one
    (passes_over _ _ m c.in-Then.on_failure c.in-Then.rest c.args.doc.now c.step.new.doc c.step.new.runner c.run-in-Ignored.new.runner c.run-in-Ignored.new.doc c.run-in-Ignored.result (view c.in-Failed.error) c.in-Then.guard.follows c.in-Ignored.is c.in-Failed.ensures.left
    (as_before _ _ m c.get-in-Ignored.result.now c.in-Then.rest (doc_view c.step.new.doc) c.step.new.runner c.run-in-Ignored.new.runner c.run-in-Ignored.new.doc c.run-in-Ignored.result c.get-in-Ignored.ensures (c.run-in-Ignored.ensures.outcome m one.asked.stays)))

pub returns-in-Passed-run-clause-outcome : goal.returns-in-Passed-run-clause-outcome
returns-in-Passed-run-clause-outcome g t c = λ m has.
    let one = c.in-Failed.ensures.outcome m has in
    let two = c.in-Passed-run.ensures.outcome m one.asked.stays in
    follows_so _ _ m c.args.processors.now c.in-Then.guard c.in-Then.action c.in-Then.on_failure c.in-Then.rest (doc_view c.args.doc.now) c.args.runner.now c.step.new.runner c.run-in-Passed-run.new.runner c.run-in-Passed-run.new.doc c.run-in-Passed-run.result
    (Fails (view c.in-Failed.error)) c.in-Then.is one
    (recovers_so _ _ m c.get-in-Recovers.result.now c.in-Then.on_failure c.in-Then.rest c.args.doc.now c.step.new.doc c.step.new.runner c.run-in-Recovers.new.runner c.run-in-Passed-run.new.runner c.run-in-Passed-run.new.doc c.run-in-Passed-run.result (Gives (doc_view c.run-in-Recovers.new.doc)) (view c.in-Failed.error) c.in-Then.guard.follows
    c.get-in-Recovers.ensures c.in-Recovers.is c.in-Failed.ensures.left two
    (as_before _ _ m c.get-in-Passed-run.result.now c.in-Then.rest (doc_view c.run-in-Recovers.new.doc) c.run-in-Recovers.new.runner c.run-in-Passed-run.new.runner c.run-in-Passed-run.new.doc c.run-in-Passed-run.result c.get-in-Passed-run.ensures
    (c.run-in-Passed-run.ensures.outcome m two.asked.stays)))

pub returns-in-Dropped-run-clause-outcome : goal.returns-in-Dropped-run-clause-outcome
returns-in-Dropped-run-clause-outcome g t c = λ m has.
    let one = c.in-Failed.ensures.outcome m has in
    let two = c.in-Dropped-run.ensures.outcome m one.asked.stays in
    follows_so _ _ m c.args.processors.now c.in-Then.guard c.in-Then.action c.in-Then.on_failure c.in-Then.rest (doc_view c.args.doc.now) c.args.runner.now c.step.new.runner c.run-in-Recovers.new.runner c.run-in-Recovers.new.doc o.Dropped
    (Fails (view c.in-Failed.error)) c.in-Then.is one
    (recovers_so _ _ m c.get-in-Recovers.result.now c.in-Then.on_failure c.in-Then.rest c.args.doc.now c.step.new.doc c.step.new.runner c.run-in-Recovers.new.runner c.run-in-Recovers.new.runner c.run-in-Recovers.new.doc o.Dropped (Drops (doc_view c.run-in-Recovers.new.doc)) (view c.in-Failed.error) c.in-Then.guard.follows
    c.get-in-Recovers.ensures c.in-Recovers.is c.in-Failed.ensures.left two (record { is = refl; asked = asked_none _ _ m c.run-in-Recovers.new.runner two.asked.stays }))

pub returns-in-Failed-run-clause-outcome : goal.returns-in-Failed-run-clause-outcome
returns-in-Failed-run-clause-outcome g t c = λ m has.
    let one = c.in-Failed.ensures.outcome m has in
    let two = c.in-Failed-run.ensures.outcome m one.asked.stays in
    follows_so _ _ m c.args.processors.now c.in-Then.guard c.in-Then.action c.in-Then.on_failure c.in-Then.rest (doc_view c.args.doc.now) c.args.runner.now c.step.new.runner c.run-in-Recovers.new.runner c.run-in-Recovers.new.doc (o.Failed c.in-Failed-run.error)
    (Fails (view c.in-Failed.error)) c.in-Then.is one
    (recovers_so _ _ m c.get-in-Recovers.result.now c.in-Then.on_failure c.in-Then.rest c.args.doc.now c.step.new.doc c.step.new.runner c.run-in-Recovers.new.runner c.run-in-Recovers.new.runner c.run-in-Recovers.new.doc (o.Failed c.in-Failed-run.error) (Fails (view c.in-Failed-run.error)) (view c.in-Failed.error) c.in-Then.guard.follows
    c.get-in-Recovers.ensures c.in-Recovers.is c.in-Failed.ensures.left two (record { is = refl; asked = asked_none _ _ m c.run-in-Recovers.new.runner two.asked.stays }))
