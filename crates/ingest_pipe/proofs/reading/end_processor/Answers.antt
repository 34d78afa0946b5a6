use Rattle.std.proofs.Common.{ap, ◌∙◌}
use Rattle.serde_json.specs.View.{view}
use Rattle.ingest_pipe.specs.Reading.{met_with}
use Rattle.ingest_pipe.proofs.Readings.{acts}
use Rattle.ingest_pipe.proofs.reading.end_processor.Goals as goal

pub returns : goal.returns
returns c =
    acts c.args.path.now c.args.kind c.len.result (view c.args.processor.now) c.args.met.now c.meet.new.met c.in_ok-action.action c.in_ok-try_behind.field-0 c.in_ok-try_behind.ensures
    c.len.ensures c.in_ok-action.ensures (c.in_ok-meet.ensures ∙ ap (met_with c.args.met.now) c.in_ok-change.ensures)
