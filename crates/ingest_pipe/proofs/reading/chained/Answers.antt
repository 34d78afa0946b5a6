use Rattle.std.proofs.Common.{List, ap, sym, ◌∙◌}
use Rattle.ingest_pipe.specs.declared.reading.Processor.{Processor}
use Rattle.ingest_pipe.specs.Reading.{chained}
use Rattle.ingest_pipe.proofs.Chaining.{chained_last}
use Rattle.ingest_pipe.proofs.reading.chained.Goals as goal

pub left-preserved : goal.left-preserved
left-preserved c =
    c.left.invariant
    ∙ ap (λ (l : List Processor). chained l c.left.rest) c.in-Some.ensures
    ∙ chained_last c.pop.new.self c.in-Some.last c.left.rest
    ∙ ap (chained c.pop.new.self) (sym c.in_ok-rest.ensures)
