use Rattle.std.proofs.Common.{sym, ap, ◌∙◌}
use Rattle.def_resolve.specs.Accesses.{is_index}
use Rattle.def_resolve.proofs.Places.{beyond}
use Rattle.def_resolve.proofs.access.place_of.Goals as goal

pub returns-in-Err : goal.returns-in-Err
returns-in-Err c =
    sym (beyond c.args.name.now c.in-Err.field-0 (ap is_index (sym c.as_bytes.ensures.value) ∙ sym c.is_index.ensures ∙ c.if-not-is_index.false) c.in-Err.ensures.value.0)
