-- Where a number of what is bound is no whole one, one of the line is none.
use Rattle.std.proofs.Common.{◌≡◌, ◌∙◌, sym, ap}
use Rattle.std.proofs.lemmas.Result.{IfErr-weaker}
use Rattle.serde_json.specs.Data.{object}
use Rattle.serde_json.specs.View.{view}
use Rattle.serde_json.specs.declared.value.Value.{Object}
use Rattle.serde_json.proofs.Views.{view-Object}
use Rattle.job_file.specs.Values.{has_whole_numbers}
use Rattle.write_ctx.specs.Placing.{ingest_members}
use Rattle.write_ctx.proofs.Whole.{not_ingest_whole}
use Rattle.write_ctx.proofs.placing.place_test.Goals as goal

pub returns-clause-error : goal.returns-clause-error
returns-clause-error c =
    let members = c.in_ok-members.members in
    let line = view c.args.line in
    let is : view (Object members) ≡ object (ingest_members line) = view-Object members ∙ ap object c.in_ok-members.ensures in
    IfErr-weaker c.bind.result _ _ (λ e wrong number. not_ingest_whole line (sym (ap has_whole_numbers is) ∙ wrong number)) c.bind.ensures.error
