use Rattle.std.proofs.Common.{◌∙◌}
use Rattle.serde_json.specs.View.{view}
use Rattle.job_file.proofs.Parts.{unknown_answers, types_answer, range_answers, mapping_answers, no_fault, job_answers, parts_are_the_job, exit_answers}
use Rattle.job_file.proofs.job.Job.of_object.Goals as goal

pub returns-in_err-try_known : goal.returns-in_err-try_known
returns-in_err-try_known c =
    let file = view c.args.file.now in
    let error = c.in_err-try_known.field-0.0 in
    exit_answers c.from_residual.result error _ c.from_residual.ensures.1 (unknown_answers c.args.context file error c.in_err-try_known.ensures.fault)

pub returns-in_err-try_types : goal.returns-in_err-try_types
returns-in_err-try_types c =
    let file = view c.args.file.now in
    let error = c.in_err-try_types.field-0.0 in
    exit_answers c.from_residual-in_err-try_types.result error _ c.from_residual-in_err-try_types.ensures.1 (types_answer c.args.context file error c.in_ok-try_known.ensures.known c.in_err-try_types.ensures.fault)

pub returns-in_err-numbers : goal.returns-in_err-numbers
returns-in_err-numbers c =
    let file = view c.args.file.now in
    let error = c.in_err-numbers.field-0.0 in
    exit_answers c.from_residual-in_err-numbers.result error _ c.from_residual-in_err-numbers.ensures.1
    (range_answers c.args.context file error c.in_ok-try_known.ensures.known c.in_ok-try_types.ensures.right c.in_err-numbers.ensures.fault)

pub returns-in_err-mapping : goal.returns-in_err-mapping
returns-in_err-mapping c =
    let file = view c.args.file.now in
    let error = c.in_err-mapping.field-0.0 in
    exit_answers c.from_residual-in_err-mapping.result error _ c.from_residual-in_err-mapping.ensures.1
    (mapping_answers c.args.context file error c.in_ok-try_known.ensures.known c.in_ok-try_types.ensures.right c.in_ok-numbers.ensures.within c.in_err-mapping.ensures.fault)

pub returns : goal.returns
returns c =
    let file = view c.args.file.now in
    let n = c.in_ok-numbers in
    let none = no_fault c.args.context file c.in_ok-try_known.ensures.known c.in_ok-try_types.ensures.right n.ensures.within c.in_ok-mapping.ensures.good in
    let same = parts_are_the_job c.args.context file n.numbers c.in_ok-mapping.mapping n.ensures.limits n.ensures.shards n.ensures.order n.ensures.slice n.ensures.capacity c.in_ok-mapping.ensures.fields in
    job_answers c.args.context file _ none (c.in_ok-made.ensures ∙ same)
