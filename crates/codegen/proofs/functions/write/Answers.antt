use Rattle.std.proofs.Common.{◌≡◌, rules, suc, refl, Some}
use Rattle.std.specs.Prelude.{slice_get}
use Rattle.codegen.proofs.Whole.{functions_more, functions_all, got_item, got_mapped, got_none}
use Rattle.source_meaning.specs.Programs.{fun_of}
use Rattle.codegen.proofs.functions.write.Goals as goal

pub loop-f-preserved : goal.loop-f-preserved
loop-f-preserved c =
    functions_more c.args.program.now c.loop-f.f-index c.f-item.result c.loop-f.functions _ c.in_ok-code.code
    (got_item c.as_slice-f-items.result.now c.args.program.now.functions c.loop-f.f-index c.f-item.result c.as_slice-f-items.ensures c.loop-f-test.true c.f-item.is)
    c.in_ok-push-2.ensures.ok c.in_ok-code.ensures.code c.loop-f.invariant

pub returns-clause-code : goal.returns-clause-code
returns-clause-code c =
    functions_all c.args.program.now c.loop-f.f-index c.loop-f.functions
    (got_none c.as_slice-f-items.result.now c.args.program.now.functions c.loop-f.f-index c.as_slice-f-items.ensures c.loop-f-test.false) c.loop-f.invariant

pub returns-in_err-main-clause-total : goal.returns-in_err-main-clause-total
returns-in_err-main-clause-total c = λ allow h. let m = c.in_err-main.ensures.total allow (h.each 0 (fun_of c.args.program.now.main) refl) in search rules

pub returns-in_err-code-clause-total : goal.returns-in_err-code-clause-total
returns-in_err-code-clause-total c = λ allow h.
    let got : slice_get c.args.program.now.functions c.loop-f.f-index ≡ Some c.f-item.result =
    got_item c.as_slice-f-items.result.now c.args.program.now.functions c.loop-f.f-index c.f-item.result c.as_slice-f-items.ensures c.loop-f-test.true c.f-item.is in
    let m = c.in_err-code.ensures.total allow (h.each (suc c.loop-f.f-index) (fun_of c.f-item.result) (got_mapped fun_of c.args.program.now.functions c.loop-f.f-index c.f-item.result got)) in search rules
