use Rattle.std.proofs.Common.{rules}
use Rattle.std.proofs.lemmas.Result.{IfOk-weaker}
use Rattle.source_meaning.specs.Programs.{fun_of, program_of}
use Rattle.program_typing.specs.Agreeing.{known}
use Rattle.codegen.proofs.Whole.{function_stands, sound_start}
use Rattle.codegen.proofs.functions.function.Goals as goal

pub returns-clause-code : goal.returns-clause-code
returns-clause-code c =
    let whole = rw c.new-worklist.ensures at (rw c.in_ok-push_two.ensures at c.in_ok-walk.ensures.back) in
    IfOk-weaker c.finish.result _ _ (λ code d. function_stands (program_of c.args.program.now) (fun_of c.args.f.now) c.in_ok-config.config c.walk.new.config code c.covering_laws.ensures c.in_ok-config.ensures.begun whole d) c.finish.ensures.code

pub returns-in_err-walk-clause-total : goal.returns-in_err-walk-clause-total
returns-in_err-walk-clause-total c = λ allow h. let whole = rw c.new-worklist.ensures at (rw c.in_ok-push_two.ensures at c.in_err-walk.ensures.total) in let m = whole allow (sound_start (known allow (program_of c.args.program.now)) (fun_of c.args.f.now) c.in_ok-config.config c.in_ok-config.ensures.begun h) in search rules
