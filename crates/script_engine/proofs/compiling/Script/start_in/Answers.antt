-- The machine begins where the script's run does.
use Rattle.std.proofs.Common.{sym, subst, ap, ◌∙◌}
use Rattle.std.specs.Prelude.{slice_get}
use Rattle.std.proofs.lemmas.Result.{IfOk-weaker}
use Rattle.pl_code.specs.declared.code.Code.{Code}
use Rattle.verified_machine.specs.Code.{Executable}
use Rattle.verified_machine.specs.Fits.{kinds_of, main_params}
use Rattle.verified_machine.specs.Rows.{HaveRows}
use Rattle.script_engine.specs.Running.{params_of, words_in}
use Rattle.script_engine.proofs.Runs.{begun_so}
use Rattle.script_engine.proofs.compiling.Script.start_in.Goals as goal

pub start_in-requires-clause-rows : goal.start_in-requires-clause-rows
start_in-requires-clause-rows c = subst (λ (e : Executable). HaveRows e.script.allow e.script.code.functions) (sym c.verified.ensures) c.requires.rows

pub start_in-requires-clause-args : goal.start_in-requires-clause-args
start_in-requires-clause-args c =
    let kinds = c.params_of.ensures ∙ ap (λ (code : Code). params_of (slice_get code.functions 0)) c.code.ensures in
    ap kinds_of (c.in_ok-words.ensures ∙ ap (λ ks. words_in ks c.args.args.items) kinds) ∙ c.requires.args ∙ ap (λ (e : Executable). main_params e.script.code.functions) (sym c.verified.ensures)

pub returns : goal.returns
returns c =
    IfOk-weaker c.start_in.result _ _ (λ a is. begun_so c.args.self.now c.args.heap c.args.args.items c.args.limits c.verified.result.now c.params_of.result.now c.in_ok-words.words a c.verified.ensures
    (c.params_of.ensures ∙ ap (λ (code : Code). params_of (slice_get code.functions 0)) c.code.ensures) c.in_ok-words.ensures is) c.start_in.ensures.started
