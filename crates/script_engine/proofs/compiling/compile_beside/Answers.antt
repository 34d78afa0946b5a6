-- A text's program has a script, and is the text's only one.
use Rattle.std.proofs.Common.{◌≡◌, None, sym, subst}
use Rattle.std.proofs.lemmas.Result.{err_from_is_err_and}
use Rattle.pl_code.specs.declared.code.Code.{Code}
use Rattle.compiled_outcome.specs.Correct.{IsCodeOf}
use Rattle.object_values.specs.declared.object.Owner.TheVariants.{Script}
use Rattle.static_types.specs.Allow.{AllowList}
use Rattle.codegen.specs.Programs.{program_of}
use Rattle.compiled_outcome.specs.Agreeing.{known}
use Rattle.verified_machine.specs.Faults.{shape_fault}
use Rattle.verified_machine.specs.Rows.{HaveRows}
use Rattle.script_engine.proofs.Runs.{takes_typed}
use Rattle.script_engine.proofs.Compiled.{fails_only, formed_from, is_script, reached_from}
use Rattle.script_engine.proofs.compiling.compile_beside.Goals as goal

pub returns-in_err-program-clause-only : goal.returns-in_err-program-clause-only
returns-in_err-program-clause-only c =
    let p = err_from_is_err_and c.from_residual.result c.from_residual.ensures.1 in
    rw (p.1, p.2) (λ reading is. fails_only c.args.allow.now c.args.context.now c.in_err-program.field-0.0 reading (c.in_err-program.ensures.only reading is))

pub executable_of-requires : goal.executable_of-requires
executable_of-requires c =
    let p = c.in_ok-program.program in
    c.code_is_well_shaped.ensures.sound c.args.allow.now p c.in-Ok.code (formed_from c.args.allow.now c.args.context.now c.args.text.now p c.requires.context c.in_ok-program.ensures.exact)
    (reached_from c.args.allow.now c.args.context.now c.args.text.now p c.requires.context c.in_ok-program.ensures.exact) c.in-Ok.ensures.code

pub returns-in-Ok-clause-exact : goal.returns-in-Ok-clause-exact
returns-in-Ok-clause-exact c =
    let p = c.in_ok-program.program in
    let ready = c.in_ok-executable-in-Ok.executable in
    let is = c.in_ok-executable-in-Ok.ensures in
    let code : IsCodeOf p ready.code.functions = subst (λ (code : Code). IsCodeOf p code.functions) (sym is.code.0) c.in-Ok.ensures.code in
    let made = is_script c.args.allow.now c.args.context.now c.args.text.now p (record { executable = ready; result = c.in_ok-result.result }) c.requires.context c.in_ok-program.ensures.exact is.code.1 c.in_ok-result.ensures code in
    (p, c.in_ok-program.ensures.exact, made)

pub returns-in-Ok-clause-only : goal.returns-in-Ok-clause-only
returns-in-Ok-clause-only c reading h =
    let p = c.in_ok-program.program in
    let ready = c.in_ok-executable-in-Ok.executable in
    let is = c.in_ok-executable-in-Ok.ensures in
    let code : IsCodeOf p ready.code.functions = subst (λ (code : Code). IsCodeOf p code.functions) (sym is.code.0) c.in-Ok.ensures.code in
    let made = is_script c.args.allow.now c.args.context.now c.args.text.now p (record { executable = ready; result = c.in_ok-result.result }) c.requires.context c.in_ok-program.ensures.exact is.code.1 c.in_ok-result.ensures code in
    (p, c.in_ok-program.ensures.only reading h, made)

pub memory_alone-requires : goal.memory_alone-requires
memory_alone-requires c =
    let p = c.in_ok-program.program in
    c.in-Err.ensures.total c.args.allow.now (formed_from c.args.allow.now c.args.context.now c.args.text.now p c.requires.context c.in_ok-program.ensures.exact)

pub returns-in-Ok-clause-rows : goal.returns-in-Ok-clause-rows
returns-in-Ok-clause-rows c =
    let p = c.in_ok-program.program in
    let ready = c.in_ok-executable-in-Ok.executable in
    let is = c.in_ok-executable-in-Ok.ensures in
    let formed = formed_from c.args.allow.now c.args.context.now c.args.text.now p c.requires.context c.in_ok-program.ensures.exact in
    let rows = c.programs_run.ensures.rows Script (known c.args.allow.now (program_of p)) c.in-Ok.code.functions formed c.in-Ok.ensures.code in
    subst (λ (allow : AllowList). HaveRows allow ready.code.functions) (sym is.code.1)
    (subst (λ (code : Code). HaveRows c.args.allow.now code.functions) (sym is.code.0) rows)

pub returns-in-Ok-clause-takes : goal.returns-in-Ok-clause-takes
returns-in-Ok-clause-takes c =
    let p = c.in_ok-program.program in
    let ready = c.in_ok-executable-in-Ok.executable in
    let is = c.in_ok-executable-in-Ok.ensures in
    let code : IsCodeOf p ready.code.functions = subst (λ (code : Code). IsCodeOf p code.functions) (sym is.code.0) c.in-Ok.ensures.code in
    takes_typed c.args.allow.now c.args.context.now p (record { executable = ready; result = c.in_ok-result.result })
    (is_script c.args.allow.now c.args.context.now c.args.text.now p (record { executable = ready; result = c.in_ok-result.result }) c.requires.context c.in_ok-program.ensures.exact is.code.1 c.in_ok-result.ensures code)

pub returns-in-Ok-clause-sound : goal.returns-in-Ok-clause-sound
returns-in-Ok-clause-sound c =
    let p = c.in_ok-program.program in
    let found : shape_fault c.args.allow.now c.in-Ok.code ≡ None =
    c.code_is_well_shaped.ensures.sound c.args.allow.now p c.in-Ok.code (formed_from c.args.allow.now c.args.context.now c.args.text.now p c.requires.context c.in_ok-program.ensures.exact)
    (reached_from c.args.allow.now c.args.context.now c.args.text.now p c.requires.context c.in_ok-program.ensures.exact) c.in-Ok.ensures.code in
    subst (λ (code : Code). shape_fault c.args.allow.now code ≡ None) (sym c.in_ok-executable-in-Ok.ensures.code.0) found
