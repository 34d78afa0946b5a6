use Rattle.std.proofs.Common.{length, Some, sym, ap, ◌∙◌, subst, arith}
use Rattle.std.specs.Prelude.{IfOk, option_map}
use Rattle.std.proofs.lemmas.Option.{slice_get-get_or}
use Rattle.instruction_types.specs.Effects.{calls}
use Rattle.verifier.specs.Meets.{left_in}
use Rattle.verifier.specs.Acts.{Does}
use Rattle.verifier.proofs.Cutting.{cut_count, cut_found}
use Rattle.verifier.proofs.call.call.Goals as goal

pub bounds-windows-number : goal.bounds-windows-number
bounds-windows-number c =
    omega (arith, cut_count c.args.functions.now c.args.signatures.now.windows c.requires.windows, ap length c.as_slice-windows.ensures, c.if-number-functions.false)

pub call_function-requires : goal.call_function-requires
call_function-requires c =
    cut_found c.args.functions.now c.args.signatures.now.windows c.as_slice-windows.result.now c.args.number c.index-functions-number.result c.index-windows-number.result c.as_slice.result.now c.requires.windows
    (omega (arith, c.if-number-functions.false)) c.index-functions-number.is c.index-windows-number.is c.as_slice-windows.ensures c.as_slice.ensures

pub returns : goal.returns
returns c =
    subst (λ called. IfOk c.call_function.result (λ fits. Does c.args.table.now c.call_function.new.table fits (left_in (option_map calls called) c.args.table.now.stack)))
    (sym (slice_get-get_or c.args.functions.now c.args.number c.index-functions-number.result (omega (arith, c.if-number-functions.false)) ∙ ap Some (sym c.index-functions-number.is)))
    c.call_function.ensures
