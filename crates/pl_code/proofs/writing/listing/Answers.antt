use Rattle.std.proofs.Common.{◌++◌, ◌+◌, ◌≤◌, length, take, sym, ap, ◌∙◌, arith, append_assoc}
use Rattle.std.proofs.lemmas.List.{take_all}
use Rattle.pl_code.specs.Listing.{first_line, ended, functions_lines, function_lines, text_of, code_lines}
use Rattle.pl_code.proofs.Writings.{one_more}
use Rattle.pl_code.proofs.writing.listing.Goals as goal

pub loop-function-preserved : goal.loop-function-preserved
loop-function-preserved c =
    let inv = c.loop-function.invariant in
    let i = c.loop-function.function-index in
    let fs = c.args.code.now.functions in
    let more = one_more c.as_slice-function-items.result.now fs i c.function-item.result c.as_slice-function-items.ensures c.loop-function-test.true c.function-item.is in (
      ap (λ n. n + 1) inv.0,
      c.in_ok-push_function.ensures
          ∙ ap (λ t. t ++ text_of (function_lines c.loop-function.number c.function-item.result)) inv.1
          ∙ ap (λ n. (ended first_line ++ text_of (functions_lines 0 (take i fs))) ++ text_of (function_lines n c.function-item.result)) inv.0
          ∙ append_assoc (ended first_line) (text_of (functions_lines 0 (take i fs))) (text_of (function_lines i c.function-item.result))
          ∙ ap (λ t. ended first_line ++ t) (sym more),
    )

pub returns : goal.returns
unfolding code_lines
returns c =
    let inv = c.loop-function.invariant in
    let i = c.loop-function.function-index in
    let fs = c.args.code.now.functions in
    let past : length fs ≤ i = omega (arith, ap length c.as_slice-function-items.ensures, c.loop-function-test.false) in
    inv.1 ∙ ap (λ gs. ended first_line ++ text_of (functions_lines 0 gs)) (take_all i fs past)
