use Rattle.std.specs.Prelude.{pos}
use Rattle.std.proofs.Common.{◌≡◌, ◌<◌, ◌≤◌, Ok, length, unwrap_or, rules, refl, sym, ◌∙◌, arith}
use Rattle.std.proofs.lemmas.Int.{to_z-of_z}
use Rattle.std.proofs.lemmas.Option.{slice_get_read}
use Rattle.function_score.specs.Answers.{function_view}
use Rattle.function_score.specs.Lines.{value_of_functions, value_on}
use Rattle.function_score.specs.Runners.{with_sign}
use Rattle.function_score.proofs.Steps.{at_number, begins, evaluated, fails, finished, last, shown_least, signs_least, step}
use Rattle.function_score.proofs.scoring.value_of_functions.Goals as goal

pub loop-number-init : goal.loop-number-init
loop-number-init g c = begins g.R.FunctionRunner.line g.R.FunctionRunner.asks c.args.mode c.args.runner.now

pub value_on-requires : goal.value_on-requires
value_on-requires g c =
    let l = c.loop-number in
    let xs = c.args.functions.now in
    let x = c.index-functions-number.result in
    let within : l.number < length xs = first_of (omega (arith, c.loop-number-test.true), omega arith) in
    at_number g.R.FunctionRunner.line xs l.number x c.args.runner.now l.runner c.requires l.invariant.kept (slice_get_read xs (length xs) l.number x refl within c.index-functions-number.is)

pub added-all-requires-clause-all : goal.added-all-requires-clause-all
added-all-requires-clause-all g c = shown_least c.loop-number.all c.loop-number.invariant.value c.loop-number.invariant.shown

pub added-all-requires-clause-value : goal.added-all-requires-clause-value
added-all-requires-clause-value g c =
    signs_least (value_on (g.R.FunctionRunner.line c.loop-number.runner) c.loop-number.number (function_view c.index-functions-number.result)) c.in-Ok.value c.in-Ok.ensures.told

pub returns-then-is_last-clause-told : goal.returns-then-is_last-clause-told
returns-then-is_last-clause-told g c =
    let line = g.R.FunctionRunner.line in
    let asks = g.R.FunctionRunner.asks in
    let l = c.loop-number in
    let xs = c.args.functions.now in
    let x = c.index-functions-number.result in
    let within : l.number < length xs = first_of (omega (arith, c.loop-number-test.true), omega arith) in
    let e = evaluated line asks xs l.number x c.args.runner.now l.runner c.value_on.new.runner c.requires l.invariant.kept within c.index-functions-number.is c.in-Ok.ensures.kept c.in-Ok.ensures.asked in
    let done = last line asks c.args.mode l.number l.all (function_view x) c.in-Ok.value c.added-all.result c.args.runner.now l.runner c.value_on.new.runner l.invariant e c.in-Ok.ensures.told (sym c.is_last.ensures ∙ c.if-is_last.true) c.added-all.ensures in
    let told : with_sign (value_of_functions c.args.mode (line c.args.runner.now)) ≡ Ok (unwrap_or c.added-all.result (pos 1)) = done.0 in
    first_of (search (rules, to_z-of_z, told), grind (arith, to_z-of_z, told))

pub returns-then-is_last-clause-kept : goal.returns-then-is_last-clause-kept
returns-then-is_last-clause-kept g c = c.in-Ok.ensures.kept ∙ c.loop-number.invariant.kept

pub returns-then-is_last-clause-asked : goal.returns-then-is_last-clause-asked
returns-then-is_last-clause-asked g c =
    let line = g.R.FunctionRunner.line in
    let asks = g.R.FunctionRunner.asks in
    let l = c.loop-number in
    let xs = c.args.functions.now in
    let x = c.index-functions-number.result in
    let within : l.number < length xs = first_of (omega (arith, c.loop-number-test.true), omega arith) in
    let e = evaluated line asks xs l.number x c.args.runner.now l.runner c.value_on.new.runner c.requires l.invariant.kept within c.index-functions-number.is c.in-Ok.ensures.kept c.in-Ok.ensures.asked in
    let done = last line asks c.args.mode l.number l.all (function_view x) c.in-Ok.value c.added-all.result c.args.runner.now l.runner c.value_on.new.runner l.invariant e c.in-Ok.ensures.told (sym c.is_last.ensures ∙ c.if-is_last.true) c.added-all.ensures in
    done.1.asked

pub returns-in-Err-Failed-clause-told : goal.returns-in-Err-Failed-clause-told
returns-in-Err-Failed-clause-told g c =
    let line = g.R.FunctionRunner.line in
    let asks = g.R.FunctionRunner.asks in
    let l = c.loop-number in
    let xs = c.args.functions.now in
    let x = c.index-functions-number.result in
    let within : l.number < length xs = first_of (omega (arith, c.loop-number-test.true), omega arith) in
    let kept = rw c.in-Err-Failed.field-0-is at c.in-Err-Failed.ensures.kept in
    let asked = rw c.in-Err-Failed.field-0-is at c.in-Err-Failed.ensures.asked in
    let told = rw c.in-Err-Failed.field-0-is at c.in-Err-Failed.ensures.told in
    let e = evaluated line asks xs l.number x c.args.runner.now l.runner c.value_on.new.runner c.requires l.invariant.kept within c.index-functions-number.is kept asked in
    let done = fails line asks c.args.mode l.number l.all (function_view x) c.in-Err-Failed.error c.args.runner.now l.runner c.value_on.new.runner l.invariant e told in
    rw c.in-Err-Failed.field-0-is done.0

pub returns-in-Err-Failed-clause-kept : goal.returns-in-Err-Failed-clause-kept
returns-in-Err-Failed-clause-kept g c =
    let kept = rw c.in-Err-Failed.field-0-is at c.in-Err-Failed.ensures.kept in
    kept ∙ c.loop-number.invariant.kept

pub returns-in-Err-Failed-clause-asked : goal.returns-in-Err-Failed-clause-asked
returns-in-Err-Failed-clause-asked g c =
    let line = g.R.FunctionRunner.line in
    let asks = g.R.FunctionRunner.asks in
    let l = c.loop-number in
    let xs = c.args.functions.now in
    let x = c.index-functions-number.result in
    let within : l.number < length xs = first_of (omega (arith, c.loop-number-test.true), omega arith) in
    let kept = rw c.in-Err-Failed.field-0-is at c.in-Err-Failed.ensures.kept in
    let asked = rw c.in-Err-Failed.field-0-is at c.in-Err-Failed.ensures.asked in
    let told = rw c.in-Err-Failed.field-0-is at c.in-Err-Failed.ensures.told in
    let e = evaluated line asks xs l.number x c.args.runner.now l.runner c.value_on.new.runner c.requires l.invariant.kept within c.index-functions-number.is kept asked in
    let done = fails line asks c.args.mode l.number l.all (function_view x) c.in-Err-Failed.error c.args.runner.now l.runner c.value_on.new.runner l.invariant e told in
    done.1.asked

pub loop-number-preserved : goal.loop-number-preserved
loop-number-preserved g c =
    let line = g.R.FunctionRunner.line in
    let asks = g.R.FunctionRunner.asks in
    let l = c.loop-number in
    let xs = c.args.functions.now in
    let x = c.index-functions-number.result in
    let within : l.number < length xs = first_of (omega (arith, c.loop-number-test.true), omega arith) in
    let e = evaluated line asks xs l.number x c.args.runner.now l.runner c.value_on.new.runner c.requires l.invariant.kept within c.index-functions-number.is c.in-Ok.ensures.kept c.in-Ok.ensures.asked in
    step line asks c.args.mode l.number l.all (function_view x) c.in-Ok.value c.added-all.result c.args.runner.now l.runner c.value_on.new.runner l.invariant e c.in-Ok.ensures.told (sym c.is_last.ensures ∙ c.if-is_last.false) c.added-all.ensures

pub returns-clause-told : goal.returns-clause-told
returns-clause-told g c =
    let l = c.loop-number in
    let xs = c.args.functions.now in
    let past : length xs ≤ l.number = first_of (omega (arith, c.loop-number-test.false), omega arith) in
    let done = finished g.R.FunctionRunner.line g.R.FunctionRunner.asks c.args.mode xs l.number l.all c.args.runner.now l.runner c.requires past l.invariant in
    let told : with_sign (value_of_functions c.args.mode (g.R.FunctionRunner.line c.args.runner.now)) ≡ Ok (unwrap_or l.all (pos 1)) = done.0 in
    first_of (search (rules, to_z-of_z, told), grind (arith, to_z-of_z, told))

pub returns-clause-kept : goal.returns-clause-kept
returns-clause-kept g c = c.loop-number.invariant.kept

pub returns-clause-asked : goal.returns-clause-asked
returns-clause-asked g c =
    let l = c.loop-number in
    let xs = c.args.functions.now in
    let past : length xs ≤ l.number = first_of (omega (arith, c.loop-number-test.false), omega arith) in
    let done = finished g.R.FunctionRunner.line g.R.FunctionRunner.asks c.args.mode xs l.number l.all c.args.runner.now l.runner c.requires past l.invariant in
    done.1.asked
