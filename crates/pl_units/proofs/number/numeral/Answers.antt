use Rattle.std.proofs.Common.{◌<◌, ◌+◌, ◌*◌, ◌-◌, ◌∙◌, length, get_or, sym, ap, rules, arith}
use Rattle.std.specs.Char.{is_ascii_digit}
use Rattle.std.proofs.lemmas.Bool.{and_from, lt-ltb}
use Rattle.std.proofs.lemmas.List.{take_all}
use Rattle.std.proofs.lemmas.List.Folds.{list_all_more}
use Rattle.pl_units.proofs.NumberLemmas.{digits_value_more, digits_value-take-le, digit_at, digit_test}
use Rattle.pl_units.proofs.number.numeral.Goals as goal

-- a unit that is no digit, or digits whose value is too large already
pub returns-in_err-value : goal.returns-in_err-value
returns-in_err-value c =
    let ds = c.args.digits.now in
    let i = c.loop-digit.digit-index in
    rw c.from_residual.ensures
    (λ h.
    let more = digits_value_more ds i c.loop-digit-test.true in
    let below = digits_value-take-le ds (i + 1) in
    c.in_err-value.ensures (digit_at ds i h.0 c.loop-digit-test.true, omega (arith, h.1)))

pub loop-digit-preserved : goal.loop-digit-preserved
loop-digit-preserved c =
    let ds = c.args.digits.now in
    let i = c.loop-digit.digit-index in
    record {
      digits = list_all_more is_ascii_digit ds i 0 c.loop-digit-test.true
          ∙ and_from _ _ c.loop-digit.invariant.digits (digit_test (get_or ds i 0) c.in_ok-value.ensures.0.0);
      value = c.in_ok-value.ensures.1 ∙ ap (λ n. n * 10 + (get_or ds i 0 - 48)) c.loop-digit.invariant.value
          ∙ sym (digits_value_more ds i c.loop-digit-test.true);
      fits = omega (arith, c.in_ok-value.ensures.1, c.in_ok-value.ensures.0.1);
    }

pub returns : goal.returns
returns c =
    let whole = take_all c.loop-digit.digit-index c.args.digits.now c.loop-digit-test.false in
    let digits = rw whole at c.loop-digit.invariant.digits in
    let value = rw whole at c.loop-digit.invariant.value in
    let some : 0 < length c.args.digits.now = search rules in
    ((and_from _ _ (lt-ltb 0 (length c.args.digits.now) some) digits, rw value at c.loop-digit.invariant.fits), value)
