use Rattle.std.proofs.Common.{◌≡◌, length, Some, sym, ap, ◌∙◌, arith}
use Rattle.std.proofs.lemmas.Result.{err_from_is_err_and}
use Rattle.codegen.proofs.Lying.{none_lies, first_refused, second_refused, too_many, one_lies, one_unended, two_lie, two_unended}
use Rattle.codegen.proofs.values.place.Goals as goal

pub returns-in_default : goal.returns-in_default
returns-in_default c = λ few h. none_lies c.args.parts.now (sym c.in_default.ensures.value) few

pub returns-in_err-fits : goal.returns-in_err-fits
returns-in_err-fits c =
    let p = err_from_is_err_and c.from_residual.result c.from_residual.ensures.1 in
    rw p.1 (λ few h. first_refused c.args.parts.now c.args.kind c.get-2.result.now (sym c.in-Some.ensures.value ∙ ap (λ x. Some x) (sym c.get-2.ensures)) c.in_err-fits.ensures h)

pub returns-in_err-last : goal.returns-in_err-last
returns-in_err-last c =
    let p = err_from_is_err_and c.from_residual-in_err-last.result c.from_residual-in_err-last.ensures.1 in
    rw p.1 (λ few h. one_unended c.args.parts.now c.args.kind c.get-2.result.now (sym c.in-Some.ensures.value ∙ ap (λ x. Some x) (sym c.get-2.ensures)) (sym c.in_default-get.ensures.value) c.in_err-last.ensures h)

pub returns-in_default-get : goal.returns-in_default-get
returns-in_default-get c =
    one_lies c.args.parts.now c.args.kind c.get-2.result.now (sym c.in-Some.ensures.value ∙ ap (λ x. Some x) (sym c.get-2.ensures)) (sym c.in_default-get.ensures.value) c.in_ok-fits.ensures c.in_ok-last.ensures

pub returns-in_err-fits-2 : goal.returns-in_err-fits-2
returns-in_err-fits-2 c =
    let p = err_from_is_err_and c.from_residual-in_err-fits-2.result c.from_residual-in_err-fits-2.ensures.1 in
    rw p.1 (λ few h. second_refused c.args.parts.now c.args.kind c.get-2.result.now (sym c.in-Some.ensures.value ∙ ap (λ x. Some x) (sym c.get-2.ensures)) c.get-4.result.now (sym c.in-Some-get.ensures.value ∙ ap (λ x. Some x) (sym c.get-4.ensures)) c.in_err-fits-2.ensures h)

pub returns-then-len-ne2 : goal.returns-then-len-ne2
returns-then-len-ne2 c = λ few h. too_many c.args.parts.now c.get-4.result.now (sym c.in-Some-get.ensures.value ∙ ap (λ x. Some x) (sym c.get-4.ensures)) (λ e. omega (arith, e)) few

pub returns-in_err-last-2 : goal.returns-in_err-last-2
returns-in_err-last-2 c =
    let p = err_from_is_err_and c.from_residual-in_err-last-2.result c.from_residual-in_err-last-2.ensures.1 in
    let many : length c.args.parts.now ≡ 2 = omega arith in
    rw p.1 (λ few h. two_unended c.args.parts.now c.args.kind c.get-2.result.now (sym c.in-Some.ensures.value ∙ ap (λ x. Some x) (sym c.get-2.ensures)) c.get-4.result.now (sym c.in-Some-get.ensures.value ∙ ap (λ x. Some x) (sym c.get-4.ensures)) many c.in_err-last-2.ensures h)

pub returns : goal.returns
returns c =
    let many : length c.args.parts.now ≡ 2 = omega arith in
    two_lie c.args.parts.now c.args.kind c.get-2.result.now (sym c.in-Some.ensures.value ∙ ap (λ x. Some x) (sym c.get-2.ensures)) c.get-4.result.now (sym c.in-Some-get.ensures.value ∙ ap (λ x. Some x) (sym c.get-4.ensures)) many c.in_ok-fits.ensures c.in_ok-fits-2.ensures c.in_ok-last-2.ensures
