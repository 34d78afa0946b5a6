use Rattle.std.proofs.Common.{◌≡◌, List, ℕ, ap, subst, sym, ◌∙◌, to_z-of_z}
use Rattle.std.specs.Prelude.{Result, Ok, Err, IfOk, Some}
use Rattle.std.specs.Fmt.{signed_decimal}
use Rattle.pl_units.specs.WholeNumber.{long_of}
use Rattle.pl_units.proofs.Utf16Lemmas.{units-ascii}
use Rattle.pl_units.proofs.NumberLemmas.{long_of-decimal}
use Rattle.pl_units.proofs.number.decimal.Goals as goal

-- what follows from the text of an answer that gives one
made : {E : Type 0} (r : Result (List ℕ) E) (text : List ℕ) (P : List ℕ → Type 0) → IfOk r (λ t. t ≡ text) → P text → IfOk r P
made (Ok t) text P e p = subst P (sym e) p
made (Err e) text P h p = tt

-- the digits and the sign are ASCII, so each is one unit
pub returns-clause-text : goal.returns-clause-text
returns-clause-text c =
    let same = ap signed_decimal (to_z-of_z c.ranges.n) in
    let text = units-ascii c.format.result.now c.format.ensures.ascii ∙ c.format.ensures.text ∙ same in
    rw text at c.from_utf8.ensures

pub returns-clause-read_back : goal.returns-clause-read_back
returns-clause-read_back c = made _ (signed_decimal c.args.n) (λ t. long_of t ≡ Some c.args.n) (returns-clause-text c) (long_of-decimal c.args.n c.ranges.n)
