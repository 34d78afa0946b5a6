-- How many steps frames take at most.
use Rattle.std.proofs.Common.{◌≡◌, ℕ, suc, ◌+◌, ◌-◌, ◌*◌, ◌<◌, ◌≤◌, Bool, true, false, cond, List, [], ◌∷◌, length, Result, Ok, Err, OnOk, ap, ◌∙◌, arith}
use Rattle.std.proofs.lemmas.Nat.{mul-le}
use Rattle.pl_grammar.specs.declared.terminal.Terminal.{Terminal}
use Rattle.pl_grammar.specs.declared.stop.Stop.TheVariants.{Unexpected}
use Rattle.pl_grammar.specs.Lexeme.{Lexeme, Take, Taken, taken, matches, class_of}
use Rattle.pl_grammar.specs.Reading.{read_token}
use Rattle.parse_tables.specs.declared.form.Series.{Series}
use Rattle.parse_tables.specs.declared.rule.Rule.{Rule}
use Rattle.parse_driver.specs.declared.control.Frame.{Frame}
use Rattle.parse_driver.specs.declared.control.Frame.TheVariants as fr
use Rattle.parse_driver.specs.Control.{steps, around, phrase_steps, symbol_steps}
use Rattle.parse_driver.proofs.Outcomes.{success, ok_is}

-- ---- what is told of a success
pub on_ok : {U E P Q : Type 0} (result : Result U E) → (P → Q) → OnOk result P → OnOk result Q
on_ok (Ok u) f p = f p
on_ok (Err e) f p = p

times_more : (m x : ℕ) → suc m * x ≡ m * x + x
times_more m x = omega arith

one_turn : (k m x : ℕ) → k ≡ suc m → k * x ≡ m * x + x
one_turn k m x is = ap (λ (j : ℕ). j * x) is ∙ times_more m x

module _ (most n : ℕ) (frames : List Frame) where
  pub begun : (rule : Rule) → 0 < n → steps most (fr.Rest rule 0 (n - 1) ∷ frames) < steps most frames + phrase_steps most n
  unfolding phrase_steps
  begun rule some =
      let k : n ≡ suc (n - 1) = omega (arith, some) in
      let is : phrase_steps most n ≡ 6 * around most (phrase_steps most (n - 1)) + 2 = ap (phrase_steps most) k in
      omega (arith, is)

  pub phrase_in_symbol : phrase_steps most n < symbol_steps most n
  phrase_in_symbol = omega arith

  pub more_begun : (series : Series) (turns : ℕ) → turns ≤ most → steps most (fr.More series turns n ∷ frames) < steps most frames + symbol_steps most n
  more_begun series turns le =
      let product : turns * (phrase_steps most n + 2) ≤ most * (phrase_steps most n + 3) = mul-le turns (phrase_steps most n + 2) most (phrase_steps most n + 3) le (omega arith) in
      omega (arith, product)

  pub symbol_less : (rule : Rule) (at now : ℕ) → at < 6 → now < steps most (fr.Rest rule (at + 1) n ∷ frames) + symbol_steps most n → now < steps most (fr.Rest rule at n ∷ frames)
  symbol_less rule at now below less =
      let k : 6 - at ≡ suc (6 - (at + 1)) = omega (arith, below) in
      let product : (6 - at) * symbol_steps most n ≡ (6 - (at + 1)) * symbol_steps most n + symbol_steps most n = one_turn (6 - at) (6 - (at + 1)) (symbol_steps most n) k in
      omega (arith, product, less)

  pub turn_less : (series : Series) (turns now : ℕ) → 0 < turns → now < steps most (fr.Join series (turns - 1) n ∷ frames) + phrase_steps most n → now < steps most (fr.More series turns n ∷ frames)
  turn_less series turns now some less =
      let k : turns ≡ suc (turns - 1) = omega (arith, some) in
      let product : turns * (phrase_steps most n + 2) ≡ (turns - 1) * (phrase_steps most n + 2) + (phrase_steps most n + 2) = one_turn turns (turns - 1) (phrase_steps most n + 2) k in
      omega (arith, product, less)

-- no more is left behind a token than before it
pub token_shorter : (take : Take) (terminal : Terminal) (ls us : List Lexeme) (t : Taken take) → read_token take terminal ls ≡ Ok (t, us) → length us ≤ length ls
unfolding read_token
token_shorter take terminal [] us t e = absurd cc
token_shorter take terminal (l ∷ rest) us t e = by (matches terminal (class_of l)) e
  where
    by : (b : Bool) → cond b (success (taken take l, rest)) (Err (Unexpected (length (l ∷ rest)))) ≡ Ok (t, us) → length us ≤ length (l ∷ rest)
    by true e =
        let same : rest ≡ us = ap (λ (p : Taken take × List Lexeme). p.1) (ok_is (taken take l, rest) (t, us) e) in
        omega (arith, ap length same)
    by false e = absurd (cc e)
