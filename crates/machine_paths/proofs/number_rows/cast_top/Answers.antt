use Rattle.std.proofs.Common.{◌∷◌, ℕ, ap, sym, ◌∙◌}
use Rattle.std.specs.Prelude.{pos}
use Rattle.std.specs.Int.{w8, w16, w32}
use Rattle.arithmetic.specs.Arithmetic.{low_bits, wrapped}
use Rattle.code_meaning.specs.declared.word.Word.TheVariants.{I, J}
use Rattle.code_meaning.specs.Machine.{on_int, on_long, on_top, plain_act, to_line}
use Rattle.machine_paths.proofs.Quick.{as_does}
use Rattle.machine_paths.proofs.number_rows.cast_top.Goals as goal

pub returns-in-IntToLong-clause-exact : goal.returns-in-IntToLong-clause-exact
returns-in-IntToLong-clause-exact c = λ codes limits w.
    let f = c.args.frames.now.top in
    let below = c.args.frames.now.below in
    as_does _ _ _ _ _
    (ap (λ p. plain_act codes limits p f below w) c.in-IntToLong.is ∙ ap (λ (n : ℕ). on_top f.stack (λ word stack. on_int word (λ a. to_line f below w n (J a ∷ stack)))) (sym c.requires))
    (c.int_to_long.ensures.exact w)

pub returns-in-LongToInt-clause-exact : goal.returns-in-LongToInt-clause-exact
returns-in-LongToInt-clause-exact c = λ codes limits w.
    let f = c.args.frames.now.top in
    let below = c.args.frames.now.below in
    as_does _ _ _ _ _
    (ap (λ p. plain_act codes limits p f below w) c.in-LongToInt.is ∙ ap (λ (n : ℕ). on_top f.stack (λ word stack. on_long word (λ a. to_line f below w n (I (wrapped w32 a) ∷ stack)))) (sym c.requires))
    (c.long_to_int.ensures.exact w)

pub returns-in-IntToByte-clause-exact : goal.returns-in-IntToByte-clause-exact
returns-in-IntToByte-clause-exact c = λ codes limits w.
    let f = c.args.frames.now.top in
    let below = c.args.frames.now.below in
    as_does _ _ _ _ _
    (ap (λ p. plain_act codes limits p f below w) c.in-IntToByte.is ∙ ap (λ (n : ℕ). on_top f.stack (λ word stack. on_int word (λ a. to_line f below w n (I (wrapped w8 a) ∷ stack)))) (sym c.requires))
    (c.int_to_byte.ensures.exact w)

pub returns-in-IntToShort-clause-exact : goal.returns-in-IntToShort-clause-exact
returns-in-IntToShort-clause-exact c = λ codes limits w.
    let f = c.args.frames.now.top in
    let below = c.args.frames.now.below in
    as_does _ _ _ _ _
    (ap (λ p. plain_act codes limits p f below w) c.in-IntToShort.is ∙ ap (λ (n : ℕ). on_top f.stack (λ word stack. on_int word (λ a. to_line f below w n (I (wrapped w16 a) ∷ stack)))) (sym c.requires))
    (c.int_to_short.ensures.exact w)

pub returns-in-IntToChar-clause-exact : goal.returns-in-IntToChar-clause-exact
returns-in-IntToChar-clause-exact c = λ codes limits w.
    let f = c.args.frames.now.top in
    let below = c.args.frames.now.below in
    as_does _ _ _ _ _
    (ap (λ p. plain_act codes limits p f below w) c.in-IntToChar.is ∙ ap (λ (n : ℕ). on_top f.stack (λ word stack. on_int word (λ a. to_line f below w n (I (pos (low_bits 16 a)) ∷ stack)))) (sym c.requires))
    (c.int_to_char.ensures.exact w)
