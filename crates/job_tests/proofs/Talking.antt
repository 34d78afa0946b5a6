-- The conversations tell what they are to tell.
use Rattle.std.proofs.Common.{◌≡◌, ℕ, Bool, true, false, List, [], ◌∷◌, ◌++◌, IfOk, Result, Ok, Err, refl, sym, ap, ◌∙◌}
use Rattle.outer_io.specs.Lines.{InputLine, Within, Beyond}
use Rattle.line_run.specs.declared.replier.ReplyLine.{ReplyLine}
use Rattle.line_run.specs.Shown.{reply_shown}
use Rattle.line_run.specs.Talking.{Ends, Hears}
use Rattle.job_tests.specs.Talks.{HeardKinds, HeardSoMany, counted, kinds, next, number_reply, numbers, of_kind, with_line}

-- one line more
counted_push : (n : ℕ) (lines : List InputLine) (line : InputLine) → counted n (lines ++ line ∷ []) ≡ next (counted n lines)
counted_push n [] line = refl
counted_push n (l ∷ lines) line = counted_push (next n) lines line

kind_push : (short : Bool) (n : ℕ) (lines : List InputLine) (line : InputLine) → of_kind short n (lines ++ line ∷ []) ≡ with_line short line (of_kind short n lines)
kind_push short n [] line = refl
kind_push short n (l ∷ lines) line = kind_push short (with_line short l n) lines line

module _ {E : Type 0} where
  pub numbers_hears : (n m : ℕ) (line : InputLine) (result : Result ReplyLine E) → m ≡ next n → IfOk result (λ (r : ReplyLine). reply_shown r ≡ number_reply m)
      → IfOk result (λ (r : ReplyLine). Hears numbers (HeardSoMany n) (HeardSoMany m) line (reply_shown r))
  numbers_hears n m line (Ok reply) more is = record {
    says = λ before heard. is ∙ ap number_reply (more ∙ ap next heard);
    heard = λ before heard. more ∙ ap next heard ∙ sym (counted_push 0 before line);
  }
  numbers_hears n m line (Err error) more is = tt

  pub numbers_ends : (n : ℕ) (result : Result ReplyLine E) → IfOk result (λ (r : ReplyLine). reply_shown r ≡ number_reply n)
      → IfOk result (λ (r : ReplyLine). Ends numbers (HeardSoMany n) (reply_shown r))
  numbers_ends n (Ok reply) is = λ lines heard. is ∙ ap number_reply heard
  numbers_ends n (Err error) is = tt

  pub short_hears : (short long count : ℕ) (line : List ℕ) (result : Result ReplyLine E) → count ≡ next short → IfOk result (λ (r : ReplyLine). reply_shown r ≡ number_reply short)
      → IfOk result (λ (r : ReplyLine). Hears kinds (HeardKinds (record { short = short; long = long })) (HeardKinds (record { short = count; long = long })) (Within line) (reply_shown r))
  short_hears short long count line (Ok reply) more is = record {
    says = λ before heard. is ∙ ap number_reply heard.0;
    heard = λ before heard. (more ∙ ap next heard.0 ∙ sym (kind_push true 0 before (Within line)), heard.1 ∙ sym (kind_push false 0 before (Within line)));
  }
  short_hears short long count line (Err error) more is = tt

  pub long_hears : (short long count : ℕ) (result : Result ReplyLine E) → count ≡ next long → IfOk result (λ (r : ReplyLine). reply_shown r ≡ number_reply long)
      → IfOk result (λ (r : ReplyLine). Hears kinds (HeardKinds (record { short = short; long = long })) (HeardKinds (record { short = short; long = count })) Beyond (reply_shown r))
  long_hears short long count (Ok reply) more is = record {
    says = λ before heard. is ∙ ap number_reply heard.1;
    heard = λ before heard. (heard.0 ∙ sym (kind_push true 0 before Beyond), more ∙ ap next heard.1 ∙ sym (kind_push false 0 before Beyond));
  }
  long_hears short long count (Err error) more is = tt
