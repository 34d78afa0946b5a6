-- Reading goes on line by line.
use Rattle.std.proofs.Common.{◌≡◌, ℕ, ◌+◌, ◌<◌, List, ◌∷◌, ◌++◌, length, Option, Some, None, Result, Ok, Err, refl, subst, ap, ◌∙◌, arith}
use Rattle.std.specs.Prelude.{min, option_and_then}
use Rattle.std.specs.Str.{IsUtf8}
use Rattle.std.proofs.lemmas.List.{length-append}
use Rattle.pl_code.specs.declared.code.Code.{Code}
use Rattle.pl_code.specs.declared.line.Line.{Line}
use Rattle.pl_code.specs.declared.reading.Reading.{Reading}
use Rattle.pl_code.specs.declared.error.ListingErr.{ListingErr}
use Rattle.pl_code.specs.declared.error.ListingErr.TheVariants.{Syntax, Version, NoMemory}
use Rattle.pl_code.specs.Lines.{line_of}
use Rattle.pl_code.specs.Reading.{next, next_line, told, finished, first_ended, continued, ended_of, behind_of, read_on, read_bytes, Gives}
use Rattle.pl_code.proofs.LineForms.{line_form}
use Rattle.pl_code.proofs.LineTexts.{line_unbroken}
use Rattle.pl_code.proofs.Cuts.{cut_some, cut_none, ended_cons, ended_none, behind_cons, behind_none}

no_line : (s : List ℕ) (o : Option Line) → (IsUtf8 s → ⊥) → line_of s ≡ o → o ≡ None
no_line s None none e = refl
no_line s (Some l) none e =
    let is = line_form.sound s l e in
    absurd (none (subst IsUtf8 is.1 (line_unbroken l is.0).text))

-- bytes that are no text are no line
pub no_text : (r : Reading) (s : List ℕ) → (IsUtf8 s → ⊥) → next_line r s ≡ None
unfolding next_line
no_text r s none = ap (option_and_then (next r)) (no_line s (line_of s) none refl)

pub one_line : (n : ℕ) (r : Reading) (s line behind : List ℕ) → first_ended s ≡ Some (line, behind)
    → read_bytes n r s ≡ continued (n + 1) (next_line r line) (λ q. read_bytes (n + 1) q behind)
unfolding read_bytes
one_line n r s line behind h =
    let cut = cut_some s line behind h in
    ap (read_bytes n r) cut.whole
    ∙ ap (λ lines. read_on n r lines (behind_of (line ++ 10 ∷ behind))) (ended_cons line behind cut.unbroken)
    ∙ ap (λ rest. continued (n + 1) (next_line r line) (λ q. read_on (n + 1) q (ended_of behind) rest)) (behind_cons line behind cut.unbroken)

pub no_more : (n : ℕ) (r : Reading) (s : List ℕ) → first_ended s ≡ None → read_bytes n r s ≡ finished (n + 1) r.functions r.current s
unfolding read_bytes
no_more n r s h =
    let none = cut_none s h in
    ap (λ lines. read_on n r lines (behind_of s)) (ended_none s none) ∙ ap (finished (n + 1) r.functions r.current) (behind_none s none)

pub shorter : (s line behind : List ℕ) → first_ended s ≡ Some (line, behind) → length behind < length s
shorter s line behind h =
    let cut = cut_some s line behind h in
    omega (arith, ap length cut.whole, length-append line (10 ∷ behind))

pub told_more : (n : ℕ) → min (told n + 1) 4294967295 ≡ told (n + 1)
told_more n = omega arith

-- how far the text was read
pub record ReadsTo (start : Reading) (text : List ℕ) (r : Reading) (rest : List ℕ) (before : ℕ) : Type 0 where
  pub n : ℕ
  pub is : before ≡ told n
  pub same : read_bytes 1 start text ≡ read_bytes n r rest

pub gives_self : (q : Result Code ListingErr) → Gives q q
gives_self (Ok c) = refl
gives_self (Err (Syntax n)) = refl
gives_self (Err Version) = refl
gives_self (Err NoMemory) = tt

pub gives : (a b : Result Code ListingErr) → a ≡ b → Gives a b
gives a b e = subst (Gives a) e (gives_self a)
