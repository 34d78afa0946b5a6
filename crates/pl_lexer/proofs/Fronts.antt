-- What leads a text, by its first byte.
use Rattle.std.proofs.Common.{◌≡◌, ℕ, ◌<◌, ◌≤◌, Bool, true, false, List, [], ◌∷◌, ◌++◌, length, Option, sym, refl, ap, ◌∙◌, subst, arith, get_or}
use Rattle.std.specs.Prelude.{IsSome, ◌==◌}
use Rattle.std.specs.Char.{is_ascii_digit}
use Rattle.std.proofs.lemmas.Bool.{false≢true, eqb-true}
use Rattle.pl_lexer.specs.Lexeme.{Lexeme, blank}
use Rattle.pl_lexer.specs.Longest.{LeadsBy, Finds}
use Rattle.pl_lexer.specs.declared.found.Found.{Found}
use Rattle.pl_lexer.specs.Bytes.{begins, is_blank, is_letter, is_quote}
use Rattle.pl_lexer.specs.Tables.{sign_of}
use Rattle.pl_lexer.specs.Numbers.{number_of, dot_number_of}
use Rattle.pl_lexer.specs.Words.{word_of, dot_word_of}
use Rattle.pl_lexer.specs.Enclosed.{text_of, slash_of}
use Rattle.pl_lexer.specs.Spelling.{spelling, blank_of, is_slash}
use Rattle.pl_lexer.proofs.Runs.{begins_more}
use Rattle.pl_lexer.proofs.Tested.{Agree, LeadsBy-agree, Finds-agree}

-- a text that is not empty begins with its byte 0
pub begins_at : (p : ℕ → Bool) (text : List ℕ) → 0 < length text → begins p text ≡ p (get_or text 0 0)
begins_at p [] some = absurd (omega arith)
begins_at p (b ∷ bs) some = refl

pub digits_agree : (names : List ℕ → Option ℕ) (text : List ℕ) → begins is_ascii_digit text ≡ true → Agree (λ bytes _. number_of bytes) (spelling names false) text
unfolding spelling sign_of
digits_agree names text d [] left e = refl
digits_agree names text d (c ∷ cs) left e = rw (begins_more is_ascii_digit c cs left text e ∙ d) refl

pub dot_digits_agree : (names : List ℕ → Option ℕ) (text : List ℕ) → begins is_ascii_digit text ≡ true → Agree (λ bytes _. dot_number_of bytes) (spelling names true) text
unfolding spelling sign_of
dot_digits_agree names text d [] left e = refl
dot_digits_agree names text d (c ∷ cs) left e = rw (begins_more is_ascii_digit c cs left text e ∙ d) refl

pub words_agree : (names : List ℕ → Option ℕ) (text : List ℕ) → begins is_ascii_digit text ≡ false → begins is_letter text ≡ true → Agree (word_of names) (spelling names false) text
unfolding spelling sign_of
words_agree names text d l [] left e = refl
words_agree names text d l (c ∷ cs) left e = rw (begins_more is_ascii_digit c cs left text e ∙ d, begins_more is_letter c cs left text e ∙ l) refl

pub dot_words_agree : (names : List ℕ → Option ℕ) (text : List ℕ) → begins is_ascii_digit text ≡ false → begins is_letter text ≡ true → Agree (λ bytes _. dot_word_of bytes) (spelling names true) text
unfolding spelling sign_of
dot_words_agree names text d l [] left e = refl
dot_words_agree names text d l (c ∷ cs) left e = rw (begins_more is_ascii_digit c cs left text e ∙ d, begins_more is_letter c cs left text e ∙ l) refl

pub texts_agree : (names : List ℕ → Option ℕ) (dot : Bool) (text : List ℕ) → begins is_ascii_digit text ≡ false → begins is_letter text ≡ false → begins is_quote text ≡ true → Agree (λ bytes _. text_of bytes) (spelling names dot) text
unfolding spelling sign_of
texts_agree names dot text d l q [] left e = refl
texts_agree names dot text d l q (c ∷ cs) left e = rw (begins_more is_ascii_digit c cs left text e ∙ d, begins_more is_letter c cs left text e ∙ l, begins_more is_quote c cs left text e ∙ q) refl

blanks_agree : (names : List ℕ → Option ℕ) (dot : Bool) (text : List ℕ) → begins is_ascii_digit text ≡ false → begins is_letter text ≡ false → begins is_quote text ≡ false → begins is_blank text ≡ true → Agree (λ bytes _. blank_of bytes) (spelling names dot) text
unfolding spelling sign_of
blanks_agree names dot text d l q w [] left e = refl
blanks_agree names dot text d l q w (c ∷ cs) left e = rw (begins_more is_ascii_digit c cs left text e ∙ d, begins_more is_letter c cs left text e ∙ l, begins_more is_quote c cs left text e ∙ q, begins_more is_blank c cs left text e ∙ w) refl

pub slashes_agree : (names : List ℕ → Option ℕ) (dot : Bool) (text : List ℕ) → begins is_ascii_digit text ≡ false → begins is_letter text ≡ false → begins is_quote text ≡ false → begins is_blank text ≡ false → begins is_slash text ≡ true → Agree slash_of (spelling names dot) text
unfolding spelling sign_of
slashes_agree names dot text d l q w s [] left e = nil_slash left where
  nil_slash : (left : List ℕ) → slash_of [] left ≡ spelling names dot [] left
  nil_slash left = at_star (begins (λ b. b == 42) left) refl where
    at_star : (v : Bool) → begins (λ b. b == 42) left ≡ v → slash_of [] left ≡ spelling names dot [] left
    at_star true f = rw f refl
    at_star false f = rw f refl
slashes_agree names dot text d l q w s (c ∷ cs) left e = rw (begins_more is_ascii_digit c cs left text e ∙ d, begins_more is_letter c cs left text e ∙ l, begins_more is_quote c cs left text e ∙ q, begins_more is_blank c cs left text e ∙ w, begins_more is_slash c cs left text e ∙ s) refl

pub signs_agree : (names : List ℕ → Option ℕ) (dot : Bool) (text : List ℕ) → begins is_ascii_digit text ≡ false → begins is_letter text ≡ false → begins is_quote text ≡ false → begins is_blank text ≡ false → begins is_slash text ≡ false → Agree (λ bytes _. sign_of bytes) (spelling names dot) text
unfolding spelling sign_of
signs_agree names dot text d l q w s [] left e = refl
signs_agree names dot text d l q w s (c ∷ cs) left e = rw (begins_more is_ascii_digit c cs left text e ∙ d, begins_more is_letter c cs left text e ∙ l, begins_more is_quote c cs left text e ∙ q, begins_more is_blank c cs left text e ∙ w, begins_more is_slash c cs left text e ∙ s) refl

-- one blank leads
pub blank_leads : (names : List ℕ → Option ℕ) (dot : Bool) (text : List ℕ) → begins is_ascii_digit text ≡ false → begins is_letter text ≡ false → begins is_quote text ≡ false → begins is_blank text ≡ true → LeadsBy (spelling names dot) text 1 blank
blank_leads names dot [] d l q w = absurd (false≢true w)
blank_leads names dot (b ∷ bs) d l q w = LeadsBy-agree (λ bytes _. blank_of bytes) (spelling names dot) (b ∷ bs) 1 blank (blanks_agree names dot (b ∷ bs) d l q w) (record {
  within = omega arith;
  leads = record { parts = refl; spells = refl; longest = one_byte };
}) where
  one_byte : (more left : List ℕ) → more ++ left ≡ b ∷ bs → IsSome (blank_of more) → length more ≤ 1
  one_byte [] left e some = omega arith
  one_byte (c ∷ []) left e some = omega arith
  one_byte (c ∷ c' ∷ cs) left e some = absurd (false≢true some)

-- what a test of the first byte says of the text
pub first_test : (p : ℕ → Bool) (rest text : List ℕ) (v tested : Bool) → rest ≡ text → 0 < length text → tested ≡ p (get_or rest 0 0) → tested ≡ v → begins p text ≡ v
first_test p rest text v tested rest_is some test is = begins_at p text some ∙ ap (λ r. p (get_or r 0 0)) (sym rest_is) ∙ sym test ∙ is

-- what is found in the rest is found in the text
pub found_by : (f h : List ℕ → List ℕ → Option Lexeme) (rest text : List ℕ) (found : Found) → rest ≡ text → Agree f h text → Finds f rest found → Finds h text found
found_by f h rest text found rest_is agree finds = Finds-agree f h text found agree (subst (λ r. Finds f r found) rest_is finds)

pub slash_test : (rest text : List ℕ) (v : Bool) → rest ≡ text → 0 < length text → (get_or rest 0 0 == 47) ≡ v → begins is_slash text ≡ v
slash_test rest text v rest_is some e = begins_at is_slash text some ∙ ap (λ r. get_or r 0 0 == 47) (sym rest_is) ∙ e

pub not_slash : (b : ℕ) → (b ≡ 47 → ⊥) → (b == 47) ≡ false
not_slash b apart = at_test (b == 47) refl where
  at_test : (v : Bool) → (b == 47) ≡ v → (b == 47) ≡ false
  at_test true f = absurd (apart (eqb-true b 47 f))
  at_test false f = f
