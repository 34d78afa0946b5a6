-- The tokens of a text are spellings of their kinds, and stand between its characters.
use Rattle.std.proofs.Common.{◌≡◌, ℕ, zero, suc, ◌+◌, ◌-◌, ◌<◌, ◌≤◌, Bool, true, false, ◌||◌, List, [], ◌∷◌, ◌++◌, length, take, drop, Option, Some, None, sym, refl, ap, ◌∙◌, subst, arith, get_or, IsUtf8, add-zero, nat_lt, ◌⊎◌, inl, inr}
use Rattle.std.specs.Prelude.{◌==◌, if◌then◌else◌}
use Rattle.std.specs.Char.{is_ascii_digit, is_ascii_hexdigit}
use Rattle.std.specs.Str.{IsCharBoundary}
use Rattle.std.specs.List.{list_all, prefix_len}
use Rattle.std.proofs.lemmas.Bool.{false≢true, eqb-true}
use Rattle.std.proofs.lemmas.Bool.Decides.{nat_tests}
use Rattle.std.proofs.lemmas.Str.{IsCharBoundary-before_ascii, IsCharBoundary-after_ascii}
use Rattle.std.proofs.lemmas.List.{length-append, append_assoc, take_at, drop_at, get_or-append-add, get_or_append_left}
use Rattle.pl_types.specs.declared.primitive.Primitive.{Primitive}
use Rattle.pl_types.specs.Texts.{primitive_of}
use Rattle.pl_lexer.specs.declared.token.Token.{Token}
use Rattle.pl_lexer.specs.declared.token.Kind.{Kind}
use Rattle.pl_lexer.specs.declared.token.Kind.TheVariants as kind
use Rattle.pl_lexer.specs.declared.token.Sign.{Sign}
use Rattle.pl_lexer.specs.declared.token.Word.{Word}
use Rattle.pl_lexer.specs.Lexeme.{Lexeme, blank, token, foreign}
use Rattle.pl_lexer.specs.Bytes.{begins, is_nil, is_blank, is_letter, is_name_byte, is_quote, is_octal_digit, after_run, in_line}
use Rattle.pl_lexer.specs.Tables.{sign_of, signs, foreign_signs, is_listed, look_up, reserved_of, keyword_of, foreign_words}
use Rattle.pl_lexer.specs.Numbers.{is_long_mark, ends_integer, digits_end, ends_hexadecimal, is_integer, is_decimal, number_of, is_dot_integer}
use Rattle.pl_lexer.specs.Words.{is_word, plain_of, is_dotted, goes_on, class_of, is_path, word_of, dot_word_of}
use Rattle.pl_lexer.specs.Enclosed.{closes, text_next, text_of, comment_next, slash_of}
use Rattle.pl_lexer.specs.Spelling.{spelling, Spells, blank_of, is_slash}
use Rattle.pl_lexer.specs.Spelled.{Stands, AreSpelled, bytes_of}
use Rattle.pl_lexer.specs.Tokens.{Part, lexeme_of, dot_after, Cuts, told, tokens_of, Tokenizes}
use Rattle.pl_lexer.proofs.Leading.{Leads-some}
use Rattle.pl_lexer.proofs.Tested.{some_is, test_some}
use Rattle.pl_lexer.proofs.Runs.{both, is_nil-true, run_passes}
use Rattle.pl_lexer.proofs.Integers.{either}
use Rattle.pl_lexer.proofs.Listed.{sign_passes, word_passes}
use Rattle.pl_lexer.proofs.Decimals.{number_is}
use Rattle.pl_lexer.proofs.Named.{path_is, class_path}
use Rattle.pl_lexer.proofs.Paths.{path_ascii, ascii_at}

-- neither end of the bytes lies within a character
pub record EndsAscii (bytes : List ℕ) : Type 0 where
  pub first : get_or bytes 0 0 < 128
  pub last : get_or bytes (length bytes - 1) 0 < 128

abbrev is_ascii : ℕ → Bool
is_ascii b = nat_lt b 128

ascii_ends : (bytes : List ℕ) → list_all is_ascii bytes ≡ true → EndsAscii bytes
ascii_ends bytes all = record { first = ascii_at bytes 0 all; last = ascii_at bytes (length bytes - 1) all }

all_imply : (p q : ℕ → Bool) (bytes : List ℕ) → ((b : ℕ) → p b ≡ true → q b ≡ true) → list_all p bytes ≡ true → list_all q bytes ≡ true
all_imply p q [] imply all = refl
all_imply p q (b ∷ bs) imply all =
    let parts = both (p b) (list_all p bs) all in
    rw (imply b parts.0, all_imply p q bs imply parts.1) refl

all_parts : (q : ℕ → Bool) (n : ℕ) (bytes : List ℕ) → list_all q (take n bytes) ≡ true → list_all q (drop n bytes) ≡ true → list_all q bytes ≡ true
all_parts q zero bytes front behind = behind
all_parts q (suc n) [] front behind = refl
all_parts q (suc n) (b ∷ bs) front behind =
    let parts = both (q b) (list_all q (take n bs)) front in
    rw (parts.0, all_parts q n bs parts.1 behind) refl

name_ascii : (b : ℕ) → is_name_byte b ≡ true → is_ascii b ≡ true
name_ascii b e = grind (arith, nat_tests)

digit_ascii : (b : ℕ) → is_ascii_digit b ≡ true → is_ascii b ≡ true
digit_ascii b e = grind (arith, nat_tests)

octal_ascii : (b : ℕ) → is_octal_digit b ≡ true → is_ascii b ≡ true
octal_ascii b e = grind (arith, nat_tests)

hexadecimal_ascii : (b : ℕ) → is_ascii_hexdigit b ≡ true → is_ascii b ≡ true
hexadecimal_ascii b e = grind (arith, nat_tests)

mark_ascii : (b : ℕ) → is_long_mark b ≡ true → is_ascii b ≡ true
mark_ascii b e = grind (arith, nat_tests)

x_ascii : (b : ℕ) → (b == 120 || b == 88) ≡ true → is_ascii b ≡ true
x_ascii b e = grind (arith, nat_tests)

quote_ascii : (b : ℕ) → is_quote b ≡ true → b < 128
quote_ascii b e = grind (arith, nat_tests)

word_ascii : (bytes : List ℕ) → is_word bytes ≡ true → list_all is_ascii bytes ≡ true
word_ascii bytes e = all_imply is_name_byte is_ascii bytes name_ascii (both (begins is_letter bytes) (list_all is_name_byte bytes) e).1

end_ascii : (bytes : List ℕ) → ends_integer bytes ≡ true → list_all is_ascii bytes ≡ true
end_ascii [] e = refl
end_ascii (b ∷ bs) e =
    let parts = both (is_long_mark b) (is_nil bs) e in
    rw (is_nil-true bs parts.1, mark_ascii b parts.0) refl

digits_ascii : (p : ℕ → Bool) (bytes : List ℕ) → ((b : ℕ) → p b ≡ true → is_ascii b ≡ true) → digits_end p bytes ≡ true → list_all is_ascii bytes ≡ true
digits_ascii p bytes imply e = all_parts is_ascii (prefix_len p bytes) bytes (all_imply p is_ascii (take (prefix_len p bytes) bytes) imply (run_passes p bytes)) (end_ascii (after_run p bytes) (both (begins p bytes) (ends_integer (after_run p bytes)) e).1)

hexadecimal_end_ascii : (bytes : List ℕ) → ends_hexadecimal bytes ≡ true → list_all is_ascii bytes ≡ true
hexadecimal_end_ascii [] e = refl
hexadecimal_end_ascii (b ∷ bs) e =
    let parts = both (b == 120 || b == 88) (digits_end is_ascii_hexdigit bs) e in
    rw (x_ascii b parts.0, digits_ascii is_ascii_hexdigit bs hexadecimal_ascii parts.1) refl

integer_ascii : (bytes : List ℕ) → is_integer bytes ≡ true → list_all is_ascii bytes ≡ true
integer_ascii [] e = refl
integer_ascii (b ∷ bs) e = at_zero (b == 48) refl where
  at_low : (ends_integer bs ≡ true) ⊎ (digits_end is_octal_digit bs ≡ true) → list_all is_ascii bs ≡ true
  at_low (inl f) = end_ascii bs f
  at_low (inr f) = digits_ascii is_octal_digit bs octal_ascii f

  at_end : ((ends_integer bs || digits_end is_octal_digit bs) ≡ true) ⊎ (ends_hexadecimal bs ≡ true) → list_all is_ascii bs ≡ true
  at_end (inl f) = at_low (either (ends_integer bs) (digits_end is_octal_digit bs) f)
  at_end (inr f) = hexadecimal_end_ascii bs f

  zero_ascii : (b : ℕ) → (b == 48) ≡ true → is_ascii b ≡ true
  zero_ascii b e = grind (arith, nat_tests)

  at_zero : (v : Bool) → (b == 48) ≡ v → list_all is_ascii (b ∷ bs) ≡ true
  at_zero true f = rw (zero_ascii b f, at_end (either (ends_integer bs || digits_end is_octal_digit bs) (ends_hexadecimal bs) (rw f at e))) refl
  at_zero false f = digits_ascii is_ascii_digit (b ∷ bs) digit_ascii (rw f at e)

dot_integer_ascii : (bytes : List ℕ) → is_dot_integer bytes ≡ true → list_all is_ascii bytes ≡ true
dot_integer_ascii [] e = refl
dot_integer_ascii (b ∷ bs) e = at_zero (b == 48) refl where
  zero_ascii : (b : ℕ) → (b == 48) ≡ true → is_ascii b ≡ true
  zero_ascii b e = grind (arith, nat_tests)

  at_zero : (v : Bool) → (b == 48) ≡ v → list_all is_ascii (b ∷ bs) ≡ true
  at_zero true f = rw (is_nil-true bs (rw f at e), zero_ascii b f) refl
  at_zero false f = all_imply is_ascii_digit is_ascii (b ∷ bs) digit_ascii (rw f at e)

-- the last byte of a text is its quote
text_last : (quote : ℕ) (bs : List ℕ) (state : Bool) → closes (text_next quote) state bs ≡ true → get_or bs (length bs - 1) 0 ≡ quote
text_last quote [] state e = absurd (false≢true e)
text_last quote (b ∷ bs) state e = at_state state e (text_last quote bs) where
  later : (s : Bool) (cs : List ℕ) → closes (text_next quote) s cs ≡ true → get_or cs (length cs - 1) 0 ≡ quote → get_or (b ∷ cs) (length (b ∷ cs) - 1) 0 ≡ quote
  later s [] e rest = absurd (false≢true e)
  later s (c ∷ cs) e rest =
      let place : length (b ∷ c ∷ cs) - 1 ≡ suc (length (c ∷ cs) - 1) = omega arith in
      rw place rest

  at_escaped : (v : Bool) → (b == 92 || b == quote) ≡ v → closes (text_next quote) true (b ∷ bs) ≡ true → ((s : Bool) → closes (text_next quote) s bs ≡ true → get_or bs (length bs - 1) 0 ≡ quote) → get_or (b ∷ bs) (length (b ∷ bs) - 1) 0 ≡ quote
  at_escaped true f e rest = let more : closes (text_next quote) false bs ≡ true = rw f at e in later false bs more (rest false more)
  at_escaped false f e rest = absurd (false≢true (rw f at e))

  at_quote : (v : Bool) → (b == quote) ≡ v → closes (text_next quote) false (b ∷ bs) ≡ true → ((s : Bool) → closes (text_next quote) s bs ≡ true → get_or bs (length bs - 1) 0 ≡ quote) → get_or (b ∷ bs) (length (b ∷ bs) - 1) 0 ≡ quote
  at_quote true f e rest = let alone : bs ≡ [] = is_nil-true bs (rw f at e) in rw alone (eqb-true b quote f)
  at_quote false f e rest = let more : closes (text_next quote) (b == 92) bs ≡ true = rw f at e in later (b == 92) bs more (rest (b == 92) more)

  at_state : (state : Bool) → closes (text_next quote) state (b ∷ bs) ≡ true → ((s : Bool) → closes (text_next quote) s bs ≡ true → get_or bs (length bs - 1) 0 ≡ quote) → get_or (b ∷ bs) (length (b ∷ bs) - 1) 0 ≡ quote
  at_state true e rest = at_escaped (b == 92 || b == quote) refl e rest
  at_state false e rest = at_quote (b == quote) refl e rest

text_ends : (bytes : List ℕ) → begins is_quote bytes ≡ true → text_of bytes ≡ Some (token kind.Text) → EndsAscii bytes
text_ends [] opens e = absurd (false≢true opens)
text_ends (quote ∷ bs) opens e = record { first = quote_ascii quote opens; last = at_bytes bs (test_some (closes (text_next quote) false bs) (token kind.Text) (some_is _ _ e)) } where
  at_bytes : (bs : List ℕ) → closes (text_next quote) false bs ≡ true → get_or (quote ∷ bs) (length (quote ∷ bs) - 1) 0 < 128
  at_bytes [] e = absurd (false≢true e)
  at_bytes (b ∷ bs) e =
      let place : length (quote ∷ b ∷ bs) - 1 ≡ suc (length (b ∷ bs) - 1) = omega arith in
      let last = text_last quote (b ∷ bs) false e in
      let low = quote_ascii quote opens in
      rw place (omega arith)

-- a spelling of a kind begins and ends with ASCII
spelled_ends : (k : Kind) (bytes : List ℕ) → Spells k bytes → EndsAscii bytes
spelled_ends kind.Name bytes e = ascii_ends bytes (word_ascii bytes e.0)
spelled_ends kind.DotName bytes e = ascii_ends bytes (word_ascii bytes e)
spelled_ends kind.DotInteger bytes e = ascii_ends bytes (dot_integer_ascii bytes e)
spelled_ends kind.Integer bytes e = ascii_ends bytes (integer_ascii bytes e)
spelled_ends kind.Text bytes e = text_ends bytes e.0 e.1
spelled_ends (kind.ClassName class) bytes e = ascii_ends bytes (path_ascii bytes (both (begins is_letter bytes) (goes_on bytes) e).1)
spelled_ends (kind.Prim p) bytes e = ascii_ends bytes (word_passes (λ text. list_all is_ascii text) bytes (token (kind.Prim p)) refl refl refl refl e)
spelled_ends (kind.Word w) bytes e = ascii_ends bytes (word_passes (λ text. list_all is_ascii text) bytes (token (kind.Word w)) refl refl refl refl e)
spelled_ends (kind.Sign s) bytes e = ascii_ends bytes (sign_passes (λ text. list_all is_ascii text) bytes (token (kind.Sign s)) refl refl e)

-- what a spelling of a token spells is a spelling of its kind

sign_kind : (k : Kind) (bytes : List ℕ) → sign_of bytes ≡ Some (token k) → Spells k bytes
unfolding sign_of
sign_kind k bytes e = at_listed (is_listed bytes foreign_signs) refl where
  at_sign : (o : Option Sign) → is_listed bytes foreign_signs ≡ false → look_up bytes signs ≡ o → Spells k bytes
  at_sign None f h = let none : None ≡ Some (token k) = rw (f, h) at e in absurd cc
  at_sign (Some s) f h =
      let some : Some (token (kind.Sign s)) ≡ Some (token k) = rw (f, h) at e in
      let kinds : kind.Sign s ≡ k = cc in
      subst (λ k'. Spells k' bytes) kinds (e ∙ sym some)

  at_listed : (v : Bool) → is_listed bytes foreign_signs ≡ v → Spells k bytes
  at_listed true f = let some : Some foreign ≡ Some (token k) = rw f at e in absurd cc
  at_listed false f = at_sign (look_up bytes signs) f refl

reserved_kind : (k : Kind) (bytes : List ℕ) → reserved_of bytes ≡ Some (token k) → Spells k bytes
unfolding reserved_of
reserved_kind k bytes e = at_listed (is_listed bytes foreign_words) refl where
  at_word : (o : Option Word) (p : Option Primitive) → is_listed bytes foreign_words ≡ false → keyword_of bytes ≡ o → primitive_of bytes ≡ p → Spells k bytes
  at_word (Some w) p f h i =
      let some : Some (token (kind.Word w)) ≡ Some (token k) = rw (f, h) at e in
      let kinds : kind.Word w ≡ k = cc in
      subst (λ k'. Spells k' bytes) kinds (e ∙ sym some)
  at_word None (Some p) f h i =
      let some : Some (token (kind.Prim p)) ≡ Some (token k) = rw (f, h, i) at e in
      let kinds : kind.Prim p ≡ k = cc in
      subst (λ k'. Spells k' bytes) kinds (e ∙ sym some)
  at_word None None f h i = let none : None ≡ Some (token k) = rw (f, h, i) at e in absurd cc

  at_listed : (v : Bool) → is_listed bytes foreign_words ≡ v → Spells k bytes
  at_listed true f = let some : Some foreign ≡ Some (token k) = rw f at e in absurd cc
  at_listed false f = at_word (keyword_of bytes) (primitive_of bytes) f refl refl

-- what a test tells
tested_kind : (v : Bool) (l k : Kind) (bytes : List ℕ) → (if v then Some (token l) else None) ≡ Some (token k) → (v ≡ true → Spells l bytes) → Spells k bytes
tested_kind true l k bytes e spells = let kinds : l ≡ k = cc in subst (λ k'. Spells k' bytes) kinds (spells refl)
tested_kind false l k bytes e spells = absurd cc

number_kind : (k : Kind) (bytes : List ℕ) → number_of bytes ≡ Some (token k) → Spells k bytes
number_kind k bytes e = at_case (number_is bytes (token k) e) where
  at_case : ((is_decimal bytes ≡ true) × (token k ≡ foreign)) ⊎ ((is_integer bytes ≡ true) × (token k ≡ token kind.Integer)) → Spells k bytes
  at_case (inl f) = let apart = f.1 in absurd cc
  at_case (inr f) = let same = f.1 in let kinds : kind.Integer ≡ k = cc in subst (λ k'. Spells k' bytes) kinds f.0

class_kind : (names : List ℕ → Option ℕ) (k : Kind) (bytes behind : List ℕ) → class_of names bytes behind ≡ Some (token k) → Spells k bytes
class_kind names k bytes behind e =
    let path = class_path names bytes behind (some_is _ _ e) in
    let is = path_is bytes behind path in
    at_name (names bytes) refl path (rw (is.letter, is.on) refl)
  where
    at_name : (o : Option ℕ) → names bytes ≡ o → is_path bytes behind ≡ true → is_dotted bytes ≡ true → Spells k bytes
    at_name None f path dotted = let none : None ≡ Some (token k) = rw (path, f) at e in absurd cc
    at_name (Some class) f path dotted =
        let some : Some (token (kind.ClassName class)) ≡ Some (token k) = rw (path, f) at e in
        let kinds : kind.ClassName class ≡ k = cc in
        subst (λ k'. Spells k' bytes) kinds dotted

plain_kind : (k : Kind) (bytes : List ℕ) → plain_of bytes ≡ Some (token k) → Spells k bytes
plain_kind k bytes e = at_word (is_word bytes) refl where
  at_reserved : (o : Option Lexeme) → is_word bytes ≡ true → reserved_of bytes ≡ o → Spells k bytes
  at_reserved None w f =
      let some : Some (token kind.Name) ≡ Some (token k) = rw (w, f) at e in
      let kinds : kind.Name ≡ k = cc in
      subst (λ k'. Spells k' bytes) kinds (w, f)
  at_reserved (Some l) w f =
      let some : Some l ≡ Some (token k) = rw (w, f) at e in
      reserved_kind k bytes (f ∙ some)

  at_word : (v : Bool) → is_word bytes ≡ v → Spells k bytes
  at_word true w = at_reserved (reserved_of bytes) w refl
  at_word false w = let none : None ≡ Some (token k) = rw w at e in absurd cc

word_kind : (names : List ℕ → Option ℕ) (k : Kind) (bytes behind : List ℕ) → word_of names bytes behind ≡ Some (token k) → Spells k bytes
word_kind names k bytes behind e = at_class (class_of names bytes behind) refl where
  at_class : (o : Option Lexeme) → class_of names bytes behind ≡ o → Spells k bytes
  at_class (Some l) f = let some : Some l ≡ Some (token k) = rw f at e in class_kind names k bytes behind (f ∙ some)
  at_class None f = plain_kind k bytes (rw f at e)

text_kind : (k : Kind) (bytes : List ℕ) → begins is_quote bytes ≡ true → text_of bytes ≡ Some (token k) → Spells k bytes
text_kind k [] opens e = absurd (false≢true opens)
text_kind k (quote ∷ bs) opens e = at_closed (closes (text_next quote) false bs) refl where
  at_closed : (v : Bool) → closes (text_next quote) false bs ≡ v → Spells k (quote ∷ bs)
  at_closed true f =
      let some : Some (token kind.Text) ≡ Some (token k) = rw f at e in
      let kinds : kind.Text ≡ k = cc in
      subst (λ k'. Spells k' (quote ∷ bs)) kinds (opens, rw f refl)
  at_closed false f = let none : None ≡ Some (token k) = rw f at e in absurd cc

blank_kind : (k : Kind) (bytes : List ℕ) → blank_of bytes ≡ Some (token k) → Spells k bytes
blank_kind k [] e = absurd cc
blank_kind k (b ∷ []) e = absurd cc
blank_kind k (b ∷ c ∷ bs) e = absurd cc

no_blank : (v : Bool) (k : Kind) → (if v then Some blank else None) ≡ Some (token k) → ⊥
no_blank true k e = cc
no_blank false k e = cc

slash_kind : (k : Kind) (bytes behind : List ℕ) → slash_of bytes behind ≡ Some (token k) → Spells k bytes
slash_kind k [] behind e = at_star (begins (λ b. b == 42) behind) refl where
  at_star : (v : Bool) → begins (λ b. b == 42) behind ≡ v → Spells k []
  at_star true f = let none : None ≡ Some (token k) = rw f at e in absurd cc
  at_star false f = sign_kind k [] (rw f at e)
slash_kind k (s ∷ []) behind e = at_star (begins (λ b. b == 42) behind) refl where
  at_star : (v : Bool) → begins (λ b. b == 42) behind ≡ v → Spells k (s ∷ [])
  at_star true f = let none : None ≡ Some (token k) = rw f at e in absurd cc
  at_star false f = sign_kind k (s ∷ []) (rw f at e)
slash_kind k (s ∷ b ∷ bs) behind e = at_slash (b == 47) refl where
  at_star : (v : Bool) → (b == 47) ≡ false → (b == 42) ≡ v → Spells k (s ∷ b ∷ bs)
  at_star true f g = absurd (no_blank (closes comment_next false bs) k (rw (f, g) at e))
  at_star false f g = sign_kind k (s ∷ b ∷ bs) (rw (f, g) at e)

  at_slash : (v : Bool) → (b == 47) ≡ v → Spells k (s ∷ b ∷ bs)
  at_slash true f = absurd (no_blank (list_all in_line bs) k (rw f at e))
  at_slash false f = at_star (b == 42) f refl

dot_word_spelling : (names : List ℕ → Option ℕ) (bytes behind : List ℕ) → begins is_ascii_digit bytes ≡ false → begins is_letter bytes ≡ true → spelling names true bytes behind ≡ dot_word_of bytes
unfolding spelling
dot_word_spelling names bytes behind d l = rw (d, l) refl

word_spelling : (names : List ℕ → Option ℕ) (bytes behind : List ℕ) → begins is_ascii_digit bytes ≡ false → begins is_letter bytes ≡ true → spelling names false bytes behind ≡ word_of names bytes behind
unfolding spelling
word_spelling names bytes behind d l = rw (d, l) refl

spelled_kind : (names : List ℕ → Option ℕ) (dot : Bool) (bytes behind : List ℕ) (k : Kind) → spelling names dot bytes behind ≡ Some (token k) → Spells k bytes
unfolding spelling
spelled_kind names dot bytes behind k e = at_digit (begins is_ascii_digit bytes) refl where
  at_slash : (v : Bool) → begins is_ascii_digit bytes ≡ false → begins is_letter bytes ≡ false → begins is_quote bytes ≡ false → begins is_blank bytes ≡ false → begins is_slash bytes ≡ v → Spells k bytes
  at_slash true d l q w s = slash_kind k bytes behind (rw (d, l, q, w, s) at e)
  at_slash false d l q w s = sign_kind k bytes (rw (d, l, q, w, s) at e)

  at_blank : (v : Bool) → begins is_ascii_digit bytes ≡ false → begins is_letter bytes ≡ false → begins is_quote bytes ≡ false → begins is_blank bytes ≡ v → Spells k bytes
  at_blank true d l q w = blank_kind k bytes (rw (d, l, q, w) at e)
  at_blank false d l q w = at_slash (begins is_slash bytes) d l q w refl

  at_quote : (v : Bool) → begins is_ascii_digit bytes ≡ false → begins is_letter bytes ≡ false → begins is_quote bytes ≡ v → Spells k bytes
  at_quote true d l q = text_kind k bytes q (rw (d, l, q) at e)
  at_quote false d l q = at_blank (begins is_blank bytes) d l q refl

  at_dot_word : (v : Bool) → begins is_ascii_digit bytes ≡ false → begins is_letter bytes ≡ true → dot ≡ v → Spells k bytes
  at_dot_word true d l f = tested_kind (is_word bytes) kind.DotName k bytes (sym (dot_word_spelling names bytes behind d l) ∙ ap (λ t. spelling names t bytes behind) (sym f) ∙ e) (λ t. t)
  at_dot_word false d l f = word_kind names k bytes behind (sym (word_spelling names bytes behind d l) ∙ ap (λ t. spelling names t bytes behind) (sym f) ∙ e)

  at_letter : (v : Bool) → begins is_ascii_digit bytes ≡ false → begins is_letter bytes ≡ v → Spells k bytes
  at_letter true d l = at_dot_word dot d l refl
  at_letter false d l = at_quote (begins is_quote bytes) d l refl

  at_dot : (v : Bool) → begins is_ascii_digit bytes ≡ true → dot ≡ v → Spells k bytes
  at_dot true d f = tested_kind (is_dot_integer bytes) kind.DotInteger k bytes (rw (d, f) at e) (λ t. t)
  at_dot false d f = number_kind k bytes (rw (d, f) at e)

  at_digit : (v : Bool) → begins is_ascii_digit bytes ≡ v → Spells k bytes
  at_digit true d = at_dot dot d refl
  at_digit false d = at_letter (begins is_letter bytes) d refl

-- a token whose text has front ++ bytes ++ behind, of which the bytes are its spelling
stands : (text front bytes behind : List ℕ) (kind : Kind) (from : ℕ) → IsUtf8 text → front ++ (bytes ++ behind) ≡ text → from ≤ length front → 0 < length bytes → Spells kind bytes → Stands text from (record { kind = kind; start = length front; end = length front + length bytes })
stands text front bytes behind kind from utf8 parts after some spells =
    let long : length front + (length bytes + length behind) ≡ length text = omega (arith, ap length parts, length-append front (bytes ++ behind), length-append bytes behind) in
    let ends = spelled_ends kind bytes spells in
    let last : ℕ = length bytes - 1 in
    let byte : (i : ℕ) → i < length bytes → get_or text (length front + i) 0 ≡ get_or bytes i 0 = λ i lt. ap (λ t. get_or t (length front + i) 0) (sym parts) ∙ get_or-append-add front (bytes ++ behind) i 0 ∙ get_or_append_left bytes behind 0 i lt in
    let start_byte : get_or text (length front) 0 < 128 = omega (arith, ap (λ i. get_or text i 0) (sym (add-zero (length front))) ∙ byte 0 some, ends.first) in
    let last_place : last < length bytes = omega arith in
    let end_byte : get_or text (length front + last) 0 < 128 = omega (arith, byte last last_place, ends.last) in
    let after_last : length front + last + 1 ≡ length front + length bytes = omega arith in
    let boundary = IsCharBoundary-after_ascii text (length front + last) utf8 (omega arith) end_byte in
    let tail : drop (length front) text ≡ bytes ++ behind = ap (drop (length front)) (sym parts) ∙ drop_at front (bytes ++ behind) (length front) refl in
    let size : length front + length bytes - length front ≡ length bytes = omega arith in
    let piece : bytes_of text (record { kind = kind; start = length front; end = length front + length bytes }) ≡ bytes = rw (tail, size) (take_at bytes behind (length bytes) refl) in
    record {
      after = after;
      some = omega arith;
      within = omega arith;
      starts = IsCharBoundary-before_ascii text (length front) (omega arith) start_byte;
      ends = subst (IsCharBoundary text) after_last boundary;
      spelled = subst (Spells kind) (sym piece) spells;
    }

cut_spelled : (names : List ℕ → Option ℕ) (parts : List Part) (dot : Bool) (text front rest end : List ℕ) (from : ℕ) → IsUtf8 text → front ++ rest ≡ text → from ≤ length front → Cuts names dot parts rest end → AreSpelled text from (tokens_of (length front) parts)
cut_spelled names [] dot text front rest end from utf8 whole after cuts = tt
cut_spelled names (part ∷ parts) dot text front rest end from utf8 whole after cuts =
    let behind = cuts.0 in
    let led = cuts.1.0 in
    let joined : front ++ (part.bytes ++ behind) ≡ text = ap (λ r. front ++ r) led.parts ∙ whole in
    let next : (front ++ part.bytes) ++ behind ≡ text = append_assoc front part.bytes behind ∙ joined in
    let place : length (front ++ part.bytes) ≡ length front + length part.bytes = length-append front part.bytes in
    let some = Leads-some names dot rest part.bytes behind (lexeme_of part.kind) led in
    let more : (low : ℕ) → low ≤ length (front ++ part.bytes) → AreSpelled text low (tokens_of (length (front ++ part.bytes)) parts) = λ low bound. cut_spelled names parts (dot_after dot part.kind) text (front ++ part.bytes) behind end low utf8 next bound cuts.1.1 in
    let told_more : (low : ℕ) → low ≤ length front + length part.bytes → AreSpelled text low (tokens_of (length front + length part.bytes) parts) = λ low bound. subst (λ n. AreSpelled text low (tokens_of n parts)) place (more low (omega arith)) in
    with_kind part.kind led.spells told_more joined some
  where
    with_kind : (kind : Option Kind) → spelling names dot part.bytes cuts.0 ≡ Some (lexeme_of kind) → ((low : ℕ) → low ≤ length front + length part.bytes → AreSpelled text low (tokens_of (length front + length part.bytes) parts)) → front ++ (part.bytes ++ cuts.0) ≡ text → 0 < length part.bytes → AreSpelled text from (told kind (length front) (length front + length part.bytes) (tokens_of (length front + length part.bytes) parts))
    with_kind None spelled more joined some = more from (omega arith)
    with_kind (Some kind) spelled more joined some = (stands text front part.bytes cuts.0 kind from utf8 joined after some (spelled_kind names dot part.bytes cuts.0 kind spelled), more (length front + length part.bytes) (omega arith))

-- all tokens of a text are spelled in it
pub all_spelled : (text : List ℕ) (names : List ℕ → Option ℕ) (tokens : List Token) → IsUtf8 text → Tokenizes text names tokens → AreSpelled text 0 tokens
all_spelled text names tokens utf8 a = subst (AreSpelled text 0) (sym a.tokens_are) (cut_spelled names a.parts false text [] text [] 0 utf8 refl (omega arith) a.cuts)
