-- What holds of each row of the tables, and the longest sign at the front of a text.
use Rattle.std.proofs.Common.{◌≡◌, ℕ, ◌-◌, ◌<◌, ◌≤◌, min, Bool, true, false, List, [], ◌∷◌, ◌++◌, length, take, drop, Option, Some, None, map, sym, refl, ap, ◌∙◌, subst, arith, nat_le, ⊎_elim, ◌⊎◌, inl, inr}
use Rattle.std.specs.Prelude.{IsSome}
use Rattle.std.specs.List.{list_all}
use Rattle.std.specs.Str.{bytes_eq}
use Rattle.std.proofs.lemmas.Slice.Eq.{bytes_eq-Decides}
use Rattle.std.proofs.lemmas.Bool.{false≢true}
use Rattle.std.proofs.lemmas.Bool.Decides.{nat_tests}
use Rattle.std.proofs.lemmas.List.{length-append, length-take-le, take_at}
use Rattle.std.proofs.str.Laws.{order}
use Rattle.pl_lexer.specs.declared.found.Found.{Found}
use Rattle.pl_lexer.specs.declared.found.Found.TheVariants.{Nothing, Foreign, Blank, Leading}
use Rattle.pl_lexer.specs.declared.token.Sign.{Sign}
use Rattle.pl_lexer.specs.Lexeme.{Lexeme, token, foreign}
use Rattle.pl_lexer.specs.Longest.{LeadsBy, NothingLeads, Finds, Shows}
use Rattle.pl_lexer.specs.Tables.{look_up, is_listed, signs, foreign_signs, sign_token, sign_of, statement_words, expression_words, keyword_or, foreign_words, word_token, reserved_of}
use Rattle.pl_lexer.specs.declared.token.Word.{Word}
use Rattle.pl_types.specs.declared.primitive.Primitive.{Primitive}
use Rattle.pl_types.specs.declared.primitive.Primitive.TheVariants as prim
use Rattle.pl_types.specs.Texts.{primitive_word, primitive_of}
use Rattle.pl_lexer.proofs.Runs.{both}
use Rattle.pl_lexer.proofs.Integers.{either}
use Rattle.pl_lexer.proofs.Tested.{lead_by, none_is}

bytes_eq-true : (bs ks : List ℕ) → bytes_eq bs ks ≡ true → bs ≡ ks
bytes_eq-true bs ks e = (bytes_eq-Decides bs ks).0 e

-- a test that the texts of all rows pass, a text that is found passes
pub look_up-passes : {X : Type 0} (test : List ℕ → Bool) (rows : List (List ℕ × X)) (bytes : List ℕ) (x : X) → list_all (λ row. test row.0) rows ≡ true → look_up bytes rows ≡ Some x → test bytes ≡ true
look_up-passes test [] bytes x all found = absurd cc
look_up-passes {X} test ((text, y) ∷ rows) bytes x all found =
    let parts = both (test text) (list_all (λ (row : List ℕ × X). test row.0) rows) all in
    at_row (bytes_eq bytes text) refl parts.0 (look_up-passes test rows bytes x parts.1)
  where
    at_row : (v : Bool) → bytes_eq bytes text ≡ v → test text ≡ true → (look_up bytes rows ≡ Some x → test bytes ≡ true) → test bytes ≡ true
    at_row true e here later = subst (λ t. test t ≡ true) (sym (bytes_eq-true bytes text e)) here
    at_row false e here later = later (rw e at found)

pub is_listed-passes : (test : List ℕ → Bool) (texts : List (List ℕ)) (bytes : List ℕ) → list_all test texts ≡ true → is_listed bytes texts ≡ true → test bytes ≡ true
is_listed-passes test [] bytes all found = absurd (false≢true found)
is_listed-passes test (text ∷ texts) bytes all found =
    let parts = both (test text) (list_all test texts) all in
    at_row (either (bytes_eq bytes text) (is_listed bytes texts) found) parts.0 (is_listed-passes test texts bytes parts.1)
  where
    at_row : (bytes_eq bytes text ≡ true) ⊎ (is_listed bytes texts ≡ true) → test text ≡ true → (is_listed bytes texts ≡ true → test bytes ≡ true) → test bytes ≡ true
    at_row (inl e) here later = subst (λ t. test t ≡ true) (sym (bytes_eq-true bytes text e)) here
    at_row (inr e) here later = later e

-- a test that each sign passes
pub sign_passes : (test : List ℕ → Bool) (bytes : List ℕ) (l : Lexeme) → list_all test foreign_signs ≡ true → list_all (λ (row : List ℕ × Sign). test row.0) signs ≡ true → sign_of bytes ≡ Some l → test bytes ≡ true
unfolding sign_of
sign_passes test bytes l foreigns all found = at_listed (is_listed bytes foreign_signs) refl where
  at_sign : (o : Option Sign) → look_up bytes signs ≡ o → sign_token o ≡ Some l → test bytes ≡ true
  at_sign (Some s) e some = look_up-passes test signs bytes s all e
  at_sign None e some = absurd cc

  at_listed : (v : Bool) → is_listed bytes foreign_signs ≡ v → test bytes ≡ true
  at_listed true f = is_listed-passes test foreign_signs bytes foreigns f
  at_listed false f = at_sign (look_up bytes signs) refl (rw f at found)

pub sign_short : (bytes : List ℕ) (l : Lexeme) → sign_of bytes ≡ Some l → length bytes ≤ 4
sign_short bytes l e = let short = sign_passes (λ text. nat_le (length text) 4) bytes l refl refl e in grind (arith, nat_tests)

-- no front longer than this is a sign
pub record NoSignAbove (text : List ℕ) (size : ℕ) : Type 0 where
  pub within : size ≤ length text
  pub none : (m : ℕ) → size < m → m ≤ length text → sign_of (take m text) ≡ None

pub none_above_four : (text : List ℕ) → NoSignAbove text (min (length text) 4)
none_above_four text = record { within = omega arith; none = λ m above below. at_sign m (sign_of (take m text)) refl above below } where
  at_sign : (m : ℕ) (o : Option Lexeme) → sign_of (take m text) ≡ o → min (length text) 4 < m → m ≤ length text → sign_of (take m text) ≡ None
  at_sign m None e above below = e
  at_sign m (Some l) e above below = absurd (omega (arith, sign_short (take m text) l e, length-take-le m text below))

pub one_less : (text : List ℕ) (size : ℕ) → 0 < size → NoSignAbove text size → sign_of (take size text) ≡ None → NoSignAbove text (size - 1)
one_less text size some a here = record { within = omega (arith, a.within); none = λ m above below. at_place m above below (order size m) } where
  at_place : (m : ℕ) → size - 1 < m → m ≤ length text → (size < m) ⊎ (m ≤ size) → sign_of (take m text) ≡ None
  at_place m above below (inl more) = a.none m more below
  at_place m above below (inr same) = let is : m ≡ size = omega arith in ap (λ n. sign_of (take n text)) is ∙ here

sign_most : (text : List ℕ) (size : ℕ) → NoSignAbove text size → (more left : List ℕ) → more ++ left ≡ text → IsSome (sign_of more) → length more ≤ size
sign_most text size a more left e some = ⊎_elim (λ long. absurd (too_long long)) (λ short. short) (order size (length more)) where
  too_long : size < length more → ⊥
  too_long long =
      let whole : take (length more) text ≡ more = ap (take (length more)) (sym e) ∙ take_at more left (length more) refl in
      let none = a.none (length more) long (omega (arith, ap length e, length-append more left)) in
      none_is (sign_of more) (ap sign_of (sym whole) ∙ none) some

pub sign_shown : (text : List ℕ) (size : ℕ) (found : Found) → NoSignAbove text size → Shows (sign_of (take size text)) (length (take size text)) found → (found ≡ Nothing → ⊥) → Finds (λ bytes _. sign_of bytes) text found
sign_shown text size Nothing a shows some = absurd (some refl)
sign_shown text size Foreign a shows some = (take size text, (drop size text, (lead_by (λ bytes _. sign_of bytes) text size foreign a.within shows (sign_most text size a)).leads))
sign_shown text size (Blank m) a shows some = absurd shows
sign_shown text size (Leading kind m) a shows some =
    let long : m ≡ size = shows.1 ∙ length-take-le size text a.within in
    subst (λ n. LeadsBy (λ bytes _. sign_of bytes) text n (token kind)) (sym long) (lead_by (λ bytes _. sign_of bytes) text size (token kind) a.within shows.0 (sign_most text size a))

pub no_sign : (text : List ℕ) → NoSignAbove text 0 → NothingLeads (λ bytes _. sign_of bytes) text
unfolding sign_of
no_sign text a [] left e some = false≢true some
no_sign text a (c ∷ cs) left e some = omega (arith, sign_most text 0 a (c ∷ cs) left e some)

-- the keywords of the primitive types, as a table
abbrev pub primitive_rows : List (List ℕ × Primitive)
primitive_rows = map (λ p. (primitive_word p, p)) (prim.Boolean ∷ prim.Byte ∷ prim.Short ∷ prim.Char ∷ prim.Int ∷ prim.Long ∷ [])

-- a test that each keyword, primitive type and foreign word passes
pub word_passes : (test : List ℕ → Bool) (bytes : List ℕ) (l : Lexeme) → list_all test foreign_words ≡ true → list_all (λ (row : List ℕ × Word). test row.0) statement_words ≡ true → list_all (λ (row : List ℕ × Word). test row.0) expression_words ≡ true → list_all (λ (row : List ℕ × Primitive). test row.0) primitive_rows ≡ true → reserved_of bytes ≡ Some l → test bytes ≡ true
unfolding reserved_of
word_passes test bytes l foreigns statements expressions types found = at_listed (is_listed bytes foreign_words) refl where
  at_words : (o : Option Word) (p : Option Word) (q : Option Primitive) → look_up bytes statement_words ≡ o → look_up bytes expression_words ≡ p → primitive_of bytes ≡ q → word_token (keyword_or o p) q ≡ Some l → test bytes ≡ true
  at_words (Some w) p q e f h some = look_up-passes test statement_words bytes w statements e
  at_words None (Some w) q e f h some = look_up-passes test expression_words bytes w expressions f
  at_words None None (Some t) e f h some = look_up-passes test primitive_rows bytes t types h
  at_words None None None e f h some = absurd cc

  at_listed : (v : Bool) → is_listed bytes foreign_words ≡ v → test bytes ≡ true
  at_listed true f = is_listed-passes test foreign_words bytes foreigns f
  at_listed false f = at_words (look_up bytes statement_words) (look_up bytes expression_words) (primitive_of bytes) refl refl refl (rw f at found)
