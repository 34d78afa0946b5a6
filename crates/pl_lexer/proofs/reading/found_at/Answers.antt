use Rattle.std.proofs.Common.{◌≡◌, ◌<◌, true, false, length, drop, sym, ◌∙◌, ap, subst, arith, length-drop, refl}
use Rattle.std.specs.Char.{is_ascii_digit}
use Rattle.std.proofs.lemmas.Bool.{eq-eqb}
use Rattle.pl_lexer.specs.Longest.{Finds}
use Rattle.pl_lexer.specs.Bytes.{is_blank, is_letter, is_quote}
use Rattle.pl_lexer.specs.Numbers.{number_of, dot_number_of}
use Rattle.pl_lexer.specs.Words.{word_of, dot_word_of}
use Rattle.pl_lexer.specs.Enclosed.{text_of, slash_of}
use Rattle.pl_lexer.specs.Tables.{sign_of}
use Rattle.pl_lexer.specs.Spelling.{spelling}
use Rattle.pl_lexer.proofs.Fronts.{first_test, slash_test, not_slash, found_by, digits_agree, dot_digits_agree, words_agree, dot_words_agree, texts_agree, slashes_agree, signs_agree, blank_leads}
use Rattle.pl_lexer.proofs.reading.found_at.Given as given
use Rattle.pl_lexer.proofs.reading.found_at.Goals as goal
use Rattle.pl_lexer.proofs.reading.found_at.Goals.{After-is_ascii_digit}

rest_is : (g : given.Over) (c : After-is_ascii_digit g) → c.split_at.result.1.now ≡ drop c.args.at c.args.text.now
rest_is g c = c.split_at.ensures.back ∙ ap (drop c.args.at) c.as_bytes.ensures.value

some : (g : given.Over) (c : After-is_ascii_digit g) → 0 < length (drop c.args.at c.args.text.now)
some g c = omega (arith, length-drop c.args.at c.args.text.now, c.requires)

pub returns-then-dot : goal.returns-then-dot
returns-then-dot g c =
    let names = g.N.TypeNames.class_of c.args.names.now in
    let a = (goal.at.returns-then-dot g c).After-is_ascii_digit in
    let text = drop c.args.at c.args.text.now in
    let digit = first_test is_ascii_digit _ text true _ (rest_is g a) (some g a) c.is_ascii_digit.ensures.value c.if-is_ascii_digit.true in
    subst (λ d. Finds (spelling names d) text c.dot_number_found.result) (sym c.if-dot.true) (found_by (λ bytes _. dot_number_of bytes) (spelling names true) _ text c.dot_number_found.result (rest_is g a) (dot_digits_agree names text digit) c.dot_number_found.ensures)

pub returns-else-dot : goal.returns-else-dot
returns-else-dot g c =
    let names = g.N.TypeNames.class_of c.args.names.now in
    let a = (goal.at.returns-else-dot g c).After-is_ascii_digit in
    let text = drop c.args.at c.args.text.now in
    let digit = first_test is_ascii_digit _ text true _ (rest_is g a) (some g a) c.is_ascii_digit.ensures.value c.if-is_ascii_digit.true in
    subst (λ d. Finds (spelling names d) text c.number_found.result) (sym c.if-dot.false) (found_by (λ bytes _. number_of bytes) (spelling names false) _ text c.number_found.result (rest_is g a) (digits_agree names text digit) c.number_found.ensures)

pub returns-then-dot-2 : goal.returns-then-dot-2
returns-then-dot-2 g c =
    let names = g.N.TypeNames.class_of c.args.names.now in
    let a = (goal.at.returns-then-dot-2 g c).After-is_ascii_digit in
    let text = drop c.args.at c.args.text.now in
    let digit = first_test is_ascii_digit _ text false _ (rest_is g a) (some g a) c.is_ascii_digit.ensures.value c.if-is_ascii_digit.false in
    let letter = first_test is_letter _ text true _ (rest_is g a) (some g a) c.is_letter.ensures c.if-is_letter.true in
    subst (λ d. Finds (spelling names d) text c.dot_word_found.result) (sym c.if-dot-2.true) (found_by (λ bytes _. dot_word_of bytes) (spelling names true) _ text c.dot_word_found.result (rest_is g a) (dot_words_agree names text digit letter) c.dot_word_found.ensures)

pub returns-else-dot-2 : goal.returns-else-dot-2
returns-else-dot-2 g c =
    let names = g.N.TypeNames.class_of c.args.names.now in
    let a = (goal.at.returns-else-dot-2 g c).After-is_ascii_digit in
    let text = drop c.args.at c.args.text.now in
    let digit = first_test is_ascii_digit _ text false _ (rest_is g a) (some g a) c.is_ascii_digit.ensures.value c.if-is_ascii_digit.false in
    let letter = first_test is_letter _ text true _ (rest_is g a) (some g a) c.is_letter.ensures c.if-is_letter.true in
    subst (λ d. Finds (spelling names d) text c.word_found.result) (sym c.if-dot-2.false) (found_by (word_of names) (spelling names false) text text c.word_found.result refl (words_agree names text digit letter) c.word_found.ensures)

pub returns-then-is_quote : goal.returns-then-is_quote
returns-then-is_quote g c =
    let names = g.N.TypeNames.class_of c.args.names.now in
    let a = (goal.at.returns-then-is_quote g c).After-is_ascii_digit in
    let text = drop c.args.at c.args.text.now in
    let digit = first_test is_ascii_digit _ text false _ (rest_is g a) (some g a) c.is_ascii_digit.ensures.value c.if-is_ascii_digit.false in
    let letter = first_test is_letter _ text false _ (rest_is g a) (some g a) c.is_letter.ensures c.if-is_letter.false in
    let quote = first_test is_quote _ text true _ (rest_is g a) (some g a) c.is_quote.ensures c.if-is_quote.true in
    found_by (λ bytes _. text_of bytes) (spelling names c.args.dot) _ text c.text_found.result (rest_is g a) (texts_agree names c.args.dot text digit letter quote) c.text_found.ensures

pub returns-then-is_blank : goal.returns-then-is_blank
returns-then-is_blank g c =
    let names = g.N.TypeNames.class_of c.args.names.now in
    let a = (goal.at.returns-then-is_blank g c).After-is_ascii_digit in
    let text = drop c.args.at c.args.text.now in
    let digit = first_test is_ascii_digit _ text false _ (rest_is g a) (some g a) c.is_ascii_digit.ensures.value c.if-is_ascii_digit.false in
    let letter = first_test is_letter _ text false _ (rest_is g a) (some g a) c.is_letter.ensures c.if-is_letter.false in
    let quote = first_test is_quote _ text false _ (rest_is g a) (some g a) c.is_quote.ensures c.if-is_quote.false in
    let white = first_test is_blank _ text true _ (rest_is g a) (some g a) c.is_blank.ensures c.if-is_blank.true in
    blank_leads names c.args.dot text digit letter quote white

pub returns-then-first-eq47 : goal.returns-then-first-eq47
returns-then-first-eq47 g c =
    let names = g.N.TypeNames.class_of c.args.names.now in
    let a = (goal.at.returns-then-first-eq47 g c).After-is_ascii_digit in
    let text = drop c.args.at c.args.text.now in
    let digit = first_test is_ascii_digit _ text false _ (rest_is g a) (some g a) c.is_ascii_digit.ensures.value c.if-is_ascii_digit.false in
    let letter = first_test is_letter _ text false _ (rest_is g a) (some g a) c.is_letter.ensures c.if-is_letter.false in
    let quote = first_test is_quote _ text false _ (rest_is g a) (some g a) c.is_quote.ensures c.if-is_quote.false in
    let white = first_test is_blank _ text false _ (rest_is g a) (some g a) c.is_blank.ensures c.if-is_blank.false in
    let slash = slash_test _ text true (rest_is g a) (some g a) (eq-eqb _ 47 c.if-first-eq47.true) in
    found_by slash_of (spelling names c.args.dot) _ text c.slash_found.result (rest_is g a) (slashes_agree names c.args.dot text digit letter quote white slash) c.slash_found.ensures

pub returns : goal.returns
returns g c =
    let names = g.N.TypeNames.class_of c.args.names.now in
    let a = (goal.at.returns g c).After-is_ascii_digit in
    let text = drop c.args.at c.args.text.now in
    let digit = first_test is_ascii_digit _ text false _ (rest_is g a) (some g a) c.is_ascii_digit.ensures.value c.if-is_ascii_digit.false in
    let letter = first_test is_letter _ text false _ (rest_is g a) (some g a) c.is_letter.ensures c.if-is_letter.false in
    let quote = first_test is_quote _ text false _ (rest_is g a) (some g a) c.is_quote.ensures c.if-is_quote.false in
    let white = first_test is_blank _ text false _ (rest_is g a) (some g a) c.is_blank.ensures c.if-is_blank.false in
    let slash = slash_test _ text false (rest_is g a) (some g a) (not_slash _ c.if-first-eq47.false) in
    found_by (λ bytes _. sign_of bytes) (spelling names c.args.dot) _ text c.sign_found.result (rest_is g a) (signs_agree names c.args.dot text digit letter quote white slash) c.sign_found.ensures
