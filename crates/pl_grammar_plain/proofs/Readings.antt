-- What the tokens of a text are, with the conditions on the tokens ahead and without.
use Rattle.std.proofs.Common.{ℕ, List, [], ◌∷◌, ◌++◌, Option, Some, None, Result, Ok, Err, refl, sym, subst, append_assoc}
use Rattle.std.proofs.lemmas.List.{append-nil}
use Rattle.pl_lexer.specs.declared.token.Token.{Token}
use Rattle.pl_types.specs.declared.refusal.Refusal.{Refusal}
use Rattle.pl_tree.specs.declared.tree.Tree.{Tree}
use Rattle.pl_nesting.specs.Nesting.{nesting_fault}
use Rattle.pl_grammar.specs.Lexeme.{Lexeme, lexemes}
use Rattle.pl_grammar.specs.Grammar.{top}
use Rattle.pl_grammar.specs.Parses.{BeginsScript, StopsBefore, Refused, Parses}
use Rattle.pl_grammar_laws.specs.Laws.{Begun, Unique, Answered}
use Rattle.pl_grammar_plain.specs.Plain.{IsPlain, Plain}
use Rattle.pl_grammar_plain.specs.PlainParses.{BeginsPlain, StopsPlain, RefusedPlain, PlainParses, OneReading, SomeReading}
use Rattle.pl_grammar_plain.proofs.Into.{form_into, plain_script, script_plain}
use Rattle.pl_grammar_plain.proofs.Leads.{leads}
use Rattle.pl_grammar_plain.proofs.Rights.{top_used}
use Rattle.pl_grammar_plain.proofs.Going.{begun_form, up}

-- a script of the top form has a token
is_plain : (m : ℕ) (ls : List Lexeme) (script : Tree) → Plain m top script ls [] → IsPlain ls script
is_plain m [] script h = let a = leads m top script [] [] (form_into m top script [] [] refl h) in absurd (cc (a.2))
is_plain m (l ∷ ls) script h = (m, h)

pub goes_on : (ls : List Lexeme) → BeginsScript ls → BeginsPlain ls
goes_on ls h =
    let all = begun_form h.0 top ls [] top_used refl h.1 in
    (all.0, all.1, is_plain (up h.0) (ls ++ all.0) all.1 all.2)

front_goes : (x y : List Lexeme) → BeginsPlain (x ++ y) → BeginsPlain x
front_goes x y h = (y ++ h.0, h.1, subst (λ (u : List Lexeme). IsPlain u h.1) (append_assoc x y h.0) h.2)

-- `law` is that what goes on to a script begins one
module _ (law : Begun) where
  pub begins : (ls : List Lexeme) → BeginsPlain ls → BeginsScript ls
  begins ls h = law ls h.0 h.1 (plain_script (ls ++ h.0) h.1 h.2)

  stops_plain : (ls rest : List Lexeme) → StopsBefore ls rest → StopsPlain ls rest
  stops_plain ls rest s = record {
    front = s.front;
    whole = s.whole;
    begins = goes_on s.front (s.begins s.front [] (sym (append-nil s.front)));
    ends = (λ l more e h. s.ends l more e (begins (s.front ++ l ∷ []) h));
    no_script = (λ script h. s.no_script script (plain_script ls script h));
  }

  plain_stops : (ls rest : List Lexeme) → StopsPlain ls rest → StopsBefore ls rest
  plain_stops ls rest s = record {
    front = s.front;
    whole = s.whole;
    begins = (λ x y e. begins x (front_goes x y (subst BeginsPlain e s.begins)));
    ends = (λ l more e h. s.ends l more e (goes_on (s.front ++ l ∷ []) h));
    no_script = (λ script h. s.no_script script (script_plain ls script h));
  }

  refused_plain : (text : List ℕ) (tokens : List Token) (fault : Option ℕ) (refusal : Refusal) → Refused text tokens fault refusal → RefusedPlain text tokens fault refusal
  refused_plain text tokens (Some offset) refusal h = h
  refused_plain text tokens None refusal h = (h.0, stops_plain (lexemes text tokens) h.0 h.1, h.2)

  plain_refused : (text : List ℕ) (tokens : List Token) (fault : Option ℕ) (refusal : Refusal) → RefusedPlain text tokens fault refusal → Refused text tokens fault refusal
  plain_refused text tokens (Some offset) refusal h = h
  plain_refused text tokens None refusal h = (h.0, plain_stops (lexemes text tokens) h.0 h.1, h.2)

  pub parses_plain : (text : List ℕ) (tokens : List Token) (reading : Result Tree Refusal) → Parses text tokens reading → PlainParses text tokens reading
  parses_plain text tokens (Ok script) h = (h.0, script_plain (lexemes text tokens) script h.1)
  parses_plain text tokens (Err refusal) h = refused_plain text tokens (nesting_fault tokens) refusal h

  pub plain_parses : (text : List ℕ) (tokens : List Token) (reading : Result Tree Refusal) → PlainParses text tokens reading → Parses text tokens reading
  plain_parses text tokens (Ok script) h = (h.0, plain_script (lexemes text tokens) script h.1)
  plain_parses text tokens (Err refusal) h = plain_refused text tokens (nesting_fault tokens) refusal h

  pub one_reading : Unique → OneReading
  one_reading unique = λ text tokens a b h k. unique text tokens a b (plain_parses text tokens a h) (plain_parses text tokens b k)

  pub some_reading : Answered → SomeReading
  some_reading answered = λ text tokens. let one = answered text tokens in (one.0, parses_plain text tokens one.0 one.1)
