-- The laws, from those of the reading function.
use Rattle.std.proofs.Common.{◌≡◌, ℕ, List, [], ◌∷◌, ◌++◌, Option, Some, None, Result, Ok, Err, refl, ap, ◌∙◌, inl, inr, arith}
use Rattle.pl_lexer.specs.declared.token.Token.{Token}
use Rattle.pl_types.specs.declared.refusal.Refusal.{Refusal}
use Rattle.pl_tree.specs.declared.tree.Tree.{Tree}
use Rattle.pl_grammar.specs.Lexeme.{Lexeme}
use Rattle.pl_grammar_laws.specs.Laws.{levels_for}
use Rattle.pl_nesting.specs.Nesting.{nesting_fault}
use Rattle.pl_grammar.specs.Grammar.{top}
use Rattle.pl_grammar.specs.Parses.{IsScript, BeginsScript, Parses, Refused}
use Rattle.pl_grammar.specs.Reading.{read_script}
use Rattle.pl_grammar_laws.proofs.Complete.{Gets}
use Rattle.pl_grammar_laws.proofs.Prefix.{form_prefix}
use Rattle.pl_grammar_laws.proofs.Answered.{answered}
use Rattle.pl_grammar_laws.proofs.Whole.{script_sound, script_full, script_shallow, script_stops, only_tree, only_stop, only_deep}
use Rattle.pl_grammar_laws.proofs.laws.grammar_laws.Goals as goal

pub returns-clause-sound : goal.returns-clause-sound
returns-clause-sound c = λ levels ls rest script e. script_sound levels ls script rest e

whole : (ls : List Lexeme) (script : Tree) → Gets (read_script (levels_for ls) ls) script [] → read_script (levels_for ls) ls ≡ Ok (script, [])
whole ls script (inl e) = e
whole ls script (inr e) = absurd (script_shallow (levels_for ls) ls (omega arith) e)

pub returns-clause-complete : goal.returns-clause-complete
returns-clause-complete c = λ ls script h. whole ls script (script_full (levels_for ls) ls script h)

pub returns-clause-exact : goal.returns-clause-exact
returns-clause-exact c = λ levels ls left e. script_stops levels ls left e

begun : (ls more : List Lexeme) (script : Tree) → IsScript (ls ++ more) script → BeginsScript ls
begun [] more script h = (0, refl)
begun (l ∷ ls) more script h = (h.0, form_prefix h.0 top script (l ∷ ls) more [] h.1)

pub returns-clause-begun : goal.returns-clause-begun
returns-clause-begun c = λ ls more script h. begun ls more script h

pub returns-clause-ends : goal.returns-clause-ends
returns-clause-ends c = λ ls e. script_shallow (levels_for ls) ls (omega arith) e

once : (text : List ℕ) (tokens : List Token) (a b : Result Tree Refusal) → Parses text tokens a → Parses text tokens b → a ≡ b
once text tokens (Ok tree) b h g = only_tree text tokens tree h.0 h.1 b g
once text tokens (Err r) b h g = by (nesting_fault tokens) refl h
  where
    by : (o : Option ℕ) → nesting_fault tokens ≡ o → Refused text tokens o r → Err r ≡ b
    by None e h = only_stop text tokens h.0 r e h.1 h.2 b g
    by (Some at) e h = ap (λ (q : Refusal). Err q) h ∙ only_deep text tokens at e b g

pub returns-clause-unique : goal.returns-clause-unique
returns-clause-unique c = λ text tokens a b h g. once text tokens a b h g

pub returns-clause-answered : goal.returns-clause-answered
returns-clause-answered c = λ text tokens. answered text tokens
