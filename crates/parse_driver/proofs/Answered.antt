-- What the parser answers, by the laws of the grammar.
use Rattle.std.proofs.Common.{◌≡◌, ◌≢◌, ℕ, ◌+◌, ◌*◌, ◌≤◌, List, length, Option, None, Result, Err, sym, ap, subst, ◌∙◌, arith}
use Rattle.std.proofs.lemmas.List.{length-append}
use Rattle.pl_lexer.specs.declared.token.Token.{Token}
use Rattle.pl_types.specs.declared.refusal.Refusal.{Refusal}
use Rattle.pl_tree.specs.declared.tree.Tree.{Tree}
use Rattle.pl_grammar.specs.declared.stop.Stop.{Stop}
use Rattle.pl_grammar.specs.declared.stop.Stop.TheVariants.{NoMemory, Unexpected, TooDeep}
use Rattle.pl_grammar.specs.Lexeme.{Lexeme, lexemes}
use Rattle.pl_grammar_laws.specs.Laws.{levels_for, Exact, Ends, Unique}
use Rattle.pl_nesting.specs.Nesting.{nesting_fault}
use Rattle.pl_grammar.specs.Parses.{StopsBefore, Refused, Parses, syntax_at, place_of}
use Rattle.pl_grammar.specs.Reading.{read_script}
use Rattle.parse_driver.proofs.Lexemes.{length_lexemes}

pub enough : (text : List ℕ) (tokens : List Token) → 32 * length tokens + 31 ≡ levels_for (lexemes text tokens)
enough text tokens = ap (λ (n : ℕ). 32 * n + 31) (sym (length_lexemes text tokens))

pub deep : (n : ℕ) (ls cursor : List Lexeme) (e : Stop) → n ≡ levels_for ls → cursor ≡ ls → e ≡ TooDeep → (e ≢ NoMemory → read_script n cursor ≡ Err e) → Ends → ⊥
deep n ls cursor e levels is told stops ends =
    let at : read_script n cursor ≡ Err TooDeep = subst (λ (x : Stop). read_script n cursor ≡ Err x) told (stops (λ f. cc (told, f))) in
    ends ls (subst (λ (k : ℕ). read_script k ls ≡ Err TooDeep) levels (subst (λ (u : List Lexeme). read_script n u ≡ Err TooDeep) is at))

pub stop_of : (n : ℕ) (ls cursor : List Lexeme) (e : Stop) (left : ℕ) → cursor ≡ ls → e ≡ Unexpected left → (e ≢ NoMemory → read_script n cursor ≡ Err e) → Exact → (rest : List Lexeme) × StopsBefore ls rest × (length rest ≡ left)
stop_of n ls cursor e left is told stops exact =
    let at : read_script n cursor ≡ Err (Unexpected left) = subst (λ (x : Stop). read_script n cursor ≡ Err x) told (stops (λ f. cc (told, f))) in
    exact n ls left (subst (λ (u : List Lexeme). read_script n u ≡ Err (Unexpected left)) is at)

pub within : (text : List ℕ) (tokens : List Token) (left : ℕ) → (rest : List Lexeme) × StopsBefore (lexemes text tokens) rest × (length rest ≡ left) → left ≤ length tokens
within text tokens left stop = omega (arith, sym (length_lexemes text tokens) ∙ ap length stop.1.whole ∙ length-append stop.1.front stop.0, stop.2)

-- the tokens are refused where no script goes on
pub refused_at : (text : List ℕ) (tokens : List Token) (place : ℕ) (rest : List Lexeme) → nesting_fault tokens ≡ None → StopsBefore (lexemes text tokens) rest → place ≡ place_of (length text) rest → Refused text tokens (nesting_fault tokens) (syntax_at place)
refused_at text tokens place rest none stop is = subst (λ (o : Option ℕ). Refused text tokens o (syntax_at place)) (sym none) (rest, stop, ap syntax_at is)

pub only_stop : (text : List ℕ) (tokens : List Token) (place : ℕ) (rest : List Lexeme) → nesting_fault tokens ≡ None → StopsBefore (lexemes text tokens) rest → place ≡ place_of (length text) rest → Unique → (reading : Result Tree Refusal) → Parses text tokens reading → Err (syntax_at place) ≡ reading
only_stop text tokens place rest none stop is unique reading h =
    unique text tokens (Err (syntax_at place)) reading (refused_at text tokens place rest none stop is) h
