-- A text is cut in one way at most.
use Rattle.std.proofs.Common.{◌≡◌, ℕ, Bool, false, List, [], ◌∷◌, Option, Some, None, Result, Ok, Err, sym, refl, ap, ◌∙◌, subst, arith}
use Rattle.pl_types.specs.declared.refusal.Refusal.{Refusal}
use Rattle.pl_lexer.specs.declared.token.Token.{Token}
use Rattle.pl_lexer.specs.declared.token.Kind.{Kind}
use Rattle.pl_lexer.specs.Lexeme.{Lexeme, foreign}
use Rattle.pl_lexer.specs.Longest.{Leads}
use Rattle.pl_lexer.specs.Spelling.{spelling}
use Rattle.pl_lexer.specs.Tokens.{Part, lexeme_of, dot_after, Cuts, dot_after_all, size_of, tokens_of, Tokenizes, Wrong, no_spelling, foreign_spelling, Breaks, LexFault, too_large, breaks, Lexes}
use Rattle.pl_lexer.proofs.Leading.{Leads-same, nothing_and_leads, nil_not_led}

-- no part leads what is left
abbrev pub Stops : (List ℕ → Option ℕ) → Bool → List ℕ → Type 0
Stops names dot rest = (front behind : List ℕ) (kind : Option Kind) → Leads (spelling names dot) rest front behind (lexeme_of kind) → ⊥

foreign_is_no_part : (kind : Option Kind) → foreign ≡ lexeme_of kind → ⊥
foreign_is_no_part None e = cc
foreign_is_no_part (Some kind) e = cc

lexeme_of-same : (a b : Option Kind) → lexeme_of a ≡ lexeme_of b → a ≡ b
lexeme_of-same None None e = refl
lexeme_of-same None (Some b) e = absurd cc
lexeme_of-same (Some a) None e = absurd cc
lexeme_of-same (Some a) (Some b) e = cc

pub nil_stops : (names : List ℕ → Option ℕ) (dot : Bool) (rest : List ℕ) → rest ≡ [] → Stops names dot rest
nil_stops names dot rest empty = λ front behind kind a. nil_not_led names dot rest front behind (lexeme_of kind) empty a

wrong_stops : (names : List ℕ → Option ℕ) (dot : Bool) (rest : List ℕ) (number : ℕ) → Wrong (spelling names dot) rest number → Stops names dot rest
wrong_stops names dot rest number (no_spelling some nothing e) = λ front behind kind a. nothing_and_leads (spelling names dot) rest front behind (lexeme_of kind) nothing a
wrong_stops names dot rest number (foreign_spelling front behind led e) = λ front' behind' kind a.
    foreign_is_no_part kind (Leads-same (spelling names dot) rest front behind front' behind' foreign (lexeme_of kind) led a).lexemes

-- the same parts, and the same rest
pub record SameCut (ps qs : List Part) (r s : List ℕ) : Type 0 where
  pub parts : ps ≡ qs
  pub rests : r ≡ s

part_of : List ℕ → Option Kind → Part
part_of bytes kind = record { bytes = bytes; kind = kind }

pub Cuts-same : (names : List ℕ → Option ℕ) (ps qs : List Part) (dot : Bool) (text r s : List ℕ) → Cuts names dot ps text r → Cuts names dot qs text s → Stops names (dot_after_all dot ps) r → Stops names (dot_after_all dot qs) s → SameCut ps qs r s
Cuts-same names [] [] dot text r s a b stop stop' = record { parts = refl; rests = sym a ∙ b }
Cuts-same names [] (q ∷ qs) dot text r s a b stop stop' = absurd (stop q.bytes b.0 q.kind (subst (λ t. Leads (spelling names dot) t q.bytes b.0 (lexeme_of q.kind)) a b.1.0))
Cuts-same names (p ∷ ps) [] dot text r s a b stop stop' = absurd (stop' p.bytes a.0 p.kind (subst (λ t. Leads (spelling names dot) t p.bytes a.0 (lexeme_of p.kind)) b a.1.0))
Cuts-same names (p ∷ ps) (q ∷ qs) dot text r s a b stop stop' =
    let same = Leads-same (spelling names dot) text p.bytes a.0 q.bytes b.0 (lexeme_of p.kind) (lexeme_of q.kind) a.1.0 b.1.0 in
    let kinds = lexeme_of-same p.kind q.kind same.lexemes in
    let parts : p ≡ q = λ i. record { bytes = same.fronts i; kind = kinds i } in
    let rest = subst (λ t. Cuts names (dot_after dot q.kind) qs t s) (sym same.behinds) b.1.1 in
    let rest' = subst (λ k. Cuts names (dot_after dot k) qs a.0 s) (sym kinds) rest in
    let stops = subst (λ k. Stops names (dot_after_all (dot_after dot k) qs) s) (sym kinds) stop' in
    let more = Cuts-same names ps qs (dot_after dot p.kind) a.0 r s a.1.1 rest' stop stops in
    record { parts = λ i. parts i ∷ more.parts i; rests = more.rests }

nil_not_wrong : (names : List ℕ → Option ℕ) (dot : Bool) (rest : List ℕ) (number : ℕ) → rest ≡ [] → Wrong (spelling names dot) rest number → ⊥
nil_not_wrong names dot rest number empty (no_spelling some nothing e) = some empty
nil_not_wrong names dot rest number empty (foreign_spelling front behind led e) = nil_not_led names dot rest front behind foreign empty led

wrong_once : (f : List ℕ → List ℕ → Option Lexeme) (rest : List ℕ) (n m : ℕ) → Wrong f rest n → Wrong f rest m → n ≡ m
wrong_once f rest n m (no_spelling some nothing e) (no_spelling some' nothing' e') = e ∙ sym e'
wrong_once f rest n m (no_spelling some nothing e) (foreign_spelling front behind led e') = absurd (nothing_and_leads f rest front behind foreign nothing led)
wrong_once f rest n m (foreign_spelling front behind led e) (no_spelling some nothing e') = absurd (nothing_and_leads f rest front behind foreign nothing led)
wrong_once f rest n m (foreign_spelling front behind led e) (foreign_spelling front' behind' led' e') = e ∙ sym e'

-- a text has one list of tokens at most
pub tokens_once : (text : List ℕ) (names : List ℕ → Option ℕ) (ts us : List Token) → Tokenizes text names ts → Tokenizes text names us → ts ≡ us
tokens_once text names ts us a b =
    let same = Cuts-same names a.parts b.parts false text [] [] a.cuts b.cuts (nil_stops names (dot_after_all false a.parts) [] refl) (nil_stops names (dot_after_all false b.parts) [] refl) in
    a.tokens_are ∙ ap (tokens_of 0) same.parts ∙ sym b.tokens_are

-- a text that has tokens breaks nowhere
tokens_or_breaks : (text : List ℕ) (names : List ℕ → Option ℕ) (ts : List Token) (refusal : Refusal) → Tokenizes text names ts → Breaks text names refusal → ⊥
tokens_or_breaks text names ts refusal a b =
    let stops = wrong_stops names (dot_after_all false b.parts) b.rest refusal.number b.wrong in
    let same = Cuts-same names a.parts b.parts false text [] b.rest a.cuts b.cuts (nil_stops names (dot_after_all false a.parts) [] refl) stops in
    nil_not_wrong names (dot_after_all false b.parts) b.rest refusal.number (sym same.rests) b.wrong

breaks_once : (text : List ℕ) (names : List ℕ → Option ℕ) (r s : Refusal) → Breaks text names r → Breaks text names s → r ≡ s
breaks_once text names r s a b =
    let stop = wrong_stops names (dot_after_all false a.parts) a.rest r.number a.wrong in
    let stop' = wrong_stops names (dot_after_all false b.parts) b.rest s.number b.wrong in
    let same = Cuts-same names a.parts b.parts false text a.rest b.rest a.cuts b.cuts stop stop' in
    let again = subst (λ ps. Wrong (spelling names (dot_after_all false ps)) b.rest s.number) (sym same.parts) b.wrong in
    let wrong = subst (λ rest. Wrong (spelling names (dot_after_all false a.parts)) rest s.number) (sym same.rests) again in
    let numbers = wrong_once (spelling names (dot_after_all false a.parts)) a.rest r.number s.number a.wrong wrong in
    let offsets = a.place ∙ ap size_of same.parts ∙ sym b.place in
    λ i. record { number = numbers i; offset = offsets i }

-- a text has tokens or a fault, and not both
pub tokens_or_fault : (text : List ℕ) (names : List ℕ → Option ℕ) (ts : List Token) (refusal : Refusal) → Tokenizes text names ts → LexFault text names refusal → ⊥
tokens_or_fault text names ts refusal a (too_large large e) = omega (arith, a.small)
tokens_or_fault text names ts refusal a (breaks b) = tokens_or_breaks text names ts refusal a b

fault_once : (text : List ℕ) (names : List ℕ → Option ℕ) (r s : Refusal) → LexFault text names r → LexFault text names s → r ≡ s
fault_once text names r s (too_large large e) (too_large large' e') = e ∙ sym e'
fault_once text names r s (too_large large e) (breaks b) = absurd (omega (arith, b.small))
fault_once text names r s (breaks a) (too_large large e) = absurd (omega (arith, a.small))
fault_once text names r s (breaks a) (breaks b) = breaks_once text names r s a b

-- a text is read in one way at most
pub Lexes-once : (text : List ℕ) (names : List ℕ → Option ℕ) (a b : Result (List Token) Refusal) → Lexes text names a → Lexes text names b → a ≡ b
Lexes-once text names (Ok ts) (Ok us) a b = ap Ok (tokens_once text names ts us a b)
Lexes-once text names (Ok ts) (Err s) a b = absurd (tokens_or_fault text names ts s a b)
Lexes-once text names (Err r) (Ok us) a b = absurd (tokens_or_fault text names us r b a)
Lexes-once text names (Err r) (Err s) a b = ap Err (fault_once text names r s a b)
