-- Each stage has one answer, and so a text is one program or has one refusal.
use Rattle.std.proofs.Common.{◌≡◌, ℕ, List, Option, Result, Ok, Err, refl, sym, subst, ◌∙◌}
use Rattle.pl_types.specs.declared.refusal.Refusal.{Refusal}
use Rattle.pl_parser.specs.pl_lexer_declared.token.Token.{Token}
use Rattle.pl_parser.specs.Tokens.{Lexes}
use Rattle.pl_parser.specs.PlainParses.{PlainParses}
use Rattle.pl_parser.specs.pl_tree_declared.tree.Tree.{Tree}
use Rattle.static_types.specs.Allow.{AllowList, class_named_of}
use Rattle.static_types.specs.typing_rules_declared.header.ContextTypes.{ContextTypes}
use Rattle.static_types.specs.Typing.{typing_of}
use Rattle.script_engine.specs.Stages.{GoesOn, Then}
use Rattle.script_engine.specs.Programs.{TypesTree, TypesTokens, IsProgramOf}

-- ---- at most one answer

abbrev pub Once : {A : Type 0} → (A → Type 0) → Type 0
Once {A} P = (a b : A) → P a → P b → a ≡ b

goes_once : {A B : Type 0} (Next : A → Result B Refusal → Type 0) → ((x : A) → Once (Next x)) → (r : Result A Refusal) → Once (GoesOn Next r)
goes_once Next next (Ok x) a b h k = next x a b h k
goes_once Next next (Err refusal) a b h k = h ∙ sym k

pub then_once : {A B : Type 0} (First : Result A Refusal → Type 0) (Next : A → Result B Refusal → Type 0) → Once First → ((x : A) → Once (Next x)) → Once (Then First Next)
then_once {A} First Next first next a b h k =
    goes_once Next next k.0 a b (subst (λ (r : Result A Refusal). GoesOn Next r a) (first h.0 k.0 h.1 k.1) h.2) k.2

tree_once : (allow : AllowList) (context : ContextTypes) (tree : Tree) → Once (TypesTree allow context tree)
tree_once allow context tree a b h k = h ∙ sym k

pub text_once : ((text : List ℕ) (names : List ℕ → Option ℕ) → Once (Lexes text names)) → ((text : List ℕ) (tokens : List Token) → Once (PlainParses text tokens))
    → (allow : AllowList) (context : ContextTypes) (text : List ℕ) → Once (IsProgramOf allow context text)
text_once lexes parses allow context text =
    then_once (Lexes text (class_named_of allow)) (TypesTokens allow context text) (lexes text (class_named_of allow))
    (λ tokens. then_once (PlainParses text tokens) (TypesTree allow context) (parses text tokens) (tree_once allow context))

-- ---- some answer

abbrev pub Answered : {A : Type 0} → (A → Type 0) → Type 0
Answered {A} P = (a : A) × P a

goes_some : {A B : Type 0} (Next : A → Result B Refusal → Type 0) → ((x : A) → Answered (Next x)) → (r : Result A Refusal) → Answered (GoesOn Next r)
goes_some Next next (Ok x) = next x
goes_some Next next (Err refusal) = (Err refusal, refl)

pub then_some : {A B : Type 0} (First : Result A Refusal → Type 0) (Next : A → Result B Refusal → Type 0) → Answered First → ((x : A) → Answered (Next x)) → Answered (Then First Next)
then_some First Next first next = let n = goes_some Next next first.0 in (n.0, (first.0, first.1, n.1))

tree_some : (allow : AllowList) (context : ContextTypes) (tree : Tree) → Answered (TypesTree allow context tree)
tree_some allow context tree = (typing_of allow context tree, refl)

pub text_some : ((text : List ℕ) (names : List ℕ → Option ℕ) → Answered (Lexes text names)) → ((text : List ℕ) (tokens : List Token) → Answered (PlainParses text tokens))
    → (allow : AllowList) (context : ContextTypes) (text : List ℕ) → Answered (IsProgramOf allow context text)
text_some lexes parses allow context text =
    then_some (Lexes text (class_named_of allow)) (TypesTokens allow context text) (lexes text (class_named_of allow))
    (λ tokens. then_some (PlainParses text tokens) (TypesTree allow context) (parses text tokens) (tree_some allow context))
