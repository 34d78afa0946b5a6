-- Programs that typing gives, and their scripts.
use Rattle.std.proofs.Common.{◌≡◌, ℕ, List, [], true, false, map, Result, Ok, Err, refl, sym, ◌∙◌}
use Rattle.pl_types.specs.Answers.{Answers}
use Rattle.pl_types.specs.declared.refusal.Refusal.{Refusal}
use Rattle.pl_types.specs.declared.refusal.Fail.{Fail}
use Rattle.pl_types.specs.declared.refusal.Fail.TheVariants.{Refused, NoMemory}
use Rattle.pl_parser.specs.pl_lexer_declared.token.Token.{Token}
use Rattle.pl_parser.specs.pl_tree_declared.tree.Tree.{Tree}
use Rattle.static_types.specs.Outcomes.{Out, bind, Keeps}
use Rattle.static_types.specs.typing_rules_declared.header.ContextTypes.{ContextTypes}
use Rattle.static_types.specs.Rules.Functions.{headers, main_start, main}
use Rattle.static_types.specs.Typing.{doer, statements, ran, functions, main_of, program, typing_of}
use Rattle.typed_tree.specs.declared.program.Program.{Program}
use Rattle.codegen.specs.Programs.{fun_of, program_of, variable_of}
use Rattle.compiled_outcome.specs.Agreeing.{known, WellFormed}
use Rattle.compiled_outcome.specs.Reached.{Reached}
use Rattle.compiled_outcome.specs.Correct.{IsCodeOf}
use Rattle.typing_soundness.specs.Laws.{IsContext}
use Rattle.typing_soundness.proofs.Parts.{passed, accepted, settled}
use Rattle.typing_soundness.proofs.Functions.{typing_is_sound, typing_reaches}
use Rattle.static_types.specs.Allow.{AllowList}
use Rattle.script_engine.specs.declared.compiling.Script.{Script}
use Rattle.script_engine.specs.Programs.{TypesTokens, IsProgramOf}
use Rattle.script_engine.specs.Compiling.{IsScriptOf, Compiles}

-- what keeps to a definition answers it, and nothing else

pub keeps_exact : {A : Type 0} (o : Out A) (r : Result A Fail) → Keeps o r → Answers (λ p. p) r (λ a. a ≡ o)
keeps_exact o (Ok a) h = sym h
keeps_exact o (Err (Refused refusal)) h = sym h
keeps_exact o (Err NoMemory) h = tt

pub keeps_only : {A : Type 0} (o : Out A) (r : Result A Fail) → Keeps o r → (reading : Out A) → reading ≡ o → Answers (λ p. p) r (λ a. a ≡ reading)
keeps_only o (Ok a) h reading is = sym h ∙ sym is
keeps_only o (Err (Refused refusal)) h reading is = sym h ∙ sym is
keeps_only o (Err NoMemory) h reading is = tt

-- ---- what a text's program has

-- the main script's parameters and result are the context's
record HasContext (context : ContextTypes) (p : Program) : Type 0 where
  variables : (fun_of p.main).params ≡ map variable_of context.variables
  result : (fun_of p.main).result ≡ context.result

has_context : (allow : AllowList) (context : ContextTypes) (tree : Tree) (p : Program) → typing_of allow context tree ≡ Ok p → HasContext context p
has_context allow context tree p e =
    let a = passed (headers tree.functions []) (λ hs. bind (functions allow hs tree.functions hs) (λ fs. bind (main_of allow context hs tree.statements) (λ m. accepted (program fs m)))) p e in
    let b = passed (functions allow a.given tree.functions a.given) (λ fs. bind (main_of allow context a.given tree.statements) (λ m. accepted (program fs m))) p a.then' in
    let c = passed (main_of allow context a.given tree.statements) (λ m. accepted (program b.given m)) p b.then' in
    let d = passed (ran (statements true false (map (doer allow a.given) tree.statements)) (main_start context)) (λ whole. accepted (main context whole.0)) c.given c.first in
    settled (HasContext context) (program b.given c.given) p c.then'
    (settled (λ m. HasContext context (program b.given m)) (main context d.given.0) c.given d.then' (record { variables = refl; result = refl }))

-- ---- stages

tree_of : (allow : AllowList) (context : ContextTypes) (p : Program) (text : List ℕ) (tokens : List Token) → TypesTokens allow context text tokens (Ok p) → (tree : Tree) × (typing_of allow context tree ≡ Ok p)
tree_of allow context p text tokens (Ok tree, h, k) = (tree, sym k)
tree_of allow context p text tokens (Err refusal, h, k) = cc

pub typed_from : (allow : AllowList) (context : ContextTypes) (text : List ℕ) (p : Program) → IsProgramOf allow context text (Ok p) → (tree : Tree) × (typing_of allow context tree ≡ Ok p)
typed_from allow context text p (Ok tokens, h, k) = tree_of allow context p text tokens k
typed_from allow context text p (Err refusal, h, k) = cc

pub formed_from : (allow : AllowList) (context : ContextTypes) (text : List ℕ) (p : Program) → IsContext context → IsProgramOf allow context text (Ok p) → WellFormed (known allow (program_of p))
formed_from allow context text p good h = let tree = typed_from allow context text p h in typing_is_sound allow context tree.0 p good tree.1

-- the parameters of a text's program are the context's variables
pub variables_from : (allow : AllowList) (context : ContextTypes) (text : List ℕ) (p : Program) → IsProgramOf allow context text (Ok p)
    → (fun_of p.main).params ≡ map variable_of context.variables
variables_from allow context text p h = let tree = typed_from allow context text p h in (has_context allow context tree.0 p tree.1).variables

-- .. and its result is the context's
pub result_from : (allow : AllowList) (context : ContextTypes) (text : List ℕ) (p : Program) → IsProgramOf allow context text (Ok p) → (fun_of p.main).result ≡ context.result
result_from allow context text p h = let tree = typed_from allow context text p h in (has_context allow context tree.0 p tree.1).result

-- each statement of a text's program is reached
pub reached_from : (allow : AllowList) (context : ContextTypes) (text : List ℕ) (p : Program) → IsContext context → IsProgramOf allow context text (Ok p) → Reached (program_of p)
reached_from allow context text p good h = let tree = typed_from allow context text p h in typing_reaches allow context tree.0 p good tree.1

-- code of a text's program is its script
pub is_script : (allow : AllowList) (context : ContextTypes) (text : List ℕ) (p : Program) (script : Script) → IsContext context → IsProgramOf allow context text (Ok p)
    → script.executable.allow ≡ allow → script.result ≡ context.result → IsCodeOf p script.executable.code.functions → IsScriptOf allow context p script
is_script allow context text p script good h allowed kept code =
    let tree = typed_from allow context text p h in
    let has = has_context allow context tree.0 p tree.1 in
    record { allowed = allowed; formed = typing_is_sound allow context tree.0 p good tree.1; code = code; variables = has.variables; result = has.result; kept = kept }

-- a text without a program has no script
pub fails_only : (allow : AllowList) (context : ContextTypes) (fail : Fail) (reading : Result Program Refusal) → Answers {X = Program} (λ p. p) (Err fail) (λ a. a ≡ reading)
    → Compiles allow context (λ a. a ≡ reading) (Err fail)
fails_only allow context (Refused refusal) reading h = h
fails_only allow context NoMemory reading h = tt
