-- What a function that reads ensures.
use Rattle.std.specs.Prelude.{◌≡◌, ◌≢◌, List, [], Result, Ok, Err}
use Rattle.pl_grammar.specs.declared.stop.Stop.{Stop}
use Rattle.pl_grammar.specs.declared.stop.Stop.TheVariants.{NoMemory}
use Rattle.pl_tree.specs.declared.tree.Tree.{Tree}
use Rattle.pl_tree.specs.declared.tree.Statement.{Statement}
use Rattle.pl_grammar.specs.Lexeme.{Lexeme}
use Rattle.pl_grammar.specs.Reading.{Outcome}

-- a tree is read and held so
abbrev pub Held : {A B : Type 0} → (A → B) → Outcome A → List Lexeme → B → Type 0
Held {A} held outcome new left = (tree : A) × (outcome ≡ Ok (tree, new)) × (left ≡ held tree)

-- the reader's outcome, whose tree is held so in what is left behind, unless memory fails
abbrev pub ReadsAs : {A B U : Type 0} → (A → B) → Outcome A → Result U Stop → List Lexeme → B → Type 0
ReadsAs held outcome (Ok _) new left = Held held outcome new left
ReadsAs held outcome (Err e) new left = e ≢ NoMemory → outcome ≡ Err e

-- a script of these statements alone
abbrev pub alone : List Statement → Tree
alone statements = record { functions = []; statements = statements }

-- the reader's outcome, statements alone, which a script has then, and the functions that it had, unless memory fails
abbrev pub ReadsStatements : {U : Type 0} → Tree → Outcome Tree → Result U Stop → List Lexeme → Tree → Type 0
ReadsStatements old outcome (Ok _) new script = (statements : List Statement) × (outcome ≡ Ok (alone statements, new)) × (script ≡ record { functions = old.functions; statements = statements })
ReadsStatements old outcome (Err e) new script = e ≢ NoMemory → outcome ≡ Err e
