-- One thing is told of the words at most, and where the codes are those of the script that they name, something is.
use Rattle.std.proofs.Common.{◌≡◌, ℕ, List, Option, Some, None, refl, sym, ◌∙◌}
use Rattle.command_parts.specs.declared.status.Status.TheVariants as s
use Rattle.command_parts.specs.Ends.{Content}
use Rattle.command_parts.specs.Told.{Told, silent}
use Rattle.eval_command.specs.Laws.{TextsAreAnswered, TextsAreAnsweredOnce, ProgramsEnd, ProgramsEndOnce, CodesCountOnce, ListedCodesCount}
use Rattle.eval_command.proofs.Once.{file_once}
use Rattle.eval_command.proofs.Some.{file_some}
use Rattle.pipe_command.proofs.JobTelling.{check_once, check_some, list_once, list_some}
use Rattle.pipe_command.proofs.RunTelling.{run_once, run_some}
use Rattle.pipe_command.proofs.Telling.{pipe_once, pipe_some}
use Rattle.painless.specs.declared.words.Command.{Command}
use Rattle.painless.specs.declared.words.Command.TheVariants as c
use Rattle.pipe_command.proofs.GeneratedTelling.{gen_once, gen_some}
use Rattle.painless.specs.Whole.{Call, over_file, over_documents, call_of, telling_named, telling_call, telling_of, AreCodes, Tells}

module _ (texts : TextsAreAnsweredOnce) (ends : ProgramsEndOnce) (counts : CodesCountOnce) (content : Content) (input : List ℕ) where
  named_once : (command : Command) (name : List ℕ) (codes : (telling_named command name).Codes) (a b : Told) → (telling_named command name).tells content codes input a
      → (telling_named command name).tells content codes input b → a ≡ b
  named_once c.Eval name codes a b h k = file_once texts ends counts codes (content name) a b h k
  named_once c.Check name codes a b h k = check_once texts content name a b h k
  named_once c.List name codes a b h k = list_once texts content codes name a b h k
  named_once c.Run name codes a b h k = run_once ends counts texts content codes name input a b h k
  named_once c.Pipe name codes a b h k = pipe_once ends counts texts content codes name input a b h k

  call_once : (call : Option Call) (codes : (telling_call call).Codes) (a b : Told) → (telling_call call).tells content codes input a → (telling_call call).tells content codes input b → a ≡ b
  call_once None codes a b h k = h ∙ sym k
  call_once (Some (over_file command name)) codes a b h k = named_once command name codes a b h k
  call_once (Some (over_documents count)) codes a b h k = gen_once texts ends counts codes count a b h k

  pub tells_once : (words : List (List ℕ)) (codes : (telling_of words).Codes) (a b : Told) → Tells words content codes input a → Tells words content codes input b → a ≡ b
  tells_once words = call_once (call_of words)

module _ (texts : TextsAreAnswered) (ends : ProgramsEnd) (counted : ListedCodesCount) (content : Content) (input : List ℕ) where
  named_some : (command : Command) (name : List ℕ) (codes : (telling_named command name).Codes) → (telling_named command name).are content codes
      → (told : Told) × (telling_named command name).tells content codes input told
  named_some c.Eval name codes are = file_some texts ends counted codes (content name) are
  named_some c.Check name codes are = check_some texts content name
  named_some c.List name codes are = list_some texts content codes name
  named_some c.Run name codes are = run_some ends counted codes texts content name input are
  named_some c.Pipe name codes are = pipe_some ends counted codes texts content name input are

  call_some : (call : Option Call) (codes : (telling_call call).Codes) → (telling_call call).are content codes → (told : Told) × (telling_call call).tells content codes input told
  call_some None codes are = (silent s.Usage, refl)
  call_some (Some (over_file command name)) codes are = named_some command name codes are
  call_some (Some (over_documents count)) codes are = gen_some texts ends counted codes count are

  pub tells_some : (words : List (List ℕ)) (codes : (telling_of words).Codes) → AreCodes words content codes → (told : Told) × Tells words content codes input told
  tells_some words = call_some (call_of words)
