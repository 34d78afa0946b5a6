-- What the program is to write, and how it is to end: from the words, from what the files hold, from the input, and from the codes of the
-- script that it runs, which decide the listings and the numbers of instructions and nothing else.
use Rattle.std.specs.Prelude.{◌≡◌, ℕ, ◌^◌, ◌&&◌, List, [], ◌∷◌, Option, Some, None, codes, if◌then◌else◌, nat_le}
use Rattle.std.specs.Str.{bytes_eq}
use Rattle.listing_parts.specs.Numbers.{natural_of}
use Rattle.command_parts.specs.declared.status.Status.TheVariants as s
use Rattle.command_parts.specs.Ends.{Content, NoCodes, Telling}
use Rattle.command_parts.specs.Told.{Told, silent}
use Rattle.eval_command.specs.Tellings.{eval_telling}
use Rattle.pipe_command.specs.Tellings.{check_telling, list_telling, run_telling, gen_telling}
use Rattle.pipe_command.specs.Telling.{pipe_telling}
use Rattle.painless.specs.declared.words.Command.{Command}
use Rattle.painless.specs.declared.words.Command.TheVariants as c

-- a command over the file of a name, or over so many documents
pub data Call : Type 0 where
  over_file : Command → List ℕ → Call
  over_documents : ℕ → Call

abbrev pub command_named : List ℕ → Option Command
command_named word =
    if bytes_eq word (codes "eval")
    then Some c.Eval
    else if bytes_eq word (codes "check")
    then Some c.Check
    else if bytes_eq word (codes "list")
    then Some c.List
    else if bytes_eq word (codes "run") then Some c.Run else if bytes_eq word (codes "pipe") then Some c.Pipe else None

-- `gen` makes 1 to 1,000,000 documents
abbrev pub gen_of : Option ℕ → Option Call
gen_of (Some count) = if nat_le 1 count && nat_le count 1000000 then Some (over_documents count) else None
gen_of None = None

abbrev pub called : Option Command → List ℕ → Option Call
called (Some command) name = Some (over_file command name)
called None name = None

abbrev pub call_by : List ℕ → List ℕ → Option Call
call_by word name = if bytes_eq word (codes "gen") then gen_of (natural_of (2 ^ 32) name) else called (command_named word) name

-- the words are a command and its one word, or none
abbrev pub call_of : List (List ℕ) → Option Call
call_of [] = None
call_of (word ∷ []) = None
call_of (word ∷ name ∷ []) = call_by word name
call_of (word ∷ name ∷ other ∷ words) = None

-- ---- what is told

-- of a command over the file of a name
abbrev pub telling_named : Command → List ℕ → Telling
telling_named c.Eval name = eval_telling name
telling_named c.Check name = check_telling name
telling_named c.List name = list_telling name
telling_named c.Run name = run_telling name
telling_named c.Pipe name = pipe_telling name

-- of words that are no command: no file is asked for, and nothing is written
abbrev pub usage_telling : Telling
usage_telling = record {
  Codes = NoCodes;
  are = λ content codes. Unit {0};
  tells = λ content codes input told. told ≡ silent s.Usage;
  taken = λ content codes front told. ⊥;
  past = λ content front. ⊥;
  asks = λ content. [];
  reads = ⊥;
  misused = Unit {0};
}

abbrev pub telling_call : Option Call → Telling
telling_call (Some (over_file command name)) = telling_named command name
telling_call (Some (over_documents count)) = gen_telling count
telling_call None = usage_telling

-- of the words of a process
abbrev pub telling_of : List (List ℕ) → Telling
telling_of words = telling_call (call_of words)

-- codes of the scripts that the words run or list, over files with this content; which kind of codes these are hangs on the command
abbrev pub AreCodes : (words : List (List ℕ)) → Content → (telling_of words).Codes → Type 0
AreCodes words content codes = (telling_of words).are content codes

-- what is told of the words, over files with this content, codes and an input of these bytes
abbrev pub Tells : (words : List (List ℕ)) → Content → (telling_of words).Codes → List ℕ → Told → Type 0
Tells words content codes input told = (telling_of words).tells content codes input told
