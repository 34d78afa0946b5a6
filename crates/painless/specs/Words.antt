-- The words of a process.
use Rattle.std.specs.Prelude.{ℕ, List, [], ◌∷◌}
use Rattle.painless.specs.declared.words.Called.{Called}
use Rattle.painless.specs.declared.words.Called.TheVariants as called
use Rattle.painless.specs.Whole.{Call, over_file, over_documents}

-- the words behind the program's name, which comes first
abbrev pub words_behind : List (List ℕ) → List (List ℕ)
words_behind [] = []
words_behind (name ∷ words) = words

-- what the code finds that they call
abbrev pub call_view : Called → Call
call_view (called.File command name) = over_file command name.now
call_view (called.Documents count) = over_documents count
