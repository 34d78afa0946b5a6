-- What reading an allowlist file has answered.
use Rattle.std.specs.Prelude.{◌≡◌, Result, Ok, Err}
use Rattle.allowlist.specs.declared.error.AllowErr.{AllowErr}
use Rattle.allowlist.specs.declared.error.AllowErr.TheVariants as error
use Rattle.allowlist.specs.Files as files

-- The answer, seen by a view, is what the definition says. Want of memory is free.
abbrev pub ReadAnswers : {X Y : Type 0} → (X → Y) → Result X AllowErr → Result Y files.Fault → Type 0
ReadAnswers view (Ok x) meaning = meaning ≡ Ok (view x)
ReadAnswers view (Err (error.Syntax line)) meaning = meaning ≡ Err (files.Syntax line)
ReadAnswers view (Err (error.Unknown line)) meaning = meaning ≡ Err (files.Unknown line)
ReadAnswers view (Err error.NoMemory) meaning = Unit {0}
