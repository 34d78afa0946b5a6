-- What reading a file answered is what is told of some content.
use Rattle.std.proofs.Common.{◌≡◌, ℕ, ◌<◌, ◌≤◌, List, length, replicate, Option, None, Some, IfSome, Ok, Err, refl, suc, arith}
use Rattle.std.proofs.lemmas.List.{length-replicate}
use Rattle.std.proofs.lemmas.Bool.{le-leb, lt-leb}
use Rattle.command_parts.specs.declared.status.Status.TheVariants as s
use Rattle.command_parts.specs.Told.{silent, file_limit}
use Rattle.command_parts.specs.Files.{file_told}

-- a file of so few bytes is told by them
pub short_told : (bytes : List ℕ) → length bytes ≤ file_limit → file_told (Some bytes) ≡ Ok bytes
short_told bytes short = let is = le-leb (length bytes) file_limit short in rw is refl

-- .. and one of more bytes is not
pub long_told : (bytes : List ℕ) → file_limit < length bytes → file_told (Some bytes) ≡ Err (silent s.FileLong)
long_told bytes long = let is = lt-leb (length bytes) file_limit long in rw is refl

-- what stands under a name, where the files tell it
pub under_name : (known : Option (List ℕ → Option (List ℕ))) (name : List ℕ) → (found : Option (List ℕ)) × IfSome known (λ k. k name ≡ found)
under_name None name = (None, tt)
under_name (Some k) name = (k name, refl)

long_list : (n : ℕ) → (bytes : List ℕ) × (n < length bytes)
long_list n = (replicate (suc n) 0, rw length-replicate (omega arith))

-- a file that is too long
pub long_found : (known : Option (List ℕ → Option (List ℕ))) (name : List ℕ) → IfSome known (λ k. (bytes : List ℕ) × (k name ≡ Some bytes) × (file_limit < length bytes))
    → (found : Option (List ℕ)) × IfSome known (λ k. k name ≡ found) × (file_told found ≡ Err (silent s.FileLong))
long_found None name h = let long = long_list file_limit in (Some long.0, tt, long_told long.0 long.1)
long_found (Some k) name h = (Some h.0, h.1, long_told h.0 h.2)
