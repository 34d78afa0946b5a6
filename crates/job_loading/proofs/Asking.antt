-- Names that a job asks for.
use Rattle.std.proofs.Common.{◌≡◌, ℕ, ◌≤◌, ◌++◌, false, List, [], ◌∷◌, Option, Some, IfSome, Result, Ok, length, sym, ap, subst, ◌∙◌}
use Rattle.std.specs.Str.{bytes_eq}
use Rattle.job_file.specs.declared.context.JobCommand.{JobCommand}
use Rattle.job_file.specs.Jobs.{JobData}
use Rattle.outer_io.specs.Asking.{AsksFront}
use Rattle.command_parts.specs.Asking.{AsksBy}
use Rattle.command_parts.specs.Files.{file_told}
use Rattle.command_parts.specs.Told.{Told, file_limit}
use Rattle.command_parts.proofs.Asking.{asks_always, asks_more, asks_then}
use Rattle.command_parts.proofs.Found.{short_told}
use Rattle.job_loading.specs.Asked.{asked_behind, job_asked, list_asked}
use Rattle.job_loading.specs.Loading.{job_in_bytes, job_in_file, job_told}

-- an allowlist of another name
pub other_asked : (old new : List (List ℕ)) (name allow : List ℕ) → bytes_eq allow name ≡ false → AsksFront old new (allow ∷ []) → AsksFront old new (list_asked name (Some allow))
other_asked old new name allow is h = rw is h

-- what is asked for by the name in a job
pub list_so : (old new : List (List ℕ)) (name : List ℕ) (named other : Option (List ℕ)) → named ≡ other → AsksFront old new (list_asked name other) → AsksFront old new (list_asked name named)
list_so old new name named other is h = subst (λ (n : Option (List ℕ)). AsksFront old new (list_asked name n)) (sym is) h

-- .. of a job that was read
pub behind_so : (old new : List (List ℕ)) (name : List ℕ) (meaning : Result JobData Told) (job : JobData) → meaning ≡ Ok job → AsksFront old new (list_asked name job.allow)
    → AsksFront old new (asked_behind name meaning)
behind_so old new name meaning job is h = subst (λ (m : Result JobData Told). AsksFront old new (asked_behind name m)) (sym is) h

-- the job's file alone, which is no job's or could not be read
pub file_asked : (known : Option (List ℕ → Option (List ℕ))) (old new : List (List ℕ)) (command : JobCommand) (name : List ℕ) → AsksFront old new (name ∷ [])
    → AsksBy known old new (job_asked command name)
file_asked known old new command name h =
    asks_always known old new (job_asked command name)
    (λ content. asks_more old new (name ∷ []) (asked_behind name (job_in_file command (file_told (content name)))) h)

-- the job's file, and then what is asked for behind it
pub both_asked : (known : Option (List ℕ → Option (List ℕ))) (old mid new : List (List ℕ)) (command : JobCommand) (name bytes : List ℕ) (content : List ℕ → Option (List ℕ))
    → IfSome known (λ k. k ≡ content) → content name ≡ Some bytes → length bytes ≤ file_limit → mid ≡ old ++ name ∷ []
    → AsksFront mid new (asked_behind name (job_told (job_in_bytes command bytes))) → AsksBy known old new (job_asked command name)
both_asked known old mid new command name bytes content shown holds short is h = record {
  content = content;
  shown = shown;
  front =
      asks_then old mid new name (asked_behind name (job_in_file command (file_told (content name)))) is
      (subst (λ (m : Result (List ℕ) Told). AsksFront mid new (asked_behind name (job_in_file command m))) (sym (ap file_told holds ∙ short_told bytes short)) h);
}
