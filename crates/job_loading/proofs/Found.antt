-- What stands under two names, and what is told of it.
use Rattle.std.proofs.Common.{◌≡◌, ℕ, ◌≤◌, Bool, true, false, List, Option, Some, None, IfSome, Result, Ok, Err, length, refl, sym, ap, subst, ◌∙◌, rules, if◌then◌else◌}
use Rattle.std.specs.Str.{bytes_eq}
use Rattle.std.proofs.lemmas.Slice.Eq.{bytes_eq-Decides}
use Rattle.allowlist.specs.Allow.{AllowList, full_list}
use Rattle.allowlist.specs.Files as list
use Rattle.job_file.specs.Answers.{job_view}
use Rattle.job_file.specs.declared.context.JobCommand.{JobCommand}
use Rattle.job_file.specs.Jobs.{JobData}
use Rattle.command_parts.specs.declared.stop.Stop.{Stop}
use Rattle.command_parts.specs.Files.{file_told}
use Rattle.command_parts.specs.Stops.{ComesSo, stop_told}
use Rattle.command_parts.specs.Told.{Told, file_limit}
use Rattle.command_parts.proofs.Found.{short_told}
use Rattle.job_loading.specs.Loading.{job_in_file, job_under, list_in_file, list_named, list_told, with_list}
use Rattle.job_loading.specs.Seen.{read_view}

same : (a b : List ℕ) → bytes_eq a b ≡ true → a ≡ b
same a b is = search (rules, bytes_eq-Decides)

itself : (a : List ℕ) → bytes_eq a a ≡ true
itself a = search (rules, bytes_eq-Decides)

-- a content that has these two files
abbrev two : (name other : List ℕ) (found behind : Option (List ℕ)) → List ℕ → Option (List ℕ)
two name other found behind asked = if bytes_eq asked name then found else behind

-- Files tell what stands under two names, or there is some content that has both: where the names are the same, so is what stands there.
pub two_found : (known : Option (List ℕ → Option (List ℕ))) (name other : List ℕ) (found behind : Option (List ℕ)) → IfSome known (λ k. k name ≡ found)
    → IfSome known (λ k. k other ≡ behind) → (other ≡ name → behind ≡ found)
    → (content : List ℕ → Option (List ℕ)) × IfSome known (λ k. k ≡ content) × (content name ≡ found) × (content other ≡ behind)
two_found (Some k) name other found behind first second agree = (k, refl, first, second)
two_found None name other found behind first second agree = (two name other found behind, tt, at_name, at_other (bytes_eq other name) refl) where
  at_name : two name other found behind name ≡ found
  at_name = let is = itself name in rw is refl

  at_other : (b : Bool) → bytes_eq other name ≡ b → two name other found behind other ≡ behind
  at_other true is = rw is (sym (agree (same other name is)))
  at_other false is = rw is refl

pub one_found : (known : Option (List ℕ → Option (List ℕ))) (name : List ℕ) (found : Option (List ℕ)) → IfSome known (λ k. k name ≡ found)
    → (content : List ℕ → Option (List ℕ)) × IfSome known (λ k. k ≡ content) × (content name ≡ found)
one_found (Some k) name found first = (k, refl, first)
one_found None name found first = ((λ _. found), tt, refl)

-- ---- the list of a job

-- the list in a file's bytes
pub list_goes_on : (result : Result AllowList Stop) (meaning : Result (List ℕ) Told) (bytes : List ℕ) → meaning ≡ Ok bytes
    → ComesSo (λ (allow : AllowList). allow) result (list_told (list.allowlist_of bytes)) → ComesSo (λ (allow : AllowList). allow) result (list_in_file meaning)
list_goes_on result meaning bytes is h = rw is h

-- the job's own file is its allowlist
pub list_own : (result : Result AllowList Stop) (bytes : List ℕ) → length bytes ≤ file_limit → ComesSo (λ (allow : AllowList). allow) result (list_told (list.allowlist_of bytes))
    → ComesSo (λ (allow : AllowList). allow) result (list_in_file (file_told (Some bytes)))
list_own result bytes short h = list_goes_on result (file_told (Some bytes)) bytes (short_told bytes short) h

-- the list in a file of another name, or of the same
pub listed : (known : Option (List ℕ → Option (List ℕ))) (name allow bytes : List ℕ) (found named : Option (List ℕ)) (result : Result AllowList Stop) → IfSome known (λ k. k name ≡ Some bytes)
    → IfSome known (λ k. k allow ≡ found) → (allow ≡ name → found ≡ Some bytes) → named ≡ Some allow → ComesSo (λ (allow : AllowList). allow) result (list_in_file (file_told found))
    → (content : List ℕ → Option (List ℕ)) × IfSome known (λ k. k ≡ content) × (content name ≡ Some bytes) × ComesSo (λ (allow : AllowList). allow) result (list_named content named)
listed known name allow bytes found named result first second agree is h =
    let c = two_found known name allow (Some bytes) found first second agree in
    (c.0, c.1, c.2, subst (λ (m : Result AllowList Told). ComesSo (λ (allow : AllowList). allow) result m) (sym (ap (list_named c.0) is ∙ ap (λ (f : Option (List ℕ)). list_in_file (file_told f)) c.3)) h)

-- .. or the whole catalogue
pub whole : (known : Option (List ℕ → Option (List ℕ))) (name bytes : List ℕ) (named : Option (List ℕ)) (allow : AllowList) → IfSome known (λ k. k name ≡ Some bytes) → named ≡ None
    → allow ≡ full_list
    → (content : List ℕ → Option (List ℕ)) × IfSome known (λ k. k ≡ content) × (content name ≡ Some bytes) × (list_named content named ≡ Ok allow)
whole known name bytes named allow shown none full =
    let o = one_found known name (Some bytes) shown in
    (o.0, o.1, o.2, ap (list_named o.0) none ∙ ap Ok (sym full))

-- ---- both

stops_with : (told : Option Told) (content : List ℕ → Option (List ℕ)) (meaning : Result JobData Told) → IfSome told (λ t. meaning ≡ Err t) → IfSome told (λ t. with_list content meaning ≡ Err t)
stops_with None content meaning h = tt
stops_with (Some t) content meaning h = ap (with_list content) h

-- the job is refused
pub job_missing : (content : List ℕ → Option (List ℕ)) (meaning : Result JobData Told) (stop : Stop) → ComesSo job_view (Err stop) meaning → ComesSo read_view (Err stop) (with_list content meaning)
job_missing content meaning stop h = stops_with (stop_told stop) content meaning h

-- ---- from the job's file

file_stops : (told : Option Told) (command : JobCommand) (content : List ℕ → Option (List ℕ)) (meaning : Result (List ℕ) Told) → IfSome told (λ t. meaning ≡ Err t)
    → IfSome told (λ t. with_list content (job_in_file command meaning) ≡ Err t)
file_stops None command content meaning h = tt
file_stops (Some t) command content meaning h = ap (λ (m : Result (List ℕ) Told). with_list content (job_in_file command m)) h

-- the job's file is none
pub file_missing : (known : Option (List ℕ → Option (List ℕ))) (command : JobCommand) (name : List ℕ) (found : Option (List ℕ)) (stop : Stop) → IfSome known (λ k. k name ≡ found)
    → IfSome (stop_told stop) (λ t. file_told found ≡ Err t)
    → (content : List ℕ → Option (List ℕ)) × IfSome known (λ k. k ≡ content) × ComesSo read_view (Err stop) (job_under command content name)
file_missing known command name found stop is h =
    let c = one_found known name found is in
    (c.0, c.1, file_stops (stop_told stop) command c.0 (file_told (c.0 name)) (subst (λ (f : Option (List ℕ)). IfSome (stop_told stop) (λ t. file_told f ≡ Err t)) (sym c.2) h))
