-- Listings that are put one behind the other.
use Rattle.std.proofs.Common.{◌≡◌, ℕ, suc, ◌+◌, ◌<◌, ◌≤◌, Bool, List, [], ◌∷◌, ◌++◌, String, Global, drop, get_or, length, map, add-one, append-nil, append_assoc, refl, sym, ap, ◌∙◌, string_bytes, arith}
use Rattle.std.proofs.Math.Seq.{drop-cons}
use Rattle.std.proofs.lemmas.List.{drop_all}
use Rattle.job_file.specs.Answers.{scripts_view}
use Rattle.job_loading.specs.Listings.{prelude_listing_of, script_listing_of}
use Rattle.job_loading.specs.Replies.{line_of}
use Rattle.script_engine.specs.Codes.{script_codes}
use Rattle.script_engine.specs.Listing.{written}
use Rattle.script_engine.specs.declared.compiling.Script.{Script}
use Rattle.job_commands.specs.Listing.{listings_of, scripts_text}
use Rattle.job_commands.specs.Running.{prelude_line, with_listings}

-- ---- an item of a list, and what stands behind it

pub next_item : {A : Type 0} (xs : List A) (at : ℕ) (x : A) → at < length xs → x ≡ get_or xs at x → drop at xs ≡ x ∷ drop (at + 1) xs
next_item {A} xs at x within is =
    drop-cons xs at x within ∙ (ap (λ (y : A). y ∷ drop (suc at) xs) (sym is) ∙ ap (λ (n : ℕ). x ∷ drop n xs) (sym (add-one at)))

-- ---- lists of listings

-- two listings are put last one after the other
pub two_last : (xs : List (List ℕ)) (a b : List ℕ) → (xs ++ a ∷ []) ++ b ∷ [] ≡ xs ++ a ∷ b ∷ []
two_last xs a b = append_assoc xs (a ∷ []) (b ∷ [])

-- what stands behind a list that was there, of all scripts but those that are left
abbrev pub ListsOn : List (List ℕ) → List Script → List Script → List (List ℕ) → Type 0
ListsOn before scripts left now = now ++ listings_of (map script_codes left) ≡ before ++ listings_of (map script_codes scripts)

pub lists_first : (before now : List (List ℕ)) (scripts : List Script) → now ≡ before → ListsOn before scripts scripts now
lists_first before now scripts same = ap (λ (l : List (List ℕ)). l ++ listings_of (map script_codes scripts)) same

pub lists_next : (before now after : List (List ℕ)) (scripts : List Script) (at : ℕ) (script : Script) → at < length scripts → script ≡ get_or scripts at script
    → ListsOn before scripts (drop at scripts) now → after ≡ now ++ listings_of (script_codes script ∷ []) → ListsOn before scripts (drop (at + 1) scripts) after
lists_next before now after scripts at script within item is added =
    let rest = map script_codes (drop (at + 1) scripts) in
    ap (λ (l : List (List ℕ)). l ++ listings_of rest) added
    ∙ (append_assoc now (listings_of (script_codes script ∷ [])) (listings_of rest)
    ∙ (ap (λ (l : List Script). now ++ listings_of (map script_codes l)) (sym (next_item scripts at script within item)) ∙ is))

pub lists_all : (before now : List (List ℕ)) (scripts : List Script) (at : ℕ) → length scripts ≤ at → ListsOn before scripts (drop at scripts) now
    → now ≡ before ++ listings_of (map script_codes scripts)
lists_all before now scripts at past is =
    sym (append-nil now) ∙ (ap (λ (l : List Script). now ++ listings_of (map script_codes l)) (sym (drop_all at scripts past)) ∙ is)

-- the same of texts
abbrev pub TextsOn : List ℕ → List Script → List Script → List ℕ → Type 0
TextsOn before scripts left now = now ++ scripts_text (map script_codes left) ≡ before ++ scripts_text (map script_codes scripts)

pub texts_next : (before now after : List ℕ) (scripts : List Script) (at : ℕ) (script : Script) → at < length scripts → script ≡ get_or scripts at script
    → TextsOn before scripts (drop at scripts) now → after ≡ now ++ written (script_codes script).script → TextsOn before scripts (drop (at + 1) scripts) after
texts_next before now after scripts at script within item is added =
    let rest = map script_codes (drop (at + 1) scripts) in
    ap (λ (l : List ℕ). l ++ scripts_text rest) added
    ∙ (append_assoc now (written (script_codes script).script) (scripts_text rest)
    ∙ (ap (λ (l : List Script). now ++ scripts_text (map script_codes l)) (sym (next_item scripts at script within item)) ∙ is))

pub texts_all : (before now : List ℕ) (scripts : List Script) (at : ℕ) → length scripts ≤ at → TextsOn before scripts (drop at scripts) now
    → now ≡ before ++ scripts_text (map script_codes scripts)
texts_all before now scripts at past is =
    sym (append-nil now) ∙ (ap (λ (l : List Script). now ++ scripts_text (map script_codes l)) (sym (drop_all at scripts past)) ∙ is)

-- ---- lines of listings

-- no script is left
no_scripts : (by_key : Bool) (front : List ℕ) (listings : List (List ℕ)) → with_listings by_key front listings [] ≡ front
no_scripts by_key front [] = refl
no_scripts by_key front (own ∷ []) = refl
no_scripts by_key front (own ∷ prelude ∷ listings) = refl

-- fewer than two listings are left
pub few_listings : (by_key : Bool) (front : List ℕ) (listings : List (String Global)) (scripts : List (List ℕ × List ℕ)) → length listings ≤ 1
    → with_listings by_key front (map string_bytes listings) scripts ≡ front
few_listings by_key front [] scripts few = refl
few_listings by_key front (own ∷ []) scripts few = refl
few_listings by_key front (own ∷ prelude ∷ listings) scripts few = absurd (omega (arith, few))

pub lines_done : (by_key : Bool) (before now : List ℕ) (listings left : List (List ℕ)) (scripts : List (String Global × String Global)) (at : ℕ) → length scripts ≤ at
    → with_listings by_key before listings (scripts_view scripts) ≡ with_listings by_key now left (scripts_view (drop at scripts))
    → now ≡ with_listings by_key before listings (scripts_view scripts)
lines_done by_key before now listings left scripts at past is =
    sym (is ∙ (ap (λ (l : List (String Global × String Global)). with_listings by_key now left (scripts_view l)) (drop_all at scripts past) ∙ no_scripts by_key now left))

pub lines_next : (by_key : Bool) (now after : List ℕ) (left behind : List (String Global)) (own prelude : String Global) (scripts : List (String Global × String Global)) (at : ℕ)
    (script : String Global × String Global) → at < length scripts → script ≡ get_or scripts at script → left ≡ own ∷ prelude ∷ behind
    → after ≡ now ++ line_of (script_listing_of by_key (string_bytes script.0) (string_bytes own))
    → with_listings by_key now (map string_bytes left) (scripts_view (drop at scripts)) ≡ with_listings by_key after (map string_bytes behind) (scripts_view (drop (at + 1) scripts))
lines_next by_key now after left behind own prelude scripts at script within item two added =
    ap (λ (l : List (String Global)). with_listings by_key now (map string_bytes l) (scripts_view (drop at scripts))) two
    ∙ (ap (λ (l : List (String Global × String Global)). with_listings by_key now (map string_bytes (own ∷ prelude ∷ behind)) (scripts_view l)) (next_item scripts at script within item)
    ∙ ap (λ (l : List ℕ). with_listings by_key l (map string_bytes behind) (scripts_view (drop (at + 1) scripts))) (sym added))

-- ---- the prelude's

pub prelude_second : (listings behind : List (String Global)) (own prelude : String Global) → listings ≡ own ∷ prelude ∷ behind
    → prelude_line (map string_bytes listings) ≡ line_of (prelude_listing_of (string_bytes prelude))
prelude_second listings behind own prelude two = ap (λ (l : List (String Global)). prelude_line (map string_bytes l)) two

pub no_prelude : (listings : List (String Global)) → length listings ≤ 1 → prelude_line (map string_bytes listings) ≡ []
no_prelude [] few = refl
no_prelude (own ∷ []) few = refl
no_prelude (own ∷ prelude ∷ listings) few = absurd (omega (arith, few))
