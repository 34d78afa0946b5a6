-- The states of shards so far.
use Rattle.std.proofs.Common.{◌≡◌, ℕ, ◌+◌, ◌<◌, ◌≤◌, List, [], ◌∷◌, ◌++◌, length, drop, get_or, Some, None, Result, Ok, Err, refl, sym, ap, ◌∙◌, append_assoc, append-nil}
use Rattle.std.proofs.lemmas.List.{drop_more, drop_all}
use Rattle.serde_json.specs.Data.{Data}
use Rattle.object_heap.specs.declared.outcome.Outcome.{Outcome}
use Rattle.metric_ctx.specs.States.{before, state_before, state_of, states_from}

-- states before those of the shards behind
abbrev pub prefixed : List Data → Result (List Data) ℕ → Result (List Data) ℕ
prefixed ds (Ok more) = Ok (ds ++ more)
prefixed ds (Err number) = Err number

prefixed_none : (r : Result (List Data) ℕ) → prefixed [] r ≡ r
prefixed_none (Ok more) = refl
prefixed_none (Err number) = refl

prefixed_one : (ds : List Data) (d : Data) (r : Result (List Data) ℕ) → prefixed ds (before d r) ≡ prefixed (ds ++ d ∷ []) r
prefixed_one ds d (Ok more) = ap Ok (sym (append_assoc ds (d ∷ []) more))
prefixed_one ds d (Err number) = refl

pub begins : (os : List Outcome) → states_from 0 os ≡ prefixed [] (states_from 0 (drop 0 os))
begins os = sym (prefixed_none (states_from 0 os))

-- what was given before a shard is given before it and those behind it
told_here : (os : List Outcome) (i : ℕ) (o : Outcome) (read : List Data) → i < length os → o ≡ get_or os i o → states_from 0 os ≡ prefixed read (states_from i (drop i os))
    → states_from 0 os ≡ prefixed read (state_before i (state_of o) (states_from (i + 1) (drop (i + 1) os)))
told_here os i o read h is told = told ∙ ap (λ (l : List Outcome). prefixed read (states_from i l)) (drop_more os i o h ∙ ap (λ (x : Outcome). x ∷ drop (i + 1) os) (sym is))

pub told_on : (os : List Outcome) (i : ℕ) (o : Outcome) (read more : List Data) (d : Data) → i < length os → o ≡ get_or os i o → state_of o ≡ Some d → more ≡ read ++ d ∷ []
    → states_from 0 os ≡ prefixed read (states_from i (drop i os)) → states_from 0 os ≡ prefixed more (states_from (i + 1) (drop (i + 1) os))
told_on os i o read more d h is state added told =
    let behind = states_from (i + 1) (drop (i + 1) os) in
    told_here os i o read h is told ∙ ap (λ s. prefixed read (state_before i s behind)) state ∙ prefixed_one read d behind ∙ ap (λ ds. prefixed ds behind) (sym added)

pub told_failed : (os : List Outcome) (i : ℕ) (o : Outcome) (read : List Data) → i < length os → o ≡ get_or os i o → state_of o ≡ None
    → states_from 0 os ≡ prefixed read (states_from i (drop i os)) → states_from 0 os ≡ Err i
told_failed os i o read h is none told = told_here os i o read h is told ∙ ap (λ s. prefixed read (state_before i s (states_from (i + 1) (drop (i + 1) os)))) none

pub told_all : (os : List Outcome) (i : ℕ) (read : List Data) → length os ≤ i → states_from 0 os ≡ prefixed read (states_from i (drop i os)) → states_from 0 os ≡ Ok read
told_all os i read past told = told ∙ ap (λ (l : List Outcome). prefixed read (states_from i l)) (drop_all i os past) ∙ ap Ok (append-nil read)
