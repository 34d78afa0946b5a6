-- The functions of a line, one after the other.
use Rattle.std.specs.Prelude.{ℤ, pos, ◌≤ℤ◌, ◌&&◌, is_some}
use Rattle.std.specs.Result.{result_unwrap_or}
use Rattle.std.proofs.Common.{◌≡◌, ℕ, suc, ◌+◌, ◌<◌, ◌≤◌, true, false, List, [], ◌∷◌, ◌++◌, Option, Some, None, Result, Ok, Err, drop, length, get_or, slice_get, map, not, option_map, unwrap_or, refl, ap, sym, ◌∙◌, subst, append_assoc, add-one, drop-cons, arith}
use Rattle.std.proofs.lemmas.Int.{ints}
use Rattle.std.proofs.lemmas.List.{drop_all, drop-map}
use Rattle.std.proofs.lemmas.Option.{slice_get_within, slice_get_read, slice_get-map, get_or_from_slice_get}
use Rattle.job_file.specs.Limits.{natural}
use Rattle.function_score.specs.declared.error.ScoreErr.{ScoreErr}
use Rattle.function_score.specs.declared.error.ScoreErr.TheVariants as failure
use Rattle.function_score.specs.declared.function.ScoreFun.{ScoreFun}
use Rattle.function_score.specs.declared.modes.BoostMode.{BoostMode}
use Rattle.function_score.specs.declared.modes.ScoreMode.{ScoreMode}
use Rattle.function_score.specs.Answers.{function_view, functions_view}
use Rattle.function_score.specs.Functions.{FunctionData}
use Rattle.function_score.specs.Lines.{Call, Line, Told, before, calls_from, calls_of, calls_on, ends_at_match, goes_on, told_map, value_of_functions, value_on, values_at, values_from}
use Rattle.function_score.specs.Runners.{Asked, IsScored, with_sign, with_signs}
use Rattle.function_score.specs.Scores.{combined, boosted, joined_behind, joined_on, joined_to}

-- ---- lists

pub drop_here : {X : Type 0} (xs : List X) (n : ℕ) (x : X) → slice_get xs n ≡ Some x → drop n xs ≡ x ∷ drop (n + 1) xs
drop_here xs n x h =
    let within : n < length xs = slice_get_within xs n x h in
    drop-cons xs n x within ∙ ap (λ y. y ∷ drop (suc n) xs) (get_or_from_slice_get xs n x x h) ∙ ap (λ m. x ∷ drop m xs) (sym (add-one n))

pub asked_append : {S : Type 0} (asks : S → Call → S → Type 0) (xs ys : List Call) (old middle new : S) → Asked asks xs old middle → Asked asks ys middle new → Asked asks (xs ++ ys) old new
asked_append asks [] ys old middle new h k = subst (λ s. Asked asks ys s new) h k
asked_append asks (x ∷ xs) ys old middle new h k = (h.0, h.1, asked_append asks xs ys h.0 middle new h.2 k)

-- ---- numbers with their signs

pub signs_some : {E : Type 0} (m : Result (Option ℕ) E) (v : ℤ) → with_signs m ≡ Ok (Some v) → (n : ℕ) × (v ≡ pos n) × (m ≡ Ok (Some n))
signs_some (Ok None) v h = let no : ⊥ = cc in absurd no
signs_some {E} (Ok (Some n)) v h = let taken : Result (Option ℤ) E → ℤ = λ r. unwrap_or (result_unwrap_or r None) (pos 0) in (n, sym (ap taken h), refl)
signs_some (Err error) v h = let no : ⊥ = cc in absurd no

pub signs_none : {E : Type 0} (m : Result (Option ℕ) E) → with_signs m ≡ Ok None → m ≡ Ok None
signs_none (Ok None) h = refl
signs_none (Ok (Some n)) h = let no : ⊥ = cc in absurd no
signs_none (Err error) h = let no : ⊥ = cc in absurd no

only_error : {X Y E : Type 0} → Y → Result X E → Result Y E
only_error y (Ok x) = Ok y
only_error y (Err error) = Err error

pub signs_err : {E : Type 0} (m : Result (Option ℕ) E) (error : E) → with_signs m ≡ Err error → m ≡ Err error
unfolding only_error
signs_err (Ok n) error h = let no : ⊥ = cc in absurd no
signs_err (Err other) error h = ap (only_error None) h

pub natural-pos : (value : Option ℕ) → option_map natural (option_map pos value) ≡ value
natural-pos None = refl
natural-pos (Some n) = refl

-- ---- values joined to those before them

abbrev pub onto : ScoreMode → Option ℕ → List ℕ → ℕ
onto mode None values = combined mode values
onto mode (Some all) values = joined_to mode all values

onto-before : {E : Type 0} (mode : ScoreMode) (all : Option ℕ) (value : ℕ) (behind : Told (List ℕ) E) → told_map (onto mode all) (before value behind) ≡ told_map (onto mode (Some (joined_behind mode all value))) behind
onto-before mode None value (Ok values) = refl
onto-before mode None value (Err told) = refl
onto-before mode (Some one) value (Ok values) = refl
onto-before mode (Some one) value (Err told) = refl

onto-last : (mode : ScoreMode) (all : Option ℕ) (value : ℕ) → onto mode all (value ∷ []) ≡ joined_behind mode all value
onto-last mode None value = refl
onto-last mode (Some one) value = refl

onto-none : (mode : ScoreMode) (all : Option ℕ) → pos (onto mode all []) ≡ unwrap_or (option_map pos all) (pos 1)
onto-none mode None = refl
onto-none mode (Some one) = refl

-- ---- one function

values_here : {E : Type 0} (mode : ScoreMode) (line : Line E) (n : ℕ) (f : FunctionData) (m : Result (Option ℕ) E) → slice_get line.functions n ≡ Some f → value_on line n f ≡ m
    → values_from mode line n (drop n line.functions) ≡ values_at mode n m (values_from mode line (n + 1) (drop (n + 1) line.functions))
values_here mode line n f m here is =
    let behind = values_from mode line (n + 1) (drop (n + 1) line.functions) in
    ap (values_from mode line n) (drop_here line.functions n f here) ∙ ap (λ x. values_at mode n x behind) is

calls_on_from : {E : Type 0} (mode : ScoreMode) (line : Line E) (n : ℕ) (f : FunctionData) → slice_get line.functions n ≡ Some f → goes_on mode (value_on line n f) ≡ true
    → calls_from mode line n (drop n line.functions) ≡ calls_on line n f ++ calls_from mode line (n + 1) (drop (n + 1) line.functions)
calls_on_from mode line n f here goes = ap (calls_from mode line n) (drop_here line.functions n f here) ∙ rw goes refl

calls_on_last : {E : Type 0} (mode : ScoreMode) (line : Line E) (n : ℕ) (f : FunctionData) → slice_get line.functions n ≡ Some f → goes_on mode (value_on line n f) ≡ false
    → calls_from mode line n (drop n line.functions) ≡ calls_on line n f ++ []
calls_on_last mode line n f here stops = ap (calls_from mode line n) (drop_here line.functions n f here) ∙ rw stops refl

-- ---- a line

-- what is known before the function with this number
pub record SoFar {S E : Type 0} (line : S → Line E) (asks : S → Call → S → Type 0) (mode : ScoreMode) (number : ℕ) (all : Option ℤ) (old now : S) : Type 0 where
  pub kept : line now ≡ line old
  pub value : Option ℕ
  pub shown : all ≡ option_map pos value
  pub told : value_of_functions mode (line old) ≡ told_map (onto mode value) (values_from mode (line old) number (drop number (line old).functions))
  pub calls : List Call
  pub asked : Asked asks calls old now
  pub rest : calls_from mode (line old) 0 (line old).functions ≡ calls ++ calls_from mode (line old) number (drop number (line old).functions)

-- what is known behind the last one that is evaluated
pub record Behind {S E : Type 0} (line : S → Line E) (asks : S → Call → S → Type 0) (mode : ScoreMode) (old new : S) : Type 0 where
  pub kept : line new ≡ line old
  pub asked : Asked asks (calls_of mode (line old)) old new

pub begins : {S E : Type 0} (line : S → Line E) (asks : S → Call → S → Type 0) (mode : ScoreMode) (old : S) → SoFar line asks mode 0 None old old
begins line asks mode old = record { kept = refl; value = None; shown = refl; told = refl; calls = []; asked = refl; rest = refl }

-- one evaluation
pub record Evaluated {S E : Type 0} (line : S → Line E) (asks : S → Call → S → Type 0) (number : ℕ) (function : FunctionData) (now next : S) : Type 0 where
  pub here : slice_get (line now).functions number ≡ Some function
  pub kept : line next ≡ line now
  pub asked : Asked asks (calls_on (line now) number function) now next

here_first : {S E : Type 0} (line : S → Line E) (n : ℕ) (f : FunctionData) (old now : S) → line now ≡ line old → slice_get (line now).functions n ≡ Some f → slice_get (line old).functions n ≡ Some f
here_first line n f old now kept here = subst (λ l. slice_get l.functions n ≡ Some f) kept here

on_first : {S E : Type 0} (line : S → Line E) (n : ℕ) (f : FunctionData) (m : Result (Option ℕ) E) (old now : S) → line now ≡ line old → value_on (line now) n f ≡ m → value_on (line old) n f ≡ m
on_first line n f m old now kept is = subst (λ l. value_on l n f ≡ m) kept is

asked_on : {S E : Type 0} (line : S → Line E) (asks : S → Call → S → Type 0) (calls : List Call) (n : ℕ) (f : FunctionData) (old now next : S) → line now ≡ line old → Asked asks calls old now
    → Asked asks (calls_on (line now) n f) now next → Asked asks (calls ++ calls_on (line old) n f) old next
asked_on line asks calls n f old now next kept before_ more = asked_append asks calls (calls_on (line old) n f) old now next before_ (subst (λ l. Asked asks (calls_on l n f) now next) kept more)

-- a function that does not match
pub passes : {S E : Type 0} (line : S → Line E) (asks : S → Call → S → Type 0) (mode : ScoreMode) (n : ℕ) (all : Option ℤ) (f : FunctionData) (old now next : S) → SoFar line asks mode n all old now → Evaluated line asks n f now next
    → with_signs (value_on (line now) n f) ≡ Ok None → SoFar line asks mode (n + 1) all old next
passes line asks mode n all f old now next s e h =
    let here = here_first line n f old now s.kept e.here in
    let is = on_first line n f (Ok None) old now s.kept (signs_none (value_on (line now) n f) h) in
    let behind = calls_from mode (line old) (n + 1) (drop (n + 1) (line old).functions) in
    record {
      kept = e.kept ∙ s.kept;
      value = s.value;
      shown = s.shown;
      told = s.told ∙ ap (told_map (onto mode s.value)) (values_here mode (line old) n f (Ok None) here is);
      calls = s.calls ++ calls_on (line old) n f;
      asked = asked_on line asks s.calls n f old now next s.kept s.asked e.asked;
      rest = s.rest ∙ ap (λ xs. s.calls ++ xs) (calls_on_from mode (line old) n f here (ap (goes_on mode) is)) ∙ sym (append_assoc s.calls (calls_on (line old) n f) behind);
    }

joined_shown : (mode : ScoreMode) (all : Option ℤ) (value : Option ℕ) (v w : ℤ) (n : ℕ) → all ≡ option_map pos value → v ≡ pos n → w ≡ pos (joined_behind mode (option_map natural all) (natural v)) → w ≡ pos (joined_behind mode value n)
joined_shown mode all value v w n shown is h =
    h ∙ ap (λ z. pos (joined_behind mode (option_map natural all) (natural z))) is ∙ ap (λ o. pos (joined_behind mode (option_map natural o) n)) shown ∙ ap (λ o. pos (joined_behind mode o n)) (natural-pos value)

-- one that matches
pub matches : {S E : Type 0} (line : S → Line E) (asks : S → Call → S → Type 0) (mode : ScoreMode) (n : ℕ) (all : Option ℤ) (f : FunctionData) (v w : ℤ) (old now next : S) → SoFar line asks mode n all old now → Evaluated line asks n f now next
    → with_signs (value_on (line now) n f) ≡ Ok (Some v) → ends_at_match mode ≡ false → w ≡ pos (joined_behind mode (option_map natural all) (natural v)) → SoFar line asks mode (n + 1) (Some w) old next
matches line asks mode n all f v w old now next s e h goes joined =
    let here = here_first line n f old now s.kept e.here in
    let some = signs_some (value_on (line now) n f) v h in
    let is = on_first line n f (Ok (Some some.0)) old now s.kept some.2 in
    let rest_values = values_from mode (line old) (n + 1) (drop (n + 1) (line old).functions) in
    let behind = calls_from mode (line old) (n + 1) (drop (n + 1) (line old).functions) in
    let at_match : values_at mode n (Ok (Some some.0)) rest_values ≡ before some.0 rest_values = rw goes refl in
    record {
      kept = e.kept ∙ s.kept;
      value = Some (joined_behind mode s.value some.0);
      shown = ap Some (joined_shown mode all s.value v w some.0 s.shown some.1 joined);
      told = s.told ∙ ap (told_map (onto mode s.value)) (values_here mode (line old) n f (Ok (Some some.0)) here is ∙ at_match) ∙ onto-before mode s.value some.0 rest_values;
      calls = s.calls ++ calls_on (line old) n f;
      asked = asked_on line asks s.calls n f old now next s.kept s.asked e.asked;
      rest = s.rest ∙ ap (λ xs. s.calls ++ xs) (calls_on_from mode (line old) n f here (ap (goes_on mode) is ∙ ap not goes)) ∙ sym (append_assoc s.calls (calls_on (line old) n f) behind);
    }

-- nothing is evaluated behind this function
stops_here : {S E : Type 0} (line : S → Line E) (asks : S → Call → S → Type 0) (mode : ScoreMode) (n : ℕ) (all : Option ℤ) (f : FunctionData) (old now next : S) → SoFar line asks mode n all old now → Evaluated line asks n f now next
    → goes_on mode (value_on (line old) n f) ≡ false → Behind line asks mode old next
unfolding calls_of
stops_here line asks mode n all f old now next s e stops =
    let here = here_first line n f old now s.kept e.here in
    let whole = s.rest ∙ ap (λ xs. s.calls ++ xs) (calls_on_last mode (line old) n f here stops) ∙ sym (append_assoc s.calls (calls_on (line old) n f) []) in
    let asked = asked_on line asks s.calls n f old now next s.kept s.asked e.asked in
    record {
      kept = e.kept ∙ s.kept;
      asked = subst (λ xs. Asked asks xs old next) (sym whole) (asked_append asks (s.calls ++ calls_on (line old) n f) [] old next next asked refl);
    }

-- the first match, where it is the last one that is evaluated
pub ends : {S E : Type 0} (line : S → Line E) (asks : S → Call → S → Type 0) (mode : ScoreMode) (n : ℕ) (all : Option ℤ) (f : FunctionData) (v w : ℤ) (old now next : S) → SoFar line asks mode n all old now → Evaluated line asks n f now next
    → with_signs (value_on (line now) n f) ≡ Ok (Some v) → ends_at_match mode ≡ true → w ≡ pos (joined_behind mode (option_map natural all) (natural v))
    → (with_sign (value_of_functions mode (line old)) ≡ Ok w) × Behind line asks mode old next
ends line asks mode n all f v w old now next s e h last joined =
    let here = here_first line n f old now s.kept e.here in
    let some = signs_some (value_on (line now) n f) v h in
    let is = on_first line n f (Ok (Some some.0)) old now s.kept some.2 in
    let rest_values = values_from mode (line old) (n + 1) (drop (n + 1) (line old).functions) in
    let at_match : values_at mode n (Ok (Some some.0)) rest_values ≡ Ok (some.0 ∷ []) = rw last refl in
    let told = s.told ∙ ap (told_map (onto mode s.value)) (values_here mode (line old) n f (Ok (Some some.0)) here is ∙ at_match) ∙ ap Ok (onto-last mode s.value some.0) in
    (ap with_sign told ∙ ap Ok (sym (joined_shown mode all s.value v w some.0 s.shown some.1 joined)), stops_here line asks mode n all f old now next s e (ap (goes_on mode) is ∙ ap not last))

-- the first error
pub fails : {S E : Type 0} (line : S → Line E) (asks : S → Call → S → Type 0) (mode : ScoreMode) (n : ℕ) (all : Option ℤ) (f : FunctionData) (error : E) (old now next : S) → SoFar line asks mode n all old now → Evaluated line asks n f now next
    → with_signs (value_on (line now) n f) ≡ Err error → (value_of_functions mode (line old) ≡ Err (n, error)) × Behind line asks mode old next
fails line asks mode n all f error old now next s e h =
    let here = here_first line n f old now s.kept e.here in
    let is = on_first line n f (Err error) old now s.kept (signs_err (value_on (line now) n f) error h) in
    (s.told ∙ ap (told_map (onto mode s.value)) (values_here mode (line old) n f (Err error) here is), stops_here line asks mode n all f old now next s e (ap (goes_on mode) is))

-- no function is left
pub finishes : {S E : Type 0} (line : S → Line E) (asks : S → Call → S → Type 0) (mode : ScoreMode) (n : ℕ) (all : Option ℤ) (old now : S) → SoFar line asks mode n all old now → drop n (line old).functions ≡ []
    → (with_sign (value_of_functions mode (line old)) ≡ Ok (unwrap_or all (pos 1))) × Behind line asks mode old now
unfolding calls_of
finishes line asks mode n all old now s none =
    let told = s.told ∙ ap (λ fs. told_map (onto mode s.value) (values_from mode (line old) n fs)) none in
    let whole = s.rest ∙ ap (λ fs. s.calls ++ calls_from mode (line old) n fs) none in (
      ap with_sign told ∙ ap Ok (onto-none mode s.value ∙ ap (λ o. unwrap_or o (pos 1)) (sym s.shown)),
      record {
        kept = s.kept;
        asked = subst (λ xs. Asked asks xs old now) (sym whole) (asked_append asks s.calls [] old now now s.asked refl);
      },
    )

-- ---- the functions of a line as the code has them

-- the function with a number is that of the line
pub at_number : {S E : Type 0} (line : S → Line E) (xs : List ScoreFun) (n : ℕ) (x : ScoreFun) (old now : S) → (line old).functions ≡ functions_view xs → line now ≡ line old → slice_get xs n ≡ Some x
    → slice_get (line now).functions n ≡ Some (function_view x)
at_number line xs n x old now has kept here =
    ap (λ l. slice_get l.functions n) kept ∙ ap (λ fs. slice_get fs n) has ∙ slice_get-map function_view xs n ∙ ap (option_map function_view) here

-- ---- the code's steps

pos_least : (n : ℕ) → pos 0 ≤ℤ pos n
pos_least n = omega (arith, ints)

-- what is shown of a number is not below 0
pub shown_least : (all : Option ℤ) (value : Option ℕ) → all ≡ option_map pos value → (x : ℤ) → all ≡ Some x → pos 0 ≤ℤ x
shown_least all None h x k = let no : ⊥ = cc in absurd no
shown_least all (Some n) h x k = let is : pos n ≡ x = ap (λ o. unwrap_or o (pos 0)) (sym h ∙ k) in subst (λ z. pos 0 ≤ℤ z) is (pos_least n)

pub signs_least : {E : Type 0} (m : Result (Option ℕ) E) (o : Option ℤ) → with_signs m ≡ Ok o → (x : ℤ) → o ≡ Some x → pos 0 ≤ℤ x
signs_least {E} (Ok n) o h x k = let taken : Result (Option ℤ) E → Option ℤ = λ r. result_unwrap_or r None in shown_least o n (sym (ap taken h)) x k
signs_least (Err error) o h x k = let no : ⊥ = cc in absurd no

-- one evaluation of the code
pub evaluated : {S E : Type 0} (line : S → Line E) (asks : S → Call → S → Type 0) (xs : List ScoreFun) (n : ℕ) (x : ScoreFun) (old now next : S) → (line old).functions ≡ functions_view xs → line now ≡ line old → n < length xs → x ≡ get_or xs n x
    → line next ≡ line now → Asked asks (calls_on (line now) n (function_view x)) now next → Evaluated line asks n (function_view x) now next
evaluated line asks xs n x old now next has kept within is next_kept asked = record {
  here = at_number line xs n x old now has kept (slice_get_read xs (length xs) n x refl within is);
  kept = next_kept;
  asked = asked;
}

-- a function behind which more are evaluated
pub step : {S E : Type 0} (line : S → Line E) (asks : S → Call → S → Type 0) (mode : ScoreMode) (n : ℕ) (all : Option ℤ) (f : FunctionData) (o next_all : Option ℤ) (old now next : S) → SoFar line asks mode n all old now → Evaluated line asks n f now next
    → with_signs (value_on (line now) n f) ≡ Ok o → (is_some o && ends_at_match mode) ≡ false → next_all ≡ option_map pos (joined_on mode (option_map natural all) (option_map natural o)) → SoFar line asks mode (n + 1) next_all old next
step line asks mode n all f None next_all old now next s e h goes is =
    let same = is ∙ ap (λ a. option_map pos (option_map natural a)) s.shown ∙ ap (option_map pos) (natural-pos s.value) ∙ sym s.shown in
    subst (λ a. SoFar line asks mode (n + 1) a old next) (sym same) (passes line asks mode n all f old now next s e h)
step line asks mode n all f (Some v) next_all old now next s e h goes is =
    subst (λ a. SoFar line asks mode (n + 1) a old next) (sym is) (matches line asks mode n all f v (pos (joined_behind mode (option_map natural all) (natural v))) old now next s e h goes refl)

-- the last one
pub last : {S E : Type 0} (line : S → Line E) (asks : S → Call → S → Type 0) (mode : ScoreMode) (n : ℕ) (all : Option ℤ) (f : FunctionData) (o next_all : Option ℤ) (old now next : S) → SoFar line asks mode n all old now → Evaluated line asks n f now next
    → with_signs (value_on (line now) n f) ≡ Ok o → (is_some o && ends_at_match mode) ≡ true → next_all ≡ option_map pos (joined_on mode (option_map natural all) (option_map natural o))
    → (with_sign (value_of_functions mode (line old)) ≡ Ok (unwrap_or next_all (pos 1))) × Behind line asks mode old next
last line asks mode n all f None next_all old now next s e h stops is = let no : ⊥ = cc in absurd no
last line asks mode n all f (Some v) next_all old now next s e h stops is =
    let w = pos (joined_behind mode (option_map natural all) (natural v)) in
    let done = ends line asks mode n all f v w old now next s e h stops refl in
    (done.0 ∙ ap (λ a. Ok (unwrap_or a (pos 1))) (sym is), done.1)

-- no function of the code is left
pub finished : {S E : Type 0} (line : S → Line E) (asks : S → Call → S → Type 0) (mode : ScoreMode) (xs : List ScoreFun) (n : ℕ) (all : Option ℤ) (old now : S) → (line old).functions ≡ functions_view xs → length xs ≤ n → SoFar line asks mode n all old now
    → (with_sign (value_of_functions mode (line old)) ≡ Ok (unwrap_or all (pos 1))) × Behind line asks mode old now
finished line asks mode xs n all old now has past s = finishes line asks mode n all old now s (ap (drop n) has ∙ drop-map function_view n xs ∙ ap (map function_view) (drop_all n xs past))

-- ---- the score

pub score_told : {E : Type 0} (boost : BoostMode) (score : ℕ) (m : Told ℕ E) (v w : ℤ) → with_sign m ≡ Ok v → w ≡ pos (boosted boost score (natural v)) → with_sign (told_map (boosted boost score) m) ≡ Ok w
score_told {E} boost score (Ok n) v w h is = let taken : Told ℤ E → ℤ = λ r. result_unwrap_or r (pos 0) in ap Ok (sym (is ∙ ap (λ z. pos (boosted boost score (natural z))) (sym (ap taken h))))
score_told boost score (Err told) v w h is = let no : ⊥ = cc in absurd no

pub score_failed : {E : Type 0} (boost : BoostMode) (score : ℕ) (m : Told ℕ E) (error : ScoreErr E) → IsScored (Err error) m → IsScored (Err error) (told_map (boosted boost score) m)
score_failed boost score m (failure.At number error) h = ap (told_map (boosted boost score)) h
score_failed boost score m failure.NoMemory h = tt
