-- Which instructions of a run are counted, and that they are counted in one way.
use Rattle.std.specs.Prelude.{slice_get}
use Rattle.std.proofs.Common.{◌≡◌, ◌≤◌, ℕ, zero, suc, ◌+◌, List, Option, Some, None, refl, sym, ap, ◌∙◌, arith}
use Rattle.pl_types.specs.declared.ty.Ty.{Ty}
use Rattle.object_values.specs.declared.value.Value.{Value}
use Rattle.object_heap.specs.Store.{Store}
use Rattle.object_heap.specs.declared.outcome.Outcome.{Outcome}
use Rattle.pl_code.specs.declared.code.FunCode.{FunCode}
use Rattle.compiled_outcome.specs.World as run
use Rattle.compiled_outcome.specs.World.{World, End, Result, Uncaught, Limited}
use Rattle.compiled_runs.specs.Bounds.{most_steps}
use Rattle.verified_machine.specs.code_meaning_declared.word.Word.{Word}
use Rattle.verified_machine.specs.Machine.{Codes, Next, Goes, Ends, Stuck, start_at, step, after}
use Rattle.verified_machine.specs.machine_declared.configuration.Limits.{Limits}
use Rattle.verified_machine.specs.Runs.{steps_taken}
use Rattle.verified_machine.specs.Activations.{counted}
use Rattle.verified_machine.specs.Tasks.{ending, most_left, outcome_of, outcome_in, rest_from}
use Rattle.script_engine.specs.declared.compiling.Script.{Script}
use Rattle.script_engine.specs.Codes.{Counts, begins, functions_in, script_codes}
use Rattle.script_engine.specs.Laws.{CodesCountOnce, ListedCodesCount}
use Rattle.script_engine.specs.Running.{LeftOf, Comes, begun, params_of, words_in, world_at}
use Rattle.script_engine.specs.Seen.{limits_of}

-- ---- once

module _ (codes : Codes) (limits : run.Limits) where
  -- behind the end no step is taken
  same_taken : (m n : ℕ) (from : Next) (e f : End (Option Word)) → after codes limits m from ≡ Ends e → after codes limits n from ≡ Ends f
      → steps_taken codes limits m from ≡ steps_taken codes limits n from
  same_taken zero zero from e f a b = refl
  same_taken zero (suc n) (Goes c) e f a b = cc
  same_taken zero (suc n) (Ends r) e f a b = refl
  same_taken zero (suc n) Stuck e f a b = refl
  same_taken (suc m) zero (Goes c) e f a b = cc
  same_taken (suc m) zero (Ends r) e f a b = refl
  same_taken (suc m) zero Stuck e f a b = refl
  same_taken (suc m) (suc n) (Goes c) e f a b = ap suc (same_taken m n (step codes limits c) e f a b)
  same_taken (suc m) (suc n) (Ends r) e f a b = refl
  same_taken (suc m) (suc n) Stuck e f a b = refl

pub codes_count_once : CodesCountOnce
codes_count_once codes limits args w a b x y =
    let same : x.steps ≡ y.steps =
    x.ends.taken ∙ same_taken (functions_in codes) limits x.ends.bound y.ends.bound (begins codes args w) x.last y.last x.ends.ends y.ends.ends ∙ sym y.ends.taken in
    x.is ∙ ap counted same ∙ sym y.is

-- codes that may be listed end, and so they are counted
pub listed_codes_count : ListedCodesCount
listed_codes_count allow context p prelude codes listed limits store args have =
    let ran = listed.runs limits store args have in
    (counted ran.steps, record { last = ran.last; steps = ran.steps; ends = ran.code_ends; is = refl })

-- ---- what a run leaves

-- a run stands at an end, after so many steps of its outcome
record StopsAfter (steps : ℕ) (next : Next) (o : Outcome) : Type 0 where
  last : End (Option Word)
  ends : next ≡ Ends last
  after : o.steps ≡ steps

module _ (of : Ty) (ticks steps : ℕ) (o : Outcome) where
  steps_left : (e : End (Option Word)) → LeftOf of (outcome_of ticks steps e) o → o.steps ≡ steps
  steps_left (Result word w) is = is.steps
  steps_left (Uncaught id place w) is = is.steps
  steps_left (Limited limit place w) is = is.steps

  stops_after : (next : Next) → Comes of (outcome_in ticks steps next) o → StopsAfter steps next o
  stops_after (Goes c) is = absurd is
  stops_after (Ends e) is = record { last = e; ends = refl; after = steps_left e is }
  stops_after Stuck is = absurd is

zero_add : (n : ℕ) → 0 + n ≡ n
zero_add n = omega arith

-- the steps of an outcome are those of its script's code beside the prelude's
pub ending_counts : (script : Script) (store : Store) (args : List Value) (limits : Limits) (o : Outcome) → Comes script.result (ending (begun script store args limits)) o
    → Counts (script_codes script) (limits_of limits script.executable.allow) args (world_at store limits) o.steps
ending_counts script store args limits o comes =
    let codes = functions_in (script_codes script) in
    let kept = limits_of limits script.executable.allow in
    let from = begins (script_codes script) args (world_at store limits) in
    let bound = most_left codes kept from in
    let taken = steps_taken codes kept bound from in
    let stops = stops_after script.result limits.ticks (counted (0 + rest_from codes kept (Some from))) o (after codes kept bound from) comes in
    record {
      last = stops.last;
      steps = taken;
      ends = record { bound = bound; ends = stops.ends; taken = refl };
      is = stops.after ∙ ap counted (zero_add taken);
    }

-- ---- within a bound

one_more : (a b : ℕ) → a ≤ b → suc a ≤ suc b
one_more a b h = omega arith

none_of : (n : ℕ) → 0 ≤ n
none_of n = omega arith

all_of : (n : ℕ) → n ≤ n
all_of n = omega arith

-- no more steps are taken than may be
taken_most : (codes : Codes) (limits : run.Limits) (most : ℕ) (from : Next) → steps_taken codes limits most from ≤ most
taken_most codes limits zero from = omega arith
taken_most codes limits (suc n) (Goes c) = one_more (steps_taken codes limits n (step codes limits c)) n (taken_most codes limits n (step codes limits c))
taken_most codes limits (suc n) (Ends r) = omega arith
taken_most codes limits (suc n) Stuck = omega arith

started_most : (codes : Codes) (limits : run.Limits) (main : Option FunCode) (words : List Word) (w : World)
    → most_left codes limits (start_at main words w) ≤ most_steps codes limits w.ticks
started_most codes limits None words w = none_of (most_steps codes limits w.ticks)
started_most codes limits (Some f) words w = all_of (most_steps codes limits w.ticks)

counted_within : (steps taken bound most : ℕ) → steps ≡ counted taken → taken ≤ bound → bound ≤ most → steps ≤ most
counted_within steps taken bound most is h k = omega (arith, is, h, k)

-- the steps of an outcome are within the bound of its script's code and the prelude's
pub ending_bounded : (script : Script) (store : Store) (args : List Value) (limits : Limits) (o : Outcome) → Comes script.result (ending (begun script store args limits)) o
    → o.steps ≤ most_steps (functions_in (script_codes script)) (limits_of limits script.executable.allow) limits.ticks
ending_bounded script store args limits o comes =
    let codes = functions_in (script_codes script) in
    let kept = limits_of limits script.executable.allow in
    let words = words_in (params_of (slice_get script.executable.code.functions 0)) args in
    let from = begins (script_codes script) args (world_at store limits) in
    let bound = most_left codes kept from in
    let taken = steps_taken codes kept bound from in
    let stops = stops_after script.result limits.ticks (counted (0 + rest_from codes kept (Some from))) o (after codes kept bound from) comes in
    counted_within o.steps taken bound (most_steps codes kept limits.ticks) (stops.after ∙ ap counted (zero_add taken)) (taken_most codes kept bound from)
    (started_most codes kept (slice_get script.executable.code.functions 0) words (world_at store limits))
