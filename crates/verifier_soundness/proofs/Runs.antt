-- Runs that begin fitting are never stuck, and end.
use Rattle.std.proofs.Common.{◌≡◌, ℕ, zero, suc, ◌+◌, ◌-◌, ◌*◌, ◌<◌, ◌≤◌, List, [], ◌∷◌, ◌++◌, map, Option, Some, None, refl, sym, ap, ◌∙◌, subst, arith}
use Rattle.std.specs.Prelude.{slice_get}
use Rattle.std.proofs.lemmas.List.{map-append}
use Rattle.pl_types.specs.declared.ty.Ty.{Ty}
use Rattle.object_values.specs.declared.object.Owner.{Owner}
use Rattle.object_values.specs.declared.object.Owner.TheVariants.{Script}
use Rattle.pl_code.specs.declared.kinds.Slot.{Slot}
use Rattle.pl_code.specs.declared.code.FunCode.{FunCode}
use Rattle.verifier.specs.Shaped.{IsWellShapedCode}
use Rattle.verifier.specs.Fits.{Awaits, FitBelow, bottom, below as one_below}
use Rattle.verifier.specs.Verified.{CodeUnder, IsSound}
use Rattle.verifier.proofs.Whole.{sound_is_well_shaped}
use Rattle.run_state.specs.World.{World, Limits, End, allowed_in}
use Rattle.code_meaning.specs.declared.word.Word.{Word}
use Rattle.code_meaning.specs.Words.{start_of}
use Rattle.code_meaning.specs.Machine.{Codes, Frame, Config, Next, Goes, Ends, Stuck, code_in, start, start_at, step, after}
use Rattle.verifier_soundness.specs.Fits.{AreWellShaped, kind_of, kinds_of, frame_kinds, main_result, kind_behind, ReachesAllowed, BelowFits, FitsConfig, FitsNext}
use Rattle.verifier_soundness.specs.Bounds.{most_steps, EndsWithin}
use Rattle.verifier_soundness.specs.Laws.{AreSound, AllHaveRows, StandIn, StartsFit, NeverStuck, RunsEnd, StartsEnd, FramesFit, text_under}
use Rattle.verifier_soundness.proofs.Words.{starts_are}
use Rattle.verifier_soundness.proofs.Standing.{begins_fit}
use Rattle.verifier_soundness.proofs.Lowering.{lines_in, left_of, left_most, tick_worth, lines_below, something_left}
use Rattle.verifier_soundness.proofs.Moves.{Moves, lines_are}
use Rattle.verifier_soundness.proofs.Steps.{step_moves}

pub well_shaped : (c : CodeUnder) → IsSound c → IsWellShapedCode c.allow c.code.functions
well_shaped c s = (sound_is_well_shaped c.allow c.code).0 s.none

pub all_well_shaped : (codes : Codes) (limits : Limits) → AreSound codes limits → AreWellShaped codes limits
all_well_shaped codes limits sound text = well_shaped (text_under codes limits text) (sound text)

-- ---- where a run begins

gives_main : (code : List FunCode) (f : FunCode) → slice_get code 0 ≡ Some f → f.result ≡ main_result code
gives_main [] f e = let wrong : None ≡ Some f = e in cc
gives_main (g ∷ fs) f e = let same : g ≡ f = cc in ap (λ (f : FunCode). f.result) (sym same)

pub starts_fit : (codes : Codes) (limits : Limits) (f : FunCode) (words : List Word) (w : World) → AreWellShaped codes limits → slice_get codes.script 0 ≡ Some f → kinds_of words ≡ f.params → ReachesAllowed limits.ground.allowed w
    → FitsNext codes limits (start codes words w)
starts_fit codes limits f words w well is params reached =
    subst (λ o. FitsNext codes limits (start_at o words w)) (sym is)
    (record {
      function = f;
      top = begins_fit limits.ground.allowed codes.script f 0 (kinds_of (words ++ map start_of f.locals)) ((well Script).each 0 f is) is
          (map-append kind_of words (map start_of f.locals) ∙ (λ i. params i ++ starts_are f.locals i));
      below = (refl, refl, gives_main codes.script f is);
      within = omega arith;
      reached = reached;
    })

pub all_starts_fit : StartsFit
all_starts_fit codes limits f words w sound is params reached = starts_fit codes limits f words w (all_well_shaped codes limits sound) is params reached

-- ---- never stuck

less_next : (left from steps : ℕ) → left < from → from ≤ suc (suc steps) → left ≤ suc steps
less_next left from steps h k = omega (arith, h, k)

itself_less : (n : ℕ) → n < suc n
itself_less n = omega arith

one_more : (a b : ℕ) → a ≤ b → suc a ≤ suc b
one_more a b h = omega arith

module _ (codes : Codes) (limits : Limits) (well : AreWellShaped codes limits) (rows : AllHaveRows codes limits) where
  moved_fits : (from : ℕ) (n : Next) → Moves codes limits from n → FitsNext codes limits n
  moved_fits from (Goes c) m = m.fits
  moved_fits from (Ends r) m = m
  moved_fits from Stuck m = m

  pub stays_fitting : (steps : ℕ) (from : Next) → FitsNext codes limits from → FitsNext codes limits (after codes limits steps from)
  stays_fitting zero from fits = fits
  stays_fitting (suc k) (Goes c) fits = stays_fitting k (step codes limits c) (moved_fits (left_of codes limits c) (step codes limits c) (step_moves codes limits well rows c fits))
  stays_fitting (suc k) (Ends r) fits = fits
  stays_fitting (suc k) Stuck fits = fits

  -- ---- the end

  end_stays : (n : ℕ) (r : End (Option Word)) → after codes limits n (Ends r) ≡ Ends r
  end_stays zero r = refl
  end_stays (suc n) r = refl

  plus_some : (p here : ℕ) → 0 < here → 0 < p + here
  plus_some p here h = omega arith

  -- a configuration that fits has its line before it
  some_left : (c : Config) → FitsConfig codes limits c → 0 < left_of codes limits c
  some_left c fits =
      plus_some (c.world.ticks * tick_worth codes limits) ((lines_in (code_in codes c.top.text) c.top.fun - c.top.line) + lines_below codes c.below)
      (something_left (lines_in (code_in codes c.top.text) c.top.fun) c.top.line (lines_below codes c.below)
      (lines_are (allowed_in limits c.top.text) (code_in codes c.top.text) fits.function (frame_kinds c.top) fits.top))

  nothing_left : (left from : ℕ) → left < from → from ≤ suc zero → 0 < left → ⊥
  nothing_left left from less h some = omega (arith, less, h, some)

  -- with less left than so many steps it ends in them
  ends_in : (steps from : ℕ) (n : Next) → Moves codes limits from n → from ≤ suc steps → EndsWithin codes limits steps n
  ends_in steps from Stuck m h = absurd m
  ends_in steps from (Ends r) m h = record { end = r; ends = end_stays steps r; fits = m }
  ends_in zero from (Goes c) m h = absurd (nothing_left (left_of codes limits c) from m.less h (some_left c m.fits))
  ends_in (suc k) from (Goes c) m h =
      let e = ends_in k (left_of codes limits c) (step codes limits c) (step_moves codes limits well rows c m.fits) (less_next (left_of codes limits c) from k m.less h) in
      record { end = e.end; ends = e.ends; fits = e.fits }

  fitting_ends : (c : Config) (steps : ℕ) → FitsConfig codes limits c → left_of codes limits c ≤ steps → EndsWithin codes limits steps (Goes c)
  fitting_ends c steps fits h = ends_in steps (suc (left_of codes limits c)) (Goes c) (record { fits = fits; less = itself_less (left_of codes limits c) }) (one_more (left_of codes limits c) steps h)

  -- within the bound
  pub ends_within : (c : Config) → FitsConfig codes limits c → EndsWithin codes limits (most_steps codes limits c.world.ticks) (Goes c)
  ends_within c fits = fitting_ends c (most_steps codes limits c.world.ticks) fits (left_most codes limits c fits.within)

pub never_stuck : NeverStuck
never_stuck codes limits from steps sound rows fits = stays_fitting codes limits (all_well_shaped codes limits sound) rows steps from fits

pub runs_end : RunsEnd
runs_end codes limits from sound rows fits = ends_within codes limits (all_well_shaped codes limits sound) rows from fits

abbrev started : FunCode → List Word → World → Config
started g words w = record { top = record { text = Script; fun = 0; line = 0; locals = words ++ map start_of g.locals; stack = []; turns = 0; due = [] }; below = []; world = w }

start_ends : (codes : Codes) (limits : Limits) → AreWellShaped codes limits → AllHaveRows codes limits → (f : FunCode) (words : List Word) (w : World) (o : Option FunCode) → o ≡ Some f
    → FitsNext codes limits (start_at o words w) → EndsWithin codes limits (most_steps codes limits w.ticks) (start_at o words w)
start_ends codes limits well rows f words w None is fits = cc
start_ends codes limits well rows f words w (Some g) is fits = ends_within codes limits well rows (started g words w) fits

pub run_ends : (codes : Codes) (limits : Limits) → AreWellShaped codes limits → AllHaveRows codes limits → (f : FunCode) (words : List Word) (w : World) → slice_get codes.script 0 ≡ Some f → kinds_of words ≡ f.params
    → ReachesAllowed limits.ground.allowed w → EndsWithin codes limits (most_steps codes limits w.ticks) (start codes words w)
run_ends codes limits well rows f words w is params reached =
    start_ends codes limits well rows f words w (slice_get codes.script 0) is (starts_fit codes limits f words w well is params reached)

pub starts_end : StartsEnd
starts_end codes limits f words w sound rows is params reached = run_ends codes limits (all_well_shaped codes limits sound) rows f words w is params reached

-- ---- frames below, which stand in one text with no cast due

module _ (codes : Codes) (limits : Limits) (text : Owner) where
  below_fit : (fs : List Frame) (above : Owner) (due : List Ty) (result : Option Slot) → StandIn text fs → due ≡ [] → BelowFits codes limits fs above due result
      → FitBelow (allowed_in limits text) (code_in codes text) (map frame_kinds fs) result
  below_fit [] above due result stand none fits = bottom
  below_fit (f ∷ fs) above due result stand none fits =
      let awaits : Awaits (allowed_in limits text) (code_in codes text) fits.0 (frame_kinds f) (kind_behind due result) =
      subst (λ (there : Owner). Awaits (allowed_in limits there) (code_in codes there) fits.0 (frame_kinds f) (kind_behind due result)) stand.0 fits.1 in
      one_below fits.0 (frame_kinds f) (map frame_kinds fs)
      (subst (λ (casts : List Ty). Awaits (allowed_in limits text) (code_in codes text) fits.0 (frame_kinds f) (kind_behind casts result)) none awaits)
      (below_fit fs f.text f.due fits.0.result stand.2 stand.1 fits.3)

pub frames_fit : FramesFit
frames_fit codes limits text c fits stand = below_fit codes limits text c.below c.top.text c.top.due fits.function.result stand.2 stand.1 fits.below
