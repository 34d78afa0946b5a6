-- What a run of code leaves that comes to its end.
use Rattle.std.proofs.Common.{◌≡◌, ℕ, ◌-◌, List, Option, Some, IsTrue, refl, sym, subst, ap, ◌∙◌}
use Rattle.pl_types.specs.declared.ty.Ty.{Ty}
use Rattle.object_heap.specs.declared.outcome.Outcome.{Outcome}
use Rattle.pl_code.specs.declared.code.FunCode.{FunCode}
use Rattle.compiled_outcome.specs.World.{World, Limit, End, Result, Uncaught, Limited}
use Rattle.compiled_outcome.specs.World.{Loop, Depth, Ticks, Room}
use Rattle.verified_machine.specs.code_meaning_declared.word.Word.{Word}
use Rattle.verified_machine.specs.Machine.{Next, Goes, Ends, Stuck}
use Rattle.verified_machine.specs.machine_declared.activation.RunOutcome as run_outcome
use Rattle.verified_machine.specs.machine_declared.configuration.RunEnd as run_end
use Rattle.verified_machine.specs.machine_declared.configuration.RunEnd.TheVariants as r
use Rattle.verified_machine.specs.Seen.{limit_of, ended}
use Rattle.verified_machine.specs.Activations.{is_over}
use Rattle.verified_machine.specs.Tasks.{EndFits, which_of, outcome_of, outcome_in, ending}
use Rattle.script_engine.specs.Running.{end_left, world_left, IsEnd, LeftOf, Comes}

-- an end of a run of verified code is none of a stuck one
pub fitting_end : (code : List FunCode) (end : run_end.RunEnd) → EndFits code end → IsEnd end
fitting_end code (r.Result word) fits = tt
fitting_end code (r.Thrown id place) fits = tt
fitting_end code (r.Limit which place) fits = tt
fitting_end code r.Stuck fits = fits

pub comes_from : (of : Ty) (ran : run_outcome.RunOutcome) (ending : Option run_outcome.RunOutcome) (o : Outcome) → ending ≡ Some ran → LeftOf of ran o → Comes of ending o
comes_from of ran ending o is left = subst (λ x. Comes of x o) (sym is) left

-- ---- where a run stands that has come to its end

-- a run stands at an end with this outcome, with some ticks of so many left
pub record EndsWith (of : Ty) (most : ℕ) (next : Next) (o : Outcome) : Type 0 where
  pub left : ℕ
  pub end : run_end.RunEnd
  pub read : end_left of end ≡ Some o.end
  pub stands : next ≡ ended end (world_left o left)
  pub ticks : o.ticks ≡ most - left
  pub over : IsTrue (is_over (Some next))

same_limit : (limit : Limit) → limit ≡ limit_of (which_of limit)
same_limit Loop = refl
same_limit Depth = refl
same_limit Ticks = refl
same_limit Room = refl

module _ (of : Ty) (ticks steps : ℕ) (o : Outcome) where
  -- the world of an end is that of the outcome
  same_world : (e : End (Option Word)) (w : World) → LeftOf of (outcome_of ticks steps e) o → (outcome_of ticks steps e).heap ≡ w.store → (outcome_of ticks steps e).reached ≡ w.reached → w ≡ world_left o w.ticks
  same_world e w is heap reached = λ i. record { store = sym (is.heap ∙ heap) i; ticks = w.ticks; reached = sym (is.reached ∙ reached) i }

  ends_with : (e : End (Option Word)) → LeftOf of (outcome_of ticks steps e) o → EndsWith of ticks (Ends e) o
  ends_with (Result word w) is = record { left = w.ticks; end = r.Result word; read = is.end; stands = ap (λ x. Ends (Result word x)) (same_world (Result word w) w is refl refl); ticks = is.ticks; over = refl }
  ends_with (Uncaught id place w) is = record { left = w.ticks; end = r.Thrown id place; read = is.end; stands = ap (λ x. Ends (Uncaught id place x)) (same_world (Uncaught id place w) w is refl refl); ticks = is.ticks; over = refl }
  ends_with (Limited limit place w) is = record {
    left = w.ticks;
    end = r.Limit (which_of limit) place;
    read = is.end;
    stands = ap (λ x. Ends (Limited limit place x)) (same_world (Limited limit place w) w is refl refl) ∙ ap (λ l. Ends (Limited l place (world_left o w.ticks))) (same_limit limit);
    ticks = is.ticks;
    over = refl;
  }

  pub comes_with : (next : Next) → Comes of (outcome_in ticks steps next) o → EndsWith of ticks next o
  comes_with (Goes c) is = absurd is
  comes_with (Ends e) is = ends_with e is
  comes_with Stuck is = absurd is
