-- Stages one after the other.
use Rattle.std.proofs.Common.{◌≡◌, Result, Ok, Err, refl, sym, subst}
use Rattle.pl_types.specs.Answers.{Answers}
use Rattle.pl_types.specs.declared.refusal.Refusal.{Refusal}
use Rattle.pl_types.specs.declared.refusal.Fail.{Fail}
use Rattle.pl_types.specs.declared.refusal.Fail.TheVariants.{Refused, NoMemory}
use Rattle.script_engine.specs.Stages.{GoesOn, Then}

-- a stage of the code has answered, and its one reading is the answer
pub record Stage {X Y : Type 0} (view : X → Y) (result : Result X Fail) (Reads : Result Y Refusal → Type 0) : Type 0 where
  pub exact : Answers view result Reads
  pub only : (reading : Result Y Refusal) → Reads reading → Answers view result (λ a. a ≡ reading)

-- where the first stage gives something, the second decides
pub then_given : {A X Y : Type 0} (view : X → Y) (result : Result X Fail) (First : Result A Refusal → Type 0) (Next : A → Result Y Refusal → Type 0) (given : A)
    → First (Ok given) → ((reading : Result A Refusal) → First reading → Ok given ≡ reading) → Stage view result (Next given) → Stage view result (Then First Next)
then_given {A} {X} {Y} view result First Next given first one next = record {
  exact = exactly result next.exact;
  only = λ reading h. next.only reading (subst (λ (r : Result A Refusal). GoesOn Next r reading) (sym (one h.0 h.1)) h.2);
} where
  exactly : (r : Result X Fail) → Answers view r (Next given) → Answers view r (Then First Next)
  exactly (Ok x) h = (Ok given, first, h)
  exactly (Err (Refused refusal)) h = (Ok given, first, h)
  exactly (Err NoMemory) h = tt

-- where it refuses, so do both
pub then_refused : {A X Y : Type 0} (view : X → Y) (First : Result A Refusal → Type 0) (Next : A → Result Y Refusal → Type 0) (refusal : Refusal)
    → First (Err refusal) → ((reading : Result A Refusal) → First reading → Err refusal ≡ reading) → Stage {X = X} view (Err (Refused refusal)) (Then First Next)
then_refused {A} view First Next refusal first one = record {
  exact = (Err refusal, first, refl);
  only = λ reading h. sym (subst (λ (r : Result A Refusal). GoesOn Next r reading) (sym (one h.0 h.1)) h.2);
}

-- a stage that fails fails both, whatever was to follow
pub then_failed : {A W X Y : Type 0} (seen : W → A) (view : X → Y) (First : Result A Refusal → Type 0) (Next : A → Result Y Refusal → Type 0) (fail : Fail)
    → Stage {X = W} seen (Err fail) First → Stage {X = X} view (Err fail) (Then First Next)
then_failed seen view First Next (Refused refusal) stage = then_refused view First Next refusal stage.exact stage.only
then_failed seen view First Next NoMemory stage = record { exact = tt; only = λ reading h. tt }
