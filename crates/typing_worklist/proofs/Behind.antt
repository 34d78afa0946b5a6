-- A rule and what is done behind it.
use Rattle.std.proofs.Common.{◌≡◌, Ok, Err, refl}
use Rattle.typing_rules.specs.Doing.{Answer, and_then}
use Rattle.typing_rules.specs.Outcomes.{Out, bind}
use Rattle.typing_actions.specs.declared.config.Config.{Config}

pub behind : {A : Type 0} (o : Out A) (h : A → Config) (k : Config → Answer) → and_then o (λ a. k (h a)) ≡ and_then (bind o (λ a. Ok (h a))) k
behind (Ok a) h k = refl
behind (Err r) h k = refl

pub behind_with : {A B : Type 0} (o : Out A) (f : A → B) (h : B → Config) (k : Config → Answer)
    → and_then o (λ a. k (h (f a))) ≡ and_then (bind (bind o (λ a. Ok (f a))) (λ b. Ok (h b))) k
behind_with (Ok a) f h k = refl
behind_with (Err r) f h k = refl

pub behind_two : {A B : Type 0} (o : Out A) (f : A → Out B) (h : B → Config) (k : Config → Answer)
    → and_then o (λ a. and_then (f a) (λ b. k (h b))) ≡ and_then (bind o (λ a. bind (f a) (λ b. Ok (h b)))) k
behind_two (Ok a) f h k = behind (f a) h k
behind_two (Err r) f h k = refl

pub behind_both : {A B : Type 0} (o : Out A) (f : A → Out B) (h : A → B → Config) (k : Config → Answer)
    → and_then o (λ a. and_then (f a) (λ b. k (h a b))) ≡ and_then (bind o (λ a. bind (f a) (λ b. Ok (h a b)))) k
behind_both (Ok a) f h k = behind (f a) (h a) k
behind_both (Err r) f h k = refl

pub behind_next : {A B : Type 0} (o : Out A) (f : A → Out B) (h : B → Config) (k : Config → Answer)
    → and_then o (λ a. and_then (f a) (λ b. k (h b))) ≡ and_then (bind (bind o f) (λ b. Ok (h b))) k
behind_next (Ok a) f h k = behind (f a) h k
behind_next (Err r) f h k = refl

-- a rule that is asked again comes to the same
pub again : {A : Type 0} (o : Out A) (f : Out A → Answer) → and_then o (λ a. f (Ok a)) ≡ and_then o (λ a. f o)
again (Ok a) f = refl
again (Err r) f = refl

pub again_with : {A : Type 0} (o : Out A) (f : A → Out A → Answer) → and_then o (λ a. f a (Ok a)) ≡ and_then o (λ a. f a o)
again_with (Ok a) f = refl
again_with (Err r) f = refl
