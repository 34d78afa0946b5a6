-- What is counted of all answers, document by document.
use Rattle.std.proofs.Common.{◌≡◌, ℕ, ℤ, suc, ◌+◌, List, [], ◌∷◌, Option, Some, None, refl, subst, arith}
use Rattle.job_commands.specs.declared.answer.Answer.{Answer}
use Rattle.job_commands.specs.declared.tally.Tally.{Tally}
use Rattle.job_commands.specs.Answers.{AreAnswers}
use Rattle.job_commands.specs.Generator.{following, numbers_behind}
use Rattle.job_commands.specs.Summaries.{nothing_counted, with_value, counted, tallied}
use Rattle.job_commands.specs.Generated.{IsTally}

-- whatever the answers to the numbers that are left come to, all answers come to it
abbrev pub CountsOn : (ℕ → Answer → Type 0) → ℕ → ℕ → ℕ → Tally → Type 0
CountsOn Is count left x t =
    (more : List Answer) → AreAnswers Is (numbers_behind left x) more → (answers : List Answer) × AreAnswers Is (numbers_behind count 0) answers × (tallied t more ≡ tallied nothing_counted answers)

pub counts_first : (Is : ℕ → Answer → Type 0) (count left : ℕ) → left ≡ count → CountsOn Is count left 0 nothing_counted
counts_first Is count left all more are = (more, subst (λ (n : ℕ). AreAnswers Is (numbers_behind n 0) more) all are, refl)

pub counts_next : (Is : ℕ → Answer → Type 0) (count left rest x : ℕ) (t : Tally) (answer : Answer) → left ≡ suc rest → CountsOn Is count left x t → Is (following x) answer
    → CountsOn Is count rest (following x) (counted answer t)
counts_next Is count left rest x t answer one_less counts is more are = subst (λ (n : ℕ). CountsOn Is count n x t) one_less counts (answer ∷ more) (is, are)

pub counts_all : (Is : ℕ → Answer → Type 0) (count left x : ℕ) (t : Tally) → left ≡ 0 → CountsOn Is count left x t → IsTally Is count t
counts_all Is count left x t none counts = subst (λ (n : ℕ). CountsOn Is count n x t) none counts [] tt

-- an answer is counted once
counted_so : (value : Option ℤ) (steps : ℕ) (t : Tally) → (with_value value t).errors + (with_value value t).ok ≡ suc (t.errors + t.ok)
counted_so None steps t = omega arith
counted_so (Some value) steps t = omega arith

pub counted_once : (answer : Answer) (t : Tally) → (counted answer t).errors + (counted answer t).ok ≡ suc (t.errors + t.ok)
counted_once answer t = counted_so answer.value answer.steps t
