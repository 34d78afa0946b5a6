use Rattle.std.proofs.Common.{◌≡◌, Option, Some, None, option_map, refl, ap, sym, ◌∙◌}
use Rattle.std.specs.Prelude.{ℤ, pos, negsuc, ◌≤ℤ◌}
use Rattle.job_file.specs.Limits.{natural}
use Rattle.function_score.specs.Scores.{joined_on}
use Rattle.function_score.proofs.scoring.added.Goals as goal

-- a number that is not below 0 is that without its sign
least_shown : (all : Option ℤ) → ((x : ℤ) → all ≡ Some x → pos 0 ≤ℤ x) → all ≡ option_map pos (option_map natural all)
least_shown None h = refl
least_shown (Some (pos n)) h = refl
least_shown (Some (negsuc n)) h = absurd (h (negsuc n) refl).le

pub returns-in-None : goal.returns-in-None
returns-in-None c = least_shown c.args.all c.requires.all ∙ ap (λ o. option_map pos (joined_on c.args.mode (option_map natural c.args.all) (option_map natural o))) (sym c.in-None.is)
