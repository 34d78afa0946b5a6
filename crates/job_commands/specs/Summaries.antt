-- What is counted of the answers, and how it is told.
use Rattle.std.specs.Prelude.{ℕ, ◌+◌, ◌-◌, ◌^◌, ℤ, pos, min, List, [], ◌∷◌, Option, Some, None, codes}
use Rattle.std.specs.Int.{w64}
use Rattle.serde_json.specs.Data.{Data, number, object, unsigned, member, no_members}
use Rattle.serde_json.specs.Find.{of_integer}
use Rattle.arithmetic.specs.Arithmetic.{sum_of}
use Rattle.job_commands.specs.declared.answer.Answer.{Answer}
use Rattle.job_commands.specs.declared.tally.Tally.{Tally}

abbrev pub nothing_counted : Tally
nothing_counted = record { errors = 0; ok = 0; sum = pos 0; steps = 0 }

-- one result more, which is added as a script adds numbers of type long, or one error more
abbrev pub with_value : Option ℤ → Tally → Tally
with_value None t = record { errors = t.errors + 1; ok = t.ok; sum = t.sum; steps = t.steps }
with_value (Some value) t = record { errors = t.errors; ok = t.ok + 1; sum = sum_of w64 t.sum value; steps = t.steps }

-- instructions are counted as far as 64 bits count them
abbrev pub with_steps : ℕ → Tally → Tally
with_steps steps t = record { errors = t.errors; ok = t.ok; sum = t.sum; steps = min (t.steps + steps) (2 ^ 64 - 1) }

abbrev pub counted : Answer → Tally → Tally
counted answer t = with_steps answer.steps (with_value answer.value t)

-- one after the other
abbrev pub tallied : Tally → List Answer → Tally
tallied t [] = t
tallied t (answer ∷ answers) = tallied (counted answer t) answers

-- how many documents there were, the errors, the results, and the sum of these
abbrev pub summary : ℕ → Tally → Data
summary count t =
    object (member (codes "docs") (number (unsigned count)) (member (codes "errors") (number (unsigned t.errors)) (member (codes "ok") (number (unsigned t.ok))
    (member (codes "sum") (number (of_integer t.sum)) no_members))))
