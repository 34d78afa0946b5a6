-- What is said of a told outcome is what comes of it.
use Rattle.object_heap.specs.declared.answer.Answer.{Answer}
use Rattle.object_heap.specs.Effects.{Answers}
use Rattle.object_heap.specs.Store.{Store}
use Rattle.container_outcomes.specs.declared.outcome.Outcome.{Outcome}
use Rattle.container_outcomes.specs.Outcomes.{Tells, WantsMemory, effect}
use Rattle.api_list.specs.declared.told.Told.{Told}
use Rattle.api_list.specs.declared.told.Told.TheVariants.{Says, Enters}
use Rattle.api_list.specs.Taking.{Comes, ToldWants, told_effect}

pub said_comes : (told : Told) (said : Outcome) (old new : Store) (answer : Answer) → ((asked : Outcome) → Tells asked said → Answers (effect old asked) old new answer) → Comes told (Says said)
    → Answers (told_effect old told) old new answer
said_comes (Says asked) said old new answer h k = h asked k
said_comes (Enters list at container) said old new answer h k = absurd k

pub said_wants : (told : Told) (said : Outcome) (answer : Answer) → ((asked : Outcome) → Tells asked said → WantsMemory asked answer) → Comes told (Says said) → ToldWants told answer
said_wants (Says asked) said answer h k = h asked k
said_wants (Enters list at container) said answer h k = absurd k
