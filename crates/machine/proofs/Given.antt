-- What members do.
use Rattle.std.proofs.Common.{List, Option, Some, None}
use Rattle.allowlist.specs.declared.member.MemberType.{MemberType}
use Rattle.def_access.specs.Answers.{AnswersIfBuilt}
use Rattle.object_heap.specs.declared.answer.Answer.{Answer}
use Rattle.object_heap.specs.Effects.{Effect, Answers}
use Rattle.object_heap.specs.Store.{Store}
use Rattle.run_state.specs.World.{World, Limits, acts_in}
use Rattle.code_meaning.specs.declared.word.Word.{Word}
use Rattle.code_meaning.specs.Members.{given_as}
use Rattle.code_meaning.specs.Machine.{Frame, on_act, on_outcome, Codes}
use Rattle.machine.specs.declared.configuration.Configuration.{Configuration}
use Rattle.machine.specs.declared.configuration.Step.{Step}
use Rattle.machine.specs.Seen.{Comes}

-- what comes of a member that is built
pub of_act : (codes : Codes) (limits : Limits) (o : Option Effect) (answer : Answer) (old new : Store) (t : MemberType) (f : Frame) (below : List Frame) (w : World) (stack : List Word) (said : Step) (c : Configuration)
    → AnswersIfBuilt o old new (Some answer)
    → ((effect : Effect) → Answers effect old new answer → Comes (on_outcome codes limits (acts_in w effect) (given_as t.result) f below w stack) said c)
    → Comes (on_act codes limits o t f below w stack) said c
of_act codes limits None answer old new t f below w stack said c h k = absurd h
of_act codes limits (Some effect) answer old new t f below w stack said c h k = k effect h
