-- What the run comes to is the outcome of the program, and it fits where the start does.
use Rattle.std.specs.List.{list_all}
use Rattle.std.specs.Prelude.{IfOk}
use Rattle.std.proofs.Common.{◌≡◌, true, subst}
use Rattle.std.proofs.lemmas.Result.{IfOk-weaker}
use Rattle.static_types.specs.Allow.{flag}
use Rattle.verified_machine.specs.Activations.{Activation}
use Rattle.verified_machine.specs.Tasks.{ending}
use Rattle.script_engine.specs.Fitting.{LeavesFit}
use Rattle.script_engine.specs.Running.{Comes}
use Rattle.script_engine.proofs.Counted.{ending_bounded, ending_counts}
use Rattle.script_engine.proofs.Fitting.{began_leaves, scripts_keep}
use Rattle.script_engine.proofs.Runs.{ending_runs}
use Rattle.script_engine.proofs.Typed.{scripts_give}
use Rattle.script_engine.proofs.compiling.Script.run_in.Goals as goal

pub returns-clause-program : goal.returns-clause-program
returns-clause-program c =
    IfOk-weaker c.finish_with_memory.result _ _ (λ ran comes. ending_runs c.programs_end.ensures.ends c.args.self.now c.args.heap c.args.args.items c.args.limits ran.outcome
    (subst (λ (a : Activation). Comes c.args.self.now.result (ending a) ran.outcome) c.in_ok-activation.ensures comes)) c.finish_with_memory.ensures.comes

pub returns-clause-heap : goal.returns-clause-heap
returns-clause-heap c = λ f g.
    began_leaves c.args.self.now c.args.heap c.args.args.items c.args.limits _ (λ rules. IfOk c.finish_with_memory.result (λ ran. LeavesFit rules c.args.heap.objects ran.outcome))
    c.in_ok-activation.ensures (c.finish_with_memory.ensures.heap c.args.heap.objects) f g

pub returns-clause-keeps : goal.returns-clause-keeps
returns-clause-keeps c =
    IfOk-weaker c.finish_with_memory.result _ _ (λ ran comes. scripts_keep c.args.self.now c.args.heap c.args.args.items c.args.limits ran.outcome
    (ending_runs c.programs_end.ensures.ends c.args.self.now c.args.heap c.args.args.items c.args.limits ran.outcome
    (subst (λ (a : Activation). Comes c.args.self.now.result (ending a) ran.outcome) c.in_ok-activation.ensures comes))) c.finish_with_memory.ensures.comes

pub returns-clause-typed : goal.returns-clause-typed
returns-clause-typed c =
    IfOk-weaker c.finish_with_memory.result _ _ (λ ran comes. scripts_give c.args.self.now c.args.heap c.args.args.items c.args.limits ran.outcome
    (ending_runs c.programs_end.ensures.ends c.args.self.now c.args.heap c.args.args.items c.args.limits ran.outcome
    (subst (λ (a : Activation). Comes c.args.self.now.result (ending a) ran.outcome) c.in_ok-activation.ensures comes))) c.finish_with_memory.ensures.comes

pub returns-clause-counts : goal.returns-clause-counts
returns-clause-counts c =
    IfOk-weaker c.finish_with_memory.result _ _ (λ ran comes. ending_counts c.args.self.now c.args.heap c.args.args.items c.args.limits ran.outcome
    (subst (λ (a : Activation). Comes c.args.self.now.result (ending a) ran.outcome) c.in_ok-activation.ensures comes)) c.finish_with_memory.ensures.comes

pub returns-clause-bound : goal.returns-clause-bound
returns-clause-bound c =
    IfOk-weaker c.finish_with_memory.result _ _ (λ ran comes. ending_bounded c.args.self.now c.args.heap c.args.args.items c.args.limits ran.outcome
    (subst (λ (a : Activation). Comes c.args.self.now.result (ending a) ran.outcome) c.in_ok-activation.ensures comes)) c.finish_with_memory.ensures.comes

pub returns-clause-reaches : goal.returns-clause-reaches
returns-clause-reaches c =
    IfOk-weaker c.finish_with_memory.result _ _ (λ ran reaches. subst (λ (a : Activation). list_all (flag a.executable.script.allow.members) ran.outcome.reached ≡ true) c.in_ok-activation.ensures reaches)
    c.finish_with_memory.ensures.reaches
