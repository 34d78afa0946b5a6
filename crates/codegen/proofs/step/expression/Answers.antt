use Rattle.std.proofs.Common.{◌<◌, ◌+◌, ◌∷◌, sym, subst}
use Rattle.std.proofs.lemmas.Result.{on_ok_weaker}
use Rattle.source_meaning.specs.Programs.{program_of}
use Rattle.source_meaning.specs.Tree.{Expr}
use Rattle.codegen.specs.Worklist.{items_of, Back, Value}
use Rattle.codegen.proofs.Opened.{expr_opened}
use Rattle.codegen.specs.Sound.{Keeps}
use Rattle.codegen.specs.Weights as weight
use Rattle.codegen.proofs.step.expression.Goals as goal

pub returns-clause-back : goal.returns-clause-back
returns-clause-back c = on_ok_weaker c.value.result
    (λ d. subst (λ (e : Expr). Back (program_of c.args.program.now) (Value e ∷ items_of c.args.worklist.now) c.args.config.now (items_of c.value.new.worklist) c.value.new.config) (sym (expr_opened c.args.e.now)) d) c.value.ensures.back

pub returns-clause-sound : goal.returns-clause-sound
returns-clause-sound c = subst (λ (e : Expr). Keeps (program_of c.args.program.now) (Value e ∷ items_of c.args.worklist.now) c.args.config.now c.value.result (items_of c.value.new.worklist) c.value.new.config) (sym (expr_opened c.args.e.now)) c.value.ensures.sound

pub returns-clause-falls : goal.returns-clause-falls
returns-clause-falls c = on_ok_weaker c.value.result
    (λ d. subst (λ (e : Expr). weight.weights c.value.new.worklist < weight.expression e + weight.weights c.args.worklist.now) (sym (expr_opened c.args.e.now)) d) c.value.ensures.falls
