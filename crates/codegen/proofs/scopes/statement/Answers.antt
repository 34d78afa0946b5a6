use Rattle.codegen.proofs.Weighed.{statement_weighs}
use Rattle.std.proofs.Common.{◌∷◌, sym, subst, arith}
use Rattle.std.proofs.lemmas.Result.{on_ok_weaker}
use Rattle.codegen.specs.Worklist.{items_of}
use Rattle.source_meaning.specs.Programs.{program_of}
use Rattle.source_meaning.specs.Tree.{Stmts}
use Rattle.codegen.specs.Worklist.{Back, Run, tail_of}
use Rattle.codegen.proofs.Opened.{statement_opened}
use Rattle.codegen.specs.Sound.{Keeps}
use Rattle.codegen.proofs.scopes.statement.Goals as goal

pub returns-clause-back : goal.returns-clause-back
returns-clause-back c = on_ok_weaker c.by_kind.result
    (λ d. subst (λ (b : Stmts). Back (program_of c.args.program.now) (Run b c.args.exits ∷ items_of c.args.worklist.now) c.args.config.now (items_of c.by_kind.new.worklist) c.args.config.now) (sym (statement_opened c.args.s.now (tail_of c.args.tail))) d) c.by_kind.ensures.back

pub returns-clause-sound : goal.returns-clause-sound
returns-clause-sound c = subst (λ (b : Stmts). Keeps (program_of c.args.program.now) (Run b c.args.exits ∷ items_of c.args.worklist.now) c.args.config.now c.by_kind.result (items_of c.by_kind.new.worklist) c.args.config.now) (sym (statement_opened c.args.s.now (tail_of c.args.tail))) c.by_kind.ensures.sound

pub returns-clause-falls : goal.returns-clause-falls
returns-clause-falls c = on_ok_weaker c.by_kind.result (λ d. omega (arith, d, statement_weighs c.args.s.now)) c.by_kind.ensures.falls
