use Rattle.std.proofs.Common.{ap, sym, ◌∙◌, [], ◌∷◌, ◌++◌, List, reverse}
use Rattle.typed_tree.specs.declared.statement.TypedStatement.{TypedStatement}
use Rattle.typing_rules.specs.Rules.Statements.{statements_of}
use Rattle.typing_rules.proofs.Lists.{next_statement}
use Rattle.typing_rules.proofs.rules.statements.statements_of.Goals as goal

pub loop-step-preserved : goal.loop-step-preserved
loop-step-preserved c =
    let l = c.loop-step in
    let left = c.pop.new.self.items in
    l.invariant
    ∙ next_statement l.all l.steps.items left c.in-Some.step c.in-Some.ensures.items
    ∙ ap (λ (y : TypedStatement). (l.all ++ y ∷ []) ++ statements_of (reverse left)) (sym c.into_statement.ensures)
    ∙ ap (λ (all : List TypedStatement). all ++ statements_of (reverse left)) (sym c.in_ok-push.ensures.ok)
