use Rattle.std.proofs.Common.{[], ◌∷◌, ◌++◌, sym, ap, ◌∙◌, subst}
use Rattle.verifier_table.specs.Nodes.{stacks_of, root, AreLinked}
use Rattle.verifier_table.specs.Measures.{HaveMeasures}
use Rattle.verifier_table.proofs.Linked.{root_linked, root_measured}
use Rattle.verifier_table.proofs.stacks.Stacks.new.Goals as goal

pub returns : goal.returns
unfolding stacks_of
returns c = ap stacks_of (c.in_ok-push.ensures.items ∙ ap (λ ns. ns ++ root ∷ []) c.new-nodes.ensures.items)

pub invariant_of-result : goal.invariant_of-result
invariant_of-result c = subst (λ ns. AreLinked ns × HaveMeasures ns) (sym (c.in_ok-push.ensures.items ∙ ap (λ ns. ns ++ root ∷ []) c.new-nodes.ensures.items)) (root_linked, root_measured)
