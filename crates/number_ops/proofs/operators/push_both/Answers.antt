use Rattle.value_walks.specs.declared.TheConstants.{VISITS}
use Rattle.value_walks.specs.Texts.{text_of}
use Rattle.value_walks.proofs.Behind.{continued}
use Rattle.number_ops.proofs.operators.push_both.Goals as goal

pub returns : goal.returns
returns c =
    continued (text_of c.args.heap.now.objects c.args.a.now VISITS) (λ rest. text_of c.args.heap.now.objects c.args.b.now VISITS) _ c.args.out.now _ _ _ c.in_ok-push_text.ensures c.push_text-2.ensures
