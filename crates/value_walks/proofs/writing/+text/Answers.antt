use Rattle.std.proofs.Common.{◌+◌, ◌∙◌, ap, sym, arith, codes, drop}
use Rattle.std.specs.Option.{option_copied}
use Rattle.object_heap.specs.Parts.{pairs_in}
use Rattle.std.proofs.lemmas.Result.{err_from_is_err_and}
use Rattle.value_walks.specs.Texts as spec
use Rattle.value_walks.specs.Texts.{written, AValue, AnEntry}
use Rattle.value_walks.proofs.Stepping.{got}
use Rattle.value_walks.proofs.Behind.{rest_text, rest_end, next_item, paired, visited, wrapped, written_nothing, stopped, of_view}
use Rattle.value_walks.proofs.writing.+text.Goals as goal

pub items_text-returns : goal.items_text-returns
items_text-returns t c = c.loop-at.invariant ∙ (ap (written c.loop-at.out) (rest_end _ c.loop-at.at c.args.items.now _ c.loop-at-test.false) ∙ written_nothing _ _)

pub items_text-loop-at-preserved : goal.items_text-loop-at-preserved
items_text-loop-at-preserved t c =
    c.loop-at.invariant
    ∙ (ap (λ items. written c.loop-at.out (rest_text (λ value. spec.node_at c.args.levels c.args.heap.now.objects (AValue value)) c.loop-at.at items c.loop-at.rest)) (got c.args.items.now c.loop-at.at c.in-Some.item.now (sym c.in-Some.ensures))
    ∙ next_item (λ value. spec.node_at c.args.levels c.args.heap.now.objects (AValue value)) c.loop-at.at c.in-Some.item.now (drop (c.loop-at.at + 1) c.args.items.now) c.loop-at.rest _ _ _ _ c.in_ok-separate.ensures.ok c.in_ok-rest.ensures)

pub items_text-returns-in_err-rest : goal.items_text-returns-in_err-rest
items_text-returns-in_err-rest t c =
    let p = err_from_is_err_and c.from_residual-in_err-rest.result c.from_residual-in_err-rest.ensures.1 in
    rw (p.1, p.2) (stopped (λ value. spec.node_at c.args.levels c.args.heap.now.objects (AValue value)) c.loop-at.at c.in-Some.item.now (drop (c.loop-at.at + 1) c.args.items.now) c.loop-at.rest (spec.items_text (λ value. spec.node_at c.args.levels c.args.heap.now.objects (AValue value)) c.args.items.now c.args.visits) c.args.out.now c.loop-at.out c.separate.new.out c.value_at.new.out c.value_at.new.out c.in_err-rest.field-0.0
    (c.loop-at.invariant ∙ ap (λ items. written c.loop-at.out (rest_text (λ value. spec.node_at c.args.levels c.args.heap.now.objects (AValue value)) c.loop-at.at items c.loop-at.rest)) (got c.args.items.now c.loop-at.at c.in-Some.item.now (sym c.in-Some.ensures))) c.in_err-rest.ensures)

pub all_pairs_text-returns : goal.all_pairs_text-returns
all_pairs_text-returns t c = c.loop-at.invariant ∙ (ap (written c.loop-at.out) (rest_end _ c.loop-at.at c.args.pairs.now _ (omega (arith, c.len-at-end.ensures.value))) ∙ written_nothing _ _)

pub all_pairs_text-loop-at-preserved : goal.all_pairs_text-loop-at-preserved
all_pairs_text-loop-at-preserved t c =
    c.loop-at.invariant
    ∙ (ap (λ items. written c.loop-at.out (rest_text (spec.shown_text (spec.node_at c.args.levels c.args.heap.now.objects) c.args.shown) c.loop-at.at items c.loop-at.rest)) (got c.args.pairs.now c.loop-at.at (c.in-Some.key.now, c.in-Some.value.now) c.in-Some.ensures.some)
    ∙ next_item (spec.shown_text (spec.node_at c.args.levels c.args.heap.now.objects) c.args.shown) c.loop-at.at (c.in-Some.key.now, c.in-Some.value.now) (drop (c.loop-at.at + 1) c.args.pairs.now) c.loop-at.rest _ _ _ _ c.in_ok-separate.ensures.ok c.in_ok-rest.ensures)

pub all_pairs_text-returns-in_err-rest : goal.all_pairs_text-returns-in_err-rest
all_pairs_text-returns-in_err-rest t c =
    let p = err_from_is_err_and c.from_residual-in_err-rest.result c.from_residual-in_err-rest.ensures.1 in
    rw (p.1, p.2) (stopped (spec.shown_text (spec.node_at c.args.levels c.args.heap.now.objects) c.args.shown) c.loop-at.at (c.in-Some.key.now, c.in-Some.value.now) (drop (c.loop-at.at + 1) c.args.pairs.now) c.loop-at.rest (spec.items_text (spec.shown_text (spec.node_at c.args.levels c.args.heap.now.objects) c.args.shown) c.args.pairs.now c.args.visits) c.args.out.now c.loop-at.out c.separate.new.out c.shown_text.new.out c.shown_text.new.out c.in_err-rest.field-0.0
    (c.loop-at.invariant ∙ ap (λ items. written c.loop-at.out (rest_text (spec.shown_text (spec.node_at c.args.levels c.args.heap.now.objects) c.args.shown) c.loop-at.at items c.loop-at.rest)) (got c.args.pairs.now c.loop-at.at (c.in-Some.key.now, c.in-Some.value.now) c.in-Some.ensures.some)) c.in_err-rest.ensures)

pub object_text-returns-in-View : goal.object_text-returns-in-View
object_text-returns-in-View t c =
    rw c.in-View.is (of_view (spec.node_at c.args.levels c.args.heap.now.objects) c.args.heap.now.objects c.in-View.map c.in-View.part _ _ _ _ _ _ c.shown_of.ensures c.pairs.ensures c.keyed_text-in-View.ensures)

pub pair_text-returns : goal.pair_text-returns
pair_text-returns t c =
    paired (spec.node_at c.args.levels c.args.heap.now.objects) c.args.key.now c.args.value.now c.args.visits _ c.args.out.now _ _ _ _ c.in_ok-rest.ensures c.in_ok-write.ensures.ok c.value_at-2.ensures

pub list_text-returns : goal.list_text-returns
list_text-returns t c =
    wrapped (spec.items_text (λ value. spec.node_at c.args.levels c.args.heap.now.objects (AValue value)) c.args.items.now c.args.visits) (codes "[") (codes "]") c.args.out.now _ _ _ _
    c.in_ok-write.ensures.ok c.in_ok-rest.ensures c.in_ok-write-2.ensures.ok

pub keyed_text-returns : goal.keyed_text-returns
keyed_text-returns t c =
    wrapped (spec.items_text (spec.shown_text (spec.node_at c.args.levels c.args.heap.now.objects) c.args.shown) (pairs_in (option_copied c.args.pairs)) c.args.visits) (spec.opening c.args.shown) (spec.closing c.args.shown) c.args.out.now _ _ _ _
    c.in_ok-write_opening.ensures.ok c.in_ok-rest.ensures c.in_ok-write_closing.ensures.ok

pub pairs_text-returns-in-None : goal.pairs_text-returns-in-None
pairs_text-returns-in-None t c = rw c.in-None.is (written_nothing c.args.out.now c.args.visits)

pub value_text-returns-in-None : goal.value_text-returns-in-None
value_text-returns-in-None t c = rw (c.in-Ref.is, ← c.get.ensures, c.in-None.is) (written_nothing c.args.out.now c.args.visits)

pub value_at-returns : goal.value_at-returns
value_at-returns t c = rw (visited c.args.levels c.args.visits c.args.heap.now.objects (AValue c.args.value.now) c.if-levels-eq0.false c.if-visits-eq0.false) c.value_text.ensures

pub entry_at-returns : goal.entry_at-returns
entry_at-returns t c = rw (visited c.args.levels c.args.visits c.args.heap.now.objects (AnEntry c.args.key.now c.args.value.now) c.if-levels-eq0.false c.if-visits-eq0.false) c.pair_text.ensures
