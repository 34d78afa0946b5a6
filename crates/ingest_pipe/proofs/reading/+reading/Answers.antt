use Rattle.std.proofs.Common.{◌≡◌, ◌≢◌, ◌<◌, ◌≤◌, None, Some, length, get_or, rules, arith, ◌∙◌}
use Rattle.std.proofs.lemmas.Result.{err_from_is_err_and}
use Rattle.serde_json.specs.Find.{as_array, as_object}
use Rattle.serde_json.specs.View.{view, items_view, members_view}
use Rattle.ingest_pipe.specs.Reading.{failures_at}
use Rattle.ingest_pipe.proofs.Chaining.{all_read}
use Rattle.ingest_pipe.proofs.Readings.{deep_bad, deep_list, empty_list, kind_bad, kind_bad_behind, kind_bad_inside, kind_made, list_bad, list_begins, list_on, no_list}
use Rattle.ingest_pipe.proofs.reading.+reading.Goals as goal

-- ---- lists for failures

pub read_failures_at-returns-then-levels-eq0 : goal.read_failures_at-returns-then-levels-eq0
read_failures_at-returns-then-levels-eq0 t c = deep_bad c.args.levels c.args.path.now (view c.args.list.now) c.args.met.now c.args.met.now c.bad.result c.if-levels-eq0.true c.bad.ensures

pub read_failures_at-returns-in_default : goal.read_failures_at-returns-in_default
read_failures_at-returns-in_default t c =
    let none : None ≡ as_array (view c.args.list.now) = first_of (search rules, grind arith) in
    no_list c.args.levels c.args.path.now (view c.args.list.now) c.args.met.now c.args.met.now c.bad-in_default.result c.if-levels-eq0.false none c.bad-in_default.ensures

pub read_failures_at-returns-then-is_empty : goal.read_failures_at-returns-then-is_empty
read_failures_at-returns-then-is_empty t c =
    let vs = c.in-Some.items.now.items in
    let none : length vs ≡ 0 = first_of (search rules, grind arith) in
    empty_list c.args.levels c.args.path.now (view c.args.list.now) vs c.args.met.now c.args.met.now c.bad-then-is_empty.result c.if-levels-eq0.false c.in-Some.ensures none c.bad-then-is_empty.ensures

pub read_failures_at-returns : goal.read_failures_at-returns
read_failures_at-returns t c =
    let vs = c.in-Some.items.now.items in
    let some : length vs ≢ 0 = first_of (search rules, grind arith) in
    deep_list c.args.levels c.args.path.now (view c.args.list.now) vs c.args.met.now c.read_list.new.met c.read_list.result c.if-levels-eq0.false c.in-Some.ensures some c.read_list.ensures

-- ---- a processor of a kind

pub read_kind-returns-in_err-try_before : goal.read_kind-returns-in_err-try_before
read_kind-returns-in_err-try_before t c =
    let p = err_from_is_err_and c.from_residual.result c.from_residual.ensures.1 in
    rw (p.1, p.2) (kind_bad (failures_at c.args.levels) c.args.path.now c.args.kind (members_view c.in-Some.members.now.entries) (view c.args.processor.now) c.args.met.now c.in-Some.ensures
    c.args.met.now c.in_err-try_before.field-0.0 c.in_err-try_before.ensures)

pub read_kind-returns-in_err-on_failure : goal.read_kind-returns-in_err-on_failure
read_kind-returns-in_err-on_failure t c =
    let p = err_from_is_err_and c.from_residual-in_err-on_failure.result c.from_residual-in_err-on_failure.ensures.1 in
    rw (p.1, p.2) (kind_bad_inside (failures_at c.args.levels) c.args.path.now c.args.kind (members_view c.in-Some.members.now.entries) (view c.args.processor.now) c.args.met.now c.in-Some.ensures
    c.in_ok-try_before.field-0 c.in_ok-try_before.ensures c.meet_test.new.met c.in_ok-guard.ensures.met
    c.read_failures.new.met c.read_failures.new.met c.in_err-on_failure.field-0.0 c.in_err-on_failure.ensures)

pub read_kind-returns-in_err-action : goal.read_kind-returns-in_err-action
read_kind-returns-in_err-action t c =
    let p = err_from_is_err_and c.from_residual-in_err-action.result c.from_residual-in_err-action.ensures.1 in
    rw (p.1, p.2) (kind_bad_behind (failures_at c.args.levels) c.args.path.now c.args.kind (members_view c.in-Some.members.now.entries) (view c.args.processor.now) c.args.met.now c.in-Some.ensures
    c.in_ok-try_before.field-0 c.in_ok-try_before.ensures c.meet_test.new.met c.in_ok-guard.ensures.met
    c.in_ok-on_failure.on_failure c.read_failures.new.met c.in_ok-on_failure.ensures
    c.end_processor.new.met c.end_processor.new.met c.in_err-action.field-0.0 c.in_err-action.ensures)

pub read_kind-returns : goal.read_kind-returns
read_kind-returns t c =
    kind_made (failures_at c.args.levels) c.args.path.now c.args.kind (members_view c.in-Some.members.now.entries) (view c.args.processor.now) c.args.met.now c.in-Some.ensures
    c.in_ok-try_before.field-0 c.in_ok-try_before.ensures c.meet_test.new.met c.in_ok-guard.ensures.met
    c.in_ok-on_failure.on_failure c.read_failures.new.met c.in_ok-on_failure.ensures
    c.in_ok-guard.guard c.in_ok-action.action c.end_processor.new.met c.in_ok-guard.ensures.guard c.in_ok-action.ensures

-- ---- lists

pub read_list-items-init : goal.read_list-items-init
read_list-items-init t c = list_begins (failures_at c.args.levels) c.args.path.now c.args.items.now.items c.new-all.result c.args.met.now c.new-all.ensures

pub read_list-returns-in_err-processor : goal.read_list-returns-in_err-processor
read_list-returns-in_err-processor t c =
    let vs = c.args.items.now.items in
    let l = c.items in
    let v = c.item-item.result in
    let within : l.number < length vs = omega (arith, c.items-test.true, c.deref-item-items.ensures.len) in
    let is : v ≡ get_or vs l.number v = first_of (search rules, grind arith) in
    let p = err_from_is_err_and c.from_residual-in_err-processor.result c.from_residual-in_err-processor.ensures.1 in
    rw (p.1, p.2) (list_bad (failures_at c.args.levels) c.args.path.now vs l.number v l.all c.as_str.result.now c.args.met.now l.met c.read_processor.new.met c.read_processor.new.met c.in_err-processor.field-0.0
    within is (c.as_str.ensures.value ∙ c.in_ok-place.ensures) c.in_err-processor.ensures l.invariant)

pub read_list-items-preserved : goal.read_list-items-preserved
read_list-items-preserved t c =
    let vs = c.args.items.now.items in
    let l = c.items in
    let v = c.item-item.result in
    let within : l.number < length vs = omega (arith, c.items-test.true, c.deref-item-items.ensures.len) in
    let is : v ≡ get_or vs l.number v = first_of (search rules, grind arith) in
    list_on (failures_at c.args.levels) c.args.path.now vs l.number v l.all c.push.new.self c.in_ok-processor.processor c.as_str.result.now c.args.met.now l.met c.read_processor.new.met
    within is (c.as_str.ensures.value ∙ c.in_ok-place.ensures) c.in_ok-processor.ensures c.in_ok-push.ensures.ok l.invariant

pub read_list-returns : goal.read_list-returns
read_list-returns t c =
    let vs = c.args.items.now.items in
    let l = c.items in
    let past : length vs ≤ l.number = omega (arith, c.items-test.false, c.deref-item-items.ensures.len) in
    all_read (failures_at c.args.levels) c.args.path.now vs l.number l.all c.in_ok-processors.processors c.args.met.now l.met past c.in_ok-processors.ensures l.invariant
