use Rattle.std.proofs.Common.{◌≡◌, ◌+◌, ◌++◌, ◌<◌, ◌≤◌, [], ◌∷◌, Some, None, Err, length, get_or, rules, subst, sym, arith}
use Rattle.serde_json.specs.View.{view}
use Rattle.function_score.specs.Answers.{IsRead, fault_view, functions_view}
use Rattle.function_score.specs.Functions.{fault_of, function_of}
use Rattle.function_score.proofs.Listed.{told_all, told_fault, told_on, told_too_many}
use Rattle.function_score.proofs.reading.functions_of.Goals as goal

pub returns-then-number-ge-FUNCTION_COUNT-clause-err :
    goal.returns-then-number-ge-FUNCTION_COUNT-clause-err
returns-then-number-ge-FUNCTION_COUNT-clause-err c =
    let vs = c.args.items.now.items in
    let l = c.loop-number in
    let v = c.item-item.result in
    let within : l.number < length vs = omega (arith, c.loop-number-test.true, c.deref-item-items.ensures.len) in
    let is : v ≡ get_or vs l.number v = first_of (search rules, grind arith) in
    let many : 64 ≤ l.number = omega (arith, c.if-number-ge-FUNCTION_COUNT.true) in
    let told = told_too_many vs l.number v (functions_view l.functions.items) within is many l.invariant.told in
    subst (λ r. IsRead (Err c.bad.result) r) (sym told) c.bad.ensures

pub returns-in-Some-clause-err : goal.returns-in-Some-clause-err
returns-in-Some-clause-err c =
    let vs = c.args.items.now.items in
    let l = c.loop-number in
    let v = c.item-item.result in
    let within : l.number < length vs = omega (arith, c.loop-number-test.true, c.deref-item-items.ensures.len) in
    let is : v ≡ get_or vs l.number v = first_of (search rules, grind arith) in
    let few : l.number < 64 = omega (arith, c.if-number-ge-FUNCTION_COUNT.false) in
    let wrong : fault_of (view v) ≡ Some (fault_view c.in-Some.wrong) = first_of (search rules, grind arith) in
    let told = told_fault vs l.number v (functions_view l.functions.items) (fault_view c.in-Some.wrong) within is few wrong l.invariant.told in
    subst (λ r. IsRead (Err c.bad-in-Some.result) r) (sym told) c.bad-in-Some.ensures

pub loop-number-preserved : goal.loop-number-preserved
loop-number-preserved c =
    let vs = c.args.items.now.items in
    let l = c.loop-number in
    let v = c.item-item.result in
    let read = functions_view l.functions.items in
    let more = functions_view c.add_function.new.functions.items in
    let within : l.number < length vs = omega (arith, c.loop-number-test.true, c.deref-item-items.ensures.len) in
    let is : v ≡ get_or vs l.number v = first_of (search rules, grind arith) in
    let few : l.number < 64 = omega (arith, c.if-number-ge-FUNCTION_COUNT.false) in
    let right : fault_of (view v) ≡ None = first_of (search rules, grind arith) in
    let added : more ≡ read ++ function_of (view v) ∷ [] = first_of (search rules, grind arith) in
    let grown : length c.add_function.new.functions.items ≡ length l.functions.items + 1 = first_of (search rules, grind arith) in
    record {
      few = omega (arith, grown, few, l.invariant.counted);
      counted = omega (arith, grown, l.invariant.counted);
      told = told_on vs l.number v read more within is few right added l.invariant.told;
    }

pub returns-clause-ok : goal.returns-clause-ok
returns-clause-ok c =
    let vs = c.args.items.now.items in
    let l = c.loop-number in
    let past : length vs ≤ l.number = omega (arith, c.loop-number-test.false, c.deref-item-items.ensures.len) in
    told_all vs l.number (functions_view l.functions.items) past l.invariant.told
