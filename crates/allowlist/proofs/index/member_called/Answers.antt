use Rattle.std.proofs.Common.{◌≡◌, ℕ, ◌+◌, ◌-◌, ◌/◌, ◌<◌, ◌≤◌, get_or, length, sym, ap, ◌∙◌, arith}
use Rattle.allowlist.specs.Accessors.{seen_name}
use Rattle.allowlist.specs.Allow.{start_of}
use Rattle.allowlist.specs.Index.{order_of}
use Rattle.allowlist.proofs.Tables.{length-catalogue}
use Rattle.allowlist.proofs.Places.{length-index, number_within, place_within, read_member, window_upper, window_lower, found, not_found}
use Rattle.allowlist.proofs.index.member_called.Goals as goal

pub loop-low-init : goal.loop-low-init
loop-low-init c =
    let low : c.start_of_class-low.result ≡ start_of c.args.class = c.start_of_class-low.ensures in
    let high : c.start_of_class-high.result ≡ start_of (c.args.class + 1) = c.start_of_class-high.ensures in
    record {
      window = λ p i e. (omega (arith, low, i.0), omega (arith, high, i.1));
      first = omega (arith, low);
      last = omega (arith, high);
    }

middle_in : (class low high first last : ℕ) → low < high → first ≤ low → high ≤ last → (first ≤ low + (high - low) / 2) × (low + (high - low) / 2 < last)
middle_in class low high first last h a b = (omega arith, omega arith)

pub bounds-index-middle : goal.bounds-index-middle
bounds-index-middle c =
    let i = middle_in c.args.class c.loop-low.low c.loop-low.high (start_of c.args.class) (start_of (c.args.class + 1)) c.loop-low-test.true c.loop-low.invariant.first c.loop-low.invariant.last in
    let w = place_within c.args.class (c.loop-low.low + (c.loop-low.high - c.loop-low.low) / 2) c.requires.class i in
    omega (arith, w, length-index c.args.index.now c.requires.index)

pub bounds-types-number : goal.bounds-types-number
bounds-types-number c =
    let i = middle_in c.args.class c.loop-low.low c.loop-low.high (start_of c.args.class) (start_of (c.args.class + 1)) c.loop-low-test.true c.loop-low.invariant.first c.loop-low.invariant.last in
    let w = place_within c.args.class (c.loop-low.low + (c.loop-low.high - c.loop-low.low) / 2) c.requires.class i in
    let n = number_within c.args.index.now (c.loop-low.low + (c.loop-low.high - c.loop-low.low) / 2) 0 c.requires.index w in
    omega (arith, n, length-catalogue, ap length c.requires.types)

pub loop-low-preserved-in-Less : goal.loop-low-preserved-in-Less
loop-low-preserved-in-Less c =
    let middle = c.loop-low.low + (c.loop-low.high - c.loop-low.low) / 2 in
    let i = middle_in c.args.class c.loop-low.low c.loop-low.high (start_of c.args.class) (start_of (c.args.class + 1)) c.loop-low-test.true c.loop-low.invariant.first c.loop-low.invariant.last in
    let n = number_within c.args.index.now middle 0 c.requires.index (place_within c.args.class middle c.requires.class i) in
    let m = read_member c.args.types.now (get_or c.args.index.now middle 0) c.index-types-number.result c.requires.types n c.index-types-number.is in
    let o = ap (order_of (seen_name c.args.name.now) c.args.arity) (sym m) ∙ sym c.order.ensures ∙ c.in-Less.is in
    record {
      window = window_upper c.args.index.now c.args.class (seen_name c.args.name.now) c.args.arity c.loop-low.low middle c.loop-low.high c.requires.index c.requires.class i o c.loop-low.invariant.window;
      first = omega (arith, i.0);
      last = c.loop-low.invariant.last;
    }

pub loop-low-preserved : goal.loop-low-preserved
loop-low-preserved c =
    let middle = c.loop-low.low + (c.loop-low.high - c.loop-low.low) / 2 in
    let i = middle_in c.args.class c.loop-low.low c.loop-low.high (start_of c.args.class) (start_of (c.args.class + 1)) c.loop-low-test.true c.loop-low.invariant.first c.loop-low.invariant.last in
    let n = number_within c.args.index.now middle 0 c.requires.index (place_within c.args.class middle c.requires.class i) in
    let m = read_member c.args.types.now (get_or c.args.index.now middle 0) c.index-types-number.result c.requires.types n c.index-types-number.is in
    let o = ap (order_of (seen_name c.args.name.now) c.args.arity) (sym m) ∙ sym c.order.ensures ∙ c.in-Greater.is in
    record {
      window = window_lower c.args.index.now c.args.class (seen_name c.args.name.now) c.args.arity c.loop-low.low middle c.loop-low.high c.requires.index c.requires.class i o c.loop-low.invariant.window;
      first = c.loop-low.invariant.first;
      last = omega (arith, i.1);
    }

pub returns-in-Equal : goal.returns-in-Equal
returns-in-Equal c =
    let middle = c.loop-low.low + (c.loop-low.high - c.loop-low.low) / 2 in
    let i = middle_in c.args.class c.loop-low.low c.loop-low.high (start_of c.args.class) (start_of (c.args.class + 1)) c.loop-low-test.true c.loop-low.invariant.first c.loop-low.invariant.last in
    let n = number_within c.args.index.now middle 0 c.requires.index (place_within c.args.class middle c.requires.class i) in
    let m = read_member c.args.types.now (get_or c.args.index.now middle 0) c.index-types-number.result c.requires.types n c.index-types-number.is in
    let o = ap (order_of (seen_name c.args.name.now) c.args.arity) (sym m) ∙ sym c.order.ensures ∙ c.in-Equal.is in
    found c.args.index.now c.args.class (seen_name c.args.name.now) c.args.arity middle c.requires.index c.requires.class i o

pub returns : goal.returns
returns c = not_found c.args.index.now c.args.class (seen_name c.args.name.now) c.args.arity c.loop-low.low c.loop-low.high c.requires.index c.requires.class c.loop-low-test.false c.loop-low.invariant.window
