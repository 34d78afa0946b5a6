use Rattle.std.proofs.Common.{◌≡◌, Bool, false, ap, sym, ◌∙◌}
use Rattle.std.specs.Prelude.{if◌then◌else◌}
use Rattle.code_meaning.specs.Machine.{on_calculation}
use Rattle.code_meaning.specs.Words.{is_shift, long_and_int, one_long, op_of, takes_one, two_longs}
use Rattle.machine_paths.proofs.Quick.{as_does}
use Rattle.machine_paths.proofs.value_rows.longs.Goals as goal

pub returns-else-is_shift-clause-exact : goal.returns-else-is_shift-clause-exact
returns-else-is_shift-clause-exact c = λ codes limits w.
    let f = c.args.frames.now.top in
    let op = op_of c.args.op in
    let two : takes_one c.args.op ≡ false = sym c.takes_one.ensures ∙ c.if-takes_one.false in
    let longs : is_shift c.args.op ≡ false = sym c.is_shift.ensures ∙ c.if-is_shift.false in
    as_does _ _ _ _ _
    (ap (λ (one : Bool). on_calculation codes limits (if one then one_long op f.stack else (if is_shift c.args.op then long_and_int op f.stack else two_longs op f.stack)) f c.args.frames.now.below w) two
    ∙ ap (λ (shift : Bool). on_calculation codes limits (if shift then long_and_int op f.stack else two_longs op f.stack) f c.args.frames.now.below w) longs)
    (c.two_longs.ensures.exact codes limits w)
