use Rattle.std.proofs.Common.{◌≡◌, Bool, false, ap, sym, ◌∙◌}
use Rattle.std.specs.Prelude.{if◌then◌else◌}
use Rattle.code_meaning.specs.Machine.{on_calculation}
use Rattle.code_meaning.specs.Words.{one_int, op_of, takes_one, two_ints}
use Rattle.machine_paths.proofs.Quick.{as_does}
use Rattle.machine_paths.proofs.fast_path.ints.Goals as goal

pub returns-else-takes_one-clause-exact : goal.returns-else-takes_one-clause-exact
returns-else-takes_one-clause-exact c = λ codes limits w.
    let f = c.args.frames.now.top in
    let two : takes_one c.args.op ≡ false = sym c.takes_one.ensures ∙ c.if-takes_one.false in
    as_does _ _ _ _ _
    (ap (λ (one : Bool). on_calculation codes limits (if one then one_int (op_of c.args.op) f.stack else two_ints (op_of c.args.op) f.stack) f c.args.frames.now.below w) two)
    (c.two_ints.ensures.exact codes limits w)
