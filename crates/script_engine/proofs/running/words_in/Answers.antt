-- Where no argument is left, none of the kinds that are left has a word.
use Rattle.std.proofs.Common.{◌≡◌, length, drop, arith}
use Rattle.std.proofs.lemmas.List.{nil_from_length}
use Rattle.script_engine.proofs.Words.{stopped}
use Rattle.script_engine.proofs.running.words_in.Goals as goal

pub returns-in-None : goal.returns-in-None
returns-in-None c =
    let none : length c.loop-kind.args.items ≡ 0 = omega (arith, c.loop-kind.args.ok, c.in-None.ensures.cases.0) in
    stopped c.loop-kind.words (drop c.loop-kind.kind-index c.args.kinds.now) c.loop-kind.args.items _ (nil_from_length c.loop-kind.args.items none) c.loop-kind.invariant
