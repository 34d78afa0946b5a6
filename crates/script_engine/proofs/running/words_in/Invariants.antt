use Rattle.std.proofs.Common.{◌≡◌, ◌++◌, drop, reverse}
use Rattle.script_engine.specs.Running.{words_in}
use Rattle.script_engine.proofs.running.words_in.Given as goal

-- the words of the arguments that are left come behind those that are there
abbrev pub invariant-loop-kind : goal.invariant-loop-kind
invariant-loop-kind l = l.words ++ words_in (drop l.kind-index l.kinds) (reverse l.args.items) ≡ words_in l.kinds l.fn.args.items
