-- The listings that stand here, and behind them those of the scripts that are left, are those of all.
use Rattle.std.proofs.Common.{drop, map, string_bytes}
use Rattle.pipe_command.proofs.Ends.{ListsOn}
use Rattle.pipe_command.proofs.command.listings_of.Given as goal

abbrev pub invariant-loop-script : goal.invariant-loop-script
invariant-loop-script l = ListsOn l.scripts (drop l.script-index l.scripts) (map string_bytes l.listings.items)
