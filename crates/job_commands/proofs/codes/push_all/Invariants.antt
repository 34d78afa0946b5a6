-- The listings that stand here, and behind them those of the scripts that are left, are those of all.
use Rattle.std.proofs.Common.{drop, map, string_bytes}
use Rattle.job_commands.proofs.Listings.{ListsOn}
use Rattle.job_commands.proofs.codes.push_all.Given as goal

abbrev pub invariant-loop-script : goal.invariant-loop-script
invariant-loop-script l = ListsOn (map string_bytes l.initial.listings.items) l.scripts (drop l.script-index l.scripts) (map string_bytes l.listings.items)
