-- The lines of all listings are those that stand here, and behind them the lines of those that are left.
use Rattle.std.proofs.Common.{◌≡◌, drop, map, string_bytes}
use Rattle.job_file.specs.Answers.{scripts_view}
use Rattle.job_commands.specs.Running.{with_listings}
use Rattle.job_commands.proofs.codes.push_lines.Given as goal

abbrev pub invariant-loop-script : goal.invariant-loop-script
invariant-loop-script l =
    with_listings l.by_key l.initial.front.items (map string_bytes l.listings) (scripts_view l.scripts)
    ≡ with_listings l.by_key l.front.items (map string_bytes l.left) (scripts_view (drop l.script-index l.scripts))
