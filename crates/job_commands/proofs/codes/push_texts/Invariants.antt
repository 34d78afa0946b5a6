-- The text that stands here, and behind it the listings of the scripts that are left, are those of all.
use Rattle.std.proofs.Common.{drop, string_bytes}
use Rattle.job_commands.proofs.Listings.{TextsOn}
use Rattle.job_commands.proofs.codes.push_texts.Given as goal

abbrev pub invariant-loop-script : goal.invariant-loop-script
invariant-loop-script l = TextsOn (string_bytes l.initial.text) l.scripts (drop l.script-index l.scripts) (string_bytes l.text)
