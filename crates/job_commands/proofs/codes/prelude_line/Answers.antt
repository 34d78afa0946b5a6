use Rattle.std.proofs.Common.{◌∙◌, sym}
use Rattle.job_commands.proofs.Listings.{no_prelude, prelude_second}
use Rattle.job_commands.proofs.codes.prelude_line.Goals as goal

pub returns-in_default : goal.returns-in_default
returns-in_default c = c.new.ensures.bytes ∙ sym (no_prelude c.args.listings.now c.in_default.ensures.none)

pub returns : goal.returns
returns c = c.in_ok-line.ensures ∙ sym (prelude_second c.args.listings.now c.in-Some.found.behind.now c.in-Some.found.own.now c.in-Some.found.prelude.now c.in-Some.ensures.some)
