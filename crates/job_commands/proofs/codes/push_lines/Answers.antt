use Rattle.std.proofs.Common.{◌∙◌, drop, map, string_bytes, sym, arith}
use Rattle.job_file.specs.Answers.{scripts_view}
use Rattle.job_commands.proofs.Listings.{few_listings, lines_done, lines_next}
use Rattle.job_commands.proofs.codes.push_lines.Goals as goal

pub returns : goal.returns
returns c =
    lines_done c.args.by_key c.args.front.now.items c.loop-script.front.items (map string_bytes c.args.listings.now) (map string_bytes c.loop-script.left.now) c.args.scripts.now
    c.loop-script.script-index (omega (arith, c.loop-script-test.false)) c.loop-script.invariant

pub returns-in_default : goal.returns-in_default
returns-in_default c =
    sym
    (c.loop-script.invariant
    ∙ few_listings c.args.by_key c.loop-script.front.items c.loop-script.left.now (scripts_view (drop c.loop-script.script-index c.args.scripts.now)) c.in_default.ensures.none)

pub loop-script-preserved : goal.loop-script-preserved
loop-script-preserved c =
    c.loop-script.invariant
    ∙ lines_next c.args.by_key c.loop-script.front.items c.push_line.new.front.items c.loop-script.left.now c.in-Some.found.behind.now c.in-Some.found.own.now c.in-Some.found.prelude.now
    c.args.scripts.now c.loop-script.script-index c.script-item.result (omega (arith, c.loop-script-test.true)) c.script-item.is c.in-Some.ensures.some c.in_ok-push_line.ensures
