use Rattle.std.proofs.Common.{◌≡◌, ◌-◌, ◌+◌, suc, length, Some, sym, ap, ◌∙◌, arith}
use Rattle.allowlist.proofs.Scans.{no_bracket, open_bracket, one_bracket, all_brackets}
use Rattle.allowlist.proofs.scan.brackets_at.Goals as goal

pub returns-in_default : goal.returns-in_default
returns-in_default c =
    let e : length c.args.text.now - c.loop-depth.depth ≡ suc (length c.args.text.now - (c.loop-depth.depth + 1)) = omega arith in
    sym (c.loop-depth.invariant ∙ no_bracket (length c.args.text.now - c.loop-depth.depth) (length c.args.text.now - (c.loop-depth.depth + 1)) c.loop-depth.depth c.loop-depth.rest.now e (sym c.in_default.ensures))

pub returns-in_default-mark_at : goal.returns-in_default-mark_at
returns-in_default-mark_at c =
    let e : length c.args.text.now - c.loop-depth.depth ≡ suc (length c.args.text.now - (c.loop-depth.depth + 1)) = omega arith in
    sym (c.loop-depth.invariant ∙ open_bracket (length c.args.text.now - c.loop-depth.depth) (length c.args.text.now - (c.loop-depth.depth + 1)) c.loop-depth.depth c.loop-depth.rest.now c.in-Some.opened.now e (sym c.in-Some.ensures) (sym c.in_default-mark_at.ensures))

pub loop-depth-preserved : goal.loop-depth-preserved
loop-depth-preserved c =
    let e : length c.args.text.now - c.loop-depth.depth ≡ suc (length c.args.text.now - (c.loop-depth.depth + 1)) = omega arith in
    c.loop-depth.invariant ∙ one_bracket (length c.args.text.now - c.loop-depth.depth) (length c.args.text.now - (c.loop-depth.depth + 1)) c.loop-depth.depth c.loop-depth.rest.now c.in-Some.opened.now c.in-Some-mark_at.closed.now e (sym c.in-Some.ensures) (sym c.in-Some-mark_at.ensures)

pub returns : goal.returns
returns c =
    let all : c.loop-depth.depth ≡ length c.args.text.now = omega arith in
    let e : length c.args.text.now - c.loop-depth.depth ≡ 0 = omega arith in
    sym (c.loop-depth.invariant ∙ all_brackets (length c.args.text.now - c.loop-depth.depth) c.loop-depth.depth c.loop-depth.rest.now e ∙ ap (λ d. Some (d, c.loop-depth.rest.now)) all)
