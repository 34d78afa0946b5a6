use Rattle.std.proofs.Common.{◌≡◌, ◌-◌, ◌+◌, [], ◌∷◌, List, suc, length, map, Some, sym, ap, ◌∙◌, arith}
use Rattle.std.proofs.lemmas.List.{map-append}
use Rattle.allowlist.specs.Lines as lines
use Rattle.allowlist.specs.Seen.{seen_text}
use Rattle.allowlist.proofs.Scans.{behind, behind_one, type_none, type_last, type_stop, type_more, no_types}
use Rattle.allowlist.proofs.form.types_at.Goals as goal

pub returns-in_default : goal.returns-in_default
returns-in_default c =
    let e : length c.args.text.now - c.loop-turn._turn ≡ suc (length c.args.text.now - (c.loop-turn._turn + 1)) = omega arith in
    sym (c.loop-turn.invariant ∙ ap (behind (map seen_text c.loop-turn.made.items)) (type_none (length c.args.text.now - c.loop-turn._turn) (length c.args.text.now - (c.loop-turn._turn + 1)) c.loop-turn.rest.now e (sym c.in_default.ensures)))

pub returns-in-Some-mark_at : goal.returns-in-Some-mark_at
returns-in-Some-mark_at c =
    let e : length c.args.text.now - c.loop-turn._turn ≡ suc (length c.args.text.now - (c.loop-turn._turn + 1)) = omega arith in
    sym (c.loop-turn.invariant
    ∙ ap (behind (map seen_text c.loop-turn.made.items)) (type_last (length c.args.text.now - c.loop-turn._turn) (length c.args.text.now - (c.loop-turn._turn + 1)) c.loop-turn.rest.now c.in-Some.after.now c.in-Some-mark_at.end.now (seen_text c.in-Some.ty) e (sym c.in-Some.ensures) (sym c.in-Some-mark_at.ensures))
    ∙ ap (λ (ts : List lines.TypeText). Some (ts, c.in-Some-mark_at.end.now)) (sym (map-append seen_text c.loop-turn.made.items (c.in-Some.ty ∷ [])) ∙ ap (map seen_text) (sym c.in_ok-push.ensures.items)))

pub returns-in_default-mark_at-2 : goal.returns-in_default-mark_at-2
returns-in_default-mark_at-2 c =
    let e : length c.args.text.now - c.loop-turn._turn ≡ suc (length c.args.text.now - (c.loop-turn._turn + 1)) = omega arith in
    sym (c.loop-turn.invariant ∙ ap (behind (map seen_text c.loop-turn.made.items)) (type_stop (length c.args.text.now - c.loop-turn._turn) (length c.args.text.now - (c.loop-turn._turn + 1)) c.loop-turn.rest.now c.in-Some.after.now (seen_text c.in-Some.ty) e (sym c.in-Some.ensures) (sym c.in_default-mark_at.ensures) (sym c.in_default-mark_at-2.ensures)))

pub loop-turn-preserved : goal.loop-turn-preserved
loop-turn-preserved c =
    let e : length c.args.text.now - c.loop-turn._turn ≡ suc (length c.args.text.now - (c.loop-turn._turn + 1)) = omega arith in
    c.loop-turn.invariant
    ∙ ap (behind (map seen_text c.loop-turn.made.items)) (type_more (length c.args.text.now - c.loop-turn._turn) (length c.args.text.now - (c.loop-turn._turn + 1)) c.loop-turn.rest.now c.in-Some.after.now c.in-Some-mark_at-2.next.now (seen_text c.in-Some.ty) e (sym c.in-Some.ensures) (sym c.in_default-mark_at.ensures) (sym c.in-Some-mark_at-2.ensures))
    ∙ behind_one (map seen_text c.loop-turn.made.items) (seen_text c.in-Some.ty) (lines.types_at (length c.args.text.now - (c.loop-turn._turn + 1)) c.in-Some-mark_at-2.next.now)
    ∙ ap (λ (ts : List lines.TypeText). behind ts (lines.types_at (length c.args.text.now - (c.loop-turn._turn + 1)) c.in-Some-mark_at-2.next.now)) (sym (map-append seen_text c.loop-turn.made.items (c.in-Some.ty ∷ [])) ∙ ap (map seen_text) (sym c.in_ok-push.ensures.items))

pub returns : goal.returns
returns c =
    let e : length c.args.text.now - c.loop-turn._turn ≡ 0 = omega arith in
    sym (c.loop-turn.invariant ∙ ap (behind (map seen_text c.loop-turn.made.items)) (no_types (length c.args.text.now - c.loop-turn._turn) c.loop-turn.rest.now e))
