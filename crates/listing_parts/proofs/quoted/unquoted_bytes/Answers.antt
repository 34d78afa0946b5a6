use Rattle.std.proofs.Common.{◌≡◌, ◌-◌, ◌+◌, ◌++◌, suc, length, Some, sym, ap, ◌∙◌, arith}
use Rattle.std.specs.Prelude.{option_map}
use Rattle.std.proofs.lemmas.List.{append-nil}
use Rattle.listing_parts.specs.Quoted.{unquoted}
use Rattle.listing_parts.proofs.Unquoting.{at_end, at_fault, at_byte, at_none, with_byte}
use Rattle.listing_parts.proofs.quoted.unquoted_bytes.Goals as goal

pub returns-then-is_end : goal.returns-then-is_end
returns-then-is_end c =
    let e : length c.args.text.now - c.loop-turn._turn ≡ suc (length c.args.text.now - (c.loop-turn._turn + 1)) = omega arith in
    sym (c.loop-turn.invariant ∙ ap (option_map (λ t. c.loop-turn.made.items ++ t)) (at_end _ _ _ e (sym c.is_end.ensures ∙ c.if-is_end.true)) ∙ ap Some (append-nil _))

pub returns-in_default : goal.returns-in_default
returns-in_default c =
    sym (c.loop-turn.invariant ∙ ap (option_map (λ t. c.loop-turn.made.items ++ t)) (at_fault _ _ (sym c.is_end.ensures ∙ c.if-is_end.false) (sym c.in_default.ensures)))

pub loop-turn-preserved : goal.loop-turn-preserved
loop-turn-preserved c =
    let e : length c.args.text.now - c.loop-turn._turn ≡ suc (length c.args.text.now - (c.loop-turn._turn + 1)) = omega arith in
    c.loop-turn.invariant
    ∙ ap (option_map (λ t. c.loop-turn.made.items ++ t)) (at_byte _ _ _ _ _ e (sym c.is_end.ensures ∙ c.if-is_end.false) (sym c.in-Some.ensures))
    ∙ with_byte c.loop-turn.made.items c.in-Some.byte (unquoted (length c.args.text.now - (c.loop-turn._turn + 1)) c.in-Some.after.now)
    ∙ ap (λ made. option_map (λ t. made ++ t) (unquoted (length c.args.text.now - (c.loop-turn._turn + 1)) c.in-Some.after.now)) (sym c.in_ok-push.ensures.items)

pub returns : goal.returns
returns c =
    let e : length c.args.text.now - c.loop-turn._turn ≡ 0 = omega arith in
    sym (c.loop-turn.invariant ∙ ap (option_map (λ t. c.loop-turn.made.items ++ t)) (at_none _ _ e))
