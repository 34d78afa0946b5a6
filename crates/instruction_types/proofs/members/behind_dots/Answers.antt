use Rattle.std.proofs.Common.{refl, sym, ap, ◌∙◌, lit<, rules}
use Rattle.instruction_types.specs.Members.{behind_dots}
use Rattle.instruction_types.proofs.Dots.{behind_one, behind_none, shorter}
use Rattle.instruction_types.proofs.members.behind_dots.Goals as goal

pub loop-after-init : goal.loop-after-init
loop-after-init c = record { same = refl; utf8 = c.utf8.text }

pub split_once-requires-text-self : goal.split_once-requires-text-self
split_once-requires-text-self c κs = c.loop-after.invariant.utf8

pub loop-after-preserved : goal.loop-after-preserved
loop-after-preserved c =
    let b = c.in-Some.ensures.byte (lit< tt) (λ w o h. h) in
    record { same = c.loop-after.invariant.same ∙ behind_one c.loop-after.rest.now b.2 ∙ sym (ap behind_dots b.1); utf8 = search rules }

pub loop-after-smaller : goal.loop-after-smaller
loop-after-smaller c =
    let b = c.in-Some.ensures.byte (lit< tt) (λ w o h. h) in
    shorter c.loop-after.rest.now c.in-Some.after.now b.1 b.2

pub returns : goal.returns
returns c = sym (c.loop-after.invariant.same ∙ behind_none c.loop-after.rest.now (c.in_default.ensures.byte (lit< tt) (λ w o h. h)))

pub returns-text : goal.returns-text
returns-text c = c.loop-after.invariant.utf8
