use Rattle.std.proofs.Common.{refl, lit<, rules}
use Rattle.pipe_fields.proofs.Names.{next_cut, last_cut, shorter}
use Rattle.pipe_fields.proofs.field.names_of.Goals as goal

pub loop-name-init : goal.loop-name-init
loop-name-init c = record { same = rw c.new-names.ensures refl; utf8 = c.utf8.text }

pub split_once-requires-text-self : goal.split_once-requires-text-self
split_once-requires-text-self c κs = c.loop-name.invariant.utf8

pub loop-name-preserved : goal.loop-name-preserved
loop-name-preserved c =
    let b = c.in-Some.ensures.byte (lit< tt) (λ w o h. h) in
    record { same = next_cut _ _ _ _ _ _ c.loop-name.invariant b.0 b.1 b.2 (search rules); utf8 = search rules }

pub loop-name-smaller : goal.loop-name-smaller
loop-name-smaller c =
    let b = c.in-Some.ensures.byte (lit< tt) (λ w o h. h) in
    shorter c.loop-name.rest.now c.in-Some.more.now b.1 b.2

pub returns : goal.returns
returns c = last_cut _ _ _ _ c.loop-name.invariant (c.in_default.ensures.byte (lit< tt) (λ w o h. h)) (search rules)
