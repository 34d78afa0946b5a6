use Rattle.std.proofs.Common.{◌≡◌, ◌-◌, take, drop, refl, sym, ap, ◌∙◌}
use Rattle.outer_io.specs.Reading.{Intake}
use Rattle.outer_io.proofs.GatheringLemmas.{gathers_ended, gathers_open}
use Rattle.outer_io.proofs.intake.Intake.gather.Goals as goal

pub returns-in_ok-line-in-Some-clause-gathered : goal.returns-in_ok-line-in-Some-clause-gathered
returns-in_ok-line-in-Some-clause-gathered c before holds =
    let items = c.self.inside.piece.items in
    let from = c.self.inside.from in
    let to = c.self.inside.to in
    let part : c.split_at-2.result.0.now ≡ take (to - from) (drop from items) = cc in
    let is : c.args.self.now.pending ≡ take (to - from) (drop from items) = sym (ap (λ (s : Intake). s.pending) c.self.view_is) in
    gathers_ended c.args.self.now _ items c.split_at-2.result.0.now c.split_at-in-Some.result.0.now before _ from to c.in-Some.place
    c.self.invariant.0 is part refl c.in-Some.ensures.found c.split_at-in-Some.ensures.front (c.in_ok-line-in-Some.ensures before holds)
    (record {
      limit = ap (λ (s : Intake). s.limit) c.self.view_is;
      taken = ap (λ (s : Intake). s.taken) c.self.view_is;
      ended = ap (λ (s : Intake). s.ended) c.self.view_is;
    })

pub returns-in_ok-line-in-None-clause-gathered : goal.returns-in_ok-line-in-None-clause-gathered
returns-in_ok-line-in-None-clause-gathered c before holds =
    let items = c.self.inside.piece.items in
    let from = c.self.inside.from in
    let to = c.self.inside.to in
    let part : c.split_at-2.result.0.now ≡ take (to - from) (drop from items) = cc in
    let is : c.args.self.now.pending ≡ take (to - from) (drop from items) = sym (ap (λ (s : Intake). s.pending) c.self.view_is) in
    gathers_open c.args.self.now _ items c.split_at-2.result.0.now before _ to (is ∙ sym part) refl c.in-None.ensures.none (c.in_ok-line-in-None.ensures before holds)
    (record {
      limit = ap (λ (s : Intake). s.limit) c.self.view_is;
      taken = ap (λ (s : Intake). s.taken) c.self.view_is;
      ended = ap (λ (s : Intake). s.ended) c.self.view_is;
    })
