use Rattle.std.proofs.Common.{◌≡◌, ◌-◌, take, drop, refl, sym, ap, ◌∙◌, subst}
use Rattle.outer_io.specs.Lines.{IsUnbroken}
use Rattle.outer_io.specs.Reading.{Intake}
use Rattle.outer_io.proofs.GatheringLemmas.{broken}
use Rattle.outer_io.proofs.intake.Intake.has_line.Goals as goal

pub returns-in-Some : goal.returns-in-Some
returns-in-Some c =
    let items = c.self.inside.piece.items in
    let part : c.split_at-2.result.0.now ≡ take (c.self.inside.to - c.self.inside.from) (drop c.self.inside.from items) = cc in
    let is : c.args.self.now.pending ≡ take (c.self.inside.to - c.self.inside.from) (drop c.self.inside.from items) = sym (ap (λ (s : Intake). s.pending) c.self.view_is) in
    (λ _ unbroken. broken c.split_at-2.result.0.now c.in-Some._place c.in-Some.ensures.found (subst IsUnbroken (is ∙ sym part) unbroken), λ _. refl)

pub returns-in-None : goal.returns-in-None
returns-in-None c =
    let items = c.self.inside.piece.items in
    let part : c.split_at-2.result.0.now ≡ take (c.self.inside.to - c.self.inside.from) (drop c.self.inside.from items) = cc in
    let is : c.args.self.now.pending ≡ take (c.self.inside.to - c.self.inside.from) (drop c.self.inside.from items) = sym (ap (λ (s : Intake). s.pending) c.self.view_is) in
    let unbroken : IsUnbroken c.args.self.now.pending = subst IsUnbroken (part ∙ sym is) c.in-None.ensures.none in
    (λ never. absurd cc, λ broken. absurd (broken unbroken))
