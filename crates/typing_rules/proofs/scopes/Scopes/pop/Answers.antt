use Rattle.std.proofs.Common.{Some, sym, ap, ◌∙◌}
use Rattle.std.specs.HashMap.{get_by_text}
use Rattle.typing_rules.specs.Scopes.{find}
use Rattle.typing_rules.proofs.NamePlaces.{popped_first, popped_other}
use Rattle.typing_rules.proofs.scopes.Scopes.pop.Goals as goal

pub invariant_of-self-then-stands_at : goal.invariant_of-self-then-stands_at
invariant_of-self-then-stands_at c = popped_first (get_by_text c.self.inside.places) (get_by_text c.forget.new.places) c.pop.new.self.items c.in-Some.entry
    (λ q. c.self.invariant q ∙ ap (λ es. find q es) c.in-Some.ensures.items) (c.if-stands_at.ensures ∙ ap (λ n. Some n) c.count-at.ensures) c.forget.ensures

pub invariant_of-self-else-stands_at : goal.invariant_of-self-else-stands_at
invariant_of-self-else-stands_at c = popped_other (get_by_text c.self.inside.places) c.pop.new.self.items c.in-Some.entry
    (λ q. c.self.invariant q ∙ ap (λ es. find q es) c.in-Some.ensures.items) (λ same. c.if-stands_at.ensures (same ∙ ap (λ n. Some n) (sym c.count-at.ensures)))
