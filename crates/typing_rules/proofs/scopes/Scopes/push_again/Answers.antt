use Rattle.std.proofs.Common.{◌≡◌, true, sym, ap, ◌∙◌, subst}
use Rattle.std.specs.Prelude.{is_some}
use Rattle.std.specs.HashMap.{get_by_text}
use Rattle.typing_rules.specs.Scopes.{find}
use Rattle.typing_rules.proofs.NamePlaces.{pushed_again}
use Rattle.typing_rules.proofs.scopes.Scopes.push_again.Goals as goal

pub invariant_of-self-2 : goal.invariant_of-self-2
invariant_of-self-2 c = λ q. pushed_again (get_by_text c.self.inside.places) c.self.inside.entries.items c.args.entry c.self.invariant
    (subst (λ es. is_some (find c.args.entry.name es) ≡ true) (sym c.self.view_is) c.requires) q ∙ ap (λ es. find q es) (sym c.in_ok-push.ensures.items)
