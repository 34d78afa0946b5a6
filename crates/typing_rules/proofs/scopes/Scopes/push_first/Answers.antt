use Rattle.std.proofs.Common.{◌≡◌, ℕ, List, length, Some, None, sym, ap, ◌∙◌, subst}
use Rattle.std.specs.Prelude.{bytes_eq}
use Rattle.std.specs.HashMap.{get_by_text}
use Rattle.std.specs.Map.{update}
use Rattle.std.specs.String.{string_bytes}
use Rattle.typing_rules.specs.Scopes.{find}
use Rattle.typing_rules.proofs.NamePlaces.{pushed_first}
use Rattle.typing_rules.proofs.scopes.Scopes.push_first.Goals as goal

pub invariant_of-self-in-Ok : goal.invariant_of-self-in-Ok
invariant_of-self-in-Ok c =
    let bytes : string_bytes c.in_ok-name.name ≡ c.args.entry.name = c.in_ok-name.ensures.ok ∙ c.as_str.ensures in
    let noted : (q : List ℕ) → get_by_text c.note.new.places q ≡ update bytes_eq (get_by_text c.self.inside.places) c.args.entry.name (Some (length c.self.inside.entries.items)) q =
    λ q. c.in-Ok.ensures q ∙ ap (λ n. update bytes_eq (get_by_text c.self.inside.places) n (Some c.count-at.result) q) bytes ∙ ap (λ i. update bytes_eq (get_by_text c.self.inside.places) c.args.entry.name (Some i) q) c.count-at.ensures in
    λ q. pushed_first (get_by_text c.self.inside.places) (get_by_text c.note.new.places) c.self.inside.entries.items c.args.entry c.self.invariant
    (subst (λ es. find c.args.entry.name es ≡ None) (sym c.self.view_is) c.requires) noted q ∙ ap (λ es. find q es) (sym c.in_ok-push.ensures.items)
