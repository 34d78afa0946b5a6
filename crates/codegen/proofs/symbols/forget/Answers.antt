use Rattle.std.proofs.Common.{◌≡◌, ℕ, List, None, subst}
use Rattle.std.specs.Prelude.{bytes_eq}
use Rattle.std.specs.HashMap.{get_by_text}
use Rattle.std.specs.Map.{update}
use Rattle.std.proofs.lemmas.Map.Text.{hash_map_updates_text}
use Rattle.codegen.proofs.symbols.forget.Goals as goal

pub returns : goal.returns
returns c = subst (λ n. (q : List ℕ) → get_by_text c.remove-place.new.self q ≡ update bytes_eq (get_by_text c.args.places.now) n None q) c.as_str.ensures
    (hash_map_updates_text c.as_str.result.now c.args.places.now c.remove-place.new.self None c.remove-place.ensures.updates)
