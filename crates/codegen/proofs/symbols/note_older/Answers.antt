use Rattle.std.proofs.Common.{rules, ◌≡◌, ℕ, List, Some, subst}
use Rattle.std.specs.Prelude.{bytes_eq}
use Rattle.std.specs.HashMap.{get_by_text}
use Rattle.std.specs.Map.{update}
use Rattle.std.proofs.lemmas.Map.Text.{hash_map_updates_text}
use Rattle.codegen.proofs.symbols.note_older.Goals as goal

pub returns-in-Some : goal.returns-in-Some
returns-in-Some c = subst (λ n. (q : List ℕ) → get_by_text (c.get_mut.follows.lender c.args.at) q ≡ update bytes_eq (get_by_text c.args.places.now) n (Some c.args.at) q) c.as_str.ensures
    (hash_map_updates_text c.as_str.result.now c.args.places.now (c.get_mut.follows.lender c.args.at) (Some c.args.at) ((c.get_mut.follows.holds c.args.at).3 (search rules)))
