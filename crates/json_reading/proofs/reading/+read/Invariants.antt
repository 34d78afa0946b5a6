use Rattle.std.proofs.Common.{◌≡◌, ℕ, ◌+◌, ◌*◌, ◌≤◌, length}
use Rattle.json.specs.Json.{items, members, value, parse_map}
use Rattle.serde_json.specs.Data.{no_members}
use Rattle.serde_json.specs.Read.{of_items, of_members, converted}
use Rattle.serde_json.specs.View.{members_view}
use Rattle.json_reading.proofs.Turns.{behind}
use Rattle.json_reading.proofs.reading.+read.Given as goal

abbrev pub decreases-next_value : goal.decreases-next_value
decreases-next_value l = 2 * l.depth

abbrev pub decreases-items_to_end : goal.decreases-items_to_end
decreases-items_to_end l = 2 * l.depth + 1

abbrev pub decreases-members_to_end : goal.decreases-members_to_end
decreases-members_to_end l = 2 * l.depth + 1

abbrev pub invariant-items_to_end-items : goal.invariant-items_to_end-items
invariant-items_to_end-items l =
    (n : ℕ) × (length l.reader ≤ n)
    × (converted of_items (items (value l.depth) (length l.initial.reader) l.initial.reader) ≡ parse_map (behind l.found.items) (converted of_items (items (value l.depth) n l.reader)))
    × (length l.reader ≤ length l.initial.reader)

abbrev pub decreases-items_to_end-items : goal.decreases-items_to_end-items
decreases-items_to_end-items l = length l.reader

abbrev pub invariant-members_to_end-members : goal.invariant-members_to_end-members
invariant-members_to_end-members l =
    (n : ℕ) × (length l.reader ≤ n)
    × (converted (λ ms. of_members ms no_members) (members (value l.depth) (length l.initial.reader) l.initial.reader) ≡ converted (λ ms. of_members ms (members_view l.found.entries)) (members (value l.depth) n l.reader))
    × (length l.reader ≤ length l.initial.reader)

abbrev pub decreases-members_to_end-members : goal.decreases-members_to_end-members
decreases-members_to_end-members l = length l.reader
