-- The document of a line, without the key of the shard.
use Rattle.std.proofs.Common.{◌≡◌, ℕ, List, Some, None, option_map, String, BTreeMap, Global, sym, ap, ◌∙◌}
use Rattle.std.specs.Map.{lookup, remove_entry}
use Rattle.serde_json.specs.Data.{object}
use Rattle.serde_json.specs.Find.{as_object}
use Rattle.serde_json.specs.View.{view, members_view}
use Rattle.serde_json.specs.declared.value.Value.{Value, Object}
use Rattle.serde_json.proofs.Views.{view-Object}
use Rattle.pipe_fields.specs.Ways.{without_member}
use Rattle.pipe_fields.proofs.Written.{At, members_removed}

pub taken_out : (name : List ℕ) (json : Value) (m n : BTreeMap (String Global) Value) → json ≡ Object m → n.entries ≡ remove_entry (At name) m.entries → lookup (At name) n.entries ≡ None
    → Some (view (Object n)) ≡ option_map (λ ms. object (without_member name ms)) (as_object (view json))
taken_out name json m n is e gone =
    ap Some (view-Object n ∙ ap (λ es. object (members_view es)) e ∙ ap object (members_removed name m.entries (ap (lookup (At name)) (sym e) ∙ gone)))
    ∙ sym (ap (λ d. option_map (λ ms. object (without_member name ms)) (as_object d)) (ap view is ∙ view-Object m))
