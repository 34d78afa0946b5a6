-- What is taken out of a line.
use Rattle.std.proofs.Common.{◌≡◌, ◌∙◌, ℕ, List, Option, String, BTreeMap, Global, string_bytes, nat_cmp, option_map, sym, ap}
use Rattle.std.specs.BTreeMap.{is_at}
use Rattle.std.specs.Cmp.Lexicographic.{slice_cmp}
use Rattle.std.specs.Map.{lookup}
use Rattle.serde_json.specs.Find.{get}
use Rattle.serde_json.specs.View.{view}
use Rattle.serde_json.specs.declared.value.Value.{Value as Json, Object}
use Rattle.serde_json.proofs.Views.{view-Object, view-lookup}

pub member_taken : (name : List ℕ) (line : Json) (m : BTreeMap (String Global) Json) (taken : Option Json) → line ≡ Object m
    → taken ≡ lookup (is_at (λ (k : String Global). slice_cmp nat_cmp name (string_bytes k))) m.entries → option_map view taken ≡ get name (view line)
member_taken name line m taken is e =
    ap (option_map view) e ∙ view-lookup name m.entries ∙ ap (get name) (sym (view-Object m)) ∙ ap (λ (v : Json). get name (view v)) (sym is)
