-- What is taken out of a line.
use Rattle.std.proofs.Common.{◌≡◌, ◌∙◌, ◌≤◌, ℕ, zero, suc, List, [], ◌∷◌, length, drop, Option, String, BTreeMap, Global, string_bytes, nat_cmp, option_map, refl, sym, ap, arith}
use Rattle.std.specs.BTreeMap.{is_at}
use Rattle.std.specs.Cmp.Lexicographic.{slice_cmp}
use Rattle.std.specs.Map.{lookup}
use Rattle.serde_json.specs.Data.{Data}
use Rattle.serde_json.specs.Find.{get}
use Rattle.serde_json.specs.View.{view, members_view}
use Rattle.serde_json.specs.declared.value.Value.{Value as Json, Object}
use Rattle.serde_json.proofs.Views.{view-Object, view-lookup}
use Rattle.job_file.specs.Mappings.{members_of}
use Rattle.write_ctx.specs.declared.keys.LineKey.{LineKey}
use Rattle.write_ctx.specs.Placing.{operation, update_at}

pub member_taken : (name : List ℕ) (line : Json) (m : BTreeMap (String Global) Json) (taken : Option Json) → line ≡ Object m
    → taken ≡ lookup (is_at (λ (k : String Global). slice_cmp nat_cmp name (string_bytes k))) m.entries → option_map view taken ≡ get name (view line)
member_taken name line m taken is e =
    ap (option_map view) e ∙ view-lookup name m.entries ∙ ap (get name) (sym (view-Object m)) ∙ ap (λ (v : Json). get name (view v)) (sym is)

pub members_taken : (value : Json) (m : BTreeMap (String Global) Json) → value ≡ Object m → members_view m.entries ≡ members_of (view value)
members_taken value m is = rw (is, view-Object m) refl

-- where no key is left, the operation is
pub keys_done : (line : Data) (keys : List LineKey) (at : ℕ) → length keys ≤ at → update_at line (drop at keys) ≡ operation
keys_done line [] zero h = refl
keys_done line [] (suc at) h = refl
keys_done line (key ∷ keys) zero h = absurd (omega arith)
keys_done line (key ∷ keys) (suc at) h = keys_done line keys at (omega arith)
