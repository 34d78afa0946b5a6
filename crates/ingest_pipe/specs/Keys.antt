-- The kinds of processors, and their keys.
use Rattle.std.specs.Prelude.{ℕ, Bool, false, ◌||◌, List, [], ◌∷◌, Option, Some, None, codes, if◌then◌else◌}
use Rattle.std.specs.Str.{bytes_eq}
use Rattle.serde_json.specs.Data.{Members, no_members, member}
use Rattle.ingest_pipe.specs.declared.keys.Kind.{Kind}
use Rattle.ingest_pipe.specs.declared.keys.Kind.TheVariants as kind
use Rattle.ingest_pipe.specs.declared.keys.Key.{Key}
use Rattle.ingest_pipe.specs.declared.keys.Key.TheVariants as key

abbrev pub kind_names : List (List ℕ × Kind)
kind_names =
    (codes "script", kind.Script)
    ∷ (codes "set", kind.Set)
    ∷ (codes "remove", kind.Remove)
    ∷ (codes "rename", kind.Rename)
    ∷ (codes "drop", kind.Drop)
    ∷ (codes "fail", kind.Fail)
    ∷ []

abbrev pub key_name : Key → List ℕ
key_name key.Field = codes "field"
key_name key.If = codes "if"
key_name key.IgnoreFailure = codes "ignore_failure"
key_name key.IgnoreMissing = codes "ignore_missing"
key_name key.Message = codes "message"
key_name key.Override = codes "override"
key_name key.Params = codes "params"
key_name key.Source = codes "source"
key_name key.TargetField = codes "target_field"
key_name key.Value = codes "value"

-- the key of a list for failures
abbrev pub on_failure : List ℕ
on_failure = codes "on_failure"

-- the keys before and behind it, in the order of the names by bytes
abbrev pub keys_before : List Key
keys_before = key.Field ∷ key.If ∷ key.IgnoreFailure ∷ key.IgnoreMissing ∷ key.Message ∷ []

abbrev pub keys_behind : List Key
keys_behind = key.Override ∷ key.Params ∷ key.Source ∷ key.TargetField ∷ key.Value ∷ []

-- which keys a kind has

abbrev pub is_common : List ℕ → Bool
is_common name = bytes_eq name (codes "if") || bytes_eq name (codes "ignore_failure") || bytes_eq name (codes "on_failure")

abbrev pub is_own : Kind → List ℕ → Bool
is_own kind.Script name = bytes_eq name (codes "params") || bytes_eq name (codes "source")
is_own kind.Set name = bytes_eq name (codes "field") || bytes_eq name (codes "override") || bytes_eq name (codes "value")
is_own kind.Remove name = bytes_eq name (codes "field") || bytes_eq name (codes "ignore_missing")
is_own kind.Rename name = bytes_eq name (codes "field") || bytes_eq name (codes "ignore_missing") || bytes_eq name (codes "target_field")
is_own kind.Drop name = false
is_own kind.Fail name = bytes_eq name (codes "message")

abbrev pub is_key : Kind → List ℕ → Bool
is_key kind name = is_common name || is_own kind name

-- The first name that is no key of a kind. The members of an object stand in the order of their names by bytes.
abbrev pub unknown_key : Kind → Members → Option (List ℕ)
unknown_key kind no_members = None
unknown_key kind (member name d ms) = if is_key kind name then unknown_key kind ms else Some name
