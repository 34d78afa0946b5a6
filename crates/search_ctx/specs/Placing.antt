-- The doc values of a document in a heap: the map `doc`.
use Rattle.std.specs.Prelude.{ℕ, List, [], ◌∷◌, map}
use Rattle.pl_types.specs.declared.classes.TheConstants.{HASH_MAP, SCRIPT_DOC_VALUES}
use Rattle.pl_units.specs.Utf16.{units}
use Rattle.object_values.specs.declared.value.Value.{Value}
use Rattle.object_values.specs.declared.value.Value.TheVariants as v
use Rattle.object_values.specs.declared.object.Object.{Object}
use Rattle.object_values.specs.declared.object.Object.TheVariants as o
use Rattle.object_values.specs.declared.object.Guard.TheVariants as g
use Rattle.object_values.specs.Pairs.{with_pair}
use Rattle.job_file.specs.declared.mapping.FieldKind.{FieldKind}
use Rattle.json_bridge.specs.Binding.{Bound, BoundMembers, placed, with_next_member}
use Rattle.search_ctx.specs.declared.values.FieldValues.{FieldValues}
use Rattle.search_ctx.specs.declared.values.FieldValues.TheVariants as f

-- the values of a field as values of a script
abbrev pub script_values : FieldValues → List Value
script_values (f.Longs longs) = map v.Long longs
script_values (f.Keywords words) = map (λ word. v.Str (units word)) words
script_values (f.Booleans flags) = map v.Bool flags

-- the list of a field's values, which nothing may change
abbrev pub values_placed : List Object → FieldValues → Bound
values_placed objects values = placed objects (o.List SCRIPT_DOC_VALUES (script_values values) g.Frozen 0)

-- the lists of the fields, each under the name of its field
abbrev pub lists_placed : BoundMembers → List FieldValues → List (List ℕ × FieldKind) → BoundMembers
lists_placed lists [] fields = lists
lists_placed lists (values ∷ doc) [] = lists
lists_placed lists (values ∷ doc) (field ∷ fields) =
    lists_placed (with_next_member lists field.0 (values_placed lists.objects values)) doc fields

-- the same by the texts of the names
abbrev pub with_list : BoundMembers → List ℕ → Bound → BoundMembers
with_list lists text next = record { pairs = with_pair lists.pairs (v.Str text) next.value; objects = next.objects }

abbrev pub lists_under : BoundMembers → List FieldValues → List (List ℕ) → BoundMembers
lists_under lists [] texts = lists
lists_under lists (values ∷ doc) [] = lists
lists_under lists (values ∷ doc) (text ∷ texts) = lists_under (with_list lists text (values_placed lists.objects values)) doc texts

-- the map of the lists, which nothing may change and which only the names of fields may be asked of
abbrev pub mapped : BoundMembers → Bound
mapped lists = placed lists.objects (o.Map HASH_MAP lists.pairs g.Mapped 0)

abbrev pub doc_placed : List Object → List (List ℕ × FieldKind) → List FieldValues → Bound
doc_placed objects fields doc = mapped (lists_placed (record { pairs = []; objects = objects }) doc fields)
