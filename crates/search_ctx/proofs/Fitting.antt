-- A heap that fits goes on fitting as doc values are placed in it.
use Rattle.std.proofs.Common.{◌≡◌, ℕ, ℤ, ◌≤◌, Bool, true, false, Option, Some, None, List, [], ◌∷◌, ◌++◌, length, map, refl, arith, length-append, if◌then◌else◌, Err, ◌&&◌}
use Rattle.std.specs.Prelude.{option_map}
use Rattle.pl_types.specs.declared.classes.TheConstants.{LIST, MAP, HASH_MAP, SCRIPT_DOC_VALUES}
use Rattle.pl_types.specs.Classes.{class_is_below, lineage_of, parents_of, class_row, class_table}
use Rattle.pl_units.specs.Utf16.{units}
use Rattle.serde_json.specs.Data.{Data}
use Rattle.object_values.specs.declared.value.Value.{Value}
use Rattle.object_values.specs.declared.value.Value.TheVariants as v
use Rattle.object_values.specs.declared.object.Object.{Object}
use Rattle.object_values.specs.declared.object.Object.TheVariants as o
use Rattle.object_values.specs.declared.object.Guard.TheVariants as g
use Rattle.object_values.specs.Pairs.{HasDistinctKeys}
use Rattle.object_heap.specs.Fits.{Rules, ValueFits, AllFit, PairsFit, Fits}
use Rattle.object_heap.proofs.Fitting.{added_fits, length-kinds}
use Rattle.object_heap.proofs.PairLemmas.{distinct_with, pairs_with}
use Rattle.job_file.specs.declared.mapping.FieldKind.{FieldKind}
use Rattle.json_bridge.specs.Binding.{Bound, BoundMembers, bound, with_next_member}
use Rattle.job_file.specs.Values.{has_whole_numbers}
use Rattle.json_bridge.specs.Laws.{BindFits}
use Rattle.search_ctx.specs.declared.values.FieldValues.{FieldValues}
use Rattle.search_ctx.specs.declared.values.FieldValues.TheVariants as f
use Rattle.search_ctx.specs.Laws.{LinesFit, PlacingFits, StartFits}
use Rattle.json_bridge.specs.Starts.{or_field, number_outside}
use Rattle.search_ctx.specs.Lines.{Search, started, score_args, search_of}
use Rattle.search_ctx.specs.Placing.{doc_placed, lists_placed, mapped, script_values, values_placed}

value_more : (n m : ℕ) → n ≤ m → (value : Value) → ValueFits n value → ValueFits m value
value_more n m h (v.Ref id) f = omega arith
value_more n m h value f = tt

pairs_more : (n m : ℕ) → n ≤ m → (pairs : List (Value × Value)) → PairsFit n pairs → PairsFit m pairs
pairs_more n m h [] f = tt
pairs_more n m h (pair ∷ pairs) f = (f.0, value_more n m h pair.1 f.1, pairs_more n m h pairs f.2)

longs_fit : (n : ℕ) (longs : List ℤ) → AllFit n (map v.Long longs)
longs_fit n [] = tt
longs_fit n (long ∷ longs) = (tt, longs_fit n longs)

words_fit : (n : ℕ) (words : List (List ℕ)) → AllFit n (map (λ word. v.Str (units word)) words)
words_fit n [] = tt
words_fit n (word ∷ words) = (tt, words_fit n words)

flags_fit : (n : ℕ) (flags : List Bool) → AllFit n (map v.Bool flags)
flags_fit n [] = tt
flags_fit n (flag ∷ flags) = (tt, flags_fit n flags)

values_fit : (n : ℕ) (values : FieldValues) → AllFit n (script_values values)
values_fit n (f.Longs longs) = longs_fit n longs
values_fit n (f.Keywords words) = words_fit n words
values_fit n (f.Booleans flags) = flags_fit n flags

-- lists that are placed fit, and no object is gone
record KeepsLists (rules : Rules) (before : ℕ) (after : BoundMembers) : Type 0 where
  pub fits : Fits rules after.objects
  pub pairs : PairsFit (length after.objects) after.pairs
  pub distinct : HasDistinctKeys after.pairs
  pub more : before ≤ length after.objects

-- a value and its store fit, and no object is gone
record KeepsBound (rules : Rules) (before : ℕ) (after : Bound) : Type 0 where
  pub fits : Fits rules after.objects
  pub value : ValueFits (length after.objects) after.value
  pub more : before ≤ length after.objects

list_class : class_is_below SCRIPT_DOC_VALUES LIST ≡ true
unfolding class_is_below lineage_of parents_of class_row class_table
list_class = refl

pub map_class : class_is_below HASH_MAP MAP ≡ true
unfolding class_is_below lineage_of parents_of class_row class_table
map_class = refl

longer : (objects : List Object) (next : Object) → length objects ≤ length (objects ++ next ∷ [])
longer objects next = omega (arith, length-append objects (next ∷ []))

next_list_fits : (rules : Rules) (before : ℕ) (lists : BoundMembers) (name : List ℕ) (values : FieldValues) → KeepsLists rules before lists
    → KeepsLists rules before (with_next_member lists name (values_placed lists.objects values))
next_list_fits rules before lists name values kept =
    let next = o.List SCRIPT_DOC_VALUES (script_values values) g.Frozen 0 in
    let grows = longer lists.objects next in
    record {
      fits = added_fits rules lists.objects next kept.fits (list_class, values_fit _ values);
      pairs = pairs_with _ lists.pairs (v.Str (units name)) (v.Ref (length lists.objects)) refl
          (omega (arith, length-append lists.objects (next ∷ []))) (pairs_more _ _ grows lists.pairs kept.pairs);
      distinct = distinct_with lists.pairs (v.Str (units name)) (v.Ref (length lists.objects)) kept.distinct;
      more = let a = kept.more in omega arith;
    }

lists_fit : (rules : Rules) (before : ℕ) (lists : BoundMembers) (doc : List FieldValues) (fields : List (List ℕ × FieldKind)) → KeepsLists rules before lists
    → KeepsLists rules before (lists_placed lists doc fields)
lists_fit rules before lists [] fields kept = kept
lists_fit rules before lists (values ∷ doc) [] kept = kept
lists_fit rules before lists (values ∷ doc) (field ∷ fields) kept =
    lists_fit rules before (with_next_member lists field.0 (values_placed lists.objects values)) doc fields (next_list_fits rules before lists field.0 values kept)

mapped_fits : (rules : Rules) (before : ℕ) (lists : BoundMembers) → KeepsLists rules before lists → KeepsBound rules before (mapped lists)
mapped_fits rules before lists kept =
    let next = o.Map HASH_MAP lists.pairs g.Mapped 0 in
    record {
      fits = added_fits rules lists.objects next kept.fits (map_class, pairs_more _ _ (omega (arith, length-kinds lists.objects)) lists.pairs kept.pairs, kept.distinct);
      value = omega (arith, length-append lists.objects (next ∷ []));
      more = let a = kept.more in omega (arith, length-append lists.objects (next ∷ []));
    }

doc_fits : (rules : Rules) (objects : List Object) (fields : List (List ℕ × FieldKind)) (doc : List FieldValues) → Fits rules objects
    → KeepsBound rules (length objects) (doc_placed objects fields doc)
doc_fits rules objects fields doc fits =
    mapped_fits rules (length objects) _
    (lists_fit rules (length objects) (record { pairs = []; objects = objects }) doc fields (record { fits = fits; pairs = tt; distinct = tt; more = omega arith }))

pub placing_fits : PlacingFits
placing_fits rules objects fields doc fits = let kept = doc_fits rules objects fields doc fits in (kept.fits, kept.value)

-- ---- lines

score_fits : (n : ℕ) (score : Option ℤ) → AllFit n (score_args score)
score_fits n None = tt
score_fits n (Some score) = (tt, tt)

after_params_fits : (rules : Rules) (params : Bound) (fields : List (List ℕ × FieldKind)) (doc : List FieldValues) (score : Option ℤ) (room : ℕ)
    → Fits rules params.objects → ValueFits (length params.objects) params.value
    → Fits rules (doc_placed params.objects fields doc).objects
    × AllFit (length (doc_placed params.objects fields doc).objects) (params.value ∷ (doc_placed params.objects fields doc).value ∷ score_args score)
after_params_fits rules params fields doc score room fits value =
    let kept = doc_fits rules params.objects fields doc fits in
    (kept.fits, (value_more _ _ kept.more params.value value, (kept.value, score_fits _ score)))

started_fits : BindFits → (rules : Rules) (fields : List (List ℕ × FieldKind)) (params : Data) (room : ℕ) (found : Option Search)
    → StartFits rules (or_field (option_map (started fields params room) found))
started_fits bind rules fields params room None = tt
started_fits bind rules fields params room (Some one) =
    let given = bind rules true [] params (record { each = tt }) in
    after_params_fits rules (bound true [] params) fields one.doc one.score room given.0 given.1

pub bound_lines_fit : BindFits → LinesFit
bound_lines_fit bind rules kind fields params room d = by_case (has_whole_numbers d && has_whole_numbers params) where
  by_case : (b : Bool) → StartFits rules (if b then or_field (option_map (started fields params room) (search_of kind fields d)) else Err number_outside)
  by_case true = started_fits bind rules fields params room (search_of kind fields d)
  by_case false = tt
