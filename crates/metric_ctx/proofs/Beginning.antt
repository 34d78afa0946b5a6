-- Runs of scripts as they begin.
use Rattle.std.proofs.Common.{◌≡◌, ℕ, true, List, [], ◌∷◌, ◌++◌, length, Option, Some, None, refl, ap, ◌∙◌}
use Rattle.std.specs.Prelude.{option_to_list}
use Rattle.object_values.specs.declared.value.Value.{Value}
use Rattle.object_heap.specs.Store.{Store}
use Rattle.object_heap.specs.declared.outcome.Outcome.{Outcome}
use Rattle.serde_json.specs.Data.{Data}
use Rattle.job_file.specs.declared.mapping.FieldKind.{FieldKind}
use Rattle.json_bridge.specs.Binding.{bound}
use Rattle.search_ctx.specs.Placing.{doc_placed, lists_placed}
use Rattle.metric_ctx.specs.declared.phase.Phase.{Phase}
use Rattle.metric_ctx.specs.declared.phase.Phase.TheVariants as p
use Rattle.metric_ctx.specs.Scripts.{AreTwo, AreThree, arguments, comes_by, map_arguments}
use Rattle.metric_ctx.specs.Shards.{Doc, Ground, doc_arguments, first_store, ground, ground_of, id_of, state_object, with_doc}
use Rattle.metric_ctx.specs.Standing.{place, runs}

pub two_args : (params : ℕ) (args : List Value) → args ≡ arguments params ++ option_to_list None → AreTwo args
two_args params args a = (0, params, a)

pub three_args : (on : Ground) (doc : Doc) (store : Store) (value : Value) (args : List Value) → value ≡ (doc_placed store.objects on.fields doc).value
    → args ≡ arguments on.params ++ option_to_list (Some value) → AreThree args
three_args on doc store value args v a = (0, on.params, length (lists_placed (record { pairs = []; objects = store.objects }) doc on.fields).objects, a ∙ ap (λ (d : Value). map_arguments on.params d) v)

module _ {X R : Type 0} (begun : X → Phase → Store → List Value → R) (rest : R → ℕ) (ending : R → Option Outcome) (scripts : X) (on : Ground) where
  pub run_begins : (phase : Phase) (store : Store) (args : List Value) (run : R) → args ≡ arguments on.params ++ option_to_list None → run ≡ begun scripts phase store args
      → runs phase (record { count = rest run; left = ending run }) ≡ runs phase (comes_by begun rest ending scripts phase store (arguments on.params))
  run_begins phase store args run a r = ap (λ (run : R). runs phase (record { count = rest run; left = ending run })) (r ∙ ap (λ (l : List Value). begun scripts phase store l) a)

  pub map_run_begins : (doc : Doc) (store now : Store) (value : Value) (args : List Value) (run : R) → value ≡ (doc_placed store.objects on.fields doc).value
      → now ≡ with_doc on doc store → args ≡ arguments on.params ++ option_to_list (Some value) → run ≡ begun scripts p.Map now args
      → runs p.Map (record { count = rest run; left = ending run }) ≡ runs p.Map (comes_by begun rest ending scripts p.Map (with_doc on doc store) (doc_arguments on doc store))
  map_run_begins doc store now value args run v n a r =
      ap (λ (run : R). runs p.Map (record { count = rest run; left = ending run }))
      (r ∙ ap (λ (s : Store). begun scripts p.Map s args) n ∙ ap (λ (l : List Value). begun scripts p.Map (with_doc on doc store) l) (a ∙ ap (λ (d : Value). map_arguments on.params d) v))

-- a shard that has not run, as the code makes it
pub shard_begins : {X R : Type 0} (begun : X → Phase → Store → List Value → R) (rest : R → ℕ) (ending : R → Option Outcome) (scripts : X) (fields : List (List ℕ × FieldKind)) (params : Data) (room : ℕ) (docs : List Doc)
    (first with_state now : Store) (value : Value) (id : ℕ) (args : List Value) (run : R) → first ≡ record { objects = []; room = room } → with_state ≡ record first { objects = first.objects ++ state_object ∷ [] }
    → value ≡ (bound true with_state.objects params).value → now ≡ record with_state { objects = (bound true with_state.objects params).objects } → id ≡ id_of value → args ≡ arguments id ++ option_to_list None
    → run ≡ begun scripts p.Init now args
    → place (comes_by begun rest ending scripts) (ground fields id room) docs 0 (runs p.Init (record { count = rest run; left = ending run }))
    ≡ place (comes_by begun rest ending scripts) (ground_of fields params room) docs 0 (runs p.Init (comes_by begun rest ending scripts p.Init (first_store params room) (arguments (ground_of fields params room).params)))
shard_begins begun rest ending scripts fields params room docs first with_state now value id args run f s v n i a r = rw (r, a, i, v, n, s, f) refl
