-- Moves of a shard, one behind the other, and the turn that they make.
use Rattle.std.proofs.Common.{◌≡◌, ℕ, ◌+◌, ◌-◌, ◌<◌, ◌≤◌, Bool, true, false, List, [], ◌∷◌, length, Option, Some, None, ◌⊎◌, inl, inr, refl, sym, ap, ◌∙◌, subst, arith}
use Rattle.object_heap.specs.Store.{Store}
use Rattle.object_heap.specs.declared.outcome.End.{End}
use Rattle.object_heap.specs.declared.outcome.End.TheVariants as end
use Rattle.object_heap.specs.declared.outcome.Outcome.{Outcome}
use Rattle.task_core.specs.Turns.{Turns}
use Rattle.task_core.specs.declared.task.Turn.{Turn}
use Rattle.task_core.specs.declared.task.Turn.TheVariants as turn
use Rattle.metric_ctx.specs.declared.phase.Phase.{Phase}
use Rattle.metric_ctx.specs.declared.phase.Phase.TheVariants as p
use Rattle.metric_ctx.specs.declared.standing.Went.TheVariants as w
use Rattle.metric_ctx.specs.Scripts.{Came, Comes, arguments}
use Rattle.metric_ctx.specs.Shards.{Doc, Ground, behind, behind_end, behind_phase, doc_arguments, from_docs, is_value, none_left, refilled, summed, with_doc, with_steps}
use Rattle.metric_ctx.specs.Standing.{Standing, runs, ended, lost, Place, place, rest_in, ending_in, has_ended, runs_behind, Reaches, Moves, Goes}

-- ---- the next script begins

pub map_begins : (comes : Comes) (on : Ground) (old docs : List Doc) (doc : Doc) (steps : ℕ) (store now : Store) (standing : Standing) → old ≡ doc ∷ docs → now ≡ refilled on.room store
    → standing ≡ runs p.Map (comes p.Map (with_doc on doc now) (doc_arguments on doc now))
    → Reaches (place comes on docs steps standing) (from_docs comes on old steps store) (length old + 1)
map_begins comes on old docs doc steps store now standing e n s = rw (e, s, n) (record { is = refl; few = omega arith })

pub combine_begins : (comes : Comes) (on : Ground) (old docs : List Doc) (steps : ℕ) (store now : Store) (standing : Standing) → old ≡ [] → now ≡ refilled on.room store
    → standing ≡ runs p.Combine (comes p.Combine now (arguments on.params))
    → Reaches (place comes on docs steps standing) (from_docs comes on old steps store) (length old + 1)
combine_begins comes on old docs steps store now standing e n s = rw (e, s, n) (record { is = refl; few = omega arith })

-- ---- what comes behind a run

behind_error : (next : ℕ → Store → Came) (steps : ℕ) (o : Outcome) (e : End) → is_value e ≡ false → behind_end next steps o e ≡ none_left (Some (with_steps steps o))
behind_error next steps o (end.Value value) not = cc
behind_error next steps o (end.Thrown id at) not = refl
behind_error next steps o (end.Limit limit at) not = refl

behind_value : (next : ℕ → Store → Came) (steps : ℕ) (o : Outcome) (e : End) → is_value e ≡ true → behind_end next steps o e ≡ next (summed steps o.steps) o.heap
behind_value next steps o (end.Value value) is = refl
behind_value next steps o (end.Thrown id at) is = cc
behind_value next steps o (end.Limit limit at) is = cc

pub error_ends : (comes : Comes) (on : Ground) (docs : List Doc) (steps : ℕ) (o : Outcome) (standing : Standing) → is_value o.end ≡ false → standing ≡ ended (with_steps steps o)
    → Reaches (place comes on docs steps standing) (behind (from_docs comes on docs) steps (Some o)) (length docs + 1)
error_ends comes on docs steps o standing not s = rw s (record { is = sym (behind_error (from_docs comes on docs) steps o o.end not); few = omega arith })

pub value_goes_on : (comes : Comes) (on : Ground) (old docs : List Doc) (steps : ℕ) (o : Outcome) (at : Place) → is_value o.end ≡ true
    → Reaches at (from_docs comes on old (summed steps o.steps) o.heap) (length old + 1)
    → Reaches at (behind (from_docs comes on old) steps (Some o)) (length old + 1)
value_goes_on comes on old docs steps o at is reached = record { is = reached.is ∙ sym (behind_value (from_docs comes on old) steps o o.end is); few = reached.few }

last_ends : (comes : Comes) (on : Ground) (docs : List Doc) (steps : ℕ) (o : Outcome) (standing : Standing) (left : Option Outcome) → left ≡ Some o → standing ≡ ended (with_steps steps o)
    → Reaches (place comes on docs steps standing) (behind_phase comes on docs steps p.Combine left) (runs_behind docs p.Combine)
last_ends comes on docs steps o standing left l s = rw (l, s) (record { is = refl; few = omega arith })

-- the same by the script that has run
pub phase_follows : (comes : Comes) (on : Ground) (docs : List Doc) (steps : ℕ) (phase : Phase) (left : Option Outcome) (o : Outcome) (at : Place) → (phase ≡ p.Init) ⊎ (phase ≡ p.Map) → left ≡ Some o
    → Reaches at (behind (from_docs comes on docs) steps (Some o)) (length docs + 1)
    → Reaches at (behind_phase comes on docs steps phase left) (runs_behind docs phase)
phase_follows comes on docs steps phase left o at (inl init) l reached = rw (init, l) reached
phase_follows comes on docs steps phase left o at (inr map) l reached = rw (map, l) reached

pub phase_ends : (comes : Comes) (on : Ground) (docs : List Doc) (steps : ℕ) (phase : Phase) (left : Option Outcome) (o : Outcome) (standing : Standing) → phase ≡ p.Combine → left ≡ Some o → standing ≡ ended (with_steps steps o)
    → Reaches (place comes on docs steps standing) (behind_phase comes on docs steps phase left) (runs_behind docs phase)
phase_ends comes on docs steps phase left o standing combine l s = rw combine (last_ends comes on docs steps o standing left l s)

-- ---- a move

pub more_goes : (comes : Comes) (on : Ground) (docs : List Doc) (steps q : ℕ) (phase : Phase) (old new : Came) (standing : Standing) → new.count ≡ old.count - q → new.left ≡ old.left → 0 < new.count
    → standing ≡ runs phase new → Goes q (place comes on docs steps (runs phase old)) (place comes on docs steps standing) w.More
more_goes comes on docs steps q phase old new standing lowered kept some s =
    let behind_new = behind_phase comes on docs steps phase new.left in
    let behind_old = behind_phase comes on docs steps phase old.left in
    let same : behind_new ≡ behind_old = ap (behind_phase comes on docs steps phase) kept in
    let counts : behind_new.count ≡ behind_old.count = ap (λ (c : Came). c.count) same in
    let lefts : behind_new.left ≡ behind_old.left = ap (λ (c : Came). c.left) same in
    rw s (record { counted = omega (arith, lowered, counts, some); kept = lefts }, omega (arith, some))

next_goes : (q taken : ℕ) (comes : Comes) (on : Ground) (docs : List Doc) (steps : ℕ) (phase : Phase) (old : Came) (new : Place) → old.count - q ≡ 0 → taken ≡ old.count
    → Reaches new (behind_phase comes on docs steps phase old.left) (runs_behind docs phase)
    → Goes q (place comes on docs steps (runs phase old)) new (w.Next (q - taken))
next_goes q taken comes on docs steps phase old new none t reached =
    let counts : new.came.count ≡ (behind_phase comes on docs steps phase old.left).count = ap (λ (c : Came). c.count) reached.is in
    (record { counted = omega (arith, counts, none, t); kept = ap (λ (c : Came). c.left) reached.is }, omega arith, omega (arith, reached.few))

done_goes : (q taken : ℕ) (comes : Comes) (on : Ground) (docs : List Doc) (steps : ℕ) (phase : Phase) (old : Came) (on' : Ground) (docs' : List Doc) (steps' : ℕ) (standing : Standing)
    → old.count - q ≡ 0 → taken ≡ old.count → has_ended standing ≡ true
    → Reaches (place comes on' docs' steps' standing) (behind_phase comes on docs steps phase old.left) (runs_behind docs phase)
    → Goes q (place comes on docs steps (runs phase old)) (place comes on' docs' steps' standing) w.Done
done_goes q taken comes on docs steps phase old on' docs' steps' (runs other run) none t over reached = cc
done_goes q taken comes on docs steps phase old on' docs' steps' lost none t over reached = cc
done_goes q taken comes on docs steps phase old on' docs' steps' (ended o) none t over reached =
    let counts : 0 ≡ (behind_phase comes on docs steps phase old.left).count = ap (λ (c : Came). c.count) reached.is in
    (omega (arith, counts, none), ap (λ (c : Came). c.left) reached.is, refl)

pub over_goes : (q taken : ℕ) (comes : Comes) (on : Ground) (docs docs' : List Doc) (steps steps' : ℕ) (phase : Phase) (old : Came) (standing : Standing) (over : Bool)
    → old.count - q ≡ 0 → taken ≡ old.count → over ≡ has_ended standing → over ≡ true
    → Reaches (place comes on docs' steps' standing) (behind_phase comes on docs steps phase old.left) (runs_behind docs phase)
    → Goes q (place comes on docs steps (runs phase old)) (place comes on docs' steps' standing) w.Done
over_goes q taken comes on docs docs' steps steps' phase old standing over none t is ended_is reached = done_goes q taken comes on docs steps phase old on docs' steps' standing none t (sym is ∙ ended_is) reached

pub run_goes : (q taken : ℕ) (comes : Comes) (on : Ground) (docs docs' : List Doc) (steps steps' : ℕ) (phase : Phase) (old : Came) (standing : Standing) → old.count - q ≡ 0 → taken ≡ old.count
    → Reaches (place comes on docs' steps' standing) (behind_phase comes on docs steps phase old.left) (runs_behind docs phase)
    → Goes q (place comes on docs steps (runs phase old)) (place comes on docs' steps' standing) (w.Next (q - taken))
run_goes q taken comes on docs docs' steps steps' phase old standing none t reached = next_goes q taken comes on docs steps phase old (place comes on docs' steps' standing) none t reached

-- a shard that has ended stays so
pub ended_stays : (q : ℕ) (comes : Comes) (on : Ground) (docs : List Doc) (steps : ℕ) (o : Outcome) (old new : Standing) → old ≡ ended o → new ≡ ended o
    → Goes q (place comes on docs steps old) (place comes on docs steps new) w.Done
ended_stays q comes on docs steps o old new e n = rw (e, n) (omega arith, refl, refl)

-- ---- a turn

-- So many instructions of a turn are left, behind moves that led from one place to another.
pub record InTurn (q left : ℕ) (old new : Place) : Type 0 where
  pub moved : Moves q left old new
  pub within : left ≤ q

pub turn_begins : (q : ℕ) (at : Place) → InTurn q q at at
turn_begins q at = record { moved = record { counted = refl; kept = refl }; within = omega arith }

pub turn_goes_on : (q left more : ℕ) (old mid new : Place) → InTurn q left old mid → Goes left mid new (w.Next more) → InTurn q more old new
turn_goes_on q left more old mid new turned goes = record {
  moved = record { counted = omega (arith, turned.moved.counted, goes.0.counted); kept = goes.0.kept ∙ turned.moved.kept };
  within = omega (arith, turned.within, goes.1);
}

-- a shard of which some is left has not ended
rest_some : (comes : Comes) (on : Ground) (docs : List Doc) (steps : ℕ) (standing : Standing) → 0 < (place comes on docs steps standing).came.count
    → rest_in (place comes on docs steps standing) ≡ (place comes on docs steps standing).came.count
rest_some comes on docs steps (runs phase run) some = omega (arith, some)
rest_some comes on docs steps (ended o) some = absurd (omega (arith, some))
rest_some comes on docs steps lost some = absurd (omega (arith, some))

rest_within : (comes : Comes) (on : Ground) (docs : List Doc) (steps : ℕ) (standing : Standing) (q : ℕ) → 0 < q → (place comes on docs steps standing).came.count ≤ q
    → rest_in (place comes on docs steps standing) ≤ q
rest_within comes on docs steps (runs phase run) q some within = omega (arith, some, within)
rest_within comes on docs steps (ended o) q some within = omega (arith, some)
rest_within comes on docs steps lost q some within = omega (arith, some)

rest_none : (comes : Comes) (on : Ground) (docs : List Doc) (steps : ℕ) (standing : Standing) → has_ended standing ≡ true → rest_in (place comes on docs steps standing) ≡ 0
rest_none comes on docs steps (runs phase run) over = cc
rest_none comes on docs steps (ended o) over = refl
rest_none comes on docs steps lost over = cc

pub turn_more : (q left : ℕ) (comes : Comes) (on : Ground) (docs docs' : List Doc) (steps steps' : ℕ) (standing standing' : Standing) (mid : Place)
    → InTurn q left (place comes on docs steps standing) mid → Goes left mid (place comes on docs' steps' standing') w.More
    → Turns rest_in ending_in q (place comes on docs steps standing) (place comes on docs' steps' standing') turn.More
turn_more q left comes on docs docs' steps steps' standing standing' mid turned goes =
    let before = place comes on docs steps standing in
    let after = place comes on docs' steps' standing' in
    let counts : before.came.count ≡ after.came.count + q = omega (arith, turned.moved.counted, goes.0.counted) in
    let some : 0 < after.came.count = goes.1 in
    let new : rest_in after ≡ after.came.count = rest_some comes on docs' steps' standing' some in
    let old : rest_in before ≡ before.came.count = rest_some comes on docs steps standing (omega (arith, counts, some)) in
    (record { lowered = omega (arith, new, old, counts); kept = goes.0.kept ∙ turned.moved.kept }, omega (arith, new, some))

pub turn_done : (q left : ℕ) (comes : Comes) (on : Ground) (docs docs' : List Doc) (steps steps' : ℕ) (standing standing' : Standing) (mid : Place) → 0 < q
    → InTurn q left (place comes on docs steps standing) mid → Goes left mid (place comes on docs' steps' standing') w.Done
    → Turns rest_in ending_in q (place comes on docs steps standing) (place comes on docs' steps' standing') turn.Done
turn_done q left comes on docs docs' steps steps' standing standing' mid some turned goes =
    let before = place comes on docs steps standing in
    let after = place comes on docs' steps' standing' in
    let within : before.came.count ≤ q = omega (arith, turned.moved.counted, goes.0, turned.within) in
    let new : rest_in after ≡ 0 = rest_none comes on docs' steps' standing' goes.2 in
    let old : rest_in before ≤ q = rest_within comes on docs steps standing q some within in
    (record { lowered = omega (arith, new, old); kept = goes.1 ∙ turned.moved.kept }, new)

-- ---- the same turn of a task

pub task_turns : {T : Type 0} (rest : T → ℕ) (ending : T → Option Outcome) (q : ℕ) (old new : T) (before after : Place) (result : Turn) → rest old ≡ rest_in before → rest new ≡ rest_in after
    → ending old ≡ ending_in before → ending new ≡ ending_in after → Turns rest_in ending_in q before after result → Turns rest ending q old new result
task_turns rest ending q old new before after turn.More ro rn eo en turned = (record { lowered = rn ∙ turned.0.lowered ∙ ap (λ n. n - q) (sym ro); kept = en ∙ turned.0.kept ∙ sym eo }, subst (λ n. 0 < n) (sym rn) turned.1)
task_turns rest ending q old new before after turn.Done ro rn eo en turned = (record { lowered = rn ∙ turned.0.lowered ∙ ap (λ n. n - q) (sym ro); kept = en ∙ turned.0.kept ∙ sym eo }, rn ∙ turned.1)
task_turns rest ending q old new before after turn.NoMemory ro rn eo en turned = tt

-- ---- what a shard leaves

pub ended_leaves : (comes : Comes) (on : Ground) (docs : List Doc) (steps : ℕ) (o : Outcome) (standing : Standing) → standing ≡ ended o → rest_in (place comes on docs steps standing) ≡ 0
    → Some o ≡ ending_in (place comes on docs steps standing)
ended_leaves comes on docs steps o standing is none = rw is refl

some_left : (comes : Comes) (on : Ground) (docs : List Doc) (steps : ℕ) (phase : Phase) (run : Came) → rest_in (place comes on docs steps (runs phase run)) ≡ 0 → ⊥
some_left comes on docs steps phase run none = omega (arith, none)

pub running_leaves : (comes : Comes) (on : Ground) (docs : List Doc) (steps : ℕ) (phase : Phase) (run : Came) (standing : Standing) → standing ≡ runs phase run → rest_in (place comes on docs steps standing) ≡ 0
    → None ≡ ending_in (place comes on docs steps standing)
running_leaves comes on docs steps phase run standing is none = absurd (some_left comes on docs steps phase run (subst (λ (s : Standing). rest_in (place comes on docs steps s) ≡ 0) is none))

pub lost_leaves : (comes : Comes) (on : Ground) (docs : List Doc) (steps : ℕ) (standing : Standing) → standing ≡ lost → rest_in (place comes on docs steps standing) ≡ 0
    → None ≡ ending_in (place comes on docs steps standing)
lost_leaves comes on docs steps standing is none = rw is refl
