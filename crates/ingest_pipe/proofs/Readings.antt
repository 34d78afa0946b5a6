-- What readings have answered, one behind the other.
use Rattle.std.proofs.Common.{◌≡◌, ◌≢◌, ℕ, zero, suc, ◌+◌, ◌-◌, ◌<◌, List, [], ◌∷◌, ◌++◌, get_or, Option, Some, None, Result, Ok, Err, length, string_bytes, refl, ap, sym, ◌∙◌, subst, arith}
use Rattle.std.specs.Prelude.{⊤}
use Rattle.job_file.specs.Contexts.{named}
use Rattle.serde_json.specs.Data.{Data, Items, Members}
use Rattle.serde_json.specs.Find.{as_array, as_object, get}
use Rattle.serde_json.specs.View.{view, items_view}
use Rattle.serde_json.specs.declared.value.Value.{Value}
use Rattle.ingest_pipe.specs.declared.error.PipeErr.{PipeErr}
use Rattle.ingest_pipe.specs.declared.error.PipeErr.TheVariants as e
use Rattle.ingest_pipe.specs.declared.keys.Kind.{Kind}
use Rattle.ingest_pipe.specs.declared.processors.Action.{Action}
use Rattle.ingest_pipe.specs.declared.processors.Guard.{Guard}
use Rattle.ingest_pipe.specs.declared.processors.Pipeline.{Pipeline}
use Rattle.ingest_pipe.specs.declared.processors.Processors.{Processors}
use Rattle.ingest_pipe.specs.declared.reading.Met.{Met}
use Rattle.ingest_pipe.specs.declared.reading.Processor.{Processor}
use Rattle.ingest_pipe.specs.Keys.{kind_names, on_failure}
use Rattle.ingest_pipe.specs.Paths.{IsBadAt, IsGiven, below, no_fault, numbered}
use Rattle.ingest_pipe.specs.Reading.{IsRead, Inner, Member, Read, Reading, acting, behind, ended, failures_at, failures_in, fault_before, fault_behind, guard_of, kind_of, list_at, member_of, met_with, named_of, only_member, processor, processor_at, processor_of, read, some_at, unless, whole}
use Rattle.ingest_pipe.specs.Settings.{action_of, change_of, test_of}
use Rattle.ingest_pipe.proofs.Chaining.{SoFar, deep_on, none_yet, one_more, one_wrong, too_deep}

-- ---- errors

pub err_is : {X : Type 0} (a b : List ℕ) → ◌≡◌ {A = Result X (List ℕ)} (Err a) (Err b) → a ≡ b
err_is a b same = cc

-- an error at the path of what is wrong
pub read_bad : {X : Type 0} (meaning : Reading X) (path : List ℕ) (met : Met) (error : PipeErr) → meaning ≡ Err path → IsBadAt path error → IsRead meaning met (Err error)
read_bad meaning path met (e.Bad told) is bad = is ∙ ap Err bad
read_bad meaning path met e.NoMemory is bad = tt

-- an error before what follows
pub behind_bad : {X Y : Type 0} (one : Reading X) (next : X → Met → Reading Y) (mid last : Met) (error : PipeErr) → IsRead one mid (Err error) → IsRead (behind one next) last (Err error)
behind_bad one next mid last (e.Bad told) is = ap (λ r. behind r next) is
behind_bad one next mid last e.NoMemory is = tt

-- an answer to what means the same
pub read_as : {X : Type 0} (one other : Reading X) (met : Met) (result : Result X PipeErr) → other ≡ one → IsRead one met result → IsRead other met result
read_as {X} one other met result is answer = subst (λ (m : Reading X). IsRead m met result) (sym is) answer

-- ---- faults of keys

pub unless_bad : {X : Type 0} (path : List ℕ) (fault : Option (List ℕ)) (reading : Reading X) (met : Met) (error : PipeErr) → IsGiven (no_fault path fault) (Err error) → IsRead (unless path fault reading) met (Err error)
unless_bad path None reading met (e.Bad told) given = absurd (cc)
unless_bad path (Some name) reading met (e.Bad told) given = ap Err (err_is (below path name) (string_bytes told) given)
unless_bad path fault reading met e.NoMemory given = tt

pub unless_none : {X : Type 0} (path : List ℕ) (fault : Option (List ℕ)) (reading : Reading X) (unit : ⊤) → IsGiven (no_fault path fault) (Ok unit) → unless path fault reading ≡ reading
unless_none path None reading unit given = refl
unless_none path (Some name) reading unit given = absurd (cc)

-- ---- what a processor does

pub acts : (path : List ℕ) (kind : Kind) (script : ℕ) (d : Data) (met after : Met) (action : Action) (unit : ⊤) → IsGiven (no_fault path (fault_behind kind d)) (Ok unit)
    → script ≡ length met.scripts → action_of path kind script d ≡ Ok action → after ≡ met_with met (change_of path kind d) → ended path kind d met ≡ read action after
acts path kind script d met after action unit right place is met_is =
    unless_none path (fault_behind kind d) (acting path kind d met (action_of path kind (length met.scripts) d)) unit right
    ∙ ap (acting path kind d met) (ap (λ (n : ℕ). action_of path kind n d) (sym place) ∙ is)
    ∙ ap (λ (m : Met). read action m) (sym met_is)

-- ---- a processor of a kind

module _ (inner : Inner) (path : List ℕ) (kind : Kind) (ms : Members) (d : Data) (met : Met) (is : Some ms ≡ as_object d) where
  abbrev behind_failures : Processors → Met → Reading Processor
  behind_failures failures after = behind (ended path kind d after) (λ action last. read (processor (guard_of path d met) action failures) last)

  abbrev inside : Reading Processor
  inside = behind (failures_in inner path (get on_failure d) (met_with met (test_of path d))) behind_failures

  pub kind_bad : (last : Met) (error : PipeErr) → IsGiven (no_fault path (fault_before kind ms d)) (Err error) → IsRead (kind_of inner path kind (as_object d) d met) last (Err error)
  kind_bad last error given =
      subst (λ (o : Option Members). IsRead (kind_of inner path kind o d met) last (Err error)) is (unless_bad path (fault_before kind ms d) inside last error given)

  -- once nothing is wrong before the list for failures, and behind the script that tests a document
  module _ (unit : ⊤) (right : IsGiven (no_fault path (fault_before kind ms d)) (Ok unit)) (now : Met) (met_is : now ≡ met_with met (test_of path d)) where
    pub kind_inside : kind_of inner path kind (as_object d) d met ≡ behind (failures_in inner path (get on_failure d) now) behind_failures
    kind_inside =
        ap (λ (o : Option Members). kind_of inner path kind o d met) (sym is)
        ∙ unless_none path (fault_before kind ms d) inside unit right
        ∙ ap (λ (m : Met). behind (failures_in inner path (get on_failure d) m) behind_failures) (sym met_is)

    pub kind_bad_inside : (mid last : Met) (error : PipeErr) → IsRead (failures_in inner path (get on_failure d) now) mid (Err error) → IsRead (kind_of inner path kind (as_object d) d met) last (Err error)
    kind_bad_inside mid last error bad =
        read_as (behind (failures_in inner path (get on_failure d) now) behind_failures) (kind_of inner path kind (as_object d) d met) last (Err error) kind_inside
        (behind_bad (failures_in inner path (get on_failure d) now) behind_failures mid last error bad)

    -- .. and once that list was read
    module _ (failures : Processors) (after : Met) (made : failures_in inner path (get on_failure d) now ≡ read failures after) where
      pub kind_behind : kind_of inner path kind (as_object d) d met ≡ behind_failures failures after
      kind_behind = kind_inside ∙ ap (λ (r : Reading Processors). behind r behind_failures) made

      pub kind_bad_behind : (mid last : Met) (error : PipeErr) → IsRead (ended path kind d after) mid (Err error) → IsRead (kind_of inner path kind (as_object d) d met) last (Err error)
      kind_bad_behind mid last error bad =
          read_as (behind_failures failures after) (kind_of inner path kind (as_object d) d met) last (Err error) kind_behind
          (behind_bad (ended path kind d after) (λ action last. read (processor (guard_of path d met) action failures) last) mid last error bad)

      pub kind_made : (guard : Guard) (action : Action) (last : Met) → guard ≡ guard_of path d met → ended path kind d after ≡ read action last
          → kind_of inner path kind (as_object d) d met ≡ read (processor guard action failures) last
      kind_made guard action last guarded acts =
          kind_behind
          ∙ ap (λ (r : Reading Action). behind r (λ action last. read (processor (guard_of path d met) action failures) last)) acts
          ∙ ap (λ (g : Guard). read (processor g action failures) last) (sym guarded)

-- ---- lists for failures

pub deep_bad : (levels : ℕ) (path : List ℕ) (d : Data) (met last : Met) (error : PipeErr) → levels ≡ 0 → IsBadAt path error → IsRead (failures_at levels path d met) last (Err error)
deep_bad levels path d met last error none bad = read_bad (failures_at levels path d met) path last error (too_deep levels path d met none) bad

pub no_list : (levels : ℕ) (path : List ℕ) (d : Data) (met last : Met) (error : PipeErr) → levels ≢ 0 → None ≡ as_array d → IsBadAt path error → IsRead (failures_at levels path d met) last (Err error)
no_list levels path d met last error some none bad =
    read_bad (failures_at levels path d met) path last error
    (deep_on levels path d met some ∙ ap (λ (o : Option Items). some_at (failures_at (levels - 1)) path o met) (sym none)) bad

pub some_none : (inner : Inner) (path : List ℕ) (vs : List Value) (met : Met) → length vs ≡ 0 → some_at inner path (Some (items_view vs)) met ≡ Err path
some_none inner path [] met none = refl
some_none inner path (v ∷ vs) met none = absurd (omega (arith, none))

pub some_list : (inner : Inner) (path : List ℕ) (vs : List Value) (met : Met) → length vs ≢ 0 → some_at inner path (Some (items_view vs)) met ≡ list_at inner path (items_view vs) met
some_list inner path [] met some = absurd (some refl)
some_list inner path (v ∷ vs) met some = refl

pub empty_list : (levels : ℕ) (path : List ℕ) (d : Data) (vs : List Value) (met last : Met) (error : PipeErr) → levels ≢ 0 → Some (items_view vs) ≡ as_array d → length vs ≡ 0 → IsBadAt path error
    → IsRead (failures_at levels path d met) last (Err error)
empty_list levels path d vs met last error some is none bad =
    read_bad (failures_at levels path d met) path last error
    (deep_on levels path d met some ∙ ap (λ (o : Option Items). some_at (failures_at (levels - 1)) path o met) (sym is) ∙ some_none (failures_at (levels - 1)) path vs met none) bad

pub deep_list : (levels : ℕ) (path : List ℕ) (d : Data) (vs : List Value) (met last : Met) (result : Result Processors PipeErr) → levels ≢ 0 → Some (items_view vs) ≡ as_array d → length vs ≢ 0
    → IsRead (list_at (failures_at (levels - 1)) path (items_view vs) met) last result → IsRead (failures_at levels path d met) last result
deep_list levels path d vs met last result some is long answer =
    read_as (list_at (failures_at (levels - 1)) path (items_view vs) met) (failures_at levels path d met) last result
    (deep_on levels path d met some ∙ ap (λ (o : Option Items). some_at (failures_at (levels - 1)) path o met) (sym is) ∙ some_list (failures_at (levels - 1)) path vs met long)
    answer

-- ---- lists

module _ (inner : Inner) (path : List ℕ) where
  pub list_bad : (vs : List Value) (i : ℕ) (v : Value) (all : List Processor) (place : List ℕ) (first now mid last : Met) (error : PipeErr) → i < length vs → v ≡ get_or vs i v → place ≡ numbered path i
      → IsRead (processor_at inner place (view v) now) mid (Err error) → SoFar inner path vs i all first now → IsRead (list_at inner path (items_view vs) first) last (Err error)
  list_bad vs i v all place first now mid last (e.Bad told) h is stands bad so =
      one_wrong inner path vs i v all (string_bytes told) first now h is (ap (λ (p : List ℕ). processor_at inner p (view v) now) (sym stands) ∙ bad) so
  list_bad vs i v all place first now mid last e.NoMemory h is stands bad so = tt

  pub list_on : (vs : List Value) (i : ℕ) (v : Value) (all more : List Processor) (one : Processor) (place : List ℕ) (first now after : Met) → i < length vs → v ≡ get_or vs i v → place ≡ numbered path i
      → processor_at inner place (view v) now ≡ read one after → more ≡ all ++ one ∷ [] → SoFar inner path vs i all first now → SoFar inner path vs (i + 1) more first after
  list_on vs i v all more one place first now after h is stands made grown so =
      one_more inner path vs i v all more one first now after h is (ap (λ (p : List ℕ). processor_at inner p (view v) now) (sym stands) ∙ made) grown so

  pub list_begins : (vs : List Value) (all : List Processor) (first : Met) → all ≡ [] → SoFar inner path vs 0 all first first
  list_begins vs all first none = subst (λ (l : List Processor). SoFar inner path vs 0 l first first) (sym none) (none_yet inner path vs first)
