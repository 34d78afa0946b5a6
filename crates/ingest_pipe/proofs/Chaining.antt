-- Processors that are read behind others, and processors as one list.
use Rattle.std.proofs.Common.{◌≡◌, ℕ, zero, suc, ◌+◌, ◌-◌, ◌<◌, ◌≤◌, ◌≢◌, List, [], ◌∷◌, ◌++◌, Option, Some, None, Result, Ok, Err, drop, length, get_or, true, false, nat_lt, refl, ap, sym, ◌∙◌, subst, add-one, drop-cons, arith, append_assoc, append-nil}
use Rattle.std.proofs.lemmas.List.{drop_all}
use Rattle.serde_json.specs.Data.{Data, Items}
use Rattle.serde_json.specs.View.{view, items_view}
use Rattle.serde_json.specs.declared.value.Value.{Value}
use Rattle.serde_json.specs.Find.{as_array}
use Rattle.ingest_pipe.specs.declared.processors.Processors.{Processors}
use Rattle.ingest_pipe.specs.declared.processors.Processors.TheVariants.{End, Then}
use Rattle.ingest_pipe.specs.declared.reading.Met.{Met}
use Rattle.ingest_pipe.specs.declared.reading.Processor.{Processor}
use Rattle.ingest_pipe.specs.Paths.{numbered}
use Rattle.ingest_pipe.specs.Reading.{Read, Reading, Inner, read, behind, listed, processor_at, processors_from, chained, list_at, some_at, failures_at}

-- ---- processors as one list

pub chained_last : (all : List Processor) (last : Processor) (rest : Processors) → chained (all ++ last ∷ []) rest ≡ chained all (Then last.guard last.action last.on_failure rest)
chained_last [] last rest = refl
chained_last (one ∷ all) last rest = ap (Then one.guard one.action one.on_failure) (chained_last all last rest)

-- ---- processors before those that are read behind them

pub ahead : List Processor → Reading (List Processor) → Reading (List Processor)
ahead all (Ok rest) = read (all ++ rest.made) rest.met
ahead all (Err path) = Err path

pub ahead_on : (all : List Processor) (one : Processor) (rest : Reading (List Processor)) → ahead (all ++ one ∷ []) rest ≡ ahead all (behind rest (listed one))
unfolding ahead
ahead_on all one (Ok rest) = ap (λ (l : List Processor). read l rest.met) (append_assoc all (one ∷ []) rest.made)
ahead_on all one (Err path) = refl

pub ahead_none : (rest : Reading (List Processor)) → ahead [] rest ≡ rest
unfolding ahead
ahead_none (Ok rest) = refl
ahead_none (Err path) = refl

-- an item is what is first of those that are left
pub left_is : {X : Type 0} (xs : List X) (i : ℕ) (x : X) → i < length xs → x ≡ get_or xs i x → drop i xs ≡ x ∷ drop (i + 1) xs
left_is xs i x h e = drop-cons xs i x h ∙ ap (λ y. y ∷ drop (suc i) xs) (sym e) ∙ ap (λ m. x ∷ drop m xs) (sym (add-one i))

module _ (inner : Inner) (path : List ℕ) where
  -- what was read of a list, and what is left to be read
  pub record SoFar (vs : List Value) (i : ℕ) (all : List Processor) (first now : Met) : Type 0 where
    pub told : processors_from inner path 0 (items_view vs) first ≡ ahead all (processors_from inner path i (items_view (drop i vs)) now)

  pub none_yet : (vs : List Value) (first : Met) → SoFar vs 0 [] first first
  none_yet vs first = record { told = sym (ahead_none (processors_from inner path 0 (items_view vs) first)) }

  here : (vs : List Value) (i : ℕ) (v : Value) (all : List Processor) (first now : Met) → i < length vs → v ≡ get_or vs i v → SoFar vs i all first now
      → processors_from inner path 0 (items_view vs) first
      ≡ ahead all (behind (processor_at inner (numbered path i) (view v) now) (λ one after. behind (processors_from inner path (i + 1) (items_view (drop (i + 1) vs)) after) (listed one)))
  here vs i v all first now h is so = so.told ∙ ap (λ (l : List Value). ahead all (processors_from inner path i (items_view l) now)) (left_is vs i v h is)

  pub one_more : (vs : List Value) (i : ℕ) (v : Value) (all more : List Processor) (one : Processor) (first now after : Met) → i < length vs → v ≡ get_or vs i v
      → processor_at inner (numbered path i) (view v) now ≡ read one after → more ≡ all ++ one ∷ []
      → SoFar vs i all first now → SoFar vs (i + 1) more first after
  one_more vs i v all more one first now after h is made grown so =
      let left = processors_from inner path (i + 1) (items_view (drop (i + 1) vs)) in
      record {
        told =
            here vs i v all first now h is so
            ∙ ap (λ (r : Reading Processor). ahead all (behind r (λ p m. behind (left m) (listed p)))) made
            ∙ sym (ahead_on all one (left after))
            ∙ ap (λ (l : List Processor). ahead l (left after)) (sym grown);
      }

  pub one_wrong : (vs : List Value) (i : ℕ) (v : Value) (all : List Processor) (wrong : List ℕ) (first now : Met) → i < length vs → v ≡ get_or vs i v
      → processor_at inner (numbered path i) (view v) now ≡ Err wrong
      → SoFar vs i all first now → list_at inner path (items_view vs) first ≡ Err wrong
  unfolding ahead
  one_wrong vs i v all wrong first now h is bad so =
      ap (λ (r : Reading (List Processor)). behind r (λ l m. read (chained l End) m))
      (here vs i v all first now h is so
      ∙ ap (λ (r : Reading Processor). ahead all (behind r (λ p m. behind (processors_from inner path (i + 1) (items_view (drop (i + 1) vs)) m) (listed p)))) bad)

  pub all_read : (vs : List Value) (i : ℕ) (all : List Processor) (processors : Processors) (first now : Met) → length vs ≤ i → processors ≡ chained all End
      → SoFar vs i all first now → list_at inner path (items_view vs) first ≡ read processors now
  unfolding ahead
  all_read vs i all processors first now past is so =
      ap (λ (r : Reading (List Processor)). behind r (λ l m. read (chained l End) m))
      (so.told ∙ ap (λ (l : List Value). ahead all (processors_from inner path i (items_view l) now)) (drop_all i vs past) ∙ ap (λ (l : List Processor). read l now) (append-nil all))
      ∙ ap (λ (p : Processors). read p now) (sym is)

-- ---- lists for failures

pub too_deep : (levels : ℕ) (path : List ℕ) (d : Data) (met : Met) → levels ≡ 0 → failures_at levels path d met ≡ Err path
unfolding failures_at
too_deep zero path d met none = refl
too_deep (suc levels) path d met none = absurd (omega (arith, none))

pub less_one : (n : ℕ) → suc n - 1 ≡ n
less_one n = omega arith

pub deep_on : (levels : ℕ) (path : List ℕ) (d : Data) (met : Met) → levels ≢ 0 → failures_at levels path d met ≡ some_at (failures_at (levels - 1)) path (as_array d) met
unfolding failures_at
deep_on zero path d met some = absurd (some refl)
deep_on (suc levels) path d met some = ap (λ (n : ℕ). some_at (failures_at n) path (as_array d) met) (sym (less_one levels))
