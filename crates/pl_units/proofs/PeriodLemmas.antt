-- Periods, and why a search may skip by them.
use Rattle.std.proofs.Common.{◌≡◌, ◌≢◌, ℕ, ◌+◌, ◌-◌, ◌*◌, ◌/◌, ◌<◌, ◌≤◌, inl, inr, List, length, get_or, ap, sym, ◌∙◌, subst, arith}
use Rattle.std.proofs.lemmas.Bool.{cases_eq, cases_lt}
use Rattle.pl_units.specs.declared.periods.PeriodTable.{PeriodTable}
use Rattle.pl_units.specs.declared.direction.Direction.{Direction}
use Rattle.pl_units.specs.Periods.{unit_of, Agree, IsPeriod, IsLeastPeriod, IsTable, ArePeriods, Covers, CoversUpTo, CoversAll, IsExtended, IsSkip, Matches}

-- a period of a beginning is one of each shorter one
pub period_of_less : (x : ℕ → ℕ) (more less period : ℕ) → less ≤ more → IsPeriod x more period → IsPeriod x less period
period_of_less x more less period l is = record { positive = is.positive; repeats = λ i h. is.repeats i (omega arith) }

-- where a beginning stands at one place, and as much of it at a later one, the distance is a period of it
pub period_of_two : (x t : ℕ → ℕ) (place count distance : ℕ) → 0 < distance → Agree x t place count
    → ((i : ℕ) → i + distance < count → x i ≡ t (place + distance + i)) → IsPeriod x count distance
period_of_two x t place count distance positive agree again = record {
  positive = positive;
  repeats = λ i h.
      let same : place + distance + i ≡ place + (i + distance) = omega arith in
      again i h ∙ ap t same ∙ sym (agree (i + distance) h);
}

-- a text that stands in itself at a place has the place as a period, up to the end of what stands there
pub period_of_place : (x : ℕ → ℕ) (place count : ℕ) → 0 < place → Agree x x place count → IsPeriod x (place + count) place
period_of_place x place count positive agree = record {
  positive = positive;
  repeats = λ i h.
      let below : i < count = omega arith in
      let same : place + i ≡ i + place = omega arith in
      agree i below ∙ ap x same;
}

-- and where the next units differ, no further
pub no_longer_period : (x : ℕ → ℕ) (place count more : ℕ) → (x count ≢ x (place + count)) → IsPeriod x more place → more ≤ place + count
no_longer_period x place count more differ is = elim (cases_lt (place + count) more) [
  | inl longer ↦
      let below : count + place < more = omega arith in
      let same : count + place ≡ place + count = omega arith in
      absurd (differ (is.repeats count below ∙ ap x same))
  | inr within ↦ within
]

-- What is known of a table while it is made: it has a row for each period below `place`.
abbrev pub CoversBelow : (ℕ → ℕ) → PeriodTable → ℕ → ℕ → Type 0
CoversBelow x table size place =
    (count period : ℕ) → IsPeriod x count period → period < place → 3 * period ≤ count → count ≤ size → Covers table count period

covers_more : (table : PeriodTable) (count period other : ℕ) → period ≤ other → Covers table count period → Covers table count other
covers_more table count period other l row = record {
  row = row.row;
  in_range = row.in_range;
  at_most = omega (arith, row.at_most);
  third = row.third;
  reaches = row.reaches;
}

-- the place's own period is covered
pub covers_place : (x : ℕ → ℕ) (size place count : ℕ) (old new : PeriodTable) → place + count ≤ size
    → (place + count < size → x count ≢ x (place + count))
    → IsExtended old place (place + count) new → CoversBelow x old size place → CoversBelow x new size (place + 1)
covers_place x size place count old new within differ extended covers more period is l third low = elim (cases_eq period place) [
  | inl same ↦
      let here : IsPeriod x more place = subst (IsPeriod x more) same is in
      let reach : more ≤ place + count = elim (cases_lt (place + count) size) [
        | inl before ↦ no_longer_period x place count more (differ before) here
        | inr end ↦ omega arith
      ] in
      extended.covers more period (omega arith) (omega arith) reach
  | inr other ↦ extended.kept more period (covers more period is (omega arith) third low)
]

-- all that a search needs to know at a place of the text in itself
pub covers_here : (x : ℕ → ℕ) (size place count : ℕ) (table : PeriodTable) → 0 < place → place + count ≤ size → Agree x x place count
    → CoversBelow x table size (place + 1) → CoversUpTo x table count
covers_here x size place count table positive within agree covers period is third = elim (cases_lt place period) [
  | inl later ↦
      let at_place : IsPeriod x count place = period_of_less x (place + count) count place (omega arith) (period_of_place x place count positive agree) in
      covers_more table count place period (omega arith) (covers count place at_place (omega arith) (omega arith) (omega arith))
  | inr early ↦ covers count period is (omega arith) third (omega arith)
]

-- the places that are skipped are covered too
pub covers_skipped : (x : ℕ → ℕ) (size place count by known : ℕ) (table : PeriodTable) → 0 < place → place + count ≤ size
    → Agree x x place count → CoversBelow x table size (place + 1) → IsSkip x count by known → CoversBelow x table size (place + by)
covers_skipped x size place count by known table positive within agree covers skip more period is l third low =
    elim (cases_lt place period) [
      | inl later ↦
          elim (cases_lt more (place + count)) [
            | inl shorter ↦
                let at_place : IsPeriod x more place = period_of_less x (place + count) more place (omega arith) (period_of_place x place count positive agree) in
                covers_more table more place period (omega arith) (covers more place at_place (omega arith) (omega arith) low)
            | inr longer ↦
                let again : (i : ℕ) → i + (period - place) < count → x i ≡ x (place + (period - place) + i) =
                λ i h.
                let below : i + period < more = omega arith in
                let same : i + period ≡ place + (period - place) + i = omega arith in
                is.repeats i below ∙ ap x same
                in
                absurd (skip.least (period - place) (omega arith) (period_of_two x x place count (period - place) (omega arith) agree again))
          ]
      | inr early ↦ covers more period is (omega arith) third low
    ]

-- where the text stands in itself up to its end, all is covered
pub covers_all_at_end : (x : ℕ → ℕ) (size place count : ℕ) (table : PeriodTable) → 0 < place → place + count ≡ size → Agree x x place count
    → CoversBelow x table size (place + 1) → CoversAll x table size
covers_all_at_end x size place count table positive end agree covers more low period is third = elim (cases_lt place period) [
  | inl later ↦
      let at_place : IsPeriod x more place = period_of_less x (place + count) more place (omega arith) (period_of_place x place count positive agree) in
      covers_more table more place period (omega arith) (covers more place at_place (omega arith) (omega arith) low)
  | inr early ↦ covers more period is (omega arith) third low
]

-- and where three times the place is more than its length
pub covers_all_below : (x : ℕ → ℕ) (size place : ℕ) (table : PeriodTable) → size < 3 * place → CoversBelow x table size place → CoversAll x table size
covers_all_below x size place table far covers more low period is third = covers more period is (omega arith) third low

-- what is known to match after a skip
pub agree_after : (x t : ℕ → ℕ) (place count by known : ℕ) → Agree x t place count → IsSkip x count by known → Agree x t (place + by) known
agree_after x t place count by known agree skip i h =
    let kept = skip.kept i h in
    let same : place + (i + by) ≡ place + by + i = omega arith in
    kept.1 ∙ agree (i + by) kept.0 ∙ ap t same

-- the rows before this one end too early: so one that covers a period comes no earlier than this one
pub first_row : (table : PeriodTable) (row count period : ℕ) → IsTable table → row < table.count
    → ((early : ℕ) → early < row → get_or table.ends early 0 < count) → Covers table count period
    → (get_or table.periods row 0 ≤ period) × (3 * get_or table.periods row 0 ≤ count)
first_row table row count period is_table in_range early covering = elim (cases_lt covering.row row) [
  | inl before ↦ absurd (omega (arith, early covering.row before, covering.reaches))
  | inr from_here ↦ elim (cases_eq covering.row row) [
    | inl same ↦
        let at : get_or table.periods covering.row 0 ≡ get_or table.periods row 0 = ap (λ k. get_or table.periods k 0) same in
        (omega (arith, at, covering.at_most), omega (arith, at, covering.third))
    | inr other ↦
        let less : get_or table.periods row 0 < get_or table.periods covering.row 0 = is_table.rising row covering.row (omega arith) covering.in_range in
        (omega (arith, less, covering.at_most), omega (arith, less, covering.third))
  ]
]

pub least_at_row : (table : PeriodTable) (row count : ℕ) → IsTable table → row < table.count
    → ((early : ℕ) → early < row → get_or table.ends early 0 < count) → 3 * get_or table.periods row 0 ≤ count → count ≤ get_or table.ends row 0
    → (x : ℕ → ℕ) → ArePeriods x table → CoversUpTo x table count → IsLeastPeriod x count (get_or table.periods row 0)
least_at_row table row count is_table in_range early third reaches x sound covers = record {
  is = period_of_less x (get_or table.ends row 0) count (get_or table.periods row 0) reaches (sound row in_range);
  least = λ other less is.
      let covering = covers other is (omega arith) in
      absurd (omega (arith, (first_row table row count other is_table in_range early covering).0));
}

pub none_from_row : (table : PeriodTable) (row count : ℕ) → IsTable table → row < table.count
    → ((early : ℕ) → early < row → get_or table.ends early 0 < count) → count < 3 * get_or table.periods row 0
    → (x : ℕ → ℕ) → CoversUpTo x table count → (period : ℕ) → IsPeriod x count period → count < 3 * period
none_from_row table row count is_table in_range early far x covers period is = elim (cases_lt count (3 * period)) [
  | inl more ↦ more
  | inr third ↦ absurd (omega (arith, (first_row table row count period is_table in_range early (covers period is third)).1))
]

pub none_at_end : (table : PeriodTable) (count : ℕ) → ((early : ℕ) → early < table.count → get_or table.ends early 0 < count)
    → (x : ℕ → ℕ) → CoversUpTo x table count → (period : ℕ) → IsPeriod x count period → count < 3 * period
none_at_end table count early x covers period is = elim (cases_lt count (3 * period)) [
  | inl more ↦ more
  | inr third ↦
      let covering = covers period is third in
      absurd (omega (arith, early covering.row covering.in_range, covering.reaches))
]

-- the skips by a least period, and by a third where no period is as small
pub skip_of_period : (x : ℕ → ℕ) (count period : ℕ) → 3 * period ≤ count → IsLeastPeriod x count period → IsSkip x count period (count - period)
skip_of_period x count period third is = record {
  positive = is.is.positive;
  within = omega arith;
  kept = λ i h.
      let below : i + period < count = omega arith in
      (below, is.is.repeats i below);
  least = is.least;
}

pub skip_of_third : (x : ℕ → ℕ) (count : ℕ) → ((period : ℕ) → IsPeriod x count period → count < 3 * period) → IsSkip x count (count / 3 + 1) 0
skip_of_third x count far = record {
  positive = omega arith;
  within = omega arith;
  kept = λ i h. absurd (omega arith);
  least = λ other less is. absurd (omega (arith, far other is));
}

-- no place that is skipped is one of a match
pub skipped_none : (direction : Direction) (text part : List ℕ) (place count by known : ℕ)
    → Agree (unit_of direction part) (unit_of direction text) place count → IsSkip (unit_of direction part) count by known
    → count < length part → (unit_of direction part count ≢ unit_of direction text (place + count))
    → (later : ℕ) → place ≤ later → later < place + by → ¬ Matches direction text part later
skipped_none direction text part place count by known agree skip short differ later from_here before matches = elim (cases_eq later place) [
  | inl same ↦
      let at : later + count ≡ place + count = omega arith in
      differ (matches.agree count short ∙ ap (unit_of direction text) at)
  | inr other ↦
      let again : (i : ℕ) → i + (later - place) < count → unit_of direction part i ≡ unit_of direction text (place + (later - place) + i) =
      λ i h.
      let at : later + i ≡ place + (later - place) + i = omega arith in
      matches.agree i (omega arith) ∙ ap (unit_of direction text) at
      in
      skip.least (later - place) (omega arith)
      (period_of_two (unit_of direction part) (unit_of direction text) place count (later - place) (omega arith) agree again)
]
