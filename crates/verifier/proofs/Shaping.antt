-- Shapes of lines, as a relation, are what stands at the lines.
use Rattle.std.proofs.Common.{◌≡◌, ℕ, zero, suc, ◌+◌, ◌<◌, ◌≤◌, Bool, ◌||◌, true, false, eqb, List, [], ◌∷◌, Some, None, inl, inr, refl, sym, ap, ◌∙◌, subst, arith}
use Rattle.std.specs.Prelude.{slice_get}
use Rattle.std.proofs.lemmas.Bool.Decides.{eqb_tells}
use Rattle.std.proofs.lemmas.Bool.{eqb-true, eq-eqb, false≢true}
use borrow.Author.Tests.{leb-false}
use Rattle.pl_code.specs.declared.kinds.Slot.{Slot}
use Rattle.pl_code.specs.declared.kinds.Slot.TheVariants.{R}
use Rattle.pl_code.specs.declared.code.FunCode.{FunCode}
use Rattle.pl_code.specs.declared.code.Trap.{Trap}
use Rattle.pl_code.specs.declared.code.Instruction.{Instruction}
use Rattle.allowlist.specs.Allow.{AllowList}
use Rattle.instruction_types.specs.declared.flow.Flow.{Flow}
use Rattle.instruction_types.specs.declared.flow.Flow.TheVariants as flow
use Rattle.instruction_types.specs.Effects.{effect_of, flow_of}
use Rattle.instruction_types.specs.Faults.{goes_wrong}
use Rattle.verifier_table.specs.Shapes.{Meeting, Known}
use Rattle.verifier.specs.Meets.{goes_to, turns_to, left_in, left_at, stands_at}
use Rattle.verifier.specs.Shaped.{Leads, begins, catches, turns, passes}
use Rattle.verifier.proofs.Meeting.{CaughtBy, TurnedBy, StartsBy, PassedBy, By}

-- ---- traps and loops, in their lists and by their places

caught_in : (to : ℕ) (k : List Slot) (traps : List Trap) → CaughtBy to k traps → (n : ℕ) × ((t : Trap) × (slice_get traps n ≡ Some t) × (to ≡ t.at) × (k ≡ R ∷ []))
caught_in to k [] h = absurd h
caught_in to k (t ∷ traps) h =
    elim h [
      | inl e ↦ (0, (t, refl, eqb-true to t.at e.0, e.1))
      | inr more ↦ let x = caught_in to k traps more in (suc x.0, (x.1.0, x.1.1, x.1.2, x.1.3))
    ]

caught_at_place : (to : ℕ) (k : List Slot) (traps : List Trap) (n : ℕ) (t : Trap) → slice_get traps n ≡ Some t → to ≡ t.at → k ≡ R ∷ [] → CaughtBy to k traps
caught_at_place to k [] n t e q s = let wrong : None ≡ Some t = e in cc
caught_at_place to k (u ∷ traps) zero t e q s = let same : u ≡ t = cc in inl (eq-eqb to u.at (q ∙ ap (λ (t : Trap). t.at) (sym same)), s)
caught_at_place to k (u ∷ traps) (suc n) t e q s = inr (caught_at_place to k traps n t e q s)

turned_in : (to : ℕ) (k : List Slot) (lines : List Instruction) → TurnedBy to k lines → (n : ℕ) × ((i : Instruction) × (slice_get lines n ≡ Some i) × (turns_to (flow_of i) to ≡ true) × (k ≡ []))
turned_in to k [] h = absurd h
turned_in to k (i ∷ lines) h =
    elim h [
      | inl e ↦ (0, (i, refl, e.0, e.1))
      | inr more ↦ let x = turned_in to k lines more in (suc x.0, (x.1.0, x.1.1, x.1.2, x.1.3))
    ]

turned_at_place : (to : ℕ) (k : List Slot) (lines : List Instruction) (n : ℕ) (i : Instruction) → slice_get lines n ≡ Some i → turns_to (flow_of i) to ≡ true → k ≡ [] → TurnedBy to k lines
turned_at_place to k [] n i e q s = let wrong : None ≡ Some i = e in cc
turned_at_place to k (j ∷ lines) zero i e q s = let same : j ≡ i = cc in inl (ap (λ i. turns_to (flow_of i) to) same ∙ q, s)
turned_at_place to k (j ∷ lines) (suc n) i e q s = inr (turned_at_place to k lines n i e q s)

-- ---- an instruction that does not go wrong goes to later lines

pub later : (way : Flow) (line to : ℕ) → goes_wrong line way ≡ false → goes_to way line to ≡ true → line < to
later flow.GoesOn line to w g = let e = eqb-true to (line + 1) g in omega (arith, e)
later (flow.Jumps target) line to w g = let e = eqb-true to target g in let l = leb-false target line w in omega (arith, e, l)
later (flow.Branches target) line to w g = by_next (eqb to (line + 1)) refl g
  where
    by_next : (t : Bool) → eqb to (line + 1) ≡ t → (t || eqb to target) ≡ true → line < to
    by_next true e g = let q = eqb-true to (line + 1) e in omega (arith, q)
    by_next false e g = let q = eqb-true to target g in let l = leb-false target line w in omega (arith, q, l)
later (flow.Turns target) line to w g = let e = eqb-true to (line + 1) g in omega (arith, e)
later flow.Ends line to w g = absurd (false≢true g)

module _ (allow : AllowList) (functions : List FunCode) (f : FunCode) where
  by_more : (a b to : ℕ) (k : List Slot) → a ≤ b → By allow functions f a to k → By allow functions f b to k
  by_more a zero to k h p = let z : a ≡ 0 = omega arith in subst (λ n. By allow functions f n to k) z p
  by_more a (suc b) to k h p =
      elim (eqb_tells a (suc b)) [
        | inl e ↦ subst (λ n. By allow functions f n to k) e.1 p
        | inr n ↦ let ne : ¬ (a ≡ suc b) = n.1 in inl (by_more a b to k (omega (arith, ne)) p)
      ]

  starts_more : (b to : ℕ) (k : List Slot) → StartsBy f to k → By allow functions f b to k
  starts_more b to k p = by_more 0 b to k (omega arith) p

  passed_more : (b line to : ℕ) (k : List Slot) → line < b → PassedBy allow functions f line to k → By allow functions f b to k
  passed_more b line to k h p = by_more (suc line) b to k (omega arith) (inr p)

  -- lines whose shapes are what stands there
  pub record Agrees (shapes : List (List Slot)) (count : ℕ) : Type 0 where
    pub stands : (line : ℕ) (kinds : List Slot) → line < count → slice_get shapes line ≡ Some kinds → stands_at allow functions f line ≡ Known kinds
    pub has : (line : ℕ) → line < count → (kinds : List Slot) × (slice_get shapes line ≡ Some kinds)

  pub known_left : (i : Instruction) (m : Meeting) (kinds : List Slot) → m ≡ Known kinds → left_at allow functions f i m ≡ left_in (effect_of allow functions f i) kinds
  unfolding left_at
  known_left i m kinds e = ap (left_at allow functions f i) e

  start_leads : (shapes : List (List Slot)) (to : ℕ) (k : List Slot) → StartsBy f to k → Leads allow functions f shapes to k
  start_leads shapes to k s =
      elim s [
        | inl x ↦ elim x [
          | inl e ↦ subst (λ to. Leads allow functions f shapes to k) (sym (eqb-true to 0 e.0)) (subst (Leads allow functions f shapes 0) (sym e.1) begins)
          | inr c ↦ let y = caught_in to k f.traps c in
              subst (λ to. Leads allow functions f shapes to k) (sym y.1.2) (subst (Leads allow functions f shapes y.1.0.at) (sym y.1.3) (catches y.0 y.1.0 y.1.1))
        ]
        | inr t ↦ let y = turned_in to k f.lines t in subst (Leads allow functions f shapes to) (sym y.1.3) (turns y.0 y.1.0 to y.1.1 y.1.2)
      ]

  -- what leads there by the lines is what leads there by the relation
  pub by_leads : (shapes : List (List Slot)) (most count to : ℕ) (k : List Slot) → Agrees shapes most → count ≤ most → By allow functions f count to k → Leads allow functions f shapes to k
  by_leads shapes most zero to k a h p = start_leads shapes to k p
  by_leads shapes most (suc line) to k a h p =
      elim p [
        | inl q ↦ by_leads shapes most line to k a (omega arith) q
        | inr b ↦ let x = a.has line (omega arith) in
            passes line b.instruction x.0 k to b.is x.1 (sym (known_left b.instruction _ x.0 (a.stands line x.0 (omega arith) x.1)) ∙ b.leaves) b.goes
      ]

  -- and the other way round, by lines that come before
  pub leads_by : (shapes : List (List Slot)) (count to : ℕ) (k : List Slot)
      → ((line : ℕ) (i : Instruction) (kinds left : List Slot) → slice_get f.lines line ≡ Some i → slice_get shapes line ≡ Some kinds → left_in (effect_of allow functions f i) kinds ≡ Some left → goes_to (flow_of i) line to ≡ true
      → (line < count) × (stands_at allow functions f line ≡ Known kinds))
      → Leads allow functions f shapes to k → By allow functions f count to k
  leads_by shapes count to k before begins = starts_more count 0 [] (inl (inl (refl, refl)))
  leads_by shapes count to k before (catches n t e) = starts_more count t.at (R ∷ []) (inl (inr (caught_at_place t.at (R ∷ []) f.traps n t e refl refl)))
  leads_by shapes count to k before (turns line i at e t) = starts_more count at [] (inr (turned_at_place at [] f.lines line i e t refl))
  leads_by shapes count to k before (passes line i kinds left at e s l g) =
      let b = before line i kinds left e s l g in
      passed_more count line at left b.0 (record { instruction = i; is = e; leaves = known_left i _ kinds b.1 ∙ l; goes = g })
