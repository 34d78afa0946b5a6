-- What `met` is of what leads to a line.
use Rattle.std.proofs.Common.{◌≡◌, ℕ, zero, suc, Bool, true, false, eqb, cond, List, [], ◌∷◌, Option, Some, None, ◌⊎◌, inl, inr, refl, sym, ap, ◌∙◌}
use Rattle.std.specs.Prelude.{slice_get}
use Rattle.pl_code.specs.declared.kinds.Slot.{Slot}
use Rattle.pl_code.specs.declared.kinds.Slot.TheVariants.{R}
use Rattle.pl_code.specs.declared.code.FunCode.{FunCode}
use Rattle.pl_code.specs.declared.code.Trap.{Trap}
use Rattle.pl_code.specs.declared.code.Instruction.{Instruction}
use Rattle.allowlist.specs.Allow.{AllowList}
use Rattle.instruction_types.specs.Effects.{flow_of}
use Rattle.verifier_table.specs.Shapes.{Meeting, Nowhere, Known, Torn, meets, same_kinds}
use Rattle.verifier_table.proofs.SameKinds.{one_list, kinds_themselves}
use Rattle.std.proofs.lemmas.Bool.{true≢false, false≢true}
use Rattle.verifier.specs.Meets.{goes_to, turns_to, met_if, caught_at, turned_at, starts, left_at, led_to, passed, met, stands_at}

-- A meeting is what leads there: nothing, one list of kinds alone, or two that differ.
abbrev pub Is : Meeting → (List Slot → Type 0) → Type 0
Is Nowhere P = (k : List Slot) → P k → ⊥
Is (Known k) P = P k × ((others : List Slot) → P others → others ≡ k)
Is Torn P = (j : List Slot) × ((k : List Slot) × P j × P k × ¬ (j ≡ k))

-- the same for what is as much
is_as : (m : Meeting) (P Q : List Slot → Type 0) → ((k : List Slot) → P k → Q k) → ((k : List Slot) → Q k → P k) → Is m P → Is m Q
is_as Nowhere P Q to from h = λ k q. h k (from k q)
is_as (Known k) P Q to from h = (to k h.0, λ o q. h.1 o (from o q))
is_as Torn P Q to from h = (h.0, (h.1.0, to h.0 h.1.1, to h.1.0 h.1.2, h.1.3))

-- what leads there, or these kinds
abbrev Or : (List Slot → Type 0) → Bool → List Slot → List Slot → Type 0
Or P t kinds k = P k ⊎ ((t ≡ true) × (k ≡ kinds))

either : {A : Type 0} (P : List Slot → Type 0) (kinds k : List Slot) → Or P true kinds k → (P k → A) → (k ≡ kinds → A) → A
either P kinds k o f g = elim o [ inl p ↦ f p | inr e ↦ g e.1 ]

is_met : (kinds : List Slot) (m : Meeting) (P : List Slot → Type 0) → Is m P → Is (meets m kinds) (Or P true kinds)
is_met kinds Nowhere P h = (inr (refl, refl), λ o q. elim q [ inl p ↦ absurd (h o p) | inr e ↦ e.1 ])
is_met kinds Torn P h = (h.0, (h.1.0, inl h.1.1, inl h.1.2, h.1.3))
is_met kinds (Known k) P h = by_test (same_kinds k kinds) refl
  where
    by_test : (t : Bool) → same_kinds k kinds ≡ t → Is (cond t (Known k) Torn) (Or P true kinds)
    by_test true e = (inl h.0, λ o q. elim q [ inl p ↦ h.1 o p | inr x ↦ x.1 ∙ sym (one_list k kinds e) ])
    by_test false e = (k, (kinds, inl h.0, inr (refl, refl), λ s. true≢false (sym (kinds_themselves k) ∙ ap (same_kinds k) s ∙ e)))

is_met_if : (t : Bool) (kinds : List Slot) (m : Meeting) (P : List Slot → Type 0) → Is m P → Is (met_if t kinds m) (Or P t kinds)
is_met_if true kinds m P h = is_met kinds m P h
is_met_if false kinds m P h = is_as m P (Or P false kinds) (λ k p. inl p) (λ k q. elim q [ inl p ↦ p | inr e ↦ absurd (false≢true e.0) ]) h

-- ---- whatever comes before a line

abbrev pub CaughtBy : ℕ → List Slot → List Trap → Type 0
CaughtBy to k [] = ⊥
CaughtBy to k (t ∷ traps) = ((eqb to t.at ≡ true) × (k ≡ R ∷ [])) ⊎ CaughtBy to k traps

abbrev pub TurnedBy : ℕ → List Slot → List Instruction → Type 0
TurnedBy to k [] = ⊥
TurnedBy to k (i ∷ lines) = ((turns_to (flow_of i) to ≡ true) × (k ≡ [])) ⊎ TurnedBy to k lines

regroup : (A B C : Type 0) → (A ⊎ B) ⊎ C → A ⊎ (B ⊎ C)
regroup A B C s = elim s [ inl x ↦ elim x [ inl a ↦ inl a | inr b ↦ inr (inl b) ] | inr c ↦ inr (inr c) ]

regroup_back : (A B C : Type 0) → A ⊎ (B ⊎ C) → (A ⊎ B) ⊎ C
regroup_back A B C s = elim s [ inl a ↦ inl (inl a) | inr x ↦ elim x [ inl b ↦ inl (inr b) | inr c ↦ inr c ] ]

is_caught : (to : ℕ) (m : Meeting) (traps : List Trap) (P : List Slot → Type 0) → Is m P → Is (caught_at to m traps) (λ k. P k ⊎ CaughtBy to k traps)
is_caught to m [] P h = is_as m P (λ k. P k ⊎ ⊥) (λ k p. inl p) (λ k q. elim q [ inl p ↦ p | inr e ↦ absurd e ]) h
is_caught to m (t ∷ traps) P h =
    let test = eqb to t.at in
    let one = is_met_if test (R ∷ []) m P h in
    is_as (caught_at to (met_if test (R ∷ []) m) traps) (λ k. Or P test (R ∷ []) k ⊎ CaughtBy to k traps) (λ k. P k ⊎ CaughtBy to k (t ∷ traps))
    (λ k. regroup (P k) ((test ≡ true) × (k ≡ R ∷ [])) (CaughtBy to k traps)) (λ k. regroup_back (P k) ((test ≡ true) × (k ≡ R ∷ [])) (CaughtBy to k traps))
    (is_caught to (met_if test (R ∷ []) m) traps (Or P test (R ∷ [])) one)

is_turned : (to : ℕ) (m : Meeting) (lines : List Instruction) (P : List Slot → Type 0) → Is m P → Is (turned_at to m lines) (λ k. P k ⊎ TurnedBy to k lines)
is_turned to m [] P h = is_as m P (λ k. P k ⊎ ⊥) (λ k p. inl p) (λ k q. elim q [ inl p ↦ p | inr e ↦ absurd e ]) h
is_turned to m (i ∷ lines) P h =
    let test = turns_to (flow_of i) to in
    let one = is_met_if test [] m P h in
    is_as (turned_at to (met_if test [] m) lines) (λ k. Or P test [] k ⊎ TurnedBy to k lines) (λ k. P k ⊎ TurnedBy to k (i ∷ lines))
    (λ k. regroup (P k) ((test ≡ true) × (k ≡ [])) (TurnedBy to k lines)) (λ k. regroup_back (P k) ((test ≡ true) × (k ≡ [])) (TurnedBy to k lines))
    (is_turned to (met_if test [] m) lines (Or P test []) one)

-- the function begins there, a trap goes on there, or a loop turns back there
abbrev pub StartsBy : FunCode → ℕ → List Slot → Type 0
StartsBy f to k = (((eqb to 0 ≡ true) × (k ≡ [])) ⊎ CaughtBy to k f.traps) ⊎ TurnedBy to k f.lines

is_start : (f : FunCode) (to : ℕ) → Is (starts f to) (StartsBy f to)
unfolding starts
is_start f to =
    let none : Is Nowhere (λ (k : List Slot). ⊥) = λ k e. e in
    let first = is_met_if (eqb to 0) [] Nowhere (λ k. ⊥) none in
    let first_is : Is (met_if (eqb to 0) [] Nowhere) (λ k. (eqb to 0 ≡ true) × (k ≡ [])) =
    is_as (met_if (eqb to 0) [] Nowhere) (Or (λ k. ⊥) (eqb to 0) []) (λ k. (eqb to 0 ≡ true) × (k ≡ [])) (λ k q. elim q [ inl e ↦ absurd e | inr x ↦ x ]) (λ k x. inr x) first in
    is_turned to (caught_at to (met_if (eqb to 0) [] Nowhere) f.traps) f.lines (λ k. ((eqb to 0 ≡ true) × (k ≡ [])) ⊎ CaughtBy to k f.traps)
    (is_caught to (met_if (eqb to 0) [] Nowhere) f.traps (λ k. (eqb to 0 ≡ true) × (k ≡ [])) first_is)

-- ---- by the lines before

module _ (allow : AllowList) (functions : List FunCode) (f : FunCode) where
  pub record PassedBy (line to : ℕ) (k : List Slot) : Type 0 where
    pub instruction : Instruction
    pub is : slice_get f.lines line ≡ Some instruction
    pub leaves : left_at allow functions f instruction (stands_at allow functions f line) ≡ Some k
    pub goes : goes_to (flow_of instruction) line to ≡ true

  abbrev pub By : ℕ → ℕ → List Slot → Type 0
  By zero to k = StartsBy f to k
  By (suc line) to k = By line to k ⊎ PassedBy line to k

  same_left : (o : Option (List Slot)) (j k : List Slot) → o ≡ Some j → o ≡ Some k → k ≡ j
  same_left o j k e g = cc

  one_instruction : (o : Option Instruction) (i j : Instruction) → o ≡ Some i → o ≡ Some j → j ≡ i
  one_instruction o i j e g = cc

  is_led : (line to : ℕ) (i : Instruction) (m : Meeting) (P : List Slot → Type 0) (left : Option (List Slot)) → slice_get f.lines line ≡ Some i → left_at allow functions f i (stands_at allow functions f line) ≡ left
      → Is m P → Is (led_to (flow_of i) line to left m) (λ k. P k ⊎ PassedBy line to k)
  is_led line to i m P None e l h =
      is_as m P (λ k. P k ⊎ PassedBy line to k) (λ k p. inl p)
      (λ k q. elim q [
        | inl p ↦ p
        | inr b ↦ absurd (let same : b.instruction ≡ i = one_instruction _ _ _ e b.is in
            let wrong : None ≡ Some k = sym l ∙ sym (ap (λ i. left_at allow functions f i (stands_at allow functions f line)) same) ∙ b.leaves in cc)
      ]) h
  is_led line to i m P (Some left) e l h =
      let test = goes_to (flow_of i) line to in
      is_as (met_if test left m) (Or P test left) (λ k. P k ⊎ PassedBy line to k)
      (λ k q. elim q [ inl p ↦ inl p | inr x ↦ inr (record { instruction = i; is = e; leaves = l ∙ ap Some (sym x.1); goes = x.0 }) ])
      (λ k q. elim q [
        | inl p ↦ inl p
        | inr b ↦ let same : b.instruction ≡ i = one_instruction _ _ _ e b.is in
            inr (
              ap (λ i. goes_to (flow_of i) line to) (sym same) ∙ b.goes,
              same_left (left_at allow functions f i (stands_at allow functions f line)) left k l (ap (λ i. left_at allow functions f i (stands_at allow functions f line)) (sym same) ∙ b.leaves),
            )
      ])
      (is_met_if test left m P h)

  is_passed : (line to : ℕ) (m : Meeting) (P : List Slot → Type 0) (o : Option Instruction) → slice_get f.lines line ≡ o → Is m P
      → Is (passed allow functions f line o (stands_at allow functions f line) to m) (λ k. P k ⊎ PassedBy line to k)
  unfolding passed
  is_passed line to m P None e h =
      is_as m P (λ k. P k ⊎ PassedBy line to k) (λ k p. inl p) (λ k q. elim q [ inl p ↦ p | inr b ↦ absurd (let wrong : None ≡ Some b.instruction = sym e ∙ b.is in cc) ]) h
  is_passed line to m P (Some i) e h = is_led line to i m P (left_at allow functions f i (stands_at allow functions f line)) e refl h

  -- what stands at a line by so many lines is what leads there
  pub is_what_leads : (count to : ℕ) → Is (met allow functions f count to) (By count to)
  unfolding met
  is_what_leads zero to = is_start f to
  is_what_leads (suc line) to = is_passed line to (met allow functions f line to) (By line to) (slice_get f.lines line) refl (is_what_leads line to)
