-- What leads from line to line of a function whose lines have kinds.
use Rattle.std.proofs.Common.{◌≡◌, ℕ, suc, ◌+◌, ◌==◌, leb, ◌<◌, ◌≤◌, ◌⊎◌, inl, inr, Bool, true, false, ◌||◌, List, [], ◌∷◌, ◌++◌, Option, Some, None, length, refl, sym, ap, ◌∙◌, subst, arith, unwrap_or}
use Rattle.std.specs.Prelude.{slice_get}
use Rattle.std.proofs.lemmas.Bool.{eqb-true, eq-eqb, lt-leb, le-ltb, or_right, or_left, false≢true}
use Rattle.std.proofs.lemmas.Option.{slice_get_within}
use Rattle.pl_code.specs.declared.kinds.Plain.TheVariants as plain
use Rattle.pl_code.specs.declared.kinds.Numbered.TheVariants as numbered
use Rattle.pl_code.specs.declared.kinds.Slot.{Slot}
use Rattle.pl_code.specs.declared.kinds.Slot.TheVariants.{I, J, R}
use Rattle.pl_code.specs.declared.code.FunCode.{FunCode}
use Rattle.pl_code.specs.declared.code.Instruction.{Instruction}
use Rattle.pl_code.specs.declared.code.Instruction.TheVariants as i
use Rattle.allowlist.specs.Allow.{AllowList}
use Rattle.instruction_types.specs.declared.flow.Flow.{Flow}
use Rattle.instruction_types.specs.declared.flow.Flow.TheVariants as flow
use Rattle.instruction_types.specs.Effects.{Exchanges, left_by, result_kinds, effect_of, flow_of}
use Rattle.instruction_types.specs.Faults.{is_bad_target, is_bad_member, goes_wrong, is_bad_jump}
use Rattle.verifier.specs.Meets.{goes_to, turns_to, left_in}
use Rattle.verifier.specs.Shaped.{Leads, turns, passes}
use Rattle.compiler_relation.specs.Machine.{Handlers}
use Rattle.compiler_relation.specs.Stands.{At, AllAt, end_all}
use Rattle.compiled_shapes.proofs.Lines.{Ends, ended, behind, Has, Have, first, rest}

-- ---- where instructions go

on_only : (w : Flow) (line to : ℕ) → w ≡ flow.GoesOn → goes_to w line to ≡ true → to ≡ suc line
on_only w line to x g = let e = eqb-true to (line + 1) (sym (ap (λ w. goes_to w line to) x) ∙ g) in omega (arith, e)

on_next : (w : Flow) (line : ℕ) → w ≡ flow.GoesOn → goes_to w line (suc line) ≡ true
on_next w line x = ap (λ w. goes_to w line (suc line)) x ∙ eq-eqb (suc line) (line + 1) (omega arith)

turns_nowhere : (w : Flow) (to : ℕ) → w ≡ flow.GoesOn → turns_to w to ≡ true → ⊥
turns_nowhere w to x g = false≢true (sym (ap (λ w. turns_to w to) x) ∙ g)

branch_only : (w : Flow) (line target to : ℕ) → w ≡ flow.Branches target → goes_to w line to ≡ true → (to ≡ suc line) ⊎ (to ≡ target)
branch_only w line target to x g = pick (to == line + 1) refl (sym (ap (λ w. goes_to w line to) x) ∙ g)
  where
    pick : (b : Bool) → (to == line + 1) ≡ b → (b || (to == target)) ≡ true → (to ≡ suc line) ⊎ (to ≡ target)
    pick true e g = let q = eqb-true to (line + 1) e in let same : to ≡ suc line = omega (arith, q) in inl same
    pick false e g = inr (eqb-true to target g)

given : (o : Option Slot) → left_by (Exchanges (result_kinds o) []) (result_kinds o ++ []) ≡ Some []
unfolding left_by
given None = refl
given (Some I) = refl
given (Some J) = refl
given (Some R) = refl

below : (a b : ℕ) → (a < b) ⊎ (b ≤ a)
below a b = grind arith

module _ (allow : AllowList) (functions : List FunCode) (f : FunCode) where
  -- an instruction that goes on at the next line
  pub record Passes (instruction : Instruction) (s t : List Slot) : Type 0 where
    pub flow : flow_of instruction ≡ flow.GoesOn
    pub target : is_bad_target functions f instruction ≡ false
    pub member : is_bad_member allow instruction ≡ false
    pub leaves : left_in (effect_of allow functions f instruction) s ≡ Some t

  -- what an instruction leaves, where it fits
  abbrev pub left_of : Instruction → List Slot → List Slot
  left_of instruction s = unwrap_or (left_in (effect_of allow functions f instruction) s) []

  -- the kinds at their lines
  abbrev pub spans : List Instruction → List Slot → List (List Slot)
  spans [] s = []
  spans (one ∷ more) s = s ∷ spans more (left_of one s)

  -- and behind them
  abbrev pub run : List Instruction → List Slot → List Slot
  run [] s = s
  run (one ∷ more) s = run more (left_of one s)

  abbrev pub Straight : List Instruction → List Slot → List Slot → Type 0
  Straight [] s t = s ≡ t
  Straight (one ∷ more) s t = (m : List Slot) × Passes one s m × Straight more m t

  left_is : (one : Instruction) (s m : List Slot) → Passes one s m → left_of one s ≡ m
  left_is one s m x = ap (λ o. unwrap_or o []) x.leaves

  pub run_is : (more : List Instruction) (s t : List Slot) → Straight more s t → run more s ≡ t
  run_is [] s t x = x
  run_is (one ∷ more) s t x = ap (run more) (left_is one s x.0 x.1) ∙ run_is more x.0 t x.2

  pub spans_end : (more : List Instruction) (p : ℕ) (s : List Slot) → Ends p (spans more s) (end_all p more)
  spans_end [] p s = ended
  spans_end (one ∷ more) p s = behind s (spans_end more (suc p) (left_of one s))

module _ (allow : AllowList) (functions : List FunCode) (f : FunCode) (shapes : List (List Slot)) where
  -- A line with kinds that lead there. Its instruction leaves something of them, and only lines with that come next.
  pub record Good (line : ℕ) : Type 0 where
    pub kinds : List Slot
    pub has : Has shapes line kinds
    pub led : Leads allow functions f shapes line kinds
    pub instruction : Instruction
    pub is : slice_get f.lines line ≡ Some instruction
    pub left : List Slot
    pub leaves : left_in (effect_of allow functions f instruction) kinds ≡ Some left
    pub goes : (to : ℕ) → goes_to (flow_of instruction) line to ≡ true → Has shapes to left
    pub turns : (to : ℕ) → turns_to (flow_of instruction) to ≡ true → Has shapes to []
    pub target : is_bad_target functions f instruction ≡ false
    pub member : is_bad_member allow instruction ≡ false
    pub jump : is_bad_jump line instruction ≡ false

  -- the lines from one on, before another
  pub record Fine (p q : ℕ) : Type 0 where
    pub each : (line : ℕ) → p ≤ line → line < q → Good line

  pub fine_none : {p : ℕ} → Fine p p
  fine_none {p} = record { each = λ line a b. absurd (omega (arith, a, b)) }

  pub fine_one : {p : ℕ} → Good p → Fine p (suc p)
  fine_one {p} g = record { each = λ line a b. let same : p ≡ line = omega (arith, a, b) in subst Good same g }

  pub join : {p q r : ℕ} → Fine p q → Fine q r → Fine p r
  join {p} {q} {r} x y = record { each = λ line a b. pick line a b (below line q) }
    where
      pick : (line : ℕ) → p ≤ line → line < r → (line < q) ⊎ (q ≤ line) → Good line
      pick line a b (inl h) = x.each line a h
      pick line a b (inr h) = y.each line h b

  -- From a line on, up to another: that one is led to with these kinds.
  pub record Ran (p q : ℕ) (t : List Slot) : Type 0 where
    pub fine : Fine p q
    pub led : Leads allow functions f shapes q t

  -- a part that is entered with kinds s and left with kinds t
  pub record Runs (p : ℕ) (s : List Slot) (q : ℕ) (t : List Slot) : Type 0 where
    pub has : Has shapes p s
    pub runs : Leads allow functions f shapes p s → Ran p q t

  -- a part, and what follows it
  pub then_ : {p q r : ℕ} {s t u : List Slot} → Runs q t r u → (Has shapes q t → Runs p s q t) → Runs p s r u
  then_ b part = let a = part b.has in record { has = a.has; runs = λ l. let x = a.runs l in let y = b.runs x.led in record { fine = join x.fine y.fine; led = y.led } }

  -- ---- one instruction

  pub step : {h : Handlers} {p : ℕ} {instruction : Instruction} {s t : List Slot} → At f h p instruction → Passes allow functions f instruction s t → Has shapes p s → Has shapes (suc p) t → Runs p s (suc p) t
  unfolding is_bad_jump
  step {h} {p} {instruction} {s} {t} a x has next = record {
    has = has;
    runs = λ led. record {
      fine = fine_one record {
        kinds = s;
        has = has;
        led = led;
        instruction = instruction;
        is = a.here;
        left = t;
        leaves = x.leaves;
        goes = λ to g. subst (λ to. Has shapes to t) (sym (on_only (flow_of instruction) p to x.flow g)) next;
        turns = λ to g. absurd (turns_nowhere (flow_of instruction) to x.flow g);
        target = x.target;
        member = x.member;
        jump = ap (goes_wrong p) x.flow;
      };
      led = passes p instruction s t (suc p) a.here has.is x.leaves (on_next (flow_of instruction) p x.flow);
    };
  }

  -- ---- instructions one after the other

  pub straight : (h : Handlers) (more : List Instruction) (p : ℕ) (s t : List Slot) → AllAt f h p more → Straight allow functions f more s t → Have shapes p (spans allow functions f more s) → Has shapes (end_all p more) t → Runs p s (end_all p more) t
  straight h [] p s t a x have next = record {
    has = record { is = next.is ∙ ap Some (sym x) };
    runs = λ led. record { fine = fine_none; led = subst (λ t. Leads allow functions f shapes p t) x led };
  }
  straight h (one ∷ more) p s t a x have next =
      let later = subst (λ m. Have shapes (suc p) (spans allow functions f more m)) (left_is allow functions f one s x.0 x.1) (rest have) in
      then_ (straight h more (suc p) x.0 t a.1 x.2 later next) (step a.0 x.1 (first have))

  -- ---- jumps

  module _ (many : length shapes ≡ length f.lines) where
    within : {to : ℕ} {t : List Slot} → Has shapes to t → leb (length f.lines) to ≡ false
    within {to} {t} has = lt-leb (length f.lines) to (omega (arith, slice_get_within shapes to t has.is, many))

    pub goto : {h : Handlers} {p to : ℕ} {t : List Slot} → At f h p (i.Numbered numbered.Goto to) → Has shapes p t → Has shapes to t → p < to → Leads allow functions f shapes p t → Good p × Leads allow functions f shapes to t
    unfolding is_bad_target is_bad_member is_bad_jump flow_of effect_of left_by
    goto {h} {p} {to} {t} a has next less led = (
      record {
        kinds = t;
        has = has;
        led = led;
        instruction = i.Numbered numbered.Goto to;
        is = a.here;
        left = t;
        leaves = refl;
        goes = λ other g. subst (λ to. Has shapes to t) (sym (eqb-true other to g)) next;
        turns = λ other g. absurd (false≢true g);
        target = within next;
        member = refl;
        jump = lt-leb to p less;
      },
      passes p (i.Numbered numbered.Goto to) t t to a.here has.is refl (eq-eqb to to refl),
    )

    -- a jump that is taken or not
    pub record Branches (instruction : Instruction) (to : ℕ) (s t : List Slot) : Type 0 where
      pub flow : flow_of instruction ≡ flow.Branches to
      pub target : is_bad_target functions f instruction ≡ leb (length f.lines) to
      pub member : is_bad_member allow instruction ≡ false
      pub leaves : left_in (effect_of allow functions f instruction) s ≡ Some t

    pub branch : {h : Handlers} {p to : ℕ} {instruction : Instruction} {s t : List Slot} → At f h p instruction → Branches instruction to s t → Has shapes p s → Has shapes (suc p) t → Has shapes to t → p < to
        → Leads allow functions f shapes p s → Good p × Leads allow functions f shapes (suc p) t × Leads allow functions f shapes to t
    unfolding is_bad_jump
    branch {h} {p} {to} {instruction} {s} {t} a x has next other less led = (
      record {
        kinds = s;
        has = has;
        led = led;
        instruction = instruction;
        is = a.here;
        left = t;
        leaves = x.leaves;
        goes = λ line g. pick line (branch_only (flow_of instruction) p to line x.flow g);
        turns = λ line g. absurd (false≢true (sym (ap (λ w. turns_to w line) x.flow) ∙ g));
        target = x.target ∙ within other;
        member = x.member;
        jump = ap (goes_wrong p) x.flow ∙ lt-leb to p less;
      },
      passes p instruction s t (suc p) a.here has.is x.leaves (ap (λ w. goes_to w p (suc p)) x.flow ∙ or_left (suc p == p + 1) (suc p == to) (eq-eqb (suc p) (p + 1) (omega arith))),
      passes p instruction s t to a.here has.is x.leaves (ap (λ w. goes_to w p to) x.flow ∙ or_right (to == p + 1) (to == to) (eq-eqb to to refl)),
    )
      where
        pick : (line : ℕ) → (line ≡ suc p) ⊎ (line ≡ to) → Has shapes line t
        pick line (inl e) = subst (λ line. Has shapes line t) (sym e) next
        pick line (inr e) = subst (λ line. Has shapes line t) (sym e) other

    pub if_zero : (to : ℕ) (s : List Slot) → Branches (i.Numbered numbered.IfZero to) to (I ∷ s) s
    unfolding is_bad_target is_bad_member flow_of effect_of left_by
    if_zero to s = record { flow = refl; target = refl; member = refl; leaves = refl }

    pub if_not_zero : (to : ℕ) (s : List Slot) → Branches (i.Numbered numbered.IfNotZero to) to (I ∷ s) s
    unfolding is_bad_target is_bad_member flow_of effect_of left_by
    if_not_zero to s = record { flow = refl; target = refl; member = refl; leaves = refl }

    pub if_null : (to : ℕ) (s : List Slot) → Branches (i.Numbered numbered.IfNull to) to (R ∷ s) s
    unfolding is_bad_target is_bad_member flow_of effect_of left_by
    if_null to s = record { flow = refl; target = refl; member = refl; leaves = refl }

    -- the end of a turn: nothing is left, and a turn begins again or does not
    pub loop : {h : Handlers} {p to : ℕ} → At f h p (i.Numbered numbered.Loop to) → Has shapes p (I ∷ []) → Has shapes (suc p) [] → Has shapes to [] → to ≤ p → Runs p (I ∷ []) (suc p) []
    unfolding is_bad_target is_bad_member is_bad_jump flow_of effect_of left_by
    loop {h} {p} {to} a has next turn less = record {
      has = has;
      runs = λ led. record {
        fine = fine_one record {
          kinds = I ∷ [];
          has = has;
          led = led;
          instruction = i.Numbered numbered.Loop to;
          is = a.here;
          left = [];
          leaves = refl;
          goes = λ line g. let e = eqb-true line (p + 1) g in let same : suc p ≡ line = omega (arith, e) in subst (λ line. Has shapes line []) same next;
          turns = λ line g. subst (λ line. Has shapes line []) (sym (eqb-true line to g)) turn;
          target = within turn;
          member = refl;
          jump = le-ltb p to less;
        };
        led = passes p (i.Numbered numbered.Loop to) (I ∷ []) [] (suc p) a.here has.is refl (eq-eqb (suc p) (p + 1) (omega arith));
      };
    }

    pub turned : {h : Handlers} {p to : ℕ} → At f h p (i.Numbered numbered.Loop to) → Leads allow functions f shapes to []
    unfolding flow_of
    turned {h} {p} {to} a = turns p (i.Numbered numbered.Loop to) to a.here (eq-eqb to to refl)

    -- a function ends with what it gives
    pub ret : {h : Handlers} {p : ℕ} {s : List Slot} → At f h p (i.Plain plain.Ret) → s ≡ result_kinds f.result ++ [] → Has shapes p s → Leads allow functions f shapes p s → Good p
    unfolding is_bad_target is_bad_member is_bad_jump flow_of effect_of
    ret {h} {p} {s} a same has led = record {
      kinds = s;
      has = has;
      led = led;
      instruction = i.Plain plain.Ret;
      is = a.here;
      left = [];
      leaves = ap (left_in (effect_of allow functions f (i.Plain plain.Ret))) same ∙ given f.result;
      goes = λ to g. absurd (false≢true g);
      turns = λ to g. absurd (false≢true g);
      target = refl;
      member = refl;
      jump = refl;
    }

    -- a value is thrown
    pub throws : {h : Handlers} {p : ℕ} {s : List Slot} → At f h p (i.Plain plain.Throw) → Has shapes p (R ∷ s) → Leads allow functions f shapes p (R ∷ s) → Good p
    unfolding is_bad_target is_bad_member is_bad_jump flow_of effect_of left_by
    throws {h} {p} {s} a has led = record {
      kinds = R ∷ s;
      has = has;
      led = led;
      instruction = i.Plain plain.Throw;
      is = a.here;
      left = s;
      leaves = refl;
      goes = λ to g. absurd (false≢true g);
      turns = λ to g. absurd (false≢true g);
      target = refl;
      member = refl;
      jump = refl;
    }
