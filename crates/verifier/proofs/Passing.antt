-- The pass over the lines of a function.
use Rattle.std.proofs.Common.{◌≡◌, ℕ, suc, ◌+◌, ◌-◌, ◌<◌, ◌≤◌, eqb, List, [], ◌∷◌, Option, Some, None, length, drop, get_or, refl, sym, ap, ◌∙◌, add-one, drop-cons, arith}
use Rattle.std.specs.Prelude.{slice_get}
use Rattle.std.proofs.lemmas.Option.{slice_get-get_or}
use Rattle.pl_code.specs.declared.kinds.Slot.TheVariants.{R}
use Rattle.pl_code.specs.declared.code.FunCode.{FunCode}
use Rattle.pl_code.specs.declared.code.Trap.{Trap}
use Rattle.pl_code.specs.declared.code.Instruction.{Instruction}
use Rattle.allowlist.specs.Allow.{AllowList}
use Rattle.instruction_types.specs.Effects.{flow_of}
use Rattle.std.specs.Prelude.{replicate}
use Rattle.std.proofs.lemmas.List.{get_or-replicate, length-replicate}
use Rattle.std.proofs.Math.ListN.{drop_of_length-le}
use Rattle.verifier_table.specs.Shapes.{Nowhere, Table}
use Rattle.verifier.specs.declared.fault.FaultKind.{FaultKind}
use Rattle.verifier.specs.Meets.{met_if, caught_at, turned_at, turns_to, starts, passed, met}
use Rattle.verifier.specs.Faults.{instruction_fault, fault_in, line_fault, found, first_from}
use Rattle.verifier.specs.Acts.{at_line, MergesInto, Caught, Turned, Begins, PassesOn}

-- the list behind an index
pub next_item : {X : Type 0} (xs : List X) (i : ℕ) (x : X) → x ≡ get_or xs i x → i < length xs → drop i xs ≡ x ∷ drop (i + 1) xs
next_item xs i x e h = drop-cons xs i x h ∙ (λ j. sym e j ∷ drop (sym (add-one i) j) xs)

pub no_item : {X : Type 0} (xs : List X) (i : ℕ) → length xs ≤ i → drop i xs ≡ []
no_item xs i h = drop_of_length-le xs h

-- ---- traps, of which these are left

pub record CatchesOn (traps rest : List Trap) (old now : Table) : Type 0 where
  pub stack : now.stack ≡ old.stack
  pub same : length now.lines ≡ length old.lines
  pub each : (to : ℕ) → to < length old.lines → old.stack ≡ R ∷ [] → caught_at to (at_line now to) rest ≡ caught_at to (at_line old to) traps

pub catches_first : (traps : List Trap) (t : Table) → CatchesOn traps (drop 0 traps) t t
catches_first traps t = record { stack = refl; same = refl; each = λ to h e. refl }

pub catches_one : (traps rest more : List Trap) (trap : Trap) (old now new : Table) → CatchesOn traps rest old now → rest ≡ trap ∷ more → MergesInto now new (λ to. eqb to trap.at) → CatchesOn traps more old new
catches_one traps rest more trap old now new c e l =
    record {
      stack = l.stack ∙ c.stack;
      same = l.same ∙ c.same;
      each = λ to h s.
          let n = c.same in
          ap (λ m. caught_at to m more) (l.each to (omega (arith, n)) ∙ ap (λ ks. met_if (eqb to trap.at) ks (at_line now to)) (c.stack ∙ s))
          ∙ ap (caught_at to (at_line now to)) (sym e) ∙ c.each to h s;
    }

pub catches_all : (traps rest : List Trap) (old now : Table) → CatchesOn traps rest old now → rest ≡ [] → Caught traps old now
catches_all traps rest old now c e =
    record { stack = c.stack; same = c.same; each = λ to h s. ap (caught_at to (at_line now to)) (sym e) ∙ c.each to h s }

-- ---- loops, of which these lines are left

pub record TurnsOn (lines rest : List Instruction) (old now : Table) : Type 0 where
  pub stack : now.stack ≡ old.stack
  pub same : length now.lines ≡ length old.lines
  pub each : (to : ℕ) → to < length old.lines → old.stack ≡ [] → turned_at to (at_line now to) rest ≡ turned_at to (at_line old to) lines

pub turns_first : (lines : List Instruction) (t : Table) → TurnsOn lines (drop 0 lines) t t
turns_first lines t = record { stack = refl; same = refl; each = λ to h e. refl }

pub turns_one : (lines rest more : List Instruction) (i : Instruction) (old now new : Table) → TurnsOn lines rest old now → rest ≡ i ∷ more → MergesInto now new (turns_to (flow_of i)) → TurnsOn lines more old new
turns_one lines rest more i old now new c e l =
    record {
      stack = l.stack ∙ c.stack;
      same = l.same ∙ c.same;
      each = λ to h s.
          let n = c.same in
          ap (λ m. turned_at to m more) (l.each to (omega (arith, n)) ∙ ap (λ ks. met_if (turns_to (flow_of i) to) ks (at_line now to)) (c.stack ∙ s))
          ∙ ap (turned_at to (at_line now to)) (sym e) ∙ c.each to h s;
    }

pub turns_all : (lines rest : List Instruction) (old now : Table) → TurnsOn lines rest old now → rest ≡ [] → Turned lines old now
turns_all lines rest old now c e =
    record { stack = c.stack; same = c.same; each = λ to h s. ap (turned_at to (at_line now to)) (sym e) ∙ c.each to h s }

-- ---- what stands at the lines before the pass

pub begins : (f : FunCode) (a b c d e g : Table) → length a.lines ≡ length f.lines → ((to : ℕ) → to < length f.lines → at_line b to ≡ met_if (eqb to 0) [] Nowhere) → length b.lines ≡ length f.lines
    → c ≡ record { stack = R ∷ []; lines = b.lines } → Caught f.traps c d → e ≡ record { stack = []; lines = d.lines } → Turned f.lines e g → Begins f g
unfolding starts
begins f a b c d e g na b_at nb is_c caught is_e turned =
    let c_lines : c.lines ≡ b.lines = ap (λ (t : Table). t.lines) is_c in
    let c_stack : c.stack ≡ R ∷ [] = ap (λ (t : Table). t.stack) is_c in
    let e_lines : e.lines ≡ d.lines = ap (λ (t : Table). t.lines) is_e in
    let e_stack : e.stack ≡ [] = ap (λ (t : Table). t.stack) is_e in
    let nc : length c.lines ≡ length f.lines = ap length c_lines ∙ nb in
    let nd : length d.lines ≡ length f.lines = caught.same ∙ nc in
    let ne : length e.lines ≡ length f.lines = ap length e_lines ∙ nd in
    record {
      count = turned.same ∙ ne;
      each = λ to h.
          turned.each to (omega (arith, ne)) e_stack
          ∙ ap (λ m. turned_at to m f.lines)
          (ap (λ ms. get_or ms to Nowhere) e_lines ∙ caught.each to (omega (arith, nc)) c_stack
          ∙ ap (λ m. caught_at to m f.traps) (ap (λ ms. get_or ms to Nowhere) c_lines ∙ b_at to h));
    }

pub first_led : (f : FunCode) (n : ℕ) (a b : Table) → a ≡ record { stack = []; lines = replicate n Nowhere } → n ≡ length f.lines → MergesInto a b (λ to. eqb to 0)
    → (length a.lines ≡ length f.lines) × ((to : ℕ) → to < length f.lines → at_line b to ≡ met_if (eqb to 0) [] Nowhere) × (length b.lines ≡ length f.lines) × (b.stack ≡ [])
first_led f n a b is count l =
    let lines : a.lines ≡ replicate n Nowhere = ap (λ (t : Table). t.lines) is in
    let stack : a.stack ≡ [] = ap (λ (t : Table). t.stack) is in
    let na : length a.lines ≡ length f.lines = ap length lines ∙ length-replicate n Nowhere ∙ count in (
      na,
      λ to h. l.each to (omega (arith, na)) ∙ (λ k. met_if (eqb to 0) (stack k) (get_or (lines k) to Nowhere)) ∙ ap (met_if (eqb to 0) []) (get_or-replicate n to Nowhere Nowhere (omega (arith, count))),
      l.same ∙ na,
      l.stack ∙ stack,
    )

-- ---- the pass, line by line

module _ (allow : AllowList) (functions : List FunCode) (f : FunCode) where
  pub record PassedTo (line : ℕ) (t : Table) : Type 0 where
    pub count : length t.lines ≡ length f.lines
    pub each : (to : ℕ) → to < length f.lines → at_line t to ≡ met allow functions f line to
    pub rest : first_from (line_fault allow functions f) 0 (length f.lines) ≡ first_from (line_fault allow functions f) line (length f.lines - line)

  pub passed_none : (t : Table) → Begins f t → PassedTo 0 t
  unfolding met
  passed_none t b =
      let all : length f.lines ≡ length f.lines - 0 = omega arith in
      record { count = b.count; each = b.each; rest = ap (first_from (line_fault allow functions f) 0) all }

  -- the fault of a line whose instruction is known, at a table that has what stands there
  fault_is : (line : ℕ) (i : Instruction) (t : Table) → PassedTo line t → i ≡ get_or f.lines line i → line < length f.lines → instruction_fault allow functions f line i (at_line t line) ≡ line_fault allow functions f line
  unfolding line_fault
  fault_is line i t p e h =
      ap (instruction_fault allow functions f line i) (p.each line h)
      ∙ sym (ap (fault_in allow functions f line) (slice_get-get_or f.lines line i h ∙ ap Some (sym e)))

  first_is : (line count : ℕ) → first_from (line_fault allow functions f) line (suc count) ≡ found line (line_fault allow functions f line) (first_from (line_fault allow functions f) (suc line) count)
  first_is line count = refl

  pub rest_is : (line : ℕ) → line < length f.lines
      → first_from (line_fault allow functions f) line (length f.lines - line) ≡ found line (line_fault allow functions f line) (first_from (line_fault allow functions f) (line + 1) (length f.lines - (line + 1)))
  rest_is line h =
      let more : length f.lines - line ≡ suc (length f.lines - (line + 1)) = omega arith in
      ap (first_from (line_fault allow functions f) line) more
      ∙ ap (λ n. found line (line_fault allow functions f line) (first_from (line_fault allow functions f) n (length f.lines - (line + 1)))) (sym (add-one line))

  pub faulty : (line : ℕ) (i : Instruction) (t : Table) (kind : FaultKind) (said : Option FaultKind) → PassedTo line t → i ≡ get_or f.lines line i → line < length f.lines
      → said ≡ instruction_fault allow functions f line i (at_line t line) → said ≡ Some kind → Some (line, kind) ≡ first_from (line_fault allow functions f) 0 (length f.lines)
  faulty line i t kind said p e h s k =
      let fault : line_fault allow functions f line ≡ Some kind = sym (fault_is line i t p e h) ∙ sym s ∙ k in
      sym (p.rest ∙ rest_is line h ∙ ap (λ o. found line o (first_from (line_fault allow functions f) (line + 1) (length f.lines - (line + 1)))) fault)

  pub sound : (line : ℕ) (i : Instruction) (t new : Table) (said : Option FaultKind) → PassedTo line t → i ≡ get_or f.lines line i → line < length f.lines
      → said ≡ instruction_fault allow functions f line i (at_line t line) → said ≡ None → PassesOn allow functions f line (Some i) t new → PassedTo (line + 1) new
  unfolding met
  sound line i t new said p e h s none on =
      let fault : line_fault allow functions f line ≡ None = sym (fault_is line i t p e h) ∙ sym s ∙ none in
      let is : Some i ≡ slice_get f.lines line = sym (slice_get-get_or f.lines line i h ∙ ap Some (sym e)) in
      let up : suc line ≡ line + 1 = sym (add-one line) in
      record {
        count = on.same ∙ p.count;
        each = λ to b.
            let n = p.count in
            on.each to (omega (arith, n)) ∙ (λ k. passed allow functions f line (is k) (p.each line h k) to (p.each to b k)) ∙ ap (λ l. met allow functions f l to) up;
        rest = p.rest ∙ rest_is line h ∙ ap (λ o. found line o (first_from (line_fault allow functions f) (line + 1) (length f.lines - (line + 1)))) fault;
      }

  pub all_sound : (line : ℕ) (t : Table) → PassedTo line t → length f.lines ≤ line → None ≡ first_from (line_fault allow functions f) 0 (length f.lines)
  all_sound line t p h =
      let z : length f.lines - line ≡ 0 = omega arith in
      sym (p.rest ∙ ap (first_from (line_fault allow functions f) line) z)
