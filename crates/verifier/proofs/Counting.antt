-- Lines of functions one behind the other.
use Rattle.std.proofs.Common.{◌≡◌, ℕ, suc, ◌+◌, true, false, cond, eqb, List, [], ◌∷◌, Option, Some, None, length, drop, refl, sym, ap, ◌∙◌, arith}
use Rattle.std.proofs.Math.Dec.{eqb-suc-zero}
use Rattle.std.proofs.lemmas.Bool.{true≢false}
use Rattle.std.specs.Prelude.{option_map}
use Rattle.pl_code.specs.declared.code.FunCode.{FunCode}
use Rattle.pl_code.specs.declared.code.Trap.{Trap}
use Rattle.pl_code.specs.declared.code.Instruction.{Instruction}
use Rattle.pl_code.specs.Reading.{told}
use Rattle.allowlist.specs.Allow.{AllowList}
use Rattle.verifier.specs.declared.fault.FaultKind.{FaultKind}
use Rattle.verifier.specs.declared.fault.FaultKind.TheVariants.{BadShape}
use Rattle.verifier.specs.Faults.{trap_fault, traps_fault, lines_fault, found, function_fault, functions_fault, code_fault, behind, or_next, told_fault, line_count}

-- a trap that breaks, and one that does not

pub trap_breaks : (count at : ℕ) (rest more : List Trap) (t : Trap) (kind : FaultKind) → rest ≡ t ∷ more → trap_fault count t ≡ Some kind → traps_fault count at rest ≡ Some (at, kind)
trap_breaks count at rest more t kind e k = ap (traps_fault count at) e ∙ ap (λ o. found at o (traps_fault count (suc at) more)) k

pub trap_passes : (count at next : ℕ) (rest more : List Trap) (t : Trap) → rest ≡ t ∷ more → next ≡ suc at → trap_fault count t ≡ None → traps_fault count at rest ≡ traps_fault count next more
trap_passes count at next rest more t e n k = ap (traps_fault count at) e ∙ ap (λ o. found at o (traps_fault count (suc at) more)) k ∙ ap (λ m. traps_fault count m more) (sym n)

pub no_traps : (count at : ℕ) (rest : List Trap) → rest ≡ [] → traps_fault count at rest ≡ None
no_traps count at rest e = ap (traps_fault count at) e

-- the functions that are left, of which the first begins at a line that is told as this
pub record Reached (allow : AllowList) (functions rest : List FunCode) (first : ℕ) : Type 0 where
  pub line : ℕ
  pub is : first ≡ told line
  pub left : option_map told_fault (code_fault allow functions) ≡ option_map told_fault (functions_fault allow functions line rest)

-- ---- one function

-- a function with instructions
has_lines : (f : FunCode) → ¬ (f.lines ≡ []) → eqb (length f.lines) 0 ≡ false
has_lines f n = some f.lines n
  where
    some : (xs : List Instruction) → ¬ (xs ≡ []) → eqb (length xs) 0 ≡ false
    some [] n = absurd (n refl)
    some (x ∷ xs) n = eqb-suc-zero (length xs)

module _ (allow : AllowList) (functions : List FunCode) (f : FunCode) where
  pub no_instruction : (first : ℕ) → f.lines ≡ [] → (n : ℕ) → first ≡ told n → Some (first, BadShape) ≡ option_map told_fault (behind n (function_fault allow functions f))
  unfolding function_fault
  no_instruction first e n is =
      let empty : eqb (length f.lines) 0 ≡ true = ap (λ (xs : List Instruction). eqb (length xs) 0) e in
      let zero_more : n ≡ n + 0 = omega arith in
      ap (λ m. Some (m, BadShape)) (is ∙ ap told zero_more)
      ∙ sym (ap (λ t. option_map told_fault (behind n (cond t (Some (0, BadShape)) (or_next (behind 1 (traps_fault (length f.lines) 0 f.traps)) (behind (1 + length f.traps) (lines_fault allow functions f)))))) empty)

  by_parts : ¬ (f.lines ≡ []) → function_fault allow functions f ≡ or_next (behind 1 (traps_fault (length f.lines) 0 f.traps)) (behind (1 + length f.traps) (lines_fault allow functions f))
  unfolding function_fault
  by_parts s = ap (λ t. cond t (Some (0, BadShape)) (or_next (behind 1 (traps_fault (length f.lines) 0 f.traps)) (behind (1 + length f.traps) (lines_fault allow functions f)))) (has_lines f s)

  pub at_trap : (first next last at : ℕ) (kind : FaultKind) → ¬ (f.lines ≡ []) → Some (at, kind) ≡ traps_fault (length f.lines) 0 f.traps → ((n : ℕ) → first ≡ told n → next ≡ told (n + 1)) → ((n : ℕ) → next ≡ told n → last ≡ told (n + at))
      → (n : ℕ) → first ≡ told n → Some (last, kind) ≡ option_map told_fault (behind n (function_fault allow functions f))
  at_trap first next last at kind s e one more n is =
      let same : n + 1 + at ≡ n + (1 + at) = omega arith in
      ap (λ m. Some (m, kind)) (more (n + 1) (one n is) ∙ ap told same)
      ∙ sym (ap (λ o. option_map told_fault (behind n o)) (by_parts s ∙ ap (λ o. or_next (behind 1 o) (behind (1 + length f.traps) (lines_fault allow functions f))) (sym e)))

  pub at_instruction : (first next later last at count : ℕ) (kind : FaultKind) → ¬ (f.lines ≡ []) → None ≡ traps_fault (length f.lines) 0 f.traps → Some (at, kind) ≡ lines_fault allow functions f → count ≡ length f.traps
      → ((n : ℕ) → first ≡ told n → next ≡ told (n + 1)) → ((n : ℕ) → next ≡ told n → later ≡ told (n + count)) → ((n : ℕ) → later ≡ told n → last ≡ told (n + at))
      → (n : ℕ) → first ≡ told n → Some (last, kind) ≡ option_map told_fault (behind n (function_fault allow functions f))
  at_instruction first next later last at count kind s e k c one two three n is =
      let same : n + 1 + count + at ≡ n + (1 + length f.traps + at) = omega (arith, c) in
      ap (λ m. Some (m, kind)) (three (n + 1 + count) (two (n + 1) (one n is)) ∙ ap told same)
      ∙ sym (ap (λ o. option_map told_fault (behind n o)) (by_parts s ∙ (λ i. or_next (behind 1 (sym e i)) (behind (1 + length f.traps) (sym k i)))))

  pub nowhere : ¬ (f.lines ≡ []) → None ≡ traps_fault (length f.lines) 0 f.traps → None ≡ lines_fault allow functions f → (n : ℕ) → None ≡ option_map told_fault (behind n (function_fault allow functions f))
  nowhere s e k n = sym (ap (λ o. option_map told_fault (behind n o)) (by_parts s ∙ (λ i. or_next (behind 1 (sym e i)) (behind (1 + length f.traps) (sym k i)))))

-- ---- all of them

pub some_functions : (functions : List FunCode) → eqb (length functions) 0 ≡ false → ¬ (functions ≡ [])
some_functions functions h e = absurd (true≢false (sym (ap (λ (fs : List FunCode). eqb (length fs) 0) e) ∙ h))

pub first_function : (allow : AllowList) (functions : List FunCode) → ¬ (functions ≡ []) → Reached allow functions (drop 0 functions) 2
first_function allow [] n = absurd (n refl)
first_function allow (f ∷ fs) n = record { line = 2; is = refl; left = refl }

pub untold : (o : Option (ℕ × FaultKind)) → None ≡ option_map told_fault o → o ≡ None
untold None e = refl
untold (Some p) e = cc

next_told : (o next : Option (ℕ × FaultKind)) (p : ℕ × FaultKind) → Some p ≡ option_map told_fault o → option_map told_fault (or_next o next) ≡ Some p
next_told None next p e = cc
next_told (Some q) next p e = sym e

pub function_passes : (allow : AllowList) (functions rest more : List FunCode) (f : FunCode) (first next : ℕ) → Reached allow functions rest first → rest ≡ f ∷ more
    → ((n : ℕ) → first ≡ told n → None ≡ option_map told_fault (behind n (function_fault allow functions f))) → ((n : ℕ) → first ≡ told n → next ≡ told (n + line_count f)) → Reached allow functions more next
function_passes allow functions rest more f first next r e none on =
    record {
      line = r.line + line_count f;
      is = on r.line r.is;
      left = r.left ∙ ap (λ fs. option_map told_fault (functions_fault allow functions r.line fs)) e
          ∙ ap (λ o. option_map told_fault (or_next o (functions_fault allow functions (r.line + line_count f) more))) (untold (behind r.line (function_fault allow functions f)) (none r.line r.is));
    }

pub function_breaks : (allow : AllowList) (functions rest more : List FunCode) (f : FunCode) (first : ℕ) (p : ℕ × FaultKind) → Reached allow functions rest first → rest ≡ f ∷ more
    → ((n : ℕ) → first ≡ told n → Some p ≡ option_map told_fault (behind n (function_fault allow functions f))) → Some p ≡ option_map told_fault (code_fault allow functions)
function_breaks allow functions rest more f first p r e breaks =
    sym (r.left ∙ ap (λ fs. option_map told_fault (functions_fault allow functions r.line fs)) e
    ∙ next_told (behind r.line (function_fault allow functions f)) (functions_fault allow functions (r.line + line_count f) more) p (breaks r.line r.is))

pub all_functions : (allow : AllowList) (functions rest : List FunCode) (first : ℕ) → Reached allow functions rest first → rest ≡ [] → None ≡ option_map told_fault (code_fault allow functions)
all_functions allow functions rest first r e = sym (r.left ∙ ap (λ fs. option_map told_fault (functions_fault allow functions r.line fs)) e)
