-- Occurrences that are replaced, one after the other.
use Rattle.std.proofs.Common.{◌≡◌, ℕ, zero, suc, ◌≤◌, List, ◌++◌, length, refl, ap, sym, ◌∙◌, arith, length-append}
use Rattle.std.specs.Prelude.{Some, None}
use Rattle.api_text.specs.declared.writing.Stop.{Stop}
use Rattle.api_text.specs.declared.writing.Stop.TheVariants.{NoRoom, NoMemory}
use Rattle.api_text.specs.Pieces.{around, replaced_around, replaced_times}
use Rattle.api_text.specs.Writing.{Stops}

-- what stops a front of a text stops the text
pub stopped : (stop : Stop) (room count : ℕ) (text : List ℕ) → Stops room count stop → count ≤ length text → Stops room (length text) stop
stopped NoRoom room count text h l = omega arith
stopped NoMemory room count text h l = tt

-- one occurrence more
pub replaced_more : (n m : ℕ) (target by text before behind : List ℕ) → n ≡ suc m → Some (before, behind) ≡ around target text
    → replaced_times n target by text ≡ before ++ by ++ replaced_times m target by behind
replaced_more n m target by text before behind e h =
    ap (λ (k : ℕ). replaced_times k target by text) e ∙ ap (replaced_around (replaced_times m target by) by text) (sym h)

-- no occurrence is left
pub replaced_none : (n : ℕ) (target by text : List ℕ) → None ≡ around target text → replaced_times n target by text ≡ text
replaced_none zero target by text h = refl
replaced_none (suc n) target by text h = ap (replaced_around (replaced_times n target by) by text) (sym h)

-- what is written of a text is no longer than the text
pub front_fits : (whole front more : List ℕ) → whole ≡ front ++ more → length front ≤ length whole
front_fits whole front more e = omega (arith, ap length e, length-append front more)
