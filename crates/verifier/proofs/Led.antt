-- Where the stack of a table leads.
use Rattle.std.proofs.Common.{◌≡◌, ℕ, ◌<◌, Bool, true, false, ◌||◌, cond, eqb, List, length, get_or, refl, sym, ap, ◌∙◌, inl, inr, arith}
use Rattle.std.proofs.Math.ListN.{set}
use Rattle.std.proofs.lemmas.List.{length-set, get_or-set_other}
use Rattle.std.proofs.lemmas.Grind.{get_or-set_at}
use Rattle.std.proofs.lemmas.Bool.Decides.{eqb_tells}
use Rattle.pl_code.specs.declared.kinds.Slot.{Slot}
use Rattle.verifier_table.specs.Shapes.{Meeting, Nowhere, Known, Torn, Table, meets, same_kinds}
use Rattle.verifier_table.proofs.SameKinds.{kinds_themselves}
use Rattle.verifier.specs.Meets.{met_if}
use Rattle.verifier.specs.Acts.{at_line, MergesInto}

-- one line is led to
pub led_to_one : (old new : Table) (line : ℕ) → new ≡ record { stack = old.stack; lines = set old.lines line (meets (at_line old line) old.stack) } → MergesInto old new (λ to. eqb to line)
led_to_one old new line e =
    let lines : new.lines ≡ set old.lines line (meets (at_line old line) old.stack) = ap (λ (t : Table). t.lines) e in
    record {
      stack = ap (λ (t : Table). t.stack) e;
      same = ap length lines ∙ length-set old.lines line (meets (at_line old line) old.stack);
      each = λ to h. ap (λ ms. get_or ms to Nowhere) lines ∙ at to h;
    }
  where
    at : (to : ℕ) → to < length old.lines → get_or (set old.lines line (meets (at_line old line) old.stack)) to Nowhere ≡ met_if (eqb to line) old.stack (at_line old to)
    at to h =
        elim (eqb_tells to line) [
          | inl q ↦ get_or-set_at old.lines line to (meets (at_line old line) old.stack) Nowhere q.1 (let l : to ≡ line = q.1 in omega (arith, l))
              ∙ ap (λ x. meets (at_line old x) old.stack) (sym q.1) ∙ sym (ap (λ t. met_if t old.stack (at_line old to)) q.0)
          | inr q ↦ get_or-set_other old.lines line to (meets (at_line old line) old.stack) Nowhere q.1 ∙ sym (ap (λ t. met_if t old.stack (at_line old to)) q.0)
        ]

-- leading there once more changes nothing
met_again : (kinds : List Slot) (m : Meeting) → meets (meets m kinds) kinds ≡ meets m kinds
met_again kinds Nowhere = ap (λ t. cond t (Known kinds) Torn) (kinds_themselves kinds)
met_again kinds Torn = refl
met_again kinds (Known others) = by_test (same_kinds others kinds) refl
  where
    by_test : (t : Bool) → same_kinds others kinds ≡ t → meets (cond t (Known others) Torn) kinds ≡ cond t (Known others) Torn
    by_test true e = ap (λ t. cond t (Known others) Torn) e
    by_test false e = refl

met_twice : (s t : Bool) (kinds : List Slot) (m : Meeting) → met_if t kinds (met_if s kinds m) ≡ met_if (s || t) kinds m
met_twice true true kinds m = met_again kinds m
met_twice true false kinds m = refl
met_twice false t kinds m = refl

pub led_twice : (a b c : Table) (first second : ℕ → Bool) → MergesInto a b first → MergesInto b c second → MergesInto a c (λ to. first to || second to)
led_twice a b c first second f s =
    record {
      stack = s.stack ∙ f.stack;
      same = s.same ∙ f.same;
      each = λ to h. s.each to (let l = f.same in omega (arith, l)) ∙ (λ i. met_if (second to) (f.stack i) (f.each to h i)) ∙ met_twice (first to) (second to) a.stack (at_line a to);
    }

pub led_nowhere : (t : Table) → MergesInto t t (λ to. false)
led_nowhere t = record { stack = refl; same = refl; each = λ to h. refl }
