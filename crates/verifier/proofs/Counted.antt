-- The words of frames, line by line and function by function.
use Rattle.std.proofs.Common.{◌≡◌, ℕ, ◌+◌, ◌<◌, ◌≤◌, List, Some, length, get_or, refl, sym, ap, ◌∙◌, subst, arith, inl, inr}
use Rattle.std.specs.Prelude.{slice_get}
use Rattle.std.proofs.lemmas.Option.{slice_get_read, slice_get_within, get_or_from_slice_get}
use Rattle.std.proofs.lemmas.Bool.Decides.{eqb_tells}
use Rattle.pl_code.specs.declared.kinds.Slot.{Slot}
use Rattle.pl_code.specs.declared.code.FunCode.{FunCode}
use Rattle.pl_code.specs.declared.code.Code.{Code}
use Rattle.allowlist.specs.Allow.{AllowList}
use Rattle.verifier_table.specs.Shapes.{Nowhere, Known, Table}
use Rattle.verifier.specs.Meets.{stands_at}
use Rattle.verifier.specs.Acts.{at_line}
use Rattle.verifier.specs.Words.{LineWords, FunctionWords, LeastLines, LeastFunctions}
use Rattle.verifier.specs.Verified.{FrameWords, LeastWords}
use Rattle.verifier.proofs.Passing.{PassedTo}

module _ (allow : AllowList) (functions : List FunCode) where
  -- ---- the lines of a function

  pub no_lines : (f : FunCode) (most : ℕ) → LineWords allow functions f 0 most
  no_lines f most = record { each = λ line kinds h s. absurd (omega (arith, h)) }

  pub wider_lines : (f : FunCode) (count least most : ℕ) → LineWords allow functions f count least → least ≤ most → LineWords allow functions f count most
  wider_lines f count least most w r = record { each = λ line kinds h s. let b = w.each line kinds h s in omega (arith, b, r) }

  pub fewer_lines : (f : FunCode) (count fewer most : ℕ) → LineWords allow functions f count most → fewer ≤ count → LineWords allow functions f fewer most
  fewer_lines f count fewer most w r = record { each = λ line kinds h s. w.each line kinds (omega (arith, h, r)) s }

  -- one more line, at which the words were counted
  pub one_line : (f : FunCode) (line locals least most : ℕ) (t : Table) → PassedTo allow functions f line t → line < length f.lines → locals ≡ length f.params + length f.locals
      → LineWords allow functions f line least → least ≤ most → ((kinds : List Slot) → at_line t line ≡ Known kinds → locals + length kinds ≤ most) → LineWords allow functions f (line + 1) most
  one_line f line locals least most t p b is w r covers =
      record {
        each = λ other kinds h s.
            elim (eqb_tells other line) [
              | inl q ↦ let here : stands_at allow functions f line ≡ Known kinds = subst (λ n. stands_at allow functions f n ≡ Known kinds) q.1 s in
                  let c = covers kinds (p.each line b ∙ here) in omega (arith, is, c)
              | inr q ↦ let n : ¬ (other ≡ line) = q.1 in let c = w.each other kinds (omega (arith, h, n)) s in omega (arith, c, r)
            ];
      }

  pub least_none : (f : FunCode) (before : ℕ) → LeastLines allow functions f 0 before before
  least_none f before = record { least = λ n r w. r }

  pub least_line : (f : FunCode) (line locals before most raised : ℕ) (t : Table) → PassedTo allow functions f line t → line < length f.lines → locals ≡ length f.params + length f.locals
      → LeastLines allow functions f line before most → ((n : ℕ) → most ≤ n → ((kinds : List Slot) → at_line t line ≡ Known kinds → locals + length kinds ≤ n) → raised ≤ n)
      → LeastLines allow functions f (line + 1) before raised
  least_line f line locals before most raised t p b is l only =
      record {
        least = λ n r w. only n (l.least n r (fewer_lines f (line + 1) line n w (omega arith))) (λ kinds at.
            let c = w.each line kinds (omega arith) (sym (p.each line b) ∙ at) in omega (arith, is, c));
      }

  pub least_lines : (f : FunCode) (count whole before most : ℕ) → LeastLines allow functions f count before most → count ≤ whole → LeastLines allow functions f whole before most
  least_lines f count whole before most l r = record { least = λ n b w. l.least n b (fewer_lines f whole count n w r) }

  -- a table with the same lines
  pub passed_still : (f : FunCode) (line : ℕ) (t new : Table) → PassedTo allow functions f line t → new.lines ≡ t.lines → PassedTo allow functions f line new
  passed_still f line t new p e = record { count = ap length e ∙ p.count; each = λ to h. ap (λ ms. get_or ms to Nowhere) e ∙ p.each to h; rest = p.rest }

  -- ---- functions

  pub no_functions : (most : ℕ) → FunctionWords allow functions 0 most
  no_functions most = record { each = λ k f h is. absurd (omega (arith, h)) }

  pub one_function : (k least most : ℕ) (f : FunCode) → FunctionWords allow functions k least → least ≤ most → f ≡ get_or functions k f → LineWords allow functions f (length f.lines) most
      → FunctionWords allow functions (k + 1) most
  one_function k least most f w r is lines =
      record {
        each = λ other g h at.
            elim (eqb_tells other k) [
              | inl q ↦ let same : f ≡ g = is ∙ get_or_from_slice_get functions k g f (subst (λ n. slice_get functions n ≡ Some g) q.1 at) in
                  subst (λ (g : FunCode). LineWords allow functions g (length g.lines) most) same lines
              | inr q ↦ let n : ¬ (other ≡ k) = q.1 in wider_lines g (length g.lines) least most (w.each other g (omega (arith, h, n)) at) r
            ];
      }

  pub fewer_functions : (count fewer most : ℕ) → FunctionWords allow functions count most → fewer ≤ count → FunctionWords allow functions fewer most
  fewer_functions count fewer most w r = record { each = λ k f h is. w.each k f (omega (arith, h, r)) is }

  pub least_no_function : (before : ℕ) → LeastFunctions allow functions 0 before before
  least_no_function before = record { least = λ n r w. r }

  pub least_function : (k before most raised : ℕ) (f : FunCode) → LeastFunctions allow functions k before most → k < length functions → f ≡ get_or functions k f
      → LeastLines allow functions f (length f.lines) most raised → LeastFunctions allow functions (k + 1) before raised
  least_function k before most raised f l b is lines =
      record {
        least = λ n r w. lines.least n (l.least n r (fewer_functions (k + 1) k n w (omega arith)))
            (w.each k f (omega arith) (slice_get_read functions (length functions) k f refl b is));
      }

  pub least_functions : (count whole before most : ℕ) → LeastFunctions allow functions count before most → count ≤ whole → LeastFunctions allow functions whole before most
  least_functions count whole before most l r = record { least = λ n b w. l.least n b (fewer_functions whole count n w r) }

-- the frames of verified code
pub of_frames : (allow under : AllowList) (functions : List FunCode) (code : Code) (most : ℕ) → FunctionWords allow functions (length functions) most → under ≡ allow → functions ≡ code.functions
    → FrameWords most (record { code = code; allow = under })
of_frames allow under functions code most w u e =
    let shared : FunctionWords under functions (length functions) most = subst (λ a. FunctionWords a functions (length functions) most) (sym u) w in
    let whole : FunctionWords under code.functions (length code.functions) most = subst (λ (fs : List FunCode). FunctionWords under fs (length fs) most) e shared in
    λ k f line kinds is h s. (whole.each k f (slice_get_within code.functions k f is) is).each line kinds h s

pub least_of_frames : (allow under : AllowList) (functions : List FunCode) (code : Code) (most : ℕ) → LeastFunctions allow functions (length functions) 0 most → under ≡ allow → functions ≡ code.functions
    → LeastWords most (record { code = code; allow = under })
least_of_frames allow under functions code most l u e =
    let shared : LeastFunctions under functions (length functions) 0 most = subst (λ a. LeastFunctions a functions (length functions) 0 most) (sym u) l in
    let whole : LeastFunctions under code.functions (length code.functions) 0 most = subst (λ (fs : List FunCode). LeastFunctions under fs (length fs) 0 most) e shared in
    λ n words. whole.least n (omega arith) (record { each = λ k f h is. record { each = λ line kinds b s. words k f line kinds is b s } })
