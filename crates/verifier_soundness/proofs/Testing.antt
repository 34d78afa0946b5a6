-- Tests of rows and of arguments.
use Rattle.std.proofs.Common.{◌≡◌, ℕ, zero, suc, Bool, true, false, ◌&&◌, List, [], ◌∷◌, Some, None, refl, sym, ap, ◌∙◌}
use Rattle.std.specs.Prelude.{slice_get, IsTrue, ◌↔◌}
use Rattle.std.specs.List.{list_all}
use Rattle.pl_code.specs.declared.kinds.Slot.{Slot}
use Rattle.pl_code.specs.declared.code.FunCode.{FunCode}
use Rattle.verifier_table.specs.Shapes.{same_kinds}
use Rattle.verifier_table.proofs.SameKinds.{one_list, kinds_themselves}
use Rattle.allowlist.specs.Allow.{AllowList}
use Rattle.verifier_soundness.specs.Fits.{main_params}
use Rattle.verifier_soundness.specs.Rows.{has_row, function_has_rows, HaveRows}

both : (a b : Bool) → (a && b) ≡ true → (a ≡ true) × (b ≡ true)
both true b e = (refl, e)
both false b e = cc

-- a test of all is a test of each
pub each_of : {X : Type 0} (test : X → Bool) (xs : List X) → list_all test xs ≡ true → (k : ℕ) (x : X) → slice_get xs k ≡ Some x → test x ≡ true
each_of test [] e k x g = let wrong : None ≡ Some x = g in cc
each_of test (y ∷ ys) e zero x g = let same : y ≡ x = cc in ap test (sym same) ∙ (both (test y) (list_all test ys) e).0
each_of test (y ∷ ys) e (suc k) x g = each_of test ys (both (test y) (list_all test ys) e).1 k x g

all_of : {X : Type 0} (test : X → Bool) (xs : List X) → ((k : ℕ) (x : X) → slice_get xs k ≡ Some x → test x ≡ true) → list_all test xs ≡ true
all_of test [] h = refl
all_of test (y ∷ ys) h = (λ i. h 0 y refl i && all_of test ys (λ k x g. h (suc k) x g) i)

pub rows_tested : (allow : AllowList) (code : List FunCode) → IsTrue (list_all (function_has_rows allow) code) ↔ HaveRows allow code
rows_tested allow code = (
  λ e. record { each = λ k line f i at here. each_of (has_row allow) f.lines (each_of (function_has_rows allow) code e k f at) line i here },
  λ rows. all_of (function_has_rows allow) code (λ k f at. all_of (has_row allow) f.lines (λ line i here. rows.each k line f i at here)),
)

pub kinds_tested : (js ks : List Slot) → IsTrue (same_kinds js ks) ↔ (js ≡ ks)
kinds_tested js ks = (λ e. one_list js ks e, λ e. ap (same_kinds js) (sym e) ∙ kinds_themselves js)

pub takes_main : (code : List FunCode) (f : FunCode) → slice_get code 0 ≡ Some f → f.params ≡ main_params code
takes_main [] f e = let wrong : None ≡ Some f = e in cc
takes_main (g ∷ fs) f e = let same : g ≡ f = cc in ap (λ (f : FunCode). f.params) (sym same)
