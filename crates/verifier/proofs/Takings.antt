-- What is taken from a stack, one after the other.
use Rattle.std.proofs.Common.{◌≡◌, ℕ, zero, suc, ◌+◌, ◌-◌, ◌*◌, ◌/◌, ◌%◌, ◌<◌, ◌≤◌, length, take, get_or, Bool, true, false, cond, List, [], ◌∷◌, ◌++◌, Option, Some, None, map, refl, sym, ap, ◌∙◌, arith}
use Rattle.std.specs.Prelude.{replicate, reverse, option_and_then}
use Rattle.std.proofs.Math.Seq.{take-suc, take-length}
use Rattle.std.proofs.lemmas.List.{reverse-append, map-append}
use Rattle.pl_types.specs.declared.ty.Ty.{Ty}
use Rattle.pl_code.specs.declared.kinds.Slot.{Slot}
use Rattle.instruction_types.specs.Effects.{same_slots, taken}
use Rattle.verifier_table.specs.Shapes.{Table}
use Rattle.instruction_types.specs.Types.{kind_of_type}
use Rattle.instruction_types.specs.Members.{argument_kinds}

-- what the code has taken, so far
abbrev pub so_far : Bool → List Slot → Option (List Slot)
so_far fits stack = cond fits (Some stack) None

taken_by : (t : Bool) (xs ys stack : List Slot) → (taken (xs ++ ys) stack ≡ option_and_then (taken ys) (taken xs stack)) → cond t (taken (xs ++ ys) stack) None ≡ option_and_then (taken ys) (cond t (taken xs stack) None)
taken_by true xs ys stack e = e
taken_by false xs ys stack e = refl

pub taken_append : (xs ys stack : List Slot) → taken (xs ++ ys) stack ≡ option_and_then (taken ys) (taken xs stack)
taken_append [] ys stack = refl
taken_append (x ∷ xs) ys [] = refl
taken_append (x ∷ xs) ys (k ∷ stack) = taken_by (same_slots x k) xs ys stack (taken_append xs ys stack)

pub argument_last : (front : List Ty) (last : Ty) → argument_kinds (front ++ last ∷ []) ≡ kind_of_type last ∷ argument_kinds front
unfolding argument_kinds
argument_last front last = ap reverse (map-append kind_of_type front (last ∷ [])) ∙ reverse-append (map kind_of_type front) (kind_of_type last ∷ [])

-- of what is wanted some was taken, and this is left to take
pub record SoFar (wanted rest : List Slot) (old now : Table) : Type 0 where
  pub stack : taken wanted old.stack ≡ taken rest now.stack
  pub lines : now.lines ≡ old.lines

pub one_goes : (wanted rest more : List Slot) (k : Slot) (old now new : Table) → SoFar wanted rest old now → rest ≡ k ∷ more → so_far true new.stack ≡ taken (k ∷ []) now.stack → new.lines ≡ now.lines → SoFar wanted more old new
one_goes wanted rest more k old now new s e t l =
    record {
      stack = s.stack ∙ ap (λ r. taken r now.stack) e ∙ taken_append (k ∷ []) more now.stack ∙ ap (option_and_then (taken more)) (sym t);
      lines = l ∙ s.lines;
    }

pub one_fails : (wanted rest more : List Slot) (k : Slot) (old now : Table) → SoFar wanted rest old now → rest ≡ k ∷ more → None ≡ taken (k ∷ []) now.stack → None ≡ taken wanted old.stack
one_fails wanted rest more k old now s e t =
    sym (s.stack ∙ ap (λ r. taken r now.stack) e ∙ taken_append (k ∷ []) more now.stack ∙ ap (option_and_then (taken more)) (sym t))

pub all_gone : (wanted rest : List Slot) (old now : Table) → SoFar wanted rest old now → rest ≡ [] → Some now.stack ≡ taken wanted old.stack
all_gone wanted rest old now s e = sym (s.stack ∙ ap (λ r. taken r now.stack) e)

pub one_copy : (number done : ℕ) (k : Slot) → done < number → replicate (number - done) k ≡ k ∷ replicate (number - (done + 1)) k
one_copy number done k h = let e : number - done ≡ suc (number - (done + 1)) = omega arith in ap (λ n. replicate n k) e

pub copies_yet : (number : ℕ) (k : Slot) (t : Table) → SoFar (replicate number k) (replicate (number - 0) k) t t
copies_yet number k t = let z : number ≡ number - 0 = omega arith in record { stack = ap (λ n. taken (replicate n k) t.stack) z; lines = refl }

pub last_kind : (front : List Slot) (last : Slot) → reverse (front ++ last ∷ []) ≡ last ∷ reverse front
last_kind front last = reverse-append front (last ∷ [])

-- what was taken, and then what was under it
pub taken_then : (xs ys a b c : List Slot) (fits : Bool) → so_far true b ≡ taken xs a → so_far fits c ≡ taken ys b → so_far fits c ≡ taken (xs ++ ys) a
taken_then xs ys a b c fits e f = f ∙ ap (option_and_then (taken ys)) e ∙ sym (taken_append xs ys a)

pub taken_not : (xs ys a : List Slot) → None ≡ taken xs a → None ≡ taken (xs ++ ys) a
taken_not xs ys a e = ap (option_and_then (taken ys)) e ∙ sym (taken_append xs ys a)

-- the arguments from the last one on

pub one_argument : (params : List Ty) (done : ℕ) (ty : Ty) (k : Slot) → ty ≡ get_or params (length params - 1 - done) ty → k ≡ kind_of_type ty → done < length params
    → argument_kinds (take (length params - done) params) ≡ k ∷ argument_kinds (take (length params - (done + 1)) params)
one_argument params done ty k e q h =
    let j = length params - (done + 1) in
    let up : length params - done ≡ suc (length params - (done + 1)) = omega arith in
    let at : length params - 1 - done ≡ length params - (done + 1) = omega arith in
    let last : get_or params j ty ≡ ty = ap (λ n. get_or params n ty) (sym at) ∙ sym e in
    ap (λ n. argument_kinds (take n params)) up ∙ ap argument_kinds (take-suc params j ty (omega arith)) ∙ argument_last (take j params) (get_or params j ty)
    ∙ ap (λ k. k ∷ argument_kinds (take j params)) (ap kind_of_type last ∙ sym q)

pub no_arguments : (params : List Ty) (done : ℕ) → length params ≤ done → argument_kinds (take (length params - done) params) ≡ []
unfolding argument_kinds
no_arguments params done h = let z : length params - done ≡ 0 = omega arith in ap (λ n. reverse (map kind_of_type (take n params))) z

pub all_arguments : (params : List Ty) → argument_kinds (take (length params - 0) params) ≡ argument_kinds params
all_arguments params = let z : length params - 0 ≡ length params = omega arith in ap (λ n. argument_kinds (take n params)) z ∙ ap argument_kinds (take-length params)

pub arguments_yet : (params : List Ty) (t : Table) → SoFar (argument_kinds params) (argument_kinds (take (length params - 0) params)) t t
arguments_yet params t = record { stack = ap (λ ks. taken ks t.stack) (sym (all_arguments params)); lines = refl }

-- ---- windows

pub window_goes : (wanted rest front more : List Slot) (old now new : Table) → SoFar wanted rest old now → rest ≡ front ++ more → so_far true new.stack ≡ taken front now.stack → new.lines ≡ now.lines → SoFar wanted more old new
window_goes wanted rest front more old now new s e t l =
    record {
      stack = s.stack ∙ ap (λ r. taken r now.stack) e ∙ taken_append front more now.stack ∙ ap (option_and_then (taken more)) (sym t);
      lines = l ∙ s.lines;
    }

pub window_fails : (wanted rest front more : List Slot) (old now : Table) → SoFar wanted rest old now → rest ≡ front ++ more → None ≡ taken front now.stack → None ≡ taken wanted old.stack
window_fails wanted rest front more old now s e t =
    sym (s.stack ∙ ap (λ r. taken r now.stack) e ∙ taken_append front more now.stack ∙ ap (option_and_then (taken more)) (sym t))

copies_append : (a b : ℕ) (k : Slot) → replicate (a + b) k ≡ replicate a k ++ replicate b k
copies_append zero b k = let e : zero + b ≡ b = omega arith in ap (λ n. replicate n k) e
copies_append (suc a) b k = let e : suc a + b ≡ suc (a + b) = omega arith in ap (λ n. replicate n k) e ∙ ap (λ ks. k ∷ ks) (copies_append a b k)

pub one_window : (windows done : ℕ) (k : Slot) → done < windows → replicate (31 * windows - 31 * done) k ≡ replicate 31 k ++ replicate (31 * windows - 31 * (done + 1)) k
one_window windows done k h = let e : 31 * windows - 31 * done ≡ 31 + (31 * windows - 31 * (done + 1)) = omega arith in ap (λ n. replicate n k) e ∙ copies_append 31 (31 * windows - 31 * (done + 1)) k

pub windows_yet : (windows : ℕ) (k : Slot) (t : Table) → SoFar (replicate (31 * windows) k) (replicate (31 * windows - 31 * 0) k) t t
windows_yet windows k t = let z : 31 * windows ≡ 31 * windows - 31 * 0 = omega arith in record { stack = ap (λ n. taken (replicate n k) t.stack) z; lines = refl }

pub copies_cut : (number : ℕ) (k : Slot) → replicate (31 * (number / 31)) k ++ replicate (number % 31) k ≡ replicate number k
copies_cut number k = let e : 31 * (number / 31) + number % 31 ≡ number = omega arith in sym (copies_append (31 * (number / 31)) (number % 31) k) ∙ ap (λ n. replicate n k) e
