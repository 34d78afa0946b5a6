-- Walks over traps that leave out those that are not over a line.
use Rattle.std.proofs.Common.{◌≡◌, ℕ, zero, suc, ◌≤◌, ◌<◌, ◌+◌, ◌*◌, ◌/◌, ◌&&◌, Bool, true, false, cond, find, List, [], ◌∷◌, ◌++◌, length, Option, Some, None, option_map, nat_eq, slice_get, arith, refl, sym, ap, subst, ◌∙◌}
use Rattle.std.specs.Prelude.{drop}
use Rattle.std.proofs.lemmas.Bool.Decides.{nat_tests}
use Rattle.std.proofs.lemmas.Option.{slice_get-map}
use Rattle.pl_code.specs.declared.code.FunCode.{FunCode}
use Rattle.run_state.specs.World.{World}
use Rattle.code_meaning.specs.Machine.{is_instance}
use Rattle.machine_parts.specs.declared.handlers.LinkedTrap.{LinkedTrap}
use Rattle.machine_parts.specs.Handlers.{covers, catches, handlers_in, linked_traps, meets, NoneMeets, AreFirst, IsNext, AreNext}

drop_none : {X : Type 0} (n : ℕ) → drop {A = X} n [] ≡ []
drop_none zero = refl
drop_none (suc n) = refl

passed : {X : Type 0} (test : Bool) (x : X) (rest : Option X) → test ≡ false → cond test (Some x) rest ≡ rest
passed true x rest e = absurd (cc)
passed false x rest e = refl

taken : {X : Type 0} (test : Bool) (x : X) (rest : Option X) → test ≡ true → cond test (Some x) rest ≡ Some x
taken true x rest e = refl
taken false x rest e = absurd (cc)

module _ {X : Type 0} (test : X → Bool) where
  -- what fails between two places is left out
  pub skips : (xs : List X) (a b : ℕ) → a ≤ b → ((k : ℕ) (x : X) → a ≤ k → k < b → slice_get xs k ≡ Some x → test x ≡ false) → find test (drop a xs) ≡ find test (drop b xs)
  skips [] a b less none = ap (find test) (drop_none a ∙ sym (drop_none b))
  skips (x ∷ xs) zero zero less none = refl
  skips (x ∷ xs) zero (suc b) less none =
      passed (test x) x (find test xs) (none 0 x (omega arith) (omega arith) refl) ∙ skips xs zero b (omega arith) (λ k y from below is. none (suc k) y (omega arith) (omega arith) is)
  skips (x ∷ xs) (suc a) zero less none = absurd (omega arith)
  skips (x ∷ xs) (suc a) (suc b) less none = skips xs a b (omega arith) (λ k y from below is. none (suc k) y (omega arith) (omega arith) is)

  -- the one at a place is found
  pub found : (xs : List X) (n : ℕ) (x : X) → slice_get xs n ≡ Some x → test x ≡ true → find test (drop n xs) ≡ Some x
  found [] n x is holds = absurd (cc)
  found (y ∷ xs) zero x is holds = let e : y ≡ x = cc in taken (test y) y (find test xs) (ap test e ∙ holds) ∙ ap Some e
  found (y ∷ xs) (suc n) x is holds = found xs n x is holds

  -- nothing is found behind the end
  pub none_left : (xs : List X) (n : ℕ) → slice_get xs n ≡ None → find test (drop n xs) ≡ None
  none_left [] n is = ap (find test) (drop_none n)
  none_left (x ∷ xs) zero is = absurd (cc)
  none_left (x ∷ xs) (suc n) is = none_left xs n is

-- a trap that has none of the lines is not over one of them
pub not_over : (line from to : ℕ) (t : LinkedTrap) → from ≤ line → line < to → meets from to t ≡ false → covers line t ≡ false
not_over line from to t low high none = grind (arith, nat_tests)

-- one that is over a line has it among its own
pub is_over_from : (line : ℕ) (t : LinkedTrap) → covers line t ≡ true → t.from ≤ line
is_over_from line t is = grind (arith, nat_tests)

pub is_over_to : (line : ℕ) (t : LinkedTrap) → covers line t ≡ true → line < t.to
is_over_to line t is = grind (arith, nat_tests)

module _ (line id : ℕ) (w : World) where
  pub not_caught : (t : LinkedTrap) → covers line t ≡ false → catches line id w t ≡ false
  not_caught t none = ap (λ b. b && is_instance t.class id w) none

  pub not_of_class : (t : LinkedTrap) → is_instance t.class id w ≡ false → catches line id w t ≡ false
  not_of_class t none = either (covers line t) (is_instance t.class id w) none where
    either : (a b : Bool) → b ≡ false → (a && b) ≡ false
    either true b e = e
    either false b e = refl

  pub caught : (t : LinkedTrap) → covers line t ≡ true → is_instance t.class id w ≡ true → catches line id w t ≡ true
  caught t over is = ap (λ b. b && is_instance t.class id w) over ∙ is

  -- one that is not over the line is passed
  pub passes_one : (traps : List LinkedTrap) (place next : ℕ) (t : LinkedTrap) → slice_get traps place ≡ Some t → covers line t ≡ false → next ≡ suc place
      → find (catches line id w) (drop place traps) ≡ find (catches line id w) (drop next traps)
  passes_one traps place next t here none is =
      skips (catches line id w) traps place next (omega (arith, is))
      (λ k u low high there.
      let same : k ≡ place = omega (arith, low, high, is) in
      let one : u ≡ t = cc (same, there, here) in
      not_caught u (ap (covers line) one ∙ none))

  -- one that is not of its class is passed, and so are those behind it that are not over the line
  pub passes : (traps : List LinkedTrap) (place next : ℕ) (over : LinkedTrap) → slice_get traps place ≡ Some over → is_instance over.class id w ≡ false → place < next
      → ((between : ℕ) (t : LinkedTrap) → place < between → between < next → slice_get traps between ≡ Some t → covers line t ≡ false)
      → find (catches line id w) (drop place traps) ≡ find (catches line id w) (drop next traps)
  passes traps place next over here is_not behind none =
      skips (catches line id w) traps place (suc place) (omega arith)
      (λ k t low high there.
      let same : k ≡ place = omega (arith, low, high) in
      let one : t ≡ over = cc (same, there, here) in
      not_of_class t (ap (λ (t : LinkedTrap). is_instance t.class id w) one ∙ is_not))
      ∙ skips (catches line id w) traps (suc place) next (omega arith) (λ k t low high there. not_caught t (none k t (omega arith) high there))

block_from : (line : ℕ) → (line / 64) * 64 ≤ line
block_from line = omega arith

block_to : (line : ℕ) → line < (line / 64) * 64 + 64
block_to line = omega arith

pub first_is : (traps : List LinkedTrap) (firsts : List ℕ) (line first place : ℕ) (t : LinkedTrap) → AreFirst traps firsts → slice_get firsts (line / 64) ≡ Some first → place < first → slice_get traps place ≡ Some t → covers line t ≡ false
first_is traps firsts line first place t are is below there = not_over line ((line / 64) * 64) ((line / 64) * 64 + 64) t (block_from line) (block_to line) (are (line / 64) first is place t (omega arith) below there)

pub next_is : (traps : List LinkedTrap) (nexts : List ℕ) (line at next place : ℕ) (over t : LinkedTrap) → AreNext traps nexts → slice_get nexts at ≡ Some next → slice_get traps at ≡ Some over → covers line over ≡ true
    → at < place → place < next → slice_get traps place ≡ Some t → covers line t ≡ false
next_is traps nexts line at next place over t are is here is_over behind below there =
    not_over line over.from over.to t (is_over_from line over is_over) (is_over_to line over is_over) ((are at next is).1 over here place t (omega arith) below there)

-- the handlers of a function
pub of_function : (handlers : List (List LinkedTrap)) (functions : List FunCode) (k : ℕ) → handlers ≡ handlers_in functions → slice_get handlers k ≡ option_map linked_traps (slice_get functions k)
of_function handlers functions k is = ap (λ all. slice_get all k) is ∙ slice_get-map linked_traps functions k

-- ---- how the index is made

length_push : {X : Type 0} (xs : List X) (x : X) → length (xs ++ x ∷ []) ≡ suc (length xs)
length_push [] x = refl
length_push (y ∷ xs) x = ap suc (length_push xs x)

pub one_longer : {X : Type 0} (n : ℕ) (xs ys : List X) (x : X) → n ≡ length xs → ys ≡ xs ++ x ∷ [] → n + 1 ≡ length ys
one_longer n xs ys x e is = omega (arith, e, length_push xs x, ap length is)

every_more : {X : Type 0} (holds : ℕ → X → Type 0) (xs : List X) (x : X) → ((k : ℕ) (y : X) → slice_get xs k ≡ Some y → holds k y) → holds (length xs) x
    → (k : ℕ) (y : X) → slice_get (xs ++ x ∷ []) k ≡ Some y → holds k y
every_more holds [] x all here zero y is = let e : x ≡ y = cc in subst (holds 0) e here
every_more holds [] x all here (suc k) y is = absurd (cc)
every_more holds (z ∷ xs) x all here zero y is = all zero y is
every_more holds (z ∷ xs) x all here (suc k) y is = every_more (λ k. holds (suc k)) xs x (λ k. all (suc k)) here k y is

pub no_first : (traps : List LinkedTrap) (firsts : List ℕ) → firsts ≡ [] → AreFirst traps firsts
no_first traps firsts none block first is = absurd (cc)

-- one block more
pub one_first : (traps : List LinkedTrap) (firsts : List ℕ) (block first : ℕ) → block ≡ length firsts → AreFirst traps firsts → NoneMeets traps 0 first (block * 64) (block * 64 + 64) → AreFirst traps (firsts ++ first ∷ [])
one_first traps firsts block first e are none =
    every_more (λ block first. NoneMeets traps 0 first (block * 64) (block * 64 + 64)) firsts first are (subst (λ block. NoneMeets traps 0 first (block * 64) (block * 64 + 64)) e none)

pub no_next : (traps : List LinkedTrap) (nexts : List ℕ) → nexts ≡ [] → AreNext traps nexts
no_next traps nexts none place next is = absurd (cc)

-- one trap more
pub one_next : (traps : List LinkedTrap) (nexts : List ℕ) (place next : ℕ) → place ≡ length nexts → AreNext traps nexts → IsNext traps place next → AreNext traps (nexts ++ next ∷ [])
one_next traps nexts place next e are here = every_more (IsNext traps) nexts next are (subst (λ place. IsNext traps place next) e here)

-- none so far has one of the lines
pub none_more : (traps : List LinkedTrap) (start place from to : ℕ) (t : LinkedTrap) → NoneMeets traps start place from to → slice_get traps place ≡ Some t → meets from to t ≡ false → NoneMeets traps start (suc place) from to
none_more traps start place from to t none is not k u low high there = by_order (nat_eq k place) refl where
  by_order : (b : Bool) → nat_eq k place ≡ b → meets from to u ≡ false
  by_order true e = let same : k ≡ place = grind (arith, nat_tests) in let one : t ≡ u = cc in rw (← one) not
  by_order false e = none k u low (grind (arith, nat_tests)) there
