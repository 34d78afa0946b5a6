-- Which trap lines of a part are over a line: none outside of the part, and those of a `try` over its block.
use Rattle.std.proofs.Common.{◌≡◌, ℕ, suc, ◌<◌, ◌≤◌, Bool, true, false, ◌&&◌, List, [], ◌∷◌, ◌++◌, Option, Some, refl, ap, ◌∙◌, arith}
use Rattle.std.specs.Prelude.{nat_le, nat_lt, if◌then◌else◌}
use Rattle.std.proofs.lemmas.Bool.{leb-true, ltb-true, le-leb, lt-ltb}
use Rattle.std.proofs.lemmas.List.{append-nil}
use Rattle.pl_types.specs.Classes.{full_name}
use Rattle.pl_types.specs.Names.{class_of_full}
use Rattle.pl_code.specs.declared.code.Trap.{Trap}
use Rattle.source_meaning.specs.Tree.{Stmt, Do, If, While, DoWhile, Try, Block, Break, Continue, Return, Throw, Stmts, Finish, Then, Declare, Catches, NoCatch, Catch}
use Rattle.code_meaning.specs.Machine.{Handler, Handlers, traps_at}
use Rattle.compiler_relation.specs.Stands.{all_fall, goes_on, end_expr, end_skip, jumps_over, end_update, end_value, end_stmt, end_stmts, end_catches, end_tried, end_caught, handlers_of, trap_of, traps_stmt, traps_stmts, traps_catches}
use Rattle.compiler_relation.proofs.Covers.Ends.{expr_grows, skip_grows, update_grows, test_grows, last_test_grows, value_grows, stmt_grows, stmts_grow, catches_grow}

-- ---- trap lines

pub joined : (xs ys : List Trap) (line : ℕ) → traps_at (xs ++ ys) line ≡ traps_at xs line ++ traps_at ys line
joined [] ys line = refl
joined (x ∷ xs) ys line = pick (nat_le x.from line && nat_lt line x.to) (joined xs ys line)
  where
    first : Handler
    first = record { class = class_of_full x.class; at = x.at }

    pick : (is : Bool) → traps_at (xs ++ ys) line ≡ traps_at xs line ++ traps_at ys line
        → (if is then first ∷ traps_at (xs ++ ys) line else traps_at (xs ++ ys) line) ≡ (if is then first ∷ traps_at xs line else traps_at xs line) ++ traps_at ys line
    pick true same = ap (λ (hs : Handlers). first ∷ hs) same
    pick false same = same

-- those of the first alone, or of the second
pub first_alone : (xs ys : List Trap) (line : ℕ) → traps_at ys line ≡ [] → traps_at (xs ++ ys) line ≡ traps_at xs line
first_alone xs ys line none = joined xs ys line ∙ ap (λ (hs : Handlers). traps_at xs line ++ hs) none ∙ append-nil (traps_at xs line)

pub second_alone : (xs ys : List Trap) (line : ℕ) → traps_at xs line ≡ [] → traps_at (xs ++ ys) line ≡ traps_at ys line
second_alone xs ys line none = joined xs ys line ∙ ap (λ (hs : Handlers). hs ++ traps_at ys line) none

-- the line is not among these
abbrev pub Off : ℕ → ℕ → ℕ → Type 0
Off lo hi line = lo ≤ line → line < hi → ⊥

outside : (from to line : ℕ) → Off from to line → (nat_le from line && nat_lt line to) ≡ false
outside from to line off = pick (nat_le from line) (nat_lt line to) refl refl
  where
    pick : (a b : Bool) → nat_le from line ≡ a → nat_lt line to ≡ b → (a && b) ≡ false
    pick false b low high = refl
    pick true false low high = refl
    pick true true low high = absurd (off (leb-true from line low) (ltb-true line to high))

inside : (from to line : ℕ) → from ≤ line → line < to → (nat_le from line && nat_lt line to) ≡ true
inside from to line low high = ap (λ (is : Bool). is && nat_lt line to) (le-leb from line low) ∙ lt-ltb line to high

passed : (x : Trap) (xs : List Trap) (line : ℕ) → Off x.from x.to line → traps_at (x ∷ xs) line ≡ traps_at xs line
passed x xs line off =
    ap (λ (is : Bool). if is then record { class = class_of_full x.class; at = x.at } ∷ traps_at xs line else traps_at xs line) (outside x.from x.to line off)

taken : (x : Trap) (xs : List Trap) (line : ℕ) → x.from ≤ line → line < x.to → traps_at (x ∷ xs) line ≡ record { class = class_of_full x.class; at = x.at } ∷ traps_at xs line
taken x xs line low high =
    ap (λ (is : Bool). if is then record { class = class_of_full x.class; at = x.at } ∷ traps_at xs line else traps_at xs line) (inside x.from x.to line low high)

-- ---- outside of a part

mutual
  pub stmt_misses : (p : ℕ) (t : Stmt) (lo hi line : ℕ) → Off lo hi line → lo ≤ p → end_stmt p t ≤ hi → traps_at (traps_stmt p t) line ≡ []
  stmt_misses p (Do a) lo hi line off low high = refl
  stmt_misses p (If c a b) lo hi line off low high =
      let first = suc (end_expr p c) in
      let second = end_skip (all_fall a) (end_stmts (suc (end_expr p c)) a) in
      let s = expr_grows p c in
      let r = stmts_grow (suc (end_expr p c)) a in
      let d = skip_grows (all_fall a) (end_stmts (suc (end_expr p c)) a) in
      let e = stmts_grow (end_skip (all_fall a) (end_stmts (suc (end_expr p c)) a)) b in
      second_alone (traps_stmts first a) (traps_stmts second b) line (stmts_miss (suc (end_expr p c)) a lo hi line off (omega arith) (omega arith))
      ∙ stmts_miss (end_skip (all_fall a) (end_stmts (suc (end_expr p c)) a)) b lo hi line off (omega arith) high
  stmt_misses p (While test update body) lo hi line off low high =
      let d = update_grows (goes_on body) (end_stmts (suc p) body) update in
      let e = test_grows (end_update (goes_on body) (end_stmts (suc p) body) update) test in
      stmts_miss (suc p) body lo hi line off (omega arith) (omega arith)
  stmt_misses p (DoWhile body test) lo hi line off low high =
      let e = last_test_grows (goes_on body) (end_stmts (suc p) body) test in
      stmts_miss (suc p) body lo hi line off (omega arith) (omega arith)
  stmt_misses p (Try body catches) lo hi line off low high =
      let r = stmts_grow p body in
      let d = skip_grows (all_fall body) (end_stmts p body) in
      let e = catches_grow (end_tried p body) catches in
      second_alone (traps_stmts p body) (traps_catches p (end_tried p body) (end_tried p body) catches) line (stmts_miss p body lo hi line off low (omega arith))
      ∙ catches_miss p (end_tried p body) (end_tried p body) catches lo hi line (λ a b. off (omega arith) (omega arith)) off (omega arith) high
  stmt_misses p (Block body) lo hi line off low high = stmts_miss p body lo hi line off low high
  stmt_misses p Break lo hi line off low high = refl
  stmt_misses p Continue lo hi line off low high = refl
  stmt_misses p (Return value) lo hi line off low high = refl
  stmt_misses p (Throw value) lo hi line off low high = refl

  pub stmts_miss : (p : ℕ) (ts : Stmts) (lo hi line : ℕ) → Off lo hi line → lo ≤ p → end_stmts p ts ≤ hi → traps_at (traps_stmts p ts) line ≡ []
  stmts_miss p Finish lo hi line off low high = refl
  stmts_miss p (Then t rest) lo hi line off low high =
      let d = stmt_grows p t in
      let e = stmts_grow (end_stmt p t) rest in
      second_alone (traps_stmt p t) (traps_stmts (end_stmt p t) rest) line (stmt_misses p t lo hi line off low (omega arith))
      ∙ stmts_miss (end_stmt p t) rest lo hi line off (omega arith) high
  stmts_miss p (Declare x of value rest) lo hi line off low high =
      let e = value_grows p value of in
      stmts_miss (suc (end_value p value of)) rest lo hi line off (omega arith) high

  -- those of catches are over the block and over what the catches do
  pub catches_miss : (from to p : ℕ) (cs : Catches) (lo hi line : ℕ) → Off from to line → Off lo hi line → lo ≤ p → end_catches p cs ≤ hi → traps_at (traps_catches from to p cs) line ≡ []
  catches_miss from to p NoCatch lo hi line tried off low high = refl
  catches_miss from to p (Catch class x body rest) lo hi line tried off low high =
      let r = stmts_grow (suc p) body in
      let d = skip_grows (jumps_over body rest) (end_stmts (suc p) body) in
      let e = catches_grow (end_caught p body rest) rest in
      passed (trap_of from to p class) (traps_stmts (suc p) body ++ traps_catches from to (end_caught p body rest) rest) line tried
      ∙ second_alone (traps_stmts (suc p) body) (traps_catches from to (end_caught p body rest) rest) line (stmts_miss (suc p) body lo hi line off (omega arith) (omega arith))
      ∙ catches_miss from to (end_caught p body rest) rest lo hi line tried off (omega arith) high

-- ---- before and behind a part

pub stmt_before : (p : ℕ) (t : Stmt) (line : ℕ) → line < p → traps_at (traps_stmt p t) line ≡ []
stmt_before p t line before = stmt_misses p t p (end_stmt p t) line (λ a b. omega arith) (omega arith) (omega arith)

pub stmt_behind : (p : ℕ) (t : Stmt) (line : ℕ) → end_stmt p t ≤ line → traps_at (traps_stmt p t) line ≡ []
stmt_behind p t line behind = stmt_misses p t p (end_stmt p t) line (λ a b. omega arith) (omega arith) (omega arith)

pub stmts_before : (p : ℕ) (ts : Stmts) (line : ℕ) → line < p → traps_at (traps_stmts p ts) line ≡ []
stmts_before p ts line before = stmts_miss p ts p (end_stmts p ts) line (λ a b. omega arith) (omega arith) (omega arith)

pub stmts_behind : (p : ℕ) (ts : Stmts) (line : ℕ) → end_stmts p ts ≤ line → traps_at (traps_stmts p ts) line ≡ []
stmts_behind p ts line behind = stmts_miss p ts p (end_stmts p ts) line (λ a b. omega arith) (omega arith) (omega arith)

-- behind the block, before the catches
pub catches_before : (from to p : ℕ) (cs : Catches) (line : ℕ) → to ≤ line → line < p → traps_at (traps_catches from to p cs) line ≡ []
catches_before from to p cs line behind before =
    catches_miss from to p cs p (end_catches p cs) line (λ a b. omega arith) (λ a b. omega arith) (omega arith) (omega arith)

pub passed_behind : (from to at class : ℕ) (xs : List Trap) (line : ℕ) → to ≤ line → traps_at (trap_of from to at class ∷ xs) line ≡ traps_at xs line
passed_behind from to at class xs line behind = passed (trap_of from to at class) xs line (λ a b. omega arith)

-- ---- over the block of a `try`

-- each class is one of the catalogue
abbrev pub AreKnown : Catches → Type 0
AreKnown NoCatch = Unit {0}
AreKnown (Catch class x body rest) = (class < 57) × AreKnown rest

module _ (named : (class : ℕ) → class < 57 → class_of_full (full_name class) ≡ Some class) where
  pub tried : (from to p : ℕ) (cs : Catches) (line : ℕ) → AreKnown cs → from ≤ line → line < to → to ≤ p → traps_at (traps_catches from to p cs) line ≡ handlers_of p cs
  tried from to p NoCatch line known low high less = refl
  tried from to p (Catch class x body rest) line known low high less =
      let later : Handlers = traps_at (traps_stmts (suc p) body ++ traps_catches from to (end_caught p body rest) rest) line in
      let r = stmts_grow (suc p) body in
      let d = skip_grows (jumps_over body rest) (end_stmts (suc p) body) in
      taken (trap_of from to p class) (traps_stmts (suc p) body ++ traps_catches from to (end_caught p body rest) rest) line low high
      ∙ ap (λ (class : Option ℕ). record { class = class; at = p } ∷ later) (named class known.0)
      ∙ ap (λ (hs : Handlers). record { class = Some class; at = p } ∷ hs)
      (second_alone (traps_stmts (suc p) body) (traps_catches from to (end_caught p body rest) rest) line (stmts_before (suc p) body line (omega arith))
      ∙ tried from to (end_caught p body rest) rest line known.1 low high (omega arith))
