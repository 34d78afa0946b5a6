-- Statements among lines over which the traps are their own and then some handlers.
use Rattle.std.proofs.Common.{◌≡◌, ℕ, suc, ◌<◌, ◌≤◌, Bool, true, false, List, [], ◌++◌, Some, sym, ap, ◌∙◌, append_assoc, arith}
use Rattle.std.proofs.lemmas.List.{append-nil}
use Rattle.pl_types.specs.declared.ty.Ty.{Ty}
use Rattle.pl_types.specs.Classes.{full_name}
use Rattle.pl_types.specs.Names.{class_of_full}
use Rattle.pl_code.specs.declared.code.Trap.{Trap}
use Rattle.pl_code.specs.declared.code.FunCode.{FunCode}
use Rattle.source_meaning.specs.Tree.{Stmt, Do, If, While, DoWhile, Try, Block, Break, Continue, Return, Throw, Stmts, Finish, Then, Declare, Catches, NoCatch, Catch, Program}
use Rattle.code_meaning.specs.Machine.{Handlers, traps_at}
use Rattle.compiler_relation.specs.Representation.{Representation}
use Rattle.compiler_relation.specs.Parts.{default_code}
use Rattle.compiler_relation.specs.Stands.{Scope, all_fall, goes_on, end_all, end_expr, end_skip, end_dropped, jumps_over, end_update, end_test, end_last, end_value, end_returned, end_stmt, end_stmts, end_catches, end_tried, end_caught, next_stmt, next_stmts, handlers_of, traps_stmt, traps_stmts, traps_catches, Jumps, no_jumps, HasLocal, StmtAt, StmtsAt, CatchesAt, EndAt}
use Rattle.compiler_relation.specs.Placed.{untrapped, StmtIn, StmtsIn, CatchesIn, CatchesCover}
use Rattle.compiler_relation.proofs.Covers.Ends.{all_grow, expr_grows, skip_grows, update_grows, test_grows, last_test_grows, value_grows, returned_grows, stmt_grows, stmts_grow, catches_grow}
use Rattle.compiler_relation.proofs.Covers.Exprs.{one_placed, all_placed, expr_placed, skip_placed, dropped_placed, update_placed, test_placed, last_placed, value_placed, returned_placed}
use Rattle.compiler_relation.proofs.Covers.Misses.{joined, first_alone, second_alone, stmt_behind, stmts_before, stmts_behind, catches_before, passed_behind, AreKnown, tried}

-- Over the lines of a part stand its own traps, and then those of what is around it.
abbrev pub Covers : FunCode → Handlers → List Trap → ℕ → ℕ → Type 0
Covers f h traps lo hi = (line : ℕ) → lo ≤ line → line < hi → traps_at f.traps line ≡ traps_at traps line ++ h

-- with other traps over the line
alike : (f : FunCode) (h : Handlers) (xs : List Trap) (hs : Handlers) (line : ℕ) → traps_at f.traps line ≡ traps_at xs line ++ h → traps_at xs line ≡ hs → traps_at f.traps line ≡ hs ++ h
alike f h xs hs line covered same = covered ∙ ap (λ (own : Handlers). own ++ h) same

-- two parts over the line, of which the second are these
joined_with : (f : FunCode) (h : Handlers) (xs ys : List Trap) (hs : Handlers) (line : ℕ) → traps_at f.traps line ≡ traps_at (xs ++ ys) line ++ h → traps_at ys line ≡ hs → traps_at f.traps line ≡ traps_at xs line ++ (hs ++ h)
joined_with f h xs ys hs line covered same =
    alike f h (xs ++ ys) (traps_at xs line ++ hs) line covered (joined xs ys line ∙ ap (λ (others : Handlers). traps_at xs line ++ others) same)
    ∙ append_assoc (traps_at xs line) hs h

has_local : (f : FunCode) (n : ℕ) (of : Ty) → HasLocal (untrapped f) n of → HasLocal f n of
has_local f n of x = record { is = x.is }

known_classes : (funs : Program) (f : FunCode) (k : Representation) (g : Scope) (n : ℕ) (j : Jumps) (to p : ℕ) (cs : Catches) → CatchesIn funs f k g n j to p cs → AreKnown cs
known_classes funs f k g n j to p NoCatch x = tt
known_classes funs f k g n j to p (Catch class name body rest) x = (x.0, known_classes funs f k g (next_stmts (suc n) body) j to (end_caught p body rest) rest x.5)

module _ (named : (class : ℕ) → class < 57 → class_of_full (full_name class) ≡ Some class) (funs : Program) (f : FunCode) (k : Representation) where
  mutual
    pub stmt_placed : (h : Handlers) (g : Scope) (n : ℕ) (j : Jumps) (p : ℕ) (t : Stmt) → Covers f h (traps_stmt p t) p (end_stmt p t)
        → StmtIn funs (untrapped f) k g n j p t → StmtAt funs f h k g n j p t
    stmt_placed h g n j p (Do a) covers x = dropped_placed funs f h p (end_dropped p a) covers g p a (omega arith) (omega arith) x
    stmt_placed h g n j p (If c a b) covers x =
        let first = suc (end_expr p c) in
        let behind = end_stmts (suc (end_expr p c)) a in
        let second = end_skip (all_fall a) (end_stmts (suc (end_expr p c)) a) in
        let end = end_stmts (end_skip (all_fall a) (end_stmts (suc (end_expr p c)) a)) b in
        let c-grows = expr_grows p c in
        let a-grows = stmts_grow (suc (end_expr p c)) a in
        let skips = skip_grows (all_fall a) (end_stmts (suc (end_expr p c)) a) in
        let b-grows = stmts_grow (end_skip (all_fall a) (end_stmts (suc (end_expr p c)) a)) b in
        let own = traps_stmts first a ++ traps_stmts second b in
        let head : (line : ℕ) → p ≤ line → line < first → traps_at f.traps line ≡ h =
        λ line low high. alike f h own [] line (covers line low (omega arith)) (second_alone (traps_stmts first a) (traps_stmts second b) line (stmts_before first a line high) ∙ stmts_before second b line (omega arith)) in
        let skip : (line : ℕ) → behind ≤ line → line < second → traps_at f.traps line ≡ h =
        λ line low high. alike f h own [] line (covers line (omega arith) (omega arith)) (second_alone (traps_stmts first a) (traps_stmts second b) line (stmts_behind first a line low) ∙ stmts_before second b line high) in (
          expr_placed funs f h p first head g p c (omega arith) (omega arith) x.0,
          x.1,
          one_placed funs f h p first head (end_expr p c) _ (omega arith) (omega arith) x.2,
          stmts_placed h g n j first a (λ line low high. alike f h own (traps_at (traps_stmts first a) line) line (covers line (omega arith) (omega arith)) (first_alone (traps_stmts first a) (traps_stmts second b) line (stmts_before second b line (omega arith)))) x.3,
          skip_placed funs f h behind second skip (all_fall a) behind end (omega arith) (omega arith) x.4,
          stmts_placed h g (next_stmts n a) j second b (λ line low high. alike f h own (traps_at (traps_stmts second b) line) line (covers line (omega arith) high) (second_alone (traps_stmts first a) (traps_stmts second b) line (stmts_behind first a line (omega arith)))) x.5,
        )
    stmt_placed h g n j p (While test update body) covers x =
        let behind = end_stmts (suc p) body in
        let asks = end_update (goes_on body) (end_stmts (suc p) body) update in
        let end = suc (end_test (end_update (goes_on body) (end_stmts (suc p) body) update) test) in
        let body-grows = stmts_grow (suc p) body in
        let update-grows = update_grows (goes_on body) (end_stmts (suc p) body) update in
        let test-grows = test_grows (end_update (goes_on body) (end_stmts (suc p) body) update) test in
        let head : (line : ℕ) → p ≤ line → line < suc p → traps_at f.traps line ≡ h =
        λ line low high. alike f h (traps_stmts (suc p) body) [] line (covers line low (omega arith)) (stmts_before (suc p) body line high) in
        let tail : (line : ℕ) → behind ≤ line → line < end → traps_at f.traps line ≡ h =
        λ line low high. alike f h (traps_stmts (suc p) body) [] line (covers line (omega arith) high) (stmts_behind (suc p) body line low) in (
          one_placed funs f h p (suc p) head p _ (omega arith) (omega arith) x.0,
          stmts_placed h g n _ (suc p) body (λ line low high. covers line (omega arith) (omega arith)) x.1,
          update_placed funs f h behind end tail g (goes_on body) behind update (omega arith) (omega arith) x.2,
          test_placed funs f h behind end tail g asks test (omega arith) (omega arith) x.3,
          one_placed funs f h behind end tail (end_test asks test) _ (omega arith) (omega arith) x.4,
        )
    stmt_placed h g n j p (DoWhile body test) covers x =
        let behind = end_stmts (suc p) body in
        let again = end_last (goes_on body) (end_stmts (suc p) body) test in
        let end = suc (suc (end_last (goes_on body) (end_stmts (suc p) body) test)) in
        let body-grows = stmts_grow (suc p) body in
        let test-grows = last_test_grows (goes_on body) (end_stmts (suc p) body) test in
        let head : (line : ℕ) → p ≤ line → line < suc p → traps_at f.traps line ≡ h =
        λ line low high. alike f h (traps_stmts (suc p) body) [] line (covers line low (omega arith)) (stmts_before (suc p) body line high) in
        let tail : (line : ℕ) → behind ≤ line → line < end → traps_at f.traps line ≡ h =
        λ line low high. alike f h (traps_stmts (suc p) body) [] line (covers line (omega arith) high) (stmts_behind (suc p) body line low) in (
          one_placed funs f h p (suc p) head p _ (omega arith) (omega arith) x.0,
          stmts_placed h g n _ (suc p) body (λ line low high. covers line (omega arith) (omega arith)) x.1,
          last_placed funs f h behind end tail g (goes_on body) behind test end (omega arith) (omega arith) x.2,
          one_placed funs f h behind end tail again _ (omega arith) (omega arith) x.3,
          one_placed funs f h behind end tail (suc again) _ (omega arith) (omega arith) x.4,
        )
    stmt_placed h g n j p (Try body catches) covers x =
        let behind = end_stmts p body in
        let later = end_tried p body in
        let end = end_catches (end_tried p body) catches in
        let body-grows = stmts_grow p body in
        let skips = skip_grows (all_fall body) (end_stmts p body) in
        let catches-grow = catches_grow (end_tried p body) catches in
        let inner = traps_stmts p body in
        let outer = traps_catches p later later catches in
        let hs = handlers_of later catches in
        let known = known_classes funs (untrapped f) k g (next_stmts n body) j end later catches x.2 in
        let block : Covers f (hs ++ h) inner p later =
        λ line low high. joined_with f h inner outer hs line (covers line low (omega arith)) (tried named p later later catches line known low high (omega arith)) in (
          stmts_placed (hs ++ h) g n j p body (λ line low high. block line low (omega arith)) x.0,
          skip_placed funs f (hs ++ h) behind later (λ line low high. alike f (hs ++ h) inner [] line (block line (omega arith) high) (stmts_behind p body line low)) (all_fall body) behind end (omega arith) (omega arith) x.1,
          catches_placed h g (next_stmts n body) j end p later later catches (omega arith) (omega arith)
              (λ line low high. alike f h (inner ++ outer) (traps_at outer line) line (covers line (omega arith) high) (second_alone inner outer line (stmts_behind p body line (omega arith)))) x.2,
        )
    stmt_placed h g n j p (Block body) covers x = stmts_placed h g n j p body covers x
    stmt_placed h g n j p Break covers x = one_placed funs f h p (suc p) covers p _ (omega arith) (omega arith) x
    stmt_placed h g n j p Continue covers x = one_placed funs f h p (suc p) covers p _ (omega arith) (omega arith) x
    stmt_placed h g n j p (Return value) covers x =
        let grows = returned_grows p value in (
          returned_placed funs f h p (suc (end_returned p value)) covers g k p value (omega arith) (omega arith) x.0,
          one_placed funs f h p (suc (end_returned p value)) covers (end_returned p value) _ (omega arith) (omega arith) x.1,
        )
    stmt_placed h g n j p (Throw value) covers x =
        let grows = expr_grows p value in (
          expr_placed funs f h p (suc (end_expr p value)) covers g p value (omega arith) (omega arith) x.0,
          x.1,
          one_placed funs f h p (suc (end_expr p value)) covers (end_expr p value) _ (omega arith) (omega arith) x.2,
        )

    pub stmts_placed : (h : Handlers) (g : Scope) (n : ℕ) (j : Jumps) (p : ℕ) (ts : Stmts) → Covers f h (traps_stmts p ts) p (end_stmts p ts)
        → StmtsIn funs (untrapped f) k g n j p ts → StmtsAt funs f h k g n j p ts
    stmts_placed h g n j p Finish covers x = tt
    stmts_placed h g n j p (Then t rest) covers x =
        let q = end_stmt p t in
        let t-grows = stmt_grows p t in
        let rest-grows = stmts_grow (end_stmt p t) rest in
        let own = traps_stmt p t ++ traps_stmts q rest in (
          stmt_placed h g n j p t (λ line low high. alike f h own (traps_at (traps_stmt p t) line) line (covers line low (omega arith)) (first_alone (traps_stmt p t) (traps_stmts q rest) line (stmts_before q rest line high))) x.0,
          stmts_placed h g (next_stmt n t) j q rest (λ line low high. alike f h own (traps_at (traps_stmts q rest) line) line (covers line (omega arith) high) (second_alone (traps_stmt p t) (traps_stmts q rest) line (stmt_behind p t line low))) x.1,
        )
    stmts_placed h g n j p (Declare name of value rest) covers x =
        let q = suc (end_value p value of) in
        let value-grows = value_grows p value of in
        let rest-grows = stmts_grow (suc (end_value p value of)) rest in
        let head : (line : ℕ) → p ≤ line → line < q → traps_at f.traps line ≡ h =
        λ line low high. alike f h (traps_stmts q rest) [] line (covers line low (omega arith)) (stmts_before q rest line high) in (
          value_placed funs f h p q head g p value of (omega arith) (omega arith) x.0,
          x.1,
          has_local f n of x.2,
          one_placed funs f h p q head (end_value p value of) _ (omega arith) (omega arith) x.3,
          stmts_placed h _ (suc n) j q rest (λ line low high. covers line (omega arith) high) x.4,
        )

    -- `from` and `past` are the lines of the block and behind it
    pub catches_placed : (h : Handlers) (g : Scope) (n : ℕ) (j : Jumps) (to from past p : ℕ) (cs : Catches) → from ≤ past → past ≤ p → Covers f h (traps_catches from past p cs) p (end_catches p cs)
        → CatchesIn funs (untrapped f) k g n j to p cs → CatchesAt funs f h k g n j to p cs
    catches_placed h g n j to from past p NoCatch less less' covers x = tt
    catches_placed h g n j to from past p (Catch class name body rest) less less' covers x =
        let behind = end_stmts (suc p) body in
        let later = end_caught p body rest in
        let body-grows = stmts_grow (suc p) body in
        let skips = skip_grows (jumps_over body rest) (end_stmts (suc p) body) in
        let rest-grows = catches_grow (end_caught p body rest) rest in
        let inner = traps_stmts (suc p) body in
        let others = traps_catches from past later rest in
        let beyond : Covers f h (inner ++ others) p (end_catches later rest) =
        λ line low high. alike f h (traps_catches from past p (Catch class name body rest)) (traps_at (inner ++ others) line) line (covers line low high) (passed_behind from past p class (inner ++ others) line (omega arith)) in
        let head : (line : ℕ) → p ≤ line → line < suc p → traps_at f.traps line ≡ h =
        λ line low high. alike f h (inner ++ others) [] line (beyond line low (omega arith)) (second_alone inner others line (stmts_before (suc p) body line high) ∙ catches_before from past later rest line (omega arith) (omega arith)) in
        let skip : (line : ℕ) → behind ≤ line → line < later → traps_at f.traps line ≡ h =
        λ line low high. alike f h (inner ++ others) [] line (beyond line (omega arith) (omega arith)) (second_alone inner others line (stmts_behind (suc p) body line low) ∙ catches_before from past later rest line (omega arith) high) in (
          has_local f n _ x.1,
          one_placed funs f h p (suc p) head p _ (omega arith) (omega arith) x.2,
          stmts_placed h _ (suc n) j (suc p) body
              (λ line low high. alike f h (inner ++ others) (traps_at inner line) line (beyond line (omega arith) (omega arith)) (first_alone inner others line (catches_before from past later rest line (omega arith) (omega arith)))) x.3,
          skip_placed funs f h behind later skip (jumps_over body rest) behind to (omega arith) (omega arith) x.4,
          catches_placed h g (next_stmts (suc n) body) j to from past later rest less (omega arith)
              (λ line low high. alike f h (inner ++ others) (traps_at others line) line (beyond line (omega arith) high) (second_alone inner others line (stmts_behind (suc p) body line (omega arith)))) x.5,
        )

  -- where a function's code ends, no trap line is over it
  end_placed : (falls : Bool) (p : ℕ) (of : Ty) → ((line : ℕ) → p ≤ line → traps_at f.traps line ≡ []) → EndAt (untrapped f) falls p of → EndAt f falls p of
  end_placed false p of none x = tt
  end_placed true p of none x =
      let grows = all_grow p (default_code of) in
      let hi = suc (end_all p (default_code of)) in
      let over : (line : ℕ) → p ≤ line → line < hi → traps_at f.traps line ≡ [] = λ line low high. none line low in (
        all_placed funs f [] p hi over p (default_code of) (omega arith) (omega arith) x.0,
        one_placed funs f [] p hi over (end_all p (default_code of)) _ (omega arith) (omega arith) x.1,
      )

  pub body_placed : (g : Scope) (n : ℕ) (body : Stmts) (of : Ty) → f.traps ≡ traps_stmts 0 body
      → StmtsIn funs (untrapped f) k g n no_jumps 0 body → EndAt (untrapped f) (all_fall body) (end_stmts 0 body) of
      → StmtsAt funs f [] k g n no_jumps 0 body × EndAt f (all_fall body) (end_stmts 0 body) of
  body_placed g n body of same x y =
      let over : (line : ℕ) → traps_at f.traps line ≡ traps_at (traps_stmts 0 body) line = λ line. ap (λ (traps : List Trap). traps_at traps line) same in (
        stmts_placed [] g n no_jumps 0 body (λ line low high. over line ∙ sym (append-nil (traps_at (traps_stmts 0 body) line))) x,
        end_placed (all_fall body) (end_stmts 0 body) of (λ line low. over line ∙ stmts_behind 0 body line low) y,
      )

pub catches_cover : ((class : ℕ) → class < 57 → class_of_full (full_name class) ≡ Some class) → CatchesCover
catches_cover named funs f k g n body of same x y = body_placed named funs f k g n body of same x y
