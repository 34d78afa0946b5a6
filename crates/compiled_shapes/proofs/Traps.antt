-- The traps of a part: each is in order, and what was thrown lies where it goes on.
use Rattle.std.proofs.Common.{◌≡◌, ℕ, suc, ◌+◌, ◌<◌, ◌≤◌, Bool, true, false, ◌&&◌, List, [], ◌∷◌, ◌++◌, Some, is_some, refl, ap, ◌∙◌, arith, le_refl, zero, subst, sym}
use Rattle.std.specs.Prelude.{slice_get}
use Rattle.std.proofs.lemmas.Bool.{false≢true}
use Rattle.pl_types.specs.declared.ty.Ty.{Ty}
use Rattle.pl_types.specs.declared.ty.Ty.TheVariants as t
use Rattle.pl_code.specs.declared.kinds.Slot.{Slot}
use Rattle.pl_code.specs.declared.kinds.Slot.TheVariants.{R}
use Rattle.pl_code.specs.declared.code.FunCode.{FunCode}
use Rattle.pl_code.specs.declared.code.Trap.{Trap}
use Rattle.allowlist.specs.Allow.{AllowList}
use Rattle.instruction_types.specs.Types.{catalogue_class}
use Rattle.program_typing.specs.Falls.{falls, all_fall}
use Rattle.program_typing.specs.Tree.{Maybe, Missing, Given, Stmt, Do, If, While, DoWhile, Try, Block, Break, Continue, Return, Throw, Stmts, Finish, Then, Declare, Catches, NoCatch, Catch}
use Rattle.compiler_relation.specs.Stands.{end_expr, end_skip, end_value, end_returned, end_tried, end_caught, jumps_over, end_stmt, end_stmts, traps_stmt, traps_stmts, traps_catches}
use Rattle.program_typing.specs.Agreeing.{Known, Scope, StmtAgrees, StmtsAgree, CatchesAgree}
use Rattle.compiled_shapes.proofs.Lines.{grows, Has, Have, first, rest, cut}
use Rattle.compiled_shapes.proofs.Parts.{stmt_kinds, stmts_kinds, catches_kinds, expr_ends, skip_ends, value_ends, stmt_ends, stmts_ends, catches_ends}
use Rattle.compiled_shapes.proofs.Named.{named_in_catalogue}

-- ---- a function's traps

pub record IsTrap (f : FunCode) (trap : Trap) : Type 0 where
  pub number : ℕ
  pub is : slice_get f.traps number ≡ Some trap

abbrev pub AreTraps : FunCode → List Trap → Type 0
AreTraps f [] = Unit {0}
AreTraps f (trap ∷ traps) = IsTrap f trap × AreTraps f traps

pub some_traps : (f : FunCode) (xs ys : List Trap) → AreTraps f (xs ++ ys) → AreTraps f xs × AreTraps f ys
some_traps f [] ys are = (tt, are)
some_traps f (trap ∷ xs) ys are = let more = some_traps f xs ys are.1 in ((are.0, more.0), more.1)

own_from : (f : FunCode) (n : ℕ) (traps : List Trap) → ((j : ℕ) → slice_get f.traps (j + n) ≡ slice_get traps j) → AreTraps f traps
own_from f n [] same = tt
own_from f n (trap ∷ traps) same =
    let later : (j : ℕ) → j + suc n ≡ suc j + n = λ j. omega arith in
    (record { number = 0 + n; is = same 0 }, own_from f (suc n) traps (λ j. ap (slice_get f.traps) (later j) ∙ same (suc j)))

pub own_traps : (f : FunCode) (traps : List Trap) → f.traps ≡ traps → AreTraps f traps
own_traps f traps is = let e : (j : ℕ) → j + 0 ≡ j = λ j. omega arith in own_from f 0 traps (λ j. ap (slice_get f.traps) (e j) ∙ ap (λ traps. slice_get traps j) is)

-- ---- traps in order

-- A trap is over lines before the one where it goes on, what was thrown lies there, and its class is one of the catalogue.
pub record TrapFits (shapes : List (List Slot)) (trap : Trap) : Type 0 where
  pub forward : trap.from < trap.to
  pub before : trap.to ≤ trap.at
  pub has : Has shapes trap.at (R ∷ [])
  pub class : is_some (catalogue_class trap.class) ≡ true

abbrev pub TrapsFit : List (List Slot) → List Trap → Type 0
TrapsFit shapes [] = Unit {0}
TrapsFit shapes (trap ∷ traps) = TrapFits shapes trap × TrapsFit shapes traps

both : (shapes : List (List Slot)) (xs ys : List Trap) → TrapsFit shapes xs → TrapsFit shapes ys → TrapsFit shapes (xs ++ ys)
both shapes [] ys x y = y
both shapes (trap ∷ xs) ys x y = (x.0, both shapes xs ys x.1 y)

pub trap_fits : (shapes : List (List Slot)) (traps : List Trap) (k : ℕ) (trap : Trap) → TrapsFit shapes traps → slice_get traps k ≡ Some trap → TrapFits shapes trap
trap_fits shapes [] k trap fit is = cc
trap_fits shapes (one ∷ traps) zero trap fit is = let same : one ≡ trap = cc in subst (TrapFits shapes) same fit.0
trap_fits shapes (one ∷ traps) (suc k) trap fit is = trap_fits shapes traps k trap fit.1 is

true_is_false : true ≡ false → ⊥
true_is_false e = false≢true (sym e)

then_line : (p q r : ℕ) (a b : Bool) → p ≤ q → q ≤ r → (a && b) ≡ false → (a ≡ false → p < q) → (b ≡ false → q < r) → p < r
then_line p q r false b x y e one other = let z = one refl in omega (arith, z, y)
then_line p q r true b x y e one other = let z = other e in omega (arith, x, z)

skip_line : (p q : ℕ) (b : Bool) → p ≤ q → (b ≡ false → p < q) → p < end_skip b q
skip_line p q true x one = omega (arith, x)
skip_line p q false x one = one refl

module _ (allow : AllowList) (functions : List FunCode) (f : FunCode) where
  -- ---- what does not fall has a line

  returned_line : (p : ℕ) (value : Maybe) → p < suc (end_returned p value)
  returned_line p Missing = omega arith
  returned_line p (Given a) = let longer = grows (expr_ends allow functions f p [] a) in omega (arith, longer)

  mutual
    stmt_line : (p : ℕ) (t : Stmt) → falls t ≡ false → p < end_stmt p t
    stmt_line p (Do a) e = absurd (true_is_false e)
    stmt_line p (If c a b) e =
        let q = suc (end_expr p c) in
        let r = end_stmts q a in
        let tests = grows (expr_ends allow functions f p [] c) in
        let first_branch = grows (stmts_ends allow functions f q a) in
        let over = grows (skip_ends allow functions f (all_fall a) r) in
        let second_branch = grows (stmts_ends allow functions f (end_skip (all_fall a) r) b) in
        omega (arith, tests, first_branch, over, second_branch)
    stmt_line p (While test update body) e = absurd (true_is_false e)
    stmt_line p (DoWhile body test) e = absurd (true_is_false e)
    stmt_line p (Try body catches) e =
        let one = skip_line p (end_stmts p body) (all_fall body) (grows (stmts_ends allow functions f p body)) (stmts_line p body) in
        let longer = grows (catches_ends allow functions f (end_tried p body) catches) in
        omega (arith, one, longer)
    stmt_line p (Block body) e = stmts_line p body e
    stmt_line p Break e = omega arith
    stmt_line p Continue e = omega arith
    stmt_line p (Return value) e = returned_line p value
    stmt_line p (Throw value) e = let longer = grows (expr_ends allow functions f p [] value) in omega (arith, longer)

    stmts_line : (p : ℕ) (t : Stmts) → all_fall t ≡ false → p < end_stmts p t
    stmts_line p Finish e = absurd (true_is_false e)
    stmts_line p (Then t others) e =
        let begin = grows (stmt_ends allow functions f p t) in
        let longer = grows (stmts_ends allow functions f (end_stmt p t) others) in
        then_line p (end_stmt p t) (end_stmts (end_stmt p t) others) (falls t) (all_fall others) begin longer e (stmt_line p t) (stmts_line (end_stmt p t) others)
    stmts_line p (Declare x of value others) e =
        let begin = grows (value_ends allow functions f p value of) in
        let longer = grows (stmts_ends allow functions f (suc (end_value p value of)) others) in
        omega (arith, begin, longer)

  -- the block of a `try` has one, or the jump behind it
  tried_line : (p : ℕ) (body : Stmts) → p < end_tried p body
  tried_line p body = skip_line p (end_stmts p body) (all_fall body) (grows (stmts_ends allow functions f p body)) (stmts_line p body)

  -- ---- the traps of a part

  module _ (shapes : List (List Slot)) (funs : Known) (of : Ty) where
    mutual
      stmt_traps : (t : Stmt) (looped : Bool) (g : Scope) (p : ℕ) → StmtAgrees funs of looped g t → Have shapes p (stmt_kinds allow functions f t) → TrapsFit shapes (traps_stmt p t)
      stmt_traps (Do a) looped g p agrees have = tt
      stmt_traps (If test a b) looped g p agrees have =
          let p1 = suc (end_expr p test) in
          let p2 = end_stmts p1 a in
          let q = end_skip (all_fall a) p2 in
          let c = cut (expr_ends allow functions f p [] test) have in
          let d = cut (stmts_ends allow functions f p1 a) (rest c.1) in
          let s = cut (skip_ends allow functions f (all_fall a) p2) d.1 in
          both shapes (traps_stmts p1 a) (traps_stmts q b) (stmts_traps a looped g p1 agrees.2 d.0) (stmts_traps b looped g q agrees.3 s.1)
      stmt_traps (While test update body) looped g p agrees have = let c = cut (stmts_ends allow functions f (suc p) body) (rest have) in stmts_traps body true g (suc p) agrees.2 c.0
      stmt_traps (DoWhile body test) looped g p agrees have = let c = cut (stmts_ends allow functions f (suc p) body) (rest have) in stmts_traps body true g (suc p) agrees.0 c.0
      stmt_traps (Try body catches) looped g p agrees have =
          let p1 = end_stmts p body in
          let q = end_skip (all_fall body) p1 in
          let c = cut (stmts_ends allow functions f p body) have in
          let s = cut (skip_ends allow functions f (all_fall body) p1) c.1 in
          both shapes (traps_stmts p body) (traps_catches p q q catches) (stmts_traps body looped g p agrees.0 c.0) (catches_traps catches looped g p q q agrees.1 (tried_line p body) (le_refl q) s.1)
      stmt_traps (Block body) looped g p agrees have = stmts_traps body looped g p agrees have
      stmt_traps Break looped g p agrees have = tt
      stmt_traps Continue looped g p agrees have = tt
      stmt_traps (Return value) looped g p agrees have = tt
      stmt_traps (Throw value) looped g p agrees have = tt

      pub stmts_traps : (t : Stmts) (looped : Bool) (g : Scope) (p : ℕ) → StmtsAgree funs of looped g t → Have shapes p (stmts_kinds allow functions f t) → TrapsFit shapes (traps_stmts p t)
      stmts_traps Finish looped g p agrees have = tt
      stmts_traps (Then t others) looped g p agrees have =
          let q = end_stmt p t in
          let c = cut (stmt_ends allow functions f p t) have in
          both shapes (traps_stmt p t) (traps_stmts q others) (stmt_traps t looped g p agrees.0 c.0) (stmts_traps others looped g q agrees.1 c.1)
      stmts_traps (Declare x at value others) looped g p agrees have =
          let c = cut (value_ends allow functions f p value at) have in
          stmts_traps others looped (record { name = x; of = at } ∷ g) (suc (end_value p value at)) agrees.2 (rest c.1)

      catches_traps : (catches : Catches) (looped : Bool) (g : Scope) (from until p : ℕ) → CatchesAgree funs of looped g catches → from < until → until ≤ p → Have shapes p (catches_kinds allow functions f catches) → TrapsFit shapes (traps_catches from until p catches)
      catches_traps NoCatch looped g from until p agrees some less have = tt
      catches_traps (Catch class x body others) looped g from until p agrees some less have =
          let p1 = end_stmts (suc p) body in
          let q = end_caught p body others in
          let c = cut (stmts_ends allow functions f (suc p) body) (rest have) in
          let s = cut (skip_ends allow functions f (jumps_over body others) p1) c.1 in
          let longer = grows (stmts_ends allow functions f (suc p) body) in
          let over = grows (skip_ends allow functions f (jumps_over body others) p1) in (
            record { forward = some; before = less; has = first have; class = named_in_catalogue class agrees.0 },
            both shapes (traps_stmts (suc p) body) (traps_catches from until q others) (stmts_traps body looped (record { name = x; of = t.Class class } ∷ g) (suc p) agrees.1 c.0)
                (catches_traps others looped g from until q agrees.2 some (omega (arith, less, longer, over)) s.1),
          )
