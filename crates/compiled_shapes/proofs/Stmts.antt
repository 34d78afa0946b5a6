-- Statements: what leads from line to line of their code.
use Rattle.std.proofs.Common.{◌≡◌, ℕ, suc, ◌≤◌, Bool, true, false, ◌||◌, ◌&&◌, List, [], ◌∷◌, ◌++◌, length, refl, sym, ap, ◌∙◌, arith, pos, le_refl, le_trans}
use Rattle.std.proofs.lemmas.Bool.{false≢true, and_from, or_left, or_right}
use Rattle.pl_types.specs.declared.ty.Ty.{Ty, out-Ty}
use Rattle.pl_types.specs.declared.ty.Ty.TheVariants as t
use Rattle.pl_types.specs.declared.primitive.Primitive.TheVariants as prim
use Rattle.pl_code.specs.declared.kinds.Slot.{Slot}
use Rattle.pl_code.specs.declared.kinds.Slot.TheVariants.{I, R}
use Rattle.pl_code.specs.declared.kinds.Numbered.TheVariants as numbered
use Rattle.pl_code.specs.declared.code.Instruction.TheVariants as i
use Rattle.pl_code.specs.declared.code.FunCode.{FunCode}
use Rattle.allowlist.specs.Allow.{AllowList}
use Rattle.instruction_types.specs.Effects.{result_kinds}
use Rattle.verifier.specs.Shaped.{Leads, catches}
use Rattle.compiler_relation.specs.Machine.{Handlers}
use Rattle.object_values.specs.declared.object.Owner.{Owner}
use Rattle.program_typing.specs.Falls.{falls, all_fall, any_falls, continues, any_continues, catches_continue}
use Rattle.program_typing.specs.Tree.{Name, Expr, Maybe, Missing, Given, Stmt, Do, If, While, DoWhile, Try, Block, Break, Continue, Return, Throw, Stmts, Finish, Then, Declare, Catches, NoCatch, Catch, Program, type_of}
use Rattle.compiler_relation.specs.Representation.{Representation, representation_of, result_of}
use Rattle.compiler_relation.specs.Parts.{default_code, pops}
use Rattle.compiler_relation.specs.Stands.{Scope, end_expr, goes_on, end_skip, end_dropped, end_update, end_test, end_last, end_value, end_stmt, end_stmts, end_catches, next_stmt, next_stmts, handlers_of, trap_of, traps_stmt, traps_stmts, traps_catches, Jumps, At, HasLocal, SkipAt, DroppedAt, UpdateAt, TestAt, LastAt, ValueAt, StmtAt, StmtsAt, CatchesAt, Compiled}
use Rattle.member_names.specs.Names.{TextsName}
use Rattle.program_typing.specs.Agreeing.{known, ExprAgrees, TestAgrees, UpdateAgrees, BeginAgrees, StmtAgrees, StmtsAgree, CatchesAgree, WellFormed}
use Rattle.program_typing.specs.Reached.{MayFollow, StmtReached, StmtsReached, CatchesReached}
use Rattle.compiled_shapes.proofs.Lines.{grows, Has, Have, first, rest, cut}
use Rattle.compiled_shapes.proofs.Runs.{Fine, fine_none, fine_one, join, Ran, Runs, then_, step, straight, goto, branch, if_zero, loop, turned, ret, throws}
use Rattle.compiled_shapes.proofs.Parts.{push, skip_kinds, dropped_kinds, update_kinds, test_kinds, last_kinds, value_kinds, stmt_kinds, stmts_kinds, catches_kinds, expr_ends, skip_ends, update_ends, test_ends, last_ends, value_ends, stmt_ends, stmts_ends, catches_ends}
use Rattle.compiled_shapes.proofs.Steps.{push_is, push_reference, int_passes, default_straight, pops_straight, store_passes, class_values, catch_passes}
use Rattle.compiled_shapes.proofs.Scopes.{names, HaveLocals}
use Rattle.compiled_shapes.proofs.Exprs.{left_as, expr_fits}
use Rattle.compiled_shapes.proofs.Traps.{IsTrap, AreTraps, some_traps}

or_take : {A : Type 0} (a b : Bool) → (a || b) ≡ true → (a ≡ true → A) → (b ≡ true → A) → A
or_take true b e f g = f refl
or_take false b e f g = g e

and_first : (a b : Bool) → (a && b) ≡ true → a ≡ true
and_first true b e = refl
and_first false b e = absurd (false≢true e)

and_second : (a b : Bool) → (a && b) ≡ true → b ≡ true
and_second true b e = e
and_second false b e = absurd (false≢true e)

no : {A : Type 0} → false ≡ true → A
no e = absurd (false≢true e)

push_void : (s : List Slot) → push t.Void s ≡ s
unfolding out-Ty denote.Hole.Carrier.out
push_void s = refl

-- Where jumps go nothing lies, and that is not before a line.
pub record Aims (shapes : List (List Slot)) (j : Jumps) (q : ℕ) : Type 0 where
  pub out : Has shapes j.out []
  pub on : Has shapes j.on []
  pub before_out : q ≤ j.out
  pub before_on : q ≤ j.on

nearer : {shapes : List (List Slot)} {j : Jumps} {q r : ℕ} → q ≤ r → Aims shapes j r → Aims shapes j q
nearer {shapes} {j} {q} {r} less a = let x = a.before_out in let y = a.before_on in record { out = a.out; on = a.on; before_out = omega (arith, less, x); before_on = omega (arith, less, y) }

module _ (allow : AllowList) (functions : List FunCode) (f : FunCode) (shapes : List (List Slot)) where
  -- From a line on, up to another, which is led to where the statement falls, as `continue` leads to where it goes.
  pub record Left (p q : ℕ) (falling continuing : Bool) (on : ℕ) : Type 0 where
    pub fine : Fine allow functions f shapes p q
    pub falls : falling ≡ true → Leads allow functions f shapes q []
    pub continues : continuing ≡ true → Leads allow functions f shapes on []

  pub record Does (p q : ℕ) (falling continuing : Bool) (on : ℕ) : Type 0 where
    pub has : Has shapes p []
    pub runs : Leads allow functions f shapes p [] → Left p q falling continuing on

  -- what is run to its end
  falling : {p q on : ℕ} → Runs allow functions f shapes p [] q [] → Does p q true false on
  falling r = record { has = r.has; runs = λ led. let x = r.runs led in record { fine = x.fine; falls = λ e. x.led; continues = λ e. no e } }

module _ {text : Owner} (texts : TextsName) (allow : AllowList) (funs : Program) (functions : List FunCode) (formed : WellFormed (known allow funs)) (made : Compiled text funs functions) (f : FunCode) (shapes : List (List Slot)) (many : length shapes ≡ length f.lines)
    (k : Representation) (of : Ty) (result : f.result ≡ result_of of) where
  abbrev pub StmtFits : Stmt → Type 0
  StmtFits t =
      (h : Handlers) (looped : Bool) (g : Scope) (n : ℕ) (j : Jumps) (p : ℕ) → HaveLocals f g → StmtAgrees (known allow funs) of looped (names g) t → StmtReached t → StmtAt funs f h k g n j p t → AreTraps f (traps_stmt p t) → Have shapes p (stmt_kinds allow functions f t)
      → (looped ≡ true → Aims shapes j (end_stmt p t)) → (falls t ≡ true → Has shapes (end_stmt p t) []) → Does allow functions f shapes p (end_stmt p t) (falls t) (continues t) j.on

  abbrev pub StmtsFit : Stmts → Type 0
  StmtsFit t =
      (h : Handlers) (looped : Bool) (g : Scope) (n : ℕ) (j : Jumps) (p : ℕ) → HaveLocals f g → StmtsAgree (known allow funs) of looped (names g) t → StmtsReached t → StmtsAt funs f h k g n j p t → AreTraps f (traps_stmts p t) → Have shapes p (stmts_kinds allow functions f t)
      → (looped ≡ true → Aims shapes j (end_stmts p t)) → (all_fall t ≡ true → Has shapes (end_stmts p t) []) → Does allow functions f shapes p (end_stmts p t) (all_fall t) (any_continues t) j.on

  -- Catches are entered with what was thrown, each at its own line.
  abbrev pub CatchesFit : Catches → Type 0
  CatchesFit handlers =
      (h : Handlers) (looped : Bool) (g : Scope) (n : ℕ) (j : Jumps) (from until p : ℕ) → HaveLocals f g → CatchesAgree (known allow funs) of looped (names g) handlers → CatchesReached handlers → CatchesAt funs f h k g n j (end_catches p handlers) p handlers
      → AreTraps f (traps_catches from until p handlers) → Have shapes p (catches_kinds allow functions f handlers) → (looped ≡ true → Aims shapes j (end_catches p handlers)) → (any_falls handlers ≡ true → Has shapes (end_catches p handlers) [])
      → Left allow functions f shapes p (end_catches p handlers) (any_falls handlers) (catches_continue handlers) j.on

  -- ---- expressions in statements

  dropped_fits : (h : Handlers) (g : Scope) (a : Expr) (p : ℕ) → HaveLocals f g → ExprAgrees (known allow funs) (names g) a → DroppedAt funs f h g p a → Have shapes p (dropped_kinds allow functions f a) → Has shapes (end_dropped p a) [] → Runs allow functions f shapes p [] (end_dropped p a) []
  dropped_fits h g a p locals agrees stands have next =
      let c = cut (expr_ends allow functions f p [] a) have in
      then_ allow functions f shapes (straight allow functions f shapes h (pops (representation_of (type_of a))) (end_expr p a) (push (type_of a) []) [] stands.1 (pops_straight allow functions f (type_of a) []) c.1 next) (λ n.
      expr_fits texts allow funs functions formed made f shapes many g a h p [] locals agrees stands.0 c.0 n)

  test_fits : (h : Handlers) (g : Scope) (test : Maybe) (p : ℕ) → HaveLocals f g → TestAgrees (known allow funs) (names g) test → TestAt funs f h g p test → Have shapes p (test_kinds allow functions f test) → Has shapes (end_test p test) (I ∷ []) → Runs allow functions f shapes p [] (end_test p test) (I ∷ [])
  test_fits h g Missing p locals agrees stands have next = step allow functions f shapes stands (int_passes allow functions f (pos 1) []) (first have) next
  test_fits h g (Given a) p locals agrees stands have next =
      left_as texts allow funs functions formed made f shapes many (push_is (type_of a) prim.Boolean [] agrees.1) (expr_fits texts allow funs functions formed made f shapes many g a h p [] locals agrees.0 stands.0 have) next

  value_fits : (h : Handlers) (g : Scope) (value : Maybe) (at : Ty) (p : ℕ) → HaveLocals f g → BeginAgrees (known allow funs) (names g) value at → ValueAt funs f h g p value at → Have shapes p (value_kinds allow functions f value at) → Has shapes (end_value p value at) (push at []) → Runs allow functions f shapes p [] (end_value p value at) (push at [])
  value_fits h g Missing at p locals agrees stands have next = straight allow functions f shapes h (default_code at) p [] (push at []) stands (default_straight allow functions f at []) have next
  value_fits h g (Given a) at p locals agrees stands have next =
      left_as texts allow funs functions formed made f shapes many (ap (λ of. push of []) agrees.1) (expr_fits texts allow funs functions formed made f shapes many g a h p [] locals agrees.0 stands.0 have) next

  -- ---- statements

  do_fits : (a : Expr) → StmtFits (Do a)
  do_fits a h looped g n j p locals agrees reached stands caught have aims next = falling allow functions f shapes (dropped_fits h g a p locals agrees stands have (next refl))

  break_fits : StmtFits Break
  break_fits h looped g n j p locals agrees reached stands caught have aims next =
      let a = aims agrees in
      let less = a.before_out in
      record {
        has = first have;
        runs = λ led. let x = goto allow functions f shapes many stands (first have) a.out (omega (arith, less)) led in record { fine = fine_one allow functions f shapes x.0; falls = λ e. no e; continues = λ e. no e };
      }

  continue_fits : StmtFits Continue
  continue_fits h looped g n j p locals agrees reached stands caught have aims next =
      let a = aims agrees in
      let less = a.before_on in
      record {
        has = first have;
        runs = λ led. let x = goto allow functions f shapes many stands (first have) a.on (omega (arith, less)) led in record { fine = fine_one allow functions f shapes x.0; falls = λ e. no e; continues = λ e. x.1 };
      }

  return_fits : (value : Maybe) → StmtFits (Return value)
  return_fits Missing h looped g n j p locals agrees reached stands caught have aims next =
      let same : [] ≡ result_kinds f.result ++ [] = sym (ap (λ o. result_kinds o ++ []) result ∙ ap (λ of. push of []) agrees ∙ push_void []) in
      record {
        has = first have;
        runs = λ led. record { fine = fine_one allow functions f shapes (ret allow functions f shapes many stands.1 same (first have) led); falls = λ e. no e; continues = λ e. no e };
      }
  return_fits (Given a) h looped g n j p locals agrees reached stands caught have aims next =
      let c = cut (expr_ends allow functions f p [] a) have in
      let x = expr_fits texts allow funs functions formed made f shapes many g a h p [] locals agrees.0 stands.0.0 c.0 (first c.1) in
      let same : push (type_of a) [] ≡ result_kinds f.result ++ [] = ap (λ of. push of []) agrees.1 ∙ sym (ap (λ o. result_kinds o ++ []) result) in
      record {
        has = x.has;
        runs = λ led.
            let y = x.runs led in
            record { fine = join allow functions f shapes y.fine (fine_one allow functions f shapes (ret allow functions f shapes many stands.1 same (first c.1) y.led)); falls = λ e. no e; continues = λ e. no e };
      }

  throw_fits : (value : Expr) → StmtFits (Throw value)
  throw_fits value h looped g n j p locals agrees reached stands caught have aims next =
      let c = cut (expr_ends allow functions f p [] value) have in
      let x = left_as texts allow funs functions formed made f shapes many (push_reference (type_of value) [] agrees.1)
      (expr_fits texts allow funs functions formed made f shapes many g value h p [] locals agrees.0 stands.0 c.0) (first c.1) in
      record {
        has = x.has;
        runs = λ led.
            let y = x.runs led in
            record {
              fine = join allow functions f shapes y.fine (fine_one allow functions f shapes (throws allow functions f shapes many stands.2 (first c.1) y.led));
              falls = λ e. no e;
              continues = λ e. no e;
            };
      }

  block_fits : (body : Stmts) → StmtsFit body → StmtFits (Block body)
  block_fits body ih h looped g n j p locals agrees reached stands caught have aims next = ih h looped g n j p locals agrees reached stands caught have aims next

  -- the jump over the second branch
  skip_over : (h : Handlers) (b : Bool) (p to : ℕ) → SkipAt f h b p to → Have shapes p (skip_kinds allow functions f b) → (b ≡ true → Has shapes to []) → end_skip b p ≤ to → (b ≡ true → Leads allow functions f shapes p [])
      → Fine allow functions f shapes p (end_skip b p) × (b ≡ true → Leads allow functions f shapes to [])
  skip_over h true p to stands have next less led = let x = goto allow functions f shapes many stands (first have) (next refl) less (led refl) in (fine_one allow functions f shapes x.0, λ e. x.1)
  skip_over h false p to stands have next less led = (fine_none allow functions f shapes, λ e. no e)

  skip_has : (b : Bool) (p : ℕ) → Have shapes p (skip_kinds allow functions f b) → b ≡ true → Has shapes p []
  skip_has true p have e = first have
  skip_has false p have e = no e

  if_fits : (test : Expr) (a b : Stmts) → StmtsFit a → StmtsFit b → StmtFits (If test a b)
  if_fits test a b a_fits b_fits h looped g n j p locals agrees reached stands caught have aims next =
      let p1 = end_expr p test in
      let p2 = end_stmts (suc p1) a in
      let q = end_skip (all_fall a) p2 in
      let to = end_stmts q b in
      let c = cut (expr_ends allow functions f p [] test) have in
      let d = cut (stmts_ends allow functions f (suc p1) a) (rest c.1) in
      let s = cut (skip_ends allow functions f (all_fall a) p2) d.1 in
      let first_branch = grows (stmts_ends allow functions f (suc p1) a) in
      let over = grows (skip_ends allow functions f (all_fall a) p2) in
      let second_branch = grows (stmts_ends allow functions f q b) in
      let traps = some_traps f (traps_stmts (suc p1) a) (traps_stmts q b) caught in
      let no_fits = b_fits h looped g (next_stmts n a) j q locals agrees.3 reached.1 stands.5 traps.1 s.1 aims (λ e. next (or_right (all_fall a) (all_fall b) e)) in
      let yes_fits = a_fits h looped g n j (suc p1) locals agrees.2 reached.0 stands.3 traps.0 d.0 (λ e. nearer (le_trans over second_branch) (aims e)) (skip_has (all_fall a) p2 s.0) in
      let t = left_as texts allow funs functions formed made f shapes many (push_is (type_of test) prim.Boolean [] agrees.1) (expr_fits texts allow funs functions formed made f shapes many g test h p [] locals agrees.0 stands.0 c.0) (first c.1) in
      record {
        has = t.has;
        runs = λ led.
            let x = t.runs led in
            let tests = branch allow functions f shapes many stands.2 (if_zero allow functions f shapes many q []) (first c.1) yes_fits.has no_fits.has (omega (arith, first_branch, over)) x.led in
            let y = yes_fits.runs tests.1 in
            let z = no_fits.runs tests.2 in
            let skip = skip_over h (all_fall a) p2 to stands.4 s.0 (λ e. next (or_left (all_fall a) (all_fall b) e)) second_branch y.falls in
            record {
              fine = join allow functions f shapes x.fine (join allow functions f shapes (fine_one allow functions f shapes tests.0) (join allow functions f shapes y.fine (join allow functions f shapes skip.0 z.fine)));
              falls = λ e. or_take (all_fall a) (all_fall b) e skip.1 z.falls;
              continues = λ e. or_take (any_continues a) (any_continues b) e y.continues z.continues;
            };
      }

  -- ---- loops

  -- what is done behind a turn, which is reached where the turn goes on
  record Updates (b : Bool) (p q : ℕ) : Type 0 where
    has : Has shapes p []
    runs : (b ≡ true → Leads allow functions f shapes p []) → Fine allow functions f shapes p q

  update_fits : (h : Handlers) (b : Bool) (g : Scope) (update : Maybe) (p : ℕ) → HaveLocals f g → UpdateAgrees (known allow funs) (names g) update → UpdateAt funs f h g b p update → Have shapes p (update_kinds allow functions f b update) → Has shapes (end_update b p update) [] → Updates b p (end_update b p update)
  update_fits h false g update p locals agrees stands have next = record { has = next; runs = λ led. fine_none allow functions f shapes }
  update_fits h true g Missing p locals agrees stands have next = record { has = next; runs = λ led. fine_none allow functions f shapes }
  update_fits h true g (Given a) p locals agrees stands have next = let x = dropped_fits h g a p locals agrees stands have next in record { has = x.has; runs = λ led. (x.runs (led refl)).fine }

  while_fits : (test update : Maybe) (body : Stmts) → StmtsFit body → StmtFits (While test update body)
  while_fits test update body ih h looped g n j p locals agrees reached stands caught have aims next =
      let turn = end_stmts (suc p) body in
      let to = end_update (goes_on body) turn update in
      let last = end_test to test in
      let c = cut (stmts_ends allow functions f (suc p) body) (rest have) in
      let d = cut (update_ends allow functions f (goes_on body) turn update) c.1 in
      let e = cut (test_ends allow functions f to test) d.1 in
      let one = grows (stmts_ends allow functions f (suc p) body) in
      let two = grows (update_ends allow functions f (goes_on body) turn update) in
      let three = grows (test_ends allow functions f to test) in
      let out = next refl in
      let tests = test_fits h g test to locals agrees.0 stands.3 e.0 (first e.1) in
      let updates = update_fits h (goes_on body) g update turn locals agrees.1 stands.2 d.0 tests.has in
      let inner : Jumps = record { out = suc last; on = turn } in
      let inside : Aims shapes inner turn = record { out = out; on = updates.has; before_out = omega (arith, two, three); before_on = le_refl turn } in
      let turns = ih h true g n inner (suc p) locals agrees.2 reached stands.1 caught c.0 (λ e. inside) (λ e. updates.has) in
      let again = loop allow functions f shapes many stands.4 (first e.1) out turns.has (omega (arith, one, two, three)) in
      record {
        has = first have;
        runs = λ led.
            let begin = goto allow functions f shapes many stands.0 (first have) tests.has (omega (arith, one, two)) led in
            let x = tests.runs begin.1 in
            let y = again.runs x.led in
            let z = turns.runs (turned allow functions f shapes many stands.4) in
            let u = updates.runs (λ e. or_take (all_fall body) (any_continues body) e z.falls z.continues) in
            record {
              fine = join allow functions f shapes (fine_one allow functions f shapes begin.0) (join allow functions f shapes z.fine (join allow functions f shapes u (join allow functions f shapes x.fine y.fine)));
              falls = λ e. y.led;
              continues = λ e. no e;
            };
      }

  last_fits : (h : Handlers) (b : Bool) (g : Scope) (test : Maybe) (p out : ℕ) → HaveLocals f g → TestAgrees (known allow funs) (names g) test → LastAt funs f h g b p test out → Have shapes p (last_kinds allow functions f b test) → Has shapes (end_last b p test) [] → Has shapes out [] → end_last b p test ≤ out
      → Updates b p (end_last b p test)
  last_fits h false g test p out locals agrees stands have next aim less = record { has = next; runs = λ led. fine_none allow functions f shapes }
  last_fits h true g Missing p out locals agrees stands have next aim less = record { has = next; runs = λ led. fine_none allow functions f shapes }
  last_fits h true g (Given a) p out locals agrees stands have next aim less =
      let c = cut (expr_ends allow functions f p [] a) have in
      let t = left_as texts allow funs functions formed made f shapes many (push_is (type_of a) prim.Boolean [] agrees.1) (expr_fits texts allow funs functions formed made f shapes many g a h p [] locals agrees.0 stands.0 c.0) (first c.1) in
      record {
        has = t.has;
        runs = λ led.
            let x = t.runs (led refl) in
            let test = branch allow functions f shapes many stands.2 (if_zero allow functions f shapes many out []) (first c.1) next aim less x.led in
            join allow functions f shapes x.fine (fine_one allow functions f shapes test.0);
      }

  do_while_fits : (body : Stmts) (test : Maybe) → StmtsFit body → StmtFits (DoWhile body test)
  do_while_fits body test ih h looped g n j p locals agrees reached stands caught have aims next =
      let turn = end_stmts (suc p) body in
      let last = end_last (goes_on body) turn test in
      let c = cut (stmts_ends allow functions f (suc p) body) (rest have) in
      let d = cut (last_ends allow functions f (goes_on body) turn test) c.1 in
      let one = grows (stmts_ends allow functions f (suc p) body) in
      let two = grows (last_ends allow functions f (goes_on body) turn test) in
      let out = next refl in
      let inner : Jumps = record { out = suc (suc last); on = turn } in
      let tests = last_fits h (goes_on body) g test turn (suc (suc last)) locals agrees.1 stands.2 d.0 (first d.1) out (omega arith) in
      let inside : Aims shapes inner turn = record { out = out; on = tests.has; before_out = omega (arith, two); before_on = le_refl turn } in
      let turns = ih h true g n inner (suc p) locals agrees.0 reached stands.1 caught c.0 (λ e. inside) (λ e. tests.has) in
      let again = loop allow functions f shapes many stands.4 (first (rest d.1)) out turns.has (omega (arith, one, two)) in
      let always = step allow functions f shapes stands.3 (int_passes allow functions f (pos 1) []) (first d.1) again.has in
      record {
        has = first have;
        runs = λ led.
            let begin = goto allow functions f shapes many stands.0 (first have) (first d.1) (omega (arith, one, two)) led in
            let x = always.runs begin.1 in
            let y = again.runs x.led in
            let z = turns.runs (turned allow functions f shapes many stands.4) in
            let u = tests.runs (λ e. or_take (all_fall body) (any_continues body) e z.falls z.continues) in
            record {
              fine = join allow functions f shapes (fine_one allow functions f shapes begin.0) (join allow functions f shapes z.fine (join allow functions f shapes u (join allow functions f shapes x.fine y.fine)));
              falls = λ e. y.led;
              continues = λ e. no e;
            };
      }

  -- ---- catches

  -- a catch's line, which stores what was thrown
  caught_here : (h : Handlers) (class n from until p : ℕ) → HasLocal f n (t.Class class) → At f h p (i.Numbered numbered.Store n) → IsTrap f (trap_of from until p class) → Has shapes p (R ∷ []) → Has shapes (suc p) [] → Ran allow functions f shapes p (suc p) []
  caught_here h class n from until p local stands trap has next =
      let store = step allow functions f shapes stands (catch_passes allow functions f n class local) has next in
      store.runs (catches trap.number (trap_of from until p class) trap.is)

  last_catch : (class : ℕ) (x : Name) (body : Stmts) → StmtsFit body → CatchesFit (Catch class x body NoCatch)
  last_catch class x body ih h looped g n j from until p locals agrees reached stands caught have aims next =
      let c = cut (stmts_ends allow functions f (suc p) body) (rest have) in
      let traps = some_traps f (traps_stmts (suc p) body) [] caught.1 in
      let inside =
      ih h looped (record { name = x; of = t.Class class; local = n } ∷ g) (suc n) j (suc p) (record { has = stands.0; values = class_values class }, locals) agrees.1 reached.0 stands.2 traps.0 c.0 aims (λ e. next (or_left (all_fall body) false e)) in
      let begin = caught_here h class n from until p stands.0 stands.1 caught.0 (first have) inside.has in
      let y = inside.runs begin.led in
      record {
        fine = join allow functions f shapes begin.fine y.fine;
        falls = λ e. or_take (all_fall body) false e y.falls (λ e. no e);
        continues = λ e. or_take (any_continues body) false e y.continues (λ e. no e);
      }

  further_catch : (class : ℕ) (x : Name) (body : Stmts) (next_class : ℕ) (next_name : Name) (next_body : Stmts) (others : Catches) → StmtsFit body → CatchesFit (Catch next_class next_name next_body others) → CatchesFit (Catch class x body (Catch next_class next_name next_body others))
  further_catch class x body next_class next_name next_body others ih ihs h looped g n j from until p locals agrees reached stands caught have aims next =
      let later = Catch next_class next_name next_body others in
      let p1 = end_stmts (suc p) body in
      let q = end_skip (all_fall body) p1 in
      let to = end_catches q later in
      let c = cut (stmts_ends allow functions f (suc p) body) (rest have) in
      let s = cut (skip_ends allow functions f (all_fall body) p1) c.1 in
      let over = grows (skip_ends allow functions f (all_fall body) p1) in
      let longer = grows (catches_ends allow functions f q later) in
      let traps = some_traps f (traps_stmts (suc p) body) (traps_catches from until q later) caught.1 in
      let z = ihs h looped g (next_stmts (suc n) body) j from until q locals agrees.2 reached.1 stands.4 traps.1 s.1 aims (λ e. next (or_right (all_fall body) (any_falls later) e)) in
      let inside =
      ih h looped (record { name = x; of = t.Class class; local = n } ∷ g) (suc n) j (suc p) (record { has = stands.0; values = class_values class }, locals) agrees.1 reached.0 stands.2 traps.0 c.0 (λ e. nearer (le_trans over longer) (aims e))
      (skip_has (all_fall body) p1 s.0) in
      let begin = caught_here h class n from until p stands.0 stands.1 caught.0 (first have) inside.has in
      let y = inside.runs begin.led in
      let skip = skip_over h (all_fall body) p1 to stands.3 s.0 (λ e. next (or_left (all_fall body) (any_falls later) e)) longer y.falls in
      record {
        fine = join allow functions f shapes begin.fine (join allow functions f shapes y.fine (join allow functions f shapes skip.0 z.fine));
        falls = λ e. or_take (all_fall body) (any_falls later) e skip.1 z.falls;
        continues = λ e. or_take (any_continues body) (catches_continue later) e y.continues z.continues;
      }

  no_catch : CatchesFit NoCatch
  no_catch h looped g n j from until p locals agrees reached stands caught have aims next = record { fine = fine_none allow functions f shapes; falls = λ e. no e; continues = λ e. no e }

  try_fits : (body : Stmts) (handlers : Catches) → StmtsFit body → CatchesFit handlers → StmtFits (Try body handlers)
  try_fits body handlers ih ihs h looped g n j p locals agrees reached stands caught have aims next =
      let p1 = end_stmts p body in
      let q = end_skip (all_fall body) p1 in
      let to = end_catches q handlers in
      let inner = handlers_of q handlers ++ h in
      let c = cut (stmts_ends allow functions f p body) have in
      let s = cut (skip_ends allow functions f (all_fall body) p1) c.1 in
      let over = grows (skip_ends allow functions f (all_fall body) p1) in
      let longer = grows (catches_ends allow functions f q handlers) in
      let traps = some_traps f (traps_stmts p body) (traps_catches p q q handlers) caught in
      let z = ihs h looped g (next_stmts n body) j p q q locals agrees.1 reached.1 stands.2 traps.1 s.1 aims (λ e. next (or_right (all_fall body) (any_falls handlers) e)) in
      let begin = ih inner looped g n j p locals agrees.0 reached.0 stands.0 traps.0 c.0 (λ e. nearer (le_trans over longer) (aims e)) (skip_has (all_fall body) p1 s.0) in
      record {
        has = begin.has;
        runs = λ led.
            let y = begin.runs led in
            let skip = skip_over inner (all_fall body) p1 to stands.1 s.0 (λ e. next (or_left (all_fall body) (any_falls handlers) e)) longer y.falls in
            record {
              fine = join allow functions f shapes y.fine (join allow functions f shapes skip.0 z.fine);
              falls = λ e. or_take (all_fall body) (any_falls handlers) e skip.1 z.falls;
              continues = λ e. or_take (any_continues body) (catches_continue handlers) e y.continues z.continues;
            };
      }

  catch_fits : (class : ℕ) (x : Name) (body : Stmts) (others : Catches) → StmtsFit body → CatchesFit others → CatchesFit (Catch class x body others)
  catch_fits class x body NoCatch ih ihs h looped g n j from until p locals agrees reached stands caught have aims next =
      last_catch class x body ih h looped g n j from until p locals agrees reached stands caught have aims next
  catch_fits class x body (Catch c y b others) ih ihs h looped g n j from until p locals agrees reached stands caught have aims next =
      further_catch class x body c y b others ih ihs h looped g n j from until p locals agrees reached stands caught have aims next

  -- ---- blocks

  finish_fits : StmtsFit Finish
  finish_fits h looped g n j p locals agrees reached stands caught have aims next = record { has = next refl; runs = λ led. record { fine = fine_none allow functions f shapes; falls = λ e. led; continues = λ e. no e } }

  declare_fits : (x : Name) (at : Ty) (value : Maybe) (others : Stmts) → StmtsFit others → StmtsFit (Declare x at value others)
  declare_fits x at value others ih h looped g n j p locals agrees reached stands caught have aims next =
      let q = end_value p value at in
      let c = cut (value_ends allow functions f p value at) have in
      let later = ih h looped (record { name = x; of = at; local = n } ∷ g) (suc n) j (suc q) (record { has = stands.2; values = agrees.1 }, locals) agrees.2 reached stands.4 caught (rest c.1) aims next in
      let store = step allow functions f shapes stands.3 (store_passes allow functions f n at [] stands.2 agrees.1) (first c.1) later.has in
      let begin = value_fits h g value at p locals agrees.0 stands.0 c.0 (first c.1) in
      record {
        has = begin.has;
        runs = λ led.
            let y = begin.runs led in
            let z = store.runs y.led in
            let r = later.runs z.led in
            record { fine = join allow functions f shapes y.fine (join allow functions f shapes z.fine r.fine); falls = r.falls; continues = r.continues };
      }

  followed_fits : (t : Stmt) (others : Stmts) → StmtFits t → StmtsFit others → falls t ≡ true → StmtsFit (Then t others)
  followed_fits t others ih ihs is h looped g n j p locals agrees reached stands caught have aims next =
      let q = end_stmt p t in
      let to = end_stmts q others in
      let c = cut (stmt_ends allow functions f p t) have in
      let longer = grows (stmts_ends allow functions f q others) in
      let traps = some_traps f (traps_stmt p t) (traps_stmts q others) caught in
      let later = ihs h looped g (next_stmt n t) j q locals agrees.1 reached.2 stands.1 traps.1 c.1 aims (λ e. next (and_from (falls t) (all_fall others) is e)) in
      let begin = ih h looped g n j p locals agrees.0 reached.0 stands.0 traps.0 c.0 (λ e. nearer longer (aims e)) (λ e. later.has) in
      record {
        has = begin.has;
        runs = λ led.
            let y = begin.runs led in
            let r = later.runs (y.falls is) in
            record {
              fine = join allow functions f shapes y.fine r.fine;
              falls = λ e. r.falls (and_second (falls t) (all_fall others) e);
              continues = λ e. or_take (continues t) (any_continues others) e y.continues r.continues;
            };
      }

  last_of_block : (t : Stmt) → StmtFits t → StmtsFit (Then t Finish)
  last_of_block t ih h looped g n j p locals agrees reached stands caught have aims next =
      let c = cut (stmt_ends allow functions f p t) have in
      let traps = some_traps f (traps_stmt p t) [] caught in
      let begin = ih h looped g n j p locals agrees.0 reached.0 stands.0 traps.0 c.0 aims (λ e. next (and_from (falls t) true e refl)) in
      record {
        has = begin.has;
        runs = λ led.
            let y = begin.runs led in
            record {
              fine = y.fine;
              falls = λ e. y.falls (and_first (falls t) true e);
              continues = λ e. or_take (continues t) false e y.continues (λ e. no e);
            };
      }

  falls_first : (b : Bool) (t : Stmt) (others : Stmts) → MayFollow b (Then t others) → b ≡ true
  falls_first true t others h = refl
  falls_first false t others h = absurd h

  falls_before : (b : Bool) (x : Name) (at : Ty) (value : Maybe) (others : Stmts) → MayFollow b (Declare x at value others) → b ≡ true
  falls_before true x at value others h = refl
  falls_before false x at value others h = absurd h

  then_fits : (t : Stmt) (others : Stmts) → StmtFits t → StmtsFit others → StmtsFit (Then t others)
  then_fits t Finish ih ihs h looped g n j p locals agrees reached stands caught have aims next = last_of_block t ih h looped g n j p locals agrees reached stands caught have aims next
  then_fits t (Then u others) ih ihs h looped g n j p locals agrees reached stands caught have aims next =
      followed_fits t (Then u others) ih ihs (falls_first (falls t) u others reached.1) h looped g n j p locals agrees reached stands caught have aims next
  then_fits t (Declare x at value others) ih ihs h looped g n j p locals agrees reached stands caught have aims next =
      followed_fits t (Declare x at value others) ih ihs (falls_before (falls t) x at value others reached.1) h looped g n j p locals agrees reached stands caught have aims next

  mutual
    stmt_fits : (t : Stmt) → StmtFits t
    stmt_fits (Do a) h looped g n j p locals agrees reached stands caught have aims next = do_fits a h looped g n j p locals agrees reached stands caught have aims next
    stmt_fits (If c a b) h looped g n j p locals agrees reached stands caught have aims next = if_fits c a b (stmts_fit a) (stmts_fit b) h looped g n j p locals agrees reached stands caught have aims next
    stmt_fits (While test update body) h looped g n j p locals agrees reached stands caught have aims next = while_fits test update body (stmts_fit body) h looped g n j p locals agrees reached stands caught have aims next
    stmt_fits (DoWhile body test) h looped g n j p locals agrees reached stands caught have aims next = do_while_fits body test (stmts_fit body) h looped g n j p locals agrees reached stands caught have aims next
    stmt_fits (Try body handlers) h looped g n j p locals agrees reached stands caught have aims next = try_fits body handlers (stmts_fit body) (catches_fit handlers) h looped g n j p locals agrees reached stands caught have aims next
    stmt_fits (Block body) h looped g n j p locals agrees reached stands caught have aims next = block_fits body (stmts_fit body) h looped g n j p locals agrees reached stands caught have aims next
    stmt_fits Break h looped g n j p locals agrees reached stands caught have aims next = break_fits h looped g n j p locals agrees reached stands caught have aims next
    stmt_fits Continue h looped g n j p locals agrees reached stands caught have aims next = continue_fits h looped g n j p locals agrees reached stands caught have aims next
    stmt_fits (Return value) h looped g n j p locals agrees reached stands caught have aims next = return_fits value h looped g n j p locals agrees reached stands caught have aims next
    stmt_fits (Throw value) h looped g n j p locals agrees reached stands caught have aims next = throw_fits value h looped g n j p locals agrees reached stands caught have aims next

    pub stmts_fit : (t : Stmts) → StmtsFit t
    stmts_fit Finish h looped g n j p locals agrees reached stands caught have aims next = finish_fits h looped g n j p locals agrees reached stands caught have aims next
    stmts_fit (Then t others) h looped g n j p locals agrees reached stands caught have aims next = then_fits t others (stmt_fits t) (stmts_fit others) h looped g n j p locals agrees reached stands caught have aims next
    stmts_fit (Declare x at value others) h looped g n j p locals agrees reached stands caught have aims next = declare_fits x at value others (stmts_fit others) h looped g n j p locals agrees reached stands caught have aims next

    catches_fit : (handlers : Catches) → CatchesFit handlers
    catches_fit NoCatch h looped g n j from until p locals agrees reached stands caught have aims next = no_catch h looped g n j from until p locals agrees reached stands caught have aims next
    catches_fit (Catch class x body others) h looped g n j from until p locals agrees reached stands caught have aims next =
        catch_fits class x body others (stmts_fit body) (catches_fit others) h looped g n j from until p locals agrees reached stands caught have aims next
