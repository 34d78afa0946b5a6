-- What is to be written for statements.
use Rattle.std.proofs.Common.{◌≡◌, ℕ, suc, List, [], ◌∷◌, ◌++◌, length, take, Bool, refl, sym, ap, ◌∙◌, subst, Option, Some, append_assoc}
use Rattle.std.specs.Prelude.{map, reverse}
use Rattle.std.proofs.lemmas.List.{reverse-append, reverse-reverse}
use Rattle.pl_types.specs.declared.ty.Ty.{Ty}
use Rattle.pl_code.specs.declared.kinds.Numbered.TheVariants as numbered
use Rattle.pl_code.specs.declared.code.FunCode.{FunCode}
use Rattle.pl_code.specs.declared.code.Trap.{Trap}
use Rattle.pl_code.specs.declared.code.Instruction.TheVariants as i
use Rattle.std.specs.Prelude.{pos}
use Rattle.source_meaning.specs.Tree.{Name, Expr, Maybe, Missing, Given, Stmt, If, While, DoWhile, Block, Stmts, Then, Declare, Program, type_of}
use Rattle.compiler_relation.specs.Representation.{representation_of, Unboxed}
use Rattle.compiler_relation.specs.Parts.{default_code}
use Rattle.compiler_relation.specs.Stands.{Entry, Scope, SkipAt, LastAt, Jumps, end_expr, end_stmts, end_skip, end_update, end_test, end_last, end_stmt, next_stmt, next_stmts, all_fall, goes_on, traps_stmt, traps_stmts}
use Rattle.compiler_relation.specs.Placed.{untrapped, StmtsIn}
use Rattle.codegen.specs.Checks.{denoted}
use Rattle.codegen.specs.Labels.{line_of}
use Rattle.codegen.specs.Worklist.{Item, Value, Put, Jump, Bind, One, Run, Declared, Close, Both, Either, Skip, Update, Test, Last, Turned, Stand, Trapped, Grown, lowest, flow_of, flow_in, both, either, entry, scope_in, next_in, whole_in, Back}
use Rattle.codegen.specs.declared.config.Config.{Config}
use Rattle.codegen.specs.declared.work_item.Exits.{Exits}
use Rattle.codegen.proofs.Back.{planned, planned_here, back_all}
use Rattle.codegen.proofs.Plans.{goes_to}

-- ---- scopes

taken_boxed : {A : Type 0} (xs ys : List A) → take (length xs) (xs ++ ys) ≡ xs
taken_boxed [] ys = refl
taken_boxed (x ∷ xs) ys = ap (λ zs. x ∷ zs) (taken_boxed xs ys)

length_snoc : {A : Type 0} (xs : List A) (y : A) → length (xs ++ y ∷ []) ≡ suc (length xs)
length_snoc [] y = refl
length_snoc (x ∷ xs) y = ap suc (length_snoc xs y)

length_reversed : {A : Type 0} (xs : List A) → length (reverse xs) ≡ length xs
length_reversed [] = refl
length_reversed (x ∷ xs) = ap length (reverse-append (x ∷ []) xs) ∙ length_snoc (reverse xs) x ∙ ap suc (length_reversed xs)

pub kept_under : {A : Type 0} (height : ℕ) (more g : List A) → height ≡ length g → lowest height (more ++ g) ≡ g
kept_under height more g e =
    ap (λ xs. reverse (take height xs)) (reverse-append more g)
    ∙ ap (λ n. reverse (take n (reverse g ++ reverse more))) (e ∙ sym (length_reversed g)) ∙ ap reverse (taken_boxed (reverse g) (reverse more)) ∙ reverse-reverse g

pub closed : (height : ℕ) (g later : Scope) → height ≡ length g → Grown g later → lowest height later ≡ g
closed height g later e w = ap (lowest height) w.is ∙ kept_under height w.more g e

pub same_scope : (g : Scope) → Grown g g
same_scope g = record { more = []; is = refl }

pub grown_one : (y : Entry) (g later : Scope) → Grown (y ∷ g) later → Grown g later
grown_one y g later w = record { more = w.more ++ y ∷ []; is = w.is ∙ sym (append_assoc w.more (y ∷ []) g) }

pub length_mapped : (c : Config) → length (scope_in c) ≡ length c.scope
length_mapped c = nested c.scope
  where
    nested : (xs : _) → length (map entry xs) ≡ length xs
    nested [] = refl
    nested (x ∷ xs) = ap suc (nested xs)

pub skips_to : (f : FunCode) (b : Bool) (p line to : ℕ) → line ≡ to → SkipAt f [] b p line → SkipAt f [] b p to
skips_to f b p line to e a = subst (λ to. SkipAt f [] b p to) e a

-- ---- trap lines

-- those of one part and those of the next are those of both
pub joined : (whole : Trapped) (a b : List Trap) → ◌≡◌ {A = Trapped} (λ more. whole (a ++ (b ++ more))) (λ more. whole ((a ++ b) ++ more))
joined whole a b = λ i more. whole (sym (append_assoc a b more) i)

-- ---- one statement

module _ (funs : Program) (todo : List Item) (c : Config) (exits : Option Exits) where
  pub if_plan : (a : Expr) (body other : Stmts) (height over end : ℕ) → height ≡ length c.scope → representation_of (type_of a) ≡ Unboxed
      → Back funs (One (If a body other) exits ∷ todo) c
      (Value a ∷ Jump numbered.IfZero over ∷ Run body exits ∷ Close height ∷ Skip end ∷ Bind over ∷ Run other exits ∷ Close height ∷ Bind end ∷ Either ∷ todo) c
  if_plan a body other height over end e ea =
      planned_here funs (One (If a body other) exits ∷ todo) c
      (Value a ∷ Jump numbered.IfZero over ∷ Run body exits ∷ Close height ∷ Skip end ∷ Bind over ∷ Run other exits ∷ Close height ∷ Bind end ∷ Either ∷ todo)
      (λ f labels s.
      let k = denoted c.result in
      let g = scope_in c in
      let q = suc (end_expr (length c.lines) a) in
      let q' = end_stmts q body in
      let n' = next_stmts (next_in c) body in
      let r = end_skip (all_fall body) q' in
      let h = e ∙ sym (length_mapped c) in
      let t = subst (λ g. Stand funs k f labels (Skip end ∷ Bind over ∷ Run other exits ∷ Close height ∷ Bind end ∷ Either ∷ todo) g n' q' (flow_of body ∷ c.flows) (λ more. whole_in c (traps_stmts q body ++ more))) (closed height g s.1.1.1.0 h s.1.1.1.1) s.1.1.1.2 in
      let u = subst (λ g. Stand funs k f labels (Bind end ∷ Either ∷ todo) g (next_stmts n' other) (end_stmts r other) (flow_of other ∷ flow_of body ∷ c.flows) (λ more. whole_in c (traps_stmts q body ++ (traps_stmts r other ++ more)))) (closed height g t.1.1.1.0 h t.1.1.1.1) t.1.1.1.2 in (
        (
          s.0,
          ea,
          goes_to (untrapped f) (end_expr (length c.lines) a) numbered.IfZero (line_of labels over) r t.1.0 s.1.0,
          s.1.1.0,
          skips_to (untrapped f) (all_fall body) q' (line_of labels end) (end_stmts r other) u.0 t.0,
          t.1.1.0,
        ),
        subst (λ (w : Trapped). Stand funs k f labels todo g (next_stmts n' other) (end_stmts r other) (either (flow_of body) (flow_of other) ∷ c.flows) w) (joined (whole_in c) (traps_stmts q body) (traps_stmts r other)) u.1,
      ))

  pub while_plan : (test update : Maybe) (body : Stmts) (height first start : ℕ) (x : Exits) → height ≡ length c.scope
      → Back funs (One (While test update body) exits ∷ todo) c
      (Jump numbered.Goto first ∷ Bind start ∷ Run body (Some x) ∷ Close height ∷ Bind x.on ∷ Update update ∷ Bind first ∷ Test test ∷ Jump numbered.Loop start ∷ Bind x.out ∷ Turned ∷ todo) c
  while_plan test update body height first start x e =
      planned_here funs (One (While test update body) exits ∷ todo) c
      (Jump numbered.Goto first ∷ Bind start ∷ Run body (Some x) ∷ Close height ∷ Bind x.on ∷ Update update ∷ Bind first ∷ Test test ∷ Jump numbered.Loop start ∷ Bind x.out ∷ Turned ∷ todo)
      (λ f labels s.
      let k = denoted c.result in
      let g = scope_in c in
      let p = length c.lines in
      let q = end_stmts (suc p) body in
      let r = end_update (goes_on body) q update in
      let n' = next_stmts (next_in c) body in
      let h = e ∙ sym (length_mapped c) in
      let t = subst (λ g. Stand funs k f labels (Bind x.on ∷ Update update ∷ Bind first ∷ Test test ∷ Jump numbered.Loop start ∷ Bind x.out ∷ Turned ∷ todo) g n' q (flow_of body ∷ c.flows) (λ more. whole_in c (traps_stmts (suc p) body ++ more))) (closed height g s.1.1.1.0 h s.1.1.1.1) s.1.1.1.2 in (
        (
          goes_to (untrapped f) p numbered.Goto (line_of labels first) r t.1.1.0 s.0,
          subst (λ (j : Jumps). StmtsIn funs (untrapped f) k g (next_in c) j (suc p) body) (λ i. record { out = t.1.1.1.1.1.0 i; on = t.0 i }) s.1.1.0,
          t.1.0,
          t.1.1.1.0,
          goes_to (untrapped f) (end_test r test) numbered.Loop (line_of labels start) (suc p) s.1.0 t.1.1.1.1.0,
        ),
        t.1.1.1.1.1.1,
      ))

  pub do_while_plan : (body : Stmts) (test : Maybe) (height first start : ℕ) (x : Exits) → height ≡ length c.scope
      → Back funs (One (DoWhile body test) exits ∷ todo) c
      (Jump numbered.Goto first ∷ Bind start ∷ Run body (Some x) ∷ Close height ∷ Bind x.on ∷ Last test x.out ∷ Bind first ∷ Put (i.Int (pos 1) ∷ []) ∷ Jump numbered.Loop start ∷ Bind x.out ∷ Turned ∷ todo) c
  do_while_plan body test height first start x e =
      planned_here funs (One (DoWhile body test) exits ∷ todo) c
      (Jump numbered.Goto first ∷ Bind start ∷ Run body (Some x) ∷ Close height ∷ Bind x.on ∷ Last test x.out ∷ Bind first ∷ Put (i.Int (pos 1) ∷ []) ∷ Jump numbered.Loop start ∷ Bind x.out ∷ Turned ∷ todo)
      (λ f labels s.
      let k = denoted c.result in
      let g = scope_in c in
      let p = length c.lines in
      let q = end_stmts (suc p) body in
      let r = end_last (goes_on body) q test in
      let n' = next_stmts (next_in c) body in
      let h = e ∙ sym (length_mapped c) in
      let t = subst (λ g. Stand funs k f labels (Bind x.on ∷ Last test x.out ∷ Bind first ∷ Put (i.Int (pos 1) ∷ []) ∷ Jump numbered.Loop start ∷ Bind x.out ∷ Turned ∷ todo) g n' q (flow_of body ∷ c.flows) (λ more. whole_in c (traps_stmts (suc p) body ++ more))) (closed height g s.1.1.1.0 h s.1.1.1.1) s.1.1.1.2 in
      let out = t.1.1.1.1.1.0 in (
        (
          goes_to (untrapped f) p numbered.Goto (line_of labels first) r t.1.1.0 s.0,
          subst (λ (j : Jumps). StmtsIn funs (untrapped f) k g (next_in c) j (suc p) body) (λ i. record { out = out i; on = t.0 i }) s.1.1.0,
          subst (λ (to : ℕ). LastAt funs (untrapped f) [] g (goes_on body) q test to) out t.1.0,
          t.1.1.1.0.0,
          goes_to (untrapped f) (suc r) numbered.Loop (line_of labels start) (suc p) s.1.0 t.1.1.1.1.0,
        ),
        t.1.1.1.1.1.1,
      ))

  -- ---- statements of a scope

  pub block_plan : (body : Stmts) (height : ℕ) → height ≡ length c.scope → Back funs (One (Block body) exits ∷ todo) c (Run body exits ∷ Close height ∷ todo) c
  block_plan body height e =
      planned_here funs (One (Block body) exits ∷ todo) c (Run body exits ∷ Close height ∷ todo)
      (λ f labels s.
      let h = e ∙ sym (length_mapped c) in (
        s.0,
        subst (λ g. Stand funs (denoted c.result) f labels todo g (next_stmts (next_in c) body) (end_stmts (length c.lines) body) (flow_of body ∷ c.flows) (λ more. whole_in c (traps_stmts (length c.lines) body ++ more)))
            (closed height (scope_in c) s.1.0 h s.1.1) s.1.2,
      ))

  pub then_plan : (t : Stmt) (rest : Stmts) → Back funs (Run (Then t rest) exits ∷ todo) c (One t exits ∷ Run rest exits ∷ Both ∷ todo) c
  then_plan t rest =
      planned funs (Run (Then t rest) exits ∷ todo) c (One t exits ∷ Run rest exits ∷ Both ∷ todo)
      (λ f labels g n p flows whole s. (
        (s.0, s.1.0),
        (
          s.1.1.0,
          s.1.1.1,
          subst (λ (w : Trapped). Stand funs (denoted c.result) f labels todo s.1.1.0 (next_stmts (next_stmt n t) rest) (end_stmts (end_stmt p t) rest) (both (flow_in t) (flow_of rest) ∷ flows) w)
              (joined whole (traps_stmt p t) (traps_stmts (end_stmt p t) rest)) s.1.1.2,
        ),
      ))

  pub given_plan : (x : Name) (of : Ty) (a : Expr) (rest : Stmts) → representation_of (type_of a) ≡ representation_of of
      → Back funs (Run (Declare x of (Given a) rest) exits ∷ todo) c (Value a ∷ Declared x of ∷ Run rest exits ∷ todo) c
  given_plan x of a rest e =
      planned funs (Run (Declare x of (Given a) rest) exits ∷ todo) c (Value a ∷ Declared x of ∷ Run rest exits ∷ todo)
      (λ f labels g n p flows whole s. (((s.0, e), s.1.0.0, s.1.0.1, s.1.0.2, s.1.1.0), (s.1.1.1.0, grown_one (record { name = x; of = of; local = n }) g s.1.1.1.0 s.1.1.1.1, s.1.1.1.2)))

  pub default_plan : (x : Name) (of : Ty) (rest : Stmts)
      → Back funs (Run (Declare x of Missing rest) exits ∷ todo) c (Put (default_code of) ∷ Declared x of ∷ Run rest exits ∷ todo) c
  default_plan x of rest =
      planned funs (Run (Declare x of Missing rest) exits ∷ todo) c (Put (default_code of) ∷ Declared x of ∷ Run rest exits ∷ todo)
      (λ f labels g n p flows whole s. ((s.0, s.1.0.0, s.1.0.1, s.1.0.2, s.1.1.0), (s.1.1.1.0, grown_one (record { name = x; of = of; local = n }) g s.1.1.1.0 s.1.1.1.1, s.1.1.1.2)))

-- a block, and what stands behind it
pub begun_plan : (funs : Program) (todo : List Item) (c : Config) (exits : Option Exits) (body rest : Stmts) (height : ℕ) → height ≡ length c.scope
    → Back funs (Run (Then (Block body) rest) exits ∷ todo) c (Run body exits ∷ Close height ∷ Run rest exits ∷ Both ∷ todo) c
begun_plan funs todo c exits body rest height e =
    back_all funs (Run (Then (Block body) rest) exits ∷ todo) (One (Block body) exits ∷ Run rest exits ∷ Both ∷ todo) (Run body exits ∷ Close height ∷ Run rest exits ∷ Both ∷ todo) c c c
    (then_plan funs todo c exits (Block body) rest) (block_plan funs (Run rest exits ∷ Both ∷ todo) c exits body height e)
