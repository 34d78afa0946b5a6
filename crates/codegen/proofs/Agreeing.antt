-- What is to be written for statements of a well-formed program agrees as they do.
use Rattle.std.proofs.Common.{◌≡◌, ℕ, ◌+◌, List, [], ◌∷◌, length, drop, Ok, Result, Option, Some, None, refl, sym, ap, ◌∙◌, subst}
use Rattle.std.specs.Prelude.{map, slice_get, pos}
use Rattle.pl_types.specs.declared.ty.Ty.{Ty}
use Rattle.pl_types.specs.declared.ty.Ty.TheVariants as t
use Rattle.pl_code.specs.declared.kinds.Numbered.TheVariants as numbered
use Rattle.pl_code.specs.declared.code.Instruction.TheVariants as i
use Rattle.pl_code.specs.declared.kinds.Slot.{Slot}
use Rattle.typed_tree.specs.declared.statement.TypedStatement.{TypedStatement}
use Rattle.typed_tree.specs.declared.statement.TypedVariable.{TypedVariable}
use Rattle.source_meaning.specs.Tree.{Name, Expr, Maybe, Missing, Given, If, While, DoWhile, Try, Block, Stmts, Finish, Then, Declare, Catches, NoCatch, Catch, Variable, Program}
use Rattle.source_meaning.specs.Programs.{before, declared, stmts_of, maybe_of}
use Rattle.allowlist.specs.Allow.{AllowList}
use Rattle.program_typing.specs.Agreeing.{Known, known, BeginAgrees}
use Rattle.compiler_relation.specs.Representation.{representation_of}
use Rattle.codegen.specs.Worklist.{Item, Value, Put, Jump, Bind, One, Run, Declared, Close, Both, Either, Skip, Update, Test, Last, Turned, Tried, Caught, Over, First, IsFirst, lowest, entry, flow_of}
use Rattle.codegen.specs.Sound.{Agree, Keeps, BeginRepresented, variable, names_in, names_behind}
use Rattle.codegen.specs.declared.config.Config.{Config}
use Rattle.codegen.specs.declared.symbols.Entry as d
use Rattle.codegen.specs.declared.config.Flow.{Flow}
use Rattle.codegen.specs.declared.error.CodeError.{CodeError}
use Rattle.codegen.specs.declared.labels.Line.{Line}
use Rattle.codegen.specs.declared.work_item.Exits.{Exits}
use Rattle.codegen.proofs.Known.{closed_names}
use Rattle.codegen.proofs.Fitting.{class_has_values}
use Rattle.codegen.proofs.Parts.{drop_one, drop_end}
use Rattle.codegen.proofs.Rows.{kept_mapped}
use Rattle.codegen.proofs.Steps.{instead, never}

module _ (funs : Known) (of : Ty) (todo : List Item) (c : Config) (exits : Option Exits) where
  -- what follows a scope that is left
  left : (todo' : List Item) (body : Stmts) (height : ℕ) (flows : List Flow) → height ≡ length c.scope → Agree funs of todo' (names_in c) flows → Agree funs of todo' (lowest height (names_behind (names_in c) body)) flows
  left todo' body height flows e a = subst (λ (g : List Variable). Agree funs of todo' g flows) (sym (closed_names c height body e)) a

  pub block_agrees : (body : Stmts) (height : ℕ) → height ≡ length c.scope → Agree funs of (One (Block body) exits ∷ todo) (names_in c) c.flows → Agree funs of (Run body exits ∷ Close height ∷ todo) (names_in c) c.flows
  block_agrees body height e s = (s.0, left todo body height (flow_of body ∷ c.flows) e s.1)

  pub begun_agrees : (body rest : Stmts) (height : ℕ) → height ≡ length c.scope → Agree funs of (Run (Then (Block body) rest) exits ∷ todo) (names_in c) c.flows
      → Agree funs of (Run body exits ∷ Close height ∷ Run rest exits ∷ Both ∷ todo) (names_in c) c.flows
  begun_agrees body rest height e s = (s.0.0, left (Run rest exits ∷ Both ∷ todo) body height (flow_of body ∷ c.flows) e (s.0.1, s.1))

  pub if_agrees : (a : Expr) (body other : Stmts) (height over end : ℕ) → height ≡ length c.scope → Agree funs of (One (If a body other) exits ∷ todo) (names_in c) c.flows
      → Agree funs of (Value a ∷ Jump numbered.IfZero over ∷ Run body exits ∷ Close height ∷ Skip end ∷ Bind over ∷ Run other exits ∷ Close height ∷ Bind end ∷ Either ∷ todo) (names_in c) c.flows
  if_agrees a body other height over end e s = (
    s.0.0,
    (
      s.0.2,
      left (Skip end ∷ Bind over ∷ Run other exits ∷ Close height ∷ Bind end ∷ Either ∷ todo) body height (flow_of body ∷ c.flows) e
          (s.0.3, left (Bind end ∷ Either ∷ todo) other height (flow_of other ∷ flow_of body ∷ c.flows) e s.1),
    ),
  )

  pub while_agrees : (test update : Maybe) (body : Stmts) (height first start : ℕ) (x : Exits) → height ≡ length c.scope → Agree funs of (One (While test update body) exits ∷ todo) (names_in c) c.flows
      → Agree funs of (Jump numbered.Goto first ∷ Bind start ∷ Run body (Some x) ∷ Close height ∷ Bind x.on ∷ Update update ∷ Bind first ∷ Test test ∷ Jump numbered.Loop start ∷ Bind x.out ∷ Turned ∷ todo) (names_in c) c.flows
  while_agrees test update body height first start x e s =
      (s.0.2, left (Bind x.on ∷ Update update ∷ Bind first ∷ Test test ∷ Jump numbered.Loop start ∷ Bind x.out ∷ Turned ∷ todo) body height (flow_of body ∷ c.flows) e (s.0.1, (s.0.0, s.1)))

  pub do_while_agrees : (body : Stmts) (test : Maybe) (height first start : ℕ) (x : Exits) → height ≡ length c.scope → Agree funs of (One (DoWhile body test) exits ∷ todo) (names_in c) c.flows
      → Agree funs of (Jump numbered.Goto first ∷ Bind start ∷ Run body (Some x) ∷ Close height ∷ Bind x.on ∷ Last test x.out ∷ Bind first ∷ Put (i.Int (pos 1) ∷ []) ∷ Jump numbered.Loop start ∷ Bind x.out ∷ Turned ∷ todo) (names_in c) c.flows
  do_while_agrees body test height first start x e s =
      (s.0.0, left (Bind x.on ∷ Last test x.out ∷ Bind first ∷ Put (i.Int (pos 1) ∷ []) ∷ Jump numbered.Loop start ∷ Bind x.out ∷ Turned ∷ todo) body height (flow_of body ∷ c.flows) e (s.0.1, s.1))

  pub try_agrees : (body : Stmts) (catches : Catches) (height from end : ℕ) → height ≡ length c.scope → Agree funs of (One (Try body catches) exits ∷ todo) (names_in c) c.flows
      → Agree funs of (Run body exits ∷ Close height ∷ Skip end ∷ Tried catches from end exits ∷ Bind end ∷ Either ∷ todo) (names_in c) c.flows
  try_agrees body catches height from end e s = (s.0.0, left (Skip end ∷ Tried catches from end exits ∷ Bind end ∷ Either ∷ todo) body height (flow_of body ∷ c.flows) e (s.0.1, s.1))

  over_agrees : (rest : Catches) (label : ℕ) (todo' : List Item) (x : Flow) (flows : List Flow) → Agree funs of todo' (names_in c) (x ∷ flows) → Agree funs of (Over rest label ∷ todo') (names_in c) (x ∷ flows)
  over_agrees NoCatch label todo' x flows s = s
  over_agrees (Catch class y body rest) label todo' x flows s = s

  pub catch_agrees : (class : ℕ) (x : Name) (body : Stmts) (rest : Catches) (height from to label : ℕ) → height ≡ length c.scope → Agree funs of (Caught (Catch class x body rest) from to label exits ∷ todo) (names_in c) c.flows
      → Agree funs of (Declared x (t.Class class) ∷ Run body exits ∷ Close height ∷ Over rest label ∷ Caught rest from to label exits ∷ Either ∷ todo) (names_in c) c.flows
  catch_agrees class x body rest height from to label e s = (
    class_has_values class,
    (
      s.0.1,
      left (Over rest label ∷ Caught rest from to label exits ∷ Either ∷ todo) (Declare x (t.Class class) Missing body) height (flow_of body ∷ c.flows) e
          (over_agrees rest label (Caught rest from to label exits ∷ Either ∷ todo) (flow_of body) c.flows (s.0.2, s.1)),
    ),
  )

-- ---- rows of statements and of variables

module _ (funs : Program) (todo : List Item) (c : Config) (exits : Option Exits) where
  pub keeps_row : (all : List TypedStatement) (at : ℕ) (s : TypedStatement) → slice_get all at ≡ Some s
      → Keeps funs (Run (stmts_of (drop at all)) exits ∷ todo) c (Ok tt) (Run (before s (stmts_of (drop (at + 1) all))) exits ∷ todo) c
  keeps_row all at s e =
      subst (λ (ss : List TypedStatement). Keeps funs (Run (stmts_of ss) exits ∷ todo) c (Ok tt) (Run (before s (stmts_of (drop (at + 1) all))) exits ∷ todo) c) (sym (drop_one at all s e))
      (instead funs (Run (before s (stmts_of (drop (at + 1) all))) exits ∷ todo) (Run (before s (stmts_of (drop (at + 1) all))) exits ∷ todo) c (λ allow of s. s) refl)

  pub keeps_row_end : (all : List TypedStatement) (at : ℕ) (result : Result Unit CodeError) (todo' : List Item) → slice_get all at ≡ None → Keeps funs (Run Finish exits ∷ todo) c result todo' c → Keeps funs (Run (stmts_of (drop at all)) exits ∷ todo) c result todo' c
  keeps_row_end all at result todo' e b = subst (λ (ss : List TypedStatement). Keeps funs (Run (stmts_of ss) exits ∷ todo) c result todo' c) (sym (drop_end at all e)) b

  pub keeps_variables_end : (all : List TypedVariable) (at : ℕ) (rest : Stmts) → slice_get all at ≡ None → Keeps funs (Run (declared (drop at all) rest) exits ∷ todo) c (Ok tt) (Run rest exits ∷ todo) c
  keeps_variables_end all at rest e =
      subst (λ (xs : List TypedVariable). Keeps funs (Run (declared xs rest) exits ∷ todo) c (Ok tt) (Run rest exits ∷ todo) c) (sym (drop_end at all e)) (instead funs (Run rest exits ∷ todo) (Run rest exits ∷ todo) c (λ allow of s. s) refl)

  first_keeps : (x : Name) (at : Ty) (m : Maybe) (rest : Stmts) (first : Item) → First at m first → Keeps funs (Run (Declare x at m rest) exits ∷ todo) c (Ok tt) (first ∷ Declared x at ∷ Run rest exits ∷ todo) c
  first_keeps x at Missing rest first e =
      subst (λ (first : Item). Keeps funs (Run (Declare x at Missing rest) exits ∷ todo) c (Ok tt) (first ∷ Declared x at ∷ Run rest exits ∷ todo) c) (sym e)
      (instead funs (Run (Declare x at Missing rest) exits ∷ todo) _ c (λ allow of s. (s.0.1, (s.0.2, s.1))) refl)
  first_keeps x at (Given a) rest first e =
      subst (λ (first : Item). Keeps funs (Run (Declare x at (Given a) rest) exits ∷ todo) c (Ok tt) (first ∷ Declared x at ∷ Run rest exits ∷ todo) c) (sym e.1)
      (instead funs (Run (Declare x at (Given a) rest) exits ∷ todo) _ c (λ allow of s. (s.0.0.0, (s.0.1, (s.0.2, s.1)))) refl)

  pub keeps_variables : (all : List TypedVariable) (at : ℕ) (x : TypedVariable) (rest : Stmts) (first : Item) → slice_get all at ≡ Some x → IsFirst x first
      → Keeps funs (Run (declared (drop at all) rest) exits ∷ todo) c (Ok tt) (first ∷ Declared x.name x.of ∷ Run (declared (drop (at + 1) all) rest) exits ∷ todo) c
  keeps_variables all at x rest first e h =
      subst (λ (xs : List TypedVariable). Keeps funs (Run (declared xs rest) exits ∷ todo) c (Ok tt) (first ∷ Declared x.name x.of ∷ Run (declared (drop (at + 1) all) rest) exits ∷ todo) c) (sym (drop_one at all x e))
      (first_keeps x.name x.of (maybe_of x.value) (declared (drop (at + 1) all) rest) first h)

  begin_representation : (allow : AllowList) (m : Maybe) (at : Ty) (g : List Variable) → BeginAgrees (known allow funs) g m at → BeginRepresented m at
  begin_representation allow Missing at g h = tt
  begin_representation allow (Given a) at g h = ap representation_of h.1

  pub keeps_first : (all : List TypedVariable) (at : ℕ) (x : TypedVariable) (rest : Stmts) (result : Result Unit CodeError) (todo' : List Item) (c' : Config) → slice_get all at ≡ Some x → (BeginRepresented (maybe_of x.value) x.of → ⊥)
      → Keeps funs (Run (declared (drop at all) rest) exits ∷ todo) c result todo' c'
  keeps_first all at x rest result todo' c' is n =
      subst (λ (xs : List TypedVariable). Keeps funs (Run (declared xs rest) exits ∷ todo) c result todo' c') (sym (drop_one at all x is))
      (never funs (Run (declared (x ∷ drop (at + 1) all) rest) exits ∷ todo) todo' c result c' (λ allow of s. n (begin_representation allow (maybe_of x.value) x.of (names_in c) s.0.0)))

-- ---- the names in sight

module _ (funs : Program) (todo : List Item) (c : Config) where
  pub keeps_closed : (height : ℕ) (new : List d.Entry) → new ≡ lowest height c.scope → Keeps funs (Close height ∷ todo) c (Ok tt) todo (record c { scope = new })
  keeps_closed height new e = record {
    by = λ allow s. record {
      result = s.result;
      representation = s.representation;
      agree = subst (λ (g : List Variable). Agree (known allow funs) s.result todo g c.flows) (sym (ap (λ (es : List d.Entry). map variable (map entry es)) e ∙ ap (map variable) (kept_mapped entry height c.scope) ∙ kept_mapped variable height (map entry c.scope))) s.agree;
      free = s.free;
    };
  }

  pub keeps_declared : (x : Name) (at : Ty) (y : d.Entry) (n : ℕ) (scope : List d.Entry) (locals : List Slot) (lines : List Line) → entry y ≡ record { name = x; of = at; local = n } → scope ≡ y ∷ c.scope
      → Keeps funs (Declared x at ∷ todo) c (Ok tt) todo (record c { scope = scope; locals = locals; lines = lines })
  keeps_declared x at y n scope locals lines e es = record {
    by = λ allow s. record {
      result = s.result;
      representation = s.representation;
      agree = subst (λ (g : List Variable). Agree (known allow funs) s.result todo g c.flows) (sym (ap (λ (es : List d.Entry). map variable (map entry es)) es ∙ ap (λ z. variable z ∷ names_in c) e)) s.agree.1;
      free = s.free;
    };
  }
