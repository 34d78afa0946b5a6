-- Blocks whose exceptions are caught, and their catches.
use Rattle.std.proofs.Common.{◌≡◌, ℕ, suc, ◌<◌, ◌+◌, List, [], ◌∷◌, ◌++◌, length, Ok, Option, Some, None, refl, sym, ap, ◌∙◌, subst, append_assoc}
use Rattle.std.specs.Prelude.{map, slice_get, false}
use Rattle.pl_types.specs.declared.ty.Ty.{Ty}
use Rattle.pl_types.specs.declared.ty.Ty.TheVariants as t
use Rattle.pl_code.specs.declared.code.FunCode.{FunCode}
use Rattle.pl_code.specs.declared.code.Trap.{Trap}
use Rattle.typed_tree.specs.declared.statement.TypedCatch.{TypedCatch, out-TypedCatch}
use Rattle.program_typing.specs.Agreeing.{Known, known}
use Rattle.program_typing.specs.Types.{IsNamed}
use Rattle.source_meaning.specs.Tree.{Name, Try, Stmts, Catches, NoCatch, Catch, Program}
use Rattle.source_meaning.specs.Programs.{caught_in_row}
use Rattle.compiler_relation.specs.Representation.{Representation}
use Rattle.compiler_relation.specs.Stands.{Scope, SkipAt, all_fall, end_skip, end_stmts, end_tried, end_caught, end_catches, jumps_over, next_stmts, next_catches, trap_of, traps_stmts, traps_catches}
use Rattle.compiler_relation.specs.Placed.{untrapped, CatchesIn}
use Rattle.codegen.specs.Checks.{denoted}
use Rattle.codegen.specs.Labels.{line_of}
use Rattle.codegen.specs.Opened.{body_of, caught}
use Rattle.codegen.specs.Worklist.{Item, One, Run, Declared, Close, Flows, Either, Skip, Bind, Tried, Caught, Over, Stand, Trapped, Back, catches_from, flow_of, flow_caught, either, jumps_of, scope_in, next_in, whole_in}
use Rattle.codegen.specs.Sound.{Agree, Keeps, names_in}
use Rattle.codegen.specs.declared.config.Config.{Config}
use Rattle.codegen.specs.declared.config.Flow.{Flow}
use Rattle.codegen.specs.declared.work_item.Exits.{Exits}
use Rattle.codegen.proofs.Agreeing.{catch_agrees}
use Rattle.codegen.proofs.Back.{planned, planned_here}
use Rattle.codegen.proofs.Bodies.{closed, grown_one, joined, length_mapped, skips_to}
use Rattle.codegen.proofs.Opened.{catch_opened}
use Rattle.codegen.proofs.Parts.{drop_one, drop_end}
use Rattle.codegen.proofs.Steps.{instead}

-- ---- catches from one on

pub catches_go : (all : List TypedCatch) (at : ℕ) (x : TypedCatch) → slice_get all at ≡ Some x
    → catches_from at all ≡ Catch (out-TypedCatch x).class (out-TypedCatch x).name (body_of (out-TypedCatch x).body) (catches_from (at + 1) all)
catches_go all at x is = ap (λ (cs : List TypedCatch). caught_in_row (map caught cs)) (drop_one at all x is) ∙ catch_opened x (catches_from (at + 1) all)

pub catches_stop : (all : List TypedCatch) (at : ℕ) → slice_get all at ≡ None → catches_from at all ≡ NoCatch
catches_stop all at is = ap (λ (cs : List TypedCatch). caught_in_row (map caught cs)) (drop_end at all is)

-- ---- what is to be written

-- the jump behind a catch
over_out : (funs : Program) (k : Representation) (f : FunCode) (labels : List (Option ℕ)) (todo : List Item) (g : Scope) (n p : ℕ) (flows : List Flow) (whole : Trapped) (body : Stmts) (rest : Catches) (label : ℕ)
    → Stand funs k f labels (Over rest label ∷ todo) g n p (flow_of body ∷ flows) whole
    → SkipAt (untrapped f) [] (jumps_over body rest) p (line_of labels label) × Stand funs k f labels todo g n (end_skip (jumps_over body rest) p) (flow_of body ∷ flows) whole
over_out funs k f labels todo g n p flows whole body NoCatch label s = (tt, s)
over_out funs k f labels todo g n p flows whole body (Catch class x next rest) label s = s

-- the trap lines of a catch, of its block and of the further catches
lined_up : (front : List Trap) (trap : Trap) (a b : List Trap) → ◌≡◌ {A = Trapped} (λ more. (front ++ trap ∷ []) ++ (a ++ (b ++ more))) (λ more. front ++ ((trap ∷ (a ++ b)) ++ more))
lined_up front trap a b = λ i more. (append_assoc front (trap ∷ []) (a ++ (b ++ more)) ∙ ap (λ ts. front ++ trap ∷ ts) (sym (append_assoc a b more))) i

module _ (funs : Program) (todo : List Item) (c : Config) (exits : Option Exits) where
  pub try_plan : (body : Stmts) (catches : Catches) (height from end : ℕ) → height ≡ length c.scope → from ≡ length c.lines
      → Back funs (One (Try body catches) exits ∷ todo) c (Run body exits ∷ Close height ∷ Skip end ∷ Tried catches from end exits ∷ Bind end ∷ Either ∷ todo) c
  try_plan body catches height from end e at =
      subst (λ (from : ℕ). Back funs (One (Try body catches) exits ∷ todo) c (Run body exits ∷ Close height ∷ Skip end ∷ Tried catches from end exits ∷ Bind end ∷ Either ∷ todo) c) (sym at)
      (planned_here funs (One (Try body catches) exits ∷ todo) c (Run body exits ∷ Close height ∷ Skip end ∷ Tried catches (length c.lines) end exits ∷ Bind end ∷ Either ∷ todo)
      (λ f labels s.
      let k = denoted c.result in
      let g = scope_in c in
      let p = length c.lines in
      let q = end_stmts p body in
      let r = end_tried p body in
      let n' = next_stmts (next_in c) body in
      let z = end_catches r catches in
      let h = e ∙ sym (length_mapped c) in
      let t = subst (λ g. Stand funs k f labels (Skip end ∷ Tried catches p end exits ∷ Bind end ∷ Either ∷ todo) g n' q (flow_of body ∷ c.flows) (λ more. whole_in c (traps_stmts p body ++ more))) (closed height g s.1.0 h s.1.1) s.1.2 in
      let behind = t.1.1.0 in (
        (
          s.0,
          skips_to (untrapped f) (all_fall body) q (line_of labels end) z behind t.0,
          subst (λ (to : ℕ). CatchesIn funs (untrapped f) k g n' (jumps_of labels exits) to r catches) behind t.1.0,
        ),
        subst (λ (w : Trapped). Stand funs k f labels todo g (next_catches n' catches) z (either (flow_of body) (flow_caught catches) ∷ c.flows) w) (joined (whole_in c) (traps_stmts p body) (traps_catches p r r catches)) t.1.1.1,
      )))

  pub tried_plan : (catches : Catches) (from to label : ℕ) → to ≡ length c.lines → Back funs (Tried catches from label exits ∷ todo) c (Caught catches from to label exits ∷ todo) c
  tried_plan catches from to label at =
      subst (λ (to : ℕ). Back funs (Tried catches from label exits ∷ todo) c (Caught catches from to label exits ∷ todo) c) (sym at)
      (planned_here funs (Tried catches from label exits ∷ todo) c (Caught catches from (length c.lines) label exits ∷ todo) (λ f labels s. s))

  none_plan : (from to label : ℕ) → Back funs (Caught NoCatch from to label exits ∷ todo) c (Flows (record { falls = false; continues = false }) ∷ todo) c
  none_plan from to label = planned funs (Caught NoCatch from to label exits ∷ todo) c (Flows (record { falls = false; continues = false }) ∷ todo) (λ f labels g n p flows whole s. (tt, s))

  catch_plan : (class : ℕ) (x : Name) (body : Stmts) (rest : Catches) (height from to label : ℕ) → height ≡ length c.scope → class < 57
      → Back funs (Caught (Catch class x body rest) from to label exits ∷ todo) c
      (Declared x (t.Class class) ∷ Run body exits ∷ Close height ∷ Over rest label ∷ Caught rest from to label exits ∷ Either ∷ todo) (record c { traps = c.traps ++ trap_of from to (length c.lines) class ∷ [] })
  catch_plan class x body rest height from to label e under = record {
    by = λ f labels m.
        let s = m.stand in
        let k = denoted c.result in
        let g = scope_in c in
        let p = length c.lines in
        let n' = next_stmts (suc (next_in c)) body in
        let q = end_stmts (suc p) body in
        let r = end_caught p body rest in
        let one = trap_of from to p class in
        let h = e ∙ sym (length_mapped c) in
        let t = subst (λ g. Stand funs k f labels (Over rest label ∷ Caught rest from to label exits ∷ Either ∷ todo) g n' q (flow_of body ∷ c.flows) (λ more. (c.traps ++ one ∷ []) ++ (traps_stmts (suc p) body ++ more)))
        (closed height g s.1.1.0 h (grown_one (record { name = x; of = t.Class class; local = next_in c }) g s.1.1.0 s.1.1.1)) s.1.1.2 in
        let u = over_out funs k f labels (Caught rest from to label exits ∷ Either ∷ todo) g n' q c.flows (λ more. (c.traps ++ one ∷ []) ++ (traps_stmts (suc p) body ++ more)) body rest label t in
        record {
          holds = record { lines = m.holds.lines; bound = m.holds.bound; params = m.holds.params; locals = m.holds.locals };
          stand = (
            (under, s.0.1, s.0.2, s.1.0, u.0, u.1.0),
            subst (λ (w : Trapped). Stand funs k f labels todo g (next_catches n' rest) (end_catches r rest) (either (flow_of body) (flow_caught rest) ∷ c.flows) w) (lined_up c.traps one (traps_stmts (suc p) body) (traps_catches from to r rest)) u.1.1,
          );
        };
  }

  -- ---- with what a call gives

  pub caught_back : (all : List TypedCatch) (at : ℕ) (x : TypedCatch) (height from to label line : ℕ) (trap : Trap) (traps : List Trap) → slice_get all at ≡ Some x → height ≡ length c.scope → (out-TypedCatch x).class < 57
      → line ≡ length c.lines → trap ≡ trap_of from to line (out-TypedCatch x).class → traps ≡ c.traps ++ trap ∷ []
      → Back funs (Caught (catches_from at all) from to label exits ∷ todo) c
      (Declared (out-TypedCatch x).name (t.Class (out-TypedCatch x).class) ∷ Run (body_of (out-TypedCatch x).body) exits ∷ Close height ∷ Over (catches_from (at + 1) all) label ∷ Caught (catches_from (at + 1) all) from to label exits ∷ Either ∷ todo)
      (record c { traps = traps })
  caught_back all at x height from to label line trap traps is e under here trapped pushed =
      let class = (out-TypedCatch x).class in
      let rest = catches_from (at + 1) all in
      let body = body_of (out-TypedCatch x).body in
      let todo' = Declared (out-TypedCatch x).name (t.Class class) ∷ Run body exits ∷ Close height ∷ Over rest label ∷ Caught rest from to label exits ∷ Either ∷ todo in
      let full : traps ≡ c.traps ++ trap_of from to (length c.lines) class ∷ [] = pushed ∙ ap (λ (t : Trap). c.traps ++ t ∷ []) (trapped ∙ ap (λ (n : ℕ). trap_of from to n class) here) in
      subst (λ (cs : Catches). Back funs (Caught cs from to label exits ∷ todo) c todo' (record c { traps = traps })) (sym (catches_go all at x is))
      (subst (λ (ts : List Trap). Back funs (Caught (Catch class (out-TypedCatch x).name body rest) from to label exits ∷ todo) c todo' (record c { traps = ts })) (sym full) (catch_plan class (out-TypedCatch x).name body rest height from to label e under))

  pub caught_end : (all : List TypedCatch) (at from to label : ℕ) → slice_get all at ≡ None → Back funs (Caught (catches_from at all) from to label exits ∷ todo) c (Flows (record { falls = false; continues = false }) ∷ todo) c
  caught_end all at from to label is =
      subst (λ (cs : Catches). Back funs (Caught cs from to label exits ∷ todo) c (Flows (record { falls = false; continues = false }) ∷ todo) c) (sym (catches_stop all at is)) (none_plan from to label)

  pub caught_keeps : (all : List TypedCatch) (at : ℕ) (x : TypedCatch) (height from to label : ℕ) (traps : List Trap) → slice_get all at ≡ Some x → height ≡ length c.scope
      → Keeps funs (Caught (catches_from at all) from to label exits ∷ todo) c (Ok tt)
      (Declared (out-TypedCatch x).name (t.Class (out-TypedCatch x).class) ∷ Run (body_of (out-TypedCatch x).body) exits ∷ Close height ∷ Over (catches_from (at + 1) all) label ∷ Caught (catches_from (at + 1) all) from to label exits ∷ Either ∷ todo)
      (record c { traps = traps })
  caught_keeps all at x height from to label traps is e =
      let class = (out-TypedCatch x).class in
      let rest = catches_from (at + 1) all in
      let body = body_of (out-TypedCatch x).body in
      subst (λ (cs : Catches). Keeps funs (Caught cs from to label exits ∷ todo) c (Ok tt) (Declared (out-TypedCatch x).name (t.Class class) ∷ Run body exits ∷ Close height ∷ Over rest label ∷ Caught rest from to label exits ∷ Either ∷ todo) (record c { traps = traps }))
      (sym (catches_go all at x is))
      (record {
        by = λ allow s. record {
          result = s.result;
          representation = s.representation;
          agree = catch_agrees (known allow funs) s.result todo c exits class (out-TypedCatch x).name body rest height from to label e s.agree;
          free = s.free;
        };
      })

  pub caught_end_keeps : (all : List TypedCatch) (at from to label : ℕ) → slice_get all at ≡ None
      → Keeps funs (Caught (catches_from at all) from to label exits ∷ todo) c (Ok tt) (Flows (record { falls = false; continues = false }) ∷ todo) c
  caught_end_keeps all at from to label is =
      subst (λ (cs : Catches). Keeps funs (Caught cs from to label exits ∷ todo) c (Ok tt) (Flows (record { falls = false; continues = false }) ∷ todo) c) (sym (catches_stop all at is))
      (instead funs (Caught NoCatch from to label exits ∷ todo) _ c (λ allow of s. s.1) refl)

  -- the class of a catch of a well-formed program
  pub class_of_catch : (funs : Known) (of : Ty) (all : List TypedCatch) (at : ℕ) (x : TypedCatch) (from to label : ℕ) → slice_get all at ≡ Some x
      → Agree funs of (Caught (catches_from at all) from to label exits ∷ todo) (names_in c) c.flows → IsNamed (t.Class (out-TypedCatch x).class)
  class_of_catch funs of all at x from to label is s =
      let a = subst (λ (cs : Catches). Agree funs of (Caught cs from to label exits ∷ todo) (names_in c) c.flows) (catches_go all at x is) s in a.0.0

module _ (funs : Program) (todo : List Item) (c : Config) where
  pub over_more : (all : List TypedCatch) (at : ℕ) (x : TypedCatch) (label : ℕ) → slice_get all at ≡ Some x → Back funs (Over (catches_from at all) label ∷ todo) c (Skip label ∷ todo) c
  over_more all at x label is =
      subst (λ (cs : Catches). Back funs (Over cs label ∷ todo) c (Skip label ∷ todo) c) (sym (catches_go all at x is))
      (planned funs (Over (Catch (out-TypedCatch x).class (out-TypedCatch x).name (body_of (out-TypedCatch x).body) (catches_from (at + 1) all)) label ∷ todo) c (Skip label ∷ todo) (λ f labels g n p flows whole s. s))

  pub over_none : (all : List TypedCatch) (at label : ℕ) → slice_get all at ≡ None → Back funs (Over (catches_from at all) label ∷ todo) c todo c
  over_none all at label is =
      subst (λ (cs : Catches). Back funs (Over cs label ∷ todo) c todo c) (sym (catches_stop all at is)) (planned funs (Over NoCatch label ∷ todo) c todo (λ f labels g n p flows whole s. s))

  pub over_more_keeps : (all : List TypedCatch) (at : ℕ) (x : TypedCatch) (label : ℕ) → slice_get all at ≡ Some x → Keeps funs (Over (catches_from at all) label ∷ todo) c (Ok tt) (Skip label ∷ todo) c
  over_more_keeps all at x label is =
      subst (λ (cs : Catches). Keeps funs (Over cs label ∷ todo) c (Ok tt) (Skip label ∷ todo) c) (sym (catches_go all at x is))
      (instead funs (Over (Catch (out-TypedCatch x).class (out-TypedCatch x).name (body_of (out-TypedCatch x).body) (catches_from (at + 1) all)) label ∷ todo) _ c (λ allow of s. s) refl)

  pub over_none_keeps : (all : List TypedCatch) (at label : ℕ) → slice_get all at ≡ None → Keeps funs (Over (catches_from at all) label ∷ todo) c (Ok tt) todo c
  over_none_keeps all at label is =
      subst (λ (cs : Catches). Keeps funs (Over cs label ∷ todo) c (Ok tt) todo c) (sym (catches_stop all at is)) (instead funs (Over NoCatch label ∷ todo) _ c (λ allow of s. s) refl)
