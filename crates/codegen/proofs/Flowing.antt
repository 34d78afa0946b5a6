-- What depends on how control goes on behind what is written.
use Rattle.std.proofs.Common.{◌≡◌, ℕ, Bool, true, false, List, [], ◌∷◌, length, Option, sym, ◌∙◌, subst}
use Rattle.pl_types.specs.declared.ty.Ty.{Ty}
use Rattle.pl_code.specs.declared.kinds.Numbered.TheVariants as numbered
use Rattle.pl_code.specs.declared.kinds.Plain.TheVariants as plain
use Rattle.pl_code.specs.declared.code.FunCode.{FunCode}
use Rattle.pl_code.specs.declared.code.Instruction.TheVariants as i
use Rattle.source_meaning.specs.Tree.{Expr, Missing, Given, Finish, Program, type_of}
use Rattle.compiler_relation.specs.Representation.{Representation, Unboxed, representation_of}
use Rattle.compiler_relation.specs.Parts.{default_code, pops}
use Rattle.compiler_relation.specs.Stands.{Scope, SkipAt, UpdateAt, LastAt, EndAt, end_skip, end_update, end_last, end_end}
use Rattle.compiler_relation.specs.Placed.{untrapped}
use Rattle.codegen.specs.Checks.{denoted}
use Rattle.codegen.specs.Labels.{line_of}
use Rattle.codegen.specs.Worklist.{Item, Value, Put, Jump, Run, Flows, Skip, Update, Last, End, Stand, Trapped, IsTop, Back, turns_on, on, scope_in, next_in, whole_in}
use Rattle.codegen.specs.declared.config.Config.{Config}
use Rattle.codegen.specs.declared.config.Flow.{Flow}
use Rattle.codegen.specs.declared.work_item.Exits.{Exits}
use Rattle.codegen.proofs.Back.{planned}
use Rattle.codegen.proofs.Bodies.{same_scope}

pub finish_plan : (funs : Program) (todo : List Item) (c : Config) (exits : Option Exits) → Back funs (Run Finish exits ∷ todo) c (Flows on ∷ todo) c
finish_plan funs todo c exits = planned funs (Run Finish exits ∷ todo) c (Flows on ∷ todo) (λ f labels g n p flows whole s. (tt, (g, same_scope g, s)))

module _ (funs : Program) (todo : List Item) (c : Config) (x : Flow) (fs : List Flow) (top : IsTop c.flows x) (same : fs ≡ c.flows) where
  -- with the flow on the top, which stays there
  on_its : (before : Item) (todo' : List Item)
      → ((f : FunCode) (labels : List (Option ℕ)) (g : Scope) (n p : ℕ) (flows : List Flow) (whole : Trapped) → Stand funs (denoted c.result) f labels todo' g n p (x ∷ flows) whole → Stand funs (denoted c.result) f labels (before ∷ todo) g n p (x ∷ flows) whole)
      → Back funs (before ∷ todo) c todo' (record c { flows = fs })
  on_its before todo' h = record {
    by = λ f labels m. record {
      holds = record { lines = m.holds.lines; bound = m.holds.bound; params = m.holds.params; locals = m.holds.locals };
      stand = subst (λ (flows : List Flow). Stand funs (denoted c.result) f labels (before ∷ todo) (scope_in c) (next_in c) (length c.lines) flows (whole_in c)) (sym top.is)
          (h f labels (scope_in c) (next_in c) (length c.lines) top.rest (whole_in c) (subst (λ (flows : List Flow). Stand funs (denoted c.result) f labels todo' (scope_in c) (next_in c) (length c.lines) flows (whole_in c)) (same ∙ top.is) m.stand));
    };
  }

  pub skip_jumps : (label : ℕ) → x.falls ≡ true → Back funs (Skip label ∷ todo) c (Jump numbered.Goto label ∷ todo) (record c { flows = fs })
  skip_jumps label e = on_its (Skip label) (Jump numbered.Goto label ∷ todo)
      (λ f labels g n p flows whole s. subst (λ (b : Bool). SkipAt (untrapped f) [] b p (line_of labels label) × Stand funs (denoted c.result) f labels todo g n (end_skip b p) (x ∷ flows) whole) (sym e) s)

  pub skip_stays : (label : ℕ) → x.falls ≡ false → Back funs (Skip label ∷ todo) c todo (record c { flows = fs })
  skip_stays label e = on_its (Skip label) todo
      (λ f labels g n p flows whole s. subst (λ (b : Bool). SkipAt (untrapped f) [] b p (line_of labels label) × Stand funs (denoted c.result) f labels todo g n (end_skip b p) (x ∷ flows) whole) (sym e) (tt, s))

  pub end_gives : (of : Ty) → x.falls ≡ true → Back funs (End of ∷ todo) c (Put (default_code of) ∷ Put (i.Plain plain.Ret ∷ []) ∷ todo) (record c { flows = fs })
  end_gives of e = on_its (End of) (Put (default_code of) ∷ Put (i.Plain plain.Ret ∷ []) ∷ todo)
      (λ f labels g n p flows whole s. subst (λ (b : Bool). EndAt (untrapped f) b p of × Stand funs (denoted c.result) f labels todo g n (end_end b p of) (x ∷ flows) whole) (sym e) ((s.0, s.1.0.0), s.1.1))

  pub end_stays : (of : Ty) → x.falls ≡ false → Back funs (End of ∷ todo) c todo (record c { flows = fs })
  end_stays of e = on_its (End of) todo
      (λ f labels g n p flows whole s. subst (λ (b : Bool). EndAt (untrapped f) b p of × Stand funs (denoted c.result) f labels todo g n (end_end b p of) (x ∷ flows) whole) (sym e) (tt, s))

  pub update_goes : (a : Expr) (k : Representation) → k ≡ representation_of (type_of a) → turns_on x ≡ true → Back funs (Update (Given a) ∷ todo) c (Value a ∷ Put (pops k) ∷ todo) (record c { flows = fs })
  update_goes a k same_lie e =
      subst (λ (k : Representation). Back funs (Update (Given a) ∷ todo) c (Value a ∷ Put (pops k) ∷ todo) (record c { flows = fs })) (sym same_lie)
      (on_its (Update (Given a)) (Value a ∷ Put (pops (representation_of (type_of a))) ∷ todo)
      (λ f labels g n p flows whole s. subst (λ (b : Bool). UpdateAt funs (untrapped f) [] g b p (Given a) × Stand funs (denoted c.result) f labels todo g n (end_update b p (Given a)) (x ∷ flows) whole) (sym e) ((s.0, s.1.0), s.1.1)))

  pub update_stays : (a : Expr) → turns_on x ≡ false → Back funs (Update (Given a) ∷ todo) c todo (record c { flows = fs })
  update_stays a e = on_its (Update (Given a)) todo
      (λ f labels g n p flows whole s. subst (λ (b : Bool). UpdateAt funs (untrapped f) [] g b p (Given a) × Stand funs (denoted c.result) f labels todo g n (end_update b p (Given a)) (x ∷ flows) whole) (sym e) (tt, s))

  pub update_none : Back funs (Update Missing ∷ todo) c todo (record c { flows = fs })
  update_none = on_its (Update Missing) todo (λ f labels g n p flows whole s. nested f labels g n p flows whole (turns_on x) s)
    where
      nested : (f : FunCode) (labels : List (Option ℕ)) (g : Scope) (n p : ℕ) (flows : List Flow) (whole : Trapped) (b : Bool) → Stand funs (denoted c.result) f labels todo g n p (x ∷ flows) whole
          → UpdateAt funs (untrapped f) [] g b p Missing × Stand funs (denoted c.result) f labels todo g n (end_update b p Missing) (x ∷ flows) whole
      nested f labels g n p flows whole true s = (tt, s)
      nested f labels g n p flows whole false s = (tt, s)

  pub last_goes : (a : Expr) (label : ℕ) → representation_of (type_of a) ≡ Unboxed → turns_on x ≡ true → Back funs (Last (Given a) label ∷ todo) c (Value a ∷ Jump numbered.IfZero label ∷ todo) (record c { flows = fs })
  last_goes a label are_unboxed e = on_its (Last (Given a) label) (Value a ∷ Jump numbered.IfZero label ∷ todo)
      (λ f labels g n p flows whole s. subst (λ (b : Bool). LastAt funs (untrapped f) [] g b p (Given a) (line_of labels label) × Stand funs (denoted c.result) f labels todo g n (end_last b p (Given a)) (x ∷ flows) whole) (sym e) ((s.0, are_unboxed, s.1.0), s.1.1))

  pub last_stays : (a : Expr) (label : ℕ) → turns_on x ≡ false → Back funs (Last (Given a) label ∷ todo) c todo (record c { flows = fs })
  last_stays a label e = on_its (Last (Given a) label) todo
      (λ f labels g n p flows whole s. subst (λ (b : Bool). LastAt funs (untrapped f) [] g b p (Given a) (line_of labels label) × Stand funs (denoted c.result) f labels todo g n (end_last b p (Given a)) (x ∷ flows) whole) (sym e) (tt, s))

  pub last_none : (label : ℕ) → Back funs (Last Missing label ∷ todo) c todo (record c { flows = fs })
  last_none label = on_its (Last Missing label) todo (λ f labels g n p flows whole s. nested f labels g n p flows whole (turns_on x) s)
    where
      nested : (f : FunCode) (labels : List (Option ℕ)) (g : Scope) (n p : ℕ) (flows : List Flow) (whole : Trapped) (b : Bool) → Stand funs (denoted c.result) f labels todo g n p (x ∷ flows) whole
          → LastAt funs (untrapped f) [] g b p Missing (line_of labels label) × Stand funs (denoted c.result) f labels todo g n (end_last b p Missing) (x ∷ flows) whole
      nested f labels g n p flows whole true s = (tt, s)
      nested f labels g n p flows whole false s = (tt, s)
