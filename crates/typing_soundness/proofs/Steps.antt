-- Statements that rules give agree, where their parts do: what follows one is in the scope of what it declares.
use Rattle.std.proofs.Common.{◌≡◌, ◌≢◌, ℕ, suc, ◌+◌, Bool, true, false, List, [], ◌∷◌, ◌++◌, map, length, Option, Some, None, Ok, refl, sym, ap, ◌∙◌, subst, append-nil, append_assoc, arith, cond, nat_lt, ◌≤◌}
use Rattle.std.specs.Prelude.{not, if◌then◌else◌}
use Rattle.std.specs.List.{position_or_len}
use Rattle.std.proofs.lemmas.Bool.{false≢true, ltb-false}
use Rattle.std.specs.Str.{bytes_eq}
use Rattle.std.proofs.Math.Seq.{take-append_seam}
use Rattle.std.proofs.lemmas.Slice.Eq.{bytes_eq-Decides}
use Rattle.pl_types.specs.declared.classes.TheConstants.{EXCEPTION}
use Rattle.pl_types.specs.declared.ty.Ty.{Ty, out-Ty}
use Rattle.pl_types.specs.declared.ty.Ty.TheVariants as t
use Rattle.pl_types.specs.declared.ty.Ty.TheOpen.{Ty-F}
use Rattle.typed_tree.specs.declared.statement.StatementNode.TheVariants as node
use Rattle.typed_tree.specs.declared.statement.TypedStatement.{TypedStatement}
use Rattle.typing_rules.specs.declared.part.Part.{Part}
use Rattle.typing_rules.specs.declared.part.Step.{Step}
use Rattle.typing_rules.specs.declared.scopes.Entry.{Entry}
use Rattle.typing_rules.specs.declared.state.State.{State}
use Rattle.typing_rules.specs.Scopes.{find}
use Rattle.typing_rules.specs.State.{closed, variable as new_entry, declared_if, declared as declares}
use Rattle.typing_rules.specs.Outcomes.{refuse}
use Rattle.typing_rules.specs.Doing.{Whole, Answer, Doing}
use Rattle.typing_rules.specs.Rules.Nodes.{is_void, is_void_layer}
use Rattle.typing_rules.specs.Rules.Casts.{cast_to}
use Rattle.typing_rules.specs.Rules.Statements.{step, is_deed, deed, give_back, is_result, expression_of, break_of, continue_of, return_of, nothing_returned, throw_of}
use Rattle.source_typing.specs.Tree.{Name, Stmt, Do, Break, Continue, Return, Throw, Stmts, Then, Missing, Given}
use Rattle.source_typing.specs.Falls.{falls}
use Rattle.source_typing.specs.Programs.{Before, expr_of, alone, before}
use Rattle.source_typing.specs.Agreeing.{Known as Script, Scope, StmtAgrees, StmtsAgree, scope_of}
use Rattle.source_typing.specs.Types.{IsReference}
use Rattle.typing_soundness.proofs.Types.{void_by, class_built, built_aim, IsAim, class_reference}
use Rattle.typing_soundness.proofs.Parts.{passed, accepted, settled, cast_is}
use Rattle.typing_soundness.proofs.Names.{seen, in_sight, Fresh, Distinct, Known}
use Rattle.typing_soundness.proofs.Sentences as sentence
use Rattle.source_typing.specs.Reached.{StmtReached}
use Rattle.typing_soundness.proofs.Values.{Value, PartAt}
use Rattle.typing_soundness.proofs.Reaching.{Reaches, AloneReached, stmt_reaches, never_escapes}

-- ---- names that are declared

pub sight_grows : (es : List Entry) (e : Entry) (g : Scope) → scope_of (map seen (es ++ e ∷ [])) g ≡ seen e ∷ scope_of (map seen es) g
sight_grows [] e g = refl
sight_grows (e' ∷ es) e g = sight_grows es e (seen e' ∷ g)

-- the name of an entry
named : Name → Entry → Bool
named x e = bytes_eq e.name x

abbrev place : Bool → Name → List Entry → ℕ
place first x es = cond (not first) (1 + position_or_len (λ (e : Entry). bytes_eq e.name x) es) 0

other : (x y : Name) → bytes_eq y x ≡ false → y ≢ x
other x y differ same = absurd (false≢true (sym differ ∙ (bytes_eq-Decides y x).1 same))

none_named : (x : Name) (es : List Entry) → length es ≤ position_or_len (λ (e : Entry). bytes_eq e.name x) es → Fresh x es
none_named x [] h = tt
none_named x (e ∷ es) h = pick (none_named x es) (bytes_eq e.name x) refl h
  where
    pick : (length es ≤ position_or_len (λ (e : Entry). bytes_eq e.name x) es → Fresh x es) → (c : Bool) → bytes_eq e.name x ≡ c → suc (length es) ≤ place c x es → Fresh x (e ∷ es)
    pick rest true is h = absurd (omega (arith, h))
    pick rest false is h = (other x e.name is, rest (omega (arith, h)))

pub not_found : (x : Name) (es : List Entry) → find x es ≡ None → Fresh x es
not_found x es is = pick (nat_lt (position_or_len (λ (e : Entry). bytes_eq e.name x) es) (length es)) refl is
  where
    pick : (c : Bool) → nat_lt (position_or_len (λ (e : Entry). bytes_eq e.name x) es) (length es) ≡ c → cond c (Some (position_or_len (λ (e : Entry). bytes_eq e.name x) es)) None ≡ None → Fresh x es
    pick true less is = cc
    pick false less is = none_named x es (omega (arith, ltb-false _ _ less))

fresh_behind : (x : Name) (es : List Entry) (e : Entry) → Fresh x es → e.name ≢ x → Fresh x (es ++ e ∷ [])
fresh_behind x [] e h other = (other, tt)
fresh_behind x (e' ∷ es) e h other = (h.0, fresh_behind x es e h.1 other)

-- a name that is not in sight stands behind the others
pub distinct_behind : (es : List Entry) (e : Entry) → Distinct es → Fresh e.name es → Distinct (es ++ e ∷ [])
distinct_behind [] e d f = (tt, tt)
distinct_behind (e' ∷ es) e d f = (fresh_behind e'.name es e d.0 (λ same. f.0 (sym same)), distinct_behind es e d.1 f.1)

declares_by : (found : Option ℕ) (at : ℕ) (name : Name) (of : Ty) (s t : State) → find name s.scopes ≡ found → declared_if found at name of s ≡ Ok t → Known s → Known t
declares_by (Some i) at name of s t is e d = cc
declares_by None at name of s t is e d =
    settled Known (record s { scopes = s.scopes ++ new_entry name of ∷ [] }) t e (distinct_behind s.scopes (new_entry name of) d.0 (not_found name s.scopes is), d.1)

pub declared_known : (at : ℕ) (name : Name) (of : Ty) (s t : State) → declares at name of s ≡ Ok t → Known s → Known t
declared_known at name of s t e d = declares_by (find name s.scopes) at name of s t refl e d

-- ---- what is known behind a statement

-- more names are in sight, and nothing else has changed
pub record Grew (s t : State) : Type 0 where
  pub more : List Entry
  pub is : t ≡ record s { scopes = s.scopes ++ more }
  pub known : Known t

pub stays : (s : State) → Known s → Grew s s
stays s d = record { more = []; is = ap (λ es. record s { scopes = es }) (sym (append-nil s.scopes)); known = d }

pub grew_on : (s t u : State) → Grew s t → Grew t u → Grew s u
grew_on s t u x y = record {
  more = x.more ++ y.more;
  is = y.is ∙ (ap (λ (t : State). record t { scopes = t.scopes ++ y.more }) x.is ∙ ap (λ es. record s { scopes = es }) (append_assoc s.scopes x.more y.more));
  known = y.known;
}

-- where a scope ends, what is known is as before it
pub closes : (s t : State) → Grew s t → closed (length s.scopes) t ≡ s
closes s t x = ap (closed (length s.scopes)) x.is ∙ ap (λ es. record s { scopes = es }) (take-append_seam s.scopes x.more)

-- what statements are before others, and which may follow them
pub record Kind (A : Type 0) : Type 1 where
  pub before : A → Before
  pub reaches : A → Type 0

module _ (funs : Script) where
  -- what stands in the scope behind a statement agrees before it, with the statement
  abbrev pub Leads : State → State → Before → Type 0
  Leads s t b = (rest : Stmts) → StmtsAgree funs s.result s.looped (in_sight t.scopes) rest → StmtsAgree funs s.result s.looped (in_sight s.scopes) (b rest)

  pub record GotStep {A : Type 0} (k : Kind A) (s : State) (next : A → State → Answer) (r : Whole) : Type 0 where
    pub given : A
    pub state : State
    pub grew : Grew s state
    pub leads : Leads s state (k.before given)
    pub reaches : k.reaches given
    pub goes : next given state ≡ Ok r

  abbrev pub of_step : Kind Step
  of_step = record { before = λ x. before x.statement; reaches = λ x. Reaches x.escapes (before x.statement) }

  -- a statement that never escapes
  abbrev pub of_first : Kind Step
  of_first = record { before = λ x. before x.statement; reaches = λ x. Reaches false (before x.statement) }

  -- a statement, or several
  pub record Steps {A : Type 0} (k : Kind A) (m : Doing A) : Type 0 where
    pub by : (s : State) (next : A → State → Answer) (r : Whole) → Known s → m s next ≡ Ok r → GotStep k s next r

  pub first_is_step : {m : Doing Step} → Steps of_first m → Steps of_step m
  first_is_step v = record {
    by = λ s next r d e.
        let x = v.by s next r d e in
        record { given = x.given; state = x.state; grew = x.grew; leads = x.leads; reaches = never_escapes x.given.escapes (before x.given.statement) x.reaches; goes = x.goes };
  }

  -- a statement in a scope of its own
  abbrev pub AloneIs : State → Step → Type 0
  AloneIs s x = StmtsAgree funs s.result s.looped (in_sight s.scopes) (alone (before x.statement)) × AloneReached x.escapes (alone (before x.statement))

  abbrev pub Bodies : Doing Step → Type 0
  Bodies m = Value AloneIs m

  -- ---- one statement

  pub stmt_leads : (s : State) (x : TypedStatement) (stmt : Stmt) → ((rest : Stmts) → before x rest ≡ Then stmt rest) → StmtAgrees funs s.result s.looped (in_sight s.scopes) stmt → Leads s s (before x)
  stmt_leads s x stmt is a rest h = subst (StmtsAgree funs s.result s.looped (in_sight s.scopes)) (sym (is rest)) (a, h)

  abbrev pub StepAt : State → Step → Type 0
  StepAt s x = Leads s s (before x.statement) × Reaches x.escapes (before x.statement)

  abbrev pub FirstAt : State → Step → Type 0
  FirstAt s x = Leads s s (before x.statement) × Reaches false (before x.statement)

  pub step_at : (s : State) (x : Step) (stmt : Stmt) → ((rest : Stmts) → before x.statement rest ≡ Then stmt rest) → StmtAgrees funs s.result s.looped (in_sight s.scopes) stmt
      → StmtReached stmt → (x.escapes ≡ false → falls stmt ≡ true) → StepAt s x
  step_at s x stmt is a h f = (stmt_leads s x.statement stmt is a, stmt_reaches x.escapes (before x.statement) stmt is h f)

  -- a statement that declares nothing
  pub steps_of : {m : Doing Step} → Value StepAt m → Steps of_step m
  steps_of v = record { by = λ s next r d e. let x = v.by s next r d e in record { given = x.given; state = s; grew = stays s d; leads = x.has.0; reaches = x.has.1; goes = x.goes } }

  pub firsts_of : {m : Doing Step} → Value FirstAt m → Steps of_first m
  firsts_of v = record { by = λ s next r d e. let x = v.by s next r d e in record { given = x.given; state = s; grew = stays s d; leads = x.has.0; reaches = x.has.1; goes = x.goes } }

  deed_if : (c : Bool) (s : State) (number at : ℕ) (x y : Step) → (if c then accepted x else refuse number at) ≡ accepted y → FirstAt s x → FirstAt s y
  deed_if true s number at x y e h = settled (FirstAt s) x y e h
  deed_if false s number at x y e h = cc

  pub deed_first : (s : State) (at : ℕ) (x : Part) (y : Step) → deed at x ≡ Ok y → PartAt funs s x → FirstAt s y
  deed_first s at x y e h = deed_if (is_deed x.form) s _ at _ y e (step_at s (step false false at (node.Expression x.typed)) (Do (expr_of x.typed)) (sentence.expression_is at x.typed) h.typed.agrees tt (λ e. refl))

  deed_is : (s : State) (at : ℕ) (x : Part) (y : Step) → deed at x ≡ Ok y → PartAt funs s x → StepAt s y
  deed_is s at x y e h = let z = deed_first s at x y e h in (z.0, never_escapes y.escapes (before y.statement) z.1)

  gives_back : (s : State) (at : ℕ) (x : Part) (y : Step) → IsAim s.result → give_back at s.result x ≡ Ok y → PartAt funs s x → StepAt s y
  gives_back s at x y aim e h =
      let a = passed (cast_to s.result x) _ y e in
      let value = cast_is funs (in_sight s.scopes) s.result x a.given aim a.first h in
      settled (StepAt s) _ y a.then' (step_at s (step true false at (node.Return (Some a.given))) (Return (Given (expr_of a.given))) (sentence.return_is at (Some a.given)) (value.agrees, value.is) tt (λ e. absurd (false≢true (sym e))))

  expression_if : (c : Bool) (s : State) (at : ℕ) (x : Part) (y : Step) → IsAim s.result → (if c then give_back at s.result x else deed at x) ≡ Ok y
      → PartAt funs s x → StepAt s y
  expression_if true s at x y aim e h = gives_back s at x y aim e h
  expression_if false s at x y aim e h = deed_is s at x y e h

  pub expression_step : (s : State) (at : ℕ) (last : Bool) (x : Part) (y : Step) → IsAim s.result → expression_of at last x s ≡ Ok y → PartAt funs s x
      → StepAt s y
  expression_step s at last x y aim e h = expression_if (is_result last x s) s at x y aim e h

  pub return_step : (s : State) (at : ℕ) (x : Part) (y : Step) → IsAim s.result → return_of at x s ≡ Ok y → PartAt funs s x → StepAt s y
  return_step s at x y aim e h = gives_back s at x y aim e h

  -- what is thrown
  pub throw_step : (s : State) (at : ℕ) (x : Part) (y : Step) → throw_of at x ≡ Ok y → PartAt funs s x → StepAt s y
  throw_step s at x y e h =
      let a = passed (cast_to (t.Class EXCEPTION) x) _ y e in
      let value = cast_is funs (in_sight s.scopes) (t.Class EXCEPTION) x a.given (built_aim (t.Class EXCEPTION) (class_built EXCEPTION refl)) a.first h in
      settled (StepAt s) _ y a.then' (step_at s (step true false at (node.Throw a.given)) (Throw (expr_of a.given)) (sentence.throw_is at a.given)
      (value.agrees, subst IsReference (sym value.is) (class_reference EXCEPTION)) tt (λ e. absurd (false≢true (sym e))))

  void_is : (of : Ty) (l : Ty-F Ty) → out-Ty of ≡ l → is_void_layer l ≡ true → of ≡ t.Void
  void_is of Ty-F.Void is e = void_by of is
  void_is of Ty-F.Null is e = cc
  void_is of Ty-F.Def is e = cc
  void_is of (Ty-F.Prim p) is e = cc
  void_is of (Ty-F.Class c) is e = cc
  void_is of (Ty-F.Array u) is e = cc

  nothing_if : (c : Bool) (s : State) (number at : ℕ) (y : Step) → (c ≡ true → s.result ≡ t.Void) → (if c then accepted (step true false at (node.Return None)) else refuse number at) ≡ accepted y → StepAt s y
  nothing_if true s number at y void e = settled (StepAt s) _ y e (step_at s (step true false at (node.Return None)) (Return Missing) (sentence.return_is at None) (void refl) tt (λ e. absurd (false≢true (sym e))))
  nothing_if false s number at y void e = cc

  pub nothing_step : (s : State) (at : ℕ) (y : Step) → nothing_returned at s ≡ Ok y → StepAt s y
  nothing_step s at y e = nothing_if (is_void s.result) s _ at y (void_is s.result (out-Ty s.result) refl) e

  break_if : (c : Bool) (s : State) (number at : ℕ) (x y : Step) → (c ≡ true → StepAt s x) → (if c then accepted x else refuse number at) ≡ accepted y → StepAt s y
  break_if true s number at x y h e = settled (StepAt s) x y e (h refl)
  break_if false s number at x y h e = cc

  pub break_step : (s : State) (at : ℕ) (y : Step) → break_of at s ≡ Ok y → StepAt s y
  break_step s at y e = break_if s.looped s _ at _ y (λ looped. step_at s (step true true at node.Break) Break (sentence.break_is at) looped tt (λ e. absurd (false≢true (sym e)))) e

  pub continue_step : (s : State) (at : ℕ) (y : Step) → continue_of at s ≡ Ok y → StepAt s y
  continue_step s at y e = break_if s.looped s _ at _ y (λ looped. step_at s (step true false at node.Continue) Continue (sentence.continue_is at) looped tt (λ e. absurd (false≢true (sym e)))) e
