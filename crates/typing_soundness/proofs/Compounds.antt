-- Statements with statements in them.
use Rattle.std.proofs.Common.{◌≡◌, ℕ, Bool, true, false, List, [], ◌∷◌, ◌++◌, length, Option, Some, None, Ok, refl, sym, ap, ◌∙◌, subst}
use Rattle.std.specs.Prelude.{◌&&◌, if◌then◌else◌}
use Rattle.std.specs.List.{list_all}
use Rattle.std.proofs.lemmas.Bool.{false≢true}
use Rattle.pl_types.specs.declared.primitive.Primitive.TheVariants as prim
use Rattle.pl_types.specs.declared.ty.Ty.{Ty}
use Rattle.pl_types.specs.declared.ty.Ty.TheVariants as t
use Rattle.pl_tree.specs.declared.tree.Spelled.{Spelled}
use Rattle.pl_tree.specs.declared.tree.TypeName.{TypeName}
use Rattle.typed_tree.specs.declared.typed.Typed.{Typed}
use Rattle.typed_tree.specs.declared.statement.TypedVariable.{TypedVariable}
use Rattle.typing_rules.specs.declared.part.Caught.{Caught}
use Rattle.typing_rules.specs.declared.part.Part.{Part}
use Rattle.typing_rules.specs.declared.part.Step.{Step}
use Rattle.typing_rules.specs.declared.state.State.{State}
use Rattle.typing_rules.specs.Scopes.{find}
use Rattle.typing_rules.specs.State.{closed, variable as new_entry, declared_if, declared as declares}
use Rattle.typing_rules.specs.Outcomes.{refuse, bind}
use Rattle.typing_rules.specs.Doing.{Whole, Answer, Doing, ◌>>=◌, ◌>>◌, pure, and_then, by_rule, changing, stating}
use Rattle.typing_rules.specs.Rules.Nodes.{boolean}
use Rattle.typing_rules.specs.Rules.Types.{type_of as named_type, caught_class}
use Rattle.typing_rules.specs.Rules.Casts.{cast_to}
use Rattle.typing_rules.specs.Rules.Statements.{reached, deed, variable, variable_of, declaration_of, test, is_true, loop_test, escapes_if, last_escapes, statement_if, if_of, loop_of, do_of, block_of, statements_of, caught, caught_escapes, try_of}
use Rattle.typing_rules.specs.Typing.{scoped, looping, perhaps, Doer, Reading, is_empty, statements, variables, initial, loop_condition, loop_update, handlers}
use Rattle.source_typing.specs.Tree.{If, While, DoWhile, Try, Block, Stmts, Finish, Then, Missing}
use Rattle.source_typing.specs.Falls.{any_falls}
use Rattle.source_typing.specs.Programs.{Before, expr_of, maybe_of, alone, alone_if, declared, before}
use Rattle.source_typing.specs.Types.{IsNamed}
use Rattle.source_typing.specs.Agreeing.{Known as Script, Scope, TestAgrees, UpdateAgrees, BeginAgrees, StmtsAgree, CatchesAgree}
use Rattle.source_typing.specs.Reached.{CatchesReached}
use Rattle.typing_soundness.proofs.Types.{IsBuilt, built_values, built_aim, prim_aim}
use Rattle.typing_soundness.proofs.Parts.{passed, accepted, settled, cast_is}
use Rattle.typing_soundness.proofs.Names.{in_sight, Known}
use Rattle.typing_soundness.proofs.Sentences as sentence
use Rattle.typing_soundness.proofs.Sentences.{before_if, catches_in}
use Rattle.typing_soundness.proofs.Values.{Value, ruled, type_is, caught_named, PartAt, ReadingIs}
use Rattle.typing_soundness.proofs.Steps.{Grew, stays, grew_on, closes, sight_grows, not_found, distinct_behind, Kind, Leads, of_step, of_first, Steps, Bodies, step_at, StepAt}
use Rattle.typing_soundness.proofs.Reaching.{Reaches, AloneReached, alone_reached, nothing_alone, stmt_reaches, declared_reaches, one_falls, in_a_row, nothing_reaches, by_any, none_escapes, row_reaches}

module _ (funs : Script) where
  -- ---- tests, updates, first values

  abbrev pub TestAt : State → Option Typed → Type 0
  TestAt s o = TestAgrees funs (in_sight s.scopes) (maybe_of o)

  test_if : (c : Bool) (s : State) (x : Part) (o : Option Typed) → (if c then accepted None else bind (cast_to boolean x) (λ y. accepted (Some y))) ≡ accepted o → PartAt funs s x → TestAt s o
  test_if true s x o e h = settled (TestAt s) None o e tt
  test_if false s x o e h =
      let a = passed (cast_to boolean x) _ o e in
      let value = cast_is funs (in_sight s.scopes) boolean x a.given (prim_aim prim.Boolean) a.first h in
      settled (TestAt s) (Some a.given) o a.then' (value.agrees, value.is)

  pub condition_is : (x : Reading) → ReadingIs funs x → Value TestAt (loop_condition (Some x))
  condition_is x h = record {
    by = λ s next r d e.
        let a = h.value.by s (λ a t. by_rule (loop_test a) t next) r d e in
        let b = ruled (loop_test a.given) (λ o. next o s) r a.goes in
        record { given = b.given; has = test_if (is_true a.given.form) s a.given b.given b.has a.has; goes = b.goes };
  }

  pub no_condition : Value TestAt (loop_condition None)
  no_condition = record { by = λ s next r d e. record { given = None; has = tt; goes = e } }

  abbrev pub UpdateAt : State → Option Typed → Type 0
  UpdateAt s o = UpdateAgrees funs (in_sight s.scopes) (maybe_of o)

  pub update_is : (x : Reading) → ReadingIs funs x → Value UpdateAt (loop_update (Some x))
  update_is x h = record {
    by = λ s next r d e.
        let a = h.value.by s (λ a t. and_then (deed x.first a) (λ y. next (Some a.typed) t)) r d e in
        let b = ruled (deed x.first a.given) (λ y. next (Some a.given.typed) s) r a.goes in
        record { given = Some a.given.typed; has = a.has.typed.agrees; goes = b.goes };
  }

  pub no_update : Value UpdateAt (loop_update None)
  no_update = record { by = λ s next r d e. record { given = None; has = tt; goes = e } }

  -- ---- scopes and loops

  -- statements in a scope of their own, and whether they escape
  abbrev pub RunsAlone : {A : Type 0} → (A → Stmts) → (A → Bool) → State → A → Type 0
  RunsAlone b escapes s x = StmtsAgree funs s.result s.looped (in_sight s.scopes) (b x) × AloneReached (escapes x) (b x)

  abbrev pub RunsLooped : {A : Type 0} → (A → Stmts) → (A → Bool) → State → A → Type 0
  RunsLooped b escapes s x = StmtsAgree funs s.result true (in_sight s.scopes) (b x) × AloneReached (escapes x) (b x)

  pub scoped_is : {A : Type 0} (k : Kind A) (escapes : A → Bool) → ((a : A) → k.reaches a → Reaches (escapes a) (k.before a)) → {m : Doing A} → Steps funs k m → Value (RunsAlone (λ x. k.before x Finish) escapes) (scoped m)
  scoped_is k escapes told x = record {
    by = λ s next r d e.
        let a = x.by s (λ a t. next a (closed (length s.scopes) t)) r d e in
        record {
          given = a.given;
          has = (a.leads Finish tt, alone_reached (escapes a.given) (k.before a.given) (told a.given a.reaches));
          goes = subst (λ t. next a.given t ≡ Ok r) (closes s a.state a.grew) a.goes;
        };
  }

  pub looping_is : {A : Type 0} (b : A → Stmts) (escapes : A → Bool) {m : Doing A} → Value (RunsAlone b escapes) m → Value (RunsLooped b escapes) (looping m)
  looping_is b escapes x = record {
    by = λ s next r d e.
        let a = x.by (record s { looped = true }) (λ a t. next a (record t { looped = s.looped })) r d e in
        record { given = a.given; has = a.has; goes = a.goes };
  }

  abbrev pub stmts_if : Option Step → Stmts
  stmts_if o = alone_if (before_if (statement_if o))

  pub perhaps_some : {m : Doing Step} → Bodies funs m → Value (RunsAlone stmts_if escapes_if) (perhaps (Some m))
  perhaps_some x = record {
    by = λ s next r d e.
        let a = x.by s (λ a t. next (Some a) t) r d e in
        record { given = Some a.given; has = a.has; goes = a.goes };
  }

  pub perhaps_none : Value (RunsAlone stmts_if escapes_if) (perhaps None)
  perhaps_none = record { by = λ s next r d e. record { given = None; has = (tt, nothing_alone); goes = e } }

  abbrev pub row : Kind (List Step)
  row = record { before = in_a_row; reaches = λ ys. Reaches (last_escapes ys) (in_a_row ys) }

  block_reaches : (at : ℕ) (ys : List Step) → AloneReached (last_escapes ys) (in_a_row ys Finish) → Reaches (last_escapes ys) (before (block_of at ys).statement)
  block_reaches at ys h = stmt_reaches (last_escapes ys) (before (block_of at ys).statement) (Block (in_a_row ys Finish)) (sentence.block_is at (statements_of ys)) h.reached h.falling

  scoped_row : {m : Doing (List Step)} → Steps funs row m → Value (RunsAlone (λ ys. in_a_row ys Finish) last_escapes) (scoped m)
  scoped_row x = scoped_is row last_escapes (λ ys h. h) x

  -- a block in a scope of its own
  pub block_body : (at : ℕ) {m : Doing (List Step)} → Steps funs row m → Bodies funs (scoped m >>= (λ ys. pure (block_of at ys)))
  block_body at x = record {
    by = λ s next r d e.
        let a = (scoped_row x).by s (λ ys t. next (block_of at ys) t) r d e in
        record {
          given = block_of at a.given;
          has = (
            subst (StmtsAgree funs s.result s.looped (in_sight s.scopes)) (sym (sentence.block_is at (statements_of a.given) Finish)) (a.has.0, tt),
            alone_reached (last_escapes a.given) (before (block_of at a.given).statement) (block_reaches at a.given a.has.1),
          );
          goes = a.goes;
        };
  }

  -- ---- if and loops

  pub if_step : (at : ℕ) (x : Reading) {m : Doing Step} {n : Doing (Option Step)} → ReadingIs funs x → Bodies funs m → Value (RunsAlone stmts_if escapes_if) n
      → Value (StepAt funs) (x.value >>= (λ x. by_rule (test x) >>= (λ x. m >>= (λ y. n >>= (λ n. pure (if_of at x y n))))))
  if_step at x {m = m} {n = n} hx hm hn = record {
    by = λ s next r d e.
        let a = hx.value.by s _ r d e in
        let b = ruled (test a.given) (λ x. (m >>= (λ y. n >>= (λ n. pure (if_of at x y n)))) s next) r a.goes in
        let value = cast_is funs (in_sight s.scopes) boolean a.given b.given (prim_aim prim.Boolean) b.has a.has in
        let y = hm.by s (λ y t. n t (λ n t. next (if_of at b.given y n) t)) r d b.goes in
        let z = hn.by s (λ n t. next (if_of at b.given y.given n) t) r d y.goes in
        record {
          given = if_of at b.given y.given z.given;
          has = step_at funs s (if_of at b.given y.given z.given) (If (expr_of b.given) (alone (before y.given.statement)) (stmts_if z.given))
              (sentence.if_is at b.given y.given.statement (statement_if z.given)) (value.agrees, value.is, y.has.0, z.has.0) (y.has.1.reached, z.has.1.reached)
              (one_falls y.given.escapes (escapes_if z.given) _ _ y.has.1.falling z.has.1.falling);
          goes = z.goes;
        };
  }

  pub while_step : (at : ℕ) {c : Doing (Option Typed)} {n : Doing (Option Step)} → Value TestAt c → Value (RunsAlone stmts_if escapes_if) n
      → Value (StepAt funs) (c >>= (λ c. looping n >>= (λ y. pure (loop_of at None c None y))))
  while_step at {n = n} hc hn = record {
    by = λ s next r d e.
        let c = hc.by s (λ c t. looping n t (λ y t. next (loop_of at None c None y) t)) r d e in
        let y = (looping_is stmts_if escapes_if hn).by s (λ y t. next (loop_of at None c.given None y) t) r d c.goes in
        record {
          given = loop_of at None c.given None y.given;
          has = step_at funs s (loop_of at None c.given None y.given) (While (maybe_of c.given) Missing (stmts_if y.given)) (sentence.loop_is at None c.given None (statement_if y.given)) (c.has, tt, y.has.0) y.has.1.reached (λ e. refl);
          goes = y.goes;
        };
  }

  -- a `for` without a first part, and one with one
  pub for_step : (at : ℕ) {c u : Doing (Option Typed)} {n : Doing (Option Step)} → Value TestAt c → Value UpdateAt u → Value (RunsAlone stmts_if escapes_if) n
      → Value (StepAt funs) (scoped (perhaps None >>= (λ f. c >>= (λ c. u >>= (λ u. looping n >>= (λ y. pure (loop_of at f c u y)))))))
  for_step at {u = u} {n = n} hc hu hn = record {
    by = λ s next r d e.
        let last : Step → State → Answer = λ x t. next x (closed (length s.scopes) t) in
        let c = hc.by s (λ c t. u t (λ u t. looping n t (λ y t. last (loop_of at None c u y) t))) r d e in
        let v = hu.by s (λ u t. looping n t (λ y t. last (loop_of at None c.given u y) t)) r d c.goes in
        let y = (looping_is stmts_if escapes_if hn).by s (λ y t. last (loop_of at None c.given v.given y) t) r d v.goes in
        record {
          given = loop_of at None c.given v.given y.given;
          has = step_at funs s (loop_of at None c.given v.given y.given) (While (maybe_of c.given) (maybe_of v.given) (stmts_if y.given)) (sentence.loop_is at None c.given v.given (statement_if y.given)) (c.has, v.has, y.has.0) y.has.1.reached (λ e. refl);
          goes = subst (λ t. next (loop_of at None c.given v.given y.given) t ≡ Ok r) (closes s s (stays s d)) y.goes;
        };
  }

  -- what a part knows of the loop's results and the function's result is what is known around it
  same_result : (s t : State) → Grew s t → t.result ≡ s.result
  same_result s t x = ap (λ t. t.result) x.is

  same_looped : (s t : State) → Grew s t → t.looped ≡ s.looped
  same_looped s t x = ap (λ t. t.looped) x.is

  pub brought : (s t : State) (xs : Stmts) → Grew s t → StmtsAgree funs t.result t.looped (in_sight t.scopes) xs → StmtsAgree funs s.result s.looped (in_sight t.scopes) xs
  brought s t xs x h =
      subst (λ of. StmtsAgree funs of s.looped (in_sight t.scopes) xs) (same_result s t x) (subst (λ c. StmtsAgree funs t.result c (in_sight t.scopes) xs) (same_looped s t x) h)

  pub taken : (s t u : State) (xs : Stmts) → Grew s t → StmtsAgree funs s.result s.looped (in_sight u.scopes) xs → StmtsAgree funs t.result t.looped (in_sight u.scopes) xs
  taken s t u xs x h =
      subst (λ of. StmtsAgree funs of t.looped (in_sight u.scopes) xs) (sym (same_result s t x)) (subst (λ c. StmtsAgree funs s.result c (in_sight u.scopes) xs) (sym (same_looped s t x)) h)

  pub for_first_step : (at : ℕ) {f : Doing Step} {c u : Doing (Option Typed)} {n : Doing (Option Step)} → Steps funs (of_first funs) f → Value TestAt c → Value UpdateAt u → Value (RunsAlone stmts_if escapes_if) n
      → Value (StepAt funs) (scoped (perhaps (Some f) >>= (λ f. c >>= (λ c. u >>= (λ u. looping n >>= (λ y. pure (loop_of at f c u y)))))))
  for_first_step at {c = c'} {u = u} {n = n} hf hc hu hn = record {
    by = λ s next r d e.
        let last : Step → State → Answer = λ x t. next x (closed (length s.scopes) t) in
        let f = hf.by s (λ f t. c' t (λ c t. u t (λ u t. looping n t (λ y t. last (loop_of at (Some f) c u y) t)))) r d e in
        let t = f.state in
        let c = hc.by t (λ c t. u t (λ u t. looping n t (λ y t. last (loop_of at (Some f.given) c u y) t))) r f.grew.known f.goes in
        let v = hu.by t (λ u t. looping n t (λ y t. last (loop_of at (Some f.given) c.given u y) t)) r f.grew.known c.goes in
        let y = (looping_is stmts_if escapes_if hn).by t (λ y t. last (loop_of at (Some f.given) c.given v.given y) t) r f.grew.known v.goes in
        let loop = While (maybe_of c.given) (maybe_of v.given) (stmts_if y.given) in
        let body = f.leads (Then loop Finish) (brought s t (Then loop Finish) f.grew ((c.has, v.has, y.has.0), tt)) in
        let reached = f.reaches.reached (Then loop Finish) (y.has.1.reached, tt, tt) (by_any {rest = Then loop Finish}) in
        record {
          given = loop_of at (Some f.given) c.given v.given y.given;
          has = step_at funs s (loop_of at (Some f.given) c.given v.given y.given) (Block (before f.given.statement (Then loop Finish))) (sentence.loop_is at (Some f.given.statement) c.given v.given (statement_if y.given)) body reached (λ e. f.reaches.falling refl (Then loop Finish));
          goes = subst (λ t. next (loop_of at (Some f.given) c.given v.given y.given) t ≡ Ok r) (closes s t f.grew) y.goes;
        };
  }

  pub do_step : (at block_at : ℕ) {m : Doing (List Step)} {c : Doing (Option Typed)} → Steps funs row m → Value TestAt c
      → Value (StepAt funs) (looping (scoped m) >>= (λ ys. c >>= (λ c. pure (do_of at (block_of block_at ys) c))))
  do_step at block_at {c = c'} hm hc = record {
    by = λ s next r d e.
        let a = (looping_is (λ ys. in_a_row ys Finish) last_escapes (scoped_row hm)).by s (λ ys t. c' t (λ c t. next (do_of at (block_of block_at ys) c) t)) r d e in
        let c = hc.by s (λ c t. next (do_of at (block_of block_at a.given) c) t) r d a.goes in
        let block = (block_of block_at a.given).statement in
        record {
          given = do_of at (block_of block_at a.given) c.given;
          has = step_at funs s (do_of at (block_of block_at a.given) c.given) (DoWhile (alone (before block)) (maybe_of c.given)) (sentence.do_is at block c.given)
              (subst (StmtsAgree funs s.result true (in_sight s.scopes)) (sym (sentence.block_is block_at (statements_of a.given) Finish)) (a.has.0, tt), c.has)
              (alone_reached (last_escapes a.given) (before block) (block_reaches block_at a.given a.has.1)).reached (λ e. refl);
          goes = c.goes;
        };
  }

  -- ---- statements in a row

  leads_on : (s t u : State) (b c : Before) → Grew s t → Leads funs s t b → Leads funs t u c → Leads funs s u (λ rest. b (c rest))
  leads_on s t u b c x f g rest h = f (c rest) (brought s t (c rest) x (g rest (taken s t u rest x h)))

  abbrev pub AllSteps : List Doer → Type 0
  AllSteps [] = Unit {0}
  AllSteps (x ∷ xs) = ((last : Bool) → Steps funs (of_step funs) (x.typed last)) × AllSteps xs

  reached_if : (c : Bool) (number at : ℕ) (x y : Step) → (if c then refuse number at else accepted x) ≡ accepted y → (x ≡ y) × (c ≡ false)
  reached_if true number at x y e = cc
  reached_if false number at x y e = (cc, refl)

  -- statements behind one that escapes or does not
  abbrev pub row_behind : Bool → Kind (List Step)
  row_behind after = record { before = in_a_row; reaches = λ ys. Reaches (last_escapes ys) (in_a_row ys) × (after ≡ true → ys ≡ []) }

  pub statements_are : (in_main after : Bool) (xs : List Doer) → AllSteps xs → Steps funs (row_behind after) (statements in_main after xs)
  statements_are in_main after [] h = record { by = λ s next r d e. record { given = []; state = s; grew = stays s d; leads = λ rest h. h; reaches = (nothing_reaches, λ e. refl); goes = e } }
  statements_are in_main after (x ∷ xs) h = record {
    by = λ s next r d e.
        let a = (h.0 (in_main && is_empty xs)).by s
        (λ x' t. and_then (reached after x.at x') (λ y. statements in_main y.escapes xs t (λ ys t. next (y ∷ ys) t))) r d e in
        let b = ruled (reached after x.at a.given) (λ y. statements in_main y.escapes xs a.state (λ ys t. next (y ∷ ys) t)) r a.goes in
        let same = reached_if after _ x.at a.given b.given b.has in
        let rest = (statements_are in_main b.given.escapes xs h.1).by a.state (λ ys t. next (b.given ∷ ys) t) r a.grew.known b.goes in
        record {
          given = b.given ∷ rest.given;
          state = rest.state;
          grew = grew_on s a.state rest.state a.grew rest.grew;
          leads = subst (λ (y : Step). Leads funs s rest.state (in_a_row (y ∷ rest.given))) same.0
              (leads_on s a.state rest.state (before a.given.statement) (in_a_row rest.given) a.grew a.leads rest.leads);
          reaches = (
            row_reaches b.given rest.given (subst (λ (y : Step). Reaches y.escapes (before y.statement)) same.0 a.reaches) rest.reaches.1 rest.reaches.0,
            λ e. none_escapes {ys = b.given ∷ rest.given} (sym e ∙ same.1),
          );
          goes = rest.goes;
        };
  }

  pub block_steps : (xs : List Doer) → AllSteps xs → Steps funs row (statements false false xs)
  block_steps xs h = record {
    by = λ s next r d e.
        let a = (statements_are false false xs h).by s next r d e in
        record { given = a.given; state = a.state; grew = a.grew; leads = a.leads; reaches = a.reaches.0; goes = a.goes };
  }

  -- ---- declarations

  abbrev pub BeginAt : Ty → State → Option Typed → Type 0
  BeginAt of s o = BeginAgrees funs (in_sight s.scopes) (maybe_of o) of

  pub initial_some : (of : Ty) {m : Doing Part} → IsBuilt of → Value (PartAt funs) m → Value (BeginAt of) (initial of (Some m))
  initial_some of p h = record {
    by = λ s next r d e.
        let a = h.by s (λ x t. and_then (cast_to of x) (λ y. next (Some y) t)) r d e in
        let b = ruled (cast_to of a.given) (λ y. next (Some y) s) r a.goes in
        let value = cast_is funs (in_sight s.scopes) of a.given b.given (built_aim of p) b.has a.has in
        record { given = Some b.given; has = (value.agrees, value.is); goes = b.goes };
  }

  pub initial_none : (of : Ty) → Value (BeginAt of) (initial of None)
  initial_none of = record { by = λ s next r d e. record { given = None; has = tt; goes = e } }

  abbrev pub one_variable : Kind TypedVariable
  one_variable = record { before = λ x. declared (x ∷ []); reaches = λ x. Unit {0} }

  abbrev pub some_variables : Kind (List TypedVariable)
  some_variables = record { before = declared; reaches = λ xs. Unit {0} }

  pub record Declared (s t : State) (name : Spelled) (of : Ty) : Type 0 where
    pub is : t ≡ record s { scopes = s.scopes ++ new_entry name.spelling of ∷ [] }
    pub known : Known t

  pub declared_by : (found : Option ℕ) (s t : State) (name : Spelled) (of : Ty) → find name.spelling s.scopes ≡ found
      → declared_if found name.at name.spelling of s ≡ Ok t → Known s → Declared s t name of
  declared_by (Some i) s t name of is e d = cc
  declared_by None s t name of is e d =
      settled (λ t. Declared s t name of) (record s { scopes = s.scopes ++ new_entry name.spelling of ∷ [] }) t e
      (record { is = refl; known = (distinct_behind s.scopes (new_entry name.spelling of) d.0 (not_found name.spelling s.scopes is), d.1) })

  pub declared_grew : (s t : State) (name : Spelled) (of : Ty) → Declared s t name of → Grew s t
  declared_grew s t name of x = record { more = new_entry name.spelling of ∷ []; is = x.is; known = x.known }

  declared_sight : (s t : State) (name : Spelled) (of : Ty) → Declared s t name of → in_sight t.scopes ≡ record { name = name.spelling; of = of } ∷ in_sight s.scopes
  declared_sight s t name of x = ap (λ (t : State). in_sight t.scopes) x.is ∙ sight_grows s.scopes (new_entry name.spelling of) []

  pub variable_is : (name : Spelled) (of : Ty) {m : Doing (Option Typed)} → IsBuilt of → Value (BeginAt of) m
      → Steps funs one_variable (m >>= (λ x. stating (variable_of name of x)))
  variable_is name of p h = record {
    by = λ s next r d e.
        let a = h.by s (λ x t. stating (variable_of name of x) t next) r d e in
        let b = ruled (variable_of name of a.given s) (λ p. next p.0 p.1) r a.goes in
        let c = passed (declares name.at name.spelling of s) (λ t. accepted (variable name of a.given, t)) b.given b.has in
        let made = declared_by (find name.spelling s.scopes) s c.given name of refl c.first d in
        let goes : next (variable name of a.given) c.given ≡ Ok r = settled (λ (p : TypedVariable × State). next p.0 p.1 ≡ Ok r) _ _ (sym c.then') b.goes in
        record {
          given = variable name of a.given;
          state = c.given;
          grew = declared_grew s c.given name of made;
          leads = λ rest h. (a.has, built_values of p, subst (λ g. StmtsAgree funs s.result s.looped g rest) (declared_sight s c.given name of made) h);
          reaches = tt;
          goes = goes;
        };
  }

  abbrev pub AllVariables : Ty → List (Ty → Doing TypedVariable) → Type 0
  AllVariables of [] = Unit {0}
  AllVariables of (m ∷ ms) = Steps funs one_variable (m of) × AllVariables of ms

  pub variables_are : (of : Ty) (ms : List (Ty → Doing TypedVariable)) → AllVariables of ms → Steps funs some_variables (variables of ms)
  variables_are of [] h = record { by = λ s next r d e. record { given = []; state = s; grew = stays s d; leads = λ rest h. h; reaches = tt; goes = e } }
  variables_are of (m ∷ ms) h = record {
    by = λ s next r d e.
        let a = h.0.by s (λ x t. variables of ms t (λ xs t. next (x ∷ xs) t)) r d e in
        let rest = (variables_are of ms h.1).by a.state (λ xs t. next (a.given ∷ xs) t) r a.grew.known a.goes in
        record {
          given = a.given ∷ rest.given;
          state = rest.state;
          grew = grew_on s a.state rest.state a.grew rest.grew;
          leads = leads_on s a.state rest.state (declared (a.given ∷ [])) (declared rest.given) a.grew a.leads rest.leads;
          reaches = tt;
          goes = rest.goes;
        };
  }

  pub declaration_step : (at : ℕ) (of : TypeName) (ms : List (Ty → Doing TypedVariable)) → ((of : Ty) → IsBuilt of → AllVariables of ms)
      → Steps funs (of_first funs) (by_rule (named_type of) >>= (λ of. variables of ms >>= (λ vs. pure (declaration_of at vs))))
  declaration_step at of ms h = record {
    by = λ s next r d e.
        let a = ruled (named_type of) (λ of. variables of ms s (λ vs t. next (declaration_of at vs) t)) r e in
        let vs = (variables_are a.given ms (h a.given (type_is of a.given a.has))).by s (λ vs t. next (declaration_of at vs) t) r d a.goes in
        record {
          given = declaration_of at vs.given;
          state = vs.state;
          grew = vs.grew;
          leads = λ rest h. subst (StmtsAgree funs s.result s.looped (in_sight s.scopes)) (sym (sentence.declare_is at vs.given rest)) (vs.leads rest h);
          reaches = declared_reaches (before (declaration_of at vs.given).statement) vs.given (sentence.declare_is at vs.given);
          goes = vs.goes;
        };
  }

  -- ---- try

  -- a catch in the scope around it
  pub record CaughtAt (s : State) (x : Caught) : Type 0 where
    pub named : IsNamed (t.Class x.class)
    pub agrees : StmtsAgree funs s.result s.looped (record { name = x.name; of = t.Class x.class } ∷ in_sight s.scopes) (alone (before x.body.statement))
    pub reached : AloneReached x.body.escapes (alone (before x.body.statement))

  -- catches in the scope around them: one falls, where not all escape
  pub record CatchesAt (s : State) (xs : List Caught) : Type 0 where
    pub agree : CatchesAgree funs s.result s.looped (in_sight s.scopes) (catches_in xs)
    pub reached : CatchesReached (catches_in xs)
    pub falling : list_all caught_escapes xs ≡ false → any_falls (catches_in xs) ≡ true

  no_catches : (s : State) → CatchesAt s []
  no_catches s = record { agree = tt; reached = tt; falling = λ e. absurd (false≢true (sym e)) }

  more_catches : (s : State) (x : Caught) (xs : List Caught) → CaughtAt s x → CatchesAt s xs → CatchesAt s (x ∷ xs)
  more_catches s x xs h hs = record {
    agree = (h.named, h.agrees, hs.agree);
    reached = (h.reached.reached, hs.reached);
    falling = one_falls x.body.escapes (list_all caught_escapes xs) _ _ h.reached.falling hs.falling;
  }

  abbrev handler : (at block_at class : ℕ) (name : Spelled) → List Step → Caught
  handler at block_at class name ys = caught at class name.spelling (block_of block_at ys)

  -- a block, in the scope of the name of its catch
  caught_is : (s after u : State) (at block_at class : ℕ) (name : Spelled) (ys : List Step) → IsNamed (t.Class class) → Declared s after name (t.Class class)
      → Leads funs after u (in_a_row ys) → Reaches (last_escapes ys) (in_a_row ys) → CaughtAt s (handler at block_at class name ys)
  caught_is s after u at block_at class name ys n x leads reaches =
      let g : Scope = record { name = name.spelling; of = t.Class class } ∷ in_sight s.scopes in
      let inside = brought s after (in_a_row ys Finish) (declared_grew s after name (t.Class class) x) (leads Finish tt) in
      let agrees = subst (λ g. StmtsAgree funs s.result s.looped g (in_a_row ys Finish)) (declared_sight s after name (t.Class class) x) inside in
      record {
        named = n;
        agrees = subst (StmtsAgree funs s.result s.looped g) (sym (sentence.block_is block_at (statements_of ys) Finish)) (agrees, tt);
        reached = alone_reached (last_escapes ys) (before (block_of block_at ys).statement) (block_reaches block_at ys (alone_reached (last_escapes ys) (in_a_row ys) reaches));
      }

  behind_scope : {A : Type 0} (s u : State) (next : A → State → Answer) (x : A) (r : Whole) → Grew s u → next x (closed (length s.scopes) u) ≡ Ok r → next x s ≡ Ok r
  behind_scope s u next x r g e = subst (λ t. next x t ≡ Ok r) (closes s u g) e

  pub catch_value : (at block_at : ℕ) (of : TypeName) (name : Spelled) {m : Doing (List Step)} → Steps funs row m
      → Value CaughtAt (by_rule (caught_class of) >>= (λ class. scoped (changing (declares name.at name.spelling (t.Class class)) >> (m >>= (λ ys. pure (handler at block_at class name ys))))))
  catch_value at block_at of name {m = m} h = record {
    by = λ s next r d e.
        let last : Caught → State → Answer = λ x t. next x (closed (length s.scopes) t) in
        let a = ruled (caught_class of) (λ class. and_then (declares name.at name.spelling (t.Class class) s) (λ t. m t (λ ys t. last (handler at block_at class name ys) t))) r e in
        let b = ruled (declares name.at name.spelling (t.Class a.given) s) (λ t. m t (λ ys t. last (handler at block_at a.given name ys) t)) r a.goes in
        let made = declared_by (find name.spelling s.scopes) s b.given name (t.Class a.given) refl b.has d in
        let ys = h.by b.given (λ ys t. last (handler at block_at a.given name ys) t) r made.known b.goes in
        let grew = grew_on s b.given ys.state (declared_grew s b.given name (t.Class a.given) made) ys.grew in
        record {
          given = handler at block_at a.given name ys.given;
          has = caught_is s b.given ys.state at block_at a.given name ys.given (caught_named of a.given a.has) made ys.leads ys.reaches;
          goes = behind_scope s ys.state next (handler at block_at a.given name ys.given) r grew ys.goes;
        };
  }

  abbrev pub AllCatches : List (Doing Caught) → Type 0
  AllCatches [] = Unit {0}
  AllCatches (m ∷ ms) = Value CaughtAt m × AllCatches ms

  pub catches_value : (ms : List (Doing Caught)) → AllCatches ms → Value CatchesAt (handlers ms)
  catches_value [] h = record { by = λ s next r d e. record { given = []; has = no_catches s; goes = e } }
  catches_value (m ∷ ms) h = record {
    by = λ s next r d e.
        let a = h.0.by s (λ x t. handlers ms t (λ xs t. next (x ∷ xs) t)) r d e in
        let rest = (catches_value ms h.1).by s (λ xs t. next (a.given ∷ xs) t) r d a.goes in
        record { given = a.given ∷ rest.given; has = more_catches s a.given rest.given a.has rest.has; goes = rest.goes };
  }

  pub try_step : (at block_at : ℕ) {m : Doing (List Step)} (ms : List (Doing Caught)) → Steps funs row m → AllCatches ms
      → Value (StepAt funs) (scoped m >>= (λ ys. handlers ms >>= (λ xs. pure (try_of at (block_of block_at ys) xs))))
  try_step at block_at ms hm hs = record {
    by = λ s next r d e.
        let a = (scoped_row hm).by s (λ ys t. handlers ms t (λ xs t. next (try_of at (block_of block_at ys) xs) t)) r d e in
        let c = (catches_value ms hs).by s (λ xs t. next (try_of at (block_of block_at a.given) xs) t) r d a.goes in
        let block = (block_of block_at a.given).statement in
        let body = alone_reached (last_escapes a.given) (before block) (block_reaches block_at a.given a.has.1) in
        record {
          given = try_of at (block_of block_at a.given) c.given;
          has = step_at funs s (try_of at (block_of block_at a.given) c.given) (Try (alone (before block)) (catches_in c.given)) (sentence.try_is at block c.given)
              (subst (StmtsAgree funs s.result s.looped (in_sight s.scopes)) (sym (sentence.block_is block_at (statements_of a.given) Finish)) (a.has.0, tt), c.has.agree)
              (body.reached, c.has.reached) (one_falls (last_escapes a.given) (list_all caught_escapes c.given) _ _ body.falling c.has.falling);
          goes = c.goes;
        };
  }
