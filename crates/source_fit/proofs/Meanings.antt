-- Each expression and each statement keeps a run within its rules.
use Rattle.std.proofs.Common.{◌≡◌, ℕ, zero, suc, ◌≤◌, Bool, true, false, List, [], ◌∷◌, ◌++◌, Option, Some, None, sym, subst, arith}
use Rattle.std.specs.Prelude.{slice_get, length, if◌then◌else◌}
use Rattle.pl_types.specs.declared.ty.Ty.{Ty}
use Rattle.allowlist.specs.Allow.{AllowList, flag}
use Rattle.allowlist.specs.Index.{member_in}
use Rattle.allowlist.specs.declared.member.MemberType.{MemberType}
use Rattle.object_values.specs.declared.object.Object.{Object}
use Rattle.object_values.specs.declared.object.Owner.{Owner}
use Rattle.object_values.specs.declared.value.Value.{Value}
use Rattle.object_values.specs.declared.value.Value.TheVariants as v
use Rattle.object_heap.specs.Effects.{Effect}
use Rattle.object_heap.specs.Fits.{Rules, Fits, ValueFits, AllFit, ThrownFits}
use Rattle.object_heap.specs.Store.{Store}
use Rattle.typed_tree.specs.declared.operation.Member.{Member}
use Rattle.typed_tree.specs.declared.operation.Operation.{Operation}
use Rattle.typed_tree.specs.declared.operation.Operation.TheVariants as operation
use Rattle.typed_tree.specs.declared.operation.Logical.{Logical}
use Rattle.typed_tree.specs.declared.operation.Logical.TheVariants.{And, Or}
use Rattle.typed_tree.specs.declared.operation.Target.{Target}
use Rattle.typed_tree.specs.declared.operation.Target.TheVariants as target
use Rattle.typed_tree.specs.declared.operation.Change.{Change}
use Rattle.typed_tree.specs.declared.operation.Gives.{Gives as Given_by}
use Rattle.number_ops.specs.Casts.{cast_at_run_time}
use Rattle.number_ops.specs.Operators.{is_null}
use Rattle.number_ops.specs.Outcomes as outcomes
use Rattle.number_ops.specs.Relations.{thrown}
use Rattle.run_fit.specs.ContainerCallsLaws.{StillThere}
use Rattle.run_fit.specs.Members.{does}
use Rattle.run_state.specs.Calls.{suits_member, wrong_class}
use Rattle.run_state.specs.World.{World, Limits, Arose, Outcome, Given, Raised, Full, acts_in, Counted, Counts, Passes, allowed_in, has_loop_limit, take_turn, enter, pay_member}
use Rattle.run_fit.specs.Laws.{DoneFits}
use Rattle.run_fit.specs.Worlds.{WorldFits, count_in, OutcomeFits}
use Rattle.run_fit.proofs.Containers.{AccessFits, index_read_fits, index_written_fits, name_read_fits, name_written_fits, method_called_fits}
use Rattle.run_fit.proofs.Counted.{SameStore, turn_keeps, call_keeps, member_keeps}
use Rattle.run_fit.proofs.Effects.{outcomes_fit, casts_fit, members_fit, throwing_fits}
use Rattle.run_fit.proofs.Values.{value_grows, values_grow}
use Rattle.run_fit.specs.Access.{Access, Calls, Acts as Does, index_read, index_written, name_read, name_written, method_called}
use Rattle.source_meaning.specs.Tree.{Name, Expr, Literal, Quoted, Local, Apply, Guarded, Logic, Conditional, Elvis, Assign, Modify, Lambda, Reference, NewReference, Exprs, None', One, Maybe, Missing, Given as Present, Stmt, Do, If, While, DoWhile, Try, Block, Break, Continue, Return, Throw, Stmts, Finish, Then, Declare, Catches, NoCatch, Catch, Fun, Programs, functions_in}
use Rattle.source_meaning.specs.Operating.{Operated, Meaningless, Gives, Acts, operates, operates_to, casts, passed_result}
use Rattle.source_meaning.specs.Members.{Sending, Unsent, OnNull, Sends, Reads, sent}
use Rattle.source_meaning.specs.Meaning.{State, Env, Place, Out, Done, Thrown, Over, More, Flow, Normal, Broke, Continued, Returned, bind, leave, lookup, entry, found, effect, operated, choose, goes_next, goes_again, is_of_class, returned, back, cast_each, casts_due, Meaning, entered, called, acted, paid, tested, member_called, member_applied, of_member, accessed, method_applied, name_applied, name_put, index_applied, index_put, applied, logic, changed, modified, written, modified_at, given_by, expr_of, exprs_of, value_if, turned, done_turn, caught, handled, stmt_of, value_or, stmts_of, layer, meaning}
use Rattle.source_fit.specs.Laws.{MeaningFits, MeaningsFit}
use Rattle.source_fit.specs.Outs.{EnvFits, StateFits, FlowFits, OutFits}
use Rattle.source_fit.specs.ProgramRules.{rules_of}
use Rattle.run_fit.proofs.Values.{MadeFits}
use Rattle.source_fit.proofs.Values.{env_grows, older_fits, lookup_fits, assigned_fits, EntryFits, entry_fits, constant_fits, default_fits, returned_fits, given_by_fits, behind_fits, passed_result_fits, SendingFits, sent_fits, OperatedFits, operates_fit, operates_to_fit, cast_fits}

abbrev Any : ℕ → Value → Type 0
Any count value = Unit {0}

module _ (rules : Rules) (before : List Object) where
  abbrev Here : State → Env → Type 0
  Here s e = StateFits rules before s e

  -- the same as a record, so that what stands in it is found
  record Keeps {A : Type 0} (good : ℕ → A → Type 0) (n : ℕ) (o : Out A) : Type 0 where
    by : OutFits good rules before n o

  done : {A : Type 0} {good : ℕ → A → Type 0} {a : A} {s : State} {e : Env} → Here s e → good (count_in s.world) a → Keeps good (count_in s.world) (Done a s e)
  done h g = record { by = (h, omega arith, g) }

  lower_by : {A : Type 0} (good : ℕ → A → Type 0) (n m : ℕ) (o : Out A) → n ≤ m → OutFits good rules before m o → OutFits good rules before n o
  lower_by good n m (Done a s e) h x = (x.0, omega (arith, h, x.1), x.2)
  lower_by good n m (Thrown id place s e) h x = (x.0, omega (arith, h, x.1), x.2)
  lower_by good n m (Over limit place w) h x = x
  lower_by good n m More h x = tt

  lower : {A : Type 0} {good : ℕ → A → Type 0} {n m : ℕ} {o : Out A} → n ≤ m → Keeps good m o → Keeps good n o
  lower {good = good} {n = n} {m = m} {o = o} h x = record { by = lower_by good n m o h x.by }

  binds : {A B : Type 0} (good : ℕ → A → Type 0) (also : ℕ → B → Type 0) (n : ℕ) (o : Out A) (next : A → State → Env → Out B) → OutFits good rules before n o
      → ((a : A) (s : State) (e : Env) → Here s e → n ≤ count_in s.world → good (count_in s.world) a → Keeps also (count_in s.world) (next a s e)) → OutFits also rules before n (bind o next)
  binds good also n (Done a s e) next x f = lower_by also n (count_in s.world) (next a s e) x.1 (f a s e x.0 x.1 x.2).by
  binds good also n (Thrown id place s e) next x f = x
  binds good also n (Over limit place w) next x f = x
  binds good also n More next x f = tt

  then' : {A B : Type 0} {good : ℕ → A → Type 0} {also : ℕ → B → Type 0} {n : ℕ} {o : Out A} {next : A → State → Env → Out B} → Keeps good n o
      → ((a : A) (s : State) (e : Env) → Here s e → n ≤ count_in s.world → good (count_in s.world) a → Keeps also (count_in s.world) (next a s e)) → Keeps also n (bind o next)
  then' {good = good} {also = also} {n = n} {o = o} {next = next} x f = record { by = binds good also n o next x.by f }

  leaves : {A : Type 0} (good : ℕ → A → Type 0) (n : ℕ) (o : Out A) → OutFits good rules before n o → OutFits good rules before n (leave o)
  leaves good n (Done a s e) x = ((x.0.0, older_fits (count_in s.world) e x.0.1), x.1, x.2)
  leaves good n (Thrown id place s e) x = ((x.0.0, older_fits (count_in s.world) e x.0.1), x.1, x.2)
  leaves good n (Over limit place w) x = x
  leaves good n More x = tt

  leaving : {A : Type 0} {good : ℕ → A → Type 0} {n : ℕ} {o : Out A} → Keeps good n o → Keeps good n (leave o)
  leaving {good = good} {n = n} {o = o} x = record { by = leaves good n o x.by }

  found_fits : (o : Option Value) (s : State) (e : Env) → Here s e → MadeFits (count_in s.world) o → Keeps ValueFits (count_in s.world) (found o s e)
  found_fits None s e h f = record { by = tt }
  found_fits (Some value) s e h f = done h f

  chosen : {A : Type 0} {good : ℕ → A → Type 0} {n : ℕ} {o p : Out A} (value : Value) → Keeps good n o → Keeps good n p → Keeps good n (choose value o p)
  chosen (v.Bool true) x y = x
  chosen (v.Bool false) x y = y
  chosen v.Null x y = record { by = tt }
  chosen (v.Byte a) x y = record { by = tt }
  chosen (v.Short a) x y = record { by = tt }
  chosen (v.Char a) x y = record { by = tt }
  chosen (v.Int a) x y = record { by = tt }
  chosen (v.Long a) x y = record { by = tt }
  chosen (v.Str a) x y = record { by = tt }
  chosen (v.Ref a) x y = record { by = tt }

  either : {A : Type 0} {good : ℕ → A → Type 0} {n : ℕ} {o p : Out A} (test : Bool) → Keeps good n o → Keeps good n p → Keeps good n (if test then p else o)
  either true x y = y
  either false x y = x

  next : {o : Out Flow} (flow : Flow) (s : State) (e : Env) → Here s e → FlowFits (count_in s.world) flow → Keeps FlowFits (count_in s.world) o → Keeps FlowFits (count_in s.world) (goes_next flow s e o)
  next Normal s e h f x = x
  next Broke s e h f x = done h tt
  next Continued s e h f x = done h tt
  next (Returned value) s e h f x = done h f

  again : {o : Out Flow} (flow : Flow) (s : State) (e : Env) → Here s e → FlowFits (count_in s.world) flow → Keeps FlowFits (count_in s.world) o → Keeps FlowFits (count_in s.world) (goes_again flow s e o)
  again Normal s e h f x = x
  again Broke s e h f x = done h tt
  again Continued s e h f x = x
  again (Returned value) s e h f x = done h f

  effect_by : (o : Outcome Value) (s : State) (e : Env) → Here s e → OutcomeFits rules before (count_in s.world) o → OutFits ValueFits rules before (count_in s.world) (effect o s e)
  effect_by (Given value w) s e h x = ((x.0, env_grows (count_in s.world) (count_in w) x.1 e h.1), x.1, x.2)
  effect_by (Raised id w) s e h x = ((x.0, env_grows (count_in s.world) (count_in w) x.1 e h.1), x.1, x.2)
  effect_by Full s e h x = h.0

  effect_fits : (o : Outcome Value) (s : State) (e : Env) → Here s e → OutcomeFits rules before (count_in s.world) o → Keeps ValueFits (count_in s.world) (effect o s e)
  effect_fits o s e h x = record { by = effect_by o s e h x }

  operated_fits : (o : Operated) (s : State) (e : Env) (h : Here s e) → OperatedFits rules before s.world h.0 o → Keeps ValueFits (count_in s.world) (operated o s e)
  operated_fits Meaningless s e h x = record { by = tt }
  operated_fits (Gives value) s e h x = done h x
  operated_fits (Acts given) s e h x = effect_fits (acts_in s.world given) s e h x

  same_world : (w after : World) → after.store ≡ w.store → WorldFits rules before w → WorldFits rules before after
  same_world w after e h = record { fits = subst (λ (x : Store). Fits rules x.objects) (sym e) h.fits; there = subst (λ (x : Store). StillThere before x.objects) (sym e) h.there }

  same_env : (w after : World) (e : Env) → after.store ≡ w.store → EnvFits (count_in w) e → EnvFits (count_in after) e
  same_env w after e is h = subst (λ (x : Store). EnvFits (length x.objects) e) (sym is) h

  same_values : (w after : World) (values : List Value) → after.store ≡ w.store → AllFit (count_in w) values → AllFit (count_in after) values
  same_values w after values is h = subst (λ (x : Store). AllFit (length x.objects) values) (sym is) h

  -- in a world of the same store
  moved : {A : Type 0} (good : ℕ → A → Type 0) (w after : World) (o : Out A) → after.store ≡ w.store → Keeps good (count_in after) o → Keeps good (count_in w) o
  moved good w after o is x = subst (λ (y : Store). Keeps good (length y.objects) o) is x

  -- ---- the casts that are due

  each_fits : (tos : List Ty) (value : Value) (s : State) (e : Env) → Here s e → ValueFits (count_in s.world) value → Keeps ValueFits (count_in s.world) (cast_each tos value s e)
  each_fits [] value s e h f = done h f
  each_fits (to ∷ tos) value s e h f =
      then' (effect_fits _ s e h (casts_fit rules before s.world value to false h.0 f)) (λ value s e h more f. each_fits tos value s e h f)

  due_fits : (due : List Ty) (value : Value) (s : State) (e : Env) → Here s e → ValueFits (count_in s.world) value → Keeps ValueFits (count_in s.world) (casts_due due value s e)
  due_fits [] value s e h f = done h f
  due_fits (from ∷ tos) value s e h f =
      then' (found_fits (passed_result from value) s e h (passed_result_fits (count_in s.world) from value f)) (λ value s e h more f. each_fits tos value s e h f)

  module _ (funs : Programs) (limits : Limits) (m : Meaning) (ih : MeaningFits rules before m) where
    expr_ih : (t : Expr) (d : Place) (s : State) (e : Env) → Here s e → Keeps ValueFits (count_in s.world) (m.expr d s e t)
    expr_ih t d s e h = record { by = ih.expr t d s e h }

    exprs_ih : (t : Exprs) (d : Place) (s : State) (e : Env) → Here s e → Keeps AllFit (count_in s.world) (m.exprs d s e t)
    exprs_ih t d s e h = record { by = ih.exprs t d s e h }

    stmt_ih : (t : Stmt) (d : Place) (s : State) (e : Env) → Here s e → Keeps FlowFits (count_in s.world) (m.stmt d s e t)
    stmt_ih t d s e h = record { by = ih.stmt t d s e h }

    stmts_ih : (t : Stmts) (d : Place) (s : State) (e : Env) → Here s e → Keeps FlowFits (count_in s.world) (m.stmts d s e t)
    stmts_ih t d s e h = record { by = ih.stmts t d s e h }

    -- ---- calls of functions

    backs : (of : Ty) (o : Out Flow) (n turns : ℕ) (e : Env) → EnvFits n e → OutFits FlowFits rules before n o → OutFits ValueFits rules before n (back of o turns e)
    backs of (Done flow s e') n turns e h x =
        lower_by ValueFits n (count_in s.world) (found (returned of flow) (record { world = s.world; turns = turns }) e) x.1
        (found_fits (returned of flow) (record { world = s.world; turns = turns }) e (x.0.0, env_grows n (count_in s.world) x.1 e h) (returned_fits (count_in s.world) of flow x.2)).by
    backs of (Thrown id place s e') n turns e h x = ((x.0.0, env_grows n (count_in s.world) x.1 e h), x.1, x.2)
    backs of (Over limit place w) n turns e h x = x
    backs of More n turns e h x = tt

    enters : (c : Counted) (text : Owner) (due : List Ty) (d : Place) (s : State) (e : Env) (of : Ty) (body : Stmts) (o : Option Env) → Here s e → EntryFits (count_in s.world) o → SameStore s.world c
        → Keeps ValueFits (count_in s.world) (entered funs limits m c text due d s e of body o)
    enters c text due d s e of body None h f p = record { by = tt }
    enters (Passes limit w) text due d s e of body (Some args) h f p = record { by = same_world s.world w p h.0 }
    enters (Counts w) text due d s e of body (Some args) h f p =
        let here : Here (record { world = w; turns = 0 }) args = (same_world s.world w p h.0, same_env s.world w args p f) in
        let gives : Keeps ValueFits (count_in w) (back of (m.stmts (record { text = text; depth = suc d.depth }) (record { world = w; turns = 0 }) args body) s.turns e) =
        record { by = backs of _ (count_in w) s.turns e (same_env s.world w e p h.1) (ih.stmts body (record { text = text; depth = suc d.depth }) (record { world = w; turns = 0 }) args here) } in
        moved ValueFits s.world w _ p (then' gives (λ value s e h more f. due_fits due value s e h f))

    calls : (o : Option Fun) (c : Counted) (text : Owner) (due : List Ty) (d : Place) (s : State) (e : Env) (values : List Value) → Here s e → AllFit (count_in s.world) values → SameStore s.world c
        → Keeps ValueFits (count_in s.world) (called funs limits m o c text due d s e values)
    calls None c text due d s e values h f p = record { by = tt }
    calls (Some g) c text due d s e values h f p =
        enters c text due d s e g.result g.body (entry g.params values []) h (entry_fits (count_in s.world) g.params values [] f tt) p

    -- ---- members

    acts : (o : Option Effect) (s : State) (e : Env) → Here s e → DoneFits rules before s.world o → Keeps ValueFits (count_in s.world) (acted funs limits m o s e)
    acts None s e h f = record { by = tt }
    acts (Some given) s e h f = effect_fits (acts_in s.world given) s e h f

    pays : (c : Counted) (number : ℕ) (arguments : List Value) (s : State) (e : Env) → Here s e → AllFit (count_in s.world) arguments → SameStore s.world c
        → Keeps ValueFits (count_in s.world) (paid funs limits m c number arguments s e)
    pays (Passes limit w) number arguments s e h f p = record { by = same_world s.world w p h.0 }
    pays (Counts w) number arguments s e h f p =
        let here : Here (record { world = w; turns = s.turns }) e = (same_world s.world w p h.0, same_env s.world w e p h.1) in
        moved ValueFits s.world w _ p
        (acts (does limits.ground.host number arguments w.store) (record { world = w; turns = s.turns }) e here (members_fit rules before w limits.ground.host number arguments here.0 (same_values s.world w arguments p f)))

    tests : (suits : Bool) (number : ℕ) (arguments : List Value) (d : Place) (s : State) (e : Env) → Here s e → AllFit (count_in s.world) arguments
        → Keeps ValueFits (count_in s.world) (tested funs limits m suits number arguments d s e)
    tests false number arguments d s e h f = effect_fits _ s e h (outcomes_fit rules before s.world wrong_class h.0 tt)
    tests true number arguments d s e h f = pays (pay_member d.text number s.world) number arguments s e h f (member_keeps d.text number s.world)

    member_calls : (c : Sending) (number : ℕ) (t : MemberType) (d : Place) (s : State) (e : Env) → Here s e → SendingFits (count_in s.world) c
        → Keeps ValueFits (count_in s.world) (member_called funs limits m c number t d s e)
    member_calls Unsent number t d s e h f = record { by = tt }
    member_calls OnNull number t d s e h f = effect_fits _ s e h (outcomes_fit rules before s.world outcomes.null_error h.0 tt)
    member_calls (Sends arguments) number t d s e h f = tests (suits_member s.world.store.objects t arguments) number arguments d s e h f
    member_calls Reads number t d s e h f = acts (does limits.ground.host number [] s.world.store) s e h (members_fit rules before s.world limits.ground.host number [] h.0 tt)

    allowed_members : (allow : AllowList) (allowed : Bool) (number : ℕ) (values : List Value) (d : Place) (s : State) (e : Env) → Here s e → AllFit (count_in s.world) values
        → Keeps ValueFits (count_in s.world) (member_applied funs limits m allow allowed number values d s e)
    allowed_members allow false number values d s e h f = record { by = tt }
    allowed_members allow true number values d s e h f = member_calls (sent (member_in allow number) values) number (member_in allow number) d s e h (sent_fits (count_in s.world) (member_in allow number) values f)

    members : (x : Member) (values : List Value) (d : Place) (s : State) (e : Env) → Here s e → AllFit (count_in s.world) values → Keeps ValueFits (count_in s.world) (of_member funs limits m x values d s e)
    members x values d s e h f = allowed_members (allowed_in limits d.text) (flag (allowed_in limits d.text).members x.number) x.number values d s e h f

    -- ---- what is found for a receiver when the script runs

    accesses : (a : Access) (d : Place) (s : State) (e : Env) → Here s e → AccessFits rules before s.world a → Keeps ValueFits (count_in s.world) (accessed funs limits m a d s e)
    accesses (Calls number arguments) d s e h f = pays (pay_member d.text number s.world) number arguments s e h f (member_keeps d.text number s.world)
    accesses (Does given) d s e h f = effect_fits (acts_in s.world given) s e h f

    methods : (name : Name) (values : List Value) (d : Place) (s : State) (e : Env) → Here s e → AllFit (count_in s.world) values → Keeps ValueFits (count_in s.world) (method_applied funs limits m name values d s e)
    methods name [] d s e h f = record { by = tt }
    methods name (receiver ∷ arguments) d s e h f =
        accesses (method_called (allowed_in limits d.text) s.world.store receiver name arguments) d s e h (method_called_fits rules before s.world h.0 (allowed_in limits d.text) receiver name arguments f)

    names : (name : Name) (values : List Value) (d : Place) (s : State) (e : Env) → Here s e → AllFit (count_in s.world) values → Keeps ValueFits (count_in s.world) (name_applied funs limits m name values d s e)
    names name [] d s e h f = record { by = tt }
    names name (receiver ∷ []) d s e h f =
        accesses (name_read (allowed_in limits d.text) s.world.store receiver name) d s e h (name_read_fits rules before s.world h.0 (allowed_in limits d.text) receiver name f.0)
    names name (receiver ∷ value ∷ values) d s e h f = record { by = tt }

    put_names : (name : Name) (values : List Value) (d : Place) (s : State) (e : Env) → Here s e → AllFit (count_in s.world) values → Keeps ValueFits (count_in s.world) (name_put funs limits m name values d s e)
    put_names name [] d s e h f = record { by = tt }
    put_names name (receiver ∷ []) d s e h f = record { by = tt }
    put_names name (receiver ∷ value ∷ []) d s e h f =
        accesses (name_written (allowed_in limits d.text) s.world.store receiver name value) d s e h (name_written_fits rules before s.world h.0 (allowed_in limits d.text) receiver name value f)
    put_names name (receiver ∷ value ∷ other ∷ values) d s e h f = record { by = tt }

    indexes : (values : List Value) (d : Place) (s : State) (e : Env) → Here s e → AllFit (count_in s.world) values → Keeps ValueFits (count_in s.world) (index_applied funs limits m values d s e)
    indexes [] d s e h f = record { by = tt }
    indexes (receiver ∷ []) d s e h f = record { by = tt }
    indexes (receiver ∷ index ∷ []) d s e h f =
        accesses (index_read (allowed_in limits d.text) s.world.store receiver index) d s e h (index_read_fits rules before s.world h.0 (allowed_in limits d.text) receiver index f)
    indexes (receiver ∷ index ∷ other ∷ values) d s e h f = record { by = tt }

    put_indexes : (values : List Value) (d : Place) (s : State) (e : Env) → Here s e → AllFit (count_in s.world) values → Keeps ValueFits (count_in s.world) (index_put funs limits m values d s e)
    put_indexes [] d s e h f = record { by = tt }
    put_indexes (receiver ∷ []) d s e h f = record { by = tt }
    put_indexes (receiver ∷ index ∷ []) d s e h f = record { by = tt }
    put_indexes (receiver ∷ index ∷ value ∷ []) d s e h f =
        accesses (index_written (allowed_in limits d.text) s.world.store receiver index value) d s e h (index_written_fits rules before s.world h.0 (allowed_in limits d.text) receiver index value f)
    put_indexes (receiver ∷ index ∷ value ∷ other ∷ values) d s e h f = record { by = tt }

    -- ---- expressions

    applies : (o : Operation) (d : Place) (s : State) (e : Env) (of : Ty) (values : List Value) → Here s e → AllFit (count_in s.world) values → Keeps ValueFits (count_in s.world) (applied funs limits m o d s e of values)
    applies (operation.Operator o) d s e of values h f = operated_fits (operates_to o of values s.world.store) s e h (operates_to_fit rules before s.world h.0 o of values f)
    applies (operation.Cast c) d s e of [] h f = record { by = tt }
    applies (operation.Cast c) d s e of (a ∷ []) h f = operated_fits (casts c of a s.world.store) s e h (cast_fits rules before s.world h.0 c of a f.0)
    applies (operation.Cast c) d s e of (a ∷ b ∷ values) h f = record { by = tt }
    applies (operation.InstanceOf is) d s e of [] h f = record { by = tt }
    applies (operation.InstanceOf is) d s e of (a ∷ []) h f = done h tt
    applies (operation.InstanceOf is) d s e of (a ∷ b ∷ values) h f = record { by = tt }
    applies (operation.Function k) d s e of values h f = calls (slice_get (functions_in funs d.text) k) (enter limits d.depth s.world) d.text [] d s e values h f (call_keeps limits d.depth s.world)
    applies (operation.Instance member) d s e of values h f = members member values d s e h f
    applies (operation.Static member) d s e of values h f = members member values d s e h f
    applies (operation.Constructor member) d s e of values h f = members member values d s e h f
    applies (operation.Field member) d s e of values h f = members member values d s e h f
    applies (operation.Host member) d s e of values h f = record { by = tt }
    applies (operation.DefCall name) d s e of values h f = methods name values d s e h f
    applies (operation.DefName name) d s e of values h f = names name values d s e h f
    applies (operation.PutDefName name) d s e of values h f = put_names name values d s e h f
    applies operation.DefIndex d s e of values h f = indexes values d s e h f
    applies operation.PutDefIndex d s e of values h f = put_indexes values d s e h f

    logic_keeps : (o : Logical) (d : Place) (s : State) (e : Env) (value : Value) (right : Expr) → Here s e → Keeps ValueFits (count_in s.world) (logic funs limits m o d s e value right)
    logic_keeps And d s e value right h = chosen value (expr_ih right d s e h) (done h tt)
    logic_keeps Or d s e value right h = chosen value (done h tt) (expr_ih right d s e h)

    -- what is read of a target, changed
    changed_keeps : (of : Ty) (change : Change) (d : Place) (s : State) (e : Env) (right : Expr) (old : Value) → Here s e → ValueFits (count_in s.world) old
        → Keeps ValueFits (count_in s.world) (changed funs limits m of change d s e right old)
    changed_keeps of change d s e right old h f =
        then' {good = ValueFits} (operated_fits (casts change.before of old s.world.store) s e h (cast_fits rules before s.world h.0 change.before of old f)) (λ left s1 e1 h1 n1 g1.
        then' {good = ValueFits} (expr_ih right d s1 e1 h1) (λ value s2 e2 h2 n2 g2.
        then' {good = ValueFits} (operated_fits (operates change.operator (left ∷ value ∷ []) s2.world.store) s2 e2 h2 (operates_fit rules before s2.world h2.0 change.operator (left ∷ value ∷ []))) (λ result s3 e3 h3 n3 g3.
        operated_fits (casts change.after of result s3.world.store) s3 e3 h3 (cast_fits rules before s3.world h3.0 change.after of result g3))))

    modifies : (x : Name) (of : Ty) (change : Change) (d : Place) (s : State) (e : Env) (right : Expr) (given : Given_by) (old : Value) → Here s e → ValueFits (count_in s.world) old
        → Keeps ValueFits (count_in s.world) (modified funs limits m x of change d s e right given old)
    modifies x of change d s e right given old h f =
        then' {good = ValueFits} (changed_keeps of change d s e right old h f) (λ new s1 e1 h1 n1 g1.
        done (h1.0, assigned_fits (count_in s1.world) e1 x new h1.1 g1) (given_by_fits (count_in s1.world) given old new (value_grows (count_in s.world) (count_in s1.world) n1 old f) g1))

    -- what a write gives is dropped
    writes : (write : Operation) (d : Place) (s : State) (e : Env) (of : Ty) (parts : List Value) (new given : Value) → Here s e → AllFit (count_in s.world) parts → ValueFits (count_in s.world) new
        → ValueFits (count_in s.world) given → Keeps ValueFits (count_in s.world) (written funs limits m write d s e of parts new given)
    writes write d s e of parts new given h f g k =
        then' {good = ValueFits} (applies write d s e of (parts ++ new ∷ []) h (behind_fits (count_in s.world) parts new f g)) (λ dropped s1 e1 h1 n1 g1.
        done h1 (value_grows (count_in s.world) (count_in s1.world) n1 given k))

    modifies_at : (read : Option Operation) (write : Operation) (of : Ty) (change : Change) (d : Place) (s : State) (e : Env) (parts : List Value) (right : Expr) (given : Given_by) → Here s e
        → AllFit (count_in s.world) parts → Keeps ValueFits (count_in s.world) (modified_at funs limits m read write of change d s e parts right given)
    modifies_at None write of change d s e parts right given h f = record { by = tt }
    modifies_at (Some read) write of change d s e parts right given h f =
        then' {good = ValueFits} (applies read d s e of parts h f) (λ old s1 e1 h1 n1 g1.
        then' {good = ValueFits} (changed_keeps of change d s1 e1 right old h1 g1) (λ new s2 e2 h2 n2 g2.
        writes write d s2 e2 of parts new (given_by given old new) h2 (values_grow (count_in s.world) (count_in s2.world) (omega (arith, n1, n2)) parts f) g2
        (given_by_fits (count_in s2.world) given old new (value_grows (count_in s1.world) (count_in s2.world) n2 old g1) g2)))

    assigns : (at : ℕ) (of : Ty) (to : Target) (parts : Exprs) (value : Expr) (d : Place) (s : State) (e : Env) → Here s e
        → Keeps ValueFits (count_in s.world) (expr_of funs limits m d s e (Assign at of to parts value))
    assigns at of (target.Local x) parts value d s e h = then' {good = ValueFits} (expr_ih value d s e h) (λ value s e h n f. done (h.0, assigned_fits (count_in s.world) e x value h.1 f) f)
    assigns at of (target.Place read write) parts value d s e h =
        then' {good = AllFit} (exprs_ih parts d s e h) (λ values s1 e1 h1 n1 f1.
        then' {good = ValueFits} (expr_ih value d s1 e1 h1) (λ new s2 e2 h2 n2 f2.
        writes write d s2 e2 of values new new h2 (values_grow (count_in s1.world) (count_in s2.world) n2 values f1) f2 f2))

    changes : (at : ℕ) (of : Ty) (to : Target) (parts : Exprs) (change : Change) (right : Expr) (given : Given_by) (d : Place) (s : State) (e : Env) → Here s e
        → Keeps ValueFits (count_in s.world) (expr_of funs limits m d s e (Modify at of to parts change right given))
    changes at of (target.Local x) parts change right given d s e h =
        then' {good = ValueFits} (found_fits (lookup e x) s e h (lookup_fits (count_in s.world) e x h.1)) (λ old s e h n f. modifies x of change d s e right given old h f)
    changes at of (target.Place read write) parts change right given d s e h =
        then' {good = AllFit} (exprs_ih parts d s e h) (λ values s1 e1 h1 n1 f1. modifies_at read write of change d s1 e1 values right given h1 f1)

    expr_keeps : (t : Expr) (d : Place) (s : State) (e : Env) → Here s e → Keeps ValueFits (count_in s.world) (expr_of funs limits m d s e t)
    expr_keeps (Literal at of c) d s e h = done h (constant_fits (count_in s.world) c)
    expr_keeps (Quoted at of text) d s e h = done h tt
    expr_keeps (Local at of x) d s e h = found_fits (lookup e x) s e h (lookup_fits (count_in s.world) e x h.1)
    expr_keeps (Apply at of o parts) d s e h = then' {good = AllFit} (exprs_ih parts d s e h) (λ values s e h n f. applies o d s e of values h f)
    expr_keeps (Guarded at of o None') d s e h = record { by = tt }
    expr_keeps (Guarded at of o (One a others)) d s e h =
        then' {good = ValueFits} (expr_ih a d s e h) (λ value s1 e1 h1 n1 f1. either (is_null value)
        (then' {good = AllFit} (exprs_ih others d s1 e1 h1) (λ values s2 e2 h2 n2 f2. applies o d s2 e2 of (value ∷ values) h2 (value_grows (count_in s1.world) (count_in s2.world) n2 value f1, f2)))
        (done h1 tt))
    expr_keeps (Logic at of o left right) d s e h = then' {good = ValueFits} (expr_ih left d s e h) (λ value s e h n f. logic_keeps o d s e value right h)
    expr_keeps (Conditional at of c a b) d s e h = then' {good = ValueFits} (expr_ih c d s e h) (λ value s e h n f. chosen value (expr_ih a d s e h) (expr_ih b d s e h))
    expr_keeps (Elvis at of left right) d s e h = then' {good = ValueFits} (expr_ih left d s e h) (λ value s e h n f. either (is_null value) (done h f) (expr_ih right d s e h))
    expr_keeps (Assign at of to parts value) d s e h = assigns at of to parts value d s e h
    expr_keeps (Modify at of to parts change right given) d s e h = changes at of to parts change right given d s e h
    expr_keeps (Lambda at of interface function) d s e h = record { by = tt }
    expr_keeps (Reference at of interface class name) d s e h = record { by = tt }
    expr_keeps (NewReference at of interface made) d s e h = record { by = tt }

    exprs_keep : (t : Exprs) (d : Place) (s : State) (e : Env) → Here s e → Keeps AllFit (count_in s.world) (exprs_of funs limits m d s e t)
    exprs_keep None' d s e h = done h tt
    exprs_keep (One a others) d s e h =
        then' {good = ValueFits} (expr_ih a d s e h) (λ value s1 e1 h1 n1 f1.
        then' {good = AllFit} (exprs_ih others d s1 e1 h1) (λ values s2 e2 h2 n2 f2. done h2 (value_grows (count_in s1.world) (count_in s2.world) n2 value f1, f2)))

    value_keeps : (value : Maybe) (other : Value) (d : Place) (s : State) (e : Env) → Here s e → ValueFits (count_in s.world) other → Keeps ValueFits (count_in s.world) (value_if funs limits m value other d s e)
    value_keeps Missing other d s e h f = done h f
    value_keeps (Present a) other d s e h f = expr_ih a d s e h

    -- ---- statements

    turns_keep : (c : Counted) (d : Place) (s : State) (e : Env) (test update : Maybe) (body : Stmts) → Here s e → SameStore s.world c
        → Keeps FlowFits (count_in s.world) (turned funs limits m c d s e test update body)
    turns_keep (Passes limit w) d s e test update body h p = record { by = same_world s.world w p h.0 }
    turns_keep (Counts w) d s e test update body h p =
        let here : Here (record { world = w; turns = suc s.turns }) e = (same_world s.world w p h.0, same_env s.world w e p h.1) in
        moved FlowFits s.world w _ p
        (then' {good = FlowFits} (stmts_ih body d (record { world = w; turns = suc s.turns }) e here) (λ flow s e h n f.
        again flow s e h f (then' {good = ValueFits} (value_keeps update v.Null d s e h tt) (λ value s e h n f. stmt_ih (While test update body) d s e h))))

    done_turns_keep : (c : Counted) (d : Place) (s : State) (e : Env) (body : Stmts) (test : Maybe) → Here s e → SameStore s.world c
        → Keeps FlowFits (count_in s.world) (done_turn funs limits m c d s e body test)
    done_turns_keep (Passes limit w) d s e body test h p = record { by = same_world s.world w p h.0 }
    done_turns_keep (Counts w) d s e body test h p =
        let here : Here (record { world = w; turns = suc s.turns }) e = (same_world s.world w p h.0, same_env s.world w e p h.1) in
        moved FlowFits s.world w _ p
        (then' {good = FlowFits} (stmts_ih body d (record { world = w; turns = suc s.turns }) e here) (λ flow s e h n f.
        again flow s e h f (then' {good = ValueFits} (value_keeps test (v.Bool true) d s e h tt) (λ value s e h n f. chosen value (stmt_ih (DoWhile body test) d s e h) (done h tt)))))

    catches_keep : (t : Catches) (d : Place) (id : ℕ) (place : Arose) (s : State) (e : Env) → Here s e → ThrownFits s.world.store.objects id → Keeps FlowFits (count_in s.world) (caught funs limits m d t id place s e)
    catches_keep NoCatch d id place s e h f = record { by = (h, omega arith, f) }
    catches_keep (Catch class x body rest) d id place s e h f =
        either (is_of_class class (slice_get s.world.store.objects id)) (catches_keep rest d id place s e h f)
        (leaving (stmts_ih body d s (record { name = x; value = v.Ref id } ∷ e) (h.0, (f.0, h.1))))

    handles : (t : Catches) (d : Place) (n : ℕ) (o : Out Flow) → OutFits FlowFits rules before n o → OutFits FlowFits rules before n (handled funs limits m d t o)
    handles t d n (Done flow s e) x = x
    handles t d n (Thrown id place s e) x = lower_by FlowFits n (count_in s.world) (caught funs limits m d t id place s e) x.1 (catches_keep t d id place s e x.0 x.2).by
    handles t d n (Over limit place w) x = x
    handles t d n More x = tt

    stmt_keeps : (t : Stmt) (d : Place) (s : State) (e : Env) → Here s e → Keeps FlowFits (count_in s.world) (stmt_of funs limits m d s e t)
    stmt_keeps (Do a) d s e h = then' {good = ValueFits} (expr_ih a d s e h) (λ value s e h n f. done h tt)
    stmt_keeps (If c a b) d s e h = then' {good = ValueFits} (expr_ih c d s e h) (λ value s e h n f. chosen value (stmts_ih a d s e h) (stmts_ih b d s e h))
    stmt_keeps (While test update body) d s e h =
        then' {good = ValueFits} (value_keeps test (v.Bool true) d s e h tt) (λ value s e h n f.
        chosen value (turns_keep (take_turn limits (has_loop_limit d.text) s.turns s.world) d s e test update body h (turn_keeps limits (has_loop_limit d.text) s.turns s.world)) (done h tt))
    stmt_keeps (DoWhile body test) d s e h =
        done_turns_keep (take_turn limits (has_loop_limit d.text) s.turns s.world) d s e body test h (turn_keeps limits (has_loop_limit d.text) s.turns s.world)
    stmt_keeps (Try body catches) d s e h = record { by = handles catches d (count_in s.world) _ (ih.stmts body d s e h) }
    stmt_keeps (Block body) d s e h = stmts_ih body d s e h
    stmt_keeps Break d s e h = done h tt
    stmt_keeps Continue d s e h = done h tt
    stmt_keeps (Return value) d s e h = then' {good = ValueFits} (value_keeps value v.Null d s e h tt) (λ value s e h n f. done h f)
    stmt_keeps (Throw value) d s e h =
        then' {good = ValueFits} (expr_ih value d s e h) (λ value s e h n f.
        then' {good = ValueFits} (effect_fits (acts_in s.world (thrown s.world.store value)) s e h (throwing_fits rules before s.world value h.0)) (λ value s e h n f. done h tt))

    begins : (value : Maybe) (of : Ty) (d : Place) (s : State) (e : Env) → Here s e → Keeps ValueFits (count_in s.world) (value_or funs limits m value of d s e)
    begins Missing of d s e h = done h (default_fits (count_in s.world) of)
    begins (Present a) of d s e h = expr_ih a d s e h

    stmts_keep : (t : Stmts) (d : Place) (s : State) (e : Env) → Here s e → Keeps FlowFits (count_in s.world) (stmts_of funs limits m d s e t)
    stmts_keep Finish d s e h = done h tt
    stmts_keep (Then t rest) d s e h = then' {good = FlowFits} (stmt_ih t d s e h) (λ flow s e h n f. next flow s e h f (stmts_ih rest d s e h))
    stmts_keep (Declare x of value rest) d s e h =
        then' {good = ValueFits} (begins value of d s e h) (λ value s e h n f. leaving (stmts_ih rest d s (record { name = x; value = value } ∷ e) (h.0, (f, h.1))))

    deeper : MeaningFits rules before (layer funs limits m)
    deeper = record {
      expr = λ t d s e h. (expr_keeps t d s e h).by;
      exprs = λ t d s e h. (exprs_keep t d s e h).by;
      stmt = λ t d s e h. (stmt_keeps t d s e h).by;
      stmts = λ t d s e h. (stmts_keep t d s e h).by;
    }

pub meanings_fit : MeaningsFit
meanings_fit before funs limits zero = record { expr = λ t d s e h. tt; exprs = λ t d s e h. tt; stmt = λ t d s e h. tt; stmts = λ t d s e h. tt }
meanings_fit before funs limits (suc n) = deeper (rules_of funs) before funs limits (meaning funs limits n) (meanings_fit before funs limits n)
