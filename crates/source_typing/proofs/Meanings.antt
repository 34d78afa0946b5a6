-- Each expression and each statement gives values of their types, and keeps those of the names.
use Rattle.std.proofs.Common.{◌≡◌, ℕ, zero, suc, ◌==◌, Bool, true, false, List, [], ◌∷◌, ◌++◌, Option, Some, None, refl, sym, ap, ◌∙◌, subst}
use Rattle.std.specs.Prelude.{slice_get, length, if◌then◌else◌}
use Rattle.std.proofs.lemmas.Bool.{or_right}
use Rattle.std.proofs.lemmas.Option.{get_or_from_slice_get}
use Rattle.pl_types.specs.declared.classes.TheConstants.{OBJECT}
use Rattle.pl_types.specs.declared.ty.Ty.{Ty}
use Rattle.pl_types.specs.declared.ty.Ty.TheVariants as t
use Rattle.pl_types.specs.Classes.{class_is_below}
use Rattle.allowlist.specs.declared.member.MemberKind.{MemberKind}
use Rattle.allowlist.specs.declared.member.MemberKind.TheVariants as kind
use Rattle.allowlist.specs.declared.member.MemberType.{MemberType}
use Rattle.allowlist.specs.Allow.{AllowList, flag}
use Rattle.allowlist.specs.Catalogue.{catalogue, constructor}
use Rattle.allowlist.specs.Index.{member_at, member_in}
use Rattle.object_values.specs.declared.object.Object.{Object}
use Rattle.object_values.specs.declared.object.Object.TheVariants as o
use Rattle.object_values.specs.declared.object.Owner.{Owner}
use Rattle.object_values.specs.declared.object.Owner.TheVariants.{Script, Prelude}
use Rattle.object_values.specs.declared.value.Value.{Value}
use Rattle.object_values.specs.declared.value.Value.TheVariants as v
use Rattle.object_heap.specs.Effects.{Effect}
use Rattle.object_heap.specs.Fits.{kind_is_of, Rules, Every, Fits, AllFit, ThrownFits}
use Rattle.object_heap.specs.Objects.{kind_of}
use Rattle.object_heap.specs.Parts.{asked}
use Rattle.object_heap.specs.Store.{Store}
use Rattle.typed_tree.specs.declared.operation.Member.{Member}
use Rattle.typed_tree.specs.declared.operation.Operation.{Operation}
use Rattle.typed_tree.specs.declared.operation.Operation.TheVariants as operation
use Rattle.typed_tree.specs.declared.operation.Logical.{Logical}
use Rattle.typed_tree.specs.declared.operation.Logical.TheVariants.{And, Or}
use Rattle.typed_tree.specs.declared.operation.Target.{Target}
use Rattle.typed_tree.specs.declared.operation.Target.TheVariants as target
use Rattle.typed_tree.specs.declared.operation.Change.{Change}
use Rattle.typed_tree.specs.declared.operation.Gives.{Gives as Given_by}
use Rattle.number_ops.specs.Casts.{cast_at_run_time}
use Rattle.number_ops.specs.Operators.{is_null}
use Rattle.number_ops.specs.Relations.{is_instance, thrown}
use Rattle.number_ops.proofs.KindsOf.{kind_passes}
use Rattle.value_typing.specs.ContainerCallsLaws.{StillThere}
use Rattle.value_typing.specs.Members.{is_built, does}
use Rattle.run_state.specs.World.{World, Limits, Arose, Outcome, Given, Raised, Full, acts_in, Counted, Counts, Passes, allowed_in, has_loop_limit, take_turn, enter, pay_member}
use Rattle.value_typing.specs.Worlds.{WorldFits, count_in, OutcomeFits}
use Rattle.value_typing.proofs.Counted.{SameStore, turn_keeps, call_keeps, member_keeps}
use Rattle.source_fit.proofs.Containers.{AccessFits, index_read_fits, index_written_fits, name_read_fits, name_written_fits, method_called_fits}
use Rattle.source_fit.proofs.Effects.{beginnings_fit, members_fit, throwing_fits}
use Rattle.value_typing.proofs.Leaving.{there_trans}
use Rattle.value_typing.specs.Access.{Access, Calls as Finds, Acts as Does, index_read, index_written, name_read, name_written, method_called}
use Rattle.source_fit.specs.Tree.{Name, Expr, Literal, Quoted, Local, Apply, Guarded, Logic, Conditional, Elvis, Assign, Modify, Lambda, Reference, NewReference, Exprs, None', One, Maybe, Missing, Given as Present, Stmt, Do, If, While, DoWhile, Try, Block, Break, Continue, Return, Throw, Stmts, Finish, Then, Declare, Catches, NoCatch, Catch, Variable, Fun, Programs, functions_in, type_of}
use Rattle.source_fit.specs.Operating.{Operated, Meaningless, Gives, Acts, operates, operates_to, casts, passed_result}
use Rattle.source_fit.specs.Members.{Sending, Unsent, OnNull, Sends, Reads, sent_by, sent}
use Rattle.source_fit.specs.Meaning.{State, Env, Place, Out, Done, Thrown, Over, More, Flow, Normal, Broke, Continued, Returned, bind, leave, lookup, entry, found, effect, operated, choose, goes_next, goes_again, is_of_class, returned, back, cast_each, casts_due, Meaning, entered, called, acted, paid, tested, member_called, member_applied, of_member, accessed, method_applied, name_applied, name_put, index_applied, index_put, applied, logic, changed, modified, written, modified_at, given_by, expr_of, exprs_of, value_if, turned, done_turn, caught, handled, stmt_of, value_or, stmts_of, layer, meaning}
use Rattle.source_fit.specs.ProgramRules.{rules_of}
use Rattle.program_typing.proofs.Due.{DueOf, last_type, due_type}
use Rattle.program_typing.specs.Agreeing.{Scope, IsVariable, boolean, types_of, Calls, TakesTypes, ReceiverIsOf, MemberAgrees, Applies, Changes, Writes, Reads as IsReadBy, ExprAgrees, ExprsAgree, TestAgrees, UpdateAgrees, BeginAgrees, ReturnAgrees, StmtAgrees, StmtsAgree, CatchesAgree, scope_of, FunAgrees, WellFormed, AreWellFormed, known_in}
use Rattle.value_typing.proofs.Calls.{typed_calls_pass}
use Rattle.source_typing.specs.Outs.{IsTyped, AreTyped, EnvTyped, StateTyped, FlowTyped, OutTyped}
use Rattle.source_typing.specs.Laws.{MeaningTyped, MeaningsAreTyped, ResultsAreTyped}
use Rattle.source_fit.proofs.Values.{OperatedFits, operates_to_fit}
use Rattle.source_typing.proofs.Values.{typed_grows, all_grow, env_grows, all_there, typed_behind, MadeTyped, object_typed, lookup_typed, assigned_typed, older_typed, EntryTyped, entry_typed, null_typed, constant_typed, text_typed, flag_typed, default_typed, nothing_typed, returned_typed, given_by_typed}
use Rattle.source_typing.proofs.Operations.{OutcomeIs, outcome_is, def_typed, OperatedIs, null_is, cast_is, operates_is, node_is, casts_is, begins_is}
use Rattle.source_typing.proofs.Members.{result_typed, Taken, SendingTyped, sent_typed, DoneIs, found_is, member_is}

abbrev Any : List Object → Value → Type 0
Any objects value = Unit {0}

abbrev Of : Ty → List Object → Value → Type 0
Of of objects value = IsTyped objects of value

-- an exception of a class is of it as a value
class_passes : (class : ℕ) (found : Option Object) → is_of_class class found ≡ true → asked (λ object. kind_is_of class (kind_of object)) false found ≡ true
unfolding is_of_class
class_passes class None h = cc
class_passes class (Some (o.Exc raised message)) h = or_right (class == OBJECT) (class_is_below raised class) h
class_passes class (Some other) h = cc

module _ (rules : Rules) where
  abbrev Here : Scope → State → Env → Type 0
  Here g s e = StateTyped rules g s e

  -- the same as a record, so that what stands in it is found
  record Keeps {A : Type 0} (good : List Object → A → Type 0) (start : List Object) (g : Scope) (o : Out A) : Type 0 where
    by : OutTyped good rules start g o

  -- a world that is where it began
  begun : (w : World) → Fits rules w.store.objects → WorldFits rules w.store.objects w
  begun w f = beginnings_fit rules w f

  on_from : (start middle : List Object) (w : World) → StillThere start middle → WorldFits rules middle w → WorldFits rules start w
  on_from start middle w there h = record { fits = h.fits; there = there_trans start middle w.store.objects there h.there }

  done : {A : Type 0} {good : List Object → A → Type 0} {g : Scope} {a : A} {s : State} {e : Env} → Here g s e → good s.world.store.objects a → Keeps good s.world.store.objects g (Done a s e)
  done {s = s} h x = record { by = (begun s.world h.0, h.1, x) }

  lower_by : {A : Type 0} (good : List Object → A → Type 0) (start middle : List Object) (g : Scope) (o : Out A) → StillThere start middle → OutTyped good rules middle g o → OutTyped good rules start g o
  lower_by good start middle g (Done a s e) there x = (on_from start middle s.world there x.0, x.1, x.2)
  lower_by good start middle g (Thrown id place s e) there x = (on_from start middle s.world there x.0, x.1, x.2)
  lower_by good start middle g (Over limit place w) there x = on_from start middle w there x
  lower_by good start middle g More there x = tt

  binds : {A B : Type 0} (good : List Object → A → Type 0) (also : List Object → B → Type 0) (start : List Object) (g : Scope) (o : Out A) (next : A → State → Env → Out B) → OutTyped good rules start g o
      → ((a : A) (s : State) (e : Env) → Here g s e → StillThere start s.world.store.objects → good s.world.store.objects a → Keeps also s.world.store.objects g (next a s e))
      → OutTyped also rules start g (bind o next)
  binds good also start g (Done a s e) next x f = lower_by also start s.world.store.objects g (next a s e) x.0.there (f a s e (x.0.fits, x.1) x.0.there x.2).by
  binds good also start g (Thrown id place s e) next x f = x
  binds good also start g (Over limit place w) next x f = x
  binds good also start g More next x f = tt

  then' : {A B : Type 0} {good : List Object → A → Type 0} {also : List Object → B → Type 0} {start : List Object} {g : Scope} {o : Out A} {next : A → State → Env → Out B} → Keeps good start g o
      → ((a : A) (s : State) (e : Env) → Here g s e → StillThere start s.world.store.objects → good s.world.store.objects a → Keeps also s.world.store.objects g (next a s e))
      → Keeps also start g (bind o next)
  then' {good = good} {also = also} {start = start} {g = g} {o = o} {next = next} x f = record { by = binds good also start g o next x.by f }

  leaves : {A : Type 0} (good : List Object → A → Type 0) (start : List Object) (y : Variable) (g : Scope) (o : Out A) → OutTyped good rules start (y ∷ g) o → OutTyped good rules start g (leave o)
  leaves good start y g (Done a s e) x = (x.0, older_typed s.world.store.objects y g e x.1, x.2)
  leaves good start y g (Thrown id place s e) x = (x.0, older_typed s.world.store.objects y g e x.1, x.2)
  leaves good start y g (Over limit place w) x = x
  leaves good start y g More x = tt

  leaving : {A : Type 0} {good : List Object → A → Type 0} {start : List Object} {g : Scope} {o : Out A} (y : Variable) → Keeps good start (y ∷ g) o → Keeps good start g (leave o)
  leaving {good = good} {start = start} {g = g} {o = o} y x = record { by = leaves good start y g o x.by }

  found_typed : (of : Ty) (o : Option Value) (s : State) (e : Env) (g : Scope) → Here g s e → MadeTyped s.world.store.objects of o → Keeps (Of of) s.world.store.objects g (found o s e)
  found_typed of None s e g h x = record { by = tt }
  found_typed of (Some value) s e g h x = done h x

  chosen : {A : Type 0} {good : List Object → A → Type 0} {start : List Object} {g : Scope} {o p : Out A} (value : Value) → Keeps good start g o → Keeps good start g p → Keeps good start g (choose value o p)
  chosen (v.Bool true) x y = x
  chosen (v.Bool false) x y = y
  chosen v.Null x y = record { by = tt }
  chosen (v.Byte a) x y = record { by = tt }
  chosen (v.Short a) x y = record { by = tt }
  chosen (v.Char a) x y = record { by = tt }
  chosen (v.Int a) x y = record { by = tt }
  chosen (v.Long a) x y = record { by = tt }
  chosen (v.Str a) x y = record { by = tt }
  chosen (v.Ref a) x y = record { by = tt }

  either : {A : Type 0} {good : List Object → A → Type 0} {start : List Object} {g : Scope} {o p : Out A} (test : Bool) → Keeps good start g o → Keeps good start g p → Keeps good start g (if test then p else o)
  either true x y = y
  either false x y = x

  next : (of : Ty) {g : Scope} {o : Out Flow} (flow : Flow) (s : State) (e : Env) → Here g s e → FlowTyped of s.world.store.objects flow → Keeps (FlowTyped of) s.world.store.objects g o
      → Keeps (FlowTyped of) s.world.store.objects g (goes_next flow s e o)
  next of Normal s e h f x = x
  next of Broke s e h f x = done h tt
  next of Continued s e h f x = done h tt
  next of (Returned value) s e h f x = done h f

  again : (of : Ty) {g : Scope} {o : Out Flow} (flow : Flow) (s : State) (e : Env) → Here g s e → FlowTyped of s.world.store.objects flow → Keeps (FlowTyped of) s.world.store.objects g o
      → Keeps (FlowTyped of) s.world.store.objects g (goes_again flow s e o)
  again of Normal s e h f x = x
  again of Broke s e h f x = done h tt
  again of Continued s e h f x = x
  again of (Returned value) s e h f x = done h f

  effect_by : (of : Ty) (o : Outcome Value) (s : State) (e : Env) (g : Scope) → Here g s e → OutcomeIs rules s.world.store.objects of o → OutTyped (Of of) rules s.world.store.objects g (effect o s e)
  effect_by of (Given value w) s e g h x = (x.0, env_grows s.world.store.objects w.store.objects x.0.there g e h.1, x.1)
  effect_by of (Raised id w) s e g h x = (x.0, env_grows s.world.store.objects w.store.objects x.0.there g e h.1, x.1)
  effect_by of Full s e g h x = begun s.world h.0

  effect_typed : (of : Ty) (o : Outcome Value) (s : State) (e : Env) (g : Scope) → Here g s e → OutcomeIs rules s.world.store.objects of o → Keeps (Of of) s.world.store.objects g (effect o s e)
  effect_typed of o s e g h x = record { by = effect_by of o s e g h x }

  operated_typed : (of : Ty) (o : Operated) (s : State) (e : Env) (g : Scope) (h : Here g s e) → OperatedIs rules s.world h.0 of o → Keeps (Of of) s.world.store.objects g (operated o s e)
  operated_typed of Meaningless s e g h x = record { by = tt }
  operated_typed of (Gives value) s e g h x = done h x
  operated_typed of (Acts given) s e g h x = effect_typed of (acts_in s.world given) s e g h x

  -- what is thrown, whatever a value would be
  thrown_by : (o : Outcome Value) (s : State) (e : Env) (g : Scope) → Here g s e → OutcomeFits rules s.world.store.objects (count_in s.world) o → OutTyped Any rules s.world.store.objects g (effect o s e)
  thrown_by (Given value w) s e g h x = (x.0, env_grows s.world.store.objects w.store.objects x.0.there g e h.1, tt)
  thrown_by (Raised id w) s e g h x = (x.0, env_grows s.world.store.objects w.store.objects x.0.there g e h.1, x.2)
  thrown_by Full s e g h x = begun s.world h.0

  -- ---- in a world of the same store

  same_state : (w after : World) (turns turns' : ℕ) (g : Scope) (e : Env) → after.store ≡ w.store → Here g (record { world = w; turns = turns }) e → Here g (record { world = after; turns = turns' }) e
  same_state w after turns turns' g e is h = subst (λ (x : Store). Fits rules x.objects × EnvTyped x.objects g e) (sym is) h

  passes_on : (w after : World) → after.store ≡ w.store → Fits rules w.store.objects → WorldFits rules w.store.objects after
  passes_on w after is f = subst (λ (x : Store). WorldFits rules x.objects after) is (begun after (subst (λ (x : Store). Fits rules x.objects) (sym is) f))

  moved : {A : Type 0} (good : List Object → A → Type 0) (g : Scope) (w after : World) (o : Out A) → after.store ≡ w.store → Keeps good after.store.objects g o → Keeps good w.store.objects g o
  moved good g w after o is x = subst (λ (y : Store). Keeps good y.objects g o) is x

  -- ---- the casts that are due

  each_typed : (of : Ty) (tos : List Ty) (value : Value) (s : State) (e : Env) (g : Scope) → Here g s e → IsTyped s.world.store.objects of value → Keeps (Of (last_type of tos)) s.world.store.objects g (cast_each tos value s e)
  each_typed of [] value s e g h x = done h x
  each_typed of (to ∷ tos) value s e g h x = then' (effect_typed to _ s e g h (cast_is rules s.world h.0 value to false x.there)) (λ value s e h there x. each_typed to tos value s e g h x)

  due_typed : (of : Ty) (due : List Ty) (value : Value) (s : State) (e : Env) (g : Scope) → DueOf of due → Here g s e → IsTyped s.world.store.objects of value
      → Keeps (Of (due_type of due)) s.world.store.objects g (casts_due due value s e)
  due_typed of [] value s e g dues h x = done h x
  due_typed of (from ∷ tos) value s e g dues h x =
      then' (found_typed from (passed_result from value) s e g h (result_typed s.world.store.objects from value (subst (λ (of : Ty). IsTyped s.world.store.objects of value) (sym dues) x)))
      (λ value s e h there x. each_typed from tos value s e g h x)

  module _ (every : rules.typed ≡ Every) (funs : Programs) (limits : Limits) (formed : (text : Owner) → WellFormed (known_in funs limits text)) (m : Meaning)
      (ih : MeaningTyped rules funs limits m) where
    expr_ih : (x : Expr) (d : Place) (s : State) (e : Env) (g : Scope) → ExprAgrees (known_in funs limits d.text) g x → Here g s e → Keeps (Of (type_of x)) s.world.store.objects g (m.expr d s e x)
    expr_ih x d s e g a h = record { by = ih.expr x d s e g a h }

    exprs_ih : (x : Exprs) (d : Place) (s : State) (e : Env) (g : Scope) → ExprsAgree (known_in funs limits d.text) g x → Here g s e
        → Keeps (λ objects values. AreTyped objects (types_of x) values) s.world.store.objects g (m.exprs d s e x)
    exprs_ih x d s e g a h = record { by = ih.exprs x d s e g a h }

    stmt_ih : (x : Stmt) (d : Place) (s : State) (e : Env) (g : Scope) (of : Ty) (looped : Bool) → StmtAgrees (known_in funs limits d.text) of looped g x → Here g s e
        → Keeps (FlowTyped of) s.world.store.objects g (m.stmt d s e x)
    stmt_ih x d s e g of looped a h = record { by = ih.stmt x d s e g of looped a h }

    stmts_ih : (x : Stmts) (d : Place) (s : State) (e : Env) (g : Scope) (of : Ty) (looped : Bool) → StmtsAgree (known_in funs limits d.text) of looped g x → Here g s e
        → Keeps (FlowTyped of) s.world.store.objects g (m.stmts d s e x)
    stmts_ih x d s e g of looped a h = record { by = ih.stmts x d s e g of looped a h }

    -- an expression whose type is this one
    expr_of_type : (x : Expr) (of : Ty) (d : Place) (s : State) (e : Env) (g : Scope) → type_of x ≡ of → ExprAgrees (known_in funs limits d.text) g x → Here g s e
        → Keeps (Of of) s.world.store.objects g (m.expr d s e x)
    expr_of_type x of d s e g same a h = subst (λ (of : Ty). Keeps (Of of) s.world.store.objects g (m.expr d s e x)) same (expr_ih x d s e g a h)

    -- ---- calls of functions

    backs : (of : Ty) (inner g : Scope) (start : List Object) (turns : ℕ) (e : Env) (o : Out Flow) → EnvTyped start g e → OutTyped (FlowTyped of) rules start inner o → OutTyped (Of of) rules start g (back of o turns e)
    backs of inner g start turns e (Done flow s e') h x =
        lower_by (Of of) start s.world.store.objects g (found (returned of flow) (record { world = s.world; turns = turns }) e) x.0.there
        (found_typed of (returned of flow) (record { world = s.world; turns = turns }) e g (x.0.fits, env_grows start s.world.store.objects x.0.there g e h) (returned_typed s.world.store.objects of flow x.2)).by
    backs of inner g start turns e (Thrown id place s e') h x = (x.0, env_grows start s.world.store.objects x.0.there g e h, x.2)
    backs of inner g start turns e (Over limit place w) h x = x
    backs of inner g start turns e More h x = tt

    enters : (c : Counted) (text : Owner) (due : List Ty) (d : Place) (s : State) (e : Env) (g : Scope) (f : Fun) (o : Option Env) → FunAgrees (known_in funs limits text) f → DueOf f.result due → Here g s e
        → EntryTyped s.world.store.objects (scope_of f.params []) o → SameStore s.world c
        → Keeps (Of (due_type f.result due)) s.world.store.objects g (entered funs limits m c text due d s e f.result f.body o)
    enters c text due d s e g f None a dues h x p = record { by = tt }
    enters (Passes limit w) text due d s e g f (Some args) a dues h x p = record { by = passes_on s.world w p h.0 }
    enters (Counts w) text due d s e g f (Some args) a dues h x p =
        let inner = same_state s.world w s.turns 0 (scope_of f.params []) args p (h.0, x) in
        let outer = same_state s.world w s.turns 0 g e p h in
        let gives : Keeps (Of f.result) w.store.objects g (back f.result (m.stmts (record { text = text; depth = suc d.depth }) (record { world = w; turns = 0 }) args f.body) s.turns e) =
        record { by = backs f.result (scope_of f.params []) g w.store.objects s.turns e _ outer.1 (ih.stmts f.body (record { text = text; depth = suc d.depth }) (record { world = w; turns = 0 }) args (scope_of f.params []) f.result false a.body inner) } in
        moved (Of (due_type f.result due)) g s.world w _ p (then' gives (λ value s e h there x. due_typed f.result due value s e g dues h x))

    calls : (number : ℕ) (counted : Counted) (text : Owner) (due ofs : List Ty) (of : Ty) (d : Place) (s : State) (e : Env) (g : Scope) (values : List Value) → Calls (known_in funs limits text) number ofs of
        → DueOf of due → Here g s e → AreTyped s.world.store.objects ofs values → SameStore s.world counted
        → Keeps (Of (due_type of due)) s.world.store.objects g (called funs limits m (slice_get (functions_in funs text) number) counted text due d s e values)
    calls number counted text due ofs of d s e g values c dues h x p =
        let args = entry_typed s.world.store.objects c.fun.params values [] [] (subst (λ (ofs : List Ty). AreTyped s.world.store.objects ofs values) c.takes x) tt in
        subst (λ (found : Option Fun). Keeps (Of (due_type of due)) s.world.store.objects g (called funs limits m found counted text due d s e values)) (sym c.is)
        (subst (λ (of : Ty). Keeps (Of (due_type of due)) s.world.store.objects g (called funs limits m (Some c.fun) counted text due d s e values)) (sym c.gives)
        (enters counted text due d s e g c.fun (entry c.fun.params values []) ((formed text).each number c.fun c.is) (subst (λ (of : Ty). DueOf of due) c.gives dues) h args p))

    -- ---- members

    acts : (of : Ty) (o : Option Effect) (s : State) (e : Env) (g : Scope) → Here g s e → DoneIs rules s.world.store.objects of s.world o → Keeps (Of of) s.world.store.objects g (acted funs limits m o s e)
    acts of None s e g h x = record { by = tt }
    acts of (Some given) s e g h x = effect_typed of (acts_in s.world given) s e g h x

    pays : (number : ℕ) (arguments : List Value) (c : Counted) (s : State) (e : Env) (g : Scope) → Here g s e → is_built number ≡ true
        → Taken s.world.store.objects (member_at number).kind (member_at number).owner (member_at number).params arguments → SameStore s.world c
        → Keeps (Of (member_at number).result) s.world.store.objects g (paid funs limits m c number arguments s e)
    pays number arguments (Passes limit w) s e g h b x p = record { by = passes_on s.world w p h.0 }
    pays number arguments (Counts w) s e g h b x p =
        let here = same_state s.world w s.turns s.turns g e p h in
        moved (Of (member_at number).result) g s.world w _ p
        (acts (member_at number).result (does limits.ground.host number arguments w.store) (record { world = w; turns = s.turns }) e g here (member_is rules w limits.ground.host number arguments here.0 b
        (subst (λ (y : Store). Taken y.objects (member_at number).kind (member_at number).owner (member_at number).params arguments) (sym p) x)))

    member_calls : (c : Sending) (number : ℕ) (d : Place) (s : State) (e : Env) (g : Scope) → Here g s e → is_built number ≡ true
        → SendingTyped s.world.store.objects (member_at number).kind (member_at number).owner (member_at number).params c
        → Keeps (Of (member_at number).result) s.world.store.objects g (member_called funs limits m c number (member_at number) d s e)
    member_calls Unsent number d s e g h b x = record { by = tt }
    member_calls OnNull number d s e g h b x = effect_typed (member_at number).result _ s e g h (null_is rules s.world h.0 (member_at number).result)
    member_calls (Sends arguments) number d s e g h b x =
        subst (λ (suits : Bool). Keeps (Of (member_at number).result) s.world.store.objects g (tested funs limits m suits number arguments d s e))
        (sym (typed_calls_pass s.world.store.objects (member_at number) arguments x.takes))
        (pays number arguments (pay_member d.text number s.world) s e g h b x (member_keeps d.text number s.world))
    member_calls Reads number d s e g h b x = acts (member_at number).result (does limits.ground.host number [] s.world.store) s e g h (member_is rules s.world limits.ground.host number [] h.0 b x)

    allowed_members : (allow : AllowList) (allowed : Bool) (number : ℕ) (values : List Value) (d : Place) (s : State) (e : Env) (g : Scope) → Here g s e → is_built number ≡ true
        → SendingTyped s.world.store.objects (member_in allow number).kind (member_in allow number).owner (member_in allow number).params (sent (member_in allow number) values)
        → Keeps (Of (member_in allow number).result) s.world.store.objects g (member_applied funs limits m allow allowed number values d s e)
    allowed_members allow false number values d s e g h b x = record { by = tt }
    allowed_members allow true number values d s e g h b x = member_calls (sent (member_in allow number) values) number d s e g h b x

    -- a member of a kind
    members : (sort : MemberKind) (x : Member) (ofs : List Ty) (of : Ty) (values : List Value) (d : Place) (s : State) (e : Env) (g : Scope) → MemberAgrees (known_in funs limits d.text) sort x ofs of
        → Here g s e → AreTyped s.world.store.objects ofs values → Keeps (Of of) s.world.store.objects g (of_member funs limits m x values d s e)
    members sort x ofs of values d s e g a h args =
        let same : member_at x.number ≡ a.member = get_or_from_slice_get catalogue x.number a.member (constructor 0 []) a.is in
        let sorted : (member_at x.number).kind ≡ sort = ap (λ (y : MemberType). y.kind) same ∙ a.sort in
        let takes : TakesTypes sort (member_at x.number).params ofs = subst (λ (y : MemberType). TakesTypes sort y.params ofs) (sym same) a.takes in
        let gives : (member_at x.number).result ≡ of = ap (λ (y : MemberType). y.result) same ∙ sym a.gives in
        let receiver : ReceiverIsOf sort (member_at x.number).owner ofs = subst (λ (y : MemberType). ReceiverIsOf sort y.owner ofs) (sym same) a.receiver in
        let sending = sent_typed s.world.store.objects sort (member_at x.number).owner (member_at x.number).params ofs values takes receiver args in
        let sending' = subst (λ (k : MemberKind). SendingTyped s.world.store.objects k (member_at x.number).owner (member_at x.number).params (sent_by k (member_at x.number).params values)) (sym sorted) sending in
        subst (λ (of : Ty). Keeps (Of of) s.world.store.objects g (of_member funs limits m x values d s e)) gives
        (allowed_members (allowed_in limits d.text) (flag (allowed_in limits d.text).members x.number) x.number values d s e g h a.built sending')

    -- ---- what is found for a receiver when the script runs, which is of type def

    found_pays : (c : Counted) (number : ℕ) (arguments : List Value) (s : State) (e : Env) (g : Scope) → Here g s e → AllFit (count_in s.world) arguments → SameStore s.world c
        → Keeps (Of t.Def) s.world.store.objects g (paid funs limits m c number arguments s e)
    found_pays (Passes limit w) number arguments s e g h f p = record { by = passes_on s.world w p h.0 }
    found_pays (Counts w) number arguments s e g h f p =
        let here = same_state s.world w s.turns s.turns g e p h in
        moved (Of t.Def) g s.world w _ p
        (acts t.Def (does limits.ground.host number arguments w.store) (record { world = w; turns = s.turns }) e g here
        (found_is rules w.store.objects w (does limits.ground.host number arguments w.store)
        (members_fit rules w.store.objects w limits.ground.host number arguments (begun w here.0) (subst (λ (x : Store). AllFit (length x.objects) arguments) (sym p) f))))

    accesses : (a : Access) (d : Place) (s : State) (e : Env) (g : Scope) → Here g s e → AccessFits rules s.world.store.objects s.world a → Keeps (Of t.Def) s.world.store.objects g (accessed funs limits m a d s e)
    accesses (Finds number arguments) d s e g h f = found_pays (pay_member d.text number s.world) number arguments s e g h f (member_keeps d.text number s.world)
    accesses (Does given) d s e g h f =
        effect_typed t.Def (acts_in s.world given) s e g h (outcome_is rules s.world.store.objects (count_in s.world) t.Def (acts_in s.world given) f (def_typed (acts_in s.world given)))

    methods : (name : Name) (values : List Value) (d : Place) (s : State) (e : Env) (g : Scope) → Here g s e → AllFit (count_in s.world) values
        → Keeps (Of t.Def) s.world.store.objects g (method_applied funs limits m name values d s e)
    methods name [] d s e g h f = record { by = tt }
    methods name (receiver ∷ arguments) d s e g h f =
        accesses (method_called (allowed_in limits d.text) s.world.store receiver name arguments) d s e g h
        (method_called_fits rules s.world.store.objects s.world (begun s.world h.0) (allowed_in limits d.text) receiver name arguments f)

    names : (name : Name) (values : List Value) (d : Place) (s : State) (e : Env) (g : Scope) → Here g s e → AllFit (count_in s.world) values
        → Keeps (Of t.Def) s.world.store.objects g (name_applied funs limits m name values d s e)
    names name [] d s e g h f = record { by = tt }
    names name (receiver ∷ []) d s e g h f =
        accesses (name_read (allowed_in limits d.text) s.world.store receiver name) d s e g h (name_read_fits rules s.world.store.objects s.world (begun s.world h.0) (allowed_in limits d.text) receiver name f.0)
    names name (receiver ∷ value ∷ values) d s e g h f = record { by = tt }

    put_names : (name : Name) (values : List Value) (d : Place) (s : State) (e : Env) (g : Scope) → Here g s e → AllFit (count_in s.world) values
        → Keeps (Of t.Def) s.world.store.objects g (name_put funs limits m name values d s e)
    put_names name [] d s e g h f = record { by = tt }
    put_names name (receiver ∷ []) d s e g h f = record { by = tt }
    put_names name (receiver ∷ value ∷ []) d s e g h f =
        accesses (name_written (allowed_in limits d.text) s.world.store receiver name value) d s e g h
        (name_written_fits rules s.world.store.objects s.world (begun s.world h.0) (allowed_in limits d.text) receiver name value f)
    put_names name (receiver ∷ value ∷ other ∷ values) d s e g h f = record { by = tt }

    indexes : (values : List Value) (d : Place) (s : State) (e : Env) (g : Scope) → Here g s e → AllFit (count_in s.world) values
        → Keeps (Of t.Def) s.world.store.objects g (index_applied funs limits m values d s e)
    indexes [] d s e g h f = record { by = tt }
    indexes (receiver ∷ []) d s e g h f = record { by = tt }
    indexes (receiver ∷ index ∷ []) d s e g h f =
        accesses (index_read (allowed_in limits d.text) s.world.store receiver index) d s e g h
        (index_read_fits rules s.world.store.objects s.world (begun s.world h.0) (allowed_in limits d.text) receiver index f)
    indexes (receiver ∷ index ∷ other ∷ values) d s e g h f = record { by = tt }

    put_indexes : (values : List Value) (d : Place) (s : State) (e : Env) (g : Scope) → Here g s e → AllFit (count_in s.world) values
        → Keeps (Of t.Def) s.world.store.objects g (index_put funs limits m values d s e)
    put_indexes [] d s e g h f = record { by = tt }
    put_indexes (receiver ∷ []) d s e g h f = record { by = tt }
    put_indexes (receiver ∷ index ∷ []) d s e g h f = record { by = tt }
    put_indexes (receiver ∷ index ∷ value ∷ []) d s e g h f =
        accesses (index_written (allowed_in limits d.text) s.world.store receiver index value) d s e g h
        (index_written_fits rules s.world.store.objects s.world (begun s.world h.0) (allowed_in limits d.text) receiver index value f)
    put_indexes (receiver ∷ index ∷ value ∷ other ∷ values) d s e g h f = record { by = tt }

    -- ---- expressions

    applies : (o : Operation) (ofs : List Ty) (of : Ty) (values : List Value) (d : Place) (s : State) (e : Env) (g : Scope) → Applies (known_in funs limits d.text) o ofs of
        → Here g s e → AreTyped s.world.store.objects ofs values → Keeps (Of of) s.world.store.objects g (applied funs limits m o d s e of values)
    applies (operation.Operator o) ofs of values d s e g a h x = operated_typed of (operates_to o of values s.world.store) s e g h (node_is rules s.world h.0 o ofs of values every a x)
    applies (operation.Cast c) [] of values d s e g a h x = absurd a
    applies (operation.Cast c) (from ∷ []) of [] d s e g a h x = absurd x
    applies (operation.Cast c) (from ∷ []) of (value ∷ []) d s e g a h x = operated_typed of (casts c of value s.world.store) s e g h (casts_is rules s.world h.0 c from of value a x.0)
    applies (operation.Cast c) (from ∷ []) of (value ∷ other ∷ values) d s e g a h x = absurd x.1
    applies (operation.Cast c) (from ∷ other ∷ ofs) of values d s e g a h x = absurd a
    applies (operation.InstanceOf is) [] of values d s e g a h x = absurd a
    applies (operation.InstanceOf is) (from ∷ []) of [] d s e g a h x = absurd x
    applies (operation.InstanceOf is) (from ∷ []) of (value ∷ []) d s e g a h x = done h (flag_typed s.world.store.objects of (is_instance s.world.store.objects value is) a.2)
    applies (operation.InstanceOf is) (from ∷ []) of (value ∷ other ∷ values) d s e g a h x = absurd x.1
    applies (operation.InstanceOf is) (from ∷ other ∷ ofs) of values d s e g a h x = absurd a
    applies (operation.Function number) ofs of values d s e g a h x = calls number (enter limits d.depth s.world) d.text [] ofs of d s e g values a tt h x (call_keeps limits d.depth s.world)
    applies (operation.Instance member) [] of values d s e g a h x = absurd a.takes
    applies (operation.Instance member) (from ∷ ofs) of values d s e g a h x = members kind.Instance member (from ∷ ofs) of values d s e g a h x
    applies (operation.Static member) ofs of values d s e g a h x = members kind.Static member ofs of values d s e g a h x
    applies (operation.Constructor member) ofs of values d s e g a h x = members kind.Constructor member ofs of values d s e g a h x
    applies (operation.Field member) ofs of values d s e g a h x = members kind.Field member ofs of values d s e g a h x
    applies (operation.Host member) ofs of values d s e g a h x = absurd a
    applies (operation.DefCall name) ofs of values d s e g a h x =
        subst (λ (of : Ty). Keeps (Of of) s.world.store.objects g (method_applied funs limits m name values d s e)) (sym a.1) (methods name values d s e g h (all_there s.world.store.objects ofs values x))
    applies (operation.DefName name) ofs of values d s e g a h x =
        subst (λ (of : Ty). Keeps (Of of) s.world.store.objects g (name_applied funs limits m name values d s e)) (sym a.1) (names name values d s e g h (all_there s.world.store.objects ofs values x))
    applies (operation.PutDefName name) ofs of values d s e g a h x = absurd a
    applies operation.DefIndex ofs of values d s e g a h x =
        subst (λ (of : Ty). Keeps (Of of) s.world.store.objects g (index_applied funs limits m values d s e)) (sym a.1) (indexes values d s e g h (all_there s.world.store.objects ofs values x))
    applies operation.PutDefIndex ofs of values d s e g a h x = absurd a

    logic_typed : (o : Logical) (of : Ty) (value : Value) (right : Expr) (d : Place) (s : State) (e : Env) (g : Scope) → of ≡ boolean → type_of right ≡ of → ExprAgrees (known_in funs limits d.text) g right
        → Here g s e → Keeps (Of of) s.world.store.objects g (logic funs limits m o d s e value right)
    logic_typed And of value right d s e g is same a h = chosen value (expr_of_type right of d s e g same a h) (done h (flag_typed s.world.store.objects of false is))
    logic_typed Or of value right d s e g is same a h = chosen value (done h (flag_typed s.world.store.objects of true is)) (expr_of_type right of d s e g same a h)

    -- what is read of a target, changed
    changed_typed : (of : Ty) (change : Change) (right : Expr) (old : Value) (d : Place) (s : State) (e : Env) (g : Scope) → ExprAgrees (known_in funs limits d.text) g right
        → Changes change of (type_of right) → Here g s e → IsTyped s.world.store.objects of old → Keeps (Of of) s.world.store.objects g (changed funs limits m of change d s e right old)
    changed_typed of change right old d s e g a k h f =
        then' (operated_typed k.left (casts change.before of old s.world.store) s e g h (begins_is rules s.world h.0 change.before of k.left old k.known k.before f)) (λ left s1 e1 h1 n1 f1.
        then' (expr_ih right d s1 e1 g a h1) (λ value s2 e2 h2 n2 f2.
        let left2 = typed_grows s1.world.store.objects s2.world.store.objects n2 k.left left f1 in
        then' (operated_typed k.result (operates change.operator (left ∷ value ∷ []) s2.world.store) s2 e2 g h2
        (operates_is rules s2.world h2.0 change.operator (k.left ∷ type_of right ∷ []) k.result (left ∷ value ∷ []) k.does (left2, (f2, tt)))) (λ result s3 e3 h3 n3 f3.
        operated_typed of (casts change.after of result s3.world.store) s3 e3 g h3 (casts_is rules s3.world h3.0 change.after k.result of result k.after f3))))

    modifies : (x : Name) (of : Ty) (change : Change) (right : Expr) (given : Given_by) (old : Value) (d : Place) (s : State) (e : Env) (g : Scope) → IsVariable g x of
        → ExprAgrees (known_in funs limits d.text) g right → Changes change of (type_of right) → Here g s e → IsTyped s.world.store.objects of old
        → Keeps (Of of) s.world.store.objects g (modified funs limits m x of change d s e right given old)
    modifies x of change right given old d s e g v a k h f =
        then' (changed_typed of change right old d s e g a k h f) (λ new s1 e1 h1 n1 f1.
        done (h1.0, assigned_typed s1.world.store.objects g e1 x of new v f1 h1.1)
        (given_by_typed s1.world.store.objects given of old new (typed_grows s.world.store.objects s1.world.store.objects n1 of old f) f1))

    -- ---- writes, what they give being dropped

    dropped : (o : Operated) (s : State) (e : Env) (g : Scope) (h : Here g s e) → OperatedFits rules s.world.store.objects s.world (begun s.world h.0) o → Keeps Any s.world.store.objects g (operated o s e)
    dropped Meaningless s e g h x = record { by = tt }
    dropped (Gives value) s e g h x = done h tt
    dropped (Acts given) s e g h x = record { by = thrown_by (acts_in s.world given) s e g h x }

    writes : (write : Operation) (ofs : List Ty) (of : Ty) (values : List Value) (new given : Value) (d : Place) (s : State) (e : Env) (g : Scope) → Writes (known_in funs limits d.text) write ofs of
        → Here g s e → AreTyped s.world.store.objects ofs values → IsTyped s.world.store.objects of new → IsTyped s.world.store.objects of given
        → Keeps (Of of) s.world.store.objects g (written funs limits m write d s e of values new given)
    writes (operation.Operator o) ofs of values new given d s e g a h x n k =
        let all = all_there s.world.store.objects (ofs ++ of ∷ []) (values ++ new ∷ []) (typed_behind s.world.store.objects ofs of values new x n) in
        then' (dropped (operates_to o of (values ++ new ∷ []) s.world.store) s e g h (operates_to_fit rules s.world.store.objects s.world (begun s.world h.0) o of (values ++ new ∷ []) all)) (λ value s1 e1 h1 n1 f1.
        done h1 (typed_grows s.world.store.objects s1.world.store.objects n1 of given k))
    writes (operation.Instance member) ofs of values new given d s e g a h x n k =
        then' (members kind.Instance member (ofs ++ of ∷ []) a.given (values ++ new ∷ []) d s e g a.agrees h (typed_behind s.world.store.objects ofs of values new x n)) (λ value s1 e1 h1 n1 f1.
        done h1 (typed_grows s.world.store.objects s1.world.store.objects n1 of given k))
    writes (operation.PutDefName name) ofs of values new given d s e g a h x n k =
        then' (put_names name (values ++ new ∷ []) d s e g h (all_there s.world.store.objects (ofs ++ of ∷ []) (values ++ new ∷ []) (typed_behind s.world.store.objects ofs of values new x n))) (λ value s1 e1 h1 n1 f1.
        done h1 (typed_grows s.world.store.objects s1.world.store.objects n1 of given k))
    writes operation.PutDefIndex ofs of values new given d s e g a h x n k =
        then' (put_indexes (values ++ new ∷ []) d s e g h (all_there s.world.store.objects (ofs ++ of ∷ []) (values ++ new ∷ []) (typed_behind s.world.store.objects ofs of values new x n))) (λ value s1 e1 h1 n1 f1.
        done h1 (typed_grows s.world.store.objects s1.world.store.objects n1 of given k))
    writes other ofs of values new given d s e g a h x n k = absurd a

    modifies_at : (read : Option Operation) (write : Operation) (ofs : List Ty) (of : Ty) (change : Change) (right : Expr) (given : Given_by) (values : List Value) (d : Place) (s : State) (e : Env) (g : Scope)
        → IsReadBy (known_in funs limits d.text) read ofs of → Writes (known_in funs limits d.text) write ofs of → ExprAgrees (known_in funs limits d.text) g right → Changes change of (type_of right)
        → Here g s e → AreTyped s.world.store.objects ofs values → Keeps (Of of) s.world.store.objects g (modified_at funs limits m read write of change d s e values right given)
    modifies_at None write ofs of change right given values d s e g r w a k h x = absurd r
    modifies_at (Some read) write ofs of change right given values d s e g r w a k h x =
        then' (applies read ofs of values d s e g r h x) (λ old s1 e1 h1 n1 f1.
        then' (changed_typed of change right old d s1 e1 g a k h1 f1) (λ new s2 e2 h2 n2 f2.
        let there = there_trans s.world.store.objects s1.world.store.objects s2.world.store.objects n1 n2 in
        writes write ofs of values new (given_by given old new) d s2 e2 g w h2 (all_grow s.world.store.objects s2.world.store.objects there ofs values x) f2
        (given_by_typed s2.world.store.objects given of old new (typed_grows s1.world.store.objects s2.world.store.objects n2 of old f1) f2)))

    assigns : (at : ℕ) (of : Ty) (to : Target) (parts : Exprs) (value : Expr) (d : Place) (s : State) (e : Env) (g : Scope) → ExprAgrees (known_in funs limits d.text) g (Assign at of to parts value)
        → Here g s e → Keeps (Of of) s.world.store.objects g (expr_of funs limits m d s e (Assign at of to parts value))
    assigns at of (target.Local x) parts value d s e g a h =
        then' (expr_of_type value of d s e g a.2 a.0 h) (λ value s e h n f. done (h.0, assigned_typed s.world.store.objects g e x of value a.1 f h.1) f)
    assigns at of (target.Place read write) parts value d s e g a h =
        then' (exprs_ih parts d s e g a.0 h) (λ values s1 e1 h1 n1 f1.
        then' (expr_of_type value of d s1 e1 g a.2 a.1 h1) (λ new s2 e2 h2 n2 f2.
        writes write (types_of parts) of values new new d s2 e2 g a.4 h2 (all_grow s1.world.store.objects s2.world.store.objects n2 (types_of parts) values f1) f2 f2))

    changes : (at : ℕ) (of : Ty) (to : Target) (parts : Exprs) (change : Change) (right : Expr) (given : Given_by) (d : Place) (s : State) (e : Env) (g : Scope)
        → ExprAgrees (known_in funs limits d.text) g (Modify at of to parts change right given) → Here g s e
        → Keeps (Of of) s.world.store.objects g (expr_of funs limits m d s e (Modify at of to parts change right given))
    changes at of (target.Local x) parts change right given d s e g a h =
        then' (found_typed of (lookup e x) s e g h (lookup_typed s.world.store.objects g e x of a.1 h.1)) (λ old s e h n f. modifies x of change right given old d s e g a.1 a.0 a.2 h f)
    changes at of (target.Place read write) parts change right given d s e g a h =
        then' (exprs_ih parts d s e g a.0 h) (λ values s1 e1 h1 n1 f1. modifies_at read write (types_of parts) of change right given values d s1 e1 g a.4 a.5 a.1 a.2 h1 f1)

    expr_keeps : (x : Expr) (d : Place) (s : State) (e : Env) (g : Scope) → ExprAgrees (known_in funs limits d.text) g x → Here g s e
        → Keeps (Of (type_of x)) s.world.store.objects g (expr_of funs limits m d s e x)
    expr_keeps (Literal at of c) d s e g a h = done h (constant_typed s.world.store.objects c of a)
    expr_keeps (Quoted at of text) d s e g a h = done h (text_typed s.world.store.objects of _ a)
    expr_keeps (Local at of x) d s e g a h = found_typed of (lookup e x) s e g h (lookup_typed s.world.store.objects g e x of a h.1)
    expr_keeps (Apply at of o parts) d s e g a h = then' (exprs_ih parts d s e g a.0 h) (λ values s e h n f. applies o (types_of parts) of values d s e g a.1 h f)
    expr_keeps (Guarded at of o None') d s e g a h = absurd a
    expr_keeps (Guarded at of o (One x others)) d s e g a h =
        then' (expr_ih x d s e g a.0 h) (λ value s1 e1 h1 n1 f1. either (is_null value)
        (then' (exprs_ih others d s1 e1 g a.1 h1) (λ values s2 e2 h2 n2 f2.
        applies o (type_of x ∷ types_of others) of (value ∷ values) d s2 e2 g a.2.agrees h2
        (typed_grows s1.world.store.objects s2.world.store.objects n2 (type_of x) value f1, f2)))
        (done h1 (null_typed s1.world.store.objects of a.2.whole)))
    expr_keeps (Logic at of o left right) d s e g a h =
        then' (expr_ih left d s e g a.0 h) (λ value s e h n f. logic_typed o of value right d s e g a.4 (a.3 ∙ sym a.4) a.1 h)
    expr_keeps (Conditional at of c x y) d s e g a h =
        then' (expr_ih c d s e g a.0 h) (λ value s e h n f. chosen value (expr_of_type x of d s e g a.4 a.1 h) (expr_of_type y of d s e g a.5 a.2 h))
    expr_keeps (Elvis at of left right) d s e g a h =
        then' (expr_of_type left of d s e g a.2 a.0 h) (λ value s e h n f. either (is_null value) (done h f) (expr_of_type right of d s e g a.3 a.1 h))
    expr_keeps (Assign at of to parts value) d s e g a h = assigns at of to parts value d s e g a h
    expr_keeps (Modify at of to parts change right given) d s e g a h = changes at of to parts change right given d s e g a h
    expr_keeps (Lambda at of interface function) d s e g a h = absurd a
    expr_keeps (Reference at of interface class name) d s e g a h = absurd a
    expr_keeps (NewReference at of interface made) d s e g a h = absurd a

    exprs_keep : (x : Exprs) (d : Place) (s : State) (e : Env) (g : Scope) → ExprsAgree (known_in funs limits d.text) g x → Here g s e
        → Keeps (λ objects values. AreTyped objects (types_of x) values) s.world.store.objects g (exprs_of funs limits m d s e x)
    exprs_keep None' d s e g a h = done h tt
    exprs_keep (One x others) d s e g a h =
        then' (expr_ih x d s e g a.0 h) (λ value s1 e1 h1 n1 f1.
        then' (exprs_ih others d s1 e1 g a.1 h1) (λ values s2 e2 h2 n2 f2. done h2 (typed_grows s1.world.store.objects s2.world.store.objects n2 (type_of x) value f1, f2)))

    -- ---- statements

    any_by : (of : Ty) (start : List Object) (g : Scope) (o : Out Value) → OutTyped (Of of) rules start g o → OutTyped Any rules start g o
    any_by of start g (Done a s e) x = (x.0, x.1, tt)
    any_by of start g (Thrown id place s e) x = x
    any_by of start g (Over limit place w) x = x
    any_by of start g More x = tt

    -- an expression whose value is not looked at
    any_expr : (x : Expr) (d : Place) (s : State) (e : Env) (g : Scope) → ExprAgrees (known_in funs limits d.text) g x → Here g s e → Keeps Any s.world.store.objects g (m.expr d s e x)
    any_expr x d s e g a h = record { by = any_by (type_of x) s.world.store.objects g (m.expr d s e x) (ih.expr x d s e g a h) }

    test_keeps : (test : Maybe) (d : Place) (s : State) (e : Env) (g : Scope) → TestAgrees (known_in funs limits d.text) g test → Here g s e
        → Keeps Any s.world.store.objects g (value_if funs limits m test (v.Bool true) d s e)
    test_keeps Missing d s e g a h = done h tt
    test_keeps (Present x) d s e g a h = any_expr x d s e g a.0 h

    update_keeps : (update : Maybe) (d : Place) (s : State) (e : Env) (g : Scope) → UpdateAgrees (known_in funs limits d.text) g update → Here g s e
        → Keeps Any s.world.store.objects g (value_if funs limits m update v.Null d s e)
    update_keeps Missing d s e g a h = done h tt
    update_keeps (Present x) d s e g a h = any_expr x d s e g a h

    turns_keep : (c : Counted) (test update : Maybe) (body : Stmts) (d : Place) (s : State) (e : Env) (g : Scope) (of : Ty) (looped : Bool)
        → StmtAgrees (known_in funs limits d.text) of looped g (While test update body) → Here g s e → SameStore s.world c
        → Keeps (FlowTyped of) s.world.store.objects g (turned funs limits m c d s e test update body)
    turns_keep (Passes limit w) test update body d s e g of looped a h p = record { by = passes_on s.world w p h.0 }
    turns_keep (Counts w) test update body d s e g of looped a h p =
        moved (FlowTyped of) g s.world w _ p
        (then' (stmts_ih body d (record { world = w; turns = suc s.turns }) e g of true a.2 (same_state s.world w s.turns (suc s.turns) g e p h)) (λ flow s e h n f.
        again of flow s e h f (then' (update_keeps update d s e g a.1 h) (λ value s e h n f. stmt_ih (While test update body) d s e g of looped a h))))

    done_turns_keep : (c : Counted) (body : Stmts) (test : Maybe) (d : Place) (s : State) (e : Env) (g : Scope) (of : Ty) (looped : Bool)
        → StmtAgrees (known_in funs limits d.text) of looped g (DoWhile body test) → Here g s e → SameStore s.world c
        → Keeps (FlowTyped of) s.world.store.objects g (done_turn funs limits m c d s e body test)
    done_turns_keep (Passes limit w) body test d s e g of looped a h p = record { by = passes_on s.world w p h.0 }
    done_turns_keep (Counts w) body test d s e g of looped a h p =
        moved (FlowTyped of) g s.world w _ p
        (then' (stmts_ih body d (record { world = w; turns = suc s.turns }) e g of true a.0 (same_state s.world w s.turns (suc s.turns) g e p h)) (λ flow s e h n f.
        again of flow s e h f (then' (test_keeps test d s e g a.1 h) (λ value s e h n f. chosen value (stmt_ih (DoWhile body test) d s e g of looped a h) (done h tt)))))

    -- the exception is the catch's variable, and of its class
    catches_keep : (x : Catches) (id : ℕ) (place : Arose) (d : Place) (s : State) (e : Env) (g : Scope) (of : Ty) (looped : Bool) → CatchesAgree (known_in funs limits d.text) of looped g x → Here g s e
        → ThrownFits s.world.store.objects id → Keeps (FlowTyped of) s.world.store.objects g (caught funs limits m d x id place s e)
    catches_keep NoCatch id place d s e g of looped a h f = record { by = (begun s.world h.0, h.1, f) }
    catches_keep (Catch class x body rest) id place d s e g of looped a h f =
        takes (catches_keep rest id place d s e g of looped a.2 h f) (is_of_class class (slice_get s.world.store.objects id)) refl
      where
        takes : Keeps (FlowTyped of) s.world.store.objects g (caught funs limits m d rest id place s e) → (c : Bool) → is_of_class class (slice_get s.world.store.objects id) ≡ c
            → Keeps (FlowTyped of) s.world.store.objects g (if c then leave (m.stmts d s (record { name = x; value = v.Ref id } ∷ e) body) else caught funs limits m d rest id place s e)
        takes others true is_so =
            let there = sym (kind_passes (kind_is_of class) s.world.store.objects id) ∙ class_passes class (slice_get s.world.store.objects id) is_so in
            let exception : IsTyped s.world.store.objects (t.Class class) (v.Ref id) = record { there = f.0; is = object_typed s.world.store.objects class id there } in
            leaving (record { name = x; of = t.Class class })
            (stmts_ih body d s (record { name = x; value = v.Ref id } ∷ e) (record { name = x; of = t.Class class } ∷ g) of looped a.1 (h.0, (refl, exception, h.1)))
        takes others false not_so = others

    handles : (x : Catches) (d : Place) (g : Scope) (of : Ty) (looped : Bool) (start : List Object) (o : Out Flow) → CatchesAgree (known_in funs limits d.text) of looped g x
        → OutTyped (FlowTyped of) rules start g o → OutTyped (FlowTyped of) rules start g (handled funs limits m d x o)
    handles x d g of looped start (Done flow s e) a h = h
    handles x d g of looped start (Thrown id place s e) a h =
        lower_by (FlowTyped of) start s.world.store.objects g (caught funs limits m d x id place s e) h.0.there (catches_keep x id place d s e g of looped a (h.0.fits, h.1) h.2).by
    handles x d g of looped start (Over limit place w) a h = h
    handles x d g of looped start More a h = tt

    returns : (value : Maybe) (of : Ty) (d : Place) (s : State) (e : Env) (g : Scope) → ReturnAgrees (known_in funs limits d.text) g value of → Here g s e
        → Keeps (FlowTyped of) s.world.store.objects g (bind (value_if funs limits m value v.Null d s e) (λ value s e. Done (Returned value) s e))
    returns Missing of d s e g a h = done h (nothing_typed s.world.store.objects of a)
    returns (Present x) of d s e g a h = then' (expr_of_type x of d s e g a.1 a.0 h) (λ value s e h n f. done h f)

    stmt_keeps : (x : Stmt) (d : Place) (s : State) (e : Env) (g : Scope) (of : Ty) (looped : Bool) → StmtAgrees (known_in funs limits d.text) of looped g x → Here g s e
        → Keeps (FlowTyped of) s.world.store.objects g (stmt_of funs limits m d s e x)
    stmt_keeps (Do x) d s e g of looped a h = then' (any_expr x d s e g a h) (λ value s e h n f. done h tt)
    stmt_keeps (If c x y) d s e g of looped a h =
        then' (any_expr c d s e g a.0 h) (λ value s e h n f. chosen value (stmts_ih x d s e g of looped a.2 h) (stmts_ih y d s e g of looped a.3 h))
    stmt_keeps (While test update body) d s e g of looped a h =
        then' (test_keeps test d s e g a.0 h) (λ value s e h n f.
        chosen value (turns_keep (take_turn limits (has_loop_limit d.text) s.turns s.world) test update body d s e g of looped a h (turn_keeps limits (has_loop_limit d.text) s.turns s.world)) (done h tt))
    stmt_keeps (DoWhile body test) d s e g of looped a h =
        done_turns_keep (take_turn limits (has_loop_limit d.text) s.turns s.world) body test d s e g of looped a h (turn_keeps limits (has_loop_limit d.text) s.turns s.world)
    stmt_keeps (Try body catches) d s e g of looped a h =
        record { by = handles catches d g of looped s.world.store.objects (m.stmts d s e body) a.1 (ih.stmts body d s e g of looped a.0 h) }
    stmt_keeps (Block body) d s e g of looped a h = stmts_ih body d s e g of looped a h
    stmt_keeps Break d s e g of looped a h = done h tt
    stmt_keeps Continue d s e g of looped a h = done h tt
    stmt_keeps (Return value) d s e g of looped a h = returns value of d s e g a h
    stmt_keeps (Throw x) d s e g of looped a h =
        then' (any_expr x d s e g a.0 h) (λ value s e h n f.
        then' (throws_keep value s e g h) (λ value s e h n f. done h tt))
      where
        throws_keep : (value : Value) (s : State) (e : Env) (g : Scope) → Here g s e → Keeps Any s.world.store.objects g (effect (acts_in s.world (thrown s.world.store value)) s e)
        throws_keep value s e g h = record { by = thrown_by _ s e g h (throwing_fits rules s.world.store.objects s.world value (begun s.world h.0)) }

    begins : (value : Maybe) (of : Ty) (d : Place) (s : State) (e : Env) (g : Scope) → BeginAgrees (known_in funs limits d.text) g value of → Here g s e
        → Keeps (Of of) s.world.store.objects g (value_or funs limits m value of d s e)
    begins Missing of d s e g a h = done h (default_typed s.world.store.objects of)
    begins (Present x) of d s e g a h = expr_of_type x of d s e g a.1 a.0 h

    stmts_keep : (x : Stmts) (d : Place) (s : State) (e : Env) (g : Scope) (of : Ty) (looped : Bool) → StmtsAgree (known_in funs limits d.text) of looped g x → Here g s e
        → Keeps (FlowTyped of) s.world.store.objects g (stmts_of funs limits m d s e x)
    stmts_keep Finish d s e g of looped a h = done h tt
    stmts_keep (Then x rest) d s e g of looped a h =
        then' (stmt_ih x d s e g of looped a.0 h) (λ flow s e h n f. next of flow s e h f (stmts_ih rest d s e g of looped a.1 h))
    stmts_keep (Declare x to value rest) d s e g of looped a h =
        then' (begins value to d s e g a.0 h) (λ first s e h n f.
        leaving (record { name = x; of = to }) (stmts_ih rest d s (record { name = x; value = first } ∷ e) (record { name = x; of = to } ∷ g) of looped a.2 (h.0, (refl, f, h.1))))

    deeper : MeaningTyped rules funs limits (layer funs limits m)
    deeper = record {
      expr = λ x d s e g a h. (expr_keeps x d s e g a h).by;
      exprs = λ x d s e g a h. (exprs_keep x d s e g a h).by;
      stmt = λ x d s e g of looped a h. (stmt_keeps x d s e g of looped a h).by;
      stmts = λ x d s e g of looped a h. (stmts_keep x d s e g of looped a h).by;
    }

formed_in : (funs : Programs) (limits : Limits) → AreWellFormed funs limits → (text : Owner) → WellFormed (known_in funs limits text)
formed_in funs limits h Script = h.script
formed_in funs limits h Prelude = h.prelude

pub meanings_are_typed : MeaningsAreTyped
meanings_are_typed funs limits zero a = record {
  expr = λ x d s e g a h. tt;
  exprs = λ x d s e g a h. tt;
  stmt = λ x d s e g of looped a h. tt;
  stmts = λ x d s e g of looped a h. tt;
}
meanings_are_typed funs limits (suc n) a = deeper (rules_of funs) refl funs limits (formed_in funs limits a) (meaning funs limits n) (meanings_are_typed funs limits n a)

entered_typed : (objects : List Object) (g : Scope) (o : Option Env) (e : Env) → o ≡ Some e → EntryTyped objects g o → EnvTyped objects g e
entered_typed objects g o e is h = subst (EntryTyped objects g) is h

pub results_are_typed : ResultsAreTyped
results_are_typed funs limits bound a main is w arguments f h e entered =
    let fun = a.script.each 0 main is in
    (meanings_are_typed funs limits bound a).stmts main.body (record { text = Script; depth = 0 }) (record { world = w; turns = 0 }) e (scope_of main.params []) main.result false fun.body
    (f, entered_typed w.store.objects (scope_of main.params []) _ e entered (entry_typed w.store.objects main.params arguments [] [] h tt))
