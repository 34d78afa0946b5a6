-- At a bound that is enough, a well-formed program never comes to More: each turn and each call is paid by a tick, and a tick is worth
-- more than any function is large.
use Rattle.std.proofs.Common.{◌≡◌, ℕ, zero, suc, ◌+◌, ◌≤◌, ◌||◌, Bool, true, false, not, List, [], ◌∷◌, ◌++◌, Option, Some, None, refl, sym, subst, arith}
use Rattle.std.specs.Prelude.{◌-◌, slice_get, nat_lt, if◌then◌else◌}
use Rattle.std.proofs.lemmas.Bool.{ltb-true}
use Rattle.std.proofs.lemmas.Option.{get_or_from_slice_get}
use Rattle.pl_types.specs.declared.ty.Ty.{Ty, out-Ty}
use Rattle.pl_types.specs.declared.ty.Ty.TheVariants as t
use Rattle.allowlist.specs.declared.member.MemberKind.{MemberKind}
use Rattle.allowlist.specs.declared.member.MemberKind.TheVariants as kind
use Rattle.allowlist.specs.declared.member.MemberType.{MemberType}
use Rattle.allowlist.specs.Catalogue.{catalogue, constructor}
use Rattle.allowlist.specs.Index.{member_at}
use Rattle.object_values.specs.declared.object.Owner.{Owner}
use Rattle.object_values.specs.declared.object.Owner.TheVariants.{Script, Prelude}
use Rattle.object_values.specs.declared.value.Value.{Value}
use Rattle.object_values.specs.declared.value.Value.TheVariants as v
use Rattle.object_heap.specs.Effects.{Effect, Gives as Gives_value, Throws, NoRoom}
use Rattle.object_heap.specs.Store.{Store}
use Rattle.typed_tree.specs.declared.operation.Member.{Member}
use Rattle.typed_tree.specs.declared.operation.Operation.{Operation}
use Rattle.typed_tree.specs.declared.operation.Operation.TheVariants as operation
use Rattle.typed_tree.specs.declared.operation.Operator.{Operator}
use Rattle.typed_tree.specs.declared.operation.Operator.TheVariants as operator
use Rattle.typed_tree.specs.declared.operation.Logical.{Logical}
use Rattle.typed_tree.specs.declared.operation.Logical.TheVariants.{And, Or}
use Rattle.typed_tree.specs.declared.operation.Target.{Target}
use Rattle.typed_tree.specs.declared.operation.Target.TheVariants as target
use Rattle.typed_tree.specs.declared.operation.Change.{Change}
use Rattle.typed_tree.specs.declared.operation.Gives.{Gives}
use Rattle.typed_tree.specs.declared.operation.Gives.TheVariants as gives
use Rattle.number_ops.specs.Casts.{cast_at_run_time}
use Rattle.number_ops.specs.Operators.{is_null}
use Rattle.number_ops.specs.Outcomes as outcomes
use Rattle.number_ops.specs.Relations.{thrown}
use Rattle.source_meaning.specs.Calls.{suits_member}
use Rattle.source_meaning.specs.World.{World, Limits, Arose, Loop, Depth, Ticks, acts_in, Counted, Counts, Passes, pay_tick, allowed_in, has_loop_limit, take_turn, goes_deeper, enter, reach, reaches, pay_member}
use Rattle.source_meaning.specs.MemberCallsMembers.{is_built, does}
use Rattle.source_meaning.specs.Access.{Access, Calls as Finds, Acts as Does, index_read, index_written, name_read, name_written, method_called}
use Rattle.source_meaning.specs.Tree.{Name, Expr, Literal, Quoted, Local, Apply, Guarded, Logic, Conditional, Elvis, Assign, Modify, Lambda, Reference, NewReference, Exprs, None', One, Maybe, Missing, Given as Present, Stmt, Do, If, While, DoWhile, Try, Block, Break, Continue, Return, Throw, Stmts, Finish, Then, Declare, Catches, NoCatch, Catch, Variable, Fun, Programs, functions_in, type_of}
use Rattle.source_meaning.specs.Operating.{Operated, Meaningless, Gives as Gives_it, Acts, passed_result}
use Rattle.source_meaning.specs.Members.{Sending, Unsent, OnNull, Sends, Reads, sent}
use Rattle.source_meaning.specs.Meaning.{State, Env, Place, Out, Done, Thrown, Over, More, Flow, Normal, Broke, Continued, Returned, bind, leave, found, effect, operated, choose, given_by, goes_next, goes_again, is_of_class, back, cast_each, casts_due, Meaning, entered, called, acted, paid, tested, member_called, member_applied, of_member, accessed, method_applied, name_applied, name_put, index_applied, index_put, applied, logic, changed, modified, written, modified_at, expr_of, exprs_of, value_if, turned, done_turn, caught, handled, stmt_of, value_or, stmts_of, layer, meaning}
use Rattle.source_meaning.proofs.Due.{DueOf, last_type, due_type}
use Rattle.program_typing.specs.Types.{Has, HaveAll, TakesReference, TakesReferences, PutsElement}
use Rattle.program_typing.specs.Agreeing.{Scope, IsVariable, boolean, types_of, Calls, MemberAgrees, FindsMethod, Applies, Changes, Writes, Reads as IsReadBy, ExprAgrees, ExprsAgree, TestAgrees, UpdateAgrees, BeginAgrees, ReturnAgrees, StmtAgrees, StmtsAgree, CatchesAgree, scope_of, FunAgrees, WellFormed, known_in}
use Rattle.program_typing.specs.Enough.{expr_size, exprs_size, maybe_size, stmt_size, stmts_size, catches_size}
use Rattle.program_typing.proofs.Values.{has_flag, nothing_has, is_flag, text_has, class_has, constant_has, default_has}
use Rattle.program_typing.proofs.Accesses.{IsOfBuilt, index_read_built, index_written_built, name_read_built, name_written_built, method_called_built}
use Rattle.program_typing.proofs.Containers.{writes_act, takes_to_fit}
use Rattle.program_typing.proofs.Defs.{def_effect}
use Rattle.program_typing.proofs.Effects.{EffectHas, OperatedHas, IsActs, null_throws, wrong_throws, cast_has}
use Rattle.program_typing.proofs.Members.{GivenHas, result_has, IsSent, is_sent, Comes, member_comes, def_comes, null_has}
use Rattle.program_typing.proofs.Operations.{takes_fit, casts_fit, begins_fit}
use Rattle.program_typing.proofs.Scopes.{Bound, reads, writes, leaves, enters}

-- it is not More, what it gives is as it should be, names keep their types, and no ticks came from nowhere
abbrev pub Fine : {A : Type 0} → (A → Type 0) → Scope → ℕ → Out A → Type 0
Fine good g k (Done a s e) = good a × Bound g e × (s.world.ticks ≤ k)
Fine good g k (Thrown id place s e) = Bound g e × (s.world.ticks ≤ k)
Fine good g k (Over limit place w) = Unit {0}
Fine good g k More = ⊥

pub record Ends {A : Type 0} (good : A → Type 0) (g : Scope) (k : ℕ) (o : Out A) : Type 0 where
  pub by : Fine good g k o

-- of how a function's statements go on
abbrev pub FlowHas : Ty → Bool → Flow → Type 0
FlowHas of looped Normal = Unit {0}
FlowHas of looped Broke = looped ≡ true
FlowHas of looped Continued = looped ≡ true
FlowHas of looped (Returned value) = Has of value

abbrev Any : Value → Type 0
Any value = Unit {0}

done : {A : Type 0} {good : A → Type 0} {g : Scope} {k : ℕ} {a : A} {s : State} {e : Env} → good a → Bound g e → s.world.ticks ≤ k → Ends good g k (Done a s e)
done x b h = record { by = (x, b, h) }

fewer_ticks : {A : Type 0} (good : A → Type 0) (g : Scope) (o : Out A) (k k' : ℕ) → k ≤ k' → Fine good g k o → Fine good g k' o
fewer_ticks good g (Done a s e) k k' h x = (x.0, x.1, omega (arith, h, x.2))
fewer_ticks good g (Thrown id place s e) k k' h x = (x.0, omega (arith, h, x.1))
fewer_ticks good g (Over limit place w) k k' h x = tt
fewer_ticks good g More k k' h x = x

within : {A : Type 0} {good : A → Type 0} {g : Scope} {k k' : ℕ} {o : Out A} → k ≤ k' → Ends good g k o → Ends good g k' o
within {good = good} {g = g} {k = k} {k' = k'} {o = o} h x = record { by = fewer_ticks good g o k k' h x.by }

binds : {A B : Type 0} (good : A → Type 0) (also : B → Type 0) (g : Scope) (k : ℕ) (o : Out A) (next : A → State → Env → Out B) → Fine good g k o
    → ((a : A) (s : State) (e : Env) → good a → Bound g e → s.world.ticks ≤ k → Ends also g s.world.ticks (next a s e)) → Fine also g k (bind o next)
binds good also g k (Done a s e) next x f = fewer_ticks also g _ s.world.ticks k x.2 (f a s e x.0 x.1 x.2).by
binds good also g k (Thrown id place s e) next x f = x
binds good also g k (Over limit place w) next x f = tt
binds good also g k More next x f = absurd x

then' : {A B : Type 0} {good : A → Type 0} {also : B → Type 0} {g : Scope} {k : ℕ} {o : Out A} {next : A → State → Env → Out B} → Ends good g k o
    → ((a : A) (s : State) (e : Env) → good a → Bound g e → s.world.ticks ≤ k → Ends also g s.world.ticks (next a s e)) → Ends also g k (bind o next)
then' {good = good} {also = also} {g = g} {k = k} {o = o} {next = next} x f = record { by = binds good also g k o next x.by f }

leaving : {A : Type 0} (good : A → Type 0) (g : Scope) (k : ℕ) (y : Variable) (o : Out A) → Fine good (y ∷ g) k o → Fine good g k (leave o)
leaving good g k y (Done a s e) x = (x.0, leaves y g e x.1, x.2)
leaving good g k y (Thrown id place s e) x = (leaves y g e x.0, x.1)
leaving good g k y (Over limit place w) x = tt
leaving good g k y More x = absurd x

found_ends : (good : Value → Type 0) (g : Scope) (s : State) (e : Env) (o : Option Value) (value : Value) → o ≡ Some value → good value → Bound g e → Ends good g s.world.ticks (found o s e)
found_ends good g s e o value is x b = subst (λ o. Ends good g s.world.ticks (found o s e)) (sym is) (done x b (omega arith))

chosen : {A : Type 0} {good : A → Type 0} {g : Scope} {k : ℕ} {o p : Out A} (value : Value) → Has boolean value → Ends good g k o → Ends good g k p → Ends good g k (choose value o p)
chosen {good = good} {g = g} {k = k} {o = o} {p = p} value h x y =
    let flag = is_flag boolean value refl h in
    subst (λ value. Ends good g k (choose value o p)) (sym flag.1) (either flag.0)
  where
    either : (c : Bool) → Ends good g k (choose (v.Bool c) o p)
    either true = x
    either false = y

unless : {A : Type 0} {good : A → Type 0} {g : Scope} {k : ℕ} {o p : Out A} (c : Bool) → Ends good g k o → Ends good g k p → Ends good g k (if c then p else o)
unless true x y = y
unless false x y = x

-- what comes of an operator
acts_end : (of : Ty) (g : Scope) (s : State) (e : Env) (x : Effect) → EffectHas of x → Bound g e → Ends (Has of) g s.world.ticks (effect (acts_in s.world x) s e)
unfolding acts_in
acts_end of g s e (Gives_value value store) x b = done x b (omega arith)
acts_end of g s e (Throws id store) x b = record { by = (b, omega arith) }
acts_end of g s e NoRoom x b = record { by = tt }

-- .. of `throw`
throws_end : (g : Scope) (s : State) (e : Env) (x : Effect) → Bound g e → Ends Any g s.world.ticks (effect (acts_in s.world x) s e)
unfolding acts_in
throws_end g s e (Gives_value value store) b = done tt b (omega arith)
throws_end g s e (Throws id store) b = record { by = (b, omega arith) }
throws_end g s e NoRoom b = record { by = tt }

operated_ends : (of : Ty) (g : Scope) (s : State) (e : Env) (x : Operated) → OperatedHas of x → Bound g e → Ends (Has of) g s.world.ticks (operated x s e)
operated_ends of g s e Meaningless x b = absurd x
operated_ends of g s e (Gives_it value) x b = done x b (omega arith)
operated_ends of g s e (Acts a) x b = acts_end of g s e a x b

-- .. of what is written, whose value is dropped
dropped_ends : (g : Scope) (s : State) (e : Env) (x : Operated) → IsActs x → Bound g e → Ends Any g s.world.ticks (operated x s e)
dropped_ends g s e Meaningless x b = absurd x
dropped_ends g s e (Gives_it value) x b = absurd x
dropped_ends g s e (Acts a) x b = throws_end g s e a b

-- a value behind others
have_behind : (ofs : List Ty) (of : Ty) (values : List Value) (value : Value) → HaveAll ofs values → Has of value → HaveAll (ofs ++ of ∷ []) (values ++ value ∷ [])
have_behind [] of [] value h g = (g, tt)
have_behind [] of (other ∷ values) value h g = absurd h
have_behind (first ∷ ofs) of [] value h g = absurd h
have_behind (first ∷ ofs) of (other ∷ values) value h g = (h.0, have_behind ofs of values value h.1 g)

given_has : (given : Gives) (of : Ty) (old new : Value) → Has of old → Has of new → Has of (given_by given old new)
given_has gives.Old of old new x y = x
given_has gives.New of old new x y = y

next : (of : Ty) (looped : Bool) {g : Scope} {o : Out Flow} (flow : Flow) (s : State) (e : Env) → FlowHas of looped flow → Bound g e → Ends (FlowHas of looped) g s.world.ticks o
    → Ends (FlowHas of looped) g s.world.ticks (goes_next flow s e o)
next of looped Normal s e x b rest = rest
next of looped Broke s e x b rest = done x b (omega arith)
next of looped Continued s e x b rest = done x b (omega arith)
next of looped (Returned value) s e x b rest = done x b (omega arith)

again : (of : Ty) (looped : Bool) {g : Scope} {o : Out Flow} (flow : Flow) (s : State) (e : Env) → FlowHas of true flow → Bound g e → Ends (FlowHas of looped) g s.world.ticks o
    → Ends (FlowHas of looped) g s.world.ticks (goes_again flow s e o)
again of looped Normal s e x b rest = rest
again of looped Broke s e x b rest = done tt b (omega arith)
again of looped Continued s e x b rest = rest
again of looped (Returned value) s e x b rest = done x b (omega arith)

-- a function's end in the frame that called it
backs : (of : Ty) (inner g : Scope) (k : ℕ) (turns : ℕ) (e : Env) (o : Out Flow) → Bound g e → Fine (FlowHas of false) inner k o → Fine (Has of) g k (back of o turns e)
backs of inner g k turns e (Done Normal s' e') b x = (default_has of, b, x.2)
backs of inner g k turns e (Done Broke s' e') b x = cc
backs of inner g k turns e (Done Continued s' e') b x = cc
backs of inner g k turns e (Done (Returned value) s' e') b x = (x.0, b, x.2)
backs of inner g k turns e (Thrown id place s' e') b x = (b, x.1)
backs of inner g k turns e (Over limit place w) b x = tt
backs of inner g k turns e More b x = absurd x

-- the casts that are due of what a function gives
given_ends : (of : Ty) (g : Scope) (s : State) (e : Env) (o : Option Value) → GivenHas (out-Ty of) o → Bound g e → Ends (Has of) g s.world.ticks (found o s e)
given_ends of g s e None x b = absurd x
given_ends of g s e (Some value) x b = done x b (omega arith)

each_ends : (of : Ty) (tos : List Ty) (value : Value) (g : Scope) (s : State) (e : Env) → Has of value → Bound g e → Ends (Has (last_type of tos)) g s.world.ticks (cast_each tos value s e)
each_ends of [] value g s e h b = done h b (omega arith)
each_ends of (to ∷ tos) value g s e h b =
    then' (acts_end to g s e (outcomes.effect s.world.store (cast_at_run_time s.world.store.objects value to false)) (cast_has to s.world.store value false) b)
    (λ value s e h b k. each_ends to tos value g s e h b)

due_ends : (of : Ty) (due : List Ty) (value : Value) (g : Scope) (s : State) (e : Env) → DueOf of due → Has of value → Bound g e → Ends (Has (due_type of due)) g s.world.ticks (casts_due due value s e)
due_ends of [] value g s e x h b = done h b (omega arith)
due_ends of (from ∷ tos) value g s e x h b =
    then' (given_ends from g s e (passed_result from value) (result_has (out-Ty from) value (subst (λ of. Has of value) (sym x) h)) b)
    (λ value s e h b k. each_ends from tos value g s e h b)

-- what is counted has cost a tick
abbrev Costs : Counted → ℕ → Type 0
Costs (Counts w) k = suc w.ticks ≤ k
Costs (Passes limit w') k = Unit {0}

pays : (w : World) → Costs (pay_tick w) w.ticks
unfolding pay_tick
pays w = either (nat_lt 0 w.ticks) refl
  where
    either : (c : Bool) → nat_lt 0 w.ticks ≡ c → Costs (if c then Counts (record { store = w.store; ticks = w.ticks - 1; reached = w.reached }) else Passes Ticks w) w.ticks
    either true is = omega (arith, ltb-true 0 w.ticks is)
    either false is = tt

turn_costs : (limits : Limits) (limited : Bool) (turns : ℕ) (w : World) → Costs (take_turn limits limited turns w) w.ticks
unfolding take_turn
turn_costs limits limited turns w = either (not limited || nat_lt turns limits.loop)
  where
    either : (c : Bool) → Costs (if c then pay_tick w else Passes Loop w) w.ticks
    either true = pays w
    either false = tt

deeper_costs : (c : Counted) (limits : Limits) (depth k : ℕ) → Costs c k → Costs (goes_deeper c limits depth) k
unfolding goes_deeper
deeper_costs (Passes limit w') limits depth k x = tt
deeper_costs (Counts w) limits depth k x = either (nat_lt depth limits.depth)
  where
    either : (c : Bool) → Costs (if c then Counts w else Passes Depth w) k
    either true = x
    either false = tt

call_costs : (limits : Limits) (depth : ℕ) (w : World) → Costs (enter limits depth w) w.ticks
unfolding enter
call_costs limits depth w = deeper_costs (pay_tick w) limits depth w.ticks (pays w)

member_costs : (text : Owner) (number : ℕ) (w : World) → Costs (pay_member text number w) w.ticks
unfolding pay_member reaches reach
member_costs Prelude number w = pays w
member_costs Script number w = either (pay_tick w) (pays w)
  where
    either : (c : Counted) → Costs c w.ticks → Costs (reaches number c) w.ticks
    either (Counts w') x = x
    either (Passes limit w') x = tt

-- ---- the induction; `cost` is what so many ticks are worth, and `most` more than the size of any body

module _ (funs : Programs) (limits : Limits) (formed : (text : Owner) → WellFormed (known_in funs limits text)) (most : ℕ) (cost : ℕ → ℕ)
    (holds : (text : Owner) (number : ℕ) (f : Fun) → slice_get (functions_in funs text) number ≡ Some f → stmts_size f.body ≤ most)
    (keeps : (k k' : ℕ) → k ≤ k' → cost k ≤ cost k')
    (spends : (k k' : ℕ) → suc k ≤ k' → cost k + suc most ≤ cost k') where
  pub record Good (n : ℕ) (m : Meaning) : Type 0 where
    pub expr : (x : Expr) (d : Place) (s : State) (e : Env) (g : Scope) → ExprAgrees (known_in funs limits d.text) g x → Bound g e → cost s.world.ticks + expr_size x ≤ n
        → Ends (Has (type_of x)) g s.world.ticks (m.expr d s e x)
    pub exprs : (x : Exprs) (d : Place) (s : State) (e : Env) (g : Scope) → ExprsAgree (known_in funs limits d.text) g x → Bound g e → cost s.world.ticks + exprs_size x ≤ n
        → Ends (HaveAll (types_of x)) g s.world.ticks (m.exprs d s e x)
    pub stmt : (x : Stmt) (d : Place) (s : State) (e : Env) (g : Scope) (of : Ty) (looped : Bool) → StmtAgrees (known_in funs limits d.text) of looped g x → Bound g e
        → cost s.world.ticks + stmt_size x ≤ n → Ends (FlowHas of looped) g s.world.ticks (m.stmt d s e x)
    pub stmts : (x : Stmts) (d : Place) (s : State) (e : Env) (g : Scope) (of : Ty) (looped : Bool) → StmtsAgree (known_in funs limits d.text) of looped g x → Bound g e
        → cost s.world.ticks + stmts_size x ≤ n → Ends (FlowHas of looped) g s.world.ticks (m.stmts d s e x)

  module _ (n : ℕ) (m : Meaning) (ih : Good n m) where
    -- ---- calls

    entered_ends : (c : Counted) (text : Owner) (due : List Ty) (d : Place) (s : State) (e : Env) (g : Scope) (f : Fun) (o : Option Env) (args : Env) → Costs c s.world.ticks → o ≡ Some args
        → Bound (scope_of f.params []) args → FunAgrees (known_in funs limits text) f → stmts_size f.body ≤ most → DueOf f.result due → Bound g e → cost s.world.ticks ≤ n
        → Ends (Has (due_type f.result due)) g s.world.ticks (entered funs limits m c text due d s e f.result f.body o)
    entered_ends (Passes limit w') text due d s e g f o args c is inner x size dues b h =
        subst (λ o. Ends (Has (due_type f.result due)) g s.world.ticks (entered funs limits m (Passes limit w') text due d s e f.result f.body o)) (sym is) (record { by = tt })
    entered_ends (Counts w) text due d s e g f o args c is inner x size dues b h =
        let spent = spends w.ticks s.world.ticks c in
        let ran = ih.stmts f.body (record { text = text; depth = suc d.depth }) (record { world = w; turns = 0 }) args (scope_of f.params []) f.result false x.body inner (omega (arith, spent, size, h)) in
        let gives : Ends (Has f.result) g w.ticks (back f.result (m.stmts (record { text = text; depth = suc d.depth }) (record { world = w; turns = 0 }) args f.body) s.turns e) =
        record { by = backs f.result (scope_of f.params []) g w.ticks s.turns e _ b ran.by } in
        subst (λ o. Ends (Has (due_type f.result due)) g s.world.ticks (entered funs limits m (Counts w) text due d s e f.result f.body o)) (sym is)
        (within (omega (arith, c)) (then' gives (λ value s e h b k. due_ends f.result due value g s e dues h b)))

    -- a function of a text, with values of its parameters' types
    called_ends : (number : ℕ) (counted : Counted) (text : Owner) (due ofs : List Ty) (of : Ty) (values : List Value) (d : Place) (s : State) (e : Env) (g : Scope)
        → Calls (known_in funs limits text) number ofs of → Costs counted s.world.ticks → DueOf of due → HaveAll ofs values → Bound g e → cost s.world.ticks ≤ n
        → Ends (Has (due_type of due)) g s.world.ticks (called funs limits m (slice_get (functions_in funs text) number) counted text due d s e values)
    called_ends number counted text due ofs of values d s e g x costs dues h b c =
        let args = enters x.fun.params values [] [] (subst (λ ofs. HaveAll ofs values) x.takes h) tt in
        subst (λ o. Ends (Has (due_type of due)) g s.world.ticks (called funs limits m o counted text due d s e values)) (sym x.is)
        (subst (λ of. Ends (Has (due_type of due)) g s.world.ticks (called funs limits m (Some x.fun) counted text due d s e values)) (sym x.gives)
        (entered_ends counted text due d s e g x.fun _ args.env costs args.is args.bound ((formed text).each number x.fun x.is) (holds text number x.fun x.is)
        (subst (λ of. DueOf of due) x.gives dues) b c))

    -- ---- members

    acted_ends : (of : Ty) (g : Scope) (s : State) (e : Env) (o : Option Effect) → Comes of o → Bound g e → Ends (Has of) g s.world.ticks (acted funs limits m o s e)
    acted_ends of g s e o x b = subst (λ o. Ends (Has of) g s.world.ticks (acted funs limits m o s e)) (sym x.is) (acts_end of g s e x.effect x.has b)

    paid_ends : (c : Counted) (number : ℕ) (arguments : List Value) (of : Ty) (s : State) (e : Env) (g : Scope) → Costs c s.world.ticks
        → ((store : Store) → Comes of (does limits.ground.host number arguments store)) → Bound g e → Ends (Has of) g s.world.ticks (paid funs limits m c number arguments s e)
    paid_ends (Passes limit w') number arguments of s e g c x b = record { by = tt }
    paid_ends (Counts w) number arguments of s e g c x b = within (omega (arith, c)) (acted_ends of g (record { world = w; turns = s.turns }) e _ (x w.store) b)

    tested_ends : (suits : Bool) (number : ℕ) (member : MemberType) (arguments : List Value) (d : Place) (s : State) (e : Env) (g : Scope) → slice_get catalogue number ≡ Some member → is_built number ≡ true
        → Bound g e → Ends (Has member.result) g s.world.ticks (tested funs limits m suits number arguments d s e)
    tested_ends false number member arguments d s e g is built b = acts_end member.result g s e _ (wrong_throws member.result s.world.store) b
    tested_ends true number member arguments d s e g is built b =
        paid_ends (pay_member d.text number s.world) number arguments member.result s e g (member_costs d.text number s.world) (λ store. member_comes limits.ground.host number member arguments store is built) b

    sending_ends : (x : Sending) (number : ℕ) (member : MemberType) (d : Place) (s : State) (e : Env) (g : Scope) → slice_get catalogue number ≡ Some member → is_built number ≡ true
        → IsSent x → Bound g e → Ends (Has member.result) g s.world.ticks (member_called funs limits m x number member d s e)
    sending_ends Unsent number member d s e g is built x b = absurd x
    sending_ends OnNull number member d s e g is built x b = acts_end member.result g s e _ (null_throws member.result s.world.store) b
    sending_ends (Sends arguments) number member d s e g is built x b = tested_ends (suits_member s.world.store.objects member arguments) number member arguments d s e g is built b
    sending_ends Reads number member d s e g is built x b = acted_ends member.result g s e _ (member_comes limits.ground.host number member [] s.world.store is built) b

    member_ends : (sort : MemberKind) (c : Member) (ofs : List Ty) (of : Ty) (values : List Value) (d : Place) (s : State) (e : Env) (g : Scope) → MemberAgrees (known_in funs limits d.text) sort c ofs of → HaveAll ofs values
        → Bound g e → Ends (Has of) g s.world.ticks (of_member funs limits m c values d s e)
    member_ends sort c ofs of values d s e g x h b =
        let at : member_at c.number ≡ x.member = get_or_from_slice_get catalogue c.number x.member (constructor 0 []) x.is in
        subst (λ of. Ends (Has of) g s.world.ticks (of_member funs limits m c values d s e)) (sym x.gives)
        (subst (λ is. Ends (Has x.member.result) g s.world.ticks (member_applied funs limits m (allowed_in limits d.text) is c.number values d s e)) (sym x.allowed)
        (subst (λ member. Ends (Has x.member.result) g s.world.ticks (member_called funs limits m (sent member values) c.number member d s e)) (sym at)
        (sending_ends (sent x.member values) c.number x.member d s e g x.is x.built (is_sent c.number x.member sort ofs values x.is x.sort x.takes h) b)))

    -- ---- what is found for a receiver when the script runs

    accessed_ends : (a : Access) (d : Place) (s : State) (e : Env) (g : Scope) → IsOfBuilt a → Bound g e → Ends (Has t.Def) g s.world.ticks (accessed funs limits m a d s e)
    accessed_ends (Finds number arguments) d s e g x b =
        paid_ends (pay_member d.text number s.world) number arguments t.Def s e g (member_costs d.text number s.world) (λ store. def_comes limits.ground.host number arguments store x) b
    accessed_ends (Does given) d s e g x b = acts_end t.Def g s e given (def_effect t.Def given refl) b

    methods_end : (name : Name) (ofs : List Ty) (values : List Value) (d : Place) (s : State) (e : Env) (g : Scope) → FindsMethod ofs → HaveAll ofs values → Bound g e
        → Ends (Has t.Def) g s.world.ticks (method_applied funs limits m name values d s e)
    methods_end name [] values d s e g x h b = absurd x
    methods_end name (of ∷ ofs) [] d s e g x h b = absurd h
    methods_end name (of ∷ ofs) (receiver ∷ arguments) d s e g x h b =
        let allow = allowed_in limits d.text in
        accessed_ends (method_called allow s.world.store receiver name arguments) d s e g (method_called_built allow s.world.store receiver name arguments) b

    names_end : (name : Name) (ofs : List Ty) (values : List Value) (d : Place) (s : State) (e : Env) (g : Scope) → TakesReference ofs → HaveAll ofs values → Bound g e
        → Ends (Has t.Def) g s.world.ticks (name_applied funs limits m name values d s e)
    names_end name [] values d s e g x h b = absurd x
    names_end name (of ∷ []) [] d s e g x h b = absurd h
    names_end name (of ∷ []) (receiver ∷ []) d s e g x h b =
        let allow = allowed_in limits d.text in
        accessed_ends (name_read allow s.world.store receiver name) d s e g (name_read_built allow s.world.store receiver name) b
    names_end name (of ∷ []) (receiver ∷ other ∷ values) d s e g x h b = absurd h.1
    names_end name (of ∷ other ∷ ofs) values d s e g x h b = absurd x

    put_names_end : (name : Name) (ofs : List Ty) (values : List Value) (new : Value) (d : Place) (s : State) (e : Env) (g : Scope) → TakesReference ofs → HaveAll ofs values → Bound g e
        → Ends (Has t.Def) g s.world.ticks (name_put funs limits m name (values ++ new ∷ []) d s e)
    put_names_end name [] values new d s e g x h b = absurd x
    put_names_end name (of ∷ []) [] new d s e g x h b = absurd h
    put_names_end name (of ∷ []) (receiver ∷ []) new d s e g x h b =
        let allow = allowed_in limits d.text in
        accessed_ends (name_written allow s.world.store receiver name new) d s e g (name_written_built allow s.world.store receiver name new) b
    put_names_end name (of ∷ []) (receiver ∷ other ∷ values) new d s e g x h b = absurd h.1
    put_names_end name (of ∷ other ∷ ofs) values new d s e g x h b = absurd x

    indexes_end : (ofs : List Ty) (values : List Value) (d : Place) (s : State) (e : Env) (g : Scope) → TakesReferences ofs → HaveAll ofs values → Bound g e
        → Ends (Has t.Def) g s.world.ticks (index_applied funs limits m values d s e)
    indexes_end [] values d s e g x h b = absurd x
    indexes_end (of ∷ []) values d s e g x h b = absurd x
    indexes_end (of ∷ at ∷ []) [] d s e g x h b = absurd h
    indexes_end (of ∷ at ∷ []) (receiver ∷ []) d s e g x h b = absurd h.1
    indexes_end (of ∷ at ∷ []) (receiver ∷ index ∷ []) d s e g x h b =
        let allow = allowed_in limits d.text in
        accessed_ends (index_read allow s.world.store receiver index) d s e g (index_read_built allow s.world.store receiver index) b
    indexes_end (of ∷ at ∷ []) (receiver ∷ index ∷ other ∷ values) d s e g x h b = absurd h.1.1
    indexes_end (of ∷ at ∷ other ∷ ofs) values d s e g x h b = absurd x

    put_indexes_end : (ofs : List Ty) (values : List Value) (new : Value) (d : Place) (s : State) (e : Env) (g : Scope) → TakesReferences ofs → HaveAll ofs values → Bound g e
        → Ends (Has t.Def) g s.world.ticks (index_put funs limits m (values ++ new ∷ []) d s e)
    put_indexes_end [] values new d s e g x h b = absurd x
    put_indexes_end (of ∷ []) values new d s e g x h b = absurd x
    put_indexes_end (of ∷ at ∷ []) [] new d s e g x h b = absurd h
    put_indexes_end (of ∷ at ∷ []) (receiver ∷ []) new d s e g x h b = absurd h.1
    put_indexes_end (of ∷ at ∷ []) (receiver ∷ index ∷ []) new d s e g x h b =
        let allow = allowed_in limits d.text in
        accessed_ends (index_written allow s.world.store receiver index new) d s e g (index_written_built allow s.world.store receiver index new) b
    put_indexes_end (of ∷ at ∷ []) (receiver ∷ index ∷ other ∷ values) new d s e g x h b = absurd h.1.1
    put_indexes_end (of ∷ at ∷ other ∷ ofs) values new d s e g x h b = absurd x

    -- ---- operations

    applied_ends : (o : Operation) (ofs : List Ty) (of : Ty) (values : List Value) (d : Place) (s : State) (e : Env) (g : Scope) → Applies (known_in funs limits d.text) o ofs of → HaveAll ofs values → Bound g e
        → cost s.world.ticks ≤ n → Ends (Has of) g s.world.ticks (applied funs limits m o d s e of values)
    applied_ends (operation.Operator o) ofs of values d s e g x h b c = operated_ends of g s e _ (takes_to_fit o ofs of values s.world.store x h) b
    applied_ends (operation.Cast k) [] of values d s e g x h b c = absurd x
    applied_ends (operation.Cast k) (from ∷ []) of [] d s e g x h b c = absurd h
    applied_ends (operation.Cast k) (from ∷ []) of (value ∷ []) d s e g x h b c = operated_ends of g s e _ (casts_fit k from of value s.world.store x h.0) b
    applied_ends (operation.Cast k) (from ∷ []) of (value ∷ other ∷ values) d s e g x h b c = absurd h.1
    applied_ends (operation.Cast k) (from ∷ other ∷ ofs) of values d s e g x h b c = absurd x
    applied_ends (operation.Function number) ofs of values d s e g x h b c = called_ends number (enter limits d.depth s.world) d.text [] ofs of values d s e g x (call_costs limits d.depth s.world) tt h b c
    applied_ends (operation.InstanceOf to) [] of values d s e g x h b c = absurd x
    applied_ends (operation.InstanceOf to) (from ∷ []) of [] d s e g x h b c = absurd h
    applied_ends (operation.InstanceOf to) (from ∷ []) of (value ∷ []) d s e g x h b c = done (has_flag of _ x.2) b (omega arith)
    applied_ends (operation.InstanceOf to) (from ∷ []) of (value ∷ other ∷ values) d s e g x h b c = absurd h.1
    applied_ends (operation.InstanceOf to) (from ∷ other ∷ ofs) of values d s e g x h b c = absurd x
    applied_ends (operation.Instance member) ofs of values d s e g x h b c = member_ends kind.Instance member ofs of values d s e g x h b
    applied_ends (operation.Static member) ofs of values d s e g x h b c = member_ends kind.Static member ofs of values d s e g x h b
    applied_ends (operation.Constructor member) ofs of values d s e g x h b c = member_ends kind.Constructor member ofs of values d s e g x h b
    applied_ends (operation.Field member) ofs of values d s e g x h b c = member_ends kind.Field member ofs of values d s e g x h b
    applied_ends (operation.Host member) ofs of values d s e g x h b c = absurd x
    applied_ends (operation.DefCall name) ofs of values d s e g x h b c =
        subst (λ of. Ends (Has of) g s.world.ticks (method_applied funs limits m name values d s e)) (sym x.1) (methods_end name ofs values d s e g x.0 h b)
    applied_ends (operation.DefName name) ofs of values d s e g x h b c =
        subst (λ of. Ends (Has of) g s.world.ticks (name_applied funs limits m name values d s e)) (sym x.1) (names_end name ofs values d s e g x.0 h b)
    applied_ends (operation.PutDefName name) ofs of values d s e g x h b c = absurd x
    applied_ends operation.DefIndex ofs of values d s e g x h b c =
        subst (λ of. Ends (Has of) g s.world.ticks (index_applied funs limits m values d s e)) (sym x.1) (indexes_end ofs values d s e g x.0 h b)
    applied_ends operation.PutDefIndex ofs of values d s e g x h b c = absurd x

    -- ---- expressions

    -- with no more ticks than there were, what was enough is enough
    lesser : (k k' z n' : ℕ) → k ≤ k' → cost k' + z ≤ n' → cost k + z ≤ n'
    lesser k k' z n' h c = omega (arith, keeps k k' h, c)

    logic_ends : (o : Logical) (value : Value) (right : Expr) (d : Place) (s : State) (e : Env) (g : Scope) → Has boolean value → ExprAgrees (known_in funs limits d.text) g right → type_of right ≡ boolean → Bound g e
        → cost s.world.ticks + expr_size right ≤ n → Ends (Has boolean) g s.world.ticks (logic funs limits m o d s e value right)
    logic_ends And value right d s e g h x is b c = chosen value h (subst (λ of. Ends (Has of) g s.world.ticks (m.expr d s e right)) is (ih.expr right d s e g x b c)) (done (has_flag boolean false refl) b (omega arith))
    logic_ends Or value right d s e g h x is b c = chosen value h (done (has_flag boolean true refl) b (omega arith)) (subst (λ of. Ends (Has of) g s.world.ticks (m.expr d s e right)) is (ih.expr right d s e g x b c))

    -- an expression of a type
    of_type : (a : Expr) (of : Ty) (d : Place) (s : State) (e : Env) (g : Scope) → ExprAgrees (known_in funs limits d.text) g a → type_of a ≡ of → Bound g e → cost s.world.ticks + expr_size a ≤ n
        → Ends (Has of) g s.world.ticks (m.expr d s e a)
    of_type a of d s e g x is b c = subst (λ of. Ends (Has of) g s.world.ticks (m.expr d s e a)) is (ih.expr a d s e g x b c)

    -- what is read of a target, changed
    changed_ends : (of : Ty) (change : Change) (right : Expr) (old : Value) (d : Place) (s : State) (e : Env) (g : Scope)
        → Changes change of (type_of right) → ExprAgrees (known_in funs limits d.text) g right → Has of old → Bound g e → cost s.world.ticks + expr_size right ≤ n
        → Ends (Has of) g s.world.ticks (changed funs limits m of change d s e right old)
    changed_ends of change right old d s e g z a h b c =
        then' (operated_ends z.left g s e _ (begins_fit change.before of z.left old s.world.store z.known z.before h) b) (λ l s' e h' b k.
        then' (ih.expr right d s' e g a b (lesser _ _ _ n k c)) (λ r s e hr b k.
        then' (operated_ends z.result g s e _ (takes_fit change.operator (z.left ∷ type_of right ∷ []) z.result (l ∷ r ∷ []) s.world.store z.does (h', (hr, tt))) b) (λ result s e hx b k.
        operated_ends of g s e _ (casts_fit change.after z.result of result s.world.store z.after hx) b)))

    -- ---- writes

    element_ends : (o : Operator) (ofs : List Ty) (of : Ty) (values : List Value) (new given : Value) (d : Place) (s : State) (e : Env) (g : Scope) → PutsElement o ofs of → HaveAll ofs values
        → Has of new → Has of given → Bound g e → Ends (Has of) g s.world.ticks (written funs limits m (operation.Operator o) d s e of values new given)
    element_ends operator.PutElement ofs of values new given d s e g x h hn hg b =
        then' (dropped_ends g s e _ (writes_act ofs of values new s.world.store x h hn) b) (λ dropped s e h b k. done hg b (omega arith))
    element_ends other ofs of values new given d s e g x h hn hg b = absurd x

    written_ends : (write : Operation) (ofs : List Ty) (of : Ty) (values : List Value) (new given : Value) (d : Place) (s : State) (e : Env) (g : Scope)
        → Writes (known_in funs limits d.text) write ofs of → HaveAll ofs values → Has of new → Has of given → Bound g e
        → Ends (Has of) g s.world.ticks (written funs limits m write d s e of values new given)
    written_ends (operation.Operator o) ofs of values new given d s e g x h hn hg b = element_ends o ofs of values new given d s e g x h hn hg b
    written_ends (operation.Instance member) ofs of values new given d s e g x h hn hg b =
        then' (member_ends kind.Instance member (ofs ++ of ∷ []) x.given (values ++ new ∷ []) d s e g x.agrees (have_behind ofs of values new h hn) b) (λ dropped s e h b k. done hg b (omega arith))
    written_ends (operation.PutDefName name) ofs of values new given d s e g x h hn hg b =
        then' (put_names_end name ofs values new d s e g x.0 h b) (λ dropped s e h b k. done hg b (omega arith))
    written_ends operation.PutDefIndex ofs of values new given d s e g x h hn hg b =
        then' (put_indexes_end ofs values new d s e g x.0 h b) (λ dropped s e h b k. done hg b (omega arith))
    written_ends other ofs of values new given d s e g x h hn hg b = absurd x

    assigns_end : (at : ℕ) (of : Ty) (to : Target) (parts : Exprs) (value : Expr) (d : Place) (s : State) (e : Env) (g : Scope) → ExprAgrees (known_in funs limits d.text) g (Assign at of to parts value) → Bound g e
        → cost s.world.ticks + (exprs_size parts + expr_size value) ≤ n → Ends (Has of) g s.world.ticks (expr_of funs limits m d s e (Assign at of to parts value))
    assigns_end at of (target.Local x) parts value d s e g a b c =
        then' (of_type value of d s e g a.0 a.2 b (omega (arith, c))) (λ new s e h b k.
        done h (writes g e x a.1.variable new a.1.is (subst (λ of. Has of new) a.1.has h) b) (omega arith))
    assigns_end at of (target.Place read write) parts value d s e g a b c =
        then' (ih.exprs parts d s e g a.0 b (omega (arith, c))) (λ values s' e h b k.
        then' (of_type value of d s' e g a.1 a.2 b (lesser _ s.world.ticks _ n k (omega (arith, c)))) (λ new s e hn b k.
        written_ends write (types_of parts) of values new new d s e g a.4 h hn hn b))

    modified_ends : (x : Name) (of : Ty) (change : Change) (right : Expr) (given : Gives) (old : Value) (d : Place) (s : State) (e : Env) (g : Scope)
        → IsVariable g x of → Changes change of (type_of right) → ExprAgrees (known_in funs limits d.text) g right → Has of old → Bound g e → cost s.world.ticks + expr_size right ≤ n
        → Ends (Has of) g s.world.ticks (modified funs limits m x of change d s e right given old)
    modified_ends x of change right given old d s e g y z a h b c =
        then' (changed_ends of change right old d s e g z a h b c) (λ new s e hn b k.
        done (given_has given of old new h hn) (writes g e x y.variable new y.is (subst (λ of. Has of new) y.has hn) b) (omega arith))

    modified_at_ends : (read : Option Operation) (write : Operation) (ofs : List Ty) (of : Ty) (change : Change) (right : Expr) (given : Gives) (values : List Value) (d : Place) (s : State) (e : Env)
        (g : Scope) → IsReadBy (known_in funs limits d.text) read ofs of → Writes (known_in funs limits d.text) write ofs of → Changes change of (type_of right)
        → ExprAgrees (known_in funs limits d.text) g right → HaveAll ofs values → Bound g e → cost s.world.ticks + expr_size right ≤ n
        → Ends (Has of) g s.world.ticks (modified_at funs limits m read write of change d s e values right given)
    modified_at_ends None write ofs of change right given values d s e g x y z a h b c = absurd x
    modified_at_ends (Some read) write ofs of change right given values d s e g x y z a h b c =
        then' (applied_ends read ofs of values d s e g x h b (omega (arith, c))) (λ old s' e ho b k.
        then' (changed_ends of change right old d s' e g z a ho b (lesser _ s.world.ticks _ n k c)) (λ new s e hn b k.
        written_ends write ofs of values new (given_by given old new) d s e g y h hn (given_has given of old new ho hn) b))

    changes_end : (at : ℕ) (of : Ty) (to : Target) (parts : Exprs) (change : Change) (right : Expr) (given : Gives) (d : Place) (s : State) (e : Env) (g : Scope)
        → ExprAgrees (known_in funs limits d.text) g (Modify at of to parts change right given) → Bound g e → cost s.world.ticks + (exprs_size parts + expr_size right) ≤ n
        → Ends (Has of) g s.world.ticks (expr_of funs limits m d s e (Modify at of to parts change right given))
    changes_end at of (target.Local x) parts change right given d s e g a b c =
        let old = reads g e x a.1.variable a.1.is b in
        then' (found_ends (Has of) g s e _ old.value old.is (subst (λ of. Has of old.value) (sym a.1.has) old.has) b) (λ value s' e h b k.
        modified_ends x of change right given value d s' e g a.1 a.2 a.0 h b (lesser _ s.world.ticks _ n k (omega (arith, c))))
    changes_end at of (target.Place read write) parts change right given d s e g a b c =
        then' (ih.exprs parts d s e g a.0 b (omega (arith, c))) (λ values s' e h b k.
        modified_at_ends read write (types_of parts) of change right given values d s' e g a.4 a.5 a.2 a.1 h b (lesser _ s.world.ticks _ n k (omega (arith, c))))

    expr_ends : (x : Expr) (d : Place) (s : State) (e : Env) (g : Scope) → ExprAgrees (known_in funs limits d.text) g x → Bound g e → cost s.world.ticks + expr_size x ≤ suc n
        → Ends (Has (type_of x)) g s.world.ticks (expr_of funs limits m d s e x)
    expr_ends (Literal at of k) d s e g a b c = done (constant_has k of a) b (omega arith)
    expr_ends (Quoted at of text) d s e g a b c = done (text_has of _ a) b (omega arith)
    expr_ends (Local at of x) d s e g a b c =
        let value = reads g e x a.variable a.is b in
        found_ends (Has of) g s e _ value.value value.is (subst (λ of. Has of value.value) (sym a.has) value.has) b
    expr_ends (Apply at of o parts) d s e g a b c =
        then' (ih.exprs parts d s e g a.0 b (omega (arith, c))) (λ values s' e h b k.
        applied_ends o (types_of parts) of values d s' e g a.1 h b (omega (arith, lesser s'.world.ticks s.world.ticks 0 n k (omega (arith, c)))))
    expr_ends (Guarded at of o None') d s e g a b c = absurd a
    expr_ends (Guarded at of o (One x others)) d s e g a b c =
        then' (ih.expr x d s e g a.0 b (omega (arith, c))) (λ value s' e h b k.
        unless (is_null value)
        (then' (ih.exprs others d s' e g a.1 b (lesser _ s.world.ticks _ n k (omega (arith, c)))) (λ values s'' e hs b k'.
        applied_ends o (type_of x ∷ types_of others) of (value ∷ values) d s'' e g a.2.agrees (h, hs) b
        (omega (arith, lesser s''.world.ticks s.world.ticks 0 n (omega (arith, k, k')) (omega (arith, c))))))
        (done (null_has (out-Ty of) a.2.whole) b (omega arith)))
    expr_ends (Logic at of o left right) d s e g a b c =
        then' (of_type left boolean d s e g a.0 a.2 b (omega (arith, c))) (λ value s' e h b k.
        subst (λ of. Ends (Has of) g s'.world.ticks (logic funs limits m o d s' e value right)) (sym a.4)
        (logic_ends o value right d s' e g h a.1 a.3 b (lesser _ s.world.ticks _ n k (omega (arith, c)))))
    expr_ends (Conditional at of x y z) d s e g a b c =
        then' (of_type x boolean d s e g a.0 a.3 b (omega (arith, c))) (λ value s' e h b k.
        chosen value h
        (of_type y of d s' e g a.1 a.4 b (lesser _ s.world.ticks _ n k (omega (arith, c))))
        (of_type z of d s' e g a.2 a.5 b (lesser _ s.world.ticks _ n k (omega (arith, c)))))
    expr_ends (Elvis at of left right) d s e g a b c =
        then' (of_type left of d s e g a.0 a.2 b (omega (arith, c))) (λ value s' e h b k.
        unless (is_null value) (done h b (omega arith)) (of_type right of d s' e g a.1 a.3 b (lesser _ s.world.ticks _ n k (omega (arith, c)))))
    expr_ends (Assign at of to parts value) d s e g a b c = assigns_end at of to parts value d s e g a b (omega (arith, c))
    expr_ends (Modify at of to parts change right given) d s e g a b c = changes_end at of to parts change right given d s e g a b (omega (arith, c))
    expr_ends (Lambda at of interface function) d s e g a b c = absurd a
    expr_ends (Reference at of interface class name) d s e g a b c = absurd a
    expr_ends (NewReference at of interface made) d s e g a b c = absurd a

    exprs_end : (x : Exprs) (d : Place) (s : State) (e : Env) (g : Scope) → ExprsAgree (known_in funs limits d.text) g x → Bound g e → cost s.world.ticks + exprs_size x ≤ suc n
        → Ends (HaveAll (types_of x)) g s.world.ticks (exprs_of funs limits m d s e x)
    exprs_end None' d s e g a b c = done tt b (omega arith)
    exprs_end (One x others) d s e g a b c =
        then' (ih.expr x d s e g a.0 b (omega (arith, c))) (λ value s' e h b k.
        then' (ih.exprs others d s' e g a.1 b (lesser _ s.world.ticks _ n k (omega (arith, c)))) (λ values s e hs b k.
        done (h, hs) b (omega arith)))

    -- ---- statements

    test_ends : (test : Maybe) (d : Place) (s : State) (e : Env) (g : Scope) → TestAgrees (known_in funs limits d.text) g test → Bound g e → cost s.world.ticks + maybe_size test ≤ n
        → Ends (Has boolean) g s.world.ticks (value_if funs limits m test (v.Bool true) d s e)
    test_ends Missing d s e g a b c = done (has_flag boolean true refl) b (omega arith)
    test_ends (Present x) d s e g a b c = of_type x boolean d s e g a.0 a.1 b c

    any : (of : Ty) (g : Scope) (k : ℕ) (o : Out Value) → Fine (Has of) g k o → Fine Any g k o
    any of g k (Done a s e) x = (tt, x.1, x.2)
    any of g k (Thrown id place s e) x = x
    any of g k (Over limit place w) x = tt
    any of g k More x = x

    update_ends : (update : Maybe) (d : Place) (s : State) (e : Env) (g : Scope) → UpdateAgrees (known_in funs limits d.text) g update → Bound g e → cost s.world.ticks + maybe_size update ≤ n
        → Ends Any g s.world.ticks (value_if funs limits m update v.Null d s e)
    update_ends Missing d s e g a b c = done tt b (omega arith)
    update_ends (Present x) d s e g a b c = record { by = any (type_of x) g s.world.ticks _ (ih.expr x d s e g a b c).by }

    turned_ends : (c : Counted) (test update : Maybe) (body : Stmts) (d : Place) (s : State) (e : Env) (g : Scope) (of : Ty) (looped : Bool) → Costs c s.world.ticks
        → StmtAgrees (known_in funs limits d.text) of looped g (While test update body) → Bound g e → cost s.world.ticks + stmt_size (While test update body) ≤ suc n
        → Ends (FlowHas of looped) g s.world.ticks (turned funs limits m c d s e test update body)
    turned_ends (Passes limit w') test update body d s e g of looped p a b c = record { by = tt }
    turned_ends (Counts w) test update body d s e g of looped p a b c =
        let spent = spends w.ticks s.world.ticks p in
        within (omega (arith, p))
        (then' (ih.stmts body d (record { world = w; turns = suc s.turns }) e g of true a.2 b (omega (arith, spent, c))) (λ flow s' e h b k.
        again of looped flow s' e h b
        (then' (update_ends update d s' e g a.1 b (lesser _ w.ticks _ n k (omega (arith, spent, c)))) (λ value s'' e h b k'.
        ih.stmt (While test update body) d s'' e g of looped a b (lesser _ w.ticks _ n (omega (arith, k, k')) (omega (arith, spent, c)))))))

    done_ends : (c : Counted) (body : Stmts) (test : Maybe) (d : Place) (s : State) (e : Env) (g : Scope) (of : Ty) (looped : Bool) → Costs c s.world.ticks
        → StmtAgrees (known_in funs limits d.text) of looped g (DoWhile body test) → Bound g e → cost s.world.ticks + stmt_size (DoWhile body test) ≤ suc n
        → Ends (FlowHas of looped) g s.world.ticks (done_turn funs limits m c d s e body test)
    done_ends (Passes limit w') body test d s e g of looped p a b c = record { by = tt }
    done_ends (Counts w) body test d s e g of looped p a b c =
        let spent = spends w.ticks s.world.ticks p in
        within (omega (arith, p))
        (then' (ih.stmts body d (record { world = w; turns = suc s.turns }) e g of true a.0 b (omega (arith, spent, c))) (λ flow s' e h b k.
        again of looped flow s' e h b
        (then' (test_ends test d s' e g a.1 b (lesser _ w.ticks _ n k (omega (arith, spent, c)))) (λ value s'' e h b k'.
        chosen value h
        (ih.stmt (DoWhile body test) d s'' e g of looped a b (lesser _ w.ticks _ n (omega (arith, k, k')) (omega (arith, spent, c))))
        (done tt b (omega arith))))))

    returns_end : (value : Maybe) (of : Ty) (looped : Bool) (d : Place) (s : State) (e : Env) (g : Scope) → ReturnAgrees (known_in funs limits d.text) g value of → Bound g e → cost s.world.ticks + maybe_size value ≤ n
        → Ends (FlowHas of looped) g s.world.ticks (bind (value_if funs limits m value v.Null d s e) (λ value s e. Done (Returned value) s e))
    returns_end Missing of looped d s e g a b c = done (subst (λ of. Has of v.Null) (sym a) (nothing_has v.Null)) b (omega arith)
    returns_end (Present x) of looped d s e g a b c = then' (of_type x of d s e g a.0 a.1 b c) (λ value s e h b k. done h b (omega arith))

    -- a catch goes on with the names, their types and the ticks that what was thrown has left
    caught_ends : (x : Catches) (id : ℕ) (place : Arose) (d : Place) (s : State) (e : Env) (g : Scope) (of : Ty) (looped : Bool) → CatchesAgree (known_in funs limits d.text) of looped g x → Bound g e
        → cost s.world.ticks + catches_size x ≤ n → Ends (FlowHas of looped) g s.world.ticks (caught funs limits m d x id place s e)
    caught_ends NoCatch id place d s e g of looped a b c = record { by = (b, omega arith) }
    caught_ends (Catch class x body rest) id place d s e g of looped a b c =
        let y : Variable = record { name = x; of = t.Class class } in
        let ran = ih.stmts body d s (record { name = x; value = v.Ref id } ∷ e) (y ∷ g) of looped a.1 (refl, class_has class (v.Ref id), b) (omega (arith, c)) in
        unless (is_of_class class (slice_get s.world.store.objects id))
        (caught_ends rest id place d s e g of looped a.2 b (omega (arith, c)))
        (record { by = leaving (FlowHas of looped) g s.world.ticks y _ ran.by })

    handled_ends : (x : Catches) (d : Place) (g : Scope) (of : Ty) (looped : Bool) (k : ℕ) (o : Out Flow) → CatchesAgree (known_in funs limits d.text) of looped g x → cost k + catches_size x ≤ n
        → Fine (FlowHas of looped) g k o → Fine (FlowHas of looped) g k (handled funs limits m d x o)
    handled_ends x d g of looped k (Done flow s e) a c h = h
    handled_ends x d g of looped k (Thrown id place s e) a c h =
        fewer_ticks (FlowHas of looped) g _ s.world.ticks k h.1 (caught_ends x id place d s e g of looped a h.0 (lesser s.world.ticks k _ n h.1 c)).by
    handled_ends x d g of looped k (Over limit place w) a c h = tt
    handled_ends x d g of looped k More a c h = absurd h

    stmt_ends : (x : Stmt) (d : Place) (s : State) (e : Env) (g : Scope) (of : Ty) (looped : Bool) → StmtAgrees (known_in funs limits d.text) of looped g x → Bound g e → cost s.world.ticks + stmt_size x ≤ suc n
        → Ends (FlowHas of looped) g s.world.ticks (stmt_of funs limits m d s e x)
    stmt_ends (Do x) d s e g of looped a b c = then' (ih.expr x d s e g a b (omega (arith, c))) (λ value s e h b k. done tt b (omega arith))
    stmt_ends (If x y z) d s e g of looped a b c =
        then' (of_type x boolean d s e g a.0 a.1 b (omega (arith, c))) (λ value s' e h b k.
        chosen value h
        (ih.stmts y d s' e g of looped a.2 b (lesser _ s.world.ticks _ n k (omega (arith, c))))
        (ih.stmts z d s' e g of looped a.3 b (lesser _ s.world.ticks _ n k (omega (arith, c)))))
    stmt_ends (While test update body) d s e g of looped a b c =
        then' (test_ends test d s e g a.0 b (omega (arith, c))) (λ value s' e h b k.
        chosen value h
        (turned_ends (take_turn limits (has_loop_limit d.text) s'.turns s'.world) test update body d s' e g of looped (turn_costs limits (has_loop_limit d.text) s'.turns s'.world) a b (lesser _ s.world.ticks _ (suc n) k c))
        (done tt b (omega arith)))
    stmt_ends (DoWhile body test) d s e g of looped a b c = done_ends (take_turn limits (has_loop_limit d.text) s.turns s.world) body test d s e g of looped (turn_costs limits (has_loop_limit d.text) s.turns s.world) a b c
    stmt_ends (Try body catches) d s e g of looped a b c =
        record { by = handled_ends catches d g of looped s.world.ticks _ a.1 (omega (arith, c)) (ih.stmts body d s e g of looped a.0 b (omega (arith, c))).by }
    stmt_ends (Block body) d s e g of looped a b c = ih.stmts body d s e g of looped a b (omega (arith, c))
    stmt_ends Break d s e g of looped a b c = done a b (omega arith)
    stmt_ends Continue d s e g of looped a b c = done a b (omega arith)
    stmt_ends (Return value) d s e g of looped a b c = returns_end value of looped d s e g a b (omega (arith, c))
    stmt_ends (Throw x) d s e g of looped a b c =
        then' (ih.expr x d s e g a.0 b (omega (arith, c))) (λ value s' e h b k.
        then' (throws_end g s' e (thrown s'.world.store value) b) (λ value s e h b k. done tt b (omega arith)))

    begins_end : (value : Maybe) (of : Ty) (d : Place) (s : State) (e : Env) (g : Scope) → BeginAgrees (known_in funs limits d.text) g value of → Bound g e → cost s.world.ticks + maybe_size value ≤ n
        → Ends (Has of) g s.world.ticks (value_or funs limits m value of d s e)
    begins_end Missing of d s e g a b c = done (default_has of) b (omega arith)
    begins_end (Present x) of d s e g a b c = of_type x of d s e g a.0 a.1 b c

    stmts_end : (x : Stmts) (d : Place) (s : State) (e : Env) (g : Scope) (of : Ty) (looped : Bool) → StmtsAgree (known_in funs limits d.text) of looped g x → Bound g e → cost s.world.ticks + stmts_size x ≤ suc n
        → Ends (FlowHas of looped) g s.world.ticks (stmts_of funs limits m d s e x)
    stmts_end Finish d s e g of looped a b c = done tt b (omega arith)
    stmts_end (Then x rest) d s e g of looped a b c =
        then' (ih.stmt x d s e g of looped a.0 b (omega (arith, c))) (λ flow s' e h b k.
        next of looped flow s' e h b (ih.stmts rest d s' e g of looped a.1 b (lesser _ s.world.ticks _ n k (omega (arith, c)))))
    stmts_end (Declare x to value rest) d s e g of looped a b c =
        then' (begins_end value to d s e g a.0 b (omega (arith, c))) (λ first s' e h b k.
        let y : Variable = record { name = x; of = to } in
        record { by = leaving (FlowHas of looped) g s'.world.ticks y _ (ih.stmts rest d s' (record { name = x; value = first } ∷ e) (y ∷ g) of looped a.2 (refl, h, b) (lesser _ s.world.ticks _ n k (omega (arith, c)))).by })

    deeper : Good (suc n) (layer funs limits m)
    deeper = record { expr = expr_ends; exprs = exprs_end; stmt = stmt_ends; stmts = stmts_end }

  -- nothing has no size
  some_expr : (x : Expr) → 1 ≤ expr_size x
  some_expr (Literal at of c) = omega arith
  some_expr (Quoted at of text) = omega arith
  some_expr (Local at of x) = omega arith
  some_expr (Apply at of o parts) = omega arith
  some_expr (Guarded at of o parts) = omega arith
  some_expr (Logic at of o left right) = omega arith
  some_expr (Conditional at of c a b) = omega arith
  some_expr (Elvis at of left right) = omega arith
  some_expr (Assign at of to parts value) = omega arith
  some_expr (Modify at of to parts change right given) = omega arith
  some_expr (Lambda at of interface function) = omega arith
  some_expr (Reference at of interface class name) = omega arith
  some_expr (NewReference at of interface made) = omega arith

  some_exprs : (x : Exprs) → 1 ≤ exprs_size x
  some_exprs None' = omega arith
  some_exprs (One a others) = omega arith

  some_stmt : (x : Stmt) → 1 ≤ stmt_size x
  some_stmt (Do a) = omega arith
  some_stmt (If c a b) = omega arith
  some_stmt (While test update body) = omega arith
  some_stmt (DoWhile body test) = omega arith
  some_stmt (Try body catches) = omega arith
  some_stmt (Block body) = omega arith
  some_stmt Break = omega arith
  some_stmt Continue = omega arith
  some_stmt (Return value) = omega arith
  some_stmt (Throw value) = omega arith

  some_stmts : (x : Stmts) → 1 ≤ stmts_size x
  some_stmts Finish = omega arith
  some_stmts (Then x rest) = omega arith
  some_stmts (Declare x of value rest) = omega arith

  pub all_good : (n : ℕ) → Good n (meaning funs limits n)
  all_good zero = record {
    expr = λ x d s e g a b c. absurd (omega (arith, some_expr x, c));
    exprs = λ x d s e g a b c. absurd (omega (arith, some_exprs x, c));
    stmt = λ x d s e g of looped a b c. absurd (omega (arith, some_stmt x, c));
    stmts = λ x d s e g of looped a b c. absurd (omega (arith, some_stmts x, c));
  }
  all_good (suc n) = deeper n (meaning funs limits n) (all_good n)
