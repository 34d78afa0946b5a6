-- A greater bound gives the same, where it is not More.
use Rattle.std.proofs.Common.{ℕ, zero, suc, ◌≤◌, List, [], ◌∷◌, ◌++◌, Option, Some, None, refl, sym, ap, subst, arith}
use Rattle.std.specs.Prelude.{slice_get, Bool, true, false, if◌then◌else◌}
use Rattle.number_ops.specs.Operators.{is_null}
use Rattle.pl_types.specs.declared.ty.Ty.{Ty}
use Rattle.object_values.specs.declared.object.Owner.{Owner}
use Rattle.object_values.specs.declared.value.Value.{Value}
use Rattle.object_values.specs.declared.value.Value.TheVariants as v
use Rattle.typed_tree.specs.declared.operation.Member.{Member}
use Rattle.typed_tree.specs.declared.operation.Operation.{Operation}
use Rattle.typed_tree.specs.declared.operation.Operation.TheVariants as operation
use Rattle.typed_tree.specs.declared.operation.Logical.{Logical}
use Rattle.typed_tree.specs.declared.operation.Logical.TheVariants.{And, Or}
use Rattle.typed_tree.specs.declared.operation.Target.{Target}
use Rattle.typed_tree.specs.declared.operation.Target.TheVariants as target
use Rattle.typed_tree.specs.declared.operation.Change.{Change}
use Rattle.typed_tree.specs.declared.operation.Gives.{Gives}
use Rattle.run_state.specs.World.{Limits, Arose, Counted, Counts, Passes, has_loop_limit, take_turn, enter}
use Rattle.source_meaning.specs.Tree.{Name, Expr, Literal, Quoted, Local, Apply, Guarded, Logic, Conditional, Elvis, Assign, Modify, Lambda, Reference, NewReference, Exprs, None', One, Maybe, Missing, Given as Present, Stmt, Do, If, While, DoWhile, Try, Block, Break, Continue, Return, Throw, Stmts, Finish, Then, Declare, Catches, NoCatch, Catch, Fun, Programs, functions_in}
use Rattle.source_meaning.specs.Operating.{casts}
use Rattle.source_meaning.specs.Meaning.{State, Env, Place, Out, Done, Thrown, Over, More, Flow, Normal, Broke, Continued, Returned, bind, leave, entry, found, operated, choose, goes_next, goes_again, is_of_class, back, lookup, given_by, Meaning, entered, called, of_member, applied, logic, changed, modified, written, modified_at, expr_of, exprs_of, value_if, turned, done_turn, caught, handled, stmt_of, value_or, stmts_of, layer, meaning}
use Rattle.source_meaning.specs.Laws.{Stays, Extends}

-- the same as a record, so that what stands on either side is found
record Up {A : Type 0} (o other : Out A) : Type 0 where
  by : Stays o other

same_stays : {A : Type 0} (o : Out A) → Stays o o
same_stays (Done a s e) = refl
same_stays (Thrown id place s e) = refl
same_stays (Over limit place w) = refl
same_stays More = tt

same : {A : Type 0} {o : Out A} → Up o o
same {o = o} = record { by = same_stays o }

binds : {A B : Type 0} (o other : Out A) (k k' : A → State → Env → Out B) → Stays o other → ((a : A) (s : State) (e : Env) → Up (k a s e) (k' a s e)) → Stays (bind o k) (bind other k')
binds (Done a s e) other k k' x f = subst (λ o. Stays (k a s e) (bind o k')) (sym x) (f a s e).by
binds (Thrown id place s e) other k k' x f = ap (λ o. bind o k') x
binds (Over limit place w) other k k' x f = ap (λ o. bind o k') x
binds More other k k' x f = tt

then' : {A B : Type 0} {o other : Out A} {k k' : A → State → Env → Out B} → Up o other → ((a : A) (s : State) (e : Env) → Up (k a s e) (k' a s e)) → Up (bind o k) (bind other k')
then' {o = o} {other = other} {k = k} {k' = k'} x f = record { by = binds o other k k' x.by f }

leaves : {A : Type 0} (o other : Out A) → Stays o other → Stays (leave o) (leave other)
leaves (Done a s e) other x = ap leave x
leaves (Thrown id place s e) other x = ap leave x
leaves (Over limit place w) other x = ap leave x
leaves More other x = tt

leaving : {A : Type 0} {o other : Out A} → Up o other → Up (leave o) (leave other)
leaving {o = o} {other = other} x = record { by = leaves o other x.by }

backs : (of : Ty) (o other : Out Flow) (turns : ℕ) (e : Env) → Stays o other → Stays (back of o turns e) (back of other turns e)
backs of (Done Normal s' e') other turns e x = ap (λ o. back of o turns e) x
backs of (Done Broke s' e') other turns e x = tt
backs of (Done Continued s' e') other turns e x = tt
backs of (Done (Returned value) s' e') other turns e x = ap (λ o. back of o turns e) x
backs of (Thrown id place s' e') other turns e x = ap (λ o. back of o turns e) x
backs of (Over limit place w) other turns e x = ap (λ o. back of o turns e) x
backs of More other turns e x = tt

chosen : {A : Type 0} {o o' p p' : Out A} (value : Value) → Up o o' → Up p p' → Up (choose value o p) (choose value o' p')
chosen (v.Bool true) x y = x
chosen (v.Bool false) x y = y
chosen v.Null x y = same
chosen (v.Byte a) x y = same
chosen (v.Short a) x y = same
chosen (v.Char a) x y = same
chosen (v.Int a) x y = same
chosen (v.Long a) x y = same
chosen (v.Str a) x y = same
chosen (v.Ref a) x y = same

next : {o other : Out Flow} (flow : Flow) (s : State) (e : Env) → Up o other → Up (goes_next flow s e o) (goes_next flow s e other)
next Normal s e x = x
next Broke s e x = same
next Continued s e x = same
next (Returned value) s e x = same

again : {o other : Out Flow} (flow : Flow) (s : State) (e : Env) → Up o other → Up (goes_again flow s e o) (goes_again flow s e other)
again Normal s e x = x
again Broke s e x = same
again Continued s e x = x
again (Returned value) s e x = same

either_grows : {A : Type 0} (test : Bool) {a b c d : Out A} → Up a b → Up c d → Up (if test then c else a) (if test then d else b)
either_grows true x y = y
either_grows false x y = x

record Grows (m other : Meaning) : Type 0 where
  expr : (t : Expr) (d : Place) (s : State) (e : Env) → Up (m.expr d s e t) (other.expr d s e t)
  exprs : (t : Exprs) (d : Place) (s : State) (e : Env) → Up (m.exprs d s e t) (other.exprs d s e t)
  stmt : (t : Stmt) (d : Place) (s : State) (e : Env) → Up (m.stmt d s e t) (other.stmt d s e t)
  stmts : (t : Stmts) (d : Place) (s : State) (e : Env) → Up (m.stmts d s e t) (other.stmts d s e t)

module _ (funs : Programs) (limits : Limits) where
  module _ (m m' : Meaning) (ih : Grows m m') where
    enters : (c : Counted) (text : Owner) (due : List Ty) (d : Place) (s : State) (e : Env) (of : Ty) (body : Stmts) (o : Option Env)
        → Up (entered funs limits m c text due d s e of body o) (entered funs limits m' c text due d s e of body o)
    enters c text due d s e of body None = same
    enters (Passes limit w) text due d s e of body (Some args) = same
    enters (Counts w) text due d s e of body (Some args) =
        then' (record { by = backs of _ _ s.turns e (ih.stmts body (record { text = text; depth = suc d.depth }) (record { world = w; turns = 0 }) args).by }) (λ value s e. same)

    calls : (o : Option Fun) (c : Counted) (text : Owner) (due : List Ty) (d : Place) (s : State) (e : Env) (values : List Value)
        → Up (called funs limits m o c text due d s e values) (called funs limits m' o c text due d s e values)
    calls None c text due d s e values = same
    calls (Some f) c text due d s e values = enters c text due d s e f.result f.body (entry f.params values [])

    members : (t : Member) (values : List Value) (d : Place) (s : State) (e : Env) → Up (of_member funs limits m t values d s e) (of_member funs limits m' t values d s e)
    members t values d s e = same

    applies : (o : Operation) (d : Place) (s : State) (e : Env) (of : Ty) (values : List Value) → Up (applied funs limits m o d s e of values) (applied funs limits m' o d s e of values)
    applies (operation.Operator o) d s e of values = same
    applies (operation.Cast c) d s e of [] = same
    applies (operation.Cast c) d s e of (a ∷ []) = same
    applies (operation.Cast c) d s e of (a ∷ b ∷ values) = same
    applies (operation.InstanceOf is) d s e of [] = same
    applies (operation.InstanceOf is) d s e of (a ∷ []) = same
    applies (operation.InstanceOf is) d s e of (a ∷ b ∷ values) = same
    applies (operation.Function k) d s e of values = calls (slice_get (functions_in funs d.text) k) (enter limits d.depth s.world) d.text [] d s e values
    applies (operation.Instance member) d s e of values = members member values d s e
    applies (operation.Static member) d s e of values = members member values d s e
    applies (operation.Constructor member) d s e of values = members member values d s e
    applies (operation.Field member) d s e of values = members member values d s e
    applies (operation.Host member) d s e of values = same
    applies (operation.DefCall name) d s e of values = same
    applies (operation.DefName name) d s e of values = same
    applies (operation.PutDefName name) d s e of values = same
    applies operation.DefIndex d s e of values = same
    applies operation.PutDefIndex d s e of values = same

    logic_grows : (o : Logical) (d : Place) (s : State) (e : Env) (value : Value) (right : Expr) → Up (logic funs limits m o d s e value right) (logic funs limits m' o d s e value right)
    logic_grows And d s e value right = chosen value (ih.expr right d s e) same
    logic_grows Or d s e value right = chosen value same (ih.expr right d s e)

    changed_grows : (of : Ty) (change : Change) (d : Place) (s : State) (e : Env) (right : Expr) (old : Value)
        → Up (changed funs limits m of change d s e right old) (changed funs limits m' of change d s e right old)
    changed_grows of change d s e right old =
        then' {o = operated (casts change.before of old s.world.store) s e} same (λ left s e. then' (ih.expr right d s e) (λ value s e. same))

    modifies : (x : Name) (of : Ty) (change : Change) (d : Place) (s : State) (e : Env) (right : Expr) (given : Gives) (old : Value)
        → Up (modified funs limits m x of change d s e right given old) (modified funs limits m' x of change d s e right given old)
    modifies x of change d s e right given old = then' (changed_grows of change d s e right old) (λ new s e. same)

    writes : (write : Operation) (d : Place) (s : State) (e : Env) (of : Ty) (parts : List Value) (new given : Value)
        → Up (written funs limits m write d s e of parts new given) (written funs limits m' write d s e of parts new given)
    writes write d s e of parts new given = then' (applies write d s e of (parts ++ new ∷ [])) (λ dropped s e. same)

    modifies_at : (read : Option Operation) (write : Operation) (of : Ty) (change : Change) (d : Place) (s : State) (e : Env) (parts : List Value) (right : Expr) (given : Gives)
        → Up (modified_at funs limits m read write of change d s e parts right given) (modified_at funs limits m' read write of change d s e parts right given)
    modifies_at None write of change d s e parts right given = same
    modifies_at (Some read) write of change d s e parts right given =
        then' (applies read d s e of parts) (λ old s e.
        then' (changed_grows of change d s e right old) (λ new s e. writes write d s e of parts new (given_by given old new)))

    assigns : (at : ℕ) (of : Ty) (to : Target) (parts : Exprs) (value : Expr) (d : Place) (s : State) (e : Env)
        → Up (expr_of funs limits m d s e (Assign at of to parts value)) (expr_of funs limits m' d s e (Assign at of to parts value))
    assigns at of (target.Local x) parts value d s e = then' (ih.expr value d s e) (λ value s e. same)
    assigns at of (target.Place read write) parts value d s e =
        then' (ih.exprs parts d s e) (λ values s e. then' (ih.expr value d s e) (λ value s e. writes write d s e of values value value))

    changes : (at : ℕ) (of : Ty) (to : Target) (parts : Exprs) (change : Change) (right : Expr) (given : Gives) (d : Place) (s : State) (e : Env)
        → Up (expr_of funs limits m d s e (Modify at of to parts change right given)) (expr_of funs limits m' d s e (Modify at of to parts change right given))
    changes at of (target.Local x) parts change right given d s e = then' {o = found (lookup e x) s e} same (λ old s e. modifies x of change d s e right given old)
    changes at of (target.Place read write) parts change right given d s e =
        then' (ih.exprs parts d s e) (λ values s e. modifies_at read write of change d s e values right given)

    expr_grows : (t : Expr) (d : Place) (s : State) (e : Env) → Up (expr_of funs limits m d s e t) (expr_of funs limits m' d s e t)
    expr_grows (Literal at of c) d s e = same
    expr_grows (Quoted at of text) d s e = same
    expr_grows (Local at of x) d s e = same
    expr_grows (Apply at of o parts) d s e = then' (ih.exprs parts d s e) (λ values s e. applies o d s e of values)
    expr_grows (Guarded at of o None') d s e = same
    expr_grows (Guarded at of o (One a others)) d s e =
        then' (ih.expr a d s e) (λ value s e. either_grows (is_null value) (then' (ih.exprs others d s e) (λ values s e. applies o d s e of (value ∷ values))) same)
    expr_grows (Logic at of o left right) d s e = then' (ih.expr left d s e) (λ value s e. logic_grows o d s e value right)
    expr_grows (Conditional at of c a b) d s e = then' (ih.expr c d s e) (λ value s e. chosen value (ih.expr a d s e) (ih.expr b d s e))
    expr_grows (Elvis at of left right) d s e = then' (ih.expr left d s e) (λ value s e. either_grows (is_null value) same (ih.expr right d s e))
    expr_grows (Assign at of to parts value) d s e = assigns at of to parts value d s e
    expr_grows (Modify at of to parts change right given) d s e = changes at of to parts change right given d s e
    expr_grows (Lambda at of interface function) d s e = same
    expr_grows (Reference at of interface class name) d s e = same
    expr_grows (NewReference at of interface made) d s e = same

    exprs_grow : (t : Exprs) (d : Place) (s : State) (e : Env) → Up (exprs_of funs limits m d s e t) (exprs_of funs limits m' d s e t)
    exprs_grow None' d s e = same
    exprs_grow (One a others) d s e = then' (ih.expr a d s e) (λ value s e. then' (ih.exprs others d s e) (λ values s e. same))

    value_grows : (value : Maybe) (other : Value) (d : Place) (s : State) (e : Env) → Up (value_if funs limits m value other d s e) (value_if funs limits m' value other d s e)
    value_grows Missing other d s e = same
    value_grows (Present a) other d s e = ih.expr a d s e

    turns_grow : (c : Counted) (d : Place) (s : State) (e : Env) (test update : Maybe) (body : Stmts)
        → Up (turned funs limits m c d s e test update body) (turned funs limits m' c d s e test update body)
    turns_grow (Passes limit w) d s e test update body = same
    turns_grow (Counts w) d s e test update body =
        then' (ih.stmts body d (record { world = w; turns = suc s.turns }) e) (λ flow s e.
        again flow s e (then' (value_grows update v.Null d s e) (λ value s e. ih.stmt (While test update body) d s e)))

    dones_grow : (c : Counted) (d : Place) (s : State) (e : Env) (body : Stmts) (test : Maybe)
        → Up (done_turn funs limits m c d s e body test) (done_turn funs limits m' c d s e body test)
    dones_grow (Passes limit w) d s e body test = same
    dones_grow (Counts w) d s e body test =
        then' (ih.stmts body d (record { world = w; turns = suc s.turns }) e) (λ flow s e.
        again flow s e (then' (value_grows test (v.Bool true) d s e) (λ value s e. chosen value (ih.stmt (DoWhile body test) d s e) same)))

    catches_grow : (t : Catches) (d : Place) (id : ℕ) (place : Arose) (s : State) (e : Env) → Up (caught funs limits m d t id place s e) (caught funs limits m' d t id place s e)
    catches_grow NoCatch d id place s e = same
    catches_grow (Catch class x body rest) d id place s e =
        either_grows (is_of_class class (slice_get s.world.store.objects id)) (catches_grow rest d id place s e) (leaving (ih.stmts body d s (record { name = x; value = v.Ref id } ∷ e)))

    handles : (t : Catches) (d : Place) (o other : Out Flow) → Stays o other → Stays (handled funs limits m d t o) (handled funs limits m' d t other)
    handles t d (Done flow s e) other x = ap (λ o. handled funs limits m' d t o) x
    handles t d (Thrown id place s e) other x = subst (λ o. Stays (caught funs limits m d t id place s e) (handled funs limits m' d t o)) (sym x) (catches_grow t d id place s e).by
    handles t d (Over limit place w) other x = ap (λ o. handled funs limits m' d t o) x
    handles t d More other x = tt

    stmt_grows : (t : Stmt) (d : Place) (s : State) (e : Env) → Up (stmt_of funs limits m d s e t) (stmt_of funs limits m' d s e t)
    stmt_grows (Do a) d s e = then' (ih.expr a d s e) (λ value s e. same)
    stmt_grows (If c a b) d s e = then' (ih.expr c d s e) (λ value s e. chosen value (ih.stmts a d s e) (ih.stmts b d s e))
    stmt_grows (While test update body) d s e =
        then' (value_grows test (v.Bool true) d s e) (λ value s e. chosen value (turns_grow (take_turn limits (has_loop_limit d.text) s.turns s.world) d s e test update body) same)
    stmt_grows (DoWhile body test) d s e = dones_grow (take_turn limits (has_loop_limit d.text) s.turns s.world) d s e body test
    stmt_grows (Try body catches) d s e = record { by = handles catches d _ _ (ih.stmts body d s e).by }
    stmt_grows (Block body) d s e = ih.stmts body d s e
    stmt_grows Break d s e = same
    stmt_grows Continue d s e = same
    stmt_grows (Return value) d s e = then' (value_grows value v.Null d s e) (λ value s e. same)
    stmt_grows (Throw value) d s e = then' (ih.expr value d s e) (λ value s e. same)

    begins : (value : Maybe) (of : Ty) (d : Place) (s : State) (e : Env) → Up (value_or funs limits m value of d s e) (value_or funs limits m' value of d s e)
    begins Missing of d s e = same
    begins (Present a) of d s e = ih.expr a d s e

    stmts_grow : (t : Stmts) (d : Place) (s : State) (e : Env) → Up (stmts_of funs limits m d s e t) (stmts_of funs limits m' d s e t)
    stmts_grow Finish d s e = same
    stmts_grow (Then t rest) d s e = then' (ih.stmt t d s e) (λ flow s e. next flow s e (ih.stmts rest d s e))
    stmts_grow (Declare x of value rest) d s e = then' (begins value of d s e) (λ value s e. leaving (ih.stmts rest d s (record { name = x; value = value } ∷ e)))

    deeper : Grows (layer funs limits m) (layer funs limits m')
    deeper = record { expr = expr_grows; exprs = exprs_grow; stmt = stmt_grows; stmts = stmts_grow }

  grows : (n k : ℕ) → n ≤ k → Grows (meaning funs limits n) (meaning funs limits k)
  grows zero k h = record { expr = λ t d s e. record { by = tt }; exprs = λ t d s e. record { by = tt }; stmt = λ t d s e. record { by = tt }; stmts = λ t d s e. record { by = tt } }
  grows (suc n) zero h = absurd (omega arith)
  grows (suc n) (suc k) h = deeper (meaning funs limits n) (meaning funs limits k) (grows n k (omega arith))

pub stays_above : (funs : Programs) (limits : Limits) (bound greater : ℕ) → bound ≤ greater → Extends (meaning funs limits bound) (meaning funs limits greater)
stays_above funs limits bound greater h =
    let up = grows funs limits bound greater h in
    record { expr = λ t d s e. (up.expr t d s e).by; exprs = λ t d s e. (up.exprs t d s e).by; stmt = λ t d s e. (up.stmt t d s e).by; stmts = λ t d s e. (up.stmts t d s e).by }
