-- What a typed program means, at a bound on the depth of the recursion: a meaning is a record of functions, and each is made of the
-- one that is one less. At 0, and where something is meaningless (a name that is not bound, a value that is not of its type), it is
-- More, which claims nothing.
use Rattle.std.specs.Prelude.{ℕ, zero, suc, Bool, true, false, List, [], ◌∷◌, ◌++◌, Option, Some, None, slice_get, if◌then◌else◌}
use Rattle.std.specs.Str.{bytes_eq}
use Rattle.pl_types.specs.declared.ty.Ty.{Ty}
use Rattle.pl_types.specs.Classes.{class_is_below}
use Rattle.object_values.specs.declared.object.Object.{Object}
use Rattle.object_values.specs.declared.object.Object.TheVariants as o
use Rattle.object_values.specs.declared.value.Value.{Value}
use Rattle.object_values.specs.declared.value.Value.TheVariants as v
use Rattle.object_values.specs.declared.object.Owner.{Owner}
use Rattle.typed_tree.specs.declared.operation.Member.{Member}
use Rattle.typed_tree.specs.declared.operation.Operation.{Operation}
use Rattle.typed_tree.specs.declared.operation.Operation.TheVariants as operation
use Rattle.typed_tree.specs.declared.operation.Logical.{Logical}
use Rattle.typed_tree.specs.declared.operation.Logical.TheVariants.{And, Or}
use Rattle.typed_tree.specs.declared.operation.Target.TheVariants as target
use Rattle.typed_tree.specs.declared.operation.Change.{Change}
use Rattle.typed_tree.specs.declared.operation.Gives.{Gives as Given_by}
use Rattle.typed_tree.specs.declared.operation.Gives.TheVariants as gives
use Rattle.run_state.specs.Calls.{suits_member, wrong_class}
use Rattle.run_state.specs.World.{World, Limits, Limit, Room, Arose, not_told, Outcome, Given, Raised, Full, acts_in, Counted, Counts, Passes, allowed_in, has_loop_limit, take_turn, enter, pay_member}
use Rattle.source_meaning.specs.Tree.{Name, Expr, Literal, Quoted, Local, Apply, Guarded, Logic, Conditional, Elvis, Assign, Modify, Lambda, Reference, NewReference, Exprs, None', One, Maybe, Missing, Given as Present, Stmt, Do, If, While, DoWhile, Try, Block, Break, Continue, Return, Throw, Stmts, Finish, Then, Declare, Catches, NoCatch, Catch, Variable, Fun, Programs, functions_in}
use Rattle.number_ops.specs.Operators.{is_null}
use Rattle.number_ops.specs.Casts.{cast_at_run_time}
use Rattle.number_ops.specs.Relations.{is_instance, thrown}
use Rattle.pl_units.specs.Utf16.{units}
use Rattle.number_ops.specs.Outcomes as outcomes
use Rattle.allowlist.specs.Allow.{AllowList, flag}
use Rattle.allowlist.specs.declared.member.MemberType.{MemberType}
use Rattle.allowlist.specs.Index.{member_in}
use Rattle.object_heap.specs.Effects.{Effect}
use Rattle.def_access.specs.Members.{does}
use Rattle.def_access.specs.Access.{Access, Calls, Acts as Does, index_read, index_written, name_read, name_written, method_called}
pub use Rattle.def_access.specs.Types.{default_of}
use Rattle.source_meaning.specs.Members.{Sending, Unsent, OnNull, Sends, Reads, sent}
use Rattle.source_meaning.specs.Operating.{Operated, Meaningless, Gives, Acts, value_of, operates, operates_to, casts, passed_result}

-- the world, and how many turns this frame has had
pub record State : Type 0 where
  pub world : World
  pub turns : ℕ

-- what a name stands for
pub record Binding : Type 0 where
  pub name : Name
  pub value : Value

-- the newest first
abbrev pub Env : Type 0
Env = List Binding

-- in which text a frame's script stands, and how many frames are below it
pub record Place : Type 0 where
  pub text : Owner
  pub depth : ℕ

-- What happened: a value, an exception by its number, a limit that would be passed, or more than the bound allows. An exception and a
-- limit have the place at which they arose.
pub data Out (A : Type 0) : Type 0 where
  Done : (a : A) (s : State) (e : Env) → Out A
  Thrown : (id : ℕ) (place : Arose) (s : State) (e : Env) → Out A
  Over : (limit : Limit) (place : Arose) (w : World) → Out A
  More : Out A

-- how a statement goes on
pub data Flow : Type 0 where
  Normal Broke Continued : Flow
  Returned : (value : Value) → Flow

abbrev pub bind : {A B : Type 0} → Out A → (A → State → Env → Out B) → Out B
bind (Done a s e) next = next a s e
bind (Thrown id place s e) next = Thrown id place s e
bind (Over limit place w) next = Over limit place w
bind More next = More

abbrev pub older : Env → Env
older [] = []
older (b ∷ e) = e

-- the scope of the newest name ends
abbrev pub leave : {A : Type 0} → Out A → Out A
leave (Done a s e) = Done a s (older e)
leave (Thrown id place s e) = Thrown id place s (older e)
leave (Over limit place w) = Over limit place w
leave More = More

abbrev pub lookup : Env → Name → Option Value
lookup [] x = None
lookup (b ∷ e) x = if bytes_eq x b.name then Some b.value else lookup e x

abbrev pub assigned : Env → Name → Value → Env
assigned [] x value = []
assigned (b ∷ e) x value = if bytes_eq x b.name then record { name = b.name; value = value } ∷ e else b ∷ assigned e x value

-- what a function begins with, the last of its variables the newest; nothing where there are not as many values
abbrev pub entry : List Variable → List Value → Env → Option Env
entry [] [] e = Some e
entry (x ∷ xs) (value ∷ values) e = entry xs values (record { name = x.name; value = value } ∷ e)
entry [] (value ∷ values) e = None
entry (x ∷ xs) [] e = None

pub record Meaning : Type 0 where
  pub expr : Place → State → Env → Expr → Out Value
  pub exprs : Place → State → Env → Exprs → Out (List Value)
  pub stmt : Place → State → Env → Stmt → Out Flow
  pub stmts : Place → State → Env → Stmts → Out Flow

abbrev pub nothing : Meaning
nothing = record { expr = λ d s e t. More; exprs = λ d s e t. More; stmt = λ d s e t. More; stmts = λ d s e t. More }

abbrev pub found : Option Value → State → Env → Out Value
found None s e = More
found (Some value) s e = Done value s e

-- what an operation comes to
abbrev pub effect : Outcome Value → State → Env → Out Value
effect (Given value w) s e = Done value (record { world = w; turns = s.turns }) e
effect (Raised id w) s e = Thrown id not_told (record { world = w; turns = s.turns }) e
effect Full s e = Over Room not_told s.world

abbrev pub operated : Operated → State → Env → Out Value
operated Meaningless s e = More
operated (Gives value) s e = Done value s e
operated (Acts given) s e = effect (acts_in s.world given) s e

-- the first where the value is true
abbrev pub choose : {A : Type 0} → Value → Out A → Out A → Out A
choose (v.Bool true) first second = first
choose (v.Bool false) first second = second
choose other first second = More

-- the second where the value is null
abbrev pub unless_null : {A : Type 0} → Value → Out A → Out A → Out A
unless_null value first second = if is_null value then second else first

abbrev pub given_by : Given_by → Value → Value → Value
given_by gives.Old old new = old
given_by gives.New old new = new

-- how a statement's list goes on
abbrev pub goes_next : Flow → State → Env → Out Flow → Out Flow
goes_next Normal s e rest = rest
goes_next Broke s e rest = Done Broke s e
goes_next Continued s e rest = Done Continued s e
goes_next (Returned value) s e rest = Done (Returned value) s e

-- how a loop goes on behind a turn
abbrev pub goes_again : Flow → State → Env → Out Flow → Out Flow
goes_again Normal s e again = again
goes_again Broke s e again = Done Normal s e
goes_again Continued s e again = again
goes_again (Returned value) s e again = Done (Returned value) s e

-- an exception, and a class that is its own or above it
unfoldable pub is_of_class : ℕ → Option Object → Bool
is_of_class class (Some (o.Exc raised message)) = class_is_below raised class
is_of_class class other = false

-- what a function gives to its caller
abbrev pub returned : Ty → Flow → Option Value
returned of Normal = Some (default_of of)
returned of (Returned value) = Some value
returned of Broke = None
returned of Continued = None

abbrev pub back : Ty → Out Flow → ℕ → Env → Out Value
back of (Done flow s' e') turns e = found (returned of flow) (record { world = s'.world; turns = turns }) e
back of (Thrown id place s' e') turns e = Thrown id place (record { world = s'.world; turns = turns }) e
back of (Over limit place w) turns e = Over limit place w
back of More turns e = More

-- A value is cast to types, one after the other, each in the world that the one before it left.
abbrev pub cast_each : List Ty → Value → State → Env → Out Value
cast_each [] value s e = Done value s e
cast_each (to ∷ tos) value s e =
    bind (effect (acts_in s.world (outcomes.effect s.world.store (cast_at_run_time s.world.store.objects value to false))) s e) (λ value s e. cast_each tos value s e)

-- The casts that are due of what a function gives: none, or the type that it is of, and the types to which it is cast.
abbrev pub casts_due : List Ty → Value → State → Env → Out Value
casts_due [] value s e = Done value s e
casts_due (from ∷ tos) value s e = bind (found (passed_result from value) s e) (λ value s e. cast_each tos value s e)

module _ (funs : Programs) (limits : Limits) (m : Meaning) where
  -- A body of a text, one deeper. The casts that are due are done in the caller.
  abbrev pub entered : Counted → Owner → List Ty → Place → State → Env → Ty → Stmts → Option Env → Out Value
  entered counted text due d s e of body None = More
  entered (Passes limit w) text due d s e of body (Some args) = Over limit not_told w
  entered (Counts w) text due d s e of body (Some args) =
      bind (back of (m.stmts (record { text = text; depth = suc d.depth }) (record { world = w; turns = 0 }) args body) s.turns e)
      (λ value s e. casts_due due value s e)

  -- a function of a text, whose call is counted so
  abbrev pub called : Option Fun → Counted → Owner → List Ty → Place → State → Env → List Value → Out Value
  called None counted text due d s e values = More
  called (Some f) counted text due d s e values = entered counted text due d s e f.result f.body (entry f.params values [])

  -- what a member does, once its call is paid
  abbrev pub acted : Option Effect → State → Env → Out Value
  acted None s e = More
  acted (Some given) s e = effect (acts_in s.world given) s e

  abbrev pub paid : Counted → ℕ → List Value → State → Env → Out Value
  paid (Passes limit w) number arguments s e = Over limit not_told w
  paid (Counts w) number arguments s e = acted (does limits.ground.host number arguments w.store) (record { world = w; turns = s.turns }) e

  -- a receiver or an argument of another class throws before the call is paid
  abbrev pub tested : Bool → ℕ → List Value → Place → State → Env → Out Value
  tested false number arguments d s e = effect (acts_in s.world (outcomes.effect s.world.store wrong_class)) s e
  tested true number arguments d s e = paid (pay_member d.text number s.world) number arguments s e

  -- a receiver that is null throws before that; a field is read without a tick
  abbrev pub member_called : Sending → ℕ → MemberType → Place → State → Env → Out Value
  member_called Unsent number t d s e = More
  member_called OnNull number t d s e = effect (acts_in s.world (outcomes.effect s.world.store outcomes.null_error)) s e
  member_called (Sends arguments) number t d s e = tested (suits_member s.world.store.objects t arguments) number arguments d s e
  member_called Reads number t d s e = acted (does limits.ground.host number [] s.world.store) s e

  -- a call of a member of a list, which allows it
  abbrev pub member_applied : AllowList → Bool → ℕ → List Value → Place → State → Env → Out Value
  member_applied allow false number values d s e = More
  member_applied allow true number values d s e = member_called (sent (member_in allow number) values) number (member_in allow number) d s e

  abbrev pub of_member : Member → List Value → Place → State → Env → Out Value
  of_member m values d s e = member_applied (allowed_in limits d.text) (flag (allowed_in limits d.text).members m.number) m.number values d s e

  -- what is found for a receiver when the script runs
  abbrev pub accessed : Access → Place → State → Env → Out Value
  accessed (Calls number arguments) d s e = paid (pay_member d.text number s.world) number arguments s e
  accessed (Does given) d s e = effect (acts_in s.world given) s e

  abbrev pub method_applied : Name → List Value → Place → State → Env → Out Value
  method_applied name [] d s e = More
  method_applied name (receiver ∷ arguments) d s e = accessed (method_called (allowed_in limits d.text) s.world.store receiver name arguments) d s e

  abbrev pub name_applied : Name → List Value → Place → State → Env → Out Value
  name_applied name (receiver ∷ []) d s e = accessed (name_read (allowed_in limits d.text) s.world.store receiver name) d s e
  name_applied name values d s e = More

  abbrev pub name_put : Name → List Value → Place → State → Env → Out Value
  name_put name (receiver ∷ value ∷ []) d s e = accessed (name_written (allowed_in limits d.text) s.world.store receiver name value) d s e
  name_put name values d s e = More

  abbrev pub index_applied : List Value → Place → State → Env → Out Value
  index_applied (receiver ∷ index ∷ []) d s e = accessed (index_read (allowed_in limits d.text) s.world.store receiver index) d s e
  index_applied values d s e = More

  abbrev pub index_put : List Value → Place → State → Env → Out Value
  index_put (receiver ∷ index ∷ value ∷ []) d s e = accessed (index_written (allowed_in limits d.text) s.world.store receiver index value) d s e
  index_put values d s e = More

  -- a strict operation on values, of a node of a type
  abbrev pub applied : Operation → Place → State → Env → Ty → List Value → Out Value
  applied (operation.Operator o) d s e of values = operated (operates_to o of values s.world.store) s e
  applied (operation.Cast c) d s e of (value ∷ []) = operated (casts c of value s.world.store) s e
  applied (operation.InstanceOf of) d s e given (value ∷ []) = Done (v.Bool (is_instance s.world.store.objects value of)) s e
  applied (operation.Function k) d s e of values = called (slice_get (functions_in funs d.text) k) (enter limits d.depth s.world) d.text [] d s e values
  applied (operation.Instance m) d s e of values = of_member m values d s e
  applied (operation.Static m) d s e of values = of_member m values d s e
  applied (operation.Constructor m) d s e of values = of_member m values d s e
  applied (operation.Field m) d s e of values = of_member m values d s e
  applied (operation.DefCall name) d s e of values = method_applied name values d s e
  applied (operation.DefName name) d s e of values = name_applied name values d s e
  applied (operation.PutDefName name) d s e of values = name_put name values d s e
  applied operation.DefIndex d s e of values = index_applied values d s e
  applied operation.PutDefIndex d s e of values = index_put values d s e
  applied other d s e of values = More

  abbrev pub logic : Logical → Place → State → Env → Value → Expr → Out Value
  logic And d s e left right = choose left (m.expr d s e right) (Done (v.Bool false) s e)
  logic Or d s e left right = choose left (Done (v.Bool true) s e) (m.expr d s e right)

  -- What is read of a target of a type is cast, the right side taken, the operator done, and what it gives cast. The first cast is no
  -- run-time cast of a reference, which would ask for a type.
  abbrev pub changed : Ty → Change → Place → State → Env → Expr → Value → Out Value
  changed of change d s e right old =
      bind (operated (casts change.before of old s.world.store) s e) (λ left s e.
      bind (m.expr d s e right) (λ value s e.
      bind (operated (operates change.operator (left ∷ value ∷ []) s.world.store) s e) (λ result s e.
      operated (casts change.after of result s.world.store) s e)))

  -- a compound assignment to a variable
  abbrev pub modified : Name → Ty → Change → Place → State → Env → Expr → Given_by → Value → Out Value
  modified x of change d s e right given old = bind (changed of change d s e right old) (λ new s e. Done (given_by given old new) s (assigned e x new))

  -- a write of a value at a place, behind the values of the place's parts; it gives what the assignment gives
  abbrev pub written : Operation → Place → State → Env → Ty → List Value → Value → Value → Out Value
  written write d s e of parts new given = bind (applied write d s e of (parts ++ new ∷ [])) (λ dropped s e. Done given s e)

  -- a compound assignment to a place: its parts are taken once
  abbrev pub modified_at : Option Operation → Operation → Ty → Change → Place → State → Env → List Value → Expr → Given_by → Out Value
  modified_at None write of change d s e parts right given = More
  modified_at (Some read) write of change d s e parts right given =
      bind (applied read d s e of parts) (λ old s e.
      bind (changed of change d s e right old) (λ new s e. written write d s e of parts new (given_by given old new)))

  abbrev pub expr_of : Place → State → Env → Expr → Out Value
  expr_of d s e (Literal at of c) = Done (value_of c) s e
  expr_of d s e (Quoted at of text) = Done (v.Str (units text)) s e
  expr_of d s e (Local at of x) = found (lookup e x) s e
  expr_of d s e (Apply at of o parts) = bind (m.exprs d s e parts) (λ values s e. applied o d s e of values)
  expr_of d s e (Guarded at of o None') = More
  expr_of d s e (Guarded at of o (One a others)) =
      bind (m.expr d s e a) (λ value s e. unless_null value (bind (m.exprs d s e others) (λ values s e. applied o d s e of (value ∷ values))) (Done v.Null s e))
  expr_of d s e (Logic at of o left right) = bind (m.expr d s e left) (λ value s e. logic o d s e value right)
  expr_of d s e (Conditional at of c a b) = bind (m.expr d s e c) (λ value s e. choose value (m.expr d s e a) (m.expr d s e b))
  expr_of d s e (Elvis at of left right) = bind (m.expr d s e left) (λ value s e. unless_null value (Done value s e) (m.expr d s e right))
  expr_of d s e (Assign at of (target.Local x) parts value) = bind (m.expr d s e value) (λ value s e. Done value s (assigned e x value))
  expr_of d s e (Assign at of (target.Place read write) parts value) =
      bind (m.exprs d s e parts) (λ values s e. bind (m.expr d s e value) (λ value s e. written write d s e of values value value))
  expr_of d s e (Modify at of (target.Local x) parts change right given) = bind (found (lookup e x) s e) (λ old s e. modified x of change d s e right given old)
  expr_of d s e (Modify at of (target.Place read write) parts change right given) =
      bind (m.exprs d s e parts) (λ values s e. modified_at read write of change d s e values right given)
  expr_of d s e (Lambda at of interface function) = More
  expr_of d s e (Reference at of interface class name) = More
  expr_of d s e (NewReference at of interface made) = More

  abbrev pub exprs_of : Place → State → Env → Exprs → Out (List Value)
  exprs_of d s e None' = Done [] s e
  exprs_of d s e (One a others) = bind (m.expr d s e a) (λ value s e. bind (m.exprs d s e others) (λ values s e. Done (value ∷ values) s e))

  abbrev pub value_if : Maybe → Value → Place → State → Env → Out Value
  value_if Missing other d s e = Done other s e
  value_if (Present a) other d s e = m.expr d s e a

  -- one turn, and then the loop again
  abbrev pub turned : Counted → Place → State → Env → Maybe → Maybe → Stmts → Out Flow
  turned (Passes limit w) d s e test update body = Over limit not_told w
  turned (Counts w) d s e test update body =
      bind (m.stmts d (record { world = w; turns = suc s.turns }) e body) (λ flow s e.
      goes_again flow s e (bind (value_if update v.Null d s e) (λ value s e. m.stmt d s e (While test update body))))

  abbrev pub done_turn : Counted → Place → State → Env → Stmts → Maybe → Out Flow
  done_turn (Passes limit w) d s e body test = Over limit not_told w
  done_turn (Counts w) d s e body test =
      bind (m.stmts d (record { world = w; turns = suc s.turns }) e body) (λ flow s e.
      goes_again flow s e (bind (value_if test (v.Bool true) d s e) (λ value s e. choose value (m.stmt d s e (DoWhile body test)) (Done Normal s e))))

  -- The first catch that takes an exception, on the world as it was left. The exception is the catch's variable, and where it arose is
  -- forgotten.
  abbrev pub caught : Place → Catches → ℕ → Arose → State → Env → Out Flow
  caught d NoCatch id place s e = Thrown id place s e
  caught d (Catch class x body rest) id place s e =
      if is_of_class class (slice_get s.world.store.objects id)
      then leave (m.stmts d s (record { name = x; value = v.Ref id } ∷ e) body)
      else caught d rest id place s e

  -- limits pass every `try`
  abbrev pub handled : Place → Catches → Out Flow → Out Flow
  handled d catches (Done flow s e) = Done flow s e
  handled d catches (Thrown id place s e) = caught d catches id place s e
  handled d catches (Over limit place w) = Over limit place w
  handled d catches More = More

  abbrev pub stmt_of : Place → State → Env → Stmt → Out Flow
  stmt_of d s e (Do a) = bind (m.expr d s e a) (λ value s e. Done Normal s e)
  stmt_of d s e (If c a b) = bind (m.expr d s e c) (λ value s e. choose value (m.stmts d s e a) (m.stmts d s e b))
  stmt_of d s e (While test update body) =
      bind (value_if test (v.Bool true) d s e) (λ value s e. choose value (turned (take_turn limits (has_loop_limit d.text) s.turns s.world) d s e test update body) (Done Normal s e))
  stmt_of d s e (DoWhile body test) = done_turn (take_turn limits (has_loop_limit d.text) s.turns s.world) d s e body test
  stmt_of d s e (Try body catches) = handled d catches (m.stmts d s e body)
  stmt_of d s e (Block body) = m.stmts d s e body
  stmt_of d s e Break = Done Broke s e
  stmt_of d s e Continue = Done Continued s e
  stmt_of d s e (Return value) = bind (value_if value v.Null d s e) (λ value s e. Done (Returned value) s e)
  stmt_of d s e (Throw value) = bind (m.expr d s e value) (λ value s e. bind (effect (acts_in s.world (thrown s.world.store value)) s e) (λ value s e. Done Normal s e))

  abbrev pub value_or : Maybe → Ty → Place → State → Env → Out Value
  value_or Missing of d s e = Done (default_of of) s e
  value_or (Present a) of d s e = m.expr d s e a

  abbrev pub stmts_of : Place → State → Env → Stmts → Out Flow
  stmts_of d s e Finish = Done Normal s e
  stmts_of d s e (Then statement rest) = bind (m.stmt d s e statement) (λ flow s e. goes_next flow s e (m.stmts d s e rest))
  stmts_of d s e (Declare x of value rest) =
      bind (value_or value of d s e) (λ value s e. leave (m.stmts d s (record { name = x; value = value } ∷ e) rest))

  -- one deeper
  abbrev pub layer : Meaning
  layer = record { expr = expr_of; exprs = exprs_of; stmt = stmt_of; stmts = stmts_of }

abbrev pub meaning : Programs → Limits → ℕ → Meaning
meaning funs limits zero = nothing
meaning funs limits (suc n) = layer funs limits (meaning funs limits n)
