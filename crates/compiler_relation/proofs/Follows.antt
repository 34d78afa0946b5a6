-- From a place of the code the machine does what the script means.
use Rattle.std.proofs.Common.{◌≡◌, ℕ, zero, suc, List, [], ◌∷◌, Option, Some, refl, sym, ap, ◌∙◌}
use Rattle.std.specs.Prelude.{slice_get, true, false}
use Rattle.pl_types.specs.declared.ty.Ty.{Ty}
use Rattle.object_values.specs.declared.value.Value.{Value}
use Rattle.object_values.specs.declared.value.Value.TheVariants as v
use Rattle.object_values.specs.declared.object.Owner.{Owner}
use Rattle.pl_code.specs.declared.code.FunCode.{FunCode}
use Rattle.pl_code.specs.declared.code.Instruction.{Instruction}
use Rattle.run_state.specs.World.{Limits, Arose, End, Limited, has_loop_limit}
use Rattle.source_meaning.specs.Meaning.{State, Env, Place, Out, Done, Thrown, Over, More, bind, leave, choose}
use Rattle.code_meaning.specs.declared.word.Word.{Word}
use Rattle.code_meaning.specs.Machine.{Codes, code_in, Frame, Config, Next, Goes, Ends, Handlers, traps_of, lands, unwind, act, acts, lines_of, step, after, depth_of, on_top, on_int, unless_zero, pushed}
use Rattle.compiler_relation.specs.Representation.{Representation, Unboxed, Boxed, Absent, low, result_of}
use Rattle.compiler_relation.specs.Stands.{Entry, Scope, At}
use Rattle.compiler_relation.proofs.Locals.{Fits, leaves}

-- where code runs: a function of a text, the frames below, and the casts that are due of what it gives
pub record Ctx (codes : Codes) : Type 0 where
  pub text : Owner
  pub fun : ℕ
  pub body : FunCode
  pub result : Ty
  pub below : List Frame
  pub due : List Ty
  pub is : slice_get (code_in codes text) fun ≡ Some body
  pub loops : body.loops ≡ has_loop_limit text
  pub gives : body.result ≡ result_of result

module _ (codes : Codes) (limits : Limits) where
  pub record Leads (from : Next) (r : End (Option Word)) : Type 0 where
    pub steps : ℕ
    pub reaches : after codes limits steps from ≡ Ends r

  pub ended : (r : End (Option Word)) → Leads (Ends r) r
  ended r = record { steps = 0; reaches = refl }

  goes : (c : Config) (r : End (Option Word)) → Leads (step codes limits c) r → Leads (Goes c) r
  goes c r d = record { steps = suc d.steps; reaches = d.reaches }

  came : (c : Config) (r : End (Option Word)) (k : ℕ) → after codes limits k (Goes c) ≡ Ends r → Leads (step codes limits c) r
  came c r zero e = cc
  came c r (suc k) e = record { steps = k; reaches = e }

  -- back over one step
  went : (c : Config) (r : End (Option Word)) → Leads (Goes c) r → Leads (step codes limits c) r
  went c r d = came c r d.steps d.reaches

  -- a place in the code
  abbrev pub frame : Ctx codes → ℕ → List Word → List Word → State → Frame
  frame c line l st s = record { text = c.text; fun = c.fun; line = line; locals = l; stack = st; turns = s.turns; due = c.due }

  abbrev pub at : Ctx codes → ℕ → List Word → List Word → State → Next
  at c line l st s = Goes (record { top = frame c line l st s; below = c.below; world = s.world })

  abbrev pub place : Ctx codes → Place
  place c = record { text = c.text; depth = depth_of c.below }

  -- one instruction
  pub does_next : (c : Ctx codes) (h : Handlers) (line : ℕ) (i : Instruction) (l st : List Word) (s : State) (r : End (Option Word)) → At c.body h line i
      → Leads (act codes limits i (frame c line l st s) c.below s.world) r → Leads (at c line l st s) r
  does_next c h line i l st s r a d =
      let fetch : slice_get (lines_of codes limits (slice_get (code_in codes c.text) c.fun)) line ≡ Some i = ap (λ o. slice_get (lines_of codes limits o) line) c.is ∙ a.here in
      let same : step codes limits (record { top = frame c line l st s; below = c.below; world = s.world }) ≡ act codes limits i (frame c line l st s) c.below s.world =
      ap (λ o. acts codes limits o (frame c line l st s) c.below s.world) fetch in
      goes _ r (record { steps = d.steps; reaches = ap (after codes limits d.steps) same ∙ d.reaches })

  did_next : (c : Ctx codes) (h : Handlers) (line : ℕ) (i : Instruction) (l st : List Word) (s : State) (r : End (Option Word)) → At c.body h line i
      → Leads (at c line l st s) r → Leads (act codes limits i (frame c line l st s) c.below s.world) r
  did_next c h line i l st s r a d =
      let fetch : slice_get (lines_of codes limits (slice_get (code_in codes c.text) c.fun)) line ≡ Some i = ap (λ o. slice_get (lines_of codes limits o) line) c.is ∙ a.here in
      let same : step codes limits (record { top = frame c line l st s; below = c.below; world = s.world }) ≡ act codes limits i (frame c line l st s) c.below s.world =
      ap (λ o. acts codes limits o (frame c line l st s) c.below s.world) fetch in
      let back = went _ r d in
      record { steps = back.steps; reaches = ap (after codes limits back.steps) (sym same) ∙ back.reaches }

  -- an exception under these handlers, and where it arose
  abbrev pub thrown : Ctx codes → Handlers → ℕ → Arose → State → List Word → Next
  thrown c h id arose s l = lands h c.text c.fun l s.turns c.due c.below id arose s.world (unwind codes c.below id arose s.world)

  pub throws : (c : Ctx codes) (h : Handlers) (line : ℕ) (i : Instruction) (l st : List Word) (id : ℕ) (arose : Arose) (s : State) (r : End (Option Word)) → At c.body h line i
      → Leads (thrown c h id arose s l) r → Leads (unwind codes (frame c line l st s ∷ c.below) id arose s.world) r
  throws c h line i l st id arose s r a d =
      let trap : traps_of (slice_get (code_in codes c.text) c.fun) line ≡ h = ap (λ o. traps_of o line) c.is ∙ a.traps in
      let same : unwind codes (frame c line l st s ∷ c.below) id arose s.world ≡ thrown c h id arose s l =
      ap (λ o. lands o c.text c.fun l s.turns c.due c.below id arose s.world (unwind codes c.below id arose s.world)) trap in
      record { steps = d.steps; reaches = ap (after codes limits d.steps) same ∙ d.reaches }

  -- what happened, and where that leads
  abbrev pub Follows : {A : Type 0} → Ctx codes → Handlers → Scope → (A → State → List Word → Next) → (A → Type 0) → Next → Out A → Type 0
  Follows c h g land good n (Done a s e) = (r : End (Option Word)) → ((l : List Word) → Fits c.body g e l → good a → Leads (land a s l) r) → Leads n r
  Follows c h g land good n (Thrown id arose s e) = (r : End (Option Word)) → ((l : List Word) → Fits c.body g e l → Leads (thrown c h id arose s l) r) → Leads n r
  Follows c h g land good n (Over limit arose w) = Leads n (Limited limit arose w)
  Follows c h g land good n More = Unit {0}

  pub record Sim {A : Type 0} (c : Ctx codes) (h : Handlers) (g : Scope) (land : A → State → List Word → Next) (good : A → Type 0) (n : Next) (o : Out A) : Type 0 where
    pub by : Follows c h g land good n o

  -- what a family of places does, a place that leads to one of them does
  pub through : {A : Type 0} (c : Ctx codes) (h : Handlers) (g : Scope) (land : A → State → List Word → Next) (good : A → Type 0) (n : Next) (P : List Word → Type 0) (n' : List Word → Next) (o : Out A)
      → ((r : End (Option Word)) → ((l : List Word) → P l → Leads (n' l) r) → Leads n r) → ((l : List Word) → P l → Follows c h g land good (n' l) o) → Follows c h g land good n o
  through c h g land good n P n' (Done a s e) f d = λ r k. f r (λ l p. d l p r k)
  through c h g land good n P n' (Thrown id arose s e) f d = λ r k. f r (λ l p. d l p r k)
  through c h g land good n P n' (Over limit arose w) f d = f _ d
  through c h g land good n P n' More f d = tt

  pub via : {A : Type 0} {c : Ctx codes} {h : Handlers} {g : Scope} {land : A → State → List Word → Next} {good : A → Type 0} {n n' : Next} {o : Out A}
      → ((r : End (Option Word)) → Leads n' r → Leads n r) → Sim c h g land good n' o → Sim c h g land good n o
  via {c = c} {h = h} {g = g} {land = land} {good = good} {n = n} {n' = n'} {o = o} f d =
      record { by = through c h g land good n (λ l. Unit {0}) (λ l. n') o (λ r k. f r (k [] tt)) (λ l p. d.by) }

  -- one after the other
  bind_follows : {A B : Type 0} (c : Ctx codes) (h : Handlers) (g : Scope) (land : A → State → List Word → Next) (good : A → Type 0) (land' : B → State → List Word → Next) (good' : B → Type 0) (n : Next) (o : Out A) (k : A → State → Env → Out B)
      → Follows c h g land good n o → ((a : A) (s : State) (e : Env) (l : List Word) → Fits c.body g e l → good a → Sim c h g land' good' (land a s l) (k a s e)) → Follows c h g land' good' n (bind o k)
  bind_follows c h g land good land' good' n (Done a s e) k d f =
      through c h g land' good' n (λ l. Fits c.body g e l × good a) (land a s) (k a s e) (λ r q. d r (λ l x y. q l (x, y))) (λ l p. (f a s e l p.0 p.1).by)
  bind_follows c h g land good land' good' n (Thrown id arose s e) k d f = d
  bind_follows c h g land good land' good' n (Over limit arose w) k d f = d
  bind_follows c h g land good land' good' n More k d f = d

  pub and_then : {A B : Type 0} {c : Ctx codes} {h : Handlers} {g : Scope} {land : A → State → List Word → Next} {good : A → Type 0} {land' : B → State → List Word → Next} {good' : B → Type 0} {n : Next} {o : Out A} {k : A → State → Env → Out B}
      → Sim c h g land good n o → ((a : A) (s : State) (e : Env) (l : List Word) → Fits c.body g e l → good a → Sim c h g land' good' (land a s l) (k a s e)) → Sim c h g land' good' n (bind o k)
  and_then {c = c} {h = h} {g = g} {land = land} {good = good} {land' = land'} {good' = good'} {n = n} {o = o} {k = k} d f =
      record { by = bind_follows c h g land good land' good' n o k d.by f }

  -- there already
  pub done : {A : Type 0} {c : Ctx codes} {h : Handlers} {g : Scope} {land : A → State → List Word → Next} {good : A → Type 0} {a : A} {s : State} {e : Env} {l : List Word}
      → Fits c.body g e l → good a → Sim c h g land good (land a s l) (Done a s e)
  done {l = l} x y = record { by = λ r k. k l x y }

  -- one instruction, and then the rest
  pub step_to : {A : Type 0} {c : Ctx codes} {h : Handlers} {g : Scope} {land : A → State → List Word → Next} {good : A → Type 0} {o : Out A} {line : ℕ} {i : Instruction} (l st : List Word) (s : State)
      → At c.body h line i → Sim c h g land good (act codes limits i (frame c line l st s) c.below s.world) o → Sim c h g land good (at c line l st s) o
  step_to {c = c} {h = h} {line = line} {i = i} l st s a d = via (λ r. does_next c h line i l st s r a) d

  pub step_back : {A : Type 0} {c : Ctx codes} {h : Handlers} {g : Scope} {land : A → State → List Word → Next} {good : A → Type 0} {o : Out A} {line : ℕ} {i : Instruction} (l st : List Word) (s : State)
      → At c.body h line i → Sim c h g land good (at c line l st s) o → Sim c h g land good (act codes limits i (frame c line l st s) c.below s.world) o
  step_back {c = c} {h = h} {line = line} {i = i} l st s a d = via (λ r. did_next c h line i l st s r a) d

  -- the landing is moved on
  moved : {A : Type 0} (c : Ctx codes) (h : Handlers) (g : Scope) (land land' : A → State → List Word → Next) (good good' : A → Type 0) (n : Next) (o : Out A)
      → ((a : A) (s : State) (l : List Word) (r : End (Option Word)) → good a → Leads (land' a s l) r → Leads (land a s l) r) → ((a : A) → good a → good' a) → Follows c h g land good n o → Follows c h g land' good' n o
  moved c h g land land' good good' n (Done a s e) f q d = λ r k. d r (λ l x y. f a s l r y (k l x (q a y)))
  moved c h g land land' good good' n (Thrown id arose s e) f q d = d
  moved c h g land land' good good' n (Over limit arose w) f q d = d
  moved c h g land land' good good' n More f q d = d

  pub lands_on : {A : Type 0} {c : Ctx codes} {h : Handlers} {g : Scope} {land land' : A → State → List Word → Next} {good good' : A → Type 0} {n : Next} {o : Out A}
      → ((a : A) (s : State) (l : List Word) (r : End (Option Word)) → good a → Leads (land' a s l) r → Leads (land a s l) r) → ((a : A) → good a → good' a) → Sim c h g land good n o → Sim c h g land' good' n o
  lands_on {c = c} {h = h} {g = g} {land = land} {land' = land'} {good = good} {good' = good'} {n = n} {o = o} f q d =
      record { by = moved c h g land land' good good' n o f q d.by }

  -- a scope ends
  left : {A : Type 0} (c : Ctx codes) (h : Handlers) (g : Scope) (y : Entry) (land : A → State → List Word → Next) (good : A → Type 0) (n : Next) (o : Out A)
      → Follows c h (y ∷ g) land good n o → Follows c h g land good n (leave o)
  left c h g y land good n (Done a s e) d = λ r k. d r (λ l f x. k l (leaves c.body g y e l f) x)
  left c h g y land good n (Thrown id arose s e) d = λ r k. d r (λ l f. k l (leaves c.body g y e l f))
  left c h g y land good n (Over limit arose w) d = d
  left c h g y land good n More d = d

  pub leaving : {A : Type 0} {c : Ctx codes} {h : Handlers} {g : Scope} (y : Entry) {land : A → State → List Word → Next} {good : A → Type 0} {n : Next} {o : Out A}
      → Sim c h (y ∷ g) land good n o → Sim c h g land good n (leave o)
  leaving {c = c} {h = h} {g = g} y {land = land} {good = good} {n = n} {o = o} d = record { by = left c h g y land good n o d.by }

  -- a test, whose value lies on the stack
  pub tested : {A : Type 0} {c : Ctx codes} {h : Handlers} {g : Scope} {land : A → State → List Word → Next} {good : A → Type 0} (value : Value) (k : Representation) (st : List Word) (first second : List Word → Next) {o o' : Out A} → k ≡ Unboxed
      → Sim c h g land good (first st) o → Sim c h g land good (second st) o'
      → Sim c h g land good (on_top (pushed (low k value) st) (λ word stack. on_int word (λ a. unless_zero a (first stack) (second stack)))) (choose value o o')
  tested (v.Bool true) Unboxed st first second is d d' = d
  tested (v.Bool false) Unboxed st first second is d d' = d'
  tested v.Null k st first second is d d' = record { by = tt }
  tested (v.Byte a) k st first second is d d' = record { by = tt }
  tested (v.Short a) k st first second is d d' = record { by = tt }
  tested (v.Char a) k st first second is d d' = record { by = tt }
  tested (v.Int a) k st first second is d d' = record { by = tt }
  tested (v.Long a) k st first second is d d' = record { by = tt }
  tested (v.Str a) k st first second is d d' = record { by = tt }
  tested (v.Ref a) k st first second is d d' = record { by = tt }
  tested (v.Bool a) Boxed st first second is d d' = cc
  tested (v.Bool a) Absent st first second is d d' = cc
