-- Calls of functions.
use Rattle.std.proofs.Common.{◌≡◌, ◌≢◌, ℕ, suc, ◌+◌, ◌≤◌, Bool, true, false, List, [], ◌∷◌, ◌++◌, map, length, Option, Some, None, refl, sym, ap, ◌∙◌, subst, arith, append_assoc, append-nil, length-append}
use Rattle.std.proofs.lemmas.List.{length-map}
use Rattle.std.specs.Prelude.{slice_get}
use Rattle.pl_types.specs.declared.primitive.Primitive.{Primitive}
use Rattle.pl_types.specs.declared.primitive.Primitive.TheVariants as prim
use Rattle.pl_types.specs.declared.ty.Ty.{Ty, out-Ty}
use Rattle.pl_types.specs.declared.ty.Ty.TheOpen.{Ty-F}
use Rattle.object_values.specs.declared.object.Owner.{Owner}
use Rattle.object_values.specs.declared.object.Owner.TheVariants.{Script, Prelude}
use Rattle.object_values.specs.declared.value.Value.{Value}
use Rattle.pl_code.specs.declared.kinds.Plain.TheVariants as plain
use Rattle.pl_code.specs.declared.kinds.Slot.{Slot}
use Rattle.pl_code.specs.declared.code.FunCode.{FunCode}
use Rattle.pl_code.specs.declared.code.Instruction.{Instruction}
use Rattle.pl_code.specs.declared.code.Instruction.TheVariants as i
use Rattle.run_state.specs.World.{Limits, End, Counted, Counts, Passes}
use Rattle.source_meaning.specs.Tree.{Variable, Fun, Program, Programs, functions_in}
use Rattle.source_meaning.specs.Meaning.{State, Env, Out, Done, Thrown, Over, More, Flow, Normal, Broke, Continued, Returned, Meaning, entry, default_of, back, entered, called}
use Rattle.source_meaning.specs.Types.{default_of_layer}
use Rattle.source_meaning.proofs.Due.{DueOf}
use Rattle.code_meaning.specs.declared.word.Word.{Word}
use Rattle.code_meaning.specs.declared.word.Word.TheVariants.{R}
use Rattle.code_meaning.specs.Words.{unboxed, start_of}
use Rattle.code_meaning.specs.Machine.{Codes, code_in, Handlers, Next, on_words, on_function, on_enter, cast_due, returns, returns_of, gives_back, take_words, pushed}
use Rattle.compiler_relation.specs.Representation.{Representation, Unboxed, Boxed, Absent, representation_of, representation_of_layer, low, kind_of, result_of_layer}
use Rattle.compiler_relation.specs.Parts.{default_code, default_code_layer}
use Rattle.compiler_relation.specs.Stands.{Scope, At, AllAt, end_all, falls, all_fall, any_continues, end_stmts, scope_of, no_jumps, ArePresent, representations_of, EndAt, FunAt, Compiled, AreCompiled}
use Rattle.compiler_relation.proofs.Locals.{Agrees, Under, Falling, Fits, under_more}
use Rattle.compiler_relation.proofs.Follows.{Ctx, Leads, ended, frame, at, place, and_then, does_next, throws, Follows, Sim}
use Rattle.compiler_relation.proofs.Refines.{push, Any, Good, land_value, land_flow, Refines}
use Rattle.compiler_relation.proofs.Nodes.Due.{due_representation, due_runs}

-- ---- words of arguments

-- the word of a value, however it is represented
abbrev pub word_at : Representation → Value → Word
word_at Unboxed value = unboxed value
word_at Boxed value = R value
word_at Absent value = R value

abbrev pub words_at : List Representation → List Value → List Word
words_at [] values = []
words_at (k ∷ ks) [] = []
words_at (k ∷ ks) (value ∷ values) = word_at k value ∷ words_at ks values

pub low_is : (k : Representation) (value : Value) → k ≢ Absent → low k value ≡ Some (word_at k value)
low_is Unboxed value some = refl
low_is Boxed value some = refl
low_is Absent value some = absurd (some refl)

abbrev more : List Representation → ℕ → ℕ
more [] n = n
more (k ∷ ks) n = more ks (suc n)

more_is : (ks : List Representation) (n : ℕ) → more ks n ≡ length ks + n
more_is [] n = omega arith
more_is (k ∷ ks) n = let e = more_is ks (suc n) in omega arith

takes : (ks : List Representation) (values : List Value) (n : ℕ) (st taken : List Word) → ArePresent ks → length ks ≡ length values
    → take_words (more ks n) (push ks values st) taken ≡ take_words n st (words_at ks values ++ taken)
takes [] values n st taken present same = refl
takes (k ∷ ks) [] n st taken present same = absurd (omega arith)
takes (k ∷ ks) (value ∷ values) n st taken present same =
    ap (λ st. take_words (more ks (suc n)) (push ks values st) taken) (ap (λ o. pushed o st) (low_is k value present.0))
    ∙ takes ks values (suc n) (word_at k value ∷ st) taken present.1 (omega arith)

-- arguments come off the stack again
pub off : (n : ℕ) (ks : List Representation) (values : List Value) (st : List Word) → n ≡ length ks → ArePresent ks → length ks ≡ length values → take_words n (push ks values st) [] ≡ Some (words_at ks values, st)
off n ks values st is present same =
    let counted : n ≡ more ks 0 = omega (arith, more_is ks 0) in
    ap (λ n. take_words n (push ks values st) []) counted ∙ takes ks values 0 st [] present same ∙ ap (λ words. Some (words, st)) (append-nil (words_at ks values))

pub words_count : (ks : List Representation) (values : List Value) → length ks ≡ length values → length (words_at ks values) ≡ length ks
words_count [] values same = refl
words_count (k ∷ ks) [] same = absurd (omega arith)
words_count (k ∷ ks) (value ∷ values) same = ap suc (words_count ks values (omega arith))

-- ---- what a function begins with

at_seam : (pre : List Word) (word : Word) (rest : List Word) → slice_get (pre ++ word ∷ rest) (length pre) ≡ Some word
at_seam [] word rest = refl
at_seam (x ∷ pre) word rest = at_seam pre word rest

pub entry_count : (xs : List Variable) (values : List Value) (e args : Env) → entry xs values e ≡ Some args → length xs ≡ length values
entry_count [] [] e args q = refl
entry_count [] (value ∷ values) e args q = cc
entry_count (x ∷ xs) [] e args q = cc
entry_count (x ∷ xs) (value ∷ values) e args q = ap suc (entry_count xs values _ args q)

pub entry_agrees : (xs : List Variable) (values : List Value) (e args : Env) (g : Scope) (n : ℕ) (l pre rest : List Word) → entry xs values e ≡ Some args → ArePresent (representations_of xs)
    → l ≡ pre ++ (words_at (representations_of xs) values ++ rest) → length pre ≡ n → Agrees g e l → Agrees (scope_of xs n g) args l
entry_agrees [] [] e args g n l pre rest q present is size a = let same : e ≡ args = cc in subst (λ e. Agrees g e l) same a
entry_agrees [] (value ∷ values) e args g n l pre rest q present is size a = cc
entry_agrees (x ∷ xs) [] e args g n l pre rest q present is size a = cc
entry_agrees (x ∷ xs) (value ∷ values) e args g n l pre rest q present is size a =
    let word = word_at (representation_of x.of) value in
    let others = words_at (representations_of xs) values ++ rest in
    let here : slice_get l n ≡ low (representation_of x.of) value =
    ap (slice_get l) (sym size) ∙ ap (λ l. slice_get l (length pre)) is ∙ at_seam pre word others ∙ sym (low_is (representation_of x.of) value present.0) in
    let longer : length (pre ++ word ∷ []) ≡ suc n = omega (arith, length-append pre (word ∷ []), size) in
    entry_agrees xs values (record { name = x.name; value = value } ∷ e) args (record { name = x.name; of = x.of; local = n } ∷ g) (suc n) l (pre ++ word ∷ []) rest q present.1
    (is ∙ sym (append_assoc pre (word ∷ []) others)) longer (refl, present.0, here, a)

suc_less : (n k : ℕ) → suc n + k ≤ n + suc k
suc_less n k = omega arith

pub scope_order : (xs : List Variable) (n : ℕ) (g : Scope) → Under n g → Falling g → Falling (scope_of xs n g) × Under (n + length xs) (scope_of xs n g)
scope_order [] n g under order = (order, under_more n (n + 0) g (omega arith) under)
scope_order (x ∷ xs) n g under order =
    let next : Under (suc n) (record { name = x.name; of = x.of; local = n } ∷ g) = (omega arith, under_more n (suc n) g (omega arith) under) in
    let rest = scope_order xs (suc n) (record { name = x.name; of = x.of; local = n } ∷ g) next (under, order) in
    (rest.0, under_more (suc n + length xs) (n + length (x ∷ xs)) (scope_of (x ∷ xs) n g) (suc_less n (length xs)) rest.1)

-- code of a function has as many parameters
pub as_many : (text : Owner) (funs : Program) (code : List FunCode) (number : ℕ) (fun : Fun) (fa : FunAt text funs code number fun) → length fa.body.params ≡ length fun.params
as_many text funs code number fun fa = ap length fa.params ∙ length-map fun.params (λ (x : Variable). kind_of x.of)

-- the locals of a call fit the callee's parameters
pub starts_fitting : (body : FunCode) (f : Fun) (values : List Value) (args : Env) → entry f.params values [] ≡ Some args → ArePresent (representations_of f.params) → length body.params ≡ length f.params
    → Fits body (scope_of f.params 0 []) args (words_at (representations_of f.params) values ++ map start_of body.locals)
starts_fitting body f values args q present params =
    let words = words_at (representations_of f.params) values in
    let rest = map start_of body.locals in
    let count : length (representations_of f.params) ≡ length values = length-map f.params (λ (x : Variable). representation_of x.of) ∙ entry_count f.params values [] args q in
    let size : length (words ++ rest) ≡ length body.params + length body.locals =
    omega (arith, length-append words rest, words_count (representations_of f.params) values count, length-map f.params (λ (x : Variable). representation_of x.of), length-map body.locals start_of, params) in
    let order = scope_order f.params 0 [] tt tt in
    record {
      names = entry_agrees f.params values [] args [] 0 (words ++ rest) [] rest q present refl refl tt;
      size = size;
      order = order.0;
      within = under_more (0 + length f.params) (length (words ++ rest)) (scope_of f.params 0 []) (omega (arith, size, params)) order.1;
    }

-- ---- returns

module _ (codes : Codes) (limits : Limits) where
  ret_layer : (y : Ty-F Ty) (value : Value) (result : Option Slot) (next : Option Word → Next) → result ≡ result_of_layer y
      → returns_of codes limits result (pushed (low (representation_of_layer y) value) []) next ≡ next (low (representation_of_layer y) value)
  ret_layer Ty-F.Void value result next is = ap (λ r. returns_of codes limits r [] next) is
  ret_layer Ty-F.Null value result next is = ap (λ r. returns_of codes limits r (R value ∷ []) next) is
  ret_layer Ty-F.Def value result next is = ap (λ r. returns_of codes limits r (R value ∷ []) next) is
  ret_layer (Ty-F.Prim p) value result next is = ap (λ r. returns_of codes limits r (unboxed value ∷ []) next) is
  ret_layer (Ty-F.Class class) value result next is = ap (λ r. returns_of codes limits r (R value ∷ []) next) is
  ret_layer (Ty-F.Array elem) value result next is = ap (λ r. returns_of codes limits r (R value ∷ []) next) is

  -- a function returns what is represented on its stack as its result is
  pub returns_value : (c : Ctx codes) (h : Handlers) (q : ℕ) (value : Value) (l : List Word) (s : State) (r : End (Option Word)) → At c.body h q (i.Plain plain.Ret)
      → Leads codes limits (gives_back codes limits c.below c.due (low (representation_of c.result) value) s.world) r
      → Leads codes limits (at codes limits c q l (pushed (low (representation_of c.result) value) []) s) r
  returns_value c h q value l s r a d =
      let next = λ (result : Option Word). gives_back codes limits c.below c.due result s.world in
      let st = pushed (low (representation_of c.result) value) [] in
      let same : returns codes limits (slice_get (code_in codes c.text) c.fun) st next ≡ next (low (representation_of c.result) value) =
      ap (λ o. returns codes limits o st next) c.is ∙ ret_layer (out-Ty c.result) value c.body.result next c.gives in
      does_next codes limits c h q (i.Plain plain.Ret) l st s r a (record { steps = d.steps; reaches = ap (Rattle.code_meaning.specs.Machine.after codes limits d.steps) same ∙ d.reaches })

  default_primitive : (p : Primitive) (c : Ctx codes) (h : Handlers) (q : ℕ) (l st : List Word) (s : State) (r : End (Option Word)) → At c.body h q (Rattle.compiler_relation.specs.Parts.default_of_primitive p)
      → Leads codes limits (at codes limits c (suc q) l (unboxed (Rattle.source_meaning.specs.Types.default_of_primitive p) ∷ st) s) r → Leads codes limits (at codes limits c q l st s) r
  default_primitive prim.Boolean c h q l st s r a d = does_next codes limits c h q _ l st s r a d
  default_primitive prim.Byte c h q l st s r a d = does_next codes limits c h q _ l st s r a d
  default_primitive prim.Short c h q l st s r a d = does_next codes limits c h q _ l st s r a d
  default_primitive prim.Char c h q l st s r a d = does_next codes limits c h q _ l st s r a d
  default_primitive prim.Int c h q l st s r a d = does_next codes limits c h q _ l st s r a d
  default_primitive prim.Long c h q l st s r a d = does_next codes limits c h q _ l st s r a d

  default_layer : (y : Ty-F Ty) (c : Ctx codes) (h : Handlers) (q : ℕ) (l st : List Word) (s : State) (r : End (Option Word)) → AllAt c.body h q (default_code_layer y)
      → Leads codes limits (at codes limits c (end_all q (default_code_layer y)) l (pushed (low (representation_of_layer y) (default_of_layer y)) st) s) r → Leads codes limits (at codes limits c q l st s) r
  default_layer Ty-F.Void c h q l st s r a d = d
  default_layer Ty-F.Null c h q l st s r a d = does_next codes limits c h q _ l st s r a.0 d
  default_layer Ty-F.Def c h q l st s r a d = does_next codes limits c h q _ l st s r a.0 d
  default_layer (Ty-F.Prim p) c h q l st s r a d = default_primitive p c h q l st s r a.0 d
  default_layer (Ty-F.Class class) c h q l st s r a d = does_next codes limits c h q _ l st s r a.0 d
  default_layer (Ty-F.Array elem) c h q l st s r a d = does_next codes limits c h q _ l st s r a.0 d

  -- a type's default
  pub default_runs : (of : Ty) (c : Ctx codes) (h : Handlers) (q : ℕ) (l st : List Word) (s : State) (r : End (Option Word)) → AllAt c.body h q (default_code of)
      → Leads codes limits (at codes limits c (end_all q (default_code of)) l (pushed (low (representation_of of) (default_of of)) st) s) r → Leads codes limits (at codes limits c q l st s) r
  default_runs of c h q l st s r a d = default_layer (out-Ty of) c h q l st s r a d

  -- the end of a function
  pub function_ends : (c : Ctx codes) (falling : Bool) (q : ℕ) (l : List Word) (s : State) (r : End (Option Word)) → EndAt c.body falling q c.result → falling ≡ true
      → Leads codes limits (gives_back codes limits c.below c.due (low (representation_of c.result) (default_of c.result)) s.world) r → Leads codes limits (at codes limits c q l [] s) r
  function_ends c true q l s r a falls d = default_runs c.result c [] q l [] s r a.0 (returns_value c [] (end_all q (default_code c.result)) (default_of c.result) l s r a.1 d)
  function_ends c false q l s r a falls d = cc

-- the code of whichever text
pub in_text : (funs : Programs) (codes : Codes) → AreCompiled funs codes → (text : Owner) → Compiled text (functions_in funs text) (code_in codes text)
in_text funs codes made Script = made.script
in_text funs codes made Prelude = made.prelude

-- what the callee gives, seen from the caller
module _ (funs : Programs) (codes : Codes) (limits : Limits) (c : Ctx codes) (h : Handlers) (g g' : Scope) (q : ℕ) (text : Owner) (number : ℕ) (fun : Fun) (fa : FunAt text (functions_in funs text) (code_in codes text) number fun) (due : List Ty) (s : State) (e : Env) (l st : List Word) (call : Instruction) where
  abbrev callee : Ctx codes
  callee = record { text = text; fun = number; body = fa.body; result = fun.result; below = frame codes limits c q l st s ∷ c.below; due = due; is = fa.is; loops = fa.loops; gives = fa.result }

  -- a value in the frame that waits at the call, before the casts that are due
  abbrev returning : Value → State → List Word → Next
  returning value s' l' = cast_due codes limits due (low (representation_of fun.result) value) (frame codes limits c q l' st s') c.below s'.world

  comes_back : At c.body h q call → Fits c.body g e l → (n : Next) (o : Out Flow)
      → Follows codes limits callee [] g' (land_flow funs codes limits callee no_jumps (end_stmts 0 fun.body)) (Good (all_fall fun.body) (any_continues fun.body)) n o
      → Follows codes limits c h g returning Any n (back fun.result o s.turns e)
  comes_back a f n (Done Normal s' e') d = λ r j. d r (λ l' f' falls. function_ends codes limits callee (all_fall fun.body) (end_stmts 0 fun.body) l' s' r fa.ends falls (j l f tt))
  comes_back a f n (Done Broke s' e') d = tt
  comes_back a f n (Done Continued s' e') d = tt
  comes_back a f n (Done (Returned value) s' e') d = λ r j. d r (λ l' f' y. j l f tt)
  comes_back a f n (Thrown id arose s' e') d = λ r j. d r (λ l' f'. throws codes limits c h q call l st id arose (record { world = s'.world; turns = s.turns }) r a (j l f))
  comes_back a f n (Over limit arose w) d = d
  comes_back a f n More d = tt

module _ (funs : Programs) (codes : Codes) (limits : Limits) (m : Meaning) (ih : Refines funs codes limits m) where
  -- the tick, the depth, the body, and the casts that are due
  entered_runs : (c : Ctx codes) (h : Handlers) (g : Scope) (q : ℕ) (text : Owner) (number : ℕ) (call : Instruction) (due : List Ty) (s : State) (e : Env) (l st st' : List Word) (values : List Value)
      → At c.body h q call → Fits c.body g e l
      → (f : Fun) (fa : FunAt text (functions_in funs text) (code_in codes text) number f) → DueOf f.result due → (args : Env) → entry f.params values [] ≡ Some args → (t : Counted)
      → Sim codes limits c h g (land_value funs codes limits c (due_representation f.result due) (suc q) st) Any
      (on_enter codes limits t text number fa.body due (frame codes limits c q l st' s) c.below s.world (words_at (representations_of f.params) values) st)
      (entered funs limits m t text due (place codes limits c) s e f.result f.body (Some args))
  entered_runs c h g q text number call due s e l st st' values a x f fa dues args qe (Passes limit w') = record { by = ended codes limits _ }
  entered_runs c h g q text number call due s e l st st' values a x f fa dues args qe (Counts w) =
      let locals = words_at (representations_of f.params) values ++ map start_of fa.body.locals in
      let scope = scope_of f.params 0 [] in
      let inner = callee funs codes limits c h g scope q text number f fa due s e l st call in
      let fits = starts_fitting fa.body f values args qe fa.present (as_many text (functions_in funs text) (code_in codes text) number f fa) in
      let under : Under (length f.params) scope = under_more (0 + length f.params) (length f.params) scope (omega arith) (scope_order f.params 0 [] tt tt).1 in
      let body = ih.stmts f.body inner [] scope (length f.params) no_jumps 0 (record { world = w; turns = 0 }) args locals fa.stands under fits in
      let gives : Sim codes limits c h g (returning funs codes limits c h g scope q text number f fa due s e l st call) Any (at codes limits inner 0 locals [] (record { world = w; turns = 0 }))
      (back f.result (m.stmts (place codes limits inner) (record { world = w; turns = 0 }) args f.body) s.turns e) =
      record { by = comes_back funs codes limits c h g scope q text number f fa due s e l st call a x _ _ body.by } in
      and_then codes limits gives (λ value s e l f' _. due_runs funs codes limits c h g q call e l st a f' f.result due dues value s)

  -- a call of a function of a text, whose values lie on the stack
  pub called_runs : AreCompiled funs codes → (c : Ctx codes) (h : Handlers) (g : Scope) (q : ℕ) (text : Owner) (number : ℕ) (call : Instruction) (due : List Ty) (k : Representation) (ks : List Representation) (s : State) (e : Env)
      (l st : List Word) (values : List Value) → At c.body h q call → Fits c.body g e l → length ks ≡ length values → (t : Counted) (o : Option Fun) → slice_get (functions_in funs text) number ≡ o
      → ((f : Fun) → o ≡ Some f → (ks ≡ representations_of f.params) × (k ≡ due_representation f.result due) × DueOf f.result due)
      → Sim codes limits c h g (land_value funs codes limits c k (suc q) st) Any
      (on_function codes limits (slice_get (code_in codes text) number) t text number due (frame codes limits c q l (push ks values st) s) c.below s.world) (called funs limits m o t text due (place codes limits c) s e values)
  called_runs made c h g q text number call due k ks s e l st values a x count t None qf fitting = record { by = tt }
  called_runs made c h g q text number call due k ks s e l st values a x count t (Some f) qf fitting = tried (entry f.params values []) refl
    where
      fa : FunAt text (functions_in funs text) (code_in codes text) number f
      fa = (in_text funs codes made text).each number f qf

      tried : (o : Option Env) → entry f.params values [] ≡ o
          → Sim codes limits c h g (land_value funs codes limits c k (suc q) st) Any
          (on_function codes limits (slice_get (code_in codes text) number) t text number due (frame codes limits c q l (push ks values st) s) c.below s.world) (entered funs limits m t text due (place codes limits c) s e f.result f.body o)
      tried None qe = record { by = tt }
      tried (Some args) qe =
          let same = fitting f refl in
          let caller = frame codes limits c q l (push ks values st) s in
          let present : ArePresent ks = subst ArePresent (sym same.0) fa.present in
          let n : length fa.body.params ≡ length ks = as_many text (functions_in funs text) (code_in codes text) number f fa ∙ sym (length-map f.params (λ (x : Variable). representation_of x.of)) ∙ ap length (sym same.0) in
          let fetched : on_function codes limits (slice_get (code_in codes text) number) t text number due caller c.below s.world ≡ on_enter codes limits t text number fa.body due caller c.below s.world (words_at (representations_of f.params) values) st =
          ap (λ o. on_function codes limits o t text number due caller c.below s.world) fa.is
          ∙ ap (λ o. on_words o (λ args stack. on_enter codes limits t text number fa.body due caller c.below s.world args stack)) (off (length fa.body.params) ks values st n present count)
          ∙ ap (λ ks. on_enter codes limits t text number fa.body due caller c.below s.world (words_at ks values) st) same.0 in
          subst (λ n. Sim codes limits c h g (land_value funs codes limits c k (suc q) st) Any n (entered funs limits m t text due (place codes limits c) s e f.result f.body (Some args))) (sym fetched)
          (subst (λ k. Sim codes limits c h g (land_value funs codes limits c k (suc q) st) Any (on_enter codes limits t text number fa.body due caller c.below s.world (words_at (representations_of f.params) values) st) (entered funs limits m t text due (place codes limits c) s e f.result f.body (Some args)))
          (sym same.1) (entered_runs c h g q text number call due s e l st (push ks values st) values a x f fa same.2 args qe t))
