-- Members: the instruction of a call does what the member does.
use Rattle.std.proofs.Common.{◌≡◌, ◌≢◌, ℕ, zero, suc, ◌&&◌, Bool, true, false, List, [], ◌∷◌, map, length, Option, Some, None, refl, sym, ap, ◌∙◌, subst, arith}
use Rattle.std.specs.Prelude.{slice_get}
use Rattle.std.specs.List.{list_all}
use Rattle.std.proofs.lemmas.List.{length-map}
use Rattle.std.proofs.lemmas.Option.{get_or_from_slice_get}
use Rattle.pl_types.specs.declared.ty.Ty as ty
use Rattle.pl_types.specs.declared.ty.Ty.{Ty, out-Ty}
use Rattle.pl_types.specs.declared.ty.Ty.TheOpen.{Ty-F}
use Rattle.allowlist.specs.declared.member.MemberKind.{MemberKind}
use Rattle.allowlist.specs.declared.member.MemberKind.TheVariants as kind
use Rattle.allowlist.specs.declared.member.MemberType.{MemberType}
use Rattle.allowlist.specs.Allow.{flag}
use Rattle.allowlist.specs.Catalogue.{catalogue, constructor}
use Rattle.allowlist.specs.Index.{member_at, member_in}
use Rattle.member_names.specs.Names.{text_of, named_by, TextsName}
use Rattle.source_meaning.specs.MemberCallsMembers.{does}
use Rattle.object_values.specs.declared.value.Value.{Value}
use Rattle.object_values.specs.declared.value.Value.TheVariants as v
use Rattle.object_heap.specs.Effects.{Effect}
use Rattle.number_ops.specs.Outcomes as outcomes
use Rattle.pl_code.specs.declared.code.Instruction.{Instruction}
use Rattle.typed_tree.specs.declared.operation.Member.{Member}
use Rattle.run_state.specs.Calls.{suits_member, wrong_class}
use Rattle.run_state.specs.World.{Limits, not_told, Outcome, Given, Raised, Full, acts_in, Counted, Counts, Passes, allowed_in, pay_member}
use Rattle.source_meaning.specs.Tree.{Programs}
use Rattle.source_meaning.specs.Members as source
use Rattle.source_meaning.specs.Members.{Sending, passed_layer, passed, passed_all, sends, sends_to, sent_by, sent}
use Rattle.source_meaning.specs.Meaning.{State, Env, Out, Meaning, acted, paid, tested, member_called, member_applied, of_member}
use Rattle.source_meaning.specs.Meaning as meaning
use Rattle.code_meaning.specs.declared.word.Word.{Word}
use Rattle.code_meaning.specs.declared.word.Word.TheVariants.{R}
use Rattle.code_meaning.specs.Members as target
use Rattle.code_meaning.specs.Members.{Receiving, taken_layer, taken, taken_all, receives, receives_on, received_by, received, count_by, count_of, given_layer}
use Rattle.code_meaning.specs.Machine.{Codes, Handlers, Next, take_words, on_words, on_outcome, on_act, on_paid, on_tested, on_received, member_act}
use Rattle.compiler_relation.specs.Representation.{Representation, Unboxed, Boxed, Absent, representation_of, representation_of_layer}
use Rattle.compiler_relation.specs.Parts.{without_null}
use Rattle.compiler_relation.specs.Stands.{Scope, At, AllAt, end_all, with_receiver, MemberFits, ArePresent}
use Rattle.compiler_relation.proofs.Locals.{Fits}
use Rattle.compiler_relation.proofs.Follows.{Ctx, place, Sim, frame, ended, done, step_to, throws}
use Rattle.compiler_relation.proofs.Refines.{push, Any, land_value}
use Rattle.compiler_relation.proofs.Nodes.Operands.{outcome_runs}
use Rattle.compiler_relation.proofs.Nodes.Due.{in_boxed}
use Rattle.compiler_relation.proofs.Nodes.Calls.{word_at, words_at, off}

-- ---- the catalogue

first_true : (a b : Bool) → (a && b) ≡ true → a ≡ true
first_true true b h = refl
first_true false b h = cc

second_true : (a b : Bool) → (a && b) ≡ true → b ≡ true
second_true true b h = h
second_true false b h = cc

each_true : {A : Type 0} (p : A → Bool) (xs : List A) (n : ℕ) (x : A) → list_all p xs ≡ true → slice_get xs n ≡ Some x → p x ≡ true
each_true p [] n x h is = cc
each_true p (y ∷ ys) zero x h is = let same : y ≡ x = cc in subst (λ x. p x ≡ true) same (first_true (p y) (list_all p ys) h)
each_true p (y ∷ ys) (suc n) x h is = each_true p ys n x (second_true (p y) (list_all p ys) h) is

abbrev is_present : Representation → Bool
is_present Absent = false
is_present k = true

abbrev all_present : List Ty → Bool
all_present [] = true
all_present (of ∷ ofs) = is_present (representation_of of) && all_present ofs

present_layer : (k : Representation) → is_present k ≡ true → k ≢ Absent
present_layer Unboxed h = λ e. cc
present_layer Boxed h = λ e. cc
present_layer Absent h = λ e. cc

are_present : (params : List Ty) → all_present params ≡ true → ArePresent (map representation_of params)
are_present [] h = tt
are_present (of ∷ ofs) h = (
  present_layer (representation_of of) (first_true (is_present (representation_of of)) (all_present ofs) h),
  are_present ofs
      (second_true (is_present (representation_of of)) (all_present ofs) h),
)

-- no member takes nothing of a type
all_params_present : list_all (λ (m : MemberType). all_present m.params) catalogue ≡ true
unfolding catalogue ty.out-Ty denote.Hole.Carrier.out
all_params_present = refl

pub params_present : (number : ℕ) (t : MemberType) → slice_get catalogue number ≡ Some t → ArePresent (map representation_of t.params)
params_present number t is = are_present t.params (each_true (λ (m : MemberType). all_present m.params) catalogue number t all_params_present is)

stands_at : (number : ℕ) (t : MemberType) → slice_get catalogue number ≡ Some t → member_at number ≡ t
stands_at number t is = get_or_from_slice_get catalogue number t (constructor 0 []) is

-- ---- arguments

pub layer_taken : (y : Ty-F Ty) (value given : Value) → passed_layer y value ≡ Some given → taken_layer y (word_at (representation_of_layer y) value) ≡ Some given
layer_taken Ty-F.Void value given e = e
layer_taken Ty-F.Null value given e = e
layer_taken Ty-F.Def value given e = e
layer_taken (Ty-F.Prim p) value given e = in_boxed p value given e
layer_taken (Ty-F.Class class) value given e = e
layer_taken (Ty-F.Array elem) value given e = e

-- words of arguments are taken as the arguments are passed
all_taken : (params : List Ty) (values given : List Value) → passed_all params values ≡ Some given
    → taken_all params (words_at (map representation_of params) values) ≡ Some given
all_taken [] [] given e = e
all_taken [] (value ∷ values) given e = cc
all_taken (of ∷ ofs) [] given e = cc
all_taken (of ∷ ofs) (value ∷ values) given e = both (all_taken ofs values) (passed of value) (passed_all ofs values) refl refl e
  where
    both : ((given : List Value) → passed_all ofs values ≡ Some given → taken_all ofs (words_at (map representation_of ofs) values) ≡ Some given)
        → (x : Option Value) (xs : Option (List Value)) → passed of value ≡ x → passed_all ofs values ≡ xs → source.before x xs ≡ Some given
        → taken_all (of ∷ ofs) (words_at (map representation_of (of ∷ ofs)) (value ∷ values)) ≡ Some given
    both rest (Some x) (Some xs) p q e =
        let one : taken of (word_at (representation_of of) value) ≡ Some x = layer_taken (out-Ty of) value x p in
        let others : taken_all ofs (words_at (map representation_of ofs) values) ≡ Some xs = rest xs q in
        (λ k. target.before (one k) (others k)) ∙ e
    both rest (Some x) None p q e = cc
    both rest None (Some xs) p q e = cc
    both rest None None p q e = cc

-- the words are those of what is sent
abbrev Alike : Sending → Receiving → Type 0
Alike source.Unsent x = Unit {0}
Alike source.OnNull x = x ≡ target.OnNull
Alike (source.Sends arguments) x = x ≡ target.Receives arguments
Alike source.Reads x = x ≡ target.Reads

called_alike : (params : List Ty) (values : List Value)
    → Alike (sends (passed_all params values)) (receives (taken_all params (words_at (map representation_of params) values)))
called_alike params values = made (passed_all params values) refl
  where
    made : (o : Option (List Value)) → passed_all params values ≡ o
        → Alike (sends o) (receives (taken_all params (words_at (map representation_of params) values)))
    made None e = tt
    made (Some given) e = ap receives (all_taken params values given e)

on_alike : (receiver : Value) (given : List Value) → Alike (sends_to receiver (Some given)) (receives_on (Some receiver) (Some given))
on_alike v.Null given = refl
on_alike (v.Bool a) given = refl
on_alike (v.Byte a) given = refl
on_alike (v.Short a) given = refl
on_alike (v.Char a) given = refl
on_alike (v.Int a) given = refl
on_alike (v.Long a) given = refl
on_alike (v.Str a) given = refl
on_alike (v.Ref a) given = refl

instance_alike : (params : List Ty) (receiver : Value) (values : List Value)
    → Alike (sends_to receiver (passed_all params values)) (receives_on (Some receiver) (taken_all params (words_at (map representation_of params) values)))
instance_alike params receiver values = made (passed_all params values) refl
  where
    made : (o : Option (List Value)) → passed_all params values ≡ o
        → Alike (sends_to receiver o) (receives_on (Some receiver) (taken_all params (words_at (map representation_of params) values)))
    made None e = tt
    made (Some given) e =
        subst (λ o. Alike (sends_to receiver (Some given)) (receives_on (Some receiver) o)) (sym (all_taken params values given e))
        (on_alike receiver given)

boxed_some : Boxed ≢ Absent
boxed_some e = cc

-- ---- results

module _ (funs : Programs) (codes : Codes) (limits : Limits) (c : Ctx codes) (h : Handlers) (g : Scope) where
  -- what a member gives is represented by its type, and null of one that gives nothing is dropped
  abbrev pub Gives : Representation → ℕ → List Word → Next → Out Value → Type 0
  Gives k q st n o = Sim codes limits c h g (land_value funs codes limits c k (end_all (suc q) (without_null k)) st) Any n o

  dropped_runs : (q : ℕ) (i' : Instruction) (s : State) (e : Env) (l st st' : List Word) → At c.body h q i'
      → AllAt c.body h (suc q) (without_null Absent) → Fits c.body g e l → (x : Outcome Value)
      → Gives Absent q st (on_outcome codes limits x (given_layer Ty-F.Void) (frame codes limits c q l st' s) c.below s.world st) (meaning.effect x s e)
  dropped_runs q i' s e l st st' a drops f (Given value w) =
      step_to codes limits l (R value ∷ st) (record { world = w; turns = s.turns }) drops.0 (done codes limits f tt)
  dropped_runs q i' s e l st st' a drops f (Raised id w) =
      record { by = λ r d. throws codes limits c h q i' l st' id not_told (record { world = w; turns = s.turns }) r a (d l f) }
  dropped_runs q i' s e l st st' a drops f Full = record { by = ended codes limits _ }

  result_runs : (y : Ty-F Ty) (q : ℕ) (i' : Instruction) (s : State) (e : Env) (l st st' : List Word) → At c.body h q i'
      → AllAt c.body h (suc q) (without_null (representation_of_layer y)) → Fits c.body g e l → (x : Outcome Value)
      → Gives (representation_of_layer y) q st (on_outcome codes limits x (given_layer y) (frame codes limits c q l st' s) c.below s.world st)
      (meaning.effect x s e)
  result_runs Ty-F.Void q i' s e l st st' a drops f x = dropped_runs q i' s e l st st' a drops f x
  result_runs Ty-F.Null q i' s e l st st' a drops f x =
      outcome_runs funs codes limits c h g q i' s e l st st' Boxed (given_layer Ty-F.Null) (λ value. refl) a f x
  result_runs Ty-F.Def q i' s e l st st' a drops f x =
      outcome_runs funs codes limits c h g q i' s e l st st' Boxed (given_layer Ty-F.Def) (λ value. refl) a f x
  result_runs (Ty-F.Prim p) q i' s e l st st' a drops f x =
      outcome_runs funs codes limits c h g q i' s e l st st' Unboxed (given_layer (Ty-F.Prim p)) (λ value. refl) a f x
  result_runs (Ty-F.Class class) q i' s e l st st' a drops f x =
      outcome_runs funs codes limits c h g q i' s e l st st' Boxed (given_layer (Ty-F.Class class)) (λ value. refl) a f x
  result_runs (Ty-F.Array elem) q i' s e l st st' a drops f x =
      outcome_runs funs codes limits c h g q i' s e l st st' Boxed (given_layer (Ty-F.Array elem)) (λ value. refl) a f x

-- ---- calls

module _ (texts : TextsName) (funs : Programs) (codes : Codes) (limits : Limits) (m : Meaning) (c : Ctx codes) (h : Handlers) (g : Scope) where
  act_runs : (t : MemberType) (q : ℕ) (i' : Instruction) (s : State) (e : Env) (l st st' : List Word) → At c.body h q i'
      → AllAt c.body h (suc q) (without_null (representation_of t.result)) → Fits c.body g e l → (o : Option Effect)
      → Gives funs codes limits c h g (representation_of t.result) q st (on_act codes limits o t (frame codes limits c q l st' s) c.below s.world st)
      (acted funs limits m o s e)
  act_runs t q i' s e l st st' a drops f None = record { by = tt }
  act_runs t q i' s e l st st' a drops f (Some given) =
      result_runs funs codes limits c h g (out-Ty t.result) q i' s e l st st' a drops f (acts_in s.world given)

  paid_runs : (t : MemberType) (number : ℕ) (arguments : List Value) (q : ℕ) (i' : Instruction) (s : State) (e : Env) (l st st' : List Word)
      → At c.body h q i' → AllAt c.body h (suc q) (without_null (representation_of t.result)) → Fits c.body g e l → (x : Counted)
      → Gives funs codes limits c h g (representation_of t.result) q st (on_paid codes limits x number arguments t (frame codes limits c q l st' s) c.below st)
      (paid funs limits m x number arguments s e)
  paid_runs t number arguments q i' s e l st st' a drops f (Passes limit w) = record { by = ended codes limits _ }
  paid_runs t number arguments q i' s e l st st' a drops f (Counts w) =
      act_runs t q i' (record { world = w; turns = s.turns }) e l st st' a drops f (does limits.ground.host number arguments w.store)

  -- what is tested of the one is tested of the other
  tested_runs : (t : MemberType) (suits : Bool) (number : ℕ) (arguments : List Value) (q : ℕ) (i' : Instruction) (s : State) (e : Env) (l st st' : List Word)
      → At c.body h q i' → AllAt c.body h (suc q) (without_null (representation_of t.result)) → Fits c.body g e l
      → Gives funs codes limits c h g (representation_of t.result) q st
      (on_tested codes limits suits number arguments t (frame codes limits c q l st' s) c.below s.world st)
      (tested funs limits m suits number arguments (place codes limits c) s e)
  tested_runs t false number arguments q i' s e l st st' a drops f =
      result_runs funs codes limits c h g (out-Ty t.result) q i' s e l st st' a drops f
      (acts_in s.world (outcomes.effect s.world.store wrong_class))
  tested_runs t true number arguments q i' s e l st st' a drops f =
      paid_runs t number arguments q i' s e l st st' a drops f (pay_member c.text number s.world)

  -- what is received is what is sent
  received_runs : (t : MemberType) (number : ℕ) (q : ℕ) (i' : Instruction) (s : State) (e : Env) (l st st' : List Word)
      → At c.body h q i' → AllAt c.body h (suc q) (without_null (representation_of t.result)) → Fits c.body g e l → (y : Sending) (x : Receiving) → Alike y x
      → Gives funs codes limits c h g (representation_of t.result) q st (on_received codes limits x number t (frame codes limits c q l st' s) c.below s.world st)
      (member_called funs limits m y number t (place codes limits c) s e)
  received_runs t number q i' s e l st st' a drops f source.Unsent x is = record { by = tt }
  received_runs t number q i' s e l st st' a drops f source.OnNull x is =
      subst (λ x. Gives funs codes limits c h g (representation_of t.result) q st
      (on_received codes limits x number t (frame codes limits c q l st' s) c.below s.world st) (member_called funs limits m source.OnNull number t (place codes limits c) s e))
      (sym is)
      (result_runs funs codes limits c h g (out-Ty t.result) q i' s e l st st' a drops f
      (acts_in s.world (outcomes.effect s.world.store outcomes.null_error)))
  received_runs t number q i' s e l st st' a drops f (source.Sends arguments) x is =
      subst (λ x. Gives funs codes limits c h g (representation_of t.result) q st
      (on_received codes limits x number t (frame codes limits c q l st' s) c.below s.world st)
      (member_called funs limits m (source.Sends arguments) number t (place codes limits c) s e)) (sym is)
      (tested_runs t (suits_member s.world.store.objects t arguments) number arguments q i' s e l st st' a drops f)
  received_runs t number q i' s e l st st' a drops f source.Reads x is =
      subst (λ x. Gives funs codes limits c h g (representation_of t.result) q st
      (on_received codes limits x number t (frame codes limits c q l st' s) c.below s.world st) (member_called funs limits m source.Reads number t (place codes limits c) s e))
      (sym is)
      (act_runs t q i' s e l st st' a drops f (does limits.ground.host number [] s.world.store))

  -- the words come off the stack
  abbrev Taken : MemberType → MemberKind → List Ty → ℕ → List Representation → List Value → ℕ → State → Env → List Word → List Word → Type 0
  Taken t sort params number ks values q s e l st =
      Gives funs codes limits c h g (representation_of t.result) q st
      (on_words (take_words (count_by sort params) (push ks values st) []) (λ words stack.
      on_received codes limits (received_by sort params words) number t (frame codes limits c q l (push ks values st) s) c.below s.world stack))
      (member_called funs limits m (sent_by sort params values) number t (place codes limits c) s e)

  off_runs : (t : MemberType) (sort : MemberKind) (params : List Ty) (number : ℕ) (ks : List Representation) (values : List Value) (q : ℕ) (i' : Instruction)
      (s : State) (e : Env) (l st : List Word)
      → At c.body h q i' → AllAt c.body h (suc q) (without_null (representation_of t.result)) → Fits c.body g e l
      → count_by sort params ≡ length ks → ArePresent ks → length ks ≡ length values
      → Alike (sent_by sort params values) (received_by sort params (words_at ks values))
      → Taken t sort params number ks values q s e l st
  off_runs t sort params number ks values q i' s e l st a drops f many present count is =
      subst (λ o. Gives funs codes limits c h g (representation_of t.result) q st
      (on_words o (λ words stack. on_received codes limits (received_by sort params words) number t
      (frame codes limits c q l (push ks values st) s) c.below s.world stack))
      (member_called funs limits m (sent_by sort params values) number t (place codes limits c) s e)) (sym (off (count_by sort params) ks values st many present count))
      (received_runs t number q i' s e l st (push ks values st) a drops f (sent_by sort params values)
      (received_by sort params (words_at ks values)) is)

  kind_runs : (t : MemberType) (sort : MemberKind) (params : List Ty) (number : ℕ) (ks : List Representation) (values : List Value) (q : ℕ) (i' : Instruction)
      (s : State) (e : Env) (l st : List Word)
      → At c.body h q i' → AllAt c.body h (suc q) (without_null (representation_of t.result)) → Fits c.body g e l
      → with_receiver sort (map representation_of params) ≡ ks → ArePresent (map representation_of params) → length ks ≡ length values
      → Taken t sort params number ks values q s e l st
  kind_runs t kind.Static params number ks values q i' s e l st a drops f lie present count =
      off_runs t kind.Static params number ks values q i' s e l st a drops f (sym (length-map params representation_of) ∙ ap length lie)
      (subst ArePresent lie present) count
      (subst (λ ks. Alike (sent_by kind.Static params values) (received_by kind.Static params (words_at ks values))) lie (called_alike params values))
  kind_runs t kind.Constructor params number ks values q i' s e l st a drops f lie present count =
      off_runs t kind.Constructor params number ks values q i' s e l st a drops f (sym (length-map params representation_of) ∙ ap length lie)
      (subst ArePresent lie present) count
      (subst (λ ks. Alike (sent_by kind.Constructor params values) (received_by kind.Constructor params (words_at ks values))) lie
      (called_alike params values))
  kind_runs t kind.Instance params number ks [] q i' s e l st a drops f lie present count = record { by = tt }
  kind_runs t kind.Instance params number ks (value ∷ values) q i' s e l st a drops f lie present count =
      off_runs t kind.Instance params number ks (value ∷ values) q i' s e l st a drops f (ap suc (sym (length-map params representation_of)) ∙ ap length lie)
      (subst ArePresent lie (boxed_some, present)) count
      (subst (λ ks. Alike (sent_by kind.Instance params (value ∷ values)) (received_by kind.Instance params (words_at ks (value ∷ values)))) lie
      (instance_alike params value values))
  kind_runs t kind.Field params number [] [] q i' s e l st a drops f lie present count =
      received_runs t number q i' s e l st st a drops f source.Reads target.Reads refl
  kind_runs t kind.Field params number (k ∷ ks) [] q i' s e l st a drops f lie present count = absurd (omega arith)
  kind_runs t kind.Field params number ks (value ∷ values) q i' s e l st a drops f lie present count = record { by = tt }

  -- the member that the text names
  text_names : (sort : MemberKind) (member : Member) (t : MemberType) → slice_get catalogue member.number ≡ Some t → t.kind ≡ sort
      → member.text ≡ text_of t → flag (allowed_in limits c.text).members member.number ≡ true
      → named_by sort (allowed_in limits c.text) member.text ≡ Some member.number
  text_names sort member t is same text allowed =
      ap (λ sort. named_by sort (allowed_in limits c.text) member.text) (sym same) ∙ ap
      (named_by t.kind (allowed_in limits c.text)) text ∙ texts (allowed_in limits c.text) member.number t is allowed

  abbrev Runs : List Representation → List Value → ℕ → State → List Word → List Word → Representation → Option ℕ → Out Value → Type 0
  Runs ks values q s l st k o out =
      Gives funs codes limits c h g k q st (member_act codes limits (allowed_in limits c.text) o (frame codes limits c q l (push ks values st) s) c.below s.world) out

  -- a member's call, whose parts are represented as it takes them
  pub member_runs : (sort : MemberKind) (member : Member) (ks : List Representation) (of : Ty) → MemberFits sort member ks of
      → (values : List Value) (q : ℕ) (i' : Instruction) (s : State) (e : Env) (l st : List Word)
      → At c.body h q i' → AllAt c.body h (suc q) (without_null (representation_of of)) → length ks ≡ length values → Fits c.body g e l
      → Gives funs codes limits c h g (representation_of of) q st
      (member_act codes limits (allowed_in limits c.text) (named_by sort (allowed_in limits c.text) member.text) (frame codes limits c q l (push ks values st) s) c.below s.world)
      (of_member funs limits m member values (place codes limits c) s e)
  member_runs sort member ks of fits values q i' s e l st a drops count f = allowed (flag (allowed_in limits c.text).members member.number) refl
    where
      t : MemberType
      t = fits.member

      taken_off : Taken t t.kind t.params member.number ks values q s e l st
      taken_off =
          kind_runs t t.kind t.params member.number ks values q i' s e l st a
          (subst (λ k. AllAt c.body h (suc q) (without_null k)) fits.gives drops) f
          (ap (λ sort. with_receiver sort (map representation_of t.params)) fits.sort ∙ sym fits.parts) (params_present member.number t fits.is) count

      numbered : Runs ks values q s l st (representation_of t.result) (Some member.number)
          (member_called funs limits m (sent (member_in (allowed_in limits c.text) member.number) values) member.number (member_in (allowed_in limits c.text) member.number) (place codes limits c) s e)
      numbered =
          subst (λ (t' : MemberType). Gives funs codes limits c h g (representation_of t.result) q st
          (on_words (take_words (count_of t') (push ks values st) []) (λ words stack.
          on_received codes limits (received t' words) member.number t' (frame codes limits c q l (push ks values st) s) c.below s.world stack))
          (member_called funs limits m (sent t' values) member.number t' (place codes limits c) s e)) (sym (stands_at member.number t fits.is)) taken_off

      allowed : (x : Bool) → flag (allowed_in limits c.text).members member.number ≡ x
          → Runs ks values q s l st (representation_of of) (named_by sort (allowed_in limits c.text) member.text) (member_applied funs limits m (allowed_in limits c.text) x member.number values (place codes limits c) s e)
      allowed false is = record { by = tt }
      allowed true is =
          subst (λ k. Runs ks values q s l st k (named_by sort (allowed_in limits c.text) member.text)
          (member_applied funs limits m (allowed_in limits c.text) true member.number values (place codes limits c) s e)) (sym fits.gives)
          (subst (λ o. Runs ks values q s l st (representation_of t.result) o (member_applied funs limits m (allowed_in limits c.text) true member.number values (place codes limits c) s e))
          (sym (text_names sort member t fits.is fits.sort fits.text is)) numbered)
