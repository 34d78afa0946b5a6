-- Operators of lists, maps and arrays.
use Rattle.std.proofs.Common.{◌≡◌, ◌≢◌, ℕ, suc, ◌*◌, true, List, [], ◌∷◌, map, length, Option, Some, None, refl, sym, ap, ◌∙◌, subst, arith}
use Rattle.std.specs.Prelude.{ℤ, option_map}
use Rattle.pl_types.specs.declared.ty.Ty.{Ty, out-Ty}
use Rattle.pl_types.specs.declared.ty.Ty.TheOpen.{Ty-F}
use Rattle.pl_types.specs.Texts.{full_text, is_known}
use Rattle.object_values.specs.declared.value.Value.{Value}
use Rattle.object_values.specs.declared.value.Value.TheVariants as v
use Rattle.source_meaning.specs.Making.{list_made, map_made, array_filled, array_made}
use Rattle.source_meaning.specs.Elements.{element_read, element_written}
use Rattle.pl_code.specs.declared.kinds.Numbered.TheVariants as numbered
use Rattle.pl_code.specs.declared.kinds.Sized.TheVariants as sized
use Rattle.pl_code.specs.declared.kinds.Typed.TheVariants as typed
use Rattle.pl_code.specs.declared.code.Instruction.{Instruction}
use Rattle.pl_code.specs.declared.code.Instruction.TheVariants as i
use Rattle.run_state.specs.World.{Limits, not_told, Outcome, Given, Raised, Full, acts_in}
use Rattle.source_meaning.specs.Tree.{Programs}
use Rattle.source_meaning.specs.Operating as source
use Rattle.source_meaning.specs.Operating.{Acts, ints_of, made_of, filled_of, passed, passed_alike, read_at, written_if, written_at}
use Rattle.source_meaning.specs.Meaning.{State, Env, Out, operated}
use Rattle.source_meaning.specs.Meaning as meaning
use Rattle.code_meaning.specs.declared.word.Word.{Word}
use Rattle.code_meaning.specs.declared.word.Word.TheVariants.{I, R}
use Rattle.code_meaning.specs.Words.{unboxed}
use Rattle.code_meaning.specs.Members as target
use Rattle.code_meaning.specs.Members.{taken, given_layer, given_as, references_in, taken_alike, ints_in}
use Rattle.code_meaning.specs.Machine.{Codes, Handlers, Next, take_words, on_words, on_values, on_ints, on_value, on_outcome, on_done}
use Rattle.compiler_relation.specs.Representation.{Representation, Unboxed, Boxed, Absent, representation_of, representation_of_layer, low}
use Rattle.compiler_relation.specs.Stands.{Scope, At, AllRepresented, ArePresent, IsElement}
use Rattle.compiler_relation.proofs.Locals.{Fits}
use Rattle.compiler_relation.proofs.Follows.{Ctx, Sim, at, frame, ended, done, step_to, throws}
use Rattle.compiler_relation.proofs.Refines.{push, Any, land_value}
use Rattle.compiler_relation.proofs.Nodes.Operands.{outcome_runs}
use Rattle.compiler_relation.proofs.Nodes.Casts.{ReadsBack, type_read}
use Rattle.compiler_relation.proofs.Nodes.Calls.{word_at, words_at, off}
use Rattle.compiler_relation.proofs.Nodes.Members.{layer_taken}

-- ---- words of operands that are all represented alike

pub alike_present : (k : Representation) (ks : List Representation) → k ≢ Absent → AllRepresented k ks → ArePresent ks
alike_present k [] some lie = tt
alike_present k (j ∷ ks) some lie = ((λ absent. some (sym lie.0 ∙ absent)), alike_present k ks some lie.1)

alike_words : (k : Representation) (ks : List Representation) (values : List Value) → AllRepresented k ks → length ks ≡ length values
    → words_at ks values ≡ map (word_at k) values
alike_words k [] [] lie same = refl
alike_words k [] (value ∷ values) lie same = absurd (omega arith)
alike_words k (j ∷ ks) [] lie same = absurd (omega arith)
alike_words k (j ∷ ks) (value ∷ values) lie same =
    ap (λ j. word_at j value ∷ words_at ks values) lie.0 ∙ ap (λ words. word_at k value ∷ words) (alike_words k ks values lie.1 (omega arith))

references_are : (values : List Value) → references_in (map (word_at Boxed) values) ≡ Some values
references_are [] = refl
references_are (value ∷ values) = ap (target.before (Some value)) (references_are values)

ints_are : (values : List Value) (numbers : List ℤ) → ints_of values ≡ Some numbers → ints_in (map (word_at Unboxed) values) ≡ Some numbers
ints_are [] numbers e = e
ints_are (v.Int a ∷ values) numbers e = both (ints_are values) (ints_of values) refl e
  where
    both : ((numbers : List ℤ) → ints_of values ≡ Some numbers → ints_in (map (word_at Unboxed) values) ≡ Some numbers)
        → (x : Option (List ℤ)) → ints_of values ≡ x → option_map (λ others. a ∷ others) x ≡ Some numbers
        → ints_in (map (word_at Unboxed) (v.Int a ∷ values)) ≡ Some numbers
    both rest None is e = cc
    both rest (Some others) is e = ap (target.int_before (I a)) (rest others is) ∙ e
ints_are (value ∷ values) numbers e = cc

taken_are : (of : Ty) (values given : List Value) → passed_alike of values ≡ Some given → taken_alike of (map (word_at (representation_of of)) values) ≡ Some given
taken_are of [] given e = e
taken_are of (value ∷ values) given e = both (taken_are of values) (passed of value) (passed_alike of values) refl refl e
  where
    both : ((given : List Value) → passed_alike of values ≡ Some given → taken_alike of (map (word_at (representation_of of)) values) ≡ Some given)
        → (x : Option Value) (xs : Option (List Value)) → passed of value ≡ x → passed_alike of values ≡ xs → source.before x xs ≡ Some given
        → taken_alike of (map (word_at (representation_of of)) (value ∷ values)) ≡ Some given
    both rest (Some x) (Some xs) p q e =
        let one : taken of (word_at (representation_of of) value) ≡ Some x = layer_taken (out-Ty of) value x p in
        let others : taken_alike of (map (word_at (representation_of of)) values) ≡ Some xs = rest xs q in
        (λ k. target.before (one k) (others k)) ∙ e
    both rest (Some x) None p q e = cc
    both rest None (Some xs) p q e = cc
    both rest None None p q e = cc

-- ---- what is given

given_low : (y : Ty-F Ty) (value : Value) → representation_of_layer y ≢ Absent → Some (given_layer y value) ≡ low (representation_of_layer y) value
given_low Ty-F.Void value some = absurd (some refl)
given_low Ty-F.Null value some = refl
given_low Ty-F.Def value some = refl
given_low (Ty-F.Prim p) value some = refl
given_low (Ty-F.Class class) value some = refl
given_low (Ty-F.Array elem) value some = refl

module _ (funs : Programs) (codes : Codes) (limits : Limits) (c : Ctx codes) (h : Handlers) (g : Scope) where
  -- what is given by a write is dropped
  pub done_runs : (q : ℕ) (i' : Instruction) (s : State) (e : Env) (l st st' : List Word) → At c.body h q i' → Fits c.body g e l → (x : Outcome Value)
      → Sim codes limits c h g (λ dropped s l. at codes limits c (suc q) l st s) Any (on_done codes limits x (frame codes limits c q l st' s) c.below s.world st) (meaning.effect x s e)
  done_runs q i' s e l st st' a f (Given value w) = done codes limits f tt
  done_runs q i' s e l st st' a f (Raised id w) = record { by = λ r d. throws codes limits c h q i' l st' id not_told (record { world = w; turns = s.turns }) r a (d l f) }
  done_runs q i' s e l st st' a f Full = record { by = ended codes limits _ }

  -- ---- words off the stack

  words_off : (n : ℕ) (ks : List Representation) (values : List Value) (st : List Word) (next : List Word → List Word → Next)
      {land : Value → State → List Word → Next} {good : Value → Type 0} {o : Out Value}
      → n ≡ length ks → ArePresent ks → length ks ≡ length values → Sim codes limits c h g land good (next (words_at ks values) st) o
      → Sim codes limits c h g land good (on_words (take_words n (push ks values st) []) next) o
  words_off n ks values st next {land = land} {good = good} {o = o} many present same d =
      subst (λ x. Sim codes limits c h g land good (on_words x next) o) (sym (off n ks values st many present same)) d

  boxed_some : Boxed ≢ Absent
  boxed_some e = cc

  unboxed_some : Unboxed ≢ Absent
  unboxed_some e = cc

  -- so many references
  pub references_off : (n : ℕ) (ks : List Representation) (values : List Value) (st : List Word) (next : List Value → List Word → Next)
      {land : Value → State → List Word → Next} {good : Value → Type 0} {o : Out Value}
      → n ≡ length ks → AllRepresented Boxed ks → length ks ≡ length values → Sim codes limits c h g land good (next values st) o
      → Sim codes limits c h g land good (on_words (take_words n (push ks values st) []) (λ words stack. on_values (references_in words) (λ items. next items stack))) o
  references_off n ks values st next {land = land} {good = good} {o = o} many lie same d =
      words_off n ks values st (λ words stack. on_values (references_in words) (λ items. next items stack)) many (alike_present Boxed ks boxed_some lie) same
      (subst (λ x. Sim codes limits c h g land good (on_values x (λ items. next items st)) o)
      (sym (ap references_in (alike_words Boxed ks values lie same) ∙ references_are values)) d)

  ints_off : (n : ℕ) (ks : List Representation) (values : List Value) (numbers : List ℤ) (st : List Word) (next : List ℤ → List Word → Next)
      {land : Value → State → List Word → Next} {good : Value → Type 0} {o : Out Value}
      → n ≡ length ks → AllRepresented Unboxed ks → length ks ≡ length values → ints_of values ≡ Some numbers → Sim codes limits c h g land good (next numbers st) o
      → Sim codes limits c h g land good (on_words (take_words n (push ks values st) []) (λ words stack. on_ints (ints_in words) (λ sizes. next sizes stack))) o
  ints_off n ks values numbers st next {land = land} {good = good} {o = o} many lie same is d =
      words_off n ks values st (λ words stack. on_ints (ints_in words) (λ sizes. next sizes stack)) many (alike_present Unboxed ks unboxed_some lie) same
      (subst (λ x. Sim codes limits c h g land good (on_ints x (λ sizes. next sizes st)) o)
      (sym (ap ints_in (alike_words Unboxed ks values lie same) ∙ ints_are values numbers is)) d)

  elements_off : (of : Ty) (n : ℕ) (ks : List Representation) (values given : List Value) (st : List Word) (next : List Value → List Word → Next)
      {land : Value → State → List Word → Next} {good : Value → Type 0} {o : Out Value}
      → n ≡ length ks → representation_of of ≢ Absent → AllRepresented (representation_of of) ks → length ks ≡ length values → passed_alike of values ≡ Some given
      → Sim codes limits c h g land good (next given st) o
      → Sim codes limits c h g land good (on_words (take_words n (push ks values st) []) (λ words stack. on_values (taken_alike of words) (λ items. next items stack))) o
  elements_off of n ks values given st next {land = land} {good = good} {o = o} many some lie same is d =
      words_off n ks values st (λ words stack. on_values (taken_alike of words) (λ items. next items stack)) many (alike_present (representation_of of) ks some lie) same
      (subst (λ x. Sim codes limits c h g land good (on_values x (λ items. next items st)) o)
      (sym (ap (taken_alike of) (alike_words (representation_of of) ks values lie same) ∙ taken_are of values given is)) d)

  -- ---- lists and maps

  pub list_runs : (ks : List Representation) (values : List Value) (q : ℕ) (s : State) (e : Env) (l st : List Word)
      → At c.body h q (i.Numbered numbered.List (length ks)) → AllRepresented Boxed ks → length ks ≡ length values → Fits c.body g e l
      → Sim codes limits c h g (land_value funs codes limits c Boxed (suc q) st) Any
      (at codes limits c q l (push ks values st) s) (operated (Acts (list_made s.world.store values)) s e)
  list_runs ks values q s e l st x lie same f =
      step_to codes limits l (push ks values st) s x
      (references_off (length ks) ks values st
      (λ items stack. on_outcome codes limits (acts_in s.world (list_made s.world.store items)) R (frame codes limits c q l (push ks values st) s) c.below s.world stack)
      refl lie same
      (outcome_runs funs codes limits c h g q _ s e l st (push ks values st) Boxed R (λ value. refl) x f (acts_in s.world (list_made s.world.store values))))

  pub map_runs : (n : ℕ) (ks : List Representation) (values : List Value) (q : ℕ) (s : State) (e : Env) (l st : List Word)
      → At c.body h q (i.Numbered numbered.Map n) → (2 * n) ≡ length ks → AllRepresented Boxed ks → length ks ≡ length values → Fits c.body g e l
      → Sim codes limits c h g (land_value funs codes limits c Boxed (suc q) st) Any
      (at codes limits c q l (push ks values st) s) (operated (Acts (map_made s.world.store values)) s e)
  map_runs n ks values q s e l st x many lie same f =
      step_to codes limits l (push ks values st) s x
      (references_off (2 * n) ks values st
      (λ items stack. on_outcome codes limits (acts_in s.world (map_made s.world.store items)) R (frame codes limits c q l (push ks values st) s) c.below s.world stack)
      many lie same
      (outcome_runs funs codes limits c h g q _ s e l st (push ks values st) Boxed R (λ value. refl) x f (acts_in s.world (map_made s.world.store values))))

module _ (funs : Programs) (codes : Codes) (limits : Limits) (reads : ReadsBack) (c : Ctx codes) (h : Handlers) (g : Scope) where
  -- ---- arrays

  sizes_run : (of : Ty) (ks : List Representation) (values : List Value) (q : ℕ) (s : State) (e : Env) (l st : List Word)
      → At c.body h q (i.Sized sized.Empty (full_text of) (length ks)) → is_known of ≡ true → AllRepresented Unboxed ks → length ks ≡ length values → Fits c.body g e l
      → (numbers : Option (List ℤ)) → ints_of values ≡ numbers
      → Sim codes limits c h g (land_value funs codes limits c Boxed (suc q) st) Any
      (at codes limits c q l (push ks values st) s) (operated (made_of numbers of s.world.store) s e)
  sizes_run of ks values q s e l st x known lie same f None is = record { by = tt }
  sizes_run of ks values q s e l st x known lie same f (Some numbers) is =
      step_to codes limits l (push ks values st) s x
      (type_read funs codes limits reads c h g of _ known
      (ints_off funs codes limits c h g (length ks) ks values numbers st
      (λ sizes stack. on_outcome codes limits (acts_in s.world (array_made s.world.store of sizes)) R (frame codes limits c q l (push ks values st) s) c.below s.world stack)
      refl lie same is
      (outcome_runs funs codes limits c h g q _ s e l st (push ks values st) Boxed R (λ value. refl) x f (acts_in s.world (array_made s.world.store of numbers)))))

  pub new_array_runs : (of : Ty) (ks : List Representation) (values : List Value) (q : ℕ) (s : State) (e : Env) (l st : List Word)
      → At c.body h q (i.Sized sized.Empty (full_text of) (length ks)) → is_known of ≡ true → AllRepresented Unboxed ks → length ks ≡ length values → Fits c.body g e l
      → Sim codes limits c h g (land_value funs codes limits c Boxed (suc q) st) Any
      (at codes limits c q l (push ks values st) s) (operated (made_of (ints_of values) of s.world.store) s e)
  new_array_runs of ks values q s e l st x known lie same f = sizes_run of ks values q s e l st x known lie same f (ints_of values) refl

  elements_run : (of : Ty) (ks : List Representation) (values : List Value) (q : ℕ) (s : State) (e : Env) (l st : List Word)
      → At c.body h q (i.Sized sized.Filled (full_text of) (length ks)) → IsElement of → AllRepresented (representation_of of) ks → length ks ≡ length values → Fits c.body g e l
      → (given : Option (List Value)) → passed_alike of values ≡ given
      → Sim codes limits c h g (land_value funs codes limits c Boxed (suc q) st) Any
      (at codes limits c q l (push ks values st) s) (operated (filled_of given of s.world.store) s e)
  elements_run of ks values q s e l st x element lie same f None is = record { by = tt }
  elements_run of ks values q s e l st x element lie same f (Some given) is =
      step_to codes limits l (push ks values st) s x
      (type_read funs codes limits reads c h g of _ element.known
      (elements_off funs codes limits c h g of (length ks) ks values given st
      (λ items stack. on_outcome codes limits (acts_in s.world (array_filled s.world.store of items)) R (frame codes limits c q l (push ks values st) s) c.below s.world stack)
      refl element.present lie same is
      (outcome_runs funs codes limits c h g q _ s e l st (push ks values st) Boxed R (λ value. refl) x f (acts_in s.world (array_filled s.world.store of given)))))

  pub array_runs : (of : Ty) (ks : List Representation) (values : List Value) (q : ℕ) (s : State) (e : Env) (l st : List Word)
      → At c.body h q (i.Sized sized.Filled (full_text of) (length ks)) → IsElement of → AllRepresented (representation_of of) ks → length ks ≡ length values → Fits c.body g e l
      → Sim codes limits c h g (land_value funs codes limits c Boxed (suc q) st) Any
      (at codes limits c q l (push ks values st) s) (operated (filled_of (passed_alike of values) of s.world.store) s e)
  array_runs of ks values q s e l st x element lie same f = elements_run of ks values q s e l st x element lie same f (passed_alike of values) refl

  element_at : (of : Ty) (array index : Value) (q : ℕ) (s : State) (e : Env) (l st : List Word)
      → At c.body h q (i.Typed typed.LoadElement (full_text of)) → IsElement of → Fits c.body g e l
      → Sim codes limits c h g (land_value funs codes limits c (representation_of of) (suc q) st) Any
      (at codes limits c q l (unboxed index ∷ R array ∷ st) s) (operated (read_at of (array ∷ index ∷ []) s.world.store) s e)
  element_at of array (v.Int at') q s e l st x element f =
      step_to codes limits l (I at' ∷ R array ∷ st) s x
      (type_read funs codes limits reads c h g of _ element.known
      (outcome_runs funs codes limits c h g q _ s e l st (I at' ∷ R array ∷ st) (representation_of of) (given_as of)
      (λ value. given_low (out-Ty of) value element.present) x f (acts_in s.world (element_read s.world.store of array at'))))
  element_at of array index q s e l st x element f = record { by = tt }

  element_values : (of : Ty) (values : List Value) (q : ℕ) (s : State) (e : Env) (l st : List Word)
      → At c.body h q (i.Typed typed.LoadElement (full_text of)) → IsElement of → 2 ≡ length values → Fits c.body g e l
      → Sim codes limits c h g (land_value funs codes limits c (representation_of of) (suc q) st) Any
      (at codes limits c q l (push (Boxed ∷ Unboxed ∷ []) values st) s) (operated (read_at of values s.world.store) s e)
  element_values of [] q s e l st x element same f = record { by = tt }
  element_values of (array ∷ []) q s e l st x element same f = record { by = tt }
  element_values of (array ∷ index ∷ []) q s e l st x element same f = element_at of array index q s e l st x element f
  element_values of (array ∷ index ∷ other ∷ values) q s e l st x element same f = absurd (omega arith)

  pub element_runs : (of : Ty) (ks : List Representation) (values : List Value) (q : ℕ) (s : State) (e : Env) (l st : List Word)
      → At c.body h q (i.Typed typed.LoadElement (full_text of)) → ks ≡ Boxed ∷ Unboxed ∷ [] → IsElement of → length ks ≡ length values → Fits c.body g e l
      → Sim codes limits c h g (land_value funs codes limits c (representation_of of) (suc q) st) Any
      (at codes limits c q l (push ks values st) s) (operated (read_at of values s.world.store) s e)
  element_runs of ks values q s e l st x are element same f =
      subst (λ ks. Sim codes limits c h g (land_value funs codes limits c (representation_of of) (suc q) st) Any
      (at codes limits c q l (push ks values st) s) (operated (read_at of values s.world.store) s e)) (sym are)
      (element_values of values q s e l st x element (sym (ap length are) ∙ same) f)

  -- an element is written: the value lies on the index, and that on the array
  written_word : (of : Ty) (array value : Value) (at' : ℤ) (q : ℕ) (s : State) (e : Env) (l st : List Word)
      → At c.body h q (i.Typed typed.StoreElement (full_text of)) → is_known of ≡ true → Fits c.body g e l
      → (given : Option Value) → passed of value ≡ given
      → Sim codes limits c h g (λ dropped s l. at codes limits c (suc q) l st s) Any
      (at codes limits c q l (word_at (representation_of of) value ∷ I at' ∷ R array ∷ st) s) (operated (written_if of array at' given s.world.store) s e)
  written_word of array value at' q s e l st x known f None is = record { by = tt }
  written_word of array value at' q s e l st x known f (Some given) is =
      let all = word_at (representation_of of) value ∷ I at' ∷ R array ∷ st in
      step_to codes limits l all s x
      (type_read funs codes limits reads c h g of _ known
      (subst (λ o. Sim codes limits c h g (λ dropped s l. at codes limits c (suc q) l st s) Any
      (on_value o (λ value. on_done codes limits (acts_in s.world (element_written s.world.store of array at' value)) (frame codes limits c q l all s) c.below s.world st))
      (operated (Acts (element_written s.world.store of array at' given)) s e)) (sym (layer_taken (out-Ty of) value given is))
      (done_runs funs codes limits c h g q _ s e l st all x f (acts_in s.world (element_written s.world.store of array at' given)))))

  pub written_runs : (of : Ty) (array index value : Value) (q : ℕ) (s : State) (e : Env) (l st : List Word)
      → At c.body h q (i.Typed typed.StoreElement (full_text of)) → is_known of ≡ true → Fits c.body g e l
      → Sim codes limits c h g (λ dropped s l. at codes limits c (suc q) l st s) Any
      (at codes limits c q l (word_at (representation_of of) value ∷ unboxed index ∷ R array ∷ st) s) (operated (written_at of (array ∷ index ∷ value ∷ []) s.world.store) s e)
  written_runs of array (v.Int at') value q s e l st x known f = written_word of array value at' q s e l st x known f (passed of value) refl
  written_runs of array index value q s e l st x known f = record { by = tt }
