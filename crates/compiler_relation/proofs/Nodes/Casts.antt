-- Casts: of numbers, and those that are done when the script runs.
use Rattle.std.proofs.Common.{◌≡◌, ℕ, suc, Bool, true, false, List, [], ◌∷◌, ◌++◌, length, Option, Some, None, refl, sym, ap, ◌∙◌, subst}
use Rattle.std.specs.Prelude.{ℤ, pos}
use Rattle.pl_types.specs.declared.classes.TheConstants.{STRING}
use Rattle.pl_types.specs.declared.primitive.Primitive.{Primitive}
use Rattle.pl_types.specs.declared.primitive.Primitive.TheVariants as prim
use Rattle.pl_types.specs.declared.ty.Ty.{Ty, out-Ty}
use Rattle.pl_types.specs.declared.ty.Ty.TheOpen.{Ty-F}
use Rattle.pl_types.specs.declared.ty.Ty.TheVariants as t
use Rattle.pl_types.specs.declared.ty.Ty.TheFolds.{fold-roll-Ty}
use Rattle.pl_types.specs.declared.ty.Ty.TheViews.{roll-Ty, roll-out-Ty}
use Rattle.pl_types.specs.Texts.{full_text, type_of_full, known_layer, is_known}
use Rattle.pl_types.specs.declared.conversion.Cast.{Cast}
use Rattle.pl_types.specs.declared.conversion.Cast.TheVariants as cast
use Rattle.object_values.specs.declared.value.Value.{Value}
use Rattle.object_values.specs.declared.value.Value.TheVariants as v
use Rattle.pl_code.specs.declared.kinds.Way.{Way}
use Rattle.pl_code.specs.declared.kinds.Way.TheVariants as way
use Rattle.pl_code.specs.declared.code.FunCode.{FunCode}
use Rattle.pl_code.specs.declared.code.Instruction.{Instruction}
use Rattle.pl_code.specs.declared.code.Instruction.TheVariants as i
use Rattle.object_heap.specs.Effects.{Effect, Throws, after_paying}
use Rattle.object_heap.specs.Store.{Store}
use Rattle.number_ops.specs.Casts.{cast_at_run_time}
use Rattle.number_ops.specs.declared.outcome.Outcome.{Outcome}
use Rattle.number_ops.specs.declared.outcome.Outcome.TheVariants as outcome
use Rattle.number_ops.specs.Outcomes.{effect}
use Rattle.run_state.specs.World.{Limits, acts_in}
use Rattle.source_meaning.specs.Tree.{Programs}
use Rattle.source_meaning.specs.Operating.{Acts, number_cast, in_box, box_if, gives_if, text_if, unwrapped, casts}
use Rattle.source_meaning.specs.Meaning.{State, Env, Out, found, operated, bind}
use Rattle.code_meaning.specs.declared.word.Word.{Word}
use Rattle.code_meaning.specs.declared.word.Word.TheVariants.{I, J, R}
use Rattle.code_meaning.specs.Words.{unboxed, boxed, bit}
use Rattle.code_meaning.specs.Machine.{Codes, Handlers, Next, on_value, on_type, is_written, pushed, to_line}
use Rattle.compiler_relation.specs.Representation.{Representation, Unboxed, Boxed, Absent, low}
use Rattle.compiler_relation.specs.Parts.{number_code, from_int_code, from_long_code, from_byte_code, from_short_code, from_char_code, run_time_code_layer, run_time_representation, cast_code, cast_takes, cast_gives}
use Rattle.compiler_relation.specs.Stands.{Scope, AllAt, end_all, AsksKnown, CastFits}
use Rattle.compiler_relation.proofs.Locals.{Fits}
use Rattle.compiler_relation.proofs.Follows.{Ctx, Sim, at, frame, and_then, done, step_to}
use Rattle.compiler_relation.proofs.Refines.{Any, land_value}
use Rattle.compiler_relation.proofs.Nodes.Operands.{boxed_unboxed, absent_unboxed, outcome_runs}
use Rattle.compiler_relation.proofs.Nodes.References.{unboxed_boxed, absent_boxed}

-- ---- types

-- The text of a known type is read as the type.
abbrev pub ReadsBack : Type 0
ReadsBack = (of : Ty) → is_known of ≡ true → type_of_full (full_text of) ≡ Some of

rolled_primitive : (p : Primitive) (of : Ty) → out-Ty of ≡ Ty-F.Prim p → of ≡ t.Prim p
unfolding roll-Ty denote.Hole.Carrier.roll
rolled_primitive p of is = sym (roll-out-Ty of) ∙ ap roll-Ty is

string_is_known : is_known (t.Class STRING) ≡ true
unfolding roll-Ty denote.Hole.Carrier.roll
string_is_known = fold-roll-Ty Bool known_layer (Ty-F.Class STRING)

-- ---- instructions one behind the other

all_first : (f : FunCode) (h : Handlers) (p : ℕ) (xs ys : List Instruction) → AllAt f h p (xs ++ ys) → AllAt f h p xs
all_first f h p [] ys a = tt
all_first f h p (x ∷ xs) ys a = (a.0, all_first f h (suc p) xs ys a.1)

all_second : (f : FunCode) (h : Handlers) (p : ℕ) (xs ys : List Instruction) → AllAt f h p (xs ++ ys) → AllAt f h (end_all p xs) ys
all_second f h p [] ys a = a
all_second f h p (x ∷ xs) ys a = all_second f h (suc p) xs ys a.1

end_both : (p : ℕ) (xs ys : List Instruction) → end_all p (xs ++ ys) ≡ end_all (end_all p xs) ys
end_both p [] ys = refl
end_both p (x ∷ xs) ys = end_both (suc p) xs ys

module _ (funs : Programs) (codes : Codes) (limits : Limits) (c : Ctx codes) (h : Handlers) (g : Scope) where
  from_int : (to : Primitive) (a : ℤ) (q : ℕ) (s : State) (e : Env) (l st : List Word) → AllAt c.body h q (from_int_code to) → Fits c.body g e l
      → Sim codes limits c h g (land_value funs codes limits c Unboxed (end_all q (from_int_code to)) st) Any (at codes limits c q l (I a ∷ st) s) (found (Rattle.source_meaning.specs.Operating.from_int_to to a) s e)
  from_int prim.Boolean a q s e l st x f = record { by = tt }
  from_int prim.Byte a q s e l st x f = step_to codes limits l (I a ∷ st) s x.0 (done codes limits f tt)
  from_int prim.Short a q s e l st x f = step_to codes limits l (I a ∷ st) s x.0 (done codes limits f tt)
  from_int prim.Char a q s e l st x f = step_to codes limits l (I a ∷ st) s x.0 (done codes limits f tt)
  from_int prim.Int a q s e l st x f = done codes limits f tt
  from_int prim.Long a q s e l st x f = step_to codes limits l (I a ∷ st) s x.0 (done codes limits f tt)

  from_long : (to : Primitive) (a : ℤ) (q : ℕ) (s : State) (e : Env) (l st : List Word) → AllAt c.body h q (from_long_code to) → Fits c.body g e l
      → Sim codes limits c h g (land_value funs codes limits c Unboxed (end_all q (from_long_code to)) st) Any (at codes limits c q l (J a ∷ st) s) (found (Rattle.source_meaning.specs.Operating.from_long_to to a) s e)
  from_long prim.Boolean a q s e l st x f = record { by = tt }
  from_long prim.Byte a q s e l st x f = step_to codes limits l (J a ∷ st) s x.0 (step_to codes limits l (I _ ∷ st) s x.1.0 (done codes limits f tt))
  from_long prim.Short a q s e l st x f = step_to codes limits l (J a ∷ st) s x.0 (step_to codes limits l (I _ ∷ st) s x.1.0 (done codes limits f tt))
  from_long prim.Char a q s e l st x f = step_to codes limits l (J a ∷ st) s x.0 (step_to codes limits l (I _ ∷ st) s x.1.0 (done codes limits f tt))
  from_long prim.Int a q s e l st x f = step_to codes limits l (J a ∷ st) s x.0 (done codes limits f tt)
  from_long prim.Long a q s e l st x f = done codes limits f tt

  from_byte : (to : Primitive) (a : ℤ) (q : ℕ) (s : State) (e : Env) (l st : List Word) → AllAt c.body h q (from_byte_code to) → Fits c.body g e l
      → Sim codes limits c h g (land_value funs codes limits c Unboxed (end_all q (from_byte_code to)) st) Any (at codes limits c q l (I a ∷ st) s) (found (Rattle.source_meaning.specs.Operating.from_byte_to to a) s e)
  from_byte prim.Boolean a q s e l st x f = record { by = tt }
  from_byte prim.Byte a q s e l st x f = done codes limits f tt
  from_byte prim.Short a q s e l st x f = done codes limits f tt
  from_byte prim.Char a q s e l st x f = step_to codes limits l (I a ∷ st) s x.0 (done codes limits f tt)
  from_byte prim.Int a q s e l st x f = done codes limits f tt
  from_byte prim.Long a q s e l st x f = step_to codes limits l (I a ∷ st) s x.0 (done codes limits f tt)

  from_short : (to : Primitive) (a : ℤ) (q : ℕ) (s : State) (e : Env) (l st : List Word) → AllAt c.body h q (from_short_code to) → Fits c.body g e l
      → Sim codes limits c h g (land_value funs codes limits c Unboxed (end_all q (from_short_code to)) st) Any (at codes limits c q l (I a ∷ st) s) (found (Rattle.source_meaning.specs.Operating.from_short_to to a) s e)
  from_short prim.Boolean a q s e l st x f = record { by = tt }
  from_short prim.Byte a q s e l st x f = step_to codes limits l (I a ∷ st) s x.0 (done codes limits f tt)
  from_short prim.Short a q s e l st x f = done codes limits f tt
  from_short prim.Char a q s e l st x f = step_to codes limits l (I a ∷ st) s x.0 (done codes limits f tt)
  from_short prim.Int a q s e l st x f = done codes limits f tt
  from_short prim.Long a q s e l st x f = step_to codes limits l (I a ∷ st) s x.0 (done codes limits f tt)

  from_char : (to : Primitive) (a : ℕ) (q : ℕ) (s : State) (e : Env) (l st : List Word) → AllAt c.body h q (from_char_code to) → Fits c.body g e l
      → Sim codes limits c h g (land_value funs codes limits c Unboxed (end_all q (from_char_code to)) st) Any (at codes limits c q l (I (pos a) ∷ st) s) (found (Rattle.source_meaning.specs.Operating.from_char_to to a) s e)
  from_char prim.Boolean a q s e l st x f = record { by = tt }
  from_char prim.Byte a q s e l st x f = step_to codes limits l (I (pos a) ∷ st) s x.0 (done codes limits f tt)
  from_char prim.Short a q s e l st x f = step_to codes limits l (I (pos a) ∷ st) s x.0 (done codes limits f tt)
  from_char prim.Char a q s e l st x f = done codes limits f tt
  from_char prim.Int a q s e l st x f = done codes limits f tt
  from_char prim.Long a q s e l st x f = step_to codes limits l (I (pos a) ∷ st) s x.0 (done codes limits f tt)

  from_flag : (to : Primitive) (a : Bool) (q : ℕ) (s : State) (e : Env) (l st : List Word) → Fits c.body g e l
      → Sim codes limits c h g (land_value funs codes limits c Unboxed q st) Any (at codes limits c q l (I (bit a) ∷ st) s) (found (Rattle.source_meaning.specs.Operating.from_flag_to to a) s e)
  from_flag prim.Boolean a q s e l st f = done codes limits f tt
  from_flag prim.Byte a q s e l st f = record { by = tt }
  from_flag prim.Short a q s e l st f = record { by = tt }
  from_flag prim.Char a q s e l st f = record { by = tt }
  from_flag prim.Int a q s e l st f = record { by = tt }
  from_flag prim.Long a q s e l st f = record { by = tt }

  -- from one primitive to another
  number_runs : (from to : Primitive) (value : Value) (q : ℕ) (s : State) (e : Env) (l st : List Word) → AllAt c.body h q (number_code from to) → Fits c.body g e l
      → Sim codes limits c h g (land_value funs codes limits c Unboxed (end_all q (number_code from to)) st) Any (at codes limits c q l (unboxed value ∷ st) s) (found (number_cast from to value) s e)
  number_runs prim.Boolean to v.Null q s e l st x f = record { by = tt }
  number_runs prim.Boolean to (v.Bool a) q s e l st x f = from_flag to a q s e l st f
  number_runs prim.Boolean to (v.Byte a) q s e l st x f = record { by = tt }
  number_runs prim.Boolean to (v.Short a) q s e l st x f = record { by = tt }
  number_runs prim.Boolean to (v.Char a) q s e l st x f = record { by = tt }
  number_runs prim.Boolean to (v.Int a) q s e l st x f = record { by = tt }
  number_runs prim.Boolean to (v.Long a) q s e l st x f = record { by = tt }
  number_runs prim.Boolean to (v.Str a) q s e l st x f = record { by = tt }
  number_runs prim.Boolean to (v.Ref a) q s e l st x f = record { by = tt }
  number_runs prim.Byte to v.Null q s e l st x f = record { by = tt }
  number_runs prim.Byte to (v.Bool a) q s e l st x f = record { by = tt }
  number_runs prim.Byte to (v.Byte a) q s e l st x f = from_byte to a q s e l st x f
  number_runs prim.Byte to (v.Short a) q s e l st x f = record { by = tt }
  number_runs prim.Byte to (v.Char a) q s e l st x f = record { by = tt }
  number_runs prim.Byte to (v.Int a) q s e l st x f = record { by = tt }
  number_runs prim.Byte to (v.Long a) q s e l st x f = record { by = tt }
  number_runs prim.Byte to (v.Str a) q s e l st x f = record { by = tt }
  number_runs prim.Byte to (v.Ref a) q s e l st x f = record { by = tt }
  number_runs prim.Short to v.Null q s e l st x f = record { by = tt }
  number_runs prim.Short to (v.Bool a) q s e l st x f = record { by = tt }
  number_runs prim.Short to (v.Byte a) q s e l st x f = record { by = tt }
  number_runs prim.Short to (v.Short a) q s e l st x f = from_short to a q s e l st x f
  number_runs prim.Short to (v.Char a) q s e l st x f = record { by = tt }
  number_runs prim.Short to (v.Int a) q s e l st x f = record { by = tt }
  number_runs prim.Short to (v.Long a) q s e l st x f = record { by = tt }
  number_runs prim.Short to (v.Str a) q s e l st x f = record { by = tt }
  number_runs prim.Short to (v.Ref a) q s e l st x f = record { by = tt }
  number_runs prim.Char to v.Null q s e l st x f = record { by = tt }
  number_runs prim.Char to (v.Bool a) q s e l st x f = record { by = tt }
  number_runs prim.Char to (v.Byte a) q s e l st x f = record { by = tt }
  number_runs prim.Char to (v.Short a) q s e l st x f = record { by = tt }
  number_runs prim.Char to (v.Char a) q s e l st x f = from_char to a q s e l st x f
  number_runs prim.Char to (v.Int a) q s e l st x f = record { by = tt }
  number_runs prim.Char to (v.Long a) q s e l st x f = record { by = tt }
  number_runs prim.Char to (v.Str a) q s e l st x f = record { by = tt }
  number_runs prim.Char to (v.Ref a) q s e l st x f = record { by = tt }
  number_runs prim.Int to v.Null q s e l st x f = record { by = tt }
  number_runs prim.Int to (v.Bool a) q s e l st x f = record { by = tt }
  number_runs prim.Int to (v.Byte a) q s e l st x f = record { by = tt }
  number_runs prim.Int to (v.Short a) q s e l st x f = record { by = tt }
  number_runs prim.Int to (v.Char a) q s e l st x f = record { by = tt }
  number_runs prim.Int to (v.Int a) q s e l st x f = from_int to a q s e l st x f
  number_runs prim.Int to (v.Long a) q s e l st x f = record { by = tt }
  number_runs prim.Int to (v.Str a) q s e l st x f = record { by = tt }
  number_runs prim.Int to (v.Ref a) q s e l st x f = record { by = tt }
  number_runs prim.Long to v.Null q s e l st x f = record { by = tt }
  number_runs prim.Long to (v.Bool a) q s e l st x f = record { by = tt }
  number_runs prim.Long to (v.Byte a) q s e l st x f = record { by = tt }
  number_runs prim.Long to (v.Short a) q s e l st x f = record { by = tt }
  number_runs prim.Long to (v.Char a) q s e l st x f = record { by = tt }
  number_runs prim.Long to (v.Int a) q s e l st x f = record { by = tt }
  number_runs prim.Long to (v.Long a) q s e l st x f = from_long to a q s e l st x f
  number_runs prim.Long to (v.Str a) q s e l st x f = record { by = tt }
  number_runs prim.Long to (v.Ref a) q s e l st x f = record { by = tt }

  box_runs : (p : Primitive) (value : Value) (q : ℕ) (s : State) (e : Env) (l st st' : List Word) → Fits c.body g e l
      → Sim codes limits c h g (land_value funs codes limits c Boxed (suc q) st) Any (on_value (boxed p (unboxed value)) (λ value. to_line (frame codes limits c q l st' s) c.below s.world (suc q) (R value ∷ st))) (found (in_box p value) s e)
  box_runs prim.Boolean v.Null q s e l st st' f = record { by = tt }
  box_runs prim.Boolean (v.Bool true) q s e l st st' f = done codes limits f tt
  box_runs prim.Boolean (v.Bool false) q s e l st st' f = done codes limits f tt
  box_runs prim.Boolean (v.Byte a) q s e l st st' f = record { by = tt }
  box_runs prim.Boolean (v.Short a) q s e l st st' f = record { by = tt }
  box_runs prim.Boolean (v.Char a) q s e l st st' f = record { by = tt }
  box_runs prim.Boolean (v.Int a) q s e l st st' f = record { by = tt }
  box_runs prim.Boolean (v.Long a) q s e l st st' f = record { by = tt }
  box_runs prim.Boolean (v.Str a) q s e l st st' f = record { by = tt }
  box_runs prim.Boolean (v.Ref a) q s e l st st' f = record { by = tt }
  box_runs prim.Byte v.Null q s e l st st' f = record { by = tt }
  box_runs prim.Byte (v.Bool a) q s e l st st' f = record { by = tt }
  box_runs prim.Byte (v.Byte a) q s e l st st' f = done codes limits f tt
  box_runs prim.Byte (v.Short a) q s e l st st' f = record { by = tt }
  box_runs prim.Byte (v.Char a) q s e l st st' f = record { by = tt }
  box_runs prim.Byte (v.Int a) q s e l st st' f = record { by = tt }
  box_runs prim.Byte (v.Long a) q s e l st st' f = record { by = tt }
  box_runs prim.Byte (v.Str a) q s e l st st' f = record { by = tt }
  box_runs prim.Byte (v.Ref a) q s e l st st' f = record { by = tt }
  box_runs prim.Short v.Null q s e l st st' f = record { by = tt }
  box_runs prim.Short (v.Bool a) q s e l st st' f = record { by = tt }
  box_runs prim.Short (v.Byte a) q s e l st st' f = record { by = tt }
  box_runs prim.Short (v.Short a) q s e l st st' f = done codes limits f tt
  box_runs prim.Short (v.Char a) q s e l st st' f = record { by = tt }
  box_runs prim.Short (v.Int a) q s e l st st' f = record { by = tt }
  box_runs prim.Short (v.Long a) q s e l st st' f = record { by = tt }
  box_runs prim.Short (v.Str a) q s e l st st' f = record { by = tt }
  box_runs prim.Short (v.Ref a) q s e l st st' f = record { by = tt }
  box_runs prim.Char v.Null q s e l st st' f = record { by = tt }
  box_runs prim.Char (v.Bool a) q s e l st st' f = record { by = tt }
  box_runs prim.Char (v.Byte a) q s e l st st' f = record { by = tt }
  box_runs prim.Char (v.Short a) q s e l st st' f = record { by = tt }
  box_runs prim.Char (v.Char a) q s e l st st' f = done codes limits f tt
  box_runs prim.Char (v.Int a) q s e l st st' f = record { by = tt }
  box_runs prim.Char (v.Long a) q s e l st st' f = record { by = tt }
  box_runs prim.Char (v.Str a) q s e l st st' f = record { by = tt }
  box_runs prim.Char (v.Ref a) q s e l st st' f = record { by = tt }
  box_runs prim.Int v.Null q s e l st st' f = record { by = tt }
  box_runs prim.Int (v.Bool a) q s e l st st' f = record { by = tt }
  box_runs prim.Int (v.Byte a) q s e l st st' f = record { by = tt }
  box_runs prim.Int (v.Short a) q s e l st st' f = record { by = tt }
  box_runs prim.Int (v.Char a) q s e l st st' f = record { by = tt }
  box_runs prim.Int (v.Int a) q s e l st st' f = done codes limits f tt
  box_runs prim.Int (v.Long a) q s e l st st' f = record { by = tt }
  box_runs prim.Int (v.Str a) q s e l st st' f = record { by = tt }
  box_runs prim.Int (v.Ref a) q s e l st st' f = record { by = tt }
  box_runs prim.Long v.Null q s e l st st' f = record { by = tt }
  box_runs prim.Long (v.Bool a) q s e l st st' f = record { by = tt }
  box_runs prim.Long (v.Byte a) q s e l st st' f = record { by = tt }
  box_runs prim.Long (v.Short a) q s e l st st' f = record { by = tt }
  box_runs prim.Long (v.Char a) q s e l st st' f = record { by = tt }
  box_runs prim.Long (v.Int a) q s e l st st' f = record { by = tt }
  box_runs prim.Long (v.Long a) q s e l st st' f = done codes limits f tt
  box_runs prim.Long (v.Str a) q s e l st st' f = record { by = tt }
  box_runs prim.Long (v.Ref a) q s e l st st' f = record { by = tt }

  box_after : (p : Primitive) (o : Option Value) (s : State) (e : Env) → bind (found o s e) (λ value s e. found (in_box p value) s e) ≡ operated (gives_if (box_if p o)) s e
  box_after p None s e = refl
  box_after p (Some value) s e = boxed_gives (in_box p value)
    where
      boxed_gives : (o : Option Value) → found o s e ≡ operated (gives_if o) s e
      boxed_gives None = refl
      boxed_gives (Some value) = refl

  found_gives : (o : Option Value) (s : State) (e : Env) → found o s e ≡ operated (gives_if o) s e
  found_gives None s e = refl
  found_gives (Some value) s e = refl

  -- what is taken out of a box, and goes on as a number
  abbrev goes_on : Primitive → Primitive → Effect → State → Env → Out Value
  goes_on p q given s e = bind (operated (Acts given) s e) (λ value s e. found (number_cast p q value) s e)

  given_goes_on : (p q : Primitive) (value : Value) (s : State) (e : Env) → goes_on p q (effect s.world.store (outcome.Gives value)) s e ≡ operated (unwrapped p q (outcome.Gives value) s.world.store) s e
  unfolding acts_in
  given_goes_on p q value s e = found_gives (number_cast p q value) s e

  thrown_goes_on : (p q : Primitive) (o : Option Store) (id : ℕ) (s : State) (e : Env)
      → goes_on p q (after_paying o (λ paid. Throws id paid)) s e ≡ operated (Acts (after_paying o (λ paid. Throws id paid))) s e
  unfolding acts_in
  thrown_goes_on p q None id s e = refl
  thrown_goes_on p q (Some paid) id s e = refl

  unwrapped_runs : (p q : Primitive) (o : Outcome) (s : State) (e : Env) {land : Value → State → List Word → Next} {good : Value → Type 0} {n : Next}
      → Sim codes limits c h g land good n (goes_on p q (effect s.world.store o) s e) → Sim codes limits c h g land good n (operated (unwrapped p q o s.world.store) s e)
  unwrapped_runs p q (outcome.Gives value) s e {land = land} {good = good} {n = n} d = subst (λ o. Sim codes limits c h g land good n o) (given_goes_on p q value s e) d
  unwrapped_runs p q (outcome.Throws raised message) s e {land = land} {good = good} {n = n} d =
      subst (λ o. Sim codes limits c h g land good n o) (thrown_goes_on p q _ (length s.world.store.objects) s e) d
  unwrapped_runs p q (outcome.Makes text) s e d = record { by = tt }
  unwrapped_runs p q outcome.NoMemory s e d = record { by = tt }

-- casts that are done when the script runs
module _ (funs : Programs) (codes : Codes) (limits : Limits) (reads : ReadsBack) (c : Ctx codes) (h : Handlers) (g : Scope) where
  -- the type of an instruction
  pub type_read : (of : Ty) (next : Ty → Next) → is_known of ≡ true → {land : Value → State → List Word → Next} {good : Value → Type 0} {o : Out Value}
      → Sim codes limits c h g land good (next of) o → Sim codes limits c h g land good (on_type (type_of_full (full_text of)) next) o
  type_read of next known {land = land} {good = good} {o = o} d = subst (λ x. Sim codes limits c h g land good (on_type x next) o) (sym (reads of known)) d

  -- to any type but a primitive
  boxed_runs : (to : Ty) (w : Way) (value : Value) (q : ℕ) (s : State) (e : Env) (l st : List Word) → is_known to ≡ true → AllAt c.body h q (i.Cast (full_text to) w ∷ []) → Fits c.body g e l
      → Sim codes limits c h g (land_value funs codes limits c Boxed (suc q) st) Any (at codes limits c q l (R value ∷ st) s) (operated (Acts (effect s.world.store (cast_at_run_time s.world.store.objects value to (is_written w)))) s e)
  boxed_runs to w value q s e l st known x f =
      step_to codes limits l (R value ∷ st) s x.0
      (type_read to _ known
      (outcome_runs funs codes limits c h g q _ s e l st (R value ∷ st) Boxed R (λ value. refl) x.0 f (acts_in s.world (effect s.world.store (cast_at_run_time s.world.store.objects value to (is_written w))))))

  -- to a primitive
  primitive_runs : (p : Primitive) (w : Way) (value : Value) (q : ℕ) (s : State) (e : Env) (l st : List Word) → AllAt c.body h q (i.Unboxing p w ∷ []) → Fits c.body g e l
      → Sim codes limits c h g (land_value funs codes limits c Unboxed (suc q) st) Any (at codes limits c q l (R value ∷ st) s) (operated (Acts (effect s.world.store (cast_at_run_time s.world.store.objects value (t.Prim p) (is_written w)))) s e)
  primitive_runs p w value q s e l st x f =
      step_to codes limits l (R value ∷ st) s x.0
      (outcome_runs funs codes limits c h g q _ s e l st (R value ∷ st) Unboxed unboxed (λ value. refl) x.0 f (acts_in s.world (effect s.world.store (cast_at_run_time s.world.store.objects value (t.Prim p) (is_written w)))))

  layer_runs : (y : Ty-F Ty) (to : Ty) (w : Way) (value : Value) (q : ℕ) (s : State) (e : Env) (l st : List Word) → out-Ty to ≡ y → is_known to ≡ true → AllAt c.body h q (run_time_code_layer y to w) → Fits c.body g e l
      → Sim codes limits c h g (land_value funs codes limits c (run_time_representation y) (end_all q (run_time_code_layer y to w)) st) Any (at codes limits c q l (R value ∷ st) s)
      (operated (Acts (effect s.world.store (cast_at_run_time s.world.store.objects value to (is_written w)))) s e)
  layer_runs (Ty-F.Prim p) to w value q s e l st is known x f =
      subst (λ to. Sim codes limits c h g (land_value funs codes limits c Unboxed (suc q) st) Any (at codes limits c q l (R value ∷ st) s) (operated (Acts (effect s.world.store (cast_at_run_time s.world.store.objects value to (is_written w)))) s e))
      (sym (rolled_primitive p to is)) (primitive_runs p w value q s e l st x f)
  layer_runs Ty-F.Void to w value q s e l st is known x f = boxed_runs to w value q s e l st known x f
  layer_runs Ty-F.Null to w value q s e l st is known x f = boxed_runs to w value q s e l st known x f
  layer_runs Ty-F.Def to w value q s e l st is known x f = boxed_runs to w value q s e l st known x f
  layer_runs (Ty-F.Class class) to w value q s e l st is known x f = boxed_runs to w value q s e l st known x f
  layer_runs (Ty-F.Array elem) to w value q s e l st is known x f = boxed_runs to w value q s e l st known x f

  -- a char as a text
  text_runs : (value : Value) (q : ℕ) (s : State) (e : Env) (l st : List Word) → AllAt c.body h q (i.Boxing prim.Char ∷ i.Cast (full_text (t.Class STRING)) way.Explicit ∷ []) → Fits c.body g e l
      → Sim codes limits c h g (land_value funs codes limits c Boxed (suc (suc q)) st) Any (at codes limits c q l (unboxed value ∷ st) s) (operated (text_if (in_box prim.Char value) s.world.store) s e)
  text_runs (v.Char a) q s e l st x f = step_to codes limits l (unboxed (v.Char a) ∷ st) s x.0 (boxed_runs (t.Class STRING) way.Explicit _ (suc q) s e l st string_is_known x.1 f)
  text_runs v.Null q s e l st x f = record { by = tt }
  text_runs (v.Bool a) q s e l st x f = record { by = tt }
  text_runs (v.Byte a) q s e l st x f = record { by = tt }
  text_runs (v.Short a) q s e l st x f = record { by = tt }
  text_runs (v.Int a) q s e l st x f = record { by = tt }
  text_runs (v.Long a) q s e l st x f = record { by = tt }
  text_runs (v.Str a) q s e l st x f = record { by = tt }
  text_runs (v.Ref a) q s e l st x f = record { by = tt }

  cast_does : (x : Cast) (to : Ty) (value : Value) (k : Representation) (q : ℕ) (s : State) (e : Env) (l st : List Word) → k ≡ cast_takes x k → AsksKnown x to → AllAt c.body h q (cast_code x to) → Fits c.body g e l
      → Sim codes limits c h g (land_value funs codes limits c (cast_gives x to k) (end_all q (cast_code x to)) st) Any (at codes limits c q l (pushed (low k value) st) s) (operated (casts x to value s.world.store) s e)
  cast_does cast.Keep to value k q s e l st is asks x f = done codes limits f tt
  cast_does (cast.Number from onto) to value Unboxed q s e l st is asks x f =
      subst (λ o. Sim codes limits c h g (land_value funs codes limits c Unboxed (end_all q (number_code from onto)) st) Any (at codes limits c q l (unboxed value ∷ st) s) o) (found_gives funs codes limits c h g (number_cast from onto value) s e)
      (number_runs funs codes limits c h g from onto value q s e l st x f)
  cast_does (cast.Number from onto) to value Boxed q s e l st is asks x f = absurd (boxed_unboxed is)
  cast_does (cast.Number from onto) to value Absent q s e l st is asks x f = absurd (absent_unboxed is)
  cast_does (cast.Wrap from onto) to value Unboxed q s e l st is asks x f =
      let first = all_first c.body h q (number_code from onto) (i.Boxing onto ∷ []) x in
      let second = all_second c.body h q (number_code from onto) (i.Boxing onto ∷ []) x in
      subst (λ p. Sim codes limits c h g (land_value funs codes limits c Boxed p st) Any (at codes limits c q l (unboxed value ∷ st) s) (operated (casts (cast.Wrap from onto) to value s.world.store) s e)) (sym (end_both q (number_code from onto) (i.Boxing onto ∷ [])))
      (subst (λ o. Sim codes limits c h g (land_value funs codes limits c Boxed (suc (end_all q (number_code from onto))) st) Any (at codes limits c q l (unboxed value ∷ st) s) o) (box_after funs codes limits c h g onto (number_cast from onto value) s e)
      (and_then codes limits (number_runs funs codes limits c h g from onto value q s e l st first f) (λ value s e l f _.
      step_to codes limits l (unboxed value ∷ st) s second.0 (box_runs funs codes limits c h g onto value _ s e l st (unboxed value ∷ st) f))))
  cast_does (cast.Wrap from onto) to value Boxed q s e l st is asks x f = absurd (boxed_unboxed is)
  cast_does (cast.Wrap from onto) to value Absent q s e l st is asks x f = absurd (absent_unboxed is)
  cast_does (cast.Unwrap from onto) to value Boxed q s e l st is asks x f =
      unwrapped_runs funs codes limits c h g from onto (cast_at_run_time s.world.store.objects value (t.Prim from) false) s e
      (and_then codes limits (primitive_runs from way.Implicit value q s e l st (x.0, tt) f) (λ value s e l f _. number_runs funs codes limits c h g from onto value (suc q) s e l st x.1 f))
  cast_does (cast.Unwrap from onto) to value Unboxed q s e l st is asks x f = absurd (unboxed_boxed is)
  cast_does (cast.Unwrap from onto) to value Absent q s e l st is asks x f = absurd (absent_boxed is)
  cast_does cast.Implicit to value Boxed q s e l st is asks x f = layer_runs (out-Ty to) to way.Implicit value q s e l st refl asks x f
  cast_does cast.Implicit to value Unboxed q s e l st is asks x f = absurd (unboxed_boxed is)
  cast_does cast.Implicit to value Absent q s e l st is asks x f = absurd (absent_boxed is)
  cast_does cast.Explicit to value Boxed q s e l st is asks x f = layer_runs (out-Ty to) to way.Explicit value q s e l st refl asks x f
  cast_does cast.Explicit to value Unboxed q s e l st is asks x f = absurd (unboxed_boxed is)
  cast_does cast.Explicit to value Absent q s e l st is asks x f = absurd (absent_boxed is)
  cast_does cast.CharToText to value Unboxed q s e l st is asks x f = text_runs value q s e l st x f
  cast_does cast.CharToText to value Boxed q s e l st is asks x f = absurd (boxed_unboxed is)
  cast_does cast.CharToText to value Absent q s e l st is asks x f = absurd (absent_unboxed is)
  cast_does cast.TextToChar to value Boxed q s e l st is asks x f = primitive_runs prim.Char way.Explicit value q s e l st x f
  cast_does cast.TextToChar to value Unboxed q s e l st is asks x f = absurd (unboxed_boxed is)
  cast_does cast.TextToChar to value Absent q s e l st is asks x f = absurd (absent_boxed is)

  -- each cast to a type, of what is represented as it takes it
  pub cast_runs : (x : Cast) (to : Ty) (given gives : Representation) → CastFits x to given gives → (value : Value) (q : ℕ) (s : State) (e : Env) (l st : List Word) → AllAt c.body h q (cast_code x to) → Fits c.body g e l
      → Sim codes limits c h g (land_value funs codes limits c gives (end_all q (cast_code x to)) st) Any (at codes limits c q l (pushed (low given value) st) s) (operated (casts x to value s.world.store) s e)
  cast_runs x to given gives fits value q s e l st a f =
      subst (λ k. Sim codes limits c h g (land_value funs codes limits c k (end_all q (cast_code x to)) st) Any (at codes limits c q l (pushed (low given value) st) s) (operated (casts x to value s.world.store) s e)) (sym fits.representation)
      (cast_does x to value given q s e l st fits.takes fits.asks a f)
