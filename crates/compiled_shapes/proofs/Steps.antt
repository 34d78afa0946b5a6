-- What the instructions of each strict part take and leave, by the types of its operands.
use Rattle.std.proofs.Common.{◌≡◌, ℕ, ℤ, pos, ◌+◌, leb, true, false, not, List, [], ◌∷◌, ◌++◌, reverse, length, Some, refl, sym, ap, ◌∙◌, subst, arith, option_map, append_assoc, length-append}
use Rattle.std.specs.Prelude.{slice_get}
use Rattle.std.proofs.lemmas.List.{reverse-append}
use Rattle.std.proofs.lemmas.Bool.{lt-leb}
use Rattle.std.proofs.lemmas.Option.{slice_get_within}
use Rattle.pl_types.specs.declared.primitive.Primitive.{Primitive}
use Rattle.pl_types.specs.declared.primitive.Primitive.TheVariants as prim
use Rattle.pl_types.specs.declared.ty.Ty.{Ty, out-Ty}
use Rattle.pl_types.specs.declared.ty.Ty.TheVariants as t
use Rattle.pl_types.specs.declared.ty.Ty.TheOpen.{Ty-F}
use Rattle.pl_types.specs.Texts.{full_text}
use Rattle.pl_types.specs.declared.conversion.Cast.{Cast}
use Rattle.pl_types.specs.declared.conversion.Cast.TheVariants as cast
use Rattle.arithmetic.specs.declared.operator.Op.{Op}
use Rattle.arithmetic.specs.declared.operator.Op.TheVariants as op
use Rattle.pl_code.specs.declared.kinds.ArithmeticOp.{ArithmeticOp}
use Rattle.pl_code.specs.declared.kinds.ArithmeticOp.TheVariants as a
use Rattle.pl_code.specs.declared.kinds.Width.{Width}
use Rattle.pl_code.specs.declared.kinds.Width.TheVariants as width
use Rattle.pl_code.specs.declared.kinds.DynamicOp.{DynamicOp}
use Rattle.pl_code.specs.declared.kinds.DynamicOp.TheVariants as dynamic
use Rattle.number_ops.specs.Operators.{is_unary}
use Rattle.pl_code.specs.declared.kinds.Plain.{Plain}
use Rattle.pl_code.specs.declared.kinds.Plain.TheVariants as plain
use Rattle.pl_code.specs.declared.kinds.Numbered.TheVariants as numbered
use Rattle.pl_code.specs.declared.kinds.Typed.TheVariants as typed
use Rattle.pl_code.specs.declared.kinds.Way.{Way}
use Rattle.pl_code.specs.declared.kinds.Way.TheVariants as way
use Rattle.pl_code.specs.declared.kinds.Slot.{Slot}
use Rattle.pl_code.specs.declared.kinds.Slot.TheVariants.{I, J, R}
use Rattle.pl_code.specs.declared.code.FunCode.{FunCode}
use Rattle.pl_code.specs.declared.code.Instruction.{Instruction}
use Rattle.pl_code.specs.declared.code.Instruction.TheVariants as i
use Rattle.allowlist.specs.Allow.{AllowList}
use Rattle.instruction_types.specs.Types.{kind_of_primitive as boxed_kind}
use Rattle.instruction_types.specs.declared.flow.Flow.TheVariants as flow
use Rattle.instruction_types.specs.Effects.{Exchanges, taken, left_by, one, result_kinds, plain_effect, kind_of_width, arithmetic_effect, dynamic_effect, local_kind, loads, stores, calls, effect_of, plain_flow, flow_of}
use Rattle.instruction_types.specs.Faults.{is_bad_target, is_bad_member}
use Rattle.verifier.specs.Meets.{left_in}
use Rattle.typed_tree.specs.declared.operation.Constant.{Constant}
use Rattle.typed_tree.specs.declared.operation.Constant.TheVariants as constant
use Rattle.typed_tree.specs.declared.operation.Operator.{Operator}
use Rattle.typed_tree.specs.declared.operation.Operator.TheVariants as operator
use Rattle.typed_tree.specs.declared.operation.Gives.{Gives}
use Rattle.typed_tree.specs.declared.operation.Gives.TheVariants as gives
use Rattle.object_values.specs.declared.object.Owner.{Owner}
use Rattle.program_typing.specs.Tree.{Variable, Fun, Program}
use Rattle.compiler_relation.specs.Representation.{representation_of_layer, representation_of, kind_of_primitive, kind_of_layer, kind_of, result_of_layer}
use Rattle.compiler_relation.specs.Parts.{text_code, constant_code, default_code_layer, default_code, arithmetic_code, boolean_code, turned_round, dynamic_code, operator_code, from_int_code, number_code, run_time_code_layer, run_time_code, cast_code, pops, kept_before, kept_behind}
use Rattle.compiler_relation.specs.Stands.{HasLocal, kinds_of, Compiled}
use Rattle.program_typing.specs.Types.{is_reference_layer, IsReference, has_values_layer, HasValues, IsOf, TakesNumbers, TakesFlags, TakesReferences, IsDefOf, def_given, string, Takes, Converts, IsNamed, Keeps, Same, References, Casts}
use Rattle.program_typing.specs.Agreeing.{types_in, IsKnownBefore, HaveValues}
use Rattle.compiled_shapes.proofs.Named.{IsListedLayer, listed_has_values, named_is_known, string_named}
use Rattle.compiled_shapes.proofs.Runs.{Passes, Straight}
use Rattle.compiled_shapes.proofs.Parts.{push, push_types, kept}

-- ---- values of types on the stack

abbrev pub push_layer : Ty-F Ty → List Slot → List Slot
push_layer l s = result_kinds (result_of_layer l) ++ s

push_prim : (p : Primitive) (s : List Slot) → push (t.Prim p) s ≡ kind_of_primitive p ∷ s
unfolding out-Ty denote.Hole.Carrier.out
push_prim p s = refl

pub push_is : (of : Ty) (p : Primitive) (s : List Slot) → of ≡ t.Prim p → push of s ≡ kind_of_primitive p ∷ s
push_is of p s x = ap (λ of. push of s) x ∙ push_prim p s

reference_layer : (l : Ty-F Ty) (s : List Slot) → is_reference_layer l → push_layer l s ≡ R ∷ s
reference_layer Ty-F.Void s r = absurd r
reference_layer Ty-F.Null s r = refl
reference_layer Ty-F.Def s r = refl
reference_layer (Ty-F.Prim p) s r = absurd r
reference_layer (Ty-F.Class class) s r = refl
reference_layer (Ty-F.Array of) s r = refl

pub push_reference : (of : Ty) (s : List Slot) → IsReference of → push of s ≡ R ∷ s
push_reference of s r = reference_layer (out-Ty of) s r

value_layer : (l : Ty-F Ty) (s : List Slot) → has_values_layer l → push_layer l s ≡ kind_of_layer l ∷ s
value_layer Ty-F.Void s h = absurd h
value_layer Ty-F.Null s h = refl
value_layer Ty-F.Def s h = refl
value_layer (Ty-F.Prim p) s h = refl
value_layer (Ty-F.Class class) s h = refl
value_layer (Ty-F.Array of) s h = refl

pub push_value : (of : Ty) (s : List Slot) → HasValues of → push of s ≡ kind_of of ∷ s
push_value of s h = value_layer (out-Ty of) s h

string_reference : IsReference string
unfolding out-Ty denote.Hole.Carrier.out
string_reference = tt

pub class_reference : (class : ℕ) → IsReference (t.Class class)
unfolding out-Ty denote.Hole.Carrier.out
class_reference class = tt

def_reference : IsReference t.Def
unfolding out-Ty denote.Hole.Carrier.out
def_reference = tt

pub class_values : (class : ℕ) → HasValues (t.Class class)
unfolding out-Ty denote.Hole.Carrier.out
class_values class = tt

-- a text
pub push_text : (of : Ty) (s : List Slot) → of ≡ string → push of s ≡ R ∷ s
push_text of s x = ap (λ of. push of s) x ∙ push_reference string s string_reference

pub two_references : (x y : Ty) (s : List Slot) → IsReference x → IsReference y → push y (push x s) ≡ R ∷ R ∷ s
two_references x y s e g = ap (push y) (push_reference x s e) ∙ push_reference y (R ∷ s) g

two : (x y : Ty) (p q : Primitive) (j k : Slot) (s : List Slot) → x ≡ t.Prim p → y ≡ t.Prim q → kind_of_primitive p ≡ j → kind_of_primitive q ≡ k → push y (push x s) ≡ k ∷ j ∷ s
two x y p q j k s e g kinds kinds' = ap (push y) (push_is x p s e ∙ ap (λ k. k ∷ s) kinds) ∙ push_is y q (j ∷ s) g ∙ ap (λ k. k ∷ j ∷ s) kinds'

given : (of : Ty) (p : Primitive) (k : Slot) (s : List Slot) → of ≡ t.Prim p → kind_of_primitive p ≡ k → push of s ≡ k ∷ s
given of p k s e kinds = push_is of p s e ∙ ap (λ k. k ∷ s) kinds

-- ---- exchanges

pub single : (k g : Slot) (s : List Slot) → left_by (Exchanges (one k) (one g)) (k ∷ s) ≡ Some (g ∷ s)
unfolding left_by
single I g s = refl
single J g s = refl
single R g s = refl

pub both : (k g : Slot) (s : List Slot) → left_by (Exchanges (k ∷ k ∷ []) (one g)) (k ∷ k ∷ s) ≡ Some (g ∷ s)
unfolding left_by
both I g s = refl
both J g s = refl
both R g s = refl

shift : (k : Slot) (s : List Slot) → left_by (Exchanges (I ∷ k ∷ []) (one k)) (I ∷ k ∷ s) ≡ Some (k ∷ s)
unfolding left_by
shift I s = refl
shift J s = refl
shift R s = refl

pub taken_own : (ks s : List Slot) → taken ks (ks ++ s) ≡ Some s
taken_own [] s = refl
taken_own (I ∷ ks) s = taken_own ks s
taken_own (J ∷ ks) s = taken_own ks s
taken_own (R ∷ ks) s = taken_own ks s

stored : (k : Slot) (s : List Slot) → left_by (stores k) (k ∷ s) ≡ Some s
unfolding left_by
stored I s = refl
stored J s = refl
stored R s = refl

pub boxed : (p : Primitive) → boxed_kind p ≡ kind_of_primitive p
boxed prim.Boolean = refl
boxed prim.Byte = refl
boxed prim.Short = refl
boxed prim.Char = refl
boxed prim.Int = refl
boxed prim.Long = refl

pub reverse_cons : (k : Slot) (ks s : List Slot) → reverse ks ++ (k ∷ s) ≡ reverse (k ∷ ks) ++ s
reverse_cons k ks s = sym (append_assoc (reverse ks) (k ∷ []) s) ∙ ap (λ l. l ++ s) (sym (reverse-append (k ∷ []) ks))

pushed_kinds : (xs : List Variable) (s : List Slot) → HaveValues xs → push_types (types_in xs) s ≡ reverse (kinds_of xs) ++ s
pushed_kinds [] s h = refl
pushed_kinds (x ∷ xs) s h = pushed_kinds xs (push x.of s) h.1 ∙ ap (λ t. reverse (kinds_of xs) ++ t) (push_value x.of s h.0) ∙ reverse_cons (kind_of x.of) (kinds_of xs) s

module _ (allow : AllowList) (functions : List FunCode) (f : FunCode) where
  -- ---- one instruction

  pub only : {s s' t t' : List Slot} {instruction : Instruction} → Passes allow functions f instruction s' t' → s ≡ s' → t ≡ t' → Straight allow functions f (instruction ∷ []) s t
  only {s} {s'} {t} {t'} {instruction} x e g = (t', subst (λ s. Passes allow functions f instruction s t') (sym e) x, sym g)

  pub int_passes : (n : ℤ) (s : List Slot) → Passes allow functions f (i.Int n) s (I ∷ s)
  unfolding is_bad_target is_bad_member flow_of effect_of left_by
  int_passes n s = record { flow = refl; target = refl; member = refl; leaves = refl }

  long_passes : (n : ℤ) (s : List Slot) → Passes allow functions f (i.Long n) s (J ∷ s)
  unfolding is_bad_target is_bad_member flow_of effect_of left_by
  long_passes n s = record { flow = refl; target = refl; member = refl; leaves = refl }

  null_passes : (s : List Slot) → Passes allow functions f (i.Plain plain.Null) s (R ∷ s)
  unfolding is_bad_target is_bad_member flow_of effect_of left_by
  null_passes s = record { flow = refl; target = refl; member = refl; leaves = refl }

  pub pop_passes : (k : Slot) (s : List Slot) → Passes allow functions f (i.Plain plain.Pop) (k ∷ s) s
  unfolding is_bad_target is_bad_member flow_of effect_of left_by
  pop_passes k s = record { flow = refl; target = refl; member = refl; leaves = refl }

  pub dup_passes : (k : Slot) (s : List Slot) → Passes allow functions f (i.Plain plain.Dup) (k ∷ s) (k ∷ k ∷ s)
  unfolding is_bad_target is_bad_member flow_of effect_of left_by
  dup_passes k s = record { flow = refl; target = refl; member = refl; leaves = refl }

  arithmetic_passes : (o : ArithmeticOp) (w : Width) (s t : List Slot) → left_by (arithmetic_effect o (kind_of_width w)) s ≡ Some t → Passes allow functions f (i.Arithmetic o w) s t
  unfolding is_bad_target is_bad_member flow_of effect_of
  arithmetic_passes o w s t x = record { flow = refl; target = refl; member = refl; leaves = x }

  pub plain_passes : (p : Plain) (k g : Slot) (s : List Slot) → plain_flow p ≡ flow.GoesOn → plain_effect f.result p ≡ Exchanges (one k) (one g) → Passes allow functions f (i.Plain p) (k ∷ s) (g ∷ s)
  unfolding is_bad_target is_bad_member flow_of effect_of
  plain_passes p k g s w e = record { flow = w; target = refl; member = refl; leaves = ap (λ e. left_by e (k ∷ s)) e ∙ single k g s }

  -- two references for one value
  pair_passes : (p : Plain) (g : Slot) (s : List Slot) → plain_flow p ≡ flow.GoesOn → plain_effect f.result p ≡ Exchanges (R ∷ R ∷ []) (one g)
      → Passes allow functions f (i.Plain p) (R ∷ R ∷ s) (g ∷ s)
  unfolding is_bad_target is_bad_member flow_of effect_of
  pair_passes p g s w e = record { flow = w; target = refl; member = refl; leaves = ap (λ e. left_by e (R ∷ R ∷ s)) e ∙ both R g s }

  -- ---- constants

  text_passes : (text : List ℕ) (s : List Slot) → Passes allow functions f (text_code text) s (R ∷ s)
  unfolding is_bad_target is_bad_member flow_of effect_of left_by
  text_passes text s = record { flow = refl; target = refl; member = refl; leaves = refl }

  pub quoted_passes : (text : List ℕ) (of : Ty) (s : List Slot) → of ≡ string → Passes allow functions f (text_code text) s (push of s)
  quoted_passes text of s x = subst (λ t. Passes allow functions f (text_code text) s t) (sym (push_text of s x)) (text_passes text s)

  pub constant_passes : (c : Constant) (of : Ty) (s : List Slot) → IsOf c of → Passes allow functions f (constant_code c) s (push of s)
  constant_passes constant.Null of s x = subst (λ t. Passes allow functions f (i.Plain plain.Null) s t) (sym (push_reference of s x)) (null_passes s)
  constant_passes (constant.Boolean flag) of s x = subst (λ t. Passes allow functions f (constant_code (constant.Boolean flag)) s t) (sym (push_is of prim.Boolean s x)) (int_passes _ s)
  constant_passes (constant.Byte n) of s x = subst (λ t. Passes allow functions f (i.Int n) s t) (sym (push_is of prim.Byte s x)) (int_passes n s)
  constant_passes (constant.Short n) of s x = subst (λ t. Passes allow functions f (i.Int n) s t) (sym (push_is of prim.Short s x)) (int_passes n s)
  constant_passes (constant.Char unit) of s x = subst (λ t. Passes allow functions f (constant_code (constant.Char unit)) s t) (sym (push_is of prim.Char s x)) (int_passes _ s)
  constant_passes (constant.Int n) of s x = subst (λ t. Passes allow functions f (i.Int n) s t) (sym (push_is of prim.Int s x)) (int_passes n s)
  constant_passes (constant.Long n) of s x = subst (λ t. Passes allow functions f (i.Long n) s t) (sym (push_is of prim.Long s x)) (long_passes n s)

  default_layer : (l : Ty-F Ty) (s : List Slot) → Straight allow functions f (default_code_layer l) s (push_layer l s)
  default_layer Ty-F.Void s = refl
  default_layer Ty-F.Null s = only (null_passes s) refl refl
  default_layer Ty-F.Def s = only (null_passes s) refl refl
  default_layer (Ty-F.Prim prim.Boolean) s = only (int_passes _ s) refl refl
  default_layer (Ty-F.Prim prim.Byte) s = only (int_passes _ s) refl refl
  default_layer (Ty-F.Prim prim.Short) s = only (int_passes _ s) refl refl
  default_layer (Ty-F.Prim prim.Char) s = only (int_passes _ s) refl refl
  default_layer (Ty-F.Prim prim.Int) s = only (int_passes _ s) refl refl
  default_layer (Ty-F.Prim prim.Long) s = only (long_passes _ s) refl refl
  default_layer (Ty-F.Class class) s = only (null_passes s) refl refl
  default_layer (Ty-F.Array of) s = only (null_passes s) refl refl

  pub default_straight : (of : Ty) (s : List Slot) → Straight allow functions f (default_code of) s (push of s)
  default_straight of s = default_layer (out-Ty of) s

  -- ---- operators

  module _ (p : Primitive) (w : Width) (kinds : kind_of_primitive p ≡ kind_of_width w) where
    abbrev k : Slot
    k = kind_of_width w

    -- two numbers for one, for a boolean, and a shift
    number : (o : ArithmeticOp) (x y of : Ty) (s : List Slot) → arithmetic_effect o k ≡ Exchanges (k ∷ k ∷ []) (one k) → x ≡ t.Prim p → y ≡ t.Prim p → of ≡ t.Prim p
        → Straight allow functions f (i.Arithmetic o w ∷ []) (push y (push x s)) (push of s)
    number o x y of s e g h is = only (arithmetic_passes o w (k ∷ k ∷ s) (k ∷ s) (ap (λ e. left_by e (k ∷ k ∷ s)) e ∙ both k k s)) (two x y p p k k s g h kinds kinds) (given of p k s is kinds)

    test : (o : ArithmeticOp) (x y of : Ty) (s : List Slot) → arithmetic_effect o k ≡ Exchanges (k ∷ k ∷ []) (one I) → x ≡ t.Prim p → y ≡ t.Prim p → of ≡ t.Prim prim.Boolean
        → Straight allow functions f (i.Arithmetic o w ∷ []) (push y (push x s)) (push of s)
    test o x y of s e g h is = only (arithmetic_passes o w (k ∷ k ∷ s) (I ∷ s) (ap (λ e. left_by e (k ∷ k ∷ s)) e ∙ both k I s)) (two x y p p k k s g h kinds kinds) (push_is of prim.Boolean s is)

    shifted : (o : ArithmeticOp) (x y of : Ty) (s : List Slot) → arithmetic_effect o k ≡ Exchanges (I ∷ k ∷ []) (one k) → x ≡ t.Prim p → y ≡ t.Prim prim.Int → of ≡ t.Prim p
        → Straight allow functions f (i.Arithmetic o w ∷ []) (push y (push x s)) (push of s)
    shifted o x y of s e g h is = only (arithmetic_passes o w (I ∷ k ∷ s) (k ∷ s) (ap (λ e. left_by e (I ∷ k ∷ s)) e ∙ shift k s)) (two x y p prim.Int k I s g h kinds refl) (given of p k s is kinds)

    signed : (o : ArithmeticOp) (x of : Ty) (s : List Slot) → arithmetic_effect o k ≡ Exchanges (one k) (one k) → x ≡ t.Prim p → of ≡ t.Prim p → Straight allow functions f (i.Arithmetic o w ∷ []) (push x s) (push of s)
    signed o x of s e g is = only (arithmetic_passes o w (k ∷ s) (k ∷ s) (ap (λ e. left_by e (k ∷ s)) e ∙ single k k s)) (given x p k s g kinds) (given of p k s is kinds)

    numbers_one : (o : Op) (x of : Ty) (s : List Slot) → TakesNumbers p o (x ∷ []) of → Straight allow functions f (arithmetic_code o w) (push x s) (push of s)
    numbers_one op.Neg x of s h = signed a.Neg x of s refl h.0 h.1
    numbers_one op.Not x of s h = signed a.Not x of s refl h.0 h.1
    numbers_one o x of s h = absurd h.1

    numbers_two : (o : Op) (x y of : Ty) (s : List Slot) → TakesNumbers p o (x ∷ y ∷ []) of → Straight allow functions f (arithmetic_code o w) (push y (push x s)) (push of s)
    numbers_two op.Add x y of s h = number a.Add x y of s refl h.0 h.1 h.2
    numbers_two op.Sub x y of s h = number a.Sub x y of s refl h.0 h.1 h.2
    numbers_two op.Mul x y of s h = number a.Mul x y of s refl h.0 h.1 h.2
    numbers_two op.Div x y of s h = number a.Div x y of s refl h.0 h.1 h.2
    numbers_two op.Rem x y of s h = number a.Rem x y of s refl h.0 h.1 h.2
    numbers_two op.And x y of s h = number a.And x y of s refl h.0 h.1 h.2
    numbers_two op.Or x y of s h = number a.Or x y of s refl h.0 h.1 h.2
    numbers_two op.Xor x y of s h = number a.Xor x y of s refl h.0 h.1 h.2
    numbers_two op.Shl x y of s h = shifted a.Shl x y of s refl h.0 h.1 h.2
    numbers_two op.Shr x y of s h = shifted a.Shr x y of s refl h.0 h.1 h.2
    numbers_two op.Ushr x y of s h = shifted a.Ushr x y of s refl h.0 h.1 h.2
    numbers_two op.Lt x y of s h = test a.Lt x y of s refl h.0 h.1 h.2
    numbers_two op.Le x y of s h = test a.Le x y of s refl h.0 h.1 h.2
    numbers_two op.Gt x y of s h = test a.Gt x y of s refl h.0 h.1 h.2
    numbers_two op.Ge x y of s h = test a.Ge x y of s refl h.0 h.1 h.2
    numbers_two op.Eq x y of s h = test a.Eq x y of s refl h.0 h.1 h.2
    numbers_two op.Ne x y of s h = test a.Ne x y of s refl h.0 h.1 h.2
    numbers_two op.Neg x y of s h = absurd h.2
    numbers_two op.Not x y of s h = absurd h.2
    numbers_two op.Pos x y of s h = absurd h.2

    numbers : (o : Op) (ofs : List Ty) (of : Ty) (s : List Slot) → TakesNumbers p o ofs of → Straight allow functions f (arithmetic_code o w) (push_types ofs s) (push of s)
    numbers o [] of s h = absurd h
    numbers o (x ∷ []) of s h = numbers_one o x of s h
    numbers o (x ∷ y ∷ []) of s h = numbers_two o x y of s h
    numbers o (x ∷ y ∷ z ∷ ofs) of s h = absurd h

  flags_one : (o : Op) (x of : Ty) (s : List Slot) → TakesFlags o (x ∷ []) of → Straight allow functions f (boolean_code o) (push x s) (push of s)
  flags_one op.Not x of s h =
      let second = arithmetic_passes a.Eq width.Int (I ∷ I ∷ s) (I ∷ s) (both I I s) in
      (_, subst (λ s'. Passes allow functions f (i.Int (pos 0)) s' (I ∷ I ∷ s)) (sym (push_is x prim.Boolean s h.0)) (int_passes (pos 0) (I ∷ s)), (_, second, sym (push_is of prim.Boolean s h.1)))
  flags_one o x of s h = absurd h.1

  flags_two : (o : Op) (x y of : Ty) (s : List Slot) → TakesFlags o (x ∷ y ∷ []) of → Straight allow functions f (boolean_code o) (push y (push x s)) (push of s)
  flags_two op.And x y of s h = test prim.Boolean width.Int refl a.And x y of s refl h.0 h.1 h.2
  flags_two op.Or x y of s h = test prim.Boolean width.Int refl a.Or x y of s refl h.0 h.1 h.2
  flags_two op.Xor x y of s h = test prim.Boolean width.Int refl a.Xor x y of s refl h.0 h.1 h.2
  flags_two op.Eq x y of s h = test prim.Boolean width.Int refl a.Eq x y of s refl h.0 h.1 h.2
  flags_two op.Ne x y of s h = test prim.Boolean width.Int refl a.Ne x y of s refl h.0 h.1 h.2
  flags_two o x y of s h = absurd h.2

  flags : (o : Op) (ofs : List Ty) (of : Ty) (s : List Slot) → TakesFlags o ofs of → Straight allow functions f (boolean_code o) (push_types ofs s) (push of s)
  flags o [] of s h = absurd h
  flags o (x ∷ []) of s h = flags_one o x of s h
  flags o (x ∷ y ∷ []) of s h = flags_two o x y of s h
  flags o (x ∷ y ∷ z ∷ ofs) of s h = absurd h

  -- a truth value, the other way round
  turned_straight : (s : List Slot) → Straight allow functions f turned_round (I ∷ s) (I ∷ s)
  turned_straight s = (I ∷ I ∷ s, int_passes (pos 0) (I ∷ s), only (arithmetic_passes a.Eq width.Int (I ∷ I ∷ s) (I ∷ s) (both I I s)) refl refl)

  -- operators on values of any types
  dynamic_passes : (d : DynamicOp) (s t : List Slot) → left_by (dynamic_effect d) s ≡ Some t → Passes allow functions f (i.Dynamic d) s t
  unfolding is_bad_target is_bad_member flow_of effect_of
  dynamic_passes d s t x = record { flow = refl; target = refl; member = refl; leaves = x }

  dynamic_two : (d : DynamicOp) (g : Slot) (ofs : List Ty) (of : Ty) (s : List Slot) → dynamic_effect d ≡ Exchanges (R ∷ R ∷ []) (one g) → IsDefOf false ofs → push of s ≡ g ∷ s
      → Straight allow functions f (i.Dynamic d ∷ []) (push_types ofs s) (push of s)
  dynamic_two d g [] of s e h is = absurd h
  dynamic_two d g (x ∷ []) of s e h is = absurd h
  dynamic_two d g (x ∷ y ∷ []) of s e h is = only (dynamic_passes d (R ∷ R ∷ s) (g ∷ s) (ap (λ e. left_by e (R ∷ R ∷ s)) e ∙ both R g s)) (two_references x y s h.0 h.1) is
  dynamic_two d g (x ∷ y ∷ z ∷ ofs) of s e h is = absurd h

  dynamic_one : (d : DynamicOp) (ofs : List Ty) (of : Ty) (s : List Slot) → dynamic_effect d ≡ Exchanges (one R) (one R) → IsDefOf true ofs → push of s ≡ R ∷ s
      → Straight allow functions f (i.Dynamic d ∷ []) (push_types ofs s) (push of s)
  dynamic_one d [] of s e h is = absurd h
  dynamic_one d (x ∷ []) of s e h is = only (dynamic_passes d (R ∷ s) (R ∷ s) (ap (λ e. left_by e (R ∷ s)) e ∙ single R R s)) (push_reference x s h) is
  dynamic_one d (x ∷ y ∷ ofs) of s e h is = absurd h

  push_def : (of : Ty) (s : List Slot) → Some t.Def ≡ Some of → push of s ≡ R ∷ s
  push_def of s e = let same : t.Def ≡ of = cc in ap (λ of. push of s) (sym same) ∙ push_reference t.Def s def_reference

  push_flag : (of : Ty) (s : List Slot) → Some (t.Prim prim.Boolean) ≡ Some of → push of s ≡ I ∷ s
  push_flag of s e = let same : t.Prim prim.Boolean ≡ of = cc in push_is of prim.Boolean s (sym same)

  dynamic_straight : (o : Op) (ofs : List Ty) (of : Ty) (s : List Slot) → IsDefOf (is_unary o) ofs → def_given o ≡ Some of → Straight allow functions f (dynamic_code o) (push_types ofs s) (push of s)
  dynamic_straight op.Add ofs of s h g = dynamic_two dynamic.Add R ofs of s refl h (push_def of s g)
  dynamic_straight op.Sub ofs of s h g = dynamic_two dynamic.Sub R ofs of s refl h (push_def of s g)
  dynamic_straight op.Mul ofs of s h g = dynamic_two dynamic.Mul R ofs of s refl h (push_def of s g)
  dynamic_straight op.Div ofs of s h g = dynamic_two dynamic.Div R ofs of s refl h (push_def of s g)
  dynamic_straight op.Rem ofs of s h g = dynamic_two dynamic.Rem R ofs of s refl h (push_def of s g)
  dynamic_straight op.And ofs of s h g = dynamic_two dynamic.And R ofs of s refl h (push_def of s g)
  dynamic_straight op.Or ofs of s h g = dynamic_two dynamic.Or R ofs of s refl h (push_def of s g)
  dynamic_straight op.Xor ofs of s h g = dynamic_two dynamic.Xor R ofs of s refl h (push_def of s g)
  dynamic_straight op.Shl ofs of s h g = dynamic_two dynamic.Shl R ofs of s refl h (push_def of s g)
  dynamic_straight op.Shr ofs of s h g = dynamic_two dynamic.Shr R ofs of s refl h (push_def of s g)
  dynamic_straight op.Ushr ofs of s h g = dynamic_two dynamic.Ushr R ofs of s refl h (push_def of s g)
  dynamic_straight op.Neg ofs of s h g = dynamic_one dynamic.Neg ofs of s refl h (push_def of s g)
  dynamic_straight op.Not ofs of s h g = dynamic_one dynamic.Not ofs of s refl h (push_def of s g)
  dynamic_straight op.Pos ofs of s h g = dynamic_one dynamic.Pos ofs of s refl h (push_def of s g)
  dynamic_straight op.Lt ofs of s h g = dynamic_two dynamic.Lt I ofs of s refl h (push_flag of s g)
  dynamic_straight op.Le ofs of s h g = dynamic_two dynamic.Le I ofs of s refl h (push_flag of s g)
  dynamic_straight op.Gt ofs of s h g = dynamic_two dynamic.Gt I ofs of s refl h (push_flag of s g)
  dynamic_straight op.Ge ofs of s h g = dynamic_two dynamic.Ge I ofs of s refl h (push_flag of s g)
  dynamic_straight op.Eq ofs of s h g = cc
  dynamic_straight op.Ne ofs of s h g = cc

  references : (code : List Instruction) (ofs : List Ty) (of : Ty) (t s : List Slot) → push of s ≡ t → TakesReferences ofs
      → Straight allow functions f code (R ∷ R ∷ s) t → Straight allow functions f code (push_types ofs s) (push of s)
  references code [] of t s e h x = absurd h
  references code (a ∷ []) of t s e h x = absurd h
  references code (a ∷ b ∷ []) of t s e h x =
      subst (λ j. Straight allow functions f code j (push of s)) (sym (two_references a b s h.0 h.1)) (subst (λ t. Straight allow functions f code (R ∷ R ∷ s) t) (sym e) x)
  references code (a ∷ b ∷ c ∷ ofs) of t s e h x = absurd h

  pub operator_straight : (o : Operator) (ofs : List Ty) (of : Ty) (s : List Slot) → Takes o ofs of → Straight allow functions f (operator_code o) (push_types ofs s) (push of s)
  operator_straight (operator.Int o) ofs of s h = numbers prim.Int width.Int refl o ofs of s h
  operator_straight (operator.Long o) ofs of s h = numbers prim.Long width.Long refl o ofs of s h
  operator_straight (operator.Boolean o) ofs of s h = flags o ofs of s h
  operator_straight operator.Equal ofs of s h =
      references (i.Plain plain.Equal ∷ []) ofs of (I ∷ s) s (push_is of prim.Boolean s h.1) h.0 (only (pair_passes plain.Equal I s refl refl) refl refl)
  operator_straight operator.NotEqual ofs of s h =
      references (i.Plain plain.Equal ∷ turned_round) ofs of (I ∷ s) s (push_is of prim.Boolean s h.1) h.0
      (I ∷ s, pair_passes plain.Equal I s refl refl, turned_straight s)
  operator_straight operator.Same ofs of s h =
      references (i.Plain plain.Same ∷ []) ofs of (I ∷ s) s (push_is of prim.Boolean s h.1) h.0 (only (pair_passes plain.Same I s refl refl) refl refl)
  operator_straight operator.NotSame ofs of s h =
      references (i.Plain plain.Same ∷ turned_round) ofs of (I ∷ s) s (push_is of prim.Boolean s h.1) h.0
      (I ∷ s, pair_passes plain.Same I s refl refl, turned_straight s)
  operator_straight operator.Concat ofs of s h =
      references (i.Plain plain.Concat ∷ []) ofs of (R ∷ s) s (push_text of s h.1) h.0 (only (pair_passes plain.Concat R s refl refl) refl refl)
  operator_straight (operator.Def o) ofs of s h = dynamic_straight o ofs of s h.0 h.1
  operator_straight other ofs of s h = absurd h

  -- ---- casts

  from_int_straight : (q : Primitive) (s : List Slot) → Straight allow functions f (from_int_code q) (I ∷ s) (kind_of_primitive q ∷ s)
  from_int_straight prim.Boolean s = refl
  from_int_straight prim.Byte s = only (plain_passes plain.IntToByte I I s refl refl) refl refl
  from_int_straight prim.Short s = only (plain_passes plain.IntToShort I I s refl refl) refl refl
  from_int_straight prim.Char s = only (plain_passes plain.IntToChar I I s refl refl) refl refl
  from_int_straight prim.Int s = refl
  from_int_straight prim.Long s = only (plain_passes plain.IntToLong I J s refl refl) refl refl

  number_straight : (p q : Primitive) (s : List Slot) → Converts p q → Straight allow functions f (number_code p q) (kind_of_primitive p ∷ s) (kind_of_primitive q ∷ s)
  number_straight prim.Boolean prim.Boolean s h = refl
  number_straight prim.Byte prim.Byte s h = refl
  number_straight prim.Byte prim.Short s h = refl
  number_straight prim.Byte q s h = from_int_straight q s
  number_straight prim.Short prim.Short s h = refl
  number_straight prim.Short q s h = from_int_straight q s
  number_straight prim.Char prim.Char s h = refl
  number_straight prim.Char q s h = from_int_straight q s
  number_straight prim.Int q s h = from_int_straight q s
  number_straight prim.Long prim.Long s h = refl
  number_straight prim.Long prim.Boolean s h = absurd h
  number_straight prim.Long q s h = (I ∷ s, plain_passes plain.LongToInt J I s refl refl, from_int_straight q s)
  number_straight prim.Boolean q s h = absurd h

  straight_append : (xs ys : List Instruction) (s t u : List Slot) → Straight allow functions f xs s t → Straight allow functions f ys t u → Straight allow functions f (xs ++ ys) s u
  straight_append [] ys s t u x y = subst (λ s. Straight allow functions f ys s u) (sym x) y
  straight_append (one ∷ xs) ys s t u x y = (x.0, x.1, straight_append xs ys x.0 t u x.2 y)

  boxing_passes : (p : Primitive) (s : List Slot) → Passes allow functions f (i.Boxing p) (kind_of_primitive p ∷ s) (R ∷ s)
  unfolding is_bad_target is_bad_member flow_of effect_of
  boxing_passes p s = record { flow = refl; target = refl; member = refl; leaves = ap (λ k. left_by (Exchanges (one k) (one R)) (kind_of_primitive p ∷ s)) (boxed p) ∙ single (kind_of_primitive p) R s }

  -- between these types
  along : (code : List Instruction) (from to : Ty) (j k : List Slot) (s : List Slot) → push from s ≡ j → push to s ≡ k → Straight allow functions f code j k → Straight allow functions f code (push from s) (push to s)
  along code from to j k s e g x = subst (λ j. Straight allow functions f code j (push to s)) (sym e) (subst (λ k. Straight allow functions f code j k) (sym g) x)

  unboxing_passes : (p : Primitive) (way : Way) (s : List Slot) → Passes allow functions f (i.Unboxing p way) (R ∷ s) (kind_of_primitive p ∷ s)
  unfolding is_bad_target is_bad_member flow_of effect_of
  unboxing_passes p way s = record { flow = refl; target = refl; member = refl; leaves = ap (λ k. left_by (Exchanges (one R) (one k)) (R ∷ s)) (boxed p) ∙ single R (kind_of_primitive p) s }

  to_type_passes : (to : Ty) (way : Way) (s : List Slot) → IsNamed to → Passes allow functions f (i.Cast (full_text to) way) (R ∷ s) (R ∷ s)
  unfolding is_bad_target is_bad_member flow_of effect_of
  to_type_passes to way s named = record { flow = refl; target = refl; member = ap not (named_is_known to named); leaves = single R R s }

  pub is_a_passes : (to : Ty) (s : List Slot) → IsNamed to → Passes allow functions f (i.Typed typed.IsA (full_text to)) (R ∷ s) (I ∷ s)
  unfolding is_bad_target is_bad_member flow_of effect_of
  is_a_passes to s named = record { flow = refl; target = refl; member = ap not (named_is_known to named); leaves = single R I s }

  run_time_layer : (l : Ty-F Ty) (to : Ty) (way : Way) (s : List Slot) → IsNamed to → IsListedLayer l
      → Straight allow functions f (run_time_code_layer l to way) (R ∷ s) (push_layer l s)
  run_time_layer Ty-F.Void to way s named h = absurd h
  run_time_layer Ty-F.Null to way s named h = only (to_type_passes to way s named) refl refl
  run_time_layer Ty-F.Def to way s named h = only (to_type_passes to way s named) refl refl
  run_time_layer (Ty-F.Prim p) to way s named h = only (unboxing_passes p way s) refl refl
  run_time_layer (Ty-F.Class class) to way s named h = only (to_type_passes to way s named) refl refl
  run_time_layer (Ty-F.Array of) to way s named h = only (to_type_passes to way s named) refl refl

  run_time_straight : (from to : Ty) (way : Way) (s : List Slot) → IsReference from → IsNamed to → Straight allow functions f (run_time_code to way) (push from s) (push to s)
  run_time_straight from to way s r named =
      subst (λ j. Straight allow functions f (run_time_code to way) j (push to s)) (sym (push_reference from s r))
      (run_time_layer (out-Ty to) to way s named (listed_has_values to named))

  keeps_straight : (from to : Ty) (s : List Slot) → Keeps from to → push from s ≡ push to s
  keeps_straight from to s (Same x) = ap (λ of. push of s) x
  keeps_straight from to s (References x y given) = push_reference from s x ∙ sym (push_reference to s y)

  pub cast_straight : (c : Cast) (from to : Ty) (s : List Slot) → Casts c from to → Straight allow functions f (cast_code c to) (push from s) (push to s)
  cast_straight cast.Keep from to s h = keeps_straight from to s h
  cast_straight (cast.Number p q) from to s h = along (number_code p q) from to _ _ s (push_is from p s h.0) (push_is to q s h.1) (number_straight p q s h.2)
  cast_straight (cast.Wrap p q) from to s h =
      along (number_code p q ++ i.Boxing q ∷ []) from to _ _ s (push_is from p s h.0) (push_reference to s h.1)
      (straight_append (number_code p q) (i.Boxing q ∷ []) _ (kind_of_primitive q ∷ s) _ (number_straight p q s h.2) (only (boxing_passes q s) refl refl))
  cast_straight (cast.Unwrap p q) from to s h =
      along (cast_code (cast.Unwrap p q) to) from to _ _ s (push_reference from s h.0) (push_is to q s h.1)
      (kind_of_primitive p ∷ s, unboxing_passes p way.Implicit s, number_straight p q s h.2)
  cast_straight cast.Implicit from to s h = run_time_straight from to way.Implicit s h.0 h.1
  cast_straight cast.Explicit from to s h = run_time_straight from to way.Explicit s h.0 h.1
  cast_straight cast.CharToText from to s h =
      along (cast_code cast.CharToText to) from to _ _ s (push_is from prim.Char s h.0) (push_text to s h.1)
      (R ∷ s, boxing_passes prim.Char s, only (to_type_passes string way.Explicit s string_named) refl refl)
  cast_straight cast.TextToChar from to s h =
      along (cast_code cast.TextToChar to) from to _ _ s (push_reference from s h.0) (push_is to prim.Char s h.1) (only (unboxing_passes prim.Char way.Explicit s) refl refl)

  -- the first cast of a compound assignment, whose code does not depend on the type that it goes to
  pub begins_straight : (c : Cast) (of from to : Ty) (s : List Slot) → IsKnownBefore c → Casts c from to → Straight allow functions f (cast_code c of) (push from s) (push to s)
  begins_straight cast.Keep of from to s k h = cast_straight cast.Keep from to s h
  begins_straight (cast.Number p q) of from to s k h = cast_straight (cast.Number p q) from to s h
  begins_straight (cast.Wrap p q) of from to s k h = cast_straight (cast.Wrap p q) from to s h
  begins_straight (cast.Unwrap p q) of from to s k h = cast_straight (cast.Unwrap p q) from to s h
  begins_straight cast.Implicit of from to s k h = absurd k
  begins_straight cast.Explicit of from to s k h = absurd k
  begins_straight cast.CharToText of from to s k h = cast_straight cast.CharToText from to s h
  begins_straight cast.TextToChar of from to s k h = cast_straight cast.TextToChar from to s h

  -- ---- values that are dropped or kept

  pops_layer : (l : Ty-F Ty) (s : List Slot) → Straight allow functions f (pops (representation_of_layer l)) (push_layer l s) s
  pops_layer Ty-F.Void s = refl
  pops_layer Ty-F.Null s = only (pop_passes R s) refl refl
  pops_layer Ty-F.Def s = only (pop_passes R s) refl refl
  pops_layer (Ty-F.Prim p) s = only (pop_passes (kind_of_primitive p) s) refl refl
  pops_layer (Ty-F.Class class) s = only (pop_passes R s) refl refl
  pops_layer (Ty-F.Array of) s = only (pop_passes R s) refl refl

  pub pops_straight : (of : Ty) (s : List Slot) → Straight allow functions f (pops (representation_of of)) (push of s) s
  pops_straight of s = pops_layer (out-Ty of) s

  pub copy_passes : (of : Ty) (s : List Slot) → HasValues of → Passes allow functions f (i.Plain plain.Dup) (push of s) (push of (push of s))
  copy_passes of s h =
      let once = push_value of s h in
      let twice : push of (push of s) ≡ kind_of of ∷ kind_of of ∷ s = push_value of (push of s) h ∙ ap (λ s. kind_of of ∷ s) once in
      subst (λ j. Passes allow functions f (i.Plain plain.Dup) j (push of (push of s))) (sym once)
      (subst (λ k. Passes allow functions f (i.Plain plain.Dup) (kind_of of ∷ s) k) (sym twice) (dup_passes (kind_of of) s))

  pub before_straight : (gives : Gives) (of : Ty) (s : List Slot) → HasValues of → Straight allow functions f (kept_before 0 gives) (push of s) (push of (kept gives of s))
  before_straight gives.Old of s h = only (copy_passes of s h) refl refl
  before_straight gives.New of s h = refl

  pub behind_straight : (gives : Gives) (of : Ty) (s : List Slot) → HasValues of → Straight allow functions f (kept_behind 0 gives) (push of (kept gives of s)) (push of (push of s))
  behind_straight gives.Old of s h = refl
  behind_straight gives.New of s h = only (copy_passes of s h) refl refl

  -- ---- locals

  in_range : (n : ℕ) (of : Ty) → HasLocal f n of → leb (length f.params + length f.locals) n ≡ false
  in_range n of has = lt-leb (length f.params + length f.locals) n (omega (arith, slice_get_within (f.params ++ f.locals) n (kind_of of) has.is, length-append f.params f.locals))

  pub load_passes : (n : ℕ) (of : Ty) (s : List Slot) → HasLocal f n of → HasValues of → Passes allow functions f (i.Numbered numbered.Load n) s (push of s)
  unfolding is_bad_target is_bad_member flow_of effect_of local_kind left_by
  load_passes n of s has h = record {
    flow = refl;
    target = in_range n of has;
    member = refl;
    leaves = ap (λ o. left_in (option_map loads o) s) has.is ∙ ap Some (sym (push_value of s h));
  }

  pub store_passes : (n : ℕ) (of : Ty) (s : List Slot) → HasLocal f n of → HasValues of → Passes allow functions f (i.Numbered numbered.Store n) (push of s) s
  unfolding is_bad_target is_bad_member flow_of effect_of local_kind left_by
  store_passes n of s has h = record {
    flow = refl;
    target = in_range n of has;
    member = refl;
    leaves = ap (λ o. left_in (option_map stores o) (push of s)) has.is ∙ ap (left_by (stores (kind_of of))) (push_value of s h) ∙ stored (kind_of of) s;
  }

  -- what was thrown goes into the local of a class
  pub catch_passes : (n class : ℕ) → HasLocal f n (t.Class class) → Passes allow functions f (i.Numbered numbered.Store n) (R ∷ []) []
  catch_passes n class has =
      subst (λ s. Passes allow functions f (i.Numbered numbered.Store n) s []) (push_reference (t.Class class) [] (class_reference class)) (store_passes n (t.Class class) [] has (class_values class))

  -- ---- calls

  pub call_passes : {text : Owner} (funs : Program) → Compiled text funs functions → (number : ℕ) (fun : Fun) (s : List Slot) → slice_get funs number ≡ Some fun → HaveValues fun.params
      → Passes allow functions f (i.Numbered numbered.Call number) (push_types (types_in fun.params) s) (push fun.result s)
  unfolding is_bad_target is_bad_member flow_of effect_of calls left_by
  call_passes funs made number fun s is values =
      let fa = made.each number fun is in
      record {
        flow = refl;
        target = lt-leb (length functions) number (slice_get_within functions number fa.body fa.is);
        member = refl;
        leaves =
            ap (λ o. left_in (option_map calls o) (push_types (types_in fun.params) s)) fa.is
            ∙ ap (λ ks. left_by (Exchanges (reverse ks) (result_kinds fa.body.result)) (push_types (types_in fun.params) s)) fa.params
            ∙ ap (left_by (Exchanges (reverse (kinds_of fun.params)) (result_kinds fa.body.result))) (pushed_kinds fun.params s values)
            ∙ ap (option_map (λ left. result_kinds fa.body.result ++ left)) (taken_own (reverse (kinds_of fun.params)) s)
            ∙ ap (λ o. Some (result_kinds o ++ s)) fa.result;
      }
