-- Numbers in their boxes, on the path of values.
use Rattle.std.proofs.Common.{◌≡◌, ℕ, suc, ◌<◌, Bool, true, false, List, [], ◌∷◌, length, Option, Some, None, refl, ap, sym, ◌∙◌, arith, subst, ◌≤◌}
use Rattle.std.specs.Prelude.{◌||◌, drop, slice_get, if◌then◌else◌, MatchOption}
use Rattle.pl_types.specs.declared.primitive.Primitive.{Primitive}
use Rattle.pl_types.specs.declared.primitive.Primitive.TheVariants as prim
use Rattle.pl_types.specs.declared.ty.Ty.{Ty}
use Rattle.pl_types.specs.declared.ty.Ty.TheOpen.{Ty-F}
use Rattle.pl_types.specs.declared.ty.Ty.TheVariants as ty
use Rattle.pl_types.specs.declared.ty.Ty.TheViews.{outs-Prim}
use Rattle.object_values.specs.declared.object.Object.{Object}
use Rattle.object_values.specs.declared.value.Value.{Value}
use Rattle.object_values.specs.declared.value.Value.TheVariants as v
use Rattle.arithmetic.specs.Operators.{by_both, by_left, takes_left}
use Rattle.arithmetic.specs.declared.operator.Num.{Num}
use Rattle.arithmetic.specs.declared.operator.Op.{Op}
use Rattle.number_ops.specs.Casts.{of_null, to_layer}
use Rattle.number_ops.specs.Casts as casts
use Rattle.number_ops.specs.declared.outcome.Outcome.{Outcome}
use Rattle.number_ops.specs.declared.outcome.Outcome.TheVariants.{Gives}
use Rattle.number_ops.specs.Operators.{binary, boxed, calculated, compares, concatenated, is_null, is_unary, number_in, of_numbers, of_result, operate, truth_in}
use Rattle.number_ops.specs.Outcomes.{effect, is_text}
use Rattle.pl_code.specs.declared.kinds.ArithmeticOp.{ArithmeticOp}
use Rattle.pl_code.specs.declared.kinds.ArithmeticOp.TheVariants as code
use Rattle.pl_code.specs.declared.kinds.DynamicOp.{DynamicOp}
use Rattle.pl_code.specs.declared.kinds.DynamicOp.TheVariants as dynamic
use Rattle.pl_code.specs.declared.kinds.Quoting.{Quoting}
use Rattle.pl_code.specs.declared.kinds.Quoting.TheVariants as quoting
use Rattle.pl_code.specs.declared.code.Instruction.{Instruction}
use Rattle.pl_code.specs.declared.code.Instruction.TheVariants as i
use Rattle.pl_units.specs.Utf16.{units}
use Rattle.run_state.specs.World.{World, Limits, acts_in}
use Rattle.code_meaning.specs.declared.word.Word.{Word}
use Rattle.code_meaning.specs.declared.word.Word.TheVariants.{I, J, R}
use Rattle.code_meaning.specs.Words.{op_of, op_of_dynamic, unboxed}
use Rattle.code_meaning.specs.Machine.{Codes, Config, Frame, Goes, act, dynamic_given, quoted_act, on_operated, on_outcome, on_reference, on_top, operator_act, to_line}
use Rattle.machine_paths.specs.Boxed.{Operates, OperatesOn, Unboxes, number_boxed, plain_operator, taken_out}
use Rattle.machine_paths.specs.Fast.{Does}
use Rattle.machine_parts.specs.Frames.{Laid, at_line, with_stack}
use Rattle.machine_parts.specs.Code.{Executable}
use Rattle.machine_parts.specs.Links.{instruction_at, link_at, text_in}
use Rattle.machine_parts.proofs.Linked.{text_names}
use Rattle.machine_paths.proofs.Quick.{as_does}

pub has_upper : (stack : List Word) (word : Word) → Some word ≡ slice_get stack 0 → 0 < length stack
has_upper [] word e = absurd (cc)
has_upper (z ∷ stack) word e = omega arith

-- a frame with this stack, at the next line
pub comes_to : (old new : Laid) (stack : List Word) (next : ℕ) (w : World) → new.top ≡ at_line (with_stack old.top stack) next → new.below ≡ old.below → next ≡ suc old.top.line
    → to_line old.top old.below w (suc old.top.line) stack ≡ Goes (record { top = new.top; below = new.below; world = w })
comes_to old new stack next w top below line =
    ap (λ (m : ℕ). to_line old.top old.below w m stack) (sym line) ∙ ap (λ (f : Frame). Goes (record { top = f; below = old.below; world = w })) (sym top)
    ∙ ap (λ (fs : List Frame). Goes (record { top = new.top; below = fs; world = w })) (sym below)

-- ---- operators

plain_is : (first op : ArithmeticOp) → Some first ≡ Some op → op_of first ≡ op_of op
plain_is first op e = ap op_of (cc)

is_plain : (o : DynamicOp) (op : ArithmeticOp) → plain_operator o ≡ Some op → (op_of_dynamic o ≡ op_of op) × (is_unary (op_of_dynamic o) ≡ false) × (takes_left (op_of_dynamic o) ≡ false)
is_plain dynamic.Add op e = (plain_is code.Add op e, refl, refl)
is_plain dynamic.Sub op e = (plain_is code.Sub op e, refl, refl)
is_plain dynamic.Mul op e = (plain_is code.Mul op e, refl, refl)
is_plain dynamic.Div op e = (plain_is code.Div op e, refl, refl)
is_plain dynamic.Rem op e = (plain_is code.Rem op e, refl, refl)
is_plain dynamic.And op e = (plain_is code.And op e, refl, refl)
is_plain dynamic.Or op e = (plain_is code.Or op e, refl, refl)
is_plain dynamic.Xor op e = (plain_is code.Xor op e, refl, refl)
is_plain dynamic.Neg op e = absurd (cc)
is_plain dynamic.Not op e = absurd (cc)
is_plain dynamic.Pos op e = absurd (cc)
is_plain dynamic.Shl op e = absurd (cc)
is_plain dynamic.Shr op e = absurd (cc)
is_plain dynamic.Ushr op e = absurd (cc)
is_plain dynamic.Lt op e = (plain_is code.Lt op e, refl, refl)
is_plain dynamic.Le op e = (plain_is code.Le op e, refl, refl)
is_plain dynamic.Gt op e = (plain_is code.Gt op e, refl, refl)
is_plain dynamic.Ge op e = (plain_is code.Ge op e, refl, refl)

boxed_number : (value : Value) (number : Num) → number_boxed value ≡ Some number → number_in value ≡ Some number
boxed_number v.Null number e = absurd (cc)
boxed_number (v.Bool flag) number e = absurd (cc)
boxed_number (v.Byte a) number e = absurd (cc)
boxed_number (v.Short a) number e = absurd (cc)
boxed_number (v.Char unit) number e = absurd (cc)
boxed_number (v.Int a) number e = e
boxed_number (v.Long a) number e = e
boxed_number (v.Str text) number e = absurd (cc)
boxed_number (v.Ref id) number e = absurd (cc)

no_text : (value : Value) (number : Num) → number_boxed value ≡ Some number → is_text value ≡ false
no_text v.Null number e = absurd (cc)
no_text (v.Bool flag) number e = absurd (cc)
no_text (v.Byte a) number e = absurd (cc)
no_text (v.Short a) number e = absurd (cc)
no_text (v.Char unit) number e = absurd (cc)
no_text (v.Int a) number e = refl
no_text (v.Long a) number e = refl
no_text (v.Str text) number e = absurd (cc)
no_text (v.Ref id) number e = absurd (cc)

module _ (objects : List Object) (a b : Value) where
  is_sum : is_text a ≡ false → is_text b ≡ false → operate objects (op_of_dynamic dynamic.Add) a b ≡ binary objects (op_of_dynamic dynamic.Add) a b
  is_sum first second =
      ap (λ (t : Bool). if t || is_text b then concatenated objects a b else binary objects (op_of_dynamic dynamic.Add) a b) first
      ∙ ap (λ (t : Bool). if t then concatenated objects a b else binary objects (op_of_dynamic dynamic.Add) a b) second

  is_binary : (o : DynamicOp) (op : ArithmeticOp) → plain_operator o ≡ Some op → is_text a ≡ false → is_text b ≡ false → operate objects (op_of_dynamic o) a b ≡ binary objects (op_of_dynamic o) a b
  is_binary dynamic.Add op e first second = is_sum first second
  is_binary dynamic.Sub op e first second = refl
  is_binary dynamic.Mul op e first second = refl
  is_binary dynamic.Div op e first second = refl
  is_binary dynamic.Rem op e first second = refl
  is_binary dynamic.And op e first second = refl
  is_binary dynamic.Or op e first second = refl
  is_binary dynamic.Xor op e first second = refl
  is_binary dynamic.Neg op e first second = absurd (cc)
  is_binary dynamic.Not op e first second = absurd (cc)
  is_binary dynamic.Pos op e first second = absurd (cc)
  is_binary dynamic.Shl op e first second = absurd (cc)
  is_binary dynamic.Shr op e first second = absurd (cc)
  is_binary dynamic.Ushr op e first second = absurd (cc)
  is_binary dynamic.Lt op e first second = refl
  is_binary dynamic.Le op e first second = refl
  is_binary dynamic.Gt op e first second = refl
  is_binary dynamic.Ge op e first second = refl

  operated : (o : DynamicOp) (op : ArithmeticOp) (left right number : Num) → plain_operator o ≡ Some op → number_boxed a ≡ Some left → number_boxed b ≡ Some right → by_both (op_of op) left right ≡ Some number
      → operate objects (op_of_dynamic o) a b ≡ Gives (of_result (op_of op) number)
  operated o op left right number plain first second is =
      let it : Op = op_of_dynamic o in
      is_binary o op plain (no_text a left first) (no_text b right second)
      ∙ ap (λ (x : Option Num). of_numbers objects it a b x (number_in b)) (boxed_number a left first)
      ∙ ap (λ (x : Option Num). of_numbers objects it a b (Some left) x) (boxed_number b right second)
      ∙ ap (λ (t : Bool). calculated it (if t then by_left it left right else by_both it left right)) (is_plain o op plain).2
      ∙ ap (λ (x : Op). calculated x (by_both x left right)) (is_plain o op plain).0
      ∙ ap (calculated (op_of op)) is

module _ (codes : Codes) (limits : Limits) where
  on_given : (value : Value) (word : Value → Word) (f : Frame) (below : List Frame) (w : World) (stack : List Word)
      → on_outcome codes limits (acts_in w (effect w.store (Gives value))) word f below w stack ≡ to_line f below w (suc f.line) (word value ∷ stack)
  unfolding acts_in
  on_given value word f below w stack = refl

  pub compared : (o : Op) (number : Num) → compares o ≡ true → dynamic_given codes limits o (of_result o number) ≡ unboxed (truth_in number)
  compared o number e = ap (λ (c : Bool). if c then unboxed (if c then truth_in number else boxed number) else R (if c then truth_in number else boxed number)) e

  pub not_compared : (o : Op) (number : Num) → compares o ≡ false → dynamic_given codes limits o (of_result o number) ≡ R (boxed number)
  not_compared o number e = ap (λ (c : Bool). if c then unboxed (if c then truth_in number else boxed number) else R (if c then truth_in number else boxed number)) e

pub operates : (op : ArithmeticOp) (a b : Value) (left right number : Num) (word : Word) → number_boxed a ≡ Some left → number_boxed b ≡ Some right → by_both (op_of op) left right ≡ Some number
    → ((codes : Codes) (limits : Limits) → word ≡ dynamic_given codes limits (op_of op) (of_result (op_of op) number)) → Operates op a b word
operates op a b left right number word first second is given = λ codes limits o f below w stack plain.
    ap (λ (told : Outcome). on_outcome codes limits (acts_in w (effect w.store told)) (dynamic_given codes limits (op_of_dynamic o)) f below w stack)
    (operated w.store.objects a b o op left right number plain first second is)
    ∙ on_given codes limits (of_result (op_of op) number) (dynamic_given codes limits (op_of_dynamic o)) f below w stack
    ∙ ap (λ (x : Op). to_line f below w (suc f.line) (dynamic_given codes limits x (of_result (op_of op) number) ∷ stack)) (is_plain o op plain).0
    ∙ ap (λ (z : Word). to_line f below w (suc f.line) (z ∷ stack)) (sym (given codes limits))

-- of the two upper words
pub operates_on : (op : ArithmeticOp) (stack : List Word) (a b : Value) (word : Word) → Some (R b) ≡ slice_get stack 0 → Some (R a) ≡ slice_get stack 1 → Operates op a b word → OperatesOn op stack word
operates_on op [] a b word e h is = absurd (cc)
operates_on op (z ∷ []) a b word e h is = absurd (cc)
operates_on op (z ∷ y ∷ stack) a b word e h is = on_words z y (cc) (cc) where
  on_words : (upper lower : Word) → R b ≡ upper → R a ≡ lower → OperatesOn op (upper ∷ lower ∷ stack) word
  on_words upper lower first second =
      subst (λ (upper : Word). OperatesOn op (upper ∷ lower ∷ stack) word) first (subst (λ (lower : Word). OperatesOn op (R b ∷ lower ∷ stack) word) second is)

pub operates_or_none : (op : ArithmeticOp) (stack : List Word) (a b : Value) (o : Option Word) → Some (R b) ≡ slice_get stack 0 → Some (R a) ≡ slice_get stack 1
    → MatchOption o (Unit {0}) (λ word. Operates op a b word) → MatchOption o (Unit {0}) (λ word. OperatesOn op stack word)
operates_or_none op stack a b None e h is = tt
operates_or_none op stack a b (Some word) e h is = operates_on op stack a b word e h is

pub two_there : (op : ArithmeticOp) (stack : List Word) (word : Word) → OperatesOn op stack word → 2 ≤ length stack
two_there op [] word h = absurd h
two_there op (I a ∷ stack) word h = absurd h
two_there op (J a ∷ stack) word h = absurd h
two_there op (R a ∷ []) word h = absurd h
two_there op (R a ∷ y ∷ stack) word h = omega arith

module _ (codes : Codes) (limits : Limits) where
  pub acts_so : (o : DynamicOp) (op : ArithmeticOp) (f : Frame) (below : List Frame) (w : World) (word : Word) → plain_operator o ≡ Some op → OperatesOn op f.stack word
      → operator_act codes limits (op_of_dynamic o) f below w ≡ to_line f below w (suc f.line) (word ∷ drop 2 f.stack)
  acts_so o op f below w word plain h = by_stack f.stack h where
    by_stack : (stack : List Word) → OperatesOn op stack word
        → on_top stack (λ upper rest. on_reference upper (λ b.
        if is_unary (op_of_dynamic o) then on_operated codes limits (op_of_dynamic o) b b f below w rest
        else on_top rest (λ lower stack. on_reference lower (λ a. on_operated codes limits (op_of_dynamic o) a b f below w stack))))
        ≡ to_line f below w (suc f.line) (word ∷ drop 2 stack)
    by_stack [] h = absurd h
    by_stack (I a ∷ stack) h = absurd h
    by_stack (J a ∷ stack) h = absurd h
    by_stack (R b ∷ []) h = absurd h
    by_stack (R b ∷ I a ∷ stack) h = absurd h
    by_stack (R b ∷ J a ∷ stack) h = absurd h
    by_stack (R b ∷ R a ∷ stack) h =
        ap (λ (one : Bool). if one then on_operated codes limits (op_of_dynamic o) b b f below w (R a ∷ stack) else on_operated codes limits (op_of_dynamic o) a b f below w stack) (is_plain o op plain).1
        ∙ h codes limits o f below w stack plain

-- ---- texts

-- a constant goes on the stack as the units that it was linked to
pub constant_so : (e : Executable) (f : Frame) (line : Instruction) (kind : Quoting) (text : List ℕ) → instruction_at e f ≡ Some line → line ≡ i.Quoted kind text → kind ≡ quoting.Constant
    → (codes : Codes) (limits : Limits) (below : List Frame) (w : World) (next : ℕ) → next ≡ suc f.line → (old new : Config) (done : Bool)
    → ((shared : List ℕ) → text_in (link_at e f) ≡ Some shared → Does (to_line f below w next (R (v.Str shared) ∷ f.stack)) old new done)
    → Does (act codes limits line f below w) old new done
constant_so e f line kind text there is constant codes limits below w next at old new done h =
    as_does _ _ old new done
    (ap (λ (it : Instruction). act codes limits it f below w) is
    ∙ ap (λ (q : Quoting). quoted_act codes limits q text f below w) constant
    ∙ ap (λ (n : ℕ). to_line f below w n (R (v.Str (units text)) ∷ f.stack)) (sym at))
    (h (units text) (text_names e line f there kind text is))

-- ---- casts

module _ (p : Primitive) (value given : Value) (word : Word) where
  -- a cast to the primitive gives this value, by the outermost layer of its type
  gives_so : ((objects : List Object) (written : Bool) → (if is_null value then of_null (Ty-F.Prim p) else casts.given objects value (ty.Prim p) (to_layer objects (Ty-F.Prim p) written value)) ≡ Gives given) → unboxed given ≡ word → Unboxes p value word
  gives_so is same = λ codes limits f below w stack written.
      let objects = w.store.objects in
      ap (λ (told : Outcome). on_outcome codes limits (acts_in w (effect w.store told)) unboxed f below w stack)
      (ap (λ (layer : Ty-F Ty). if is_null value then of_null layer else casts.given objects value (ty.Prim p) (to_layer objects layer written value)) (outs-Prim p) ∙ is objects written)
      ∙ on_given codes limits given unboxed f below w stack
      ∙ ap (λ (z : Word). to_line f below w (suc f.line) (z ∷ stack)) same

pub unboxes : (value : Value) (p : Primitive) (word : Word) → taken_out p value ≡ Some word → Unboxes p value word
unboxes v.Null p word e = absurd (cc)
unboxes (v.Bool flag) prim.Boolean word e = gives_so prim.Boolean (v.Bool flag) (v.Bool flag) word (λ objects written. refl) (cc)
unboxes (v.Bool flag) prim.Byte word e = absurd (cc)
unboxes (v.Bool flag) prim.Short word e = absurd (cc)
unboxes (v.Bool flag) prim.Char word e = absurd (cc)
unboxes (v.Bool flag) prim.Int word e = absurd (cc)
unboxes (v.Bool flag) prim.Long word e = absurd (cc)
unboxes (v.Byte a) p word e = absurd (cc)
unboxes (v.Short a) p word e = absurd (cc)
unboxes (v.Char unit) p word e = absurd (cc)
unboxes (v.Int a) prim.Boolean word e = absurd (cc)
unboxes (v.Int a) prim.Byte word e = absurd (cc)
unboxes (v.Int a) prim.Short word e = absurd (cc)
unboxes (v.Int a) prim.Char word e = absurd (cc)
unboxes (v.Int a) prim.Int word e = gives_so prim.Int (v.Int a) (v.Int a) word (λ objects written. refl) (cc)
unboxes (v.Int a) prim.Long word e = gives_so prim.Long (v.Int a) (v.Long a) word (λ objects written. refl) (cc)
unboxes (v.Long a) prim.Boolean word e = absurd (cc)
unboxes (v.Long a) prim.Byte word e = absurd (cc)
unboxes (v.Long a) prim.Short word e = absurd (cc)
unboxes (v.Long a) prim.Char word e = absurd (cc)
unboxes (v.Long a) prim.Int word e = absurd (cc)
unboxes (v.Long a) prim.Long word e = gives_so prim.Long (v.Long a) (v.Long a) word (λ objects written. refl) (cc)
unboxes (v.Str text) p word e = absurd (cc)
unboxes (v.Ref id) p word e = absurd (cc)
