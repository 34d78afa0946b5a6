-- Values of names, of operators, of casts and of arguments that fit.
use Rattle.std.proofs.Common.{ℕ, ℤ, ◌≤◌, Bool, true, false, List, [], ◌∷◌, ◌++◌, Option, Some, None}
use Rattle.std.specs.Prelude.{if◌then◌else◌}
use Rattle.std.specs.Str.{bytes_eq}
use Rattle.pl_types.specs.declared.primitive.Primitive.{Primitive}
use Rattle.pl_types.specs.declared.primitive.Primitive.TheVariants as prim
use Rattle.pl_types.specs.declared.conversion.Cast.{Cast}
use Rattle.pl_types.specs.declared.conversion.Cast.TheVariants as cast
use Rattle.pl_types.specs.declared.classes.TheConstants.{STRING}
use Rattle.pl_types.specs.declared.ty.Ty.{Ty, out-Ty}
use Rattle.pl_types.specs.declared.ty.Ty.TheVariants as t
use Rattle.pl_types.specs.declared.ty.Ty.TheOpen.{Ty-F}
use Rattle.allowlist.specs.declared.member.MemberKind.{MemberKind}
use Rattle.allowlist.specs.declared.member.MemberKind.TheVariants as kind
use Rattle.allowlist.specs.declared.member.MemberType.{MemberType}
use Rattle.object_values.specs.declared.object.Object.{Object}
use Rattle.object_values.specs.declared.value.Value.{Value}
use Rattle.object_values.specs.declared.value.Value.TheVariants as v
use Rattle.object_heap.specs.Effects.{Effect}
use Rattle.object_heap.specs.Fits.{Rules, ValueFits, AllFit}
use Rattle.object_heap.specs.Store.{Store}
use Rattle.arithmetic.specs.declared.operator.Op.{Op}
use Rattle.arithmetic.specs.declared.operator.Num.{Num}
use Rattle.arithmetic.specs.declared.operator.Num.TheVariants as num
use Rattle.typed_tree.specs.declared.operation.Constant.{Constant}
use Rattle.typed_tree.specs.declared.operation.Constant.TheVariants as constant
use Rattle.typed_tree.specs.declared.operation.Gives.{Gives as Given_by}
use Rattle.typed_tree.specs.declared.operation.Gives.TheVariants as gives
use Rattle.typed_tree.specs.declared.operation.Operator.{Operator}
use Rattle.typed_tree.specs.declared.operation.Operator.TheVariants as operator
use Rattle.number_ops.specs.declared.outcome.Outcome.{Outcome as Told}
use Rattle.number_ops.specs.declared.outcome.Outcome.TheVariants as told
use Rattle.number_ops.specs.Casts.{cast_at_run_time}
use Rattle.number_ops.specs.Operators.{of_result, compares, truth_in, boxed, is_null, is_unary, operate}
use Rattle.number_ops.specs.Outcomes.{effect, says, zero_divisor}
use Rattle.number_ops.specs.Relations.{equal}
use Rattle.run_fit.specs.Types.{default_of, default_of_layer, default_of_primitive}
use Rattle.run_fit.specs.Elements.{length_of}
use Rattle.run_fit.specs.Loops.{iterated, has_more, next_element}
use Rattle.run_state.specs.World.{World, acts_in}
use Rattle.run_fit.specs.Laws.{ToldFits}
use Rattle.run_fit.specs.Worlds.{WorldFits, count_in, OutcomeFits}
use Rattle.run_fit.proofs.Effects.{outcomes_fit, casts_fit, concatenation_fits, equality_fits, equal_fits}
use Rattle.run_fit.proofs.Containers.{list_fits, map_fits, filled_fits as filled_array_fits, array_fits, element_fits, written_fits as element_written_fits, length_fits, iterated_fits, has_fits, next_fits, operate_fits}
use Rattle.run_fit.proofs.Values.{value_grows, MadeFits, AllMadeFit, by_primitive}
use Rattle.source_meaning.specs.Tree.{Name, Variable}
use Rattle.source_meaning.specs.Members.{Sending, Unsent, OnNull, Sends, Reads, passed_layer, passed_all, before as joined, sends, sends_to, sent_by, sent}
use Rattle.source_meaning.specs.Meaning.{Env, Flow, Normal, Broke, Continued, Returned, lookup, assigned, entry, older, given_by, returned}
use Rattle.source_meaning.specs.Operating.{Operated, Meaningless, Gives, Acts, value_of, number_given, number_operated, of_ints, of_longs, operands_of, of_flags, flag_operated, negated, of_references, reference_operated, of_any, passed_alike, ints_of, made_of, filled_of, read_at, written_if, written_at, of_one_value, passed_result_layer, passed_result, operates, operates_to, from_int_to, from_long_to, from_byte_to, from_short_to, from_char_to, from_flag_to, number_cast, in_box, box_if, gives_if, text_if, unwrapped, casts}
use Rattle.source_fit.specs.Outs.{EnvFits, FlowFits}

-- ---- names

pub env_grows : (n m : ℕ) → n ≤ m → (e : Env) → EnvFits n e → EnvFits m e
env_grows n m h [] f = tt
env_grows n m h (b ∷ e) f = (value_grows n m h b.value f.0, env_grows n m h e f.1)

pub older_fits : (n : ℕ) (e : Env) → EnvFits n e → EnvFits n (older e)
older_fits n [] f = tt
older_fits n (b ∷ e) f = f.1

chosen_made : (n : ℕ) (test : Bool) (x y : Option Value) → MadeFits n x → MadeFits n y → MadeFits n (if test then x else y)
chosen_made n true x y f g = f
chosen_made n false x y f g = g

pub lookup_fits : (n : ℕ) (e : Env) (x : Name) → EnvFits n e → MadeFits n (lookup e x)
lookup_fits n [] x f = tt
lookup_fits n (b ∷ e) x f = chosen_made n (bytes_eq x b.name) (Some b.value) (lookup e x) f.0 (lookup_fits n e x f.1)

chosen_env : (n : ℕ) (test : Bool) (x y : Env) → EnvFits n x → EnvFits n y → EnvFits n (if test then x else y)
chosen_env n true x y f g = f
chosen_env n false x y f g = g

pub assigned_fits : (n : ℕ) (e : Env) (x : Name) (value : Value) → EnvFits n e → ValueFits n value → EnvFits n (assigned e x value)
assigned_fits n [] x value f g = tt
assigned_fits n (b ∷ e) x value f g = chosen_env n (bytes_eq x b.name) _ _ (g, f.1) (f.0, assigned_fits n e x value f.1 g)

abbrev pub EntryFits : ℕ → Option Env → Type 0
EntryFits n None = Unit {0}
EntryFits n (Some e) = EnvFits n e

pub entry_fits : (n : ℕ) (xs : List Variable) (values : List Value) (e : Env) → AllFit n values → EnvFits n e → EntryFits n (entry xs values e)
entry_fits n [] [] e f g = g
entry_fits n [] (value ∷ values) e f g = tt
entry_fits n (x ∷ xs) [] e f g = tt
entry_fits n (x ∷ xs) (value ∷ values) e f g = entry_fits n xs values (record { name = x.name; value = value } ∷ e) f.1 (f.0, g)

-- ---- values that are given at once

pub constant_fits : (n : ℕ) (c : Constant) → ValueFits n (value_of c)
constant_fits n constant.Null = tt
constant_fits n (constant.Boolean flag) = tt
constant_fits n (constant.Byte number) = tt
constant_fits n (constant.Short number) = tt
constant_fits n (constant.Char unit) = tt
constant_fits n (constant.Int number) = tt
constant_fits n (constant.Long number) = tt

primitive_default_fits : (n : ℕ) (p : Primitive) → ValueFits n (default_of_primitive p)
primitive_default_fits n p = by_primitive (λ p. ValueFits n (default_of_primitive p)) tt tt tt tt tt tt p

layer_default_fits : (n : ℕ) (layer : Ty-F Ty) → ValueFits n (default_of_layer layer)
layer_default_fits n Ty-F.Void = tt
layer_default_fits n Ty-F.Null = tt
layer_default_fits n Ty-F.Def = tt
layer_default_fits n (Ty-F.Prim p) = primitive_default_fits n p
layer_default_fits n (Ty-F.Class class) = tt
layer_default_fits n (Ty-F.Array elem) = tt

pub default_fits : (n : ℕ) (of : Ty) → ValueFits n (default_of of)
default_fits n of = layer_default_fits n (out-Ty of)

pub returned_fits : (n : ℕ) (of : Ty) (flow : Flow) → FlowFits n flow → MadeFits n (returned of flow)
returned_fits n of Normal f = default_fits n of
returned_fits n of Broke f = tt
returned_fits n of Continued f = tt
returned_fits n of (Returned value) f = f

pub given_by_fits : (n : ℕ) (given : Given_by) (old new : Value) → ValueFits n old → ValueFits n new → ValueFits n (given_by given old new)
given_by_fits n gives.Old old new f g = f
given_by_fits n gives.New old new f g = g

-- a value behind others
pub behind_fits : (n : ℕ) (values : List Value) (value : Value) → AllFit n values → ValueFits n value → AllFit n (values ++ value ∷ [])
behind_fits n [] value f g = (g, tt)
behind_fits n (first ∷ values) value f g = (f.0, behind_fits n values value f.1 g)

-- ---- operators and casts

int_made : (n : ℕ) (p : Primitive) (a : ℤ) → MadeFits n (from_int_to p a)
int_made n p a = by_primitive (λ p. MadeFits n (from_int_to p a)) tt tt tt tt tt tt p

long_made : (n : ℕ) (p : Primitive) (a : ℤ) → MadeFits n (from_long_to p a)
long_made n p a = by_primitive (λ p. MadeFits n (from_long_to p a)) tt tt tt tt tt tt p

byte_made : (n : ℕ) (p : Primitive) (a : ℤ) → MadeFits n (from_byte_to p a)
byte_made n p a = by_primitive (λ p. MadeFits n (from_byte_to p a)) tt tt tt tt tt tt p

short_made : (n : ℕ) (p : Primitive) (a : ℤ) → MadeFits n (from_short_to p a)
short_made n p a = by_primitive (λ p. MadeFits n (from_short_to p a)) tt tt tt tt tt tt p

char_made : (n : ℕ) (p : Primitive) (unit : ℕ) → MadeFits n (from_char_to p unit)
char_made n p unit = by_primitive (λ p. MadeFits n (from_char_to p unit)) tt tt tt tt tt tt p

flag_made : (n : ℕ) (p : Primitive) (flag : Bool) → MadeFits n (from_flag_to p flag)
flag_made n prim.Boolean flag = tt
flag_made n p flag = tt

number_cast_fits : (n : ℕ) (p q : Primitive) (value : Value) → MadeFits n (number_cast p q value)
number_cast_fits n prim.Boolean q (v.Bool flag) = flag_made n q flag
number_cast_fits n prim.Byte q (v.Byte a) = byte_made n q a
number_cast_fits n prim.Short q (v.Short a) = short_made n q a
number_cast_fits n prim.Char q (v.Char unit) = char_made n q unit
number_cast_fits n prim.Int q (v.Int a) = int_made n q a
number_cast_fits n prim.Long q (v.Long a) = long_made n q a
number_cast_fits n p q value = tt

pub in_box_fits : (n : ℕ) (p : Primitive) (value : Value) → MadeFits n (in_box p value)
in_box_fits n prim.Boolean (v.Bool flag) = tt
in_box_fits n prim.Byte (v.Byte a) = tt
in_box_fits n prim.Short (v.Short a) = tt
in_box_fits n prim.Char (v.Char unit) = tt
in_box_fits n prim.Int (v.Int a) = tt
in_box_fits n prim.Long (v.Long a) = tt
in_box_fits n p value = tt

box_if_fits : (n : ℕ) (p : Primitive) (value : Option Value) → MadeFits n (box_if p value)
box_if_fits n p None = tt
box_if_fits n p (Some value) = in_box_fits n p value

truth_fits : (n : ℕ) (number : Num) → ValueFits n (truth_in number)
truth_fits n (num.Int a) = tt
truth_fits n (num.Long a) = tt

boxed_fits : (n : ℕ) (number : Num) → ValueFits n (boxed number)
boxed_fits n (num.Int a) = tt
boxed_fits n (num.Long a) = tt

chosen_value : (n : ℕ) (test : Bool) (x y : Value) → ValueFits n x → ValueFits n y → ValueFits n (if test then x else y)
chosen_value n true x y f g = f
chosen_value n false x y f g = g

result_fits : (n : ℕ) (o : Op) (number : Num) → ValueFits n (of_result o number)
result_fits n o number = chosen_value n (compares o) (truth_in number) (boxed number) (truth_fits n number) (boxed_fits n number)

negated_fits : (n : ℕ) (o : Told) → ToldFits n o → ToldFits n (negated o)
negated_fits n (told.Gives v.Null) f = f
negated_fits n (told.Gives (v.Bool flag)) f = tt
negated_fits n (told.Gives (v.Byte a)) f = f
negated_fits n (told.Gives (v.Short a)) f = f
negated_fits n (told.Gives (v.Char a)) f = f
negated_fits n (told.Gives (v.Int a)) f = f
negated_fits n (told.Gives (v.Long a)) f = f
negated_fits n (told.Gives (v.Str a)) f = f
negated_fits n (told.Gives (v.Ref a)) f = f
negated_fits n (told.Makes text) f = tt
negated_fits n (told.Throws raised message) f = tt
negated_fits n told.NoMemory f = tt

-- ---- what is passed to a member

passed_layer_fits : (n : ℕ) (layer : Ty-F Ty) (value : Value) → ValueFits n value → MadeFits n (passed_layer layer value)
passed_layer_fits n Ty-F.Void value f = f
passed_layer_fits n Ty-F.Null value f = f
passed_layer_fits n Ty-F.Def value f = f
passed_layer_fits n (Ty-F.Prim p) value f = in_box_fits n p value
passed_layer_fits n (Ty-F.Class class) value f = f
passed_layer_fits n (Ty-F.Array elem) value f = f

result_layer_fits : (n : ℕ) (layer : Ty-F Ty) (value : Value) → ValueFits n value → MadeFits n (passed_result_layer layer value)
result_layer_fits n Ty-F.Void value f = tt
result_layer_fits n Ty-F.Null value f = f
result_layer_fits n Ty-F.Def value f = f
result_layer_fits n (Ty-F.Prim p) value f = in_box_fits n p value
result_layer_fits n (Ty-F.Class class) value f = f
result_layer_fits n (Ty-F.Array elem) value f = f

-- .. and of what a function gives
pub passed_result_fits : (n : ℕ) (of : Ty) (value : Value) → ValueFits n value → MadeFits n (passed_result of value)
passed_result_fits n of value f = result_layer_fits n (out-Ty of) value f

joined_fits : (n : ℕ) (value : Option Value) (values : Option (List Value)) → MadeFits n value → AllMadeFit n values → AllMadeFit n (joined value values)
joined_fits n None None f g = tt
joined_fits n None (Some values) f g = tt
joined_fits n (Some value) None f g = tt
joined_fits n (Some value) (Some values) f g = (f, g)

passed_all_fits : (n : ℕ) (ofs : List Ty) (values : List Value) → AllFit n values → AllMadeFit n (passed_all ofs values)
passed_all_fits n [] [] f = tt
passed_all_fits n [] (value ∷ values) f = tt
passed_all_fits n (of ∷ ofs) [] f = tt
passed_all_fits n (of ∷ ofs) (value ∷ values) f = joined_fits n _ _ (passed_layer_fits n (out-Ty of) value f.0) (passed_all_fits n ofs values f.1)

passed_alike_fits : (n : ℕ) (of : Ty) (values : List Value) → AllFit n values → AllMadeFit n (passed_alike of values)
passed_alike_fits n of [] f = tt
passed_alike_fits n of (value ∷ values) f = joined_fits n _ _ (passed_layer_fits n (out-Ty of) value f.0) (passed_alike_fits n of values f.1)

abbrev pub SendingFits : ℕ → Sending → Type 0
SendingFits n Unsent = Unit {0}
SendingFits n OnNull = Unit {0}
SendingFits n (Sends arguments) = AllFit n arguments
SendingFits n Reads = Unit {0}

sends_fits : (n : ℕ) (arguments : Option (List Value)) → AllMadeFit n arguments → SendingFits n (sends arguments)
sends_fits n None f = tt
sends_fits n (Some arguments) f = f

chosen_sending : (n : ℕ) (test : Bool) (x y : Sending) → SendingFits n x → SendingFits n y → SendingFits n (if test then x else y)
chosen_sending n true x y f g = f
chosen_sending n false x y f g = g

sends_to_fits : (n : ℕ) (receiver : Value) (arguments : Option (List Value)) → ValueFits n receiver → AllMadeFit n arguments → SendingFits n (sends_to receiver arguments)
sends_to_fits n receiver None f g = tt
sends_to_fits n receiver (Some arguments) f g = chosen_sending n (is_null receiver) _ _ tt (f, g)

sent_by_fits : (n : ℕ) (k : MemberKind) (params : List Ty) (values : List Value) → AllFit n values → SendingFits n (sent_by k params values)
sent_by_fits n kind.Instance params [] f = tt
sent_by_fits n kind.Instance params (receiver ∷ values) f = sends_to_fits n receiver _ f.0 (passed_all_fits n params values f.1)
sent_by_fits n kind.Static params values f = sends_fits n _ (passed_all_fits n params values f)
sent_by_fits n kind.Constructor params values f = sends_fits n _ (passed_all_fits n params values f)
sent_by_fits n kind.Field params [] f = tt
sent_by_fits n kind.Field params (value ∷ values) f = tt

pub sent_fits : (n : ℕ) (m : MemberType) (values : List Value) → AllFit n values → SendingFits n (sent m values)
sent_fits n m values f = sent_by_fits n m.kind m.params values f

-- ---- what operators and casts come to

module _ (rules : Rules) (before : List Object) (w : World) (h : WorldFits rules before w) where
  abbrev pub OperatedFits : Operated → Type 0
  OperatedFits Meaningless = Unit {0}
  OperatedFits (Gives value) = ValueFits (count_in w) value
  OperatedFits (Acts e) = OutcomeFits rules before (count_in w) (acts_in w e)

  zero_fits : OperatedFits (Acts (effect w.store zero_divisor))
  unfolding says
  zero_fits = outcomes_fit rules before w zero_divisor h tt

  number_given_fits : (o : Op) (number : Option Num) → OperatedFits (number_given o number w.store)
  number_given_fits o None = zero_fits
  number_given_fits o (Some number) = result_fits (count_in w) o number

  number_operated_fits : (o : Op) (number : Option (Option Num)) → OperatedFits (number_operated o number w.store)
  number_operated_fits o None = tt
  number_operated_fits o (Some given) = number_given_fits o given

  flags_fit : (flag : Option Bool) → OperatedFits (flag_operated flag)
  flags_fit None = tt
  flags_fit (Some flag) = tt

  references_fit : (o : Operator) (a b : Value) → OperatedFits (of_references o a b w.store)
  references_fit operator.Equal a b = equality_fits rules before w a b h
  references_fit operator.NotEqual a b = outcomes_fit rules before w (negated (equal w.store.objects a b)) h (negated_fits (count_in w) _ (equal_fits (count_in w) w.store.objects a b))
  references_fit operator.Same a b = tt
  references_fit operator.NotSame a b = tt
  references_fit operator.Concat a b = concatenation_fits rules before w a b h
  references_fit o a b = tt

  reference_operated_fits : (o : Operator) (values : List Value) → OperatedFits (reference_operated o values w.store)
  reference_operated_fits o [] = tt
  reference_operated_fits o (a ∷ []) = tt
  reference_operated_fits o (a ∷ b ∷ []) = references_fit o a b
  reference_operated_fits o (a ∷ b ∷ c ∷ values) = tt

  any_fits : (o : Op) (values : List Value) → OperatedFits (of_any o values w.store)
  any_fits o [] = tt
  any_fits o (a ∷ []) = either (is_unary o)
    where
      either : (unary : Bool) → OperatedFits (if unary then Acts (effect w.store (operate w.store.objects o a a)) else Meaningless)
      either true = operate_fits rules before w h o a a
      either false = tt
  any_fits o (a ∷ b ∷ []) = either (is_unary o)
    where
      either : (unary : Bool) → OperatedFits (if unary then Meaningless else Acts (effect w.store (operate w.store.objects o a b)))
      either true = tt
      either false = operate_fits rules before w h o a b
  any_fits o (a ∷ b ∷ c ∷ values) = tt

  pub operates_fit : (o : Operator) (values : List Value) → OperatedFits (operates o values w.store)
  operates_fit (operator.Int o) values = number_operated_fits o (of_ints o (operands_of values))
  operates_fit (operator.Long o) values = number_operated_fits o (of_longs o (operands_of values))
  operates_fit (operator.Boolean o) values = flags_fit (of_flags o (operands_of values))
  operates_fit (operator.Def o) values = any_fits o values
  operates_fit o values = reference_operated_fits o values

  -- ---- lists, maps, arrays and iterators

  made_fits : (sizes : Option (List ℤ)) (of : Ty) → OperatedFits (made_of sizes of w.store)
  made_fits None of = tt
  made_fits (Some sizes) of = array_fits rules before w h of sizes

  filled_fits : (items : Option (List Value)) (elem : Ty) → AllMadeFit (count_in w) items → OperatedFits (filled_of items elem w.store)
  filled_fits None elem f = tt
  filled_fits (Some items) elem f = filled_array_fits rules before w h elem items f

  read_fits : (of : Ty) (values : List Value) → OperatedFits (read_at of values w.store)
  read_fits of (array ∷ v.Int at ∷ []) = element_fits rules before w h of array at
  read_fits of values = tt

  written_if_fits : (of : Ty) (array : Value) (at : ℤ) (value : Option Value) → MadeFits (count_in w) value → OperatedFits (written_if of array at value w.store)
  written_if_fits of array at None f = tt
  written_if_fits of array at (Some value) f = element_written_fits rules before w h of array at value f

  written_fits : (of : Ty) (values : List Value) → AllFit (count_in w) values → OperatedFits (written_at of values w.store)
  written_fits of (array ∷ v.Int at ∷ value ∷ []) f = written_if_fits of array at _ (passed_layer_fits (count_in w) (out-Ty of) value f.1.1.0)
  written_fits of values f = tt

  one_fits : (does : Store → Value → Effect) (values : List Value) → ((value : Value) → OutcomeFits rules before (count_in w) (acts_in w (does w.store value)))
      → OperatedFits (of_one_value does values w.store)
  one_fits does [] k = tt
  one_fits does (value ∷ []) k = k value
  one_fits does (value ∷ other ∷ values) k = tt

  pub operates_to_fit : (o : Operator) (of : Ty) (values : List Value) → AllFit (count_in w) values → OperatedFits (operates_to o of values w.store)
  operates_to_fit operator.List of values f = list_fits rules before w h values f
  operates_to_fit operator.Map of values f = map_fits rules before w h values f
  operates_to_fit operator.NewArray of values f = made_fits (ints_of values) of
  operates_to_fit operator.ArrayOf of values f = filled_fits _ _ (passed_alike_fits (count_in w) _ values f)
  operates_to_fit operator.Element of values f = read_fits of values
  operates_to_fit operator.PutElement of values f = written_fits of values f
  operates_to_fit operator.Length of values f = one_fits length_of values (λ value. length_fits rules before w h value)
  operates_to_fit operator.Iterate of values f = one_fits iterated values (λ value. iterated_fits rules before w h value)
  operates_to_fit operator.HasNext of values f = one_fits has_more values (λ value. has_fits rules before w h value)
  operates_to_fit operator.Next of values f = one_fits next_element values (λ value. next_fits rules before w h value)
  operates_to_fit o of values f = operates_fit o values

  gives_if_fits : (value : Option Value) → MadeFits (count_in w) value → OperatedFits (gives_if value)
  gives_if_fits None f = tt
  gives_if_fits (Some value) f = f

  text_if_fits : (value : Option Value) → MadeFits (count_in w) value → OperatedFits (text_if value w.store)
  text_if_fits None f = tt
  text_if_fits (Some value) f = casts_fit rules before w value (t.Class STRING) true h f

  unwrapped_fits : (p q : Primitive) (o : Told) → OperatedFits (unwrapped p q o w.store)
  unwrapped_fits p q (told.Gives value) = gives_if_fits _ (number_cast_fits (count_in w) p q value)
  unwrapped_fits p q (told.Throws raised message) = outcomes_fit rules before w (told.Throws raised message) h tt
  unwrapped_fits p q (told.Makes text) = tt
  unwrapped_fits p q told.NoMemory = tt

  pub cast_fits : (c : Cast) (to : Ty) (value : Value) → ValueFits (count_in w) value → OperatedFits (casts c to value w.store)
  cast_fits cast.Keep to value f = f
  cast_fits (cast.Number p q) to value f = gives_if_fits _ (number_cast_fits (count_in w) p q value)
  cast_fits (cast.Wrap p q) to value f = gives_if_fits _ (box_if_fits (count_in w) q (number_cast p q value))
  cast_fits (cast.Unwrap p q) to value f = unwrapped_fits p q (cast_at_run_time w.store.objects value (t.Prim p) false)
  cast_fits cast.Implicit to value f = casts_fit rules before w value to false h f
  cast_fits cast.Explicit to value f = casts_fit rules before w value to true h f
  cast_fits cast.CharToText to value f = text_if_fits _ (in_box_fits (count_in w) prim.Char value)
  cast_fits cast.TextToChar to value f = casts_fit rules before w value (t.Prim prim.Char) true h f
