-- Natural order and the order of keys put values of one class in one order.
use Rattle.std.proofs.Common.{◌≡◌, ℕ, suc, nat_lt, Bool, true, false, Option, Some, None, List, [], ◌∷◌, length, refl, ap, sym, ◌∙◌, subst, arith, if◌then◌else◌, is_some}
use Rattle.std.specs.Prelude.{ℤ, int_lt, pos}
use Rattle.std.proofs.lemmas.Bool.Decides.{nat_tests}
use Rattle.object_values.specs.declared.object.Object.{Object}
use Rattle.object_values.specs.declared.value.Value.{Value}
use Rattle.object_values.specs.declared.value.Value.TheVariants as v
use Rattle.number_ops.specs.Order as order
use Rattle.number_ops.specs.Order.{natural}
use Rattle.container_outcomes.specs.Outcomes.{null_error}
use Rattle.api_sort.specs.Keys.{key_before}
use Rattle.api_sort.specs.Ordering.{before, first_other, has_null, other_refused, others_refused, refusal}
use Rattle.api_sort.specs.Sorting.{inserted, sorted_by}
use Rattle.api_sort.proofs.Signs.{comparison_less, difference_less, ordering_less, text_less}

-- two values that natural order compares
agrees : (a b : Value) → is_some (natural a b) ≡ true → before a b ≡ key_before a b
agrees (v.Int a) (v.Int b) h = comparison_less (int_lt a b) (int_lt b a)
agrees (v.Long a) (v.Long b) h = comparison_less (int_lt a b) (int_lt b a)
agrees (v.Bool false) (v.Bool false) h = refl
agrees (v.Bool false) (v.Bool true) h = refl
agrees (v.Bool true) (v.Bool false) h = refl
agrees (v.Bool true) (v.Bool true) h = refl
agrees (v.Byte a) (v.Byte b) h = difference_less a b ∙ sym (ordering_less (int_lt a b) (int_lt b a))
agrees (v.Short a) (v.Short b) h = difference_less a b ∙ sym (ordering_less (int_lt a b) (int_lt b a))
agrees (v.Char a) (v.Char b) h = difference_less (pos a) (pos b) ∙ sym (ordering_less (int_lt (pos a) (pos b)) (int_lt (pos b) (pos a)))
agrees (v.Str a) (v.Str b) h = text_less a b
agrees a b h = cc

-- values that are compared with one are compared with each other, and it with itself
same_int : (a b : ℤ) (value : Value) → is_some (order.int_order a value) ≡ is_some (order.int_order b value)
same_int a b (v.Int c) = refl
same_int a b value = refl

same_long : (a b : ℤ) (value : Value) → is_some (order.long_order a value) ≡ is_some (order.long_order b value)
same_long a b (v.Long c) = refl
same_long a b value = refl

same_truth : (a b : Bool) (value : Value) → is_some (order.truth_order a value) ≡ is_some (order.truth_order b value)
same_truth a b (v.Bool c) = refl
same_truth a b value = refl

same_byte : (a b : ℤ) (value : Value) → is_some (order.byte_order a value) ≡ is_some (order.byte_order b value)
same_byte a b (v.Byte c) = refl
same_byte a b value = refl

same_short : (a b : ℤ) (value : Value) → is_some (order.short_order a value) ≡ is_some (order.short_order b value)
same_short a b (v.Short c) = refl
same_short a b value = refl

same_char : (a b : ℕ) (value : Value) → is_some (order.char_order a value) ≡ is_some (order.char_order b value)
same_char a b (v.Char c) = refl
same_char a b value = refl

same_text : (a b : List ℕ) (value : Value) → is_some (order.order_of_text a value) ≡ is_some (order.order_of_text b value)
same_text a b (v.Str c) = refl
same_text a b value = refl

together : (first a b : Value) → is_some (natural first a) ≡ true → is_some (natural first b) ≡ true → is_some (natural a b) ≡ true
together (v.Int x) (v.Int y) b h k = same_int y x b ∙ k
together (v.Long x) (v.Long y) b h k = same_long y x b ∙ k
together (v.Bool x) (v.Bool y) b h k = same_truth y x b ∙ k
together (v.Byte x) (v.Byte y) b h k = same_byte y x b ∙ k
together (v.Short x) (v.Short y) b h k = same_short y x b ∙ k
together (v.Char x) (v.Char y) b h k = same_char y x b ∙ k
together (v.Str x) (v.Str y) b h k = same_text y x b ∙ k
together first a b h k = cc

itself : (first a : Value) → is_some (natural first a) ≡ true → is_some (natural first first) ≡ true
itself (v.Int x) a h = refl
itself (v.Long x) a h = refl
itself (v.Bool x) a h = refl
itself (v.Byte x) a h = refl
itself (v.Short x) a h = refl
itself (v.Char x) a h = refl
itself (v.Str x) a h = refl
itself first a h = cc

-- values that are all compared with one
abbrev AllCompared : Value → List Value → Type 0
AllCompared first [] = Unit {0}
AllCompared first (value ∷ values) = (is_some (natural first value) ≡ true) × AllCompared first values

compared_if : (first value : Value) (values : List Value) (is : Bool) → is_some (natural first value) ≡ is → (if is then first_other first values else Some value) ≡ None
    → (first_other first values ≡ None → AllCompared first values) → AllCompared first (value ∷ values)
compared_if first value values true e h next = (e, next h)
compared_if first value values false e h next = cc

all_compared : (first : Value) (values : List Value) → first_other first values ≡ None → AllCompared first values
all_compared first [] h = tt
all_compared first (value ∷ values) h = compared_if first value values (is_some (natural first value)) refl h (all_compared first values)

compared_behind : (first new : Value) (values : List Value) → is_some (natural first new) ≡ true → AllCompared first values → AllCompared first (inserted key_before new values)
compared_behind first new [] h a = (h, tt)
compared_behind first new (value ∷ values) h a =
    elim (key_before value new) as (λ b. AllCompared first (if b then value ∷ inserted key_before new values else new ∷ value ∷ values)) [ true ↦ (a.0, compared_behind first new values h a.1) | false ↦ (h, a) ]

compared_sorted : (first : Value) (values : List Value) → AllCompared first values → AllCompared first (sorted_by key_before values)
compared_sorted first [] a = tt
compared_sorted first (value ∷ values) a = compared_behind first value (sorted_by key_before values) a.0 (compared_sorted first values a.1)

inserted_same : (first new : Value) (values : List Value) → is_some (natural first new) ≡ true → AllCompared first values → inserted before new values ≡ inserted key_before new values
inserted_same first new [] h a = refl
inserted_same first new (value ∷ values) h a =
    ap (λ (b : Bool). if b then value ∷ inserted before new values else new ∷ value ∷ values) (agrees value new (together first value new a.0 h))
    ∙ ap (λ (rest : List Value). if key_before value new then value ∷ rest else new ∷ value ∷ values) (inserted_same first new values h a.1)

sorted_same : (first : Value) (values : List Value) → AllCompared first values → sorted_by before values ≡ sorted_by key_before values
sorted_same first [] a = refl
sorted_same first (value ∷ values) a =
    ap (inserted before value) (sorted_same first values a.1) ∙ inserted_same first value (sorted_by key_before values) a.0 (compared_sorted first values a.1)

-- values that are not refused are in natural order where they are in the order of their keys
other_none : (objects : List Object) (first : Value) (found : Option Value) → other_refused objects first found ≡ None → found ≡ None
other_none objects first None h = refl
other_none objects first (Some other) h = cc

first_of : (first second : Value) (rest : List Value) → AllCompared first (second ∷ rest) → AllCompared first (first ∷ second ∷ rest)
first_of first second rest a = (itself first second a.0, a)

null_free : (objects : List Object) (first second : Value) (rest : List Value) (null : Bool) → (if null then Some null_error else other_refused objects first (first_other first (second ∷ rest))) ≡ None
    → sorted_by before (first ∷ second ∷ rest) ≡ sorted_by key_before (first ∷ second ∷ rest)
null_free objects first second rest true h = cc
null_free objects first second rest false h =
    sorted_same first (first ∷ second ∷ rest) (first_of first second rest (all_compared first (second ∷ rest) (other_none objects first (first_other first (second ∷ rest)) h)))

several : (n : ℕ) → nat_lt (suc (suc n)) 2 ≡ false
several n = grind (arith, nat_tests)

pub in_natural_order : (objects : List Object) (values : List Value) → refusal objects values ≡ None → sorted_by before values ≡ sorted_by key_before values
in_natural_order objects [] h = refl
in_natural_order objects (value ∷ []) h = refl
in_natural_order objects (first ∷ second ∷ rest) h =
    null_free objects first second rest (has_null (first ∷ second ∷ rest))
    (subst (λ (few : Bool). (if few then None else (if has_null (first ∷ second ∷ rest) then Some null_error else others_refused objects (first ∷ second ∷ rest) (Some first))) ≡ None) (several (length rest)) h)
