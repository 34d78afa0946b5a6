-- Operators on words of their kinds calculate, and give a word of theirs.
use Rattle.std.proofs.Common.{◌≡◌, Bool, true, false, not, List, [], ◌∷◌, Option, Some, None, refl, ap, ◌∙◌}
use Rattle.std.specs.Prelude.{ℤ, int_lt, int_le}
use Rattle.std.specs.Int.{w32, w64}
use Rattle.std.specs.Ordering.{int_eq}
use Rattle.arithmetic.specs.declared.operator.Num.{Num}
use Rattle.arithmetic.specs.declared.operator.Num.TheVariants as n
use Rattle.arithmetic.specs.Arithmetic.{quotient_of, remainder_of}
use Rattle.arithmetic.specs.Operators.{truth, some_of}
use Rattle.pl_code.specs.declared.kinds.ArithmeticOp.{ArithmeticOp}
use Rattle.pl_code.specs.declared.kinds.ArithmeticOp.TheVariants as o
use Rattle.pl_code.specs.declared.kinds.Width.{Width}
use Rattle.pl_code.specs.declared.kinds.Width.TheVariants as width
use Rattle.pl_code.specs.declared.kinds.Slot.{Slot}
use Rattle.pl_code.specs.declared.kinds.Slot.TheVariants as slot
use Rattle.instruction_types.specs.Effects.{left_by, kind_of_width, arithmetic_effect}
use Rattle.code_meaning.specs.declared.word.Word.{Word}
use Rattle.code_meaning.specs.declared.word.Word.TheVariants.{I, J, R}
use Rattle.code_meaning.specs.Words.{word_of, Calculation, NoRow, Calculates, calculation}
use Rattle.verifier_soundness.specs.Fits.{kind_of, kinds_of}
use Rattle.verifier_soundness.proofs.Words.{exchanged, left_is}

-- a number of a kind, or a zero divisor
abbrev NumberIs : Slot → Option Num → Type 0
NumberIs k None = Unit {0}
NumberIs k (Some number) = kind_of (word_of number) ≡ k

-- What is calculated leaves these kinds.
abbrev pub CalculatesTo : Calculation → List Slot → Type 0
CalculatesTo NoRow left = ⊥
CalculatesTo (Calculates None stack) left = (k : Slot) × (k ∷ kinds_of stack ≡ left)
CalculatesTo (Calculates (Some number) stack) left = kind_of (word_of number) ∷ kinds_of stack ≡ left

to_left : (k : Slot) (number : Option Num) (stack : List Word) (left : List Slot) → NumberIs k number → k ∷ kinds_of stack ≡ left → CalculatesTo (Calculates number stack) left
to_left k None stack left is e = (k, e)
to_left k (Some number) stack left is e = ap (λ k. k ∷ kinds_of stack) is ∙ e

truth_is : (c : Bool) → kind_of (word_of (truth c)) ≡ slot.I
truth_is true = refl
truth_is false = refl

some_int : (a : Option ℤ) → NumberIs slot.I (some_of n.Int a)
some_int None = tt
some_int (Some a) = refl

some_long : (a : Option ℤ) → NumberIs slot.J (some_of n.Long a)
some_long None = tt
some_long (Some a) = refl

abbrev gives_one : Slot → List Slot
gives_one k = k ∷ []

-- ---- what lies on the stack

one_int : (left : List Slot) (stack : List Word) (P : List Word → Type 0) (k : Slot) → exchanged (slot.I ∷ []) (gives_one k) (kinds_of stack) ≡ Some left
    → ((a : ℤ) (rest : List Word) → k ∷ kinds_of rest ≡ left → P (I a ∷ rest)) → P stack
one_int left [] P k e h = cc
one_int left (I a ∷ stack) P k e h = h a stack (left_is (gives_one k) (kinds_of stack) left e)
one_int left (J a ∷ stack) P k e h = cc
one_int left (R a ∷ stack) P k e h = cc

one_long : (left : List Slot) (stack : List Word) (P : List Word → Type 0) (k : Slot) → exchanged (slot.J ∷ []) (gives_one k) (kinds_of stack) ≡ Some left
    → ((a : ℤ) (rest : List Word) → k ∷ kinds_of rest ≡ left → P (J a ∷ rest)) → P stack
one_long left [] P k e h = cc
one_long left (I a ∷ stack) P k e h = cc
one_long left (J a ∷ stack) P k e h = h a stack (left_is (gives_one k) (kinds_of stack) left e)
one_long left (R a ∷ stack) P k e h = cc

two_ints : (left : List Slot) (stack : List Word) (P : List Word → Type 0) (k : Slot) → exchanged (slot.I ∷ slot.I ∷ []) (gives_one k) (kinds_of stack) ≡ Some left
    → ((b a : ℤ) (rest : List Word) → k ∷ kinds_of rest ≡ left → P (I b ∷ I a ∷ rest)) → P stack
two_ints left [] P k e h = cc
two_ints left (I b ∷ []) P k e h = cc
two_ints left (I b ∷ I a ∷ stack) P k e h = h b a stack (left_is (gives_one k) (kinds_of stack) left e)
two_ints left (I b ∷ J a ∷ stack) P k e h = cc
two_ints left (I b ∷ R a ∷ stack) P k e h = cc
two_ints left (J b ∷ stack) P k e h = cc
two_ints left (R b ∷ stack) P k e h = cc

two_longs : (left : List Slot) (stack : List Word) (P : List Word → Type 0) (k : Slot) → exchanged (slot.J ∷ slot.J ∷ []) (gives_one k) (kinds_of stack) ≡ Some left
    → ((b a : ℤ) (rest : List Word) → k ∷ kinds_of rest ≡ left → P (J b ∷ J a ∷ rest)) → P stack
two_longs left [] P k e h = cc
two_longs left (J b ∷ []) P k e h = cc
two_longs left (J b ∷ I a ∷ stack) P k e h = cc
two_longs left (J b ∷ J a ∷ stack) P k e h = h b a stack (left_is (gives_one k) (kinds_of stack) left e)
two_longs left (J b ∷ R a ∷ stack) P k e h = cc
two_longs left (I b ∷ stack) P k e h = cc
two_longs left (R b ∷ stack) P k e h = cc

int_on_long : (left : List Slot) (stack : List Word) (P : List Word → Type 0) (k : Slot) → exchanged (slot.I ∷ slot.J ∷ []) (gives_one k) (kinds_of stack) ≡ Some left
    → ((b a : ℤ) (rest : List Word) → k ∷ kinds_of rest ≡ left → P (I b ∷ J a ∷ rest)) → P stack
int_on_long left [] P k e h = cc
int_on_long left (I b ∷ []) P k e h = cc
int_on_long left (I b ∷ I a ∷ stack) P k e h = cc
int_on_long left (I b ∷ J a ∷ stack) P k e h = h b a stack (left_is (gives_one k) (kinds_of stack) left e)
int_on_long left (I b ∷ R a ∷ stack) P k e h = cc
int_on_long left (J b ∷ stack) P k e h = cc
int_on_long left (R b ∷ stack) P k e h = cc

-- ---- each operator

abbrev To : ArithmeticOp → Width → List Slot → List Word → Type 0
To op w left stack = CalculatesTo (calculation op w stack) left

ints : (op : ArithmeticOp) (stack : List Word) (left : List Slot) → left_by (arithmetic_effect op slot.I) (kinds_of stack) ≡ Some left → CalculatesTo (calculation op width.Int stack) left
unfolding left_by
ints o.Add stack left e = two_ints left stack (To o.Add width.Int left) slot.I e (λ b a rest is. is)
ints o.Sub stack left e = two_ints left stack (To o.Sub width.Int left) slot.I e (λ b a rest is. is)
ints o.Mul stack left e = two_ints left stack (To o.Mul width.Int left) slot.I e (λ b a rest is. is)
ints o.Div stack left e = two_ints left stack (To o.Div width.Int left) slot.I e (λ b a rest is. to_left slot.I (some_of n.Int (quotient_of w32 a b)) rest left (some_int (quotient_of w32 a b)) is)
ints o.Rem stack left e = two_ints left stack (To o.Rem width.Int left) slot.I e (λ b a rest is. to_left slot.I (some_of n.Int (remainder_of a b)) rest left (some_int (remainder_of a b)) is)
ints o.And stack left e = two_ints left stack (To o.And width.Int left) slot.I e (λ b a rest is. is)
ints o.Or stack left e = two_ints left stack (To o.Or width.Int left) slot.I e (λ b a rest is. is)
ints o.Xor stack left e = two_ints left stack (To o.Xor width.Int left) slot.I e (λ b a rest is. is)
ints o.Neg stack left e = one_int left stack (To o.Neg width.Int left) slot.I e (λ a rest is. is)
ints o.Not stack left e = one_int left stack (To o.Not width.Int left) slot.I e (λ a rest is. is)
ints o.Shl stack left e = two_ints left stack (To o.Shl width.Int left) slot.I e (λ b a rest is. is)
ints o.Shr stack left e = two_ints left stack (To o.Shr width.Int left) slot.I e (λ b a rest is. is)
ints o.Ushr stack left e = two_ints left stack (To o.Ushr width.Int left) slot.I e (λ b a rest is. is)
ints o.Lt stack left e = two_ints left stack (To o.Lt width.Int left) slot.I e (λ b a rest is. to_left slot.I (Some (truth (int_lt a b))) rest left (truth_is (int_lt a b)) is)
ints o.Le stack left e = two_ints left stack (To o.Le width.Int left) slot.I e (λ b a rest is. to_left slot.I (Some (truth (int_le a b))) rest left (truth_is (int_le a b)) is)
ints o.Gt stack left e = two_ints left stack (To o.Gt width.Int left) slot.I e (λ b a rest is. to_left slot.I (Some (truth (int_lt b a))) rest left (truth_is (int_lt b a)) is)
ints o.Ge stack left e = two_ints left stack (To o.Ge width.Int left) slot.I e (λ b a rest is. to_left slot.I (Some (truth (int_le b a))) rest left (truth_is (int_le b a)) is)
ints o.Eq stack left e = two_ints left stack (To o.Eq width.Int left) slot.I e (λ b a rest is. to_left slot.I (Some (truth (int_eq a b))) rest left (truth_is (int_eq a b)) is)
ints o.Ne stack left e = two_ints left stack (To o.Ne width.Int left) slot.I e (λ b a rest is. to_left slot.I (Some (truth (not (int_eq a b)))) rest left (truth_is (not (int_eq a b))) is)

longs : (op : ArithmeticOp) (stack : List Word) (left : List Slot) → left_by (arithmetic_effect op slot.J) (kinds_of stack) ≡ Some left → CalculatesTo (calculation op width.Long stack) left
unfolding left_by
longs o.Add stack left e = two_longs left stack (To o.Add width.Long left) slot.J e (λ b a rest is. is)
longs o.Sub stack left e = two_longs left stack (To o.Sub width.Long left) slot.J e (λ b a rest is. is)
longs o.Mul stack left e = two_longs left stack (To o.Mul width.Long left) slot.J e (λ b a rest is. is)
longs o.Div stack left e = two_longs left stack (To o.Div width.Long left) slot.J e (λ b a rest is. to_left slot.J (some_of n.Long (quotient_of w64 a b)) rest left (some_long (quotient_of w64 a b)) is)
longs o.Rem stack left e = two_longs left stack (To o.Rem width.Long left) slot.J e (λ b a rest is. to_left slot.J (some_of n.Long (remainder_of a b)) rest left (some_long (remainder_of a b)) is)
longs o.And stack left e = two_longs left stack (To o.And width.Long left) slot.J e (λ b a rest is. is)
longs o.Or stack left e = two_longs left stack (To o.Or width.Long left) slot.J e (λ b a rest is. is)
longs o.Xor stack left e = two_longs left stack (To o.Xor width.Long left) slot.J e (λ b a rest is. is)
longs o.Neg stack left e = one_long left stack (To o.Neg width.Long left) slot.J e (λ a rest is. is)
longs o.Not stack left e = one_long left stack (To o.Not width.Long left) slot.J e (λ a rest is. is)
longs o.Shl stack left e = int_on_long left stack (To o.Shl width.Long left) slot.J e (λ b a rest is. is)
longs o.Shr stack left e = int_on_long left stack (To o.Shr width.Long left) slot.J e (λ b a rest is. is)
longs o.Ushr stack left e = int_on_long left stack (To o.Ushr width.Long left) slot.J e (λ b a rest is. is)
longs o.Lt stack left e = two_longs left stack (To o.Lt width.Long left) slot.I e (λ b a rest is. to_left slot.I (Some (truth (int_lt a b))) rest left (truth_is (int_lt a b)) is)
longs o.Le stack left e = two_longs left stack (To o.Le width.Long left) slot.I e (λ b a rest is. to_left slot.I (Some (truth (int_le a b))) rest left (truth_is (int_le a b)) is)
longs o.Gt stack left e = two_longs left stack (To o.Gt width.Long left) slot.I e (λ b a rest is. to_left slot.I (Some (truth (int_lt b a))) rest left (truth_is (int_lt b a)) is)
longs o.Ge stack left e = two_longs left stack (To o.Ge width.Long left) slot.I e (λ b a rest is. to_left slot.I (Some (truth (int_le b a))) rest left (truth_is (int_le b a)) is)
longs o.Eq stack left e = two_longs left stack (To o.Eq width.Long left) slot.I e (λ b a rest is. to_left slot.I (Some (truth (int_eq a b))) rest left (truth_is (int_eq a b)) is)
longs o.Ne stack left e = two_longs left stack (To o.Ne width.Long left) slot.I e (λ b a rest is. to_left slot.I (Some (truth (not (int_eq a b)))) rest left (truth_is (not (int_eq a b))) is)

pub calculates : (op : ArithmeticOp) (w : Width) (stack : List Word) (left : List Slot) → left_by (arithmetic_effect op (kind_of_width w)) (kinds_of stack) ≡ Some left → CalculatesTo (calculation op w stack) left
calculates op width.Int stack left e = ints op stack left e
calculates op width.Long stack left e = longs op stack left e
