-- Which members give a reference, and of which type: those of numbers and those of texts, as the catalogue has it.
use Rattle.std.proofs.Common.{arith, inl, inr, ◌≡◌, ◌<◌, ℕ, ◌==◌, Bool, true, false, Option, Some, None, get_or, map, refl, sym, ap, ◌∙◌, slice_get, if◌then◌else◌}
use Rattle.std.specs.List.{range_with_len}
use Rattle.std.proofs.lemmas.Bool.{cond-true, cases_lt, both_ways}
use Rattle.std.proofs.lemmas.List.FromFn.{get_or-map-range_with_len}
use Rattle.pl_types.specs.declared.classes.TheConstants.{INTEGER, LONG, STRING, STRING_BUILDER}
use Rattle.pl_types.specs.declared.primitive.Primitive.TheVariants as prim
use Rattle.pl_types.specs.declared.ty.Ty.{Ty, out-Ty}
use Rattle.pl_types.specs.declared.ty.Ty.TheVariants as ty
use Rattle.pl_types.specs.declared.ty.Ty.TheOpen.{Ty-F}
use Rattle.allowlist.specs.declared.member.MemberKind.{MemberKind}
use Rattle.allowlist.specs.declared.member.MemberKind.TheVariants as kind
use Rattle.allowlist.specs.declared.member.MemberType.{MemberType}
use Rattle.allowlist.specs.Catalogue.{catalogue}
use Rattle.number_ops.specs.declared.member.Member.{Member as NumberMember}
use Rattle.number_ops.specs.declared.member.Member.TheVariants as number
use Rattle.number_ops.specs.declared.numbers.OneInt.{OneInt}
use Rattle.number_ops.specs.declared.numbers.OneInt.TheVariants as int
use Rattle.number_ops.specs.declared.numbers.OneLong.{OneLong}
use Rattle.number_ops.specs.declared.numbers.OneLong.TheVariants as long
use Rattle.number_ops.specs.Members as numbers
use Rattle.api_text.specs.declared.member.Member.{Member as TextMember}
use Rattle.api_text.specs.declared.member.Member.TheVariants as m
use Rattle.api_text.specs.Members as texts
use Rattle.api_text.specs.Outcomes.{number_of}
use Rattle.run_fit.specs.Members.{is_of_numbers, is_of_texts}
use Rattle.run_fit.proofs.Built.{number_range, text_range, of_numbers, of_texts, no_number, no_text}

abbrev pub string : Ty
string = ty.Class STRING

abbrev pub builder : Ty
builder = ty.Class STRING_BUILDER

-- The type, where it is one of references that not every value is of. (Of void and def every value is, and what a member gives of a primitive
-- type is said by `members_give_types`.)
abbrev pub reference_layer : Ty → Ty-F Ty → Option Ty
reference_layer of Ty-F.Void = None
reference_layer of Ty-F.Def = None
reference_layer of (Ty-F.Prim p) = None
reference_layer of other = Some of

abbrev pub reference_in : Ty → Option Ty
reference_in of = reference_layer of (out-Ty of)

-- ---- as they give it

abbrev pub int_reference : OneInt → Option Ty
int_reference int.ToBinary = Some string
int_reference int.ToHex = Some string
int_reference int.ToText = Some string
int_reference int.ValueOf = Some (ty.Class INTEGER)
int_reference other = None

abbrev pub long_reference : OneLong → Option Ty
long_reference long.ToBinary = Some string
long_reference long.ToHex = Some string
long_reference long.ToText = Some string
long_reference long.ValueOf = Some (ty.Class LONG)
long_reference other = None

abbrev pub number_reference : NumberMember → Option Ty
number_reference number.ToText = Some string
number_reference (number.OfInt member) = int_reference member
number_reference (number.OfLong member) = long_reference member
number_reference other = None

abbrev pub text_reference : TextMember → Option Ty
text_reference m.Join = Some string
text_reference m.ValueOf = Some string
text_reference m.Concat = Some string
text_reference m.Replace = Some string
text_reference m.SplitOnToken = Some (ty.Array string)
text_reference m.SplitOnTokenLimited = Some (ty.Array string)
text_reference m.SubstringFrom = Some string
text_reference m.Substring = Some string
text_reference m.ToCharArray = Some (ty.Array (ty.Prim prim.Char))
text_reference m.ToLowerCase = Some string
text_reference m.ToUpperCase = Some string
text_reference m.Trim = Some string
text_reference m.NewBuilder = Some builder
text_reference m.NewBuilderOf = Some builder
text_reference m.Append = Some builder
text_reference m.DeleteCharAt = Some builder
text_reference m.Insert = Some builder
text_reference (m.NewException class) = Some (ty.Class (number_of class))
text_reference (m.NewExceptionSaying class) = Some (ty.Class (number_of class))
text_reference m.GetMessage = Some string
text_reference other = None

-- those that give their receiver, a builder
abbrev pub gives_receiver : TextMember → Bool
gives_receiver m.Append = true
gives_receiver m.DeleteCharAt = true
gives_receiver m.Insert = true
gives_receiver other = false

-- ---- as the catalogue has it

abbrev pub in_row : Option MemberType → Option Ty
in_row None = None
in_row (Some member) = reference_in member.result

abbrev pub is_builder : Ty-F Ty → Bool
is_builder (Ty-F.Class class) = class == STRING_BUILDER
is_builder other = false

-- a member of builders that gives one
abbrev pub is_changer_by : MemberKind → MemberType → Bool
is_changer_by kind.Instance member = if is_builder (out-Ty member.result) then member.owner == STRING_BUILDER else false
is_changer_by other member = false

abbrev pub changes_in : Option MemberType → Bool
changes_in None = false
changes_in (Some member) = is_changer_by member.kind member

abbrev pub number_row : Option NumberMember → Option Ty
number_row None = None
number_row (Some member) = number_reference member

abbrev pub text_row : Option TextMember → Option Ty
text_row None = None
text_row (Some member) = text_reference member

abbrev pub receiver_row : Option TextMember → Bool
receiver_row None = false
receiver_row (Some member) = gives_receiver member

abbrev pub number_row_of : ℕ → Option Ty
number_row_of n = if number_range n then in_row (slice_get catalogue n) else None

abbrev pub text_row_of : ℕ → Option Ty
text_row_of n = if text_range n then in_row (slice_get catalogue n) else None

abbrev pub receiver_row_of : ℕ → Bool
receiver_row_of n = if text_range n then changes_in (slice_get catalogue n) else false

number_rows : map (λ n. number_row (numbers.numbered n)) (range_with_len 0 58) ≡ map number_row_of (range_with_len 0 58)
unfolding numbers.numbered numbers.members catalogue out-Ty denote.Hole.Carrier.out
number_rows = refl

text_rows : map (λ n. text_row (texts.numbered n)) (range_with_len 0 225) ≡ map text_row_of (range_with_len 0 225)
unfolding texts.numbered texts.of_sequences texts.of_texts texts.of_exceptions catalogue out-Ty denote.Hole.Carrier.out
text_rows = refl

receiver_rows : map (λ n. receiver_row (texts.numbered n)) (range_with_len 0 225) ≡ map receiver_row_of (range_with_len 0 225)
unfolding texts.numbered texts.of_sequences texts.of_texts texts.of_exceptions catalogue out-Ty denote.Hole.Carrier.out
receiver_rows = refl

-- a row of two tables that agree
at_row : {A : Type 0} → (f g : ℕ → A) (most n : ℕ) (other : A) → n < most → map f (range_with_len 0 most) ≡ map g (range_with_len 0 most) → f n ≡ g n
at_row f g most n other below same =
    sym (get_or-map-range_with_len f 0 most n n other below (omega arith)) ∙ ap (λ rows. get_or rows n other) same ∙ get_or-map-range_with_len g 0 most n n other below (omega arith)

pub number_row_at : (n : ℕ) (member : MemberType) → is_of_numbers n ≡ true → slice_get catalogue n ≡ Some member → number_row (numbers.numbered n) ≡ reference_in member.result
number_row_at n member is h = elim (cases_lt n 58) [
  | inl below ↦
      at_row (λ k. number_row (numbers.numbered k)) number_row_of 58 n None below number_rows
      ∙ cond-true (number_range n) (in_row (slice_get catalogue n)) None (sym (of_numbers n) ∙ is) ∙ ap in_row h
  | inr past ↦ absurd (both_ways (is_of_numbers n) (no_number n past) is)
]

pub text_row_at : (n : ℕ) (member : MemberType) → is_of_texts n ≡ true → slice_get catalogue n ≡ Some member → text_row (texts.numbered n) ≡ reference_in member.result
text_row_at n member is h = elim (cases_lt n 225) [
  | inl below ↦
      at_row (λ k. text_row (texts.numbered k)) text_row_of 225 n None below text_rows
      ∙ cond-true (text_range n) (in_row (slice_get catalogue n)) None (sym (of_texts n) ∙ is) ∙ ap in_row h
  | inr past ↦ absurd (both_ways (is_of_texts n) (no_text n past) is)
]

pub receiver_row_at : (n : ℕ) (member : MemberType) → is_of_texts n ≡ true → slice_get catalogue n ≡ Some member → receiver_row (texts.numbered n) ≡ is_changer_by member.kind member
receiver_row_at n member is h = elim (cases_lt n 225) [
  | inl below ↦
      at_row (λ k. receiver_row (texts.numbered k)) receiver_row_of 225 n false below receiver_rows
      ∙ cond-true (text_range n) (changes_in (slice_get catalogue n)) false (sym (of_texts n) ∙ is) ∙ ap changes_in h
  | inr past ↦ absurd (both_ways (is_of_texts n) (no_text n past) is)
]
