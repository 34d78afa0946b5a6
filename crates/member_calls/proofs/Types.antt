-- What members give is of their types: by their rows in the catalogue.
use Rattle.std.proofs.Common.{arith, inl, inr, ◌≡◌, ◌+◌, ◌-◌, ℕ, true, false, ℤ, Option, Some, None, List, length, get_or, map, refl, sym, ap, subst, ◌∙◌, slice_get, if◌then◌else◌}
use Rattle.std.specs.Prelude.{option_map}
use Rattle.std.specs.List.{range_with_len}
use Rattle.std.proofs.lemmas.Bool.{cond_both, cond-true, cases_lt, both_ways, lt-leb}
use Rattle.std.proofs.lemmas.Option.{slice_get_within}
use Rattle.pl_types.specs.Host.{HostMeaning}
use Rattle.std.proofs.lemmas.List.FromFn.{get_or-map-range_with_len}
use Rattle.pl_types.specs.declared.primitive.Primitive.{Primitive}
use Rattle.pl_types.specs.declared.primitive.Primitive.TheVariants as prim
use Rattle.pl_types.specs.declared.ty.Ty.{out-Ty}
use Rattle.allowlist.specs.declared.member.MemberType.{MemberType}
use Rattle.allowlist.specs.Catalogue.{catalogue}
use Rattle.allowlist.proofs.Tables.{length-catalogue}
use Rattle.object_values.specs.declared.value.Value.{Value}
use Rattle.object_values.specs.declared.value.Value.TheVariants as v
use Rattle.object_heap.specs.Effects as e
use Rattle.object_heap.specs.Store.{Store, paid}
use Rattle.number_ops.specs.declared.member.Member.{Member as NumberMember}
use Rattle.number_ops.specs.declared.outcome.Outcome.{Outcome as NumberOutcome}
use Rattle.number_ops.specs.declared.outcome.Outcome.TheVariants as outcome
use Rattle.number_ops.specs.Members as numbers
use Rattle.number_ops.specs.Outcomes as number_outcomes
use Rattle.api_text.specs.declared.member.Member.{Member as TextMember}
use Rattle.api_text.specs.declared.member.Member.TheVariants as m
use Rattle.api_text.specs.declared.outcome.Outcome.{Outcome as TextOutcome}
use Rattle.api_text.specs.declared.outcome.Outcome.TheVariants as text
use Rattle.container_calls.specs.Arguments.{int_at, text_at, sequence_at}
use Rattle.api_text.specs.Arguments.{with_one, with_two, with_three}
use Rattle.api_text.specs.Members as texts
use Rattle.api_text.specs.Outcomes as text_outcomes
use Rattle.api_text.specs.Sequences as sequences
use Rattle.api_text.specs.Texts as parts
use Rattle.container_calls.specs.Members.{is_of_containers}
use Rattle.container_calls.specs.Types.{primitive_of, suits, EffectGives}
use Rattle.container_calls.proofs.Giving.{anything, given_in, paid_gives, throw_gives}
use Rattle.container_calls.proofs.Types.{container_gives}
use Rattle.member_calls.specs.Members.{is_of_numbers, is_of_texts, first_of_host, is_of_host, does}
use Rattle.member_calls.specs.Types.{ActGives}
use Rattle.member_calls.proofs.Built.{number_range, text_range, of_numbers, of_texts, no_number, no_text}
use Rattle.member_calls.proofs.NumberTypes.{NumberGives, given_of, does_gives}

number_settled : (wanted : Option Primitive) (store : Store) (told : NumberOutcome) → NumberGives wanted told → EffectGives wanted (number_outcomes.effect store told)
number_settled wanted store (outcome.Gives value) h = h
number_settled wanted store (outcome.Makes units) h = paid_gives wanted store store.objects (length units + 1) (λ paid. e.Gives (v.Str units) paid) (λ room. h)
number_settled wanted store (outcome.Throws raised message) h = throw_gives wanted store (number_outcomes.class_raised raised) message
number_settled wanted store outcome.NoMemory h = h

-- ---- texts

-- of members that give a primitive: a value, or an exception
abbrev pub TextGives : Option Primitive → TextOutcome → Type 0
TextGives wanted (text.Gives value) = suits wanted value ≡ true
TextGives wanted (text.Throws class message) = Unit {0}
TextGives wanted told = ⊥

text_settled : (wanted : Option Primitive) (store : Store) (told : TextOutcome) → TextGives wanted told → EffectGives wanted (text_outcomes.effect store told)
text_settled wanted store (text.Gives value) h = h
text_settled wanted store (text.Throws class message) h = throw_gives wanted store (text_outcomes.number_of class) message
text_settled wanted store told h = absurd h

one_gives : {A : Type 0} → (wanted : Option Primitive) (f : A → TextOutcome) (a : Option A) → ((a : A) → TextGives wanted (f a)) → TextGives wanted (with_one f a)
one_gives wanted f None h = tt
one_gives wanted f (Some a) h = h a

two_give : {A B : Type 0} → (wanted : Option Primitive) (f : A → B → TextOutcome) (a : Option A) (b : Option B) → ((a : A) (b : B) → TextGives wanted (f a b)) → TextGives wanted (with_two f a b)
two_give wanted f None b h = tt
two_give wanted f (Some a) None h = tt
two_give wanted f (Some a) (Some b) h = h a b

three_give : {A B C : Type 0} → (wanted : Option Primitive) (f : A → B → C → TextOutcome) (a : Option A) (b : Option B) (c : Option C)
    → ((a : A) (b : B) (c : C) → TextGives wanted (f a b c)) → TextGives wanted (with_three f a b c)
three_give wanted f None b c h = tt
three_give wanted f (Some a) None c h = tt
three_give wanted f (Some a) (Some b) None h = tt
three_give wanted f (Some a) (Some b) (Some c) h = h a b c

unit_gives : (units : List ℕ) (at : ℤ) (found : Option ℕ) → TextGives (Some prim.Char) (sequences.unit_given units at found)
unfolding text_outcomes.says
unit_gives units at None = tt
unit_gives units at (Some unit) = refl

same_gives : (units : List ℕ) (other : Option (List ℕ)) → TextGives (Some prim.Boolean) (parts.same_text units other)
same_gives units None = refl
same_gives units (Some other) = refl

abbrev pub text_given : TextMember → Option Primitive
text_given m.CharAt = Some prim.Char
text_given m.Length = Some prim.Int
text_given m.Contains = Some prim.Boolean
text_given m.EndsWith = Some prim.Boolean
text_given m.EqualsIgnoreCase = Some prim.Boolean
text_given m.IndexOf = Some prim.Int
text_given m.IndexOfFrom = Some prim.Int
text_given m.IsEmpty = Some prim.Boolean
text_given m.LastIndexOf = Some prim.Int
text_given m.StartsWith = Some prim.Boolean
text_given m.StartsWithAt = Some prim.Boolean
text_given m.BuilderIndexOf = Some prim.Int
text_given other = None

text_does_gives : (store : Store) (member : TextMember) (arguments : List Value) → EffectGives (text_given member) (text_outcomes.effect store (texts.does store.objects member arguments))
text_does_gives store m.CharAt arguments =
    text_settled (Some prim.Char) store (texts.does store.objects m.CharAt arguments)
    (two_give {A = List ℕ} {B = ℤ} (Some prim.Char) sequences.char_of (sequence_at store.objects arguments 0) (int_at arguments 1) (λ units at. unit_gives units at (sequences.unit_in units at)))
text_does_gives store m.Length arguments =
    text_settled (Some prim.Int) store (texts.does store.objects m.Length arguments)
    (one_gives {A = List ℕ} (Some prim.Int) sequences.length_of (sequence_at store.objects arguments 0) (λ units. refl))
text_does_gives store m.Contains arguments =
    text_settled (Some prim.Boolean) store (texts.does store.objects m.Contains arguments)
    (two_give {A = List ℕ} {B = List ℕ} (Some prim.Boolean) parts.contains_of (text_at arguments 0) (sequence_at store.objects arguments 1) (λ units part. refl))
text_does_gives store m.EndsWith arguments =
    text_settled (Some prim.Boolean) store (texts.does store.objects m.EndsWith arguments)
    (two_give {A = List ℕ} {B = List ℕ} (Some prim.Boolean) parts.ends_of (text_at arguments 0) (text_at arguments 1) (λ units part. refl))
text_does_gives store m.EqualsIgnoreCase arguments =
    text_settled (Some prim.Boolean) store (texts.does store.objects m.EqualsIgnoreCase arguments)
    (one_gives {A = List ℕ} (Some prim.Boolean) (λ units. parts.same_text units (text_at arguments 1)) (text_at arguments 0) (λ units. same_gives units (text_at arguments 1)))
text_does_gives store m.IndexOf arguments =
    text_settled (Some prim.Int) store (texts.does store.objects m.IndexOf arguments)
    (two_give {A = List ℕ} {B = List ℕ} (Some prim.Int) parts.place_of (text_at arguments 0) (text_at arguments 1) (λ units part. refl))
text_does_gives store m.IndexOfFrom arguments =
    text_settled (Some prim.Int) store (texts.does store.objects m.IndexOfFrom arguments)
    (three_give {A = List ℕ} {B = List ℕ} {C = ℤ} (Some prim.Int) parts.place_from (text_at arguments 0) (text_at arguments 1) (int_at arguments 2) (λ units part at. refl))
text_does_gives store m.IsEmpty arguments =
    text_settled (Some prim.Boolean) store (texts.does store.objects m.IsEmpty arguments)
    (one_gives {A = List ℕ} (Some prim.Boolean) parts.empty_of (text_at arguments 0) (λ units. refl))
text_does_gives store m.LastIndexOf arguments =
    text_settled (Some prim.Int) store (texts.does store.objects m.LastIndexOf arguments)
    (two_give {A = List ℕ} {B = List ℕ} (Some prim.Int) parts.last_place_of (text_at arguments 0) (text_at arguments 1) (λ units part. refl))
text_does_gives store m.StartsWith arguments =
    text_settled (Some prim.Boolean) store (texts.does store.objects m.StartsWith arguments)
    (two_give {A = List ℕ} {B = List ℕ} (Some prim.Boolean) parts.starts_of (text_at arguments 0) (text_at arguments 1) (λ units part. refl))
text_does_gives store m.StartsWithAt arguments =
    text_settled (Some prim.Boolean) store (texts.does store.objects m.StartsWithAt arguments)
    (three_give {A = List ℕ} {B = List ℕ} {C = ℤ} (Some prim.Boolean) parts.starts_at_of (text_at arguments 0) (text_at arguments 1) (int_at arguments 2) (λ units part at. refl))
text_does_gives store m.BuilderIndexOf arguments =
    text_settled (Some prim.Int) store (texts.does store.objects m.BuilderIndexOf arguments)
    (two_give {A = List ℕ} {B = List ℕ} (Some prim.Int) parts.place_of (sequence_at store.objects arguments 0) (text_at arguments 1) (λ units part. refl))
text_does_gives store other arguments = anything (text_outcomes.effect store (texts.does store.objects other arguments))

-- ---- rows of the catalogue

abbrev pub number_row : Option NumberMember → Option (Option Primitive)
number_row None = None
number_row (Some member) = Some (given_of member)

abbrev pub catalogue_number_row : ℕ → Option (Option Primitive)
catalogue_number_row n = if number_range n then option_map given_in (slice_get catalogue n) else None

number_rows : map (λ n. number_row (numbers.numbered n)) (range_with_len 0 58) ≡ map catalogue_number_row (range_with_len 0 58)
unfolding numbers.numbered numbers.members catalogue out-Ty denote.Hole.Carrier.out
number_rows = refl

abbrev pub text_row : Option TextMember → Option (Option Primitive)
text_row None = None
text_row (Some member) = Some (text_given member)

abbrev pub catalogue_text_row : ℕ → Option (Option Primitive)
catalogue_text_row n = if text_range n then option_map given_in (slice_get catalogue n) else None

text_rows : map (λ n. text_row (texts.numbered n)) (range_with_len 0 225) ≡ map catalogue_text_row (range_with_len 0 225)
unfolding texts.numbered texts.of_sequences texts.of_texts texts.of_exceptions catalogue out-Ty denote.Hole.Carrier.out
text_rows = refl

number_row_at : (n : ℕ) (member : MemberType) → is_of_numbers n ≡ true → slice_get catalogue n ≡ Some member → number_row (numbers.numbered n) ≡ Some (given_in member)
number_row_at n member is h = elim (cases_lt n 58) [
  | inl below ↦
      sym (get_or-map-range_with_len (λ k. number_row (numbers.numbered k)) 0 58 n n None below (omega arith))
      ∙ ap (λ rows. get_or rows n None) number_rows
      ∙ get_or-map-range_with_len catalogue_number_row 0 58 n n None below (omega arith)
      ∙ cond-true (number_range n) (option_map given_in (slice_get catalogue n)) None (sym (of_numbers n) ∙ is)
      ∙ ap (option_map given_in) h
  | inr past ↦ absurd (both_ways (is_of_numbers n) (no_number n past) is)
]

text_row_at : (n : ℕ) (member : MemberType) → is_of_texts n ≡ true → slice_get catalogue n ≡ Some member → text_row (texts.numbered n) ≡ Some (given_in member)
text_row_at n member is h = elim (cases_lt n 225) [
  | inl below ↦
      sym (get_or-map-range_with_len (λ k. text_row (texts.numbered k)) 0 225 n n None below (omega arith))
      ∙ ap (λ rows. get_or rows n None) text_rows
      ∙ get_or-map-range_with_len catalogue_text_row 0 225 n n None below (omega arith)
      ∙ cond-true (text_range n) (option_map given_in (slice_get catalogue n)) None (sym (of_texts n) ∙ is)
      ∙ ap (option_map given_in) h
  | inr past ↦ absurd (both_ways (is_of_texts n) (no_text n past) is)
]

number_found_gives : (store : Store) (found : Option NumberMember) (arguments : List Value) (given : Option Primitive) → number_row found ≡ Some given
    → EffectGives given (number_outcomes.effect store (numbers.does_found store.objects found arguments))
number_found_gives store None arguments given is = cc
number_found_gives store (Some member) arguments given is =
    let same : given_of member ≡ given = cc in
    subst (λ (a : Option Primitive). EffectGives a (number_outcomes.effect store (numbers.does store.objects member arguments))) same
    (number_settled (given_of member) store (numbers.does store.objects member arguments) (does_gives store.objects member arguments))

text_found_gives : (store : Store) (found : Option TextMember) (arguments : List Value) (given : Option Primitive) → text_row found ≡ Some given
    → EffectGives given (text_outcomes.effect store (texts.does_found store.objects found arguments))
text_found_gives store None arguments given is = cc
text_found_gives store (Some member) arguments given is =
    let same : text_given member ≡ given = cc in
    subst (λ (a : Option Primitive). EffectGives a (text_outcomes.effect store (texts.does store.objects member arguments))) same (text_does_gives store member arguments)

-- a member of the catalogue is no function of the host
not_of_host : (number : ℕ) (member : MemberType) → slice_get catalogue number ≡ Some member → is_of_host number ≡ false
unfolding is_of_host
not_of_host number member h = lt-leb first_of_host number (omega (arith, length-catalogue, slice_get_within catalogue number member h))

pub act_gives : (host : HostMeaning) (number : ℕ) (member : MemberType) (arguments : List Value) (store : Store) → slice_get catalogue number ≡ Some member
    → ActGives (primitive_of member.result) (does host number arguments store)
unfolding does
act_gives host number member arguments store h =
    cond_both (is_of_numbers number) _ _ (ActGives (primitive_of member.result))
    (λ is. number_found_gives store (numbers.numbered number) arguments (given_in member) (number_row_at number member is h))
    (λ _. cond_both (is_of_texts number) _ _ (ActGives (primitive_of member.result))
    (λ is. text_found_gives store (texts.numbered number) arguments (given_in member) (text_row_at number member is h))
    (λ _. cond_both (is_of_containers number) _ _ (ActGives (primitive_of member.result)) (λ is. container_gives store number member arguments is h)
    (λ _. cond_both (is_of_host number) _ _ (ActGives (primitive_of member.result)) (λ is. absurd (both_ways (is_of_host number) (not_of_host number member h) is)) (λ _. tt))))
