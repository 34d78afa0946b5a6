-- Members by their numbers, and locals.
use Rattle.std.proofs.Common.{◌≡◌, ℕ, zero, suc, ◌-◌, ◌<◌, ◌≤◌, List, [], ◌∷◌, ◌++◌, Option, Some, None, length, refl, sym, ap, ◌∙◌, arith}
use Rattle.std.specs.Prelude.{◌==◌, ◌&&◌, Bool, true, false, IfSome, slice_get, if◌then◌else◌, option_and_then}
use Rattle.std.proofs.lemmas.Option.{get_or_from_slice_get}
use Rattle.allowlist.specs.declared.member.MemberType.{MemberType}
use Rattle.allowlist.specs.Catalogue.{catalogue, constructor}
use Rattle.allowlist.specs.Allow.{AllowList, member_of, members_in}
use Rattle.allowlist.specs.Index.{member_at, member_in}
use Rattle.allowlist.proofs.Unique.{all_in_list}
use Rattle.pl_types.specs.Names.{class_of_full}
use Rattle.pl_code.specs.declared.kinds.Slot.{Slot}
use Rattle.pl_code.specs.declared.kinds.Slot.TheVariants.{R}
use Rattle.instruction_types.specs.Types.{kind_of_type}
use Rattle.instruction_types.specs.Members.{argument_kinds, has_receiver, member_takes, is_sought, own_sought, own_named, member_named, method_of, constructor_of, field_of, called_part, owner_part, name_part, arity_part}
use Rattle.instruction_types.specs.declared.members.Sought.{Sought}
use Rattle.instruction_types.specs.declared.members.Sought.TheVariants as sought
use Rattle.instruction_types.specs.Effects.{Exchanges, one, invokes, makes, reads}

pub at_number : (number : ℕ) (m : MemberType) → slice_get catalogue number ≡ Some m → member_at number ≡ m
at_number number m h = get_or_from_slice_get catalogue number m (constructor 0 []) h

pub invoked : (allow : AllowList) (number : ℕ) (m : MemberType) (takes : List Slot) (kind : Slot) → slice_get (members_in allow) number ≡ Some m
    → takes ≡ argument_kinds m.params ++ (if has_receiver m.kind then R ∷ [] else []) → kind ≡ kind_of_type m.result → Exchanges takes (one kind) ≡ invokes allow number
unfolding invokes member_takes
invoked allow number m takes kind h t k =
    (λ i. Exchanges (t i) (one (k i))) ∙ sym (ap (λ m. Exchanges (member_takes m) (one (kind_of_type m.result))) (at_number number m h))

pub made : (allow : AllowList) (number : ℕ) (m : MemberType) → slice_get (members_in allow) number ≡ Some m → Exchanges (argument_kinds m.params) (one R) ≡ makes allow number
unfolding makes
made allow number m h = sym (ap (λ m. Exchanges (argument_kinds m.params) (one R)) (at_number number m h))

pub was_read : (allow : AllowList) (number : ℕ) (m : MemberType) (kind : Slot) → slice_get (members_in allow) number ≡ Some m → kind ≡ kind_of_type m.result → Exchanges [] (one kind) ≡ reads allow number
unfolding reads
was_read allow number m kind h k = ap (λ k. Exchanges [] (one k)) k ∙ sym (ap (λ m. Exchanges [] (one (kind_of_type m.result))) (at_number number m h))

-- the first part of two lists joined, and the other

pub in_front : {X : Type 0} (xs ys : List X) (i : ℕ) → i < length xs → slice_get (xs ++ ys) i ≡ slice_get xs i
in_front [] ys i h = absurd (omega arith)
in_front (x ∷ xs) ys zero h = refl
in_front (x ∷ xs) ys (suc i) h = in_front xs ys i (omega arith)

pub behind : {X : Type 0} (xs ys : List X) (i : ℕ) → length xs ≤ i → slice_get (xs ++ ys) i ≡ slice_get ys (i - length xs)
behind [] ys i h = let e : i ≡ i - 0 = omega arith in ap (slice_get ys) e
behind (x ∷ xs) ys zero h = absurd (omega arith)
behind (x ∷ xs) ys (suc i) h =
    let e : i - length xs ≡ suc i - length (x ∷ xs) = omega arith in
    behind xs ys i (omega arith) ∙ ap (slice_get ys) e

-- ---- what a text names is a member of the list

module _ (allow : AllowList) where
  abbrev IsListed : Option ℕ → Type 0
  IsListed o = IfSome o (λ number. number < length allow.members)

  if_sought : (number : ℕ) (t : Bool) → number < length allow.members → IsListed (if t then Some number else None)
  if_sought number true h = h
  if_sought number false h = tt

  own_listed : (s : Sought) (class : ℕ) (found : Option ℕ) → IsListed found → IsListed (option_and_then (own_sought allow s class) found)
  own_listed s class None h = tt
  own_listed s class (Some number) h = if_sought number (((member_in allow number).owner == class) && is_sought s (member_in allow number).kind) h

  named_listed : (s : Sought) (name : List ℕ) (arity : ℕ) (class : Option ℕ) → IsListed (option_and_then (own_named allow s name arity) class)
  unfolding own_named
  named_listed s name arity None = tt
  named_listed s name arity (Some class) = own_listed s class (member_of allow class name arity) (all_in_list allow class name arity (member_of allow class name arity) refl)

  member_listed : (s : Sought) (class name : List ℕ) (arity : ℕ) → IsListed (member_named allow s class name arity)
  unfolding member_named
  member_listed s class name arity = named_listed s name arity (class_of_full class)

  called_listed : (s : Sought) (class name : List ℕ) (arity : Option ℕ) → IsListed (option_and_then (member_named allow s class name) arity)
  called_listed s class name None = tt
  called_listed s class name (Some arity) = member_listed s class name arity

  pub method_listed : (text : List ℕ) → IsListed (method_of allow text)
  unfolding method_of
  method_listed text = called_listed sought.Called (owner_part (called_part text)) (name_part (called_part text)) (arity_part text)

  pub constructor_listed : (text : List ℕ) → IsListed (constructor_of allow text)
  unfolding constructor_of
  constructor_listed text = called_listed sought.Made (called_part text) [] (arity_part text)

  pub field_listed : (text : List ℕ) → IsListed (field_of allow text)
  unfolding field_of
  field_listed text = member_listed sought.Read (owner_part text) (name_part text) 0
