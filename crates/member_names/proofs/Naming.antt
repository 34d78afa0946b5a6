-- A member's text is read as what it was written from: computed for each member of the catalogue.
use Rattle.std.proofs.Common.{◌≡◌, ℕ, zero, suc, ◌<◌, Bool, true, false, ◌&&◌, eqb, List, [], ◌∷◌, Option, Some, None, length, refl, sym, ap, ◌∙◌, arith}
use Rattle.std.specs.Prelude.{slice_get, slice_index_or, nat_lt}
use Rattle.std.specs.Str.{bytes_eq}
use Rattle.std.specs.List.{list_all}
use Rattle.std.proofs.lemmas.Bool.{eqb-true, eq-eqb, and_parts, ltb-true}
use Rattle.std.proofs.lemmas.Option.{slice_get_within, get_or_from_slice_get}
use Rattle.std.proofs.lemmas.Slice.Eq.{bytes_eq-Decides}
use Rattle.std.specs.Fmt.{digits}
use Rattle.listing_parts.specs.Numbers.{number_of}
use Rattle.listing_parts.specs.Names.{is_method, is_field, is_class, is_name, is_constructor}
use Rattle.pl_types.specs.Classes.{full_name, class_row, class_table, lineage_of}
use Rattle.pl_types.specs.Names.{class_of_full}
use Rattle.allowlist.specs.declared.member.MemberKind.{MemberKind}
use Rattle.allowlist.specs.declared.member.MemberKind.TheVariants as kind
use Rattle.allowlist.specs.declared.member.MemberType.{MemberType}
use Rattle.allowlist.specs.Allow.{AllowList, flag, has_name, is_called, member_of}
use Rattle.allowlist.specs.Catalogue.{catalogue, constructor}
use Rattle.allowlist.specs.Index.{member_at}
use Rattle.allowlist.proofs.Members.{own_of, first_gives}
use Rattle.allowlist.proofs.Places.{own_found}
use Rattle.allowlist.proofs.Tables.{length-catalogue}
use Rattle.instruction_types.specs.Members.{owner_part, name_part, called_part, arity_part, own_named, member_named, method_of, constructor_of, field_of}
use Rattle.member_names.specs.Names.{text_of, named_by, has_form}

abbrev is_number : ℕ → Option ℕ → Bool
is_number n None = false
is_number n (Some k) = eqb k n

is_number-is : (n : ℕ) (o : Option ℕ) → is_number n o ≡ true → o ≡ Some n
is_number-is n None h = cc
is_number-is n (Some k) h = ap Some (eqb-true k n h)

-- what is read of the text of what is called, made or read
abbrev reads_by : MemberKind → MemberType → List ℕ → Bool
reads_by kind.Constructor m text = is_number m.owner (class_of_full (called_part text)) && is_number (length m.params) (arity_part text) && bytes_eq [] m.name
reads_by kind.Field m text = is_number m.owner (class_of_full (owner_part text)) && is_number 0 (Some (length m.params)) && bytes_eq (name_part text) m.name
reads_by kind.Static m text = is_number m.owner (class_of_full (owner_part (called_part text))) && is_number (length m.params) (arity_part text) && bytes_eq (name_part (called_part text)) m.name
reads_by kind.Instance m text = is_number m.owner (class_of_full (owner_part (called_part text))) && is_number (length m.params) (arity_part text) && bytes_eq (name_part (called_part text)) m.name

abbrev reads : MemberType → Bool
reads m = reads_by m.kind m (text_of m)

all_read : list_all reads catalogue ≡ true
unfolding catalogue class_of_full owner_part called_part arity_part name_part full_name class_row class_table number_of digits
all_read = refl

abbrev formed : MemberType → Bool
formed m = has_form m.kind (text_of m)

all_formed : list_all formed catalogue ≡ true
unfolding catalogue full_name class_row class_table number_of digits is_method is_field is_class is_name is_constructor
all_formed = refl

-- ---- the member of a class that the list allows

has_flag : (allow : AllowList) (number : ℕ) → flag allow.members number ≡ true → slice_get allow.members number ≡ Some true
has_flag allow number h = flagged allow.members number h
  where
    flagged : (flags : List Bool) (i : ℕ) → slice_index_or flags i false ≡ true → slice_get flags i ≡ Some true
    flagged [] i h = cc
    flagged (b ∷ bs) zero h = ap Some h
    flagged (b ∷ bs) (suc i) h = flagged bs i h

pub at_number : (number : ℕ) (m : MemberType) → slice_get catalogue number ≡ Some m → member_at number ≡ m
at_number number m h = get_or_from_slice_get catalogue number m (constructor 0 []) h

is_called_itself : (m : MemberType) → is_called m.owner m.name (length m.params) m ≡ true
is_called_itself m =
    ap (λ t. t && has_name m.name (length m.params) m) (eq-eqb m.owner m.owner refl)
    ∙ ap (λ t. t && eqb (length m.params) (length m.params)) ((bytes_eq-Decides m.name m.name).1 refl)
    ∙ eq-eqb (length m.params) (length m.params) refl

allowed : (allow : AllowList) (number : ℕ) (m : MemberType) → slice_get catalogue number ≡ Some m → flag allow.members number ≡ true → member_of allow m.owner m.name (length m.params) ≡ Some number
unfolding member_of lineage_of
allowed allow number m is h =
    let within : number < 228 = omega (arith, slice_get_within catalogue number m is, length-catalogue) in
    let called = ap (is_called m.owner m.name (length m.params)) (at_number number m is) ∙ is_called_itself m in
    first_gives (own_of allow m.name (length m.params)) (lineage_of m.owner) number (omega arith)
    (own_found allow m.owner m.name (length m.params) number true (within, called) (has_flag allow number h))

-- ---- the laws

of_static : (allow : AllowList) (number : ℕ) (m : MemberType) (text : List ℕ) → slice_get catalogue number ≡ Some m → flag allow.members number ≡ true
    → m.kind ≡ kind.Static → class_of_full (owner_part (called_part text)) ≡ Some m.owner → arity_part text ≡ Some (length m.params) → name_part (called_part text) ≡ m.name
    → method_of allow text ≡ Some number
unfolding method_of member_named own_named
of_static allow number m text is h sort class arity name =
    let found = allowed allow number m is h in
    let at = at_number number m is in
    let owner = eq-eqb m.owner m.owner refl in
    cc

of_instance : (allow : AllowList) (number : ℕ) (m : MemberType) (text : List ℕ) → slice_get catalogue number ≡ Some m → flag allow.members number ≡ true
    → m.kind ≡ kind.Instance → class_of_full (owner_part (called_part text)) ≡ Some m.owner → arity_part text ≡ Some (length m.params) → name_part (called_part text) ≡ m.name
    → method_of allow text ≡ Some number
unfolding method_of member_named own_named
of_instance allow number m text is h sort class arity name =
    let found = allowed allow number m is h in
    let at = at_number number m is in
    let owner = eq-eqb m.owner m.owner refl in
    cc

of_constructor : (allow : AllowList) (number : ℕ) (m : MemberType) (text : List ℕ) → slice_get catalogue number ≡ Some m → flag allow.members number ≡ true
    → m.kind ≡ kind.Constructor → class_of_full (called_part text) ≡ Some m.owner → arity_part text ≡ Some (length m.params) → [] ≡ m.name
    → constructor_of allow text ≡ Some number
unfolding constructor_of member_named own_named
of_constructor allow number m text is h sort class arity name =
    let found = allowed allow number m is h in
    let at = at_number number m is in
    let owner = eq-eqb m.owner m.owner refl in
    cc

of_field : (allow : AllowList) (number : ℕ) (m : MemberType) (text : List ℕ) → slice_get catalogue number ≡ Some m → flag allow.members number ≡ true
    → m.kind ≡ kind.Field → class_of_full (owner_part text) ≡ Some m.owner → length m.params ≡ 0 → name_part text ≡ m.name
    → field_of allow text ≡ Some number
unfolding field_of member_named own_named
of_field allow number m text is h sort class arity name =
    let found = allowed allow number m is h in
    let at = at_number number m is in
    let owner = eq-eqb m.owner m.owner refl in
    cc

-- what a member's text is read as
read_parts : (m : MemberType) (class arity : Option ℕ) (name : List ℕ) → (is_number m.owner class && is_number (length m.params) arity && bytes_eq name m.name) ≡ true
    → (class ≡ Some m.owner) × (arity ≡ Some (length m.params)) × (name ≡ m.name)
read_parts m class arity name h =
    let p = and_parts (is_number m.owner class && is_number (length m.params) arity) (bytes_eq name m.name) h in
    let q = and_parts (is_number m.owner class) (is_number (length m.params) arity) p.0 in
    (is_number-is m.owner class q.0, is_number-is (length m.params) arity q.1, (bytes_eq-Decides name m.name).0 p.1)

texts_named : (k : MemberKind) (allow : AllowList) (number : ℕ) (m : MemberType) (text : List ℕ) → m.kind ≡ k → reads_by k m text ≡ true
    → slice_get catalogue number ≡ Some m → flag allow.members number ≡ true → named_by k allow text ≡ Some number
texts_named kind.Constructor allow number m text sort reads is h =
    let p = read_parts m (class_of_full (called_part text)) (arity_part text) [] reads in
    of_constructor allow number m text is h sort p.0 p.1 p.2
texts_named kind.Static allow number m text sort reads is h =
    let p = read_parts m (class_of_full (owner_part (called_part text))) (arity_part text) (name_part (called_part text)) reads in
    of_static allow number m text is h sort p.0 p.1 p.2
texts_named kind.Instance allow number m text sort reads is h =
    let p = read_parts m (class_of_full (owner_part (called_part text))) (arity_part text) (name_part (called_part text)) reads in
    of_instance allow number m text is h sort p.0 p.1 p.2
texts_named kind.Field allow number m text sort reads is h =
    let p = and_parts (is_number m.owner (class_of_full (owner_part text)) && eqb (length m.params) 0) (bytes_eq (name_part text) m.name) reads in
    let q = and_parts (is_number m.owner (class_of_full (owner_part text))) (eqb (length m.params) 0) p.0 in
    of_field allow number m text is h sort (is_number-is m.owner (class_of_full (owner_part text)) q.0) (eqb-true (length m.params) 0 q.1) ((bytes_eq-Decides (name_part text) m.name).0 p.1)

each : (test : MemberType → Bool) (ms : List MemberType) (i : ℕ) (m : MemberType) → list_all test ms ≡ true → slice_get ms i ≡ Some m → test m ≡ true
each test [] i m h is = cc
each test (x ∷ xs) zero m h is = let s : x ≡ m = cc in ap test (sym s) ∙ (and_parts (test x) (list_all test xs) h).0
each test (x ∷ xs) (suc i) m h is = each test xs i m (and_parts (test x) (list_all test xs) h).1 is

pub texts_have_forms : (number : ℕ) (m : MemberType) → slice_get catalogue number ≡ Some m → has_form m.kind (text_of m) ≡ true
texts_have_forms number m is = each formed catalogue number m all_formed is

pub texts_name : (allow : AllowList) (number : ℕ) (m : MemberType) → slice_get catalogue number ≡ Some m → flag allow.members number ≡ true → named_by m.kind allow (text_of m) ≡ Some number
texts_name allow number m is h = texts_named m.kind allow number m (text_of m) refl (each reads catalogue number m all_read is) is h

-- ---- a member's class is one of the table

abbrev owned : MemberType → Bool
owned m = nat_lt m.owner 57

all_owned : list_all owned catalogue ≡ true
unfolding catalogue
all_owned = refl

pub owner_within : (number : ℕ) (m : MemberType) → slice_get catalogue number ≡ Some m → m.owner < 57
owner_within number m is = ltb-true m.owner 57 (each owned catalogue number m all_owned is)
