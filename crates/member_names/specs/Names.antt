-- The texts by which code and replies name members, and which member a text names.
use Rattle.std.specs.Prelude.{◌≡◌, ℕ, ◌++◌, Bool, true, List, Option, Some, codes, decimal, length, slice_get}
use Rattle.pl_types.specs.Classes.{full_name}
use Rattle.listing_parts.specs.Names.{is_method, is_constructor, is_field}
use Rattle.allowlist.specs.declared.member.MemberKind.{MemberKind}
use Rattle.allowlist.specs.declared.member.MemberKind.TheVariants as kind
use Rattle.allowlist.specs.declared.member.MemberType.{MemberType}
use Rattle.allowlist.specs.Allow.{AllowList, flag, members_in}
use Rattle.allowlist.specs.Catalogue.{catalogue}
use Rattle.instruction_types.specs.Members.{method_of, constructor_of, field_of}

-- how many arguments a call gives, the receiver left out
abbrev pub arity_text : MemberType → List ℕ
arity_text m = codes "/" ++ decimal (length m.params)

abbrev pub dotted_name : MemberType → List ℕ
dotted_name m = full_name m.owner ++ codes "." ++ m.name

abbrev pub text_by : MemberKind → MemberType → List ℕ
text_by kind.Constructor m = full_name m.owner ++ arity_text m
text_by kind.Field m = dotted_name m
text_by kind.Static m = dotted_name m ++ arity_text m
text_by kind.Instance m = dotted_name m ++ arity_text m

-- A member's text: its class in full, `.` and its name, and `/` and its number of parameters. A constructor has no name, and a field no number.
abbrev pub text_of : MemberType → List ℕ
text_of m = text_by m.kind m

-- the member that a text names in code, by what is looked for
abbrev pub named_by : MemberKind → AllowList → List ℕ → Option ℕ
named_by kind.Constructor = constructor_of
named_by kind.Field = field_of
named_by kind.Static = method_of
named_by kind.Instance = method_of

-- whether a text has the form that it has to have there
abbrev pub has_form : MemberKind → List ℕ → Bool
has_form kind.Constructor = is_constructor
has_form kind.Field = is_field
has_form kind.Static = is_method
has_form kind.Instance = is_method

-- ---- laws

-- A member's text names it, where the list allows it,
abbrev pub TextsName : Type 0
TextsName = (allow : AllowList) (number : ℕ) (m : MemberType) → slice_get (members_in allow) number ≡ Some m → flag allow.members number ≡ true → named_by m.kind allow (text_of m) ≡ Some number

-- .. and has the form of such a text.
abbrev pub TextsHaveForms : Type 0
TextsHaveForms = (number : ℕ) (m : MemberType) → slice_get catalogue number ≡ Some m → has_form m.kind (text_of m) ≡ true
