-- What a list allows, and what is found in it.
use Rattle.std.specs.Prelude.{◌==◌, ◌+◌, ◌&&◌, ◌||◌, not, ℕ, zero, suc, Bool, true, false, List, [], ◌∷◌, Option, Some, None, if◌then◌else◌, nat_lt, length, map, replicate, ◌++◌, slice_index_or, slice_set, count_by}
use Rattle.std.specs.Str.{bytes_eq}
use Rattle.pl_types.specs.declared.classes.TheConstants.{COMPARATOR, FUNCTION, BI_FUNCTION, UNARY_OPERATOR, BINARY_OPERATOR, PREDICATE, BI_PREDICATE, CONSUMER, BI_CONSUMER, OBJ_INT_CONSUMER, SUPPLIER, TO_INT_FUNCTION, TO_LONG_FUNCTION}
use Rattle.pl_types.specs.Classes.{full_name, short_name, lineage_of, has}
use Rattle.allowlist.specs.declared.member.MemberType.{MemberType}
use Rattle.allowlist.specs.declared.member.Origin.{Origin}
use Rattle.allowlist.specs.declared.member.Origin.TheVariants.{Prelude, AugmentedPrelude}
use Rattle.allowlist.specs.Catalogue.{catalogue}

-- A list: a flag for each class and a flag for each member, at their numbers.
pub record AllowList : Type 0 where
  pub classes : List Bool
  pub members : List Bool

-- so many flags that are set, and then so many that are not
abbrev pub flags : ℕ → ℕ → List Bool
flags set unset = replicate set true ++ replicate unset false

-- the whole catalogue without the hidden class
abbrev pub full_list : AllowList
full_list = record { classes = flags 55 2; members = flags 226 2 }

-- and with it
abbrev pub prelude_list : AllowList
prelude_list = record { classes = flags 56 1; members = flags 228 0 }

-- nothing
abbrev pub empty_list : AllowList
empty_list = record { classes = flags 0 57; members = flags 0 228 }

-- the members that a list numbers, whether or not it allows them: those of the catalogue
abbrev pub members_in : AllowList → List MemberType
members_in allow = catalogue

abbrev pub flag : List Bool → ℕ → Bool
flag flags number = slice_index_or flags number false

-- the number of the first member that passes a test, the first of them having the number n
abbrev pub first_member : (ℕ → MemberType → Bool) → ℕ → List MemberType → Option ℕ
first_member test n [] = None
first_member test n (m ∷ ms) = if test n m then Some n else first_member test (n + 1) ms

-- whether a member has a name and a number of parameters
abbrev pub has_name : List ℕ → ℕ → MemberType → Bool
has_name name arity m = bytes_eq m.name name && (length m.params == arity)

-- whether it is a class's
abbrev pub is_called : ℕ → List ℕ → ℕ → MemberType → Bool
is_called class name arity m = (m.owner == class) && has_name name arity m

-- a class's own allowed member
unfoldable pub own_member : AllowList → ℕ → List ℕ → ℕ → Option ℕ
own_member allow class name arity = first_member (λ n m. flag allow.members n && is_called class name arity m) 0 (members_in allow)

abbrev pub or_else : Option ℕ → Option ℕ → Option ℕ
or_else None other = other
or_else (Some number) other = Some number

-- the first that a class of the list gives
abbrev pub first_along : (ℕ → Option ℕ) → List ℕ → Option ℕ
first_along given [] = None
first_along given (class ∷ classes) = or_else (given class) (first_along given classes)

-- The member that a call means: the class's own, else the first that its parents give, depth first in their order.
unfoldable pub member_of : AllowList → ℕ → List ℕ → ℕ → Option ℕ
member_of allow class name arity = first_along (λ c. own_member allow c name arity) (lineage_of class)

-- the first number that passes a test, of so many from one on
abbrev pub first_class : (ℕ → Bool) → ℕ → ℕ → Option ℕ
first_class test n zero = None
first_class test n (suc count) = if test n then Some n else first_class test (n + 1) count

-- a class's name in scripts has `.` where the catalogue has `$`
abbrev pub spelled_byte : ℕ → ℕ
spelled_byte b = if b == 36 then 46 else b

abbrev pub dotted : List ℕ → List ℕ
dotted name = map spelled_byte name

-- whether a class that the list has has this name, full or short
abbrev pub is_named : AllowList → List ℕ → ℕ → Bool
is_named allow name class = flag allow.classes class && (bytes_eq (dotted (full_name class)) name || bytes_eq (dotted (short_name class)) name)

-- the class that a name means in scripts
unfoldable pub class_named_of : AllowList → List ℕ → Option ℕ
class_named_of allow name = first_class (is_named allow name) 0 57

abbrev pub functional_interfaces : List ℕ
functional_interfaces =
    COMPARATOR ∷ FUNCTION ∷ BI_FUNCTION ∷ UNARY_OPERATOR ∷ BINARY_OPERATOR ∷ PREDICATE ∷ BI_PREDICATE ∷ CONSUMER ∷ BI_CONSUMER ∷ OBJ_INT_CONSUMER ∷ SUPPLIER ∷ TO_INT_FUNCTION ∷ TO_LONG_FUNCTION ∷ []

abbrev pub is_in_prelude : Origin → Bool
is_in_prelude Prelude = true
is_in_prelude AugmentedPrelude = true
is_in_prelude origin = false

-- a class's first member that is no function of the prelude
abbrev pub plain_member : ℕ → Option ℕ
plain_member class = first_member (λ n m. (m.owner == class) && not (is_in_prelude m.origin)) 0 catalogue

-- The one method of a functional interface: the member that is no function of the prelude, its own or its parent's.
unfoldable pub iface_method_of : ℕ → Option ℕ
iface_method_of class = if has functional_interfaces class then first_along plain_member (lineage_of class) else None

-- the number of a class's first member: how many members the classes before it have
unfoldable pub start_of : ℕ → ℕ
start_of class = count_by (λ m. nat_lt m.owner class) catalogue

abbrev pub with_flag : List Bool → ℕ → List Bool
with_flag flags number = slice_set flags number true
