-- Which members code names.
use Rattle.std.specs.Prelude.{ℕ, ◌==◌, ◌-◌, ◌^◌, ◌&&◌, ◌||◌, Bool, true, false, List, [], ◌∷◌, ◌++◌, Option, Some, None, if◌then◌else◌, length, map, reverse, take, option_and_then}
use Rattle.std.specs.List.{before_first, after_first, list_any}
use Rattle.listing_parts.specs.Names.{is_slash}
use Rattle.listing_parts.specs.Numbers.{natural_of}
use Rattle.pl_types.specs.declared.ty.Ty.{Ty}
use Rattle.pl_types.specs.Names.{class_of_full}
use Rattle.allowlist.specs.declared.member.MemberKind.{MemberKind}
use Rattle.allowlist.specs.declared.member.MemberKind.TheVariants.{Constructor, Static, Instance, Field}
use Rattle.allowlist.specs.declared.member.MemberType.{MemberType}
use Rattle.allowlist.specs.Allow.{AllowList, member_of}
use Rattle.allowlist.specs.Index.{member_in}
use Rattle.pl_code.specs.declared.kinds.Slot.{Slot}
use Rattle.pl_code.specs.declared.kinds.Slot.TheVariants.{R}
use Rattle.instruction_types.specs.declared.members.Sought.{Sought}
use Rattle.instruction_types.specs.declared.members.Sought.TheVariants as sought
use Rattle.instruction_types.specs.Types.{kind_of_type}

abbrev pub is_dot : ℕ → Bool
is_dot b = b == 46

-- what stands behind the last dot, or all where there is none
abbrev pub behind_dots : List ℕ → List ℕ
behind_dots [] = []
behind_dots (b ∷ bs) = if is_dot b || list_any is_dot bs then behind_dots bs else b ∷ bs

-- A member's text is its class, `.`, its name. What stands before the last dot:
unfoldable pub owner_part : List ℕ → List ℕ
owner_part text = take (length text - length (behind_dots text) - 1) text

unfoldable pub name_part : List ℕ → List ℕ
name_part text = behind_dots text

-- What is called has `/` and the number of its arguments behind it.
unfoldable pub called_part : List ℕ → List ℕ
called_part text = before_first is_slash text

unfoldable pub arity_part : List ℕ → Option ℕ
arity_part text = natural_of (2 ^ 32) (after_first is_slash text)

-- which members are looked for
abbrev pub is_sought : Sought → MemberKind → Bool
is_sought sought.Called Static = true
is_sought sought.Called Instance = true
is_sought sought.Made Constructor = true
is_sought sought.Read Field = true
is_sought s kind = false

-- A member counts where it is the class's own, and is looked for.
abbrev pub own_sought : AllowList → Sought → ℕ → ℕ → Option ℕ
own_sought allow s class number = if ((member_in allow number).owner == class) && is_sought s (member_in allow number).kind then Some number else None

unfoldable pub own_named : AllowList → Sought → List ℕ → ℕ → ℕ → Option ℕ
own_named allow s name arity class = option_and_then (own_sought allow s class) (member_of allow class name arity)

-- the member that a list allows of the class with a full name, itself its owner
unfoldable pub member_named : AllowList → Sought → List ℕ → List ℕ → ℕ → Option ℕ
member_named allow s class name arity = option_and_then (own_named allow s name arity) (class_of_full class)

-- The method, the constructor and the field that a text names.

unfoldable pub method_of : AllowList → List ℕ → Option ℕ
method_of allow text =
    option_and_then (member_named allow sought.Called (owner_part (called_part text)) (name_part (called_part text))) (arity_part text)

unfoldable pub constructor_of : AllowList → List ℕ → Option ℕ
constructor_of allow text = option_and_then (member_named allow sought.Made (called_part text) []) (arity_part text)

unfoldable pub field_of : AllowList → List ℕ → Option ℕ
field_of allow text = member_named allow sought.Read (owner_part text) (name_part text) 0

-- What a call takes, from the top down: the last argument is on the top, and a receiver under all of them.

abbrev pub has_receiver : MemberKind → Bool
has_receiver Instance = true
has_receiver kind = false

unfoldable pub argument_kinds : List Ty → List Slot
argument_kinds params = reverse (map kind_of_type params)

unfoldable pub member_takes : MemberType → List Slot
member_takes m = argument_kinds m.params ++ (if has_receiver m.kind then R ∷ [] else [])
