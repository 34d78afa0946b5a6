-- The index of the members of a list, and what is found by it.
use Rattle.std.specs.Prelude.{◌≡◌, ◌<◌, ◌==◌, ◌&&◌, ◌||◌, not, ℕ, Bool, true, false, List, [], ◌∷◌, Option, Some, None, nat_lt, length, map, slice_index_or}
use Rattle.std.specs.Ordering.{nat_cmp, ordering_then, is_lt}
use Rattle.std.specs.declared.cmp.Ordering.{Ordering}
use Rattle.std.specs.Cmp.Lexicographic.{slice_cmp}
use Rattle.std.specs.List.{list_all, list_any, range_with_len}
use Rattle.allowlist.specs.declared.member.MemberType.{MemberType}
use Rattle.allowlist.specs.Catalogue.{catalogue, constructor}
use Rattle.allowlist.specs.Allow.{AllowList, is_called, members_in}

-- how a member stands to a name and a number of parameters: by the bytes of the names, then by the numbers
abbrev pub order_of : List ℕ → ℕ → MemberType → Ordering
order_of name arity m = ordering_then (slice_cmp nat_cmp m.name name) (nat_cmp (length m.params) arity)

-- whether a member stands before another, where they are of one class
abbrev pub stands_before : MemberType → MemberType → Bool
stands_before a b = not (a.owner == b.owner) || is_lt (order_of b.name (length b.params) a)

-- whether each stands before all that follow it
abbrev pub ascends : List MemberType → Bool
ascends [] = true
ascends (m ∷ ms) = list_all (stands_before m) ms && ascends ms

-- the member of the catalogue with a number
abbrev pub member_at : ℕ → MemberType
member_at number = slice_index_or catalogue number (constructor 0 [])

-- the member of a list with a number, whether or not it allows it
abbrev pub member_in : AllowList → ℕ → MemberType
member_in allow number = slice_index_or (members_in allow) number (constructor 0 [])

-- An index: the numbers of the members, each class's at the places that they have in the catalogue, and there in the order
-- of their names and numbers of parameters.
pub record IsIndex (index : List ℕ) : Type 0 where
  pub within : list_all (λ number. nat_lt number 228) index ≡ true
  pub classes : map (λ number. (member_at number).owner) index ≡ map (λ m. m.owner) catalogue
  pub by_name : ascends (map member_at index) ≡ true
  pub whole : list_all (λ number. list_any (λ n. n == number) index) (range_with_len 0 228) ≡ true

-- A number is that of a member of a class with a name and a number of parameters, and none is where there is no such member.
abbrev pub IsMemberCalled : ℕ → List ℕ → ℕ → Option ℕ → Type 0
IsMemberCalled class name arity None = (number : ℕ) → number < 228 → is_called class name arity (member_at number) ≡ false
IsMemberCalled class name arity (Some number) = (number < 228) × (is_called class name arity (member_at number) ≡ true)
