-- The names of accessors.
use Rattle.std.specs.Prelude.{ℕ, List, [], ◌∷◌, ◌++◌, codes}
use Rattle.std.specs.Char.{to_ascii_uppercase}
use Rattle.allowlist.specs.declared.name.Accessor.{Accessor}
use Rattle.allowlist.specs.declared.name.Accessor.TheVariants as accessor
use Rattle.allowlist.specs.declared.name.Name.{Name}
use Rattle.allowlist.specs.declared.name.Name.TheVariants as name

-- what stands before the name of the property
abbrev pub prefix_of : Accessor → List ℕ
prefix_of accessor.Get = codes "get"
prefix_of accessor.Is = codes "is"
prefix_of accessor.Set = codes "set"

-- how many arguments it takes
abbrev pub arity_of : Accessor → ℕ
arity_of accessor.Get = 0
arity_of accessor.Is = 0
arity_of accessor.Set = 1

-- a name with its first letter in upper case, if it is an ASCII letter
abbrev pub capitalized : List ℕ → List ℕ
capitalized [] = []
capitalized (b ∷ bs) = to_ascii_uppercase b ∷ bs

-- `get`, `is` or `set`, and the name of the property
abbrev pub accessor_name : Accessor → List ℕ → List ℕ
accessor_name kind property = prefix_of kind ++ capitalized property

-- the text of a name
abbrev pub seen_name : Name → List ℕ
seen_name (name.Whole text) = text.now
seen_name (name.Of kind property) = accessor_name kind property.now
