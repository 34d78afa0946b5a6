-- The documents of the generator. Each is made from a number, and each number from the one before, the first from 0.
use Rattle.std.specs.Prelude.{ℕ, zero, suc, ◌+◌, ◌*◌, ◌%◌, ◌^◌, ◌==◌, List, [], ◌∷◌, ◌++◌, codes, if◌then◌else◌}
use Rattle.std.specs.Fmt.{decimal}
use Rattle.serde_json.specs.Data.{Data, Members, number, string, object, unsigned, member, no_members}

-- a linear congruential generator of 31 bits
abbrev pub following : ℕ → ℕ
following x = (x * 1103515245 + 12345) % 2 ^ 31

-- so many numbers behind one
abbrev pub numbers_behind : ℕ → ℕ → List ℕ
numbers_behind zero x = []
numbers_behind (suc count) x = following x ∷ numbers_behind count (following x)

-- one of seven tags
abbrev pub tag_of : ℕ → List ℕ
tag_of x = codes "t" ++ decimal (x % 7)

abbrev pub tagged : ℕ → Members
tagged x = member (codes "tag") (string (tag_of x)) no_members

-- a number below 1,000 and a tag; one document in ten has no number
abbrev pub document_of : ℕ → Data
document_of x = object (if x % 10 == 5 then tagged x else member (codes "n") (number (unsigned (x % 1000))) (tagged x))
