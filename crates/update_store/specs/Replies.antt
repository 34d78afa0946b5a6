-- What clients are told.
use Rattle.std.specs.Prelude.{ℕ, List, codes}
use Rattle.serde_json.specs.Data.{Data, number, string, object, unsigned, member, no_members}

-- The change that was committed, and the version that the id has by it.
abbrev pub change_reply : List ℕ → List ℕ → ℕ → Data
change_reply op id version =
    object (member (codes "_id") (string id) (member (codes "_version") (number (unsigned version)) (member (codes "op") (string op) no_members)))

-- Nothing is changed.
abbrev pub none_reply : List ℕ → Data
none_reply id = object (member (codes "_id") (string id) (member (codes "op") (string (codes "none")) no_members))

abbrev pub missing_reply : Data
missing_reply = object (member (codes "error") (object (member (codes "kind") (string (codes "missing")) no_members)) no_members)

-- The version that was read, and the one that was found at the commit.
abbrev pub conflict_reply : ℕ → ℕ → Data
conflict_reply read found =
    object (member (codes "error") (object (member (codes "found") (number (unsigned found)) (member (codes "kind") (string (codes "conflict"))
    (member (codes "read") (number (unsigned read)) no_members)))) no_members)
