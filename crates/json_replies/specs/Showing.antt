-- What is shown beside a reply where a job asks for it.
use Rattle.std.specs.Prelude.{ℕ, Bool, List, [], ◌∷◌, codes, if◌then◌else◌}
use Rattle.serde_json.specs.Data.{Data, null, boolean, number, string, array, object, unsigned, Items, no_items, item, put}
use Rattle.allowlist.specs.Allow.{AllowList}
use Rattle.allowlist.specs.Index.{member_in}
use Rattle.member_names.specs.Names.{text_of}
use Rattle.json_replies.specs.declared.showing.ShownKeys.{ShownKeys}

-- an object with one key more, in the order of its keys
abbrev pub with_key : List ℕ → Data → Data → Data
with_key key d null = null
with_key key d (boolean b) = boolean b
with_key key d (number n) = number n
with_key key d (string s) = string s
with_key key d (array items) = array items
with_key key d (object members) = object (put key d members)

-- the texts of members of a list, by their numbers
abbrev pub member_items : AllowList → List ℕ → Items
member_items allow [] = no_items
member_items allow (member ∷ members) = item (string (text_of (member_in allow member))) (member_items allow members)

abbrev pub with_members : AllowList → Bool → List ℕ → Data → Data
with_members allow shown reached reply = if shown then with_key (codes "members") (array (member_items allow reached)) reply else reply

abbrev pub with_steps : Bool → ℕ → Data → Data
with_steps shown steps reply = if shown then with_key (codes "steps") (number (unsigned steps)) reply else reply

-- a reply with the members of the script's list that were called, by their first calls, and with the number of instructions that were run, where
-- these are shown
abbrev pub shown_reply : AllowList → ShownKeys → List ℕ → ℕ → Data → Data
shown_reply allow keys reached steps reply = with_steps keys.steps steps (with_members allow keys.members reached reply)
