-- The lines before the replies, which show the codes that a job runs.
use Rattle.std.specs.Prelude.{ℕ, Bool, List, codes, if◌then◌else◌}
use Rattle.serde_json.specs.Data.{Data, string, object, member, no_members}
use Rattle.json_replies.specs.Replies.{only}

-- the listing of a script's code
abbrev pub listing_of : List ℕ → Data
listing_of text = only (codes "listing") (string text)

-- .. of one that is told by its key
abbrev pub named_listing_of : List ℕ → List ℕ → Data
named_listing_of key text = object (member (codes "listing") (string text) (member (codes "script") (string key) no_members))

-- the listing of a script's code, where the scripts of a context are told by their keys or not
abbrev pub script_listing_of : Bool → List ℕ → List ℕ → Data
script_listing_of by_key key text = if by_key then named_listing_of key text else listing_of text

-- that of the prelude's
abbrev pub prelude_listing_of : List ℕ → Data
prelude_listing_of text = named_listing_of (codes "prelude") text
