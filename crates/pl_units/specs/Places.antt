-- The places at which one text stands in another, counted in units from 0.
use Rattle.std.specs.Prelude.{◌≡◌, ℕ, zero, suc, ◌+◌, ◌<◌, ◌≤◌, nat_le, Bool, ◌&&◌, Option, List, [], ◌∷◌, length, take, drop}
use Rattle.std.specs.List.{find, range_with_len}
use Rattle.std.specs.Str.{bytes_eq}

-- the part stands in the text at this place: what is cut out from there, as long as the part, is the part. So the empty
-- part stands at every place from 0 to the text's length
abbrev pub StandsAt : List ℕ → List ℕ → ℕ → Type 0
StandsAt text part place = (place + length part ≤ length text) × (take (length part) (drop place text) ≡ part)

-- the least place at or after `from`
pub record IsFirstPlace (text part : List ℕ) (from place : ℕ) : Type 0 where
  pub from_there : from ≤ place
  pub stands : StandsAt text part place
  pub least : (earlier : ℕ) → from ≤ earlier → earlier < place → ¬ StandsAt text part earlier

-- the greatest place
pub record IsLastPlace (text part : List ℕ) (place : ℕ) : Type 0 where
  pub stands : StandsAt text part place
  pub greatest : (later : ℕ) → place < later → ¬ StandsAt text part later

-- The same as functions. Whether the part stands at a place
abbrev pub stands_at : List ℕ → List ℕ → ℕ → Bool
stands_at text part place = nat_le (place + length part) (length text) && bytes_eq (take (length part) (drop place text)) part

-- the numbers from n down to 0
abbrev pub down_from : ℕ → List ℕ
down_from zero = 0 ∷ []
down_from (suc n) = suc n ∷ down_from n

-- the first place where the part stands, among those from `from` to the text's length
unfoldable pub first_place : List ℕ → List ℕ → ℕ → Option ℕ
first_place text part from = find (λ place. nat_le from place && stands_at text part place) (range_with_len 0 (suc (length text)))

-- the first place where the part stands, among those from the text's length down to 0
unfoldable pub last_place : List ℕ → List ℕ → Option ℕ
last_place text part = find (stands_at text part) (down_from (length text))
