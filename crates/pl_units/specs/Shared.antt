-- What an owner holds that may be absent.
use Rattle.std.specs.Prelude.{Option, Some, None, List, []}

-- the items that an owner holds, and none where there is no owner
abbrev pub items_in : {A X : Type 0} → (A → List X) → Option A → List X
items_in items None = []
items_in items (Some owner) = items owner
