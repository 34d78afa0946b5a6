use Rattle.std.proofs.Common.{Fits, w16, ℕ, List, ◌<◌, ◌^◌, get_or, All, rules}
use Rattle.std.proofs.lemmas.List.{get_or_default}
use Rattle.pl_units.proofs.text.UText.len.Goals as goal

all_fit : (text : List ℕ) → ((i : ℕ) → Fits w16 (get_or text i 0)) → All (λ unit. unit < 2 ^ 16) text
all_fit text fit k d within = rw (get_or_default text k d 0 within) (fit k).fits

pub returns-clause-in_range : goal.returns-clause-in_range
returns-clause-in_range c = rw (← c.units-content.ensures) (all_fit _ (search rules))
