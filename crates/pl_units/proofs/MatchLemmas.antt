-- A match counted from either end is a place at which the part stands.
use Rattle.std.proofs.Common.{◌≡◌, ℕ, ◌+◌, ◌-◌, ◌<◌, ◌≤◌, List, length, get_or, take, drop, ap, sym, ◌∙◌, arith}
use Rattle.std.specs.Prelude.{Option, Some, None, IfSome, IfNone}
use Rattle.std.proofs.lemmas.List.{ext_get_or, get_or-take, get_or-drop, length-take, length-drop}
use Rattle.pl_units.specs.declared.direction.Direction.TheVariants.{Forward, Backward}
use Rattle.pl_units.specs.Periods.{unit_of, Matches, IsFirstMatch}
use Rattle.pl_units.specs.Places.{StandsAt, IsFirstPlace, IsLastPlace}

cut_at : (text : List ℕ) (count place i : ℕ) → i < count → get_or (take count (drop place text)) i 0 ≡ get_or text (place + i) 0
cut_at text count place i h = get_or-take count (drop place text) i 0 h ∙ get_or-drop place text i 0

stands_by_units : (text part : List ℕ) (place : ℕ) → place + length part ≤ length text
    → ((i : ℕ) → i < length part → get_or part i 0 ≡ get_or text (place + i) 0) → StandsAt text part place
stands_by_units text part place room same =
    let sized : length (take (length part) (drop place text)) ≡ length part = simp (length-take, length-drop) (omega arith) in (
      room,
      ext_get_or 0 _ _ sized (λ i h.
          let below : i < length part = omega (arith, sized) in
          cut_at text (length part) place i below ∙ sym (same i below)),
    )

units_of_stands : (text part : List ℕ) (place : ℕ) → StandsAt text part place → (i : ℕ) → i < length part → get_or part i 0 ≡ get_or text (place + i) 0
units_of_stands text part place stands i below =
    sym (ap (λ units. get_or units i 0) stands.1) ∙ cut_at text (length part) place i below

pub stands_forward : (text part : List ℕ) (place : ℕ) → Matches Forward text part place → StandsAt text part place
unfolding unit_of
stands_forward text part place matches = stands_by_units text part place matches.room matches.agree

pub matches_forward : (text part : List ℕ) (place : ℕ) → StandsAt text part place → Matches Forward text part place
unfolding unit_of
matches_forward text part place stands = record { room = stands.0; agree = units_of_stands text part place stands }

pub stands_backward : (text part : List ℕ) (place end : ℕ) → place + end + length part ≡ length text → Matches Backward text part end → StandsAt text part place
unfolding unit_of
stands_backward text part place end sum matches = stands_by_units text part place (omega arith) (λ i h.
    let turned : length part - 1 - i < length part = omega arith in
    let mine : i ≡ length part - 1 - (length part - 1 - i) = omega arith in
    let theirs : length text - 1 - (end + (length part - 1 - i)) ≡ place + i = omega arith in
    ap (λ k. get_or part k 0) mine ∙ matches.agree (length part - 1 - i) turned ∙ ap (λ k. get_or text k 0) theirs)

pub matches_backward : (text part : List ℕ) (place end : ℕ) → place + end + length part ≡ length text → StandsAt text part place → Matches Backward text part end
unfolding unit_of
matches_backward text part place end sum stands = record {
  room = omega arith;
  agree = λ i h.
      let turned : length part - 1 - i < length part = omega arith in
      let there : place + (length part - 1 - i) ≡ length text - 1 - (end + i) = omega arith in
      units_of_stands text part place stands (length part - 1 - i) turned ∙ ap (λ k. get_or text k 0) there;
}

pub first_forward : (text part : List ℕ) (from place : ℕ) → IsFirstMatch Forward text part from place → IsFirstPlace text part from place
first_forward text part from place first = record {
  from_there = first.from_there;
  stands = stands_forward text part place first.matches;
  least = λ earlier after before stands. first.least earlier after before (matches_forward text part earlier stands);
}

pub none_forward : (text part : List ℕ) (from : ℕ) → ((place : ℕ) → from ≤ place → ¬ Matches Forward text part place)
    → (place : ℕ) → from ≤ place → ¬ StandsAt text part place
none_forward text part from none place after stands = none place after (matches_forward text part place stands)

pub last_backward : (text part : List ℕ) (end : ℕ) → IsFirstMatch Backward text part 0 end → IsLastPlace text part (length text - length part - end)
last_backward text part end first =
    let room : end + length part ≤ length text = first.matches.room in
    record {
      stands = stands_backward text part (length text - length part - end) end (omega arith) first.matches;
      greatest = λ later after stands.
          let fits : later + length part ≤ length text = stands.0 in
          first.least (length text - length part - later) (omega arith) (omega arith)
          (matches_backward text part later (length text - length part - later) (omega arith) stands);
    }

pub none_backward : (text part : List ℕ) → ((end : ℕ) → 0 ≤ end → ¬ Matches Backward text part end) → (place : ℕ) → ¬ StandsAt text part place
none_backward text part none place stands =
    let fits : place + length part ≤ length text = stands.0 in
    none (length text - length part - place) (omega arith) (matches_backward text part place (length text - length part - place) (omega arith) stands)

pub found_forward : (text part : List ℕ) (from : ℕ) (r : Option ℕ) → IfSome r (IsFirstMatch Forward text part from) → IfSome r (IsFirstPlace text part from)
found_forward text part from None found = tt
found_forward text part from (Some place) found = first_forward text part from place found

pub not_found_forward : (text part : List ℕ) (from : ℕ) (r : Option ℕ) → IfNone r ((place : ℕ) → from ≤ place → ¬ Matches Forward text part place)
    → IfNone r ((place : ℕ) → from ≤ place → ¬ StandsAt text part place)
not_found_forward text part from None none = none_forward text part from none
not_found_forward text part from (Some place) none = tt
