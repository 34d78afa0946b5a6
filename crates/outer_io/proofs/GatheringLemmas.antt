-- How the pieces of a line are put together.
use Rattle.std.proofs.Common.{◌≡◌, ◌≢◌, ℕ, ◌+◌, ◌-◌, ◌≤◌, List, [], ◌∷◌, ◌++◌, length, take, drop, refl, sym, ap, ◌∙◌, subst, arith, length-take}
use Rattle.std.specs.Prelude.{Option, Vec}
use Rattle.std.proofs.lemmas.List.Elements.{All-head, All-tail}
use Rattle.std.specs.declared.alloc.Global.{Global}
use Rattle.outer_io.specs.Lines.{newline, IsUnbroken}
use Rattle.outer_io.specs.Reading.{Intake}
use Rattle.outer_io.specs.Gathering.{BreaksAt, Holds, IsSameTake, GathersEnded, GathersOpen}
use Rattle.outer_io.proofs.Pieces.{rest_of_part}

-- a piece that has a newline, of which the front up to it was moved behind the line
pub gathers_ended : (old new : Intake) (items pending front before : List ℕ) (line : Option (Vec ℕ Global)) (from to place : ℕ) → from ≤ to
    → old.pending ≡ take (to - from) (drop from items) → pending ≡ take (to - from) (drop from items)
    → new.pending ≡ take (to - (from + (place + 1))) (drop (from + (place + 1)) items) → BreaksAt pending place → front ≡ take place pending
    → Holds line (before ++ front) → IsSameTake old new → GathersEnded old new before line
gathers_ended old new items pending front before line from to place order is part after breaks front_is holds same =
    let within : from + (place + 1) ≤ to =
    omega (arith, breaks.within, ap length part, length-take (to - from) (drop from items)) in
    let behind : new.pending ≡ drop (place + 1) pending =
    after ∙ rest_of_part items from to (place + 1) within ∙ ap (drop (place + 1)) (sym part) in
    record {
      front = take place pending;
      parts = is ∙ sym part ∙ breaks.parts ∙ ap (λ l. take place pending ++ newline ∷ l) (sym behind);
      unbroken = breaks.unbroken;
      holds = subst (λ l. Holds line (before ++ l)) front_is holds;
      same = same;
    }

-- a piece that has no newline, which was moved behind the line
pub gathers_open : (old new : Intake) (items pending before : List ℕ) (line : Option (Vec ℕ Global)) (to : ℕ) → old.pending ≡ pending
    → new.pending ≡ take (to - to) (drop to items) → IsUnbroken pending → Holds line (before ++ pending) → IsSameTake old new → GathersOpen old new before line
gathers_open old new items pending before line to is after unbroken holds same =
    let zero_left : to - to ≡ 0 = omega arith in
    record {
      unbroken = subst IsUnbroken (sym is) unbroken;
      none = after ∙ ap (λ n. take n (drop to items)) zero_left;
      holds = subst (λ l. Holds line (before ++ l)) (sym is) holds;
      same = same;
    }

-- bytes in which a newline stands are not without one
pub broken : (bytes : List ℕ) (place : ℕ) → BreaksAt bytes place → IsUnbroken bytes → ⊥
broken bytes place breaks unbroken =
    broken_behind (take place bytes) (drop (place + 1) bytes) (subst IsUnbroken breaks.parts unbroken) where
      broken_behind : (front behind : List ℕ) → IsUnbroken (front ++ newline ∷ behind) → ⊥
      broken_behind [] behind all = All-head (λ byte. byte ≢ newline) newline behind all refl
      broken_behind (byte ∷ front) behind all = broken_behind front behind (All-tail (λ b. b ≢ newline) byte (front ++ newline ∷ behind) all)
