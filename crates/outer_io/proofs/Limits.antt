-- What a reader gives where it is read up to a limit.
use Rattle.std.proofs.Common.{◌∙◌, ◌≡◌, ℕ, ◌<◌, ◌≤◌, List, [], ◌++◌, length, take, Some, None, IfSome, sym, ap, subst, arith, length-take}
use Rattle.std.specs.Prelude.{Option}
use Rattle.std.specs.Option.{option_map}
use Rattle.std.proofs.lemmas.List.{take_all}

-- what was read is all, where it is below the place at which reading stops
pub whole-of_front : (all bytes : List ℕ) (cap : ℕ) → bytes ≡ take cap all → length bytes < cap → bytes ≡ all
whole-of_front all bytes cap is below =
    let shorter : length all ≤ cap = omega (arith, ap length is, length-take cap all) in
    is ∙ take_all cap all shorter

-- the same where the bytes may be known
pub shown-whole : (known : Option (List ℕ)) (bytes : List ℕ) (cap : ℕ) → IfSome (option_map (take cap) known) (λ front. bytes ≡ front) → length bytes < cap
    → IfSome known (λ all. Some all ≡ Some bytes)
shown-whole None bytes cap is below = tt
shown-whole (Some all) bytes cap is below = ap Some (sym (whole-of_front all bytes cap is below))

-- the same of what was read after a start that was empty
pub shown-read : (known limited : Option (List ℕ)) (start bytes : List ℕ) (cap : ℕ) → limited ≡ option_map (take cap) known → start ≡ []
    → IfSome limited (λ front. bytes ≡ start ++ front) → length bytes < cap → IfSome known (λ all. Some all ≡ Some bytes)
shown-read known limited start bytes cap is none read below =
    shown-whole known bytes cap (rw none at (subst (λ some. IfSome some (λ front. bytes ≡ start ++ front)) is read)) below
