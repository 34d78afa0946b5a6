-- Lemmas on pieces that move from the front of a list.
use Rattle.std.proofs.Common.{◌∙◌, append_assoc, ◌≡◌, ℕ, ◌+◌, ◌-◌, ◌<◌, ◌≤◌, min, List, [], ◌∷◌, ◌++◌, length, take, drop, refl, ap, arith, take-append-drop, length-drop}
use Rattle.std.specs.Prelude.{Option}
use Rattle.std.proofs.KnownBytes.{Appends-trans}
use Rattle.std.specs.Io.KnownBytes.{Appends}
use Rattle.std.proofs.lemmas.List.{drop-drop, drop-take}

-- what was copied, and what lies behind it, is what was left
pub left-moved : (bytes into left : List ℕ) (taken count : ℕ) → left ≡ drop taken bytes → take count into ≡ take count (drop taken bytes)
    → left ≡ take count into ++ drop (taken + count) bytes
left-moved bytes into left taken count is copied =
    rw (copied, ← drop-drop count taken bytes, take-append-drop) is

pub empty-of_length : (xs : List ℕ) → length xs ≡ 0 → xs ≡ []
empty-of_length [] h = refl
empty-of_length (x ∷ xs) h = absurd (omega (arith, h))

-- a piece with room that nothing was copied into lies at the end
pub end-moved : (bytes : List ℕ) (taken count most room : ℕ) → 1 ≤ most → 0 < room → count ≡ min most (min room (length (drop taken bytes)))
    → count ≡ 0 → drop (taken + count) bytes ≡ []
end-moved bytes taken count most room m r is zero =
    rw (← drop-drop count taken bytes) (empty-of_length (drop count (drop taken bytes)) (omega (arith, length-drop count (drop taken bytes))))

-- a front of the bytes was appended, the rest is still to come, and the counts of faults and of wants stand where they stood
pub record Given (old new : Option (List ℕ)) (bytes rest : List ℕ) (before now wanted wants : ℕ) : Type 0 where
  pub front : List ℕ
  pub parts : front ++ rest ≡ bytes
  pub appended : Appends old new front
  pub quiet : now ≡ before
  pub enough : wants ≡ wanted

-- one more front was given
pub given_more : (old mid new : Option (List ℕ)) (bytes rest behind : List ℕ) (before between now wanted still wants count : ℕ)
    → Given old mid bytes rest before between wanted still → Appends mid new (take count rest) → behind ≡ drop count rest → now ≡ between → wants ≡ still
    → Given old new bytes behind before now wanted wants
given_more old mid new bytes rest behind before between now wanted still wants count given more is quiet enough = record {
  front = given.front ++ take count rest;
  parts =
      append_assoc given.front (take count rest) behind
      ∙ ap (λ l. given.front ++ (take count rest ++ l)) is
      ∙ ap (λ l. given.front ++ l) (take-append-drop count rest)
      ∙ given.parts;
  appended = Appends-trans old mid new given.front (take count rest) given.appended more;
  quiet = quiet ∙ given.quiet;
  enough = enough ∙ given.enough;
}

-- what is left of a part of a list behind a front of it
pub rest_of_part : (xs : List ℕ) (from to count : ℕ) → from + count ≤ to → take (to - (from + count)) (drop (from + count) xs) ≡ drop count (take (to - from) (drop from xs))
rest_of_part xs from to count within =
    let whole : to - from ≡ count + (to - (from + count)) = omega arith in
    rw (whole, drop-take count (to - (from + count)) (drop from xs), drop-drop count from xs) refl
