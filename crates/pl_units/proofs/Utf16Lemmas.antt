-- Units and scalar values: what UTF-16 makes of scalar values is read back as them.
use Rattle.std.proofs.Common.{◌≡◌, ℕ, suc, ◌+◌, ◌-◌, ◌/◌, ◌%◌, ◌<◌, ◌≤◌, Bool, true, false, ◌&&◌, List, [], ◌∷◌, ◌++◌, map, refl, ap, ◌∙◌, arith, inl, inr, ◌⊎◌}
use Rattle.std.specs.Prelude.{Option, if◌then◌else◌}
use Rattle.std.specs.Option.{unwrap_or}
use Rattle.std.specs.List.{flat_map}
use Rattle.std.specs.Str.{chars, IsUtf8, IsAscii}
use Rattle.std.specs.Char.Utf16.{utf16_chars, utf16_lossy_chars, lone_unit_char}
use Rattle.std.proofs.Math.Utf8.{scalar, scalars, encodes, scalar_cases}
use Rattle.std.proofs.lemmas.Bool.{cases_lt, lt-ltb, le-ltb, and_parts, and_left}
use Rattle.std.proofs.lemmas.Bool.Decides.{nat_tests}
use Rattle.std.proofs.lemmas.Str.{encodes-chars, scalars-chars, chars-IsAscii}
use Rattle.pl_units.specs.Utf16.{is_high_surrogate, is_low_surrogate, units_of_scalar, scalar_of_pair, scalar_of_unit, scalars_of, units, bytes}

scalar_of_unit_is : (unit : ℕ) → unwrap_or (lone_unit_char unit) 0xFFFD ≡ scalar_of_unit unit
scalar_of_unit_is unit = grind (arith, nat_tests)

-- a choice between two lists, and what each is mapped to
map-if : {X Y : Type 0} (f : X → Y) (b : Bool) (xs ys : List X) (us vs : List Y) → map f xs ≡ us → map f ys ≡ vs → map f (if b then xs else ys) ≡ (if b then us else vs)
map-if f true xs ys us vs p q = p
map-if f false xs ys us vs p q = q

-- std's reading of units, which answers None for an unpaired surrogate
pub lossy_is : (text : List ℕ) → utf16_lossy_chars text ≡ scalars_of text
unfolding scalars_of utf16_chars
lossy_is [] = refl
lossy_is (unit ∷ []) = ap (λ s. s ∷ []) (scalar_of_unit_is unit)
lossy_is (unit ∷ next ∷ rest) =
    map-if (λ (o : Option ℕ). unwrap_or o 0xFFFD) (is_high_surrogate unit && is_low_surrogate next) _ _ _ _
    (ap (λ s. scalar_of_pair unit next ∷ s) (lossy_is rest))
    (λ i. scalar_of_unit_is unit i ∷ lossy_is (next ∷ rest) i)

pub bytes_is : (text : List ℕ) → encodes (utf16_lossy_chars text) ≡ bytes text
unfolding bytes
bytes_is text = ap encodes (lossy_is text)

-- a unit that is no high surrogate stands alone
lone_first : (unit : ℕ) (rest : List ℕ) → is_high_surrogate unit ≡ false → scalars_of (unit ∷ rest) ≡ scalar_of_unit unit ∷ scalars_of rest
unfolding scalars_of
lone_first unit [] low = refl
lone_first unit (next ∷ rest) low =
    ap (λ b. if b then scalar_of_pair unit next ∷ scalars_of rest else scalar_of_unit unit ∷ scalars_of (next ∷ rest)) (and_left _ _ low)

pair_first : (high low : ℕ) (rest : List ℕ) → (is_high_surrogate high && is_low_surrogate low) ≡ true → scalars_of (high ∷ low ∷ rest) ≡ scalar_of_pair high low ∷ scalars_of rest
unfolding scalars_of
pair_first high low rest pair =
    ap (λ b. if b then scalar_of_pair high low ∷ scalars_of rest else scalar_of_unit high ∷ scalars_of (low ∷ rest)) pair

basic_first : (c : ℕ) (rest : List ℕ) → c < 0x1_0000 → (c < 55296) ⊎ ((57344 ≤ c) × (c < 1114112)) → scalars_of (units_of_scalar c ++ rest) ≡ c ∷ scalars_of rest
basic_first c rest l s =
    let one : units_of_scalar c ≡ c ∷ [] = rw (lt-ltb c 0x1_0000 l) in
    let alone : is_high_surrogate c ≡ false = grind (arith, nat_tests) in
    let kept : scalar_of_unit c ≡ c = grind (arith, nat_tests) in
    ap (λ us. scalars_of (us ++ rest)) one ∙ lone_first c rest alone ∙ ap (λ u. u ∷ scalars_of rest) kept

supplementary_first : (c : ℕ) (rest : List ℕ) → 0x1_0000 ≤ c → c < 0x11_0000 → scalars_of (units_of_scalar c ++ rest) ≡ c ∷ scalars_of rest
supplementary_first c rest l g =
    let high = 0xD800 + (c - 0x1_0000) / 0x400 in
    let low = 0xDC00 + (c - 0x1_0000) % 0x400 in
    let two : units_of_scalar c ≡ high ∷ low ∷ [] = rw (le-ltb c 0x1_0000 l) in
    let high_fits : (0xD800 ≤ high) × (high < 0xDC00) = omega arith in
    let low_fits : (0xDC00 ≤ low) × (low < 0xE000) = omega arith in
    let pair : (is_high_surrogate high && is_low_surrogate low) ≡ true = grind (arith, nat_tests) in
    let kept : scalar_of_pair high low ≡ c = omega arith in
    ap (λ us. scalars_of (us ++ rest)) two ∙ pair_first high low rest pair ∙ ap (λ u. u ∷ scalars_of rest) kept

scalar_first : (c : ℕ) (rest : List ℕ) → scalar c ≡ true → scalars_of (units_of_scalar c ++ rest) ≡ c ∷ scalars_of rest
scalar_first c rest s = elim (cases_lt c 0x1_0000) [
  | inl l ↦ basic_first c rest l (scalar_cases c s)
  | inr g ↦ elim (scalar_cases c s) [
    | inl l ↦ absurd (omega arith)
    | inr h ↦ supplementary_first c rest g h.1
  ]
]

pub scalars_of_units : (cs : List ℕ) → scalars cs ≡ true → scalars_of (flat_map units_of_scalar cs) ≡ cs
unfolding scalars_of
scalars_of_units [] h = refl
scalars_of_units (c ∷ cs) h =
    let parts = and_parts _ _ h in
    scalar_first c (flat_map units_of_scalar cs) parts.0 ∙ ap (λ s. c ∷ s) (scalars_of_units cs parts.1)

pub bytes_of_units : (utf8 : List ℕ) → IsUtf8 utf8 → bytes (units utf8) ≡ utf8
unfolding bytes units
bytes_of_units utf8 text = ap encodes (scalars_of_units (chars utf8) (scalars-chars utf8 text)) ∙ encodes-chars utf8 text

ascii_alone : (text : List ℕ) → IsAscii text → flat_map units_of_scalar text ≡ text
ascii_alone [] h = refl
ascii_alone (c ∷ cs) h =
    let small : c < 0x1_0000 = omega (arith, h 0) in
    let one : units_of_scalar c ≡ c ∷ [] = rw (lt-ltb c 0x1_0000 small) in
    ap (λ us. us ++ flat_map units_of_scalar cs) one ∙ ap (λ us. c ∷ us) (ascii_alone cs (λ i. h (suc i)))

-- an ASCII text has its bytes as its units
pub units-ascii : (utf8 : List ℕ) → IsAscii utf8 → units utf8 ≡ utf8
unfolding units
units-ascii utf8 h = ap (flat_map units_of_scalar) (chars-IsAscii utf8 h) ∙ ascii_alone utf8 h
