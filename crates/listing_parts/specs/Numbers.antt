-- Numbers in a listing: in decimal, with no zero in front and no `-0`.
use Rattle.std.specs.Prelude.{ℕ, ◌&&◌, nat_lt, Bool, List, Option, Some, None, if◌then◌else◌, decimal, ℤ}
use Rattle.std.specs.Fmt.{signed_decimal}
use Rattle.std.specs.Int.Signed.{mag}
use Rattle.std.specs.Str.{bytes_eq}
use Rattle.std.specs.Str.Parse.{digits_value, signed_digits_value}

-- the number that a text writes, if its own text is this one
unfoldable pub number_of : {A : Type 0} → (A → List ℕ) → (List ℕ → A) → (A → Bool) → List ℕ → Option A
number_of written value fits s = if bytes_eq (written (value s)) s && fits (value s) then Some (value s) else None

-- the number below a limit whose text this is
abbrev pub natural_of : ℕ → List ℕ → Option ℕ
natural_of limit = number_of decimal (digits_value 10) (λ n. nat_lt n limit)

-- the number from -limit to limit - 1 whose text this is: `mag` is n of both n and -(n + 1)
abbrev pub integer_of : ℕ → List ℕ → Option ℤ
integer_of limit = number_of signed_decimal (signed_digits_value 10) (λ z. nat_lt (mag z) limit)
