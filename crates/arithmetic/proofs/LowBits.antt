-- The low bits of a number are the number that wraps.
use Rattle.std.proofs.Common.{◌≡◌, ◌%◌, refl, ap, arith, ℤ, pos, negsuc, to_z, of_z, FitsSigned}
use Rattle.std.specs.Int.{w8, w16, w32, w64, int_wrap}
use Rattle.arithmetic.specs.Arithmetic.{wrapped}

pub int_is : (a : ℤ) → FitsSigned w64 a → to_z w32 (of_z w64 a % 4294967296) ≡ wrapped w32 a
unfolding int_wrap
int_is (pos n) f = refl
int_is (negsuc n) f = ap (to_z w32) (omega (arith, f.sfits))

pub short_is : (a : ℤ) → FitsSigned w32 a → to_z w16 (of_z w32 a % 65536) ≡ wrapped w16 a
unfolding int_wrap
short_is (pos n) f = refl
short_is (negsuc n) f = ap (to_z w16) (omega (arith, f.sfits))

pub byte_is : (a : ℤ) → FitsSigned w32 a → to_z w8 (of_z w32 a % 256) ≡ wrapped w8 a
unfolding int_wrap
byte_is (pos n) f = refl
byte_is (negsuc n) f = ap (to_z w8) (omega (arith, f.sfits))
