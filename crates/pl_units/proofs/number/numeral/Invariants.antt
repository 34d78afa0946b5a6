-- The value of the digits so far, which are digits.
use Rattle.std.proofs.Common.{◌≡◌, ◌<◌, ◌^◌, take, true}
use Rattle.std.specs.Char.{is_ascii_digit}
use Rattle.std.specs.List.{list_all}
use Rattle.pl_units.specs.WholeNumber.{digits_value}
use Rattle.pl_units.proofs.number.numeral.Given as goal

abbrev pub invariant-loop-digit : goal.invariant-loop-digit
invariant-loop-digit l = record {
  digits : list_all is_ascii_digit (take l.digit-index l.digits) ≡ true;
  value : l.value ≡ digits_value (take l.digit-index l.digits);
  fits : l.value < 2 ^ 64;
}
