use Rattle.std.proofs.Common.{◌≡◌, ◌≤◌, ◌^◌, drop}
use Rattle.typing_rules.specs.Rules.Digits.{value_after}
use Rattle.typing_rules.proofs.digits.value_of.Given as goal

-- the digits so far are worth the value, and the rest of them complete it
abbrev pub invariant-loop-digit : goal.invariant-loop-digit
invariant-loop-digit l = record {
  small : l.value ≤ 2 ^ 63;
  worth : value_after l.base l.value (drop l.digit-index l.digits) ≡ value_after l.base 0 l.fn.digits;
}
