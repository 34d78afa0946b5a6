-- The greatest of what members are called with, and of the lengths of the lists.
use Rattle.std.proofs.Common.{◌≡◌, ℕ, ◌+◌, ◌<◌, ◌≤◌, length, arith}
use Rattle.allowlist.specs.Index.{member_in}
use Rattle.code_meaning.specs.Members.{count_of}
use Rattle.object_values.specs.declared.object.Owner.{Owner}
use Rattle.object_values.specs.declared.object.Owner.TheVariants.{Script, Prelude}
use Rattle.machine_parts.specs.Code.{Executable, TextCode, text_of}
use Rattle.machine_parts.specs.Rooms.{ArgumentsWithin, MembersWithin}

-- a bound of those before a number, and of that number's too
pub one_more : (f : ℕ → ℕ) (n old new : ℕ) → ((k : ℕ) → k < n → f k ≤ old) → f n ≤ new → old ≤ new → (k : ℕ) → k < n + 1 → f k ≤ new
one_more f n old new h here grows k less = grind (arith, h)

-- no member of a text's list is called with more words
abbrev pub TakesWithin : TextCode → ℕ → Type 0
TakesWithin t most = (number : ℕ) → number < length t.allow.members → count_of (member_in t.allow number) ≤ most

at_most : (a b c : ℕ) → a ≤ b → b ≤ c → a ≤ c
at_most a b c h k = omega (arith, h, k)

covered : (n a b : ℕ) → a ≡ n → a ≤ b → n ≤ b
covered n a b e h = omega (arith, e, h)

-- a bound of both texts
pub both_members : (e : Executable) (script prelude most : ℕ) → script ≡ length e.script.allow.members → prelude ≡ length e.prelude.allow.members → script ≤ most → prelude ≤ most → MembersWithin e most
both_members e script prelude most first second one other = record { within = by_text } where
  by_text : (text : Owner) → length (text_of e text).allow.members ≤ most
  by_text Script = covered (length e.script.allow.members) script most first one
  by_text Prelude = covered (length e.prelude.allow.members) prelude most second other

pub both_arguments : (e : Executable) (script prelude most : ℕ) → TakesWithin e.script script → TakesWithin e.prelude prelude → script ≤ most → prelude ≤ most → ArgumentsWithin e most
both_arguments e script prelude most first second one other = record { within = by_text } where
  by_text : (text : Owner) (number : ℕ) → number < length (text_of e text).allow.members → count_of (member_in (text_of e text).allow number) ≤ most
  by_text Script number less = at_most (count_of (member_in e.script.allow number)) script most (first number less) one
  by_text Prelude number less = at_most (count_of (member_in e.prelude.allow number)) prelude most (second number less) other
