use Rattle.std.proofs.Common.{◌≡◌, drop}
use Rattle.allowlist.specs.Catalogue.{catalogue}
use Rattle.allowlist.specs.Allow.{first_member}
use Rattle.allowlist.specs.Files.{declared_member}
use Rattle.allowlist.specs.Seen.{seen_form}
use Rattle.allowlist.proofs.Members.{declared_test}
use Rattle.allowlist.proofs.reading.declared_member.Given as goal

abbrev pub invariant-loop-number : goal.invariant-loop-number
invariant-loop-number l = declared_member l.class (seen_form l.form) ≡ first_member (declared_test l.class (seen_form l.form)) l.number (drop l.number catalogue)
