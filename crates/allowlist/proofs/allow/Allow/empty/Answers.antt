use Rattle.allowlist.proofs.allow.Allow.empty.Goals as goal

pub returns : goal.returns
returns c = rw c.in_ok-members.ensures at (rw c.in_ok-classes.ensures at c.with_flags.ensures)
