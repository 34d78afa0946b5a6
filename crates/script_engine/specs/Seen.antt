-- What the runs of scripts are bound by and stand on.
use Rattle.static_types.specs.Allow.{AllowList}
use Rattle.compiled_outcome.specs.World.{Limits, limits_for}
use Rattle.verified_machine.specs.machine_declared.configuration.Limits as machine
pub use Rattle.verified_machine.specs.Seen.{limit_of}

-- the limits of a run of a script whose text may call these members
abbrev pub limits_of : machine.Limits → AllowList → Limits
limits_of l allow = limits_for l.loops l.depth allow
