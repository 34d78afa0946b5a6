-- What the functions of the host mean: those that a script may call and that no text of a script or of the language defines.
use Rattle.std.specs.Prelude.{ℕ, ℤ, List, Option, None}

-- The number of a host function and its arguments, in order, to its result: a signed number of 64 bits, or none where
-- the function refuses its arguments.
abbrev pub HostMeaning : Type 0
HostMeaning = ℕ → List ℤ → Option ℤ

-- There are no host functions: each call is refused.
abbrev pub no_host : HostMeaning
no_host number arguments = None
