-- How many clients there may be.
use Rattle.std.specs.Prelude.{ℕ}

abbrev pub most_clients : ℕ
most_clients = 10000
