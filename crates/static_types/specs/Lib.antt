pub mod Bodies
-- Definitions of the libraries below that clauses here speak of, passed on.
pub use Rattle.allowlist.specs.Allow
pub use Rattle.typing_rules.specs.Outcomes
pub use Rattle.typing_rules.specs.Rules
pub use Rattle.typing_rules.specs.Typing
pub use Rattle.typing_rules.specs.declared as typing_rules_declared
