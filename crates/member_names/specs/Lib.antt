pub mod Names
-- Definitions of the libraries below that clauses here speak of, passed on.
pub use Rattle.instruction_types.specs.Effects
pub use Rattle.instruction_types.specs.Faults
pub use Rattle.listing_parts.specs.Names as ListingPartsNames
