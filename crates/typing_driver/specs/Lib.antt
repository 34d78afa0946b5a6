pub use Rattle.typing_worklist.specs.Item
pub use Rattle.typing_worklist.specs.Machine
