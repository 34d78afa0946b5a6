use Rattle.std.proofs.Common.{◌≡◌, length}
use Rattle.plain_stack.specs.Stacks.{lowest}
use Rattle.codegen.proofs.symbols.SymbolTable.lower.Given as goal

abbrev pub invariant-loop-self : goal.invariant-loop-self
invariant-loop-self l = lowest l.fn.height l.self ≡ lowest l.fn.height l.fn.self

abbrev pub decreases-loop-self : goal.decreases-loop-self
decreases-loop-self l = length l.self
