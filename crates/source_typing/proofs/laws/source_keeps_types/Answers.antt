use Rattle.source_typing.proofs.Operations.{operators_give_types, nodes_give_types, casts_give_static_types}
use Rattle.source_typing.proofs.Meanings.{meanings_are_typed, results_are_typed}
use Rattle.source_typing.proofs.laws.source_keeps_types.Goals as goal

pub returns-clause-each : goal.returns-clause-each
returns-clause-each c = meanings_are_typed

pub returns-clause-results : goal.returns-clause-results
returns-clause-results c = results_are_typed

pub returns-clause-operators : goal.returns-clause-operators
returns-clause-operators c = operators_give_types

pub returns-clause-casts : goal.returns-clause-casts
returns-clause-casts c = casts_give_static_types

pub returns-clause-nodes : goal.returns-clause-nodes
returns-clause-nodes c = nodes_give_types
