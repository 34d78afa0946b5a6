use Rattle.parse_actions.proofs.series.extend_listed.Goals as goal

pub parameters-requires : goal.parameters-requires
parameters-requires c = rw c.in-Formal.is at c.requires

pub returns-in-Formal : goal.returns-in-Formal
returns-in-Formal c = rw c.in-Formal.is c.parameters.ensures

pub variables-requires : goal.variables-requires
variables-requires c = rw c.in-Var.is at c.requires

pub returns-in-Var : goal.returns-in-Var
returns-in-Var c = rw c.in-Var.is c.variables.ensures

pub exprs-requires : goal.exprs-requires
exprs-requires c = rw c.in-Item.is at c.requires

pub returns-in-Item : goal.returns-in-Item
returns-in-Item c = rw c.in-Item.is c.exprs.ensures

pub entries-requires : goal.entries-requires
entries-requires c = rw c.in-Entry.is at c.requires

pub returns-in-Entry : goal.returns-in-Entry
returns-in-Entry c = rw c.in-Entry.is c.entries.ensures

pub arguments-requires : goal.arguments-requires
arguments-requires c = rw c.in-Arg.is at c.requires

pub returns-in-Arg : goal.returns-in-Arg
returns-in-Arg c = rw c.in-Arg.is c.arguments.ensures

pub parameters-requires-in-Param : goal.parameters-requires-in-Param
parameters-requires-in-Param c = rw c.in-Param.is at c.requires

pub returns-in-Param : goal.returns-in-Param
returns-in-Param c = rw c.in-Param.is c.parameters-in-Param.ensures
