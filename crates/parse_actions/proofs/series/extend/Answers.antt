use Rattle.parse_actions.proofs.series.extend.Goals as goal

pub statements-requires : goal.statements-requires
statements-requires c = rw c.in-Statement.is at c.requires

pub returns-in-Statement : goal.returns-in-Statement
returns-in-Statement c = rw c.in-Statement.is c.statements.ensures

pub statements-requires-in-Inner : goal.statements-requires-in-Inner
statements-requires-in-Inner c = rw c.in-Inner.is at c.requires

pub returns-in-Inner : goal.returns-in-Inner
returns-in-Inner c = rw c.in-Inner.is c.statements-in-Inner.ensures

pub places-requires : goal.places-requires
places-requires c = rw c.in-Pair.is at c.requires

pub returns-in-Pair : goal.returns-in-Pair
returns-in-Pair c = rw c.in-Pair.is c.places.ensures

pub catches-requires : goal.catches-requires
catches-requires c = rw c.in-Handler.is at c.requires

pub returns-in-Handler : goal.returns-in-Handler
returns-in-Handler c = rw c.in-Handler.is c.catches.ensures

pub suffixes-requires : goal.suffixes-requires
suffixes-requires c = rw c.in-Postfix.is at c.requires

pub returns-in-Postfix : goal.returns-in-Postfix
returns-in-Postfix c = rw c.in-Postfix.is c.suffixes.ensures

pub exprs-requires : goal.exprs-requires
exprs-requires c = rw c.in-Size.is at c.requires

pub returns-in-Size : goal.returns-in-Size
returns-in-Size c = rw c.in-Size.is c.exprs.ensures

pub operations-requires : goal.operations-requires
operations-requires c = rw c.in-Operation.is at c.requires

pub returns-in-Operation : goal.returns-in-Operation
returns-in-Operation c = rw c.in-Operation.is c.operations.ensures

pub extend_listed-requires : goal.extend_listed-requires
extend_listed-requires c = rw c.in-Comma.is at c.requires

pub returns-in-Comma : goal.returns-in-Comma
returns-in-Comma c = rw c.in-Comma.is c.extend_listed.ensures
