use Rattle.std.proofs.Common.{refl}
use Rattle.parse_actions.proofs.series.empty.Goals as goal

pub returns-in-Statement : goal.returns-in-Statement
returns-in-Statement c = rw (c.in-Statement.is, c.new.ensures) refl

pub returns-in-Inner : goal.returns-in-Inner
returns-in-Inner c = rw (c.in-Inner.is, c.new-in-Inner.ensures) refl

pub returns-in-Pair : goal.returns-in-Pair
returns-in-Pair c = rw (c.in-Pair.is, c.new-in-Pair.ensures) refl

pub returns-in-Handler : goal.returns-in-Handler
returns-in-Handler c = rw (c.in-Handler.is, c.new-in-Handler.ensures) refl

pub returns-in-Postfix : goal.returns-in-Postfix
returns-in-Postfix c = rw (c.in-Postfix.is, c.new-in-Postfix.ensures) refl

pub returns-in-Size : goal.returns-in-Size
returns-in-Size c = rw (c.in-Size.is, c.new-in-Size.ensures) refl

pub returns-in-Operation : goal.returns-in-Operation
returns-in-Operation c = rw (c.in-Operation.is, c.new-in-Operation.ensures) refl

pub returns-in-Comma : goal.returns-in-Comma
returns-in-Comma c = rw c.in-Comma.is c.empty_listed.ensures
