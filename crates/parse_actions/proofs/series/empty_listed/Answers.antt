use Rattle.std.proofs.Common.{refl}
use Rattle.parse_actions.proofs.series.empty_listed.Goals as goal

pub returns-in-Formal : goal.returns-in-Formal
returns-in-Formal c = rw (c.in-Formal.is, c.new.ensures) refl

pub returns-in-Var : goal.returns-in-Var
returns-in-Var c = rw (c.in-Var.is, c.new-in-Var.ensures) refl

pub returns-in-Item : goal.returns-in-Item
returns-in-Item c = rw (c.in-Item.is, c.new-in-Item.ensures) refl

pub returns-in-Entry : goal.returns-in-Entry
returns-in-Entry c = rw (c.in-Entry.is, c.new-in-Entry.ensures) refl

pub returns-in-Arg : goal.returns-in-Arg
returns-in-Arg c = rw (c.in-Arg.is, c.new-in-Arg.ensures) refl

pub returns-in-Param : goal.returns-in-Param
returns-in-Param c = rw (c.in-Param.is, c.new-in-Param.ensures) refl
