use Rattle.std.proofs.Common.{sym, subst}
use Rattle.typing_rules.specs.Outcomes.{KeepsIn}
use Rattle.typing_worklist.specs.declared.item.WordItem.{WordItem}
use Rattle.typing_worklist.specs.Machine as spec
use Rattle.typing_driver.proofs.acts.does_word.Goals as goal

pub returns-in-Name : goal.returns-in-Name
returns-in-Name c = subst (λ (word : WordItem). KeepsIn (spec.does_word c.args.allow.now c.args.headers.now word c.args.config.now) c.local.result c.local.new.config) (sym c.in-Name.is) c.local.ensures

pub returns-in-Written : goal.returns-in-Written
returns-in-Written c = subst (λ (word : WordItem). KeepsIn (spec.does_word c.args.allow.now c.args.headers.now word c.args.config.now) c.written.result c.written.new.config) (sym c.in-Written.is) c.written.ensures
