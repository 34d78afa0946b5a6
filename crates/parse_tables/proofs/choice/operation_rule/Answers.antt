use Rattle.std.proofs.Common.{refl}
use Rattle.parse_tables.proofs.choice.operation_rule.Goals as goal

pub returns-in-Product : goal.returns-in-Product
returns-in-Product c = λ terminal seen. rw c.in-Product.is refl

pub returns-in-Instance : goal.returns-in-Instance
returns-in-Instance c = λ terminal seen. rw c.in-Instance.is refl

pub returns-in-Looser : goal.returns-in-Looser
returns-in-Looser c = λ terminal seen. rw c.in-Looser.is refl
