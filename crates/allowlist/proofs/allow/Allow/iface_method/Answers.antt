use Rattle.std.proofs.Common.{length, sym, ap, ◌∙◌}
use Rattle.allowlist.specs.Allow.{AllowList}
use Rattle.allowlist.proofs.Members.{iface_past}
use Rattle.allowlist.proofs.Unique.{method_in_list}
use Rattle.allowlist.proofs.allow.Allow.iface_method.Goals as goal

pub returns-then-class-lt-CLASS_COUNT-clause-within : goal.returns-then-class-lt-CLASS_COUNT-clause-within
returns-then-class-lt-CLASS_COUNT-clause-within c =
    method_in_list c.args.class (length c.args.self.now.members) c.method_of_interface.result c.method_of_interface.ensures
    (sym (ap (λ (a : AllowList). length a.members) c.self.view_is) ∙ c.self.invariant.1)

pub returns-else-class-lt-CLASS_COUNT-clause-found : goal.returns-else-class-lt-CLASS_COUNT-clause-found
returns-else-class-lt-CLASS_COUNT-clause-found c = sym (iface_past c.args.class c.if-class-lt-CLASS_COUNT.false)
