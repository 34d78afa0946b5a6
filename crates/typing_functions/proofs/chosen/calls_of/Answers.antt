use Rattle.std.proofs.Common.{subst, List, length, Option}
use Rattle.allowlist.specs.declared.member.MemberType.{MemberType}
use Rattle.typed_tree.specs.declared.program.Named.{Named}
use Rattle.typing_rules.specs.Outcomes.{Keeps}
use Rattle.typing_functions.specs.Chosen as spec
use Rattle.typing_functions.specs.Wanted.{method_of}
use Rattle.typing_functions.proofs.chosen.calls_of.Goals as goal

pub returns : goal.returns
returns c =
    let hs = c.args.headers.now in
    let names = c.as_slice-names.result.now in
    subst (λ (ns : List Named). Keeps (spec.calling_as hs c.args.at c.args.name.now (method_of c.args.allow.now c.args.wanted (length ns)) ns) c.calling_as.result) c.as_slice-names.ensures
    (subst (λ (m : Option MemberType). Keeps (spec.calling_as hs c.args.at c.args.name.now m names) c.calling_as.result) c.method_of-method.ensures c.calling_as.ensures)
