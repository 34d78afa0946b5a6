use Rattle.std.proofs.Common.{Option, ap, ◌∙◌}
use Rattle.pl_code.specs.declared.code.FunCode.{FunCode}
use Rattle.pl_code.specs.declared.kinds.Slot.{Slot}
use Rattle.code_meaning.specs.Machine.{gives_back, returns, returns_of}
use Rattle.machine_paths.proofs.Quick.{as_does}
use Rattle.machine_paths.proofs.value_path.give_back_word.Goals as goal

pub returns-in-Some-clause-exact : goal.returns-in-Some-clause-exact
returns-in-Some-clause-exact c = λ codes limits w found.
    let f = c.args.frames.now.top in
    let below = c.args.frames.now.below in
    as_does _ _ _ _ _
    (ap (λ (o : Option FunCode). returns codes limits o f.stack (λ word. gives_back codes limits below f.due word w)) found
    ∙ ap (λ (o : Option Slot). returns_of codes limits o f.stack (λ word. gives_back codes limits below f.due word w)) c.in-Some.is)
    (c.give_word.ensures.exact codes limits w)
