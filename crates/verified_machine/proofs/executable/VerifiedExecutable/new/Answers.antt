use Rattle.std.proofs.Common.{ap}
use Rattle.object_values.specs.declared.object.Owner.TheVariants.{Script, Prelude}
use Rattle.machine.specs.Seen.{Executable}
use Rattle.verified_machine.specs.Tasks.{code_under}
use Rattle.verified_machine.proofs.Ready.{executable_is, executable_is_ready}
use Rattle.verified_machine.proofs.executable.VerifiedExecutable.new.Goals as goal

pub invariant_of-result : goal.invariant_of-result
invariant_of-result c =
    executable_is_ready c.in_ok-new.field-0 c.args.verified c.args.prelude.now.text c.frame_words-own.result c.frame-kept.result c.larger-frame.result
    (executable_is c.in_ok-new.field-0 c.args.verified c.args.prelude.now.text c.in_ok-beside.beside.value c.into_parts-code.result.0 c.into_parts-code.result.1 c.larger-frame.result c.in_ok-new.ensures
    c.into_parts-code.ensures.code c.into_parts-code.ensures.allow c.in_ok-beside.ensures)
    c.into_parts-code.ensures.sound c.frame_words-own.ensures.words c.frame-kept.ensures.sound c.frame-kept.ensures.words c.frame-kept.ensures.rows c.larger-frame.ensures.one c.larger-frame.ensures.other

pub returns-clause-same : goal.returns-clause-same
returns-clause-same c =
    ap (λ (e : Executable). code_under e.script)
    (executable_is c.in_ok-new.field-0 c.args.verified c.args.prelude.now.text c.in_ok-beside.beside.value c.into_parts-code.result.0 c.into_parts-code.result.1 c.larger-frame.result c.in_ok-new.ensures
    c.into_parts-code.ensures.code c.into_parts-code.ensures.allow c.in_ok-beside.ensures)

pub returns-clause-prelude : goal.returns-clause-prelude
returns-clause-prelude c =
    ap (λ (e : Executable). e.prelude)
    (executable_is c.in_ok-new.field-0 c.args.verified c.args.prelude.now.text c.in_ok-beside.beside.value c.into_parts-code.result.0 c.into_parts-code.result.1 c.larger-frame.result c.in_ok-new.ensures
    c.into_parts-code.ensures.code c.into_parts-code.ensures.allow c.in_ok-beside.ensures)

pub returns-clause-frames : goal.returns-clause-frames
returns-clause-frames c =
    let ready =
    (executable_is_ready c.in_ok-new.field-0 c.args.verified c.args.prelude.now.text c.frame_words-own.result c.frame-kept.result c.larger-frame.result
    (executable_is c.in_ok-new.field-0 c.args.verified c.args.prelude.now.text c.in_ok-beside.beside.value c.into_parts-code.result.0 c.into_parts-code.result.1 c.larger-frame.result c.in_ok-new.ensures
    c.into_parts-code.ensures.code c.into_parts-code.ensures.allow c.in_ok-beside.ensures)
    c.into_parts-code.ensures.sound c.frame_words-own.ensures.words c.frame-kept.ensures.sound c.frame-kept.ensures.words c.frame-kept.ensures.rows c.larger-frame.ensures.one c.larger-frame.ensures.other).0 in
    ((ready Script).1, (ready Prelude).1)
