-- The sink holds what was to be written, or a front of it.
use Rattle.std.proofs.Common.{ℕ, List, subst}
use Rattle.std.specs.Io.KnownBytes.{Appends}
use Rattle.outer_io.specs.Front.{AppendsFront}
use Rattle.eval_command.proofs.Delivered.{no_answer, answer_whole, answer_failed, answer_cut, reports_quiet}
use Rattle.eval_command.proofs.Once.{script_once}
use Rattle.eval_command.proofs.eval_file.write_answer.Goals as goal

pub returns-in_default-clause-told : goal.returns-in_default-clause-told
returns-in_default-clause-told g c = no_answer c.args.script.now c.quiet.result (g.K.Sink.held c.args.out.now) c.quiet.ensures.status

pub returns-in-Ok-give_all-clause-told : goal.returns-in-Ok-give_all-clause-told
returns-in-Ok-give_all-clause-told g c =
    let t = c.in-Ok.ensures in
    answer_whole t.0 c.args.script.now c.in-Ok.answer (g.K.Sink.held c.args.out.now) (g.K.Sink.held c.give_all.new.out) t.1 t.2
    (subst (λ (bytes : List ℕ). Appends (g.K.Sink.held c.args.out.now) (g.K.Sink.held c.give_all.new.out) bytes) c.as_bytes.ensures.value c.in-Ok-give_all.ensures.whole)

pub returns-in-Ok-give_all-clause-quiet : goal.returns-in-Ok-give_all-clause-quiet
returns-in-Ok-give_all-clause-quiet g c = let t = c.in-Ok.ensures in reports_quiet t.0 c.args.script.now c.in-Ok.answer t.2

pub returns-in-Err-Failed-clause-told : goal.returns-in-Err-Failed-clause-told
returns-in-Err-Failed-clause-told g c =
    let t = c.in-Ok.ensures in
    answer_failed t.0 c.args.script.now c.in-Ok.answer (g.K.Sink.held c.args.out.now) (g.K.Sink.held c.give_all.new.out) t.1 t.2 c.quiet-in-Err-Failed.result c.quiet-in-Err-Failed.ensures.status
    c.quiet-in-Err-Failed.ensures.quiet
    (subst (λ (bytes : List ℕ). AppendsFront (g.K.Sink.held c.args.out.now) (g.K.Sink.held c.give_all.new.out) bytes) c.as_bytes.ensures.value c.in-Err-Failed.ensures.front)

pub returns-clause-told : goal.returns-clause-told
returns-clause-told g c =
    let t = c.in-Ok.ensures in
    answer_cut t.0 c.args.script.now c.in-Ok.answer (g.K.Sink.held c.args.out.now) (g.K.Sink.held c.give_all.new.out) t.1 t.2 c.quiet-in-Err-NoMemory.result c.quiet-in-Err-NoMemory.ensures.status
    c.quiet-in-Err-NoMemory.ensures.quiet (script_once c.script_laws.ensures.answered_once c.script_laws.ensures.ends_once c.code_laws.ensures.once t.0 c.args.script.now)
    (subst (λ (bytes : List ℕ). AppendsFront (g.K.Sink.held c.args.out.now) (g.K.Sink.held c.give_all.new.out) bytes) c.as_bytes.ensures.value c.in-Err-NoMemory.ensures.front)
