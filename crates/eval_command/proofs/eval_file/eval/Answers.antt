-- What the files answered is what some content shows, and that is told of.
use Rattle.std.proofs.Common.{◌≢◌, ℕ, List, [], ◌∷◌, Option, Err, None, Some, ap, subst, refl}
use Rattle.command_parts.specs.Ends.{NoInput, of_files}
use Rattle.command_parts.specs.DeliversOver.{DeliversOver}
use Rattle.command_parts.specs.Told.{Told}
use Rattle.command_parts.specs.declared.status.Status.{Status}
use Rattle.command_parts.specs.declared.status.Status.TheVariants as s
use Rattle.command_parts.specs.declared.stop.Stop.TheVariants as stop
use Rattle.command_parts.proofs.Asking.{asks_always}
use Rattle.command_parts.proofs.Delivering.{some_content}
use Rattle.command_parts.proofs.Ends.{ends_stopped}
use Rattle.eval_command.specs.Tellings.{eval_telling}
use Rattle.eval_command.proofs.Delivered.{shown, shown_long, ScriptDelivers, ScriptReports, delivers_script, absent_told, long_told, file_failed, file_unread}
use Rattle.eval_command.proofs.eval_file.eval.Goals as goal

-- no input fails that is not there
unread_fault : (tells : List ℕ → Told → Type 0) (status : Status) (left left' old new : Option (List ℕ)) → DeliversOver tells (λ front told. ⊥) (λ front. ⊥) status left left' old new → status ≢ s.ReadFault
unread_fault tells status left left' old new h is = none (subst (λ (t : Status). DeliversOver tells (λ front told. ⊥) (λ front. ⊥) t left left' old new) is h) where
  none : DeliversOver tells (λ front told. ⊥) (λ front. ⊥) s.ReadFault left left' old new → ⊥
  none (front, consumed, told, never, appended) = never

pub returns-in-Ok-Bytes : goal.returns-in-Ok-Bytes
returns-in-Ok-Bytes g c =
    let name = c.args.name.now in
    let script = c.in-Ok-Bytes.script.items in
    let r = c.write_answer.result in
    let old = g.K.Sink.held c.args.out.now in
    let new = g.K.Sink.held c.write_answer.new.out in
    let found = shown (g.F.Files.content c.args.files.now) name (Some script) (rw c.in-Ok-Bytes.field-0-is at c.in-Ok-Bytes.ensures.shown) in
    let told = subst (λ (bytes : List ℕ). ScriptDelivers bytes r old new) c.as_slice.ensures.value c.write_answer.ensures.told in
    let d = delivers_script (found.0 name) script r old new found.2 (rw c.in-Ok-Bytes.field-0-is at c.in-Ok-Bytes.ensures.within) told in
    record {
      ends = record {
        told = (found.0, found.1, d.0, d.1, d.2);
        usage = (λ is. absurd (c.write_answer.ensures.command is), λ misused. absurd misused);
        read = λ is. absurd (unread_fault (λ input. ScriptReports told.0 script r) r.status None None old new told.2 is);
        write = λ is. c.write_answer.ensures.write is;
        file = λ is. absurd (c.write_answer.ensures.found.0 is);
        well_read = λ not. refl;
        written = λ not. c.write_answer.ensures.written not;
        filed = λ not. c.in-Ok-Bytes.ensures.cause.quiet (λ failed. cc);
        ended = λ reads. absurd reads;
        untouched = λ leaves. tt;
        contents = c.read.ensures.kept;
        asked = asks_always (g.F.Files.content c.args.files.now) (g.F.Files.asked c.args.files.now) (g.F.Files.asked c.read.new.self) (λ content. name ∷ []) (λ content. c.read.ensures.asks);
        quiet = λ done errors. c.write_answer.ensures.quiet done errors;
      };
    }

pub returns-in-Ok-Absent : goal.returns-in-Ok-Absent
returns-in-Ok-Absent g c =
    let name = c.args.name.now in
    let before = of_files (g.F.Files.content c.args.files.now) (g.F.Files.asked c.args.files.now) (g.F.Files.faults c.args.files.now) (g.K.Sink.held c.args.out.now) (g.K.Sink.faults c.args.out.now) in
    let after = of_files (g.F.Files.content c.read.new.self) (g.F.Files.asked c.read.new.self) (g.F.Files.faults c.read.new.self) (g.K.Sink.held c.args.out.now) (g.K.Sink.faults c.args.out.now) in
    let found = shown before.content name None (rw c.in-Ok-Absent.field-0-is at c.in-Ok-Absent.ensures.shown) in
    let d = absent_told (found.0 name) c.quiet.result before.held found.2 c.quiet.ensures.status c.quiet.ensures.quiet in
    record {
      ends = ends_stopped (eval_telling name) before after NoInput c.quiet.result stop.FileAbsent s.FileAbsent c.quiet.ensures.status c.quiet.ensures.quiet (refl, refl) (found.0, found.1, d.0, d.1, d.2)
          (λ misused. misused) (λ is. absurd cc) (λ not. refl) (λ is. absurd cc) (λ not. c.in-Ok-Absent.ensures.cause.quiet (λ failed. cc)) refl tt c.read.ensures.kept
          (asks_always before.content before.asked after.asked (λ content. name ∷ []) (λ content. c.read.ensures.asks));
    }

pub returns-in-Ok-Long : goal.returns-in-Ok-Long
returns-in-Ok-Long g c =
    let name = c.args.name.now in
    let before = of_files (g.F.Files.content c.args.files.now) (g.F.Files.asked c.args.files.now) (g.F.Files.faults c.args.files.now) (g.K.Sink.held c.args.out.now) (g.K.Sink.faults c.args.out.now) in
    let after = of_files (g.F.Files.content c.read.new.self) (g.F.Files.asked c.read.new.self) (g.F.Files.faults c.read.new.self) (g.K.Sink.held c.args.out.now) (g.K.Sink.faults c.args.out.now) in
    let found = shown_long before.content name (rw c.in-Ok-Long.field-0-is at c.in-Ok-Long.ensures.shown) in
    let d = long_told (found.0 name) found.2.0 c.quiet-in-Ok-Long.result before.held found.2.1 found.2.2 c.quiet-in-Ok-Long.ensures.status c.quiet-in-Ok-Long.ensures.quiet in
    record {
      ends = ends_stopped (eval_telling name) before after NoInput c.quiet-in-Ok-Long.result stop.FileLong s.FileLong c.quiet-in-Ok-Long.ensures.status c.quiet-in-Ok-Long.ensures.quiet (refl, refl) (found.0, found.1, d.0, d.1, d.2)
          (λ misused. misused) (λ is. absurd cc) (λ not. refl) (λ is. absurd cc) (λ not. c.in-Ok-Long.ensures.cause.quiet (λ failed. cc)) refl tt c.read.ensures.kept
          (asks_always before.content before.asked after.asked (λ content. name ∷ []) (λ content. c.read.ensures.asks));
    }

pub returns-in-Err-Failed : goal.returns-in-Err-Failed
returns-in-Err-Failed g c =
    let name = c.args.name.now in
    let before = of_files (g.F.Files.content c.args.files.now) (g.F.Files.asked c.args.files.now) (g.F.Files.faults c.args.files.now) (g.K.Sink.held c.args.out.now) (g.K.Sink.faults c.args.out.now) in
    let after = of_files (g.F.Files.content c.read.new.self) (g.F.Files.asked c.read.new.self) (g.F.Files.faults c.read.new.self) (g.K.Sink.held c.args.out.now) (g.K.Sink.faults c.args.out.now) in
    let some = some_content before.content in
    let d = file_failed (some.0 name) c.quiet-in-Err-Failed.result before.held c.quiet-in-Err-Failed.ensures.status in
    record {
      ends = ends_stopped (eval_telling name) before after NoInput c.quiet-in-Err-Failed.result stop.FileFault s.FileFault c.quiet-in-Err-Failed.ensures.status c.quiet-in-Err-Failed.ensures.quiet (refl, refl) (some.0, some.1, d.0, d.1, d.2)
          (λ misused. misused) (λ is. absurd cc) (λ not. refl) (λ is. c.in-Err-Failed.ensures.cause.rose (ap Err c.in-Err-Failed.field-0-is)) (λ not. absurd (not refl)) refl tt c.read.ensures.kept
          (asks_always before.content before.asked after.asked (λ content. name ∷ []) (λ content. c.read.ensures.asks));
    }

pub returns-in-Err-NoMemory : goal.returns-in-Err-NoMemory
returns-in-Err-NoMemory g c =
    let name = c.args.name.now in
    let before = of_files (g.F.Files.content c.args.files.now) (g.F.Files.asked c.args.files.now) (g.F.Files.faults c.args.files.now) (g.K.Sink.held c.args.out.now) (g.K.Sink.faults c.args.out.now) in
    let after = of_files (g.F.Files.content c.read.new.self) (g.F.Files.asked c.read.new.self) (g.F.Files.faults c.read.new.self) (g.K.Sink.held c.args.out.now) (g.K.Sink.faults c.args.out.now) in
    let some = some_content before.content in
    let d = file_unread (some.0 name) c.quiet-in-Err-NoMemory.result before.held c.quiet-in-Err-NoMemory.ensures.status in
    let memory = c.in-Err-NoMemory.field-0-is in
    record {
      ends = ends_stopped (eval_telling name) before after NoInput c.quiet-in-Err-NoMemory.result stop.NoMemory s.NoMemory c.quiet-in-Err-NoMemory.ensures.status c.quiet-in-Err-NoMemory.ensures.quiet (refl, refl) (some.0, some.1, d.0, d.1, d.2)
          (λ misused. misused) (λ is. absurd cc) (λ not. refl) (λ is. absurd cc) (λ not. c.in-Err-NoMemory.ensures.cause.quiet (λ failed. cc)) refl tt c.read.ensures.kept
          (asks_always before.content before.asked after.asked (λ content. name ∷ []) (λ content. c.read.ensures.asks));
    }
