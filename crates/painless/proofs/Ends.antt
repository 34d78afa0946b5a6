-- How the words end.
use Rattle.std.proofs.Common.{◌≡◌, ℕ, List, [], Option, inl, refl, sym, subst}
use Rattle.command_parts.specs.declared.report.Report.{Report}
use Rattle.command_parts.specs.declared.status.Status.{Status}
use Rattle.command_parts.specs.declared.status.Status.TheVariants as s
use Rattle.command_parts.specs.DeliversOver.{DeliversOver}
use Rattle.command_parts.specs.Ends.{Content, NoInput, Outside, EndsAsTold, of_sink}
use Rattle.command_parts.specs.Reports.{IsQuiet, ReportsBy, Reports}
use Rattle.command_parts.specs.Told.{Told, silent}
use Rattle.command_parts.proofs.Asking.{asks_always, asks_none}
use Rattle.command_parts.proofs.Delivering.{nothing, some_content, some_input}
use Rattle.command_parts.proofs.Ends.{ends_unread, ends_unasked, with_input}
use Rattle.pipe_command.specs.Generated.{AreFixedCodes, TellsGen}
use Rattle.pipe_command.specs.Tellings.{gen_telling}
use Rattle.painless.specs.declared.words.Command.{Command}
use Rattle.painless.specs.Whole.{Call, call_of, telling_named, telling_call, telling_of, usage_telling}

module _ (before after : Outside) (stays : Type 0) (r : Report) where
  -- what a command ends with its name ends with
  pub named_so : (name : List ℕ) (command k : Command) → command ≡ k → EndsAsTold (telling_named k name) before after stays r → EndsAsTold (telling_named command name) before after stays r
  named_so name command k is h = subst (λ (x : Command). EndsAsTold (telling_named x name) before after stays r) (sym is) h

  -- .. and what a call ends with its words end with
  pub words_so : (words : List (List ℕ)) (call : Option Call) → call_of words ≡ call → EndsAsTold (telling_call call) before after stays r → EndsAsTold (telling_of words) before after stays r
  words_so words call is h = subst (λ (k : Option Call). EndsAsTold (telling_call k) before after stays r) (sym is) h

-- the command `gen` beside files and an input
pub gen_beside : (count : ℕ) (old new : Option (List ℕ)) (faults faults' : ℕ) (r : Report) (content : Option Content) (asked : List (List ℕ)) (file_faults : ℕ) (left : Option (List ℕ))
    (read_faults : ℕ) (stays : Type 0) → stays → EndsAsTold (gen_telling count) (of_sink old faults) (of_sink new faults') NoInput r
    → EndsAsTold (gen_telling count)
    (record { content = content; asked = asked; file_faults = file_faults; left = left; read_faults = read_faults; held = old; write_faults = faults })
    (record { content = content; asked = asked; file_faults = file_faults; left = left; read_faults = read_faults; held = new; write_faults = faults' }) stays r
gen_beside count old new faults faults' r content asked file_faults left read_faults stays same h =
    let read =
    ends_unread (λ (c : Content) codes. AreFixedCodes codes) (λ (c : Content) codes told. TellsGen codes count told) (λ (c : Content). []) (of_sink old faults) (of_sink new faults') r left
    read_faults stays refl refl same h in
    ends_unasked AreFixedCodes (λ codes told. TellsGen codes count told) (with_input (of_sink old faults) left read_faults) (with_input (of_sink new faults') left read_faults) stays r content asked
    file_faults refl refl read

-- words that are no command
pub usage_ends : (outside : Outside) (stays : Type 0) (r : Report) → r.status ≡ s.Usage → IsQuiet r → stays → EndsAsTold usage_telling outside outside stays r
usage_ends outside stays r at quiet same =
    let some = some_content outside.content in
    let input = some_input outside.left in
    let Here : List ℕ → Told → Type 0 = λ bytes told. (told ≡ silent s.Usage) × Reports told r in
    record {
      told = (
        some.0,
        some.1,
        tt,
        inl tt,
        subst (λ (t : Status). DeliversOver Here (λ front told. ⊥) (λ front. ⊥) t outside.left outside.left outside.held outside.held) (sym at)
            (input.0, input.1, silent s.Usage, (refl, subst (λ (t : Status). ReportsBy t (silent s.Usage) r) (sym at) quiet), refl, nothing outside.held),
      );
      usage = (λ is. tt, λ misused. at);
      read = λ is. absurd cc;
      write = λ is. absurd cc;
      file = λ is. absurd cc;
      well_read = λ not. refl;
      written = λ not. refl;
      filed = λ not. refl;
      ended = λ reads. absurd reads;
      untouched = λ leaves. same;
      contents = refl;
      asked = asks_always outside.content outside.asked outside.asked (λ content. []) (λ content. asks_none outside.asked []);
      quiet = λ done errors. quiet;
    }
