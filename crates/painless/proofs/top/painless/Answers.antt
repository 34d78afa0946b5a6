-- The words end as their call does.
use Rattle.std.proofs.Common.{◌≡◌, ℕ, List, Some, None, map, refl, string_bytes}
use Rattle.command_parts.specs.Ends.{Outside}
use Rattle.painless.specs.Whole.{call_of, over_file, over_documents}
use Rattle.painless.proofs.Ends.{words_so, gen_beside, usage_ends}
use Rattle.painless.proofs.top.painless.Goals as goal

pub returns-in-Some-File : goal.returns-in-Some-File
returns-in-Some-File g c =
    let words : List (List ℕ) = map string_bytes c.args.words.now in
    let before : Outside = record { content = g.F.Files.content c.args.files.now; asked = g.F.Files.asked c.args.files.now; file_faults = g.F.Files.faults c.args.files.now; left = g.S.Source.left c.args.input.now; read_faults = g.S.Source.faults c.args.input.now; held = g.K.Sink.held c.args.out.now; write_faults = g.K.Sink.faults c.args.out.now } in
    let after : Outside = record { content = g.F.Files.content c.called.new.files; asked = g.F.Files.asked c.called.new.files; file_faults = g.F.Files.faults c.called.new.files; left = g.S.Source.left c.called.new.input; read_faults = g.S.Source.faults c.called.new.input; held = g.K.Sink.held c.called.new.out; write_faults = g.K.Sink.faults c.called.new.out } in
    let is : call_of words ≡ Some (over_file c.in-Some-File.command c.in-Some-File.name.now) = cc c.in-Some-File.ensures in
    record { ends = words_so before after (c.called.new.input ≡ c.args.input.now) c.called.result words (Some (over_file c.in-Some-File.command c.in-Some-File.name.now)) is c.called.ensures.ends }

pub returns-in-Some-Documents : goal.returns-in-Some-Documents
returns-in-Some-Documents g c =
    let words : List (List ℕ) = map string_bytes c.args.words.now in
    let before : Outside = record { content = g.F.Files.content c.args.files.now; asked = g.F.Files.asked c.args.files.now; file_faults = g.F.Files.faults c.args.files.now; left = g.S.Source.left c.args.input.now; read_faults = g.S.Source.faults c.args.input.now; held = g.K.Sink.held c.args.out.now; write_faults = g.K.Sink.faults c.args.out.now } in
    let after : Outside = record { content = g.F.Files.content c.args.files.now; asked = g.F.Files.asked c.args.files.now; file_faults = g.F.Files.faults c.args.files.now; left = g.S.Source.left c.args.input.now; read_faults = g.S.Source.faults c.args.input.now; held = g.K.Sink.held c.gen_.new.out; write_faults = g.K.Sink.faults c.gen_.new.out } in
    let is : call_of words ≡ Some (over_documents c.in-Some-Documents.count) = cc c.in-Some-Documents.ensures in
    record {
      ends = words_so before after (c.args.input.now ≡ c.args.input.now) c.gen_.result words (Some (over_documents c.in-Some-Documents.count)) is
          (gen_beside c.in-Some-Documents.count before.held after.held before.write_faults after.write_faults c.gen_.result before.content before.asked before.file_faults before.left before.read_faults
          (c.args.input.now ≡ c.args.input.now) refl c.gen_.ensures.ends);
    }

pub returns-in-None : goal.returns-in-None
returns-in-None g c =
    let words : List (List ℕ) = map string_bytes c.args.words.now in
    let outside : Outside = record { content = g.F.Files.content c.args.files.now; asked = g.F.Files.asked c.args.files.now; file_faults = g.F.Files.faults c.args.files.now; left = g.S.Source.left c.args.input.now; read_faults = g.S.Source.faults c.args.input.now; held = g.K.Sink.held c.args.out.now; write_faults = g.K.Sink.faults c.args.out.now } in
    let is : call_of words ≡ None = cc c.in-None.ensures in
    record {
      ends = words_so outside outside (c.args.input.now ≡ c.args.input.now) c.quiet.result words None is
          (usage_ends outside (c.args.input.now ≡ c.args.input.now) c.quiet.result c.quiet.ensures.status c.quiet.ensures.quiet refl);
    }
