-- Each command ends as is told of it.
use Rattle.std.proofs.Common.{◌≡◌, [], refl}
use Rattle.command_parts.specs.Ends.{Outside, of_files}
use Rattle.command_parts.proofs.Ends.{ends_unread}
use Rattle.eval_command.specs.Tellings.{eval_telling}
use Rattle.pipe_command.specs.Tellings.{check_telling, list_telling}
use Rattle.painless.specs.declared.words.Command.TheVariants as command
use Rattle.painless.proofs.Ends.{named_so}
use Rattle.painless.proofs.top.called.Goals as goal

pub returns-in-Eval : goal.returns-in-Eval
returns-in-Eval g c =
    let name = c.args.name.now in
    let of = eval_telling name in
    let here = of_files (g.F.Files.content c.args.files.now) (g.F.Files.asked c.args.files.now) (g.F.Files.faults c.args.files.now) (g.K.Sink.held c.args.out.now) (g.K.Sink.faults c.args.out.now) in
    let there = of_files (g.F.Files.content c.eval.new.files) (g.F.Files.asked c.eval.new.files) (g.F.Files.faults c.eval.new.files) (g.K.Sink.held c.eval.new.out) (g.K.Sink.faults c.eval.new.out) in
    let before : Outside = record { content = g.F.Files.content c.args.files.now; asked = g.F.Files.asked c.args.files.now; file_faults = g.F.Files.faults c.args.files.now; left = g.S.Source.left c.args.input.now; read_faults = g.S.Source.faults c.args.input.now; held = g.K.Sink.held c.args.out.now; write_faults = g.K.Sink.faults c.args.out.now } in
    let after : Outside = record { content = g.F.Files.content c.eval.new.files; asked = g.F.Files.asked c.eval.new.files; file_faults = g.F.Files.faults c.eval.new.files; left = g.S.Source.left c.args.input.now; read_faults = g.S.Source.faults c.args.input.now; held = g.K.Sink.held c.eval.new.out; write_faults = g.K.Sink.faults c.eval.new.out } in
    record {
      ends = named_so before after (c.args.input.now ≡ c.args.input.now) c.eval.result name c.args.command command.Eval c.in-Eval.is
          (ends_unread of.are (λ content codes told. of.tells content codes [] told) of.asks here there c.eval.result (g.S.Source.left c.args.input.now) (g.S.Source.faults c.args.input.now)
          (c.args.input.now ≡ c.args.input.now) refl refl refl c.eval.ensures.ends);
    }

pub returns-in-Check : goal.returns-in-Check
returns-in-Check g c =
    let name = c.args.name.now in
    let of = check_telling name in
    let here = of_files (g.F.Files.content c.args.files.now) (g.F.Files.asked c.args.files.now) (g.F.Files.faults c.args.files.now) (g.K.Sink.held c.args.out.now) (g.K.Sink.faults c.args.out.now) in
    let there = of_files (g.F.Files.content c.check.new.files) (g.F.Files.asked c.check.new.files) (g.F.Files.faults c.check.new.files) (g.K.Sink.held c.check.new.out) (g.K.Sink.faults c.check.new.out) in
    let before : Outside = record { content = g.F.Files.content c.args.files.now; asked = g.F.Files.asked c.args.files.now; file_faults = g.F.Files.faults c.args.files.now; left = g.S.Source.left c.args.input.now; read_faults = g.S.Source.faults c.args.input.now; held = g.K.Sink.held c.args.out.now; write_faults = g.K.Sink.faults c.args.out.now } in
    let after : Outside = record { content = g.F.Files.content c.check.new.files; asked = g.F.Files.asked c.check.new.files; file_faults = g.F.Files.faults c.check.new.files; left = g.S.Source.left c.args.input.now; read_faults = g.S.Source.faults c.args.input.now; held = g.K.Sink.held c.check.new.out; write_faults = g.K.Sink.faults c.check.new.out } in
    record {
      ends = named_so before after (c.args.input.now ≡ c.args.input.now) c.check.result name c.args.command command.Check c.in-Check.is
          (ends_unread of.are (λ content codes told. of.tells content codes [] told) of.asks here there c.check.result (g.S.Source.left c.args.input.now) (g.S.Source.faults c.args.input.now)
          (c.args.input.now ≡ c.args.input.now) refl refl refl c.check.ensures.ends);
    }

pub returns-in-List : goal.returns-in-List
returns-in-List g c =
    let name = c.args.name.now in
    let of = list_telling name in
    let here = of_files (g.F.Files.content c.args.files.now) (g.F.Files.asked c.args.files.now) (g.F.Files.faults c.args.files.now) (g.K.Sink.held c.args.out.now) (g.K.Sink.faults c.args.out.now) in
    let there = of_files (g.F.Files.content c.list.new.files) (g.F.Files.asked c.list.new.files) (g.F.Files.faults c.list.new.files) (g.K.Sink.held c.list.new.out) (g.K.Sink.faults c.list.new.out) in
    let before : Outside = record { content = g.F.Files.content c.args.files.now; asked = g.F.Files.asked c.args.files.now; file_faults = g.F.Files.faults c.args.files.now; left = g.S.Source.left c.args.input.now; read_faults = g.S.Source.faults c.args.input.now; held = g.K.Sink.held c.args.out.now; write_faults = g.K.Sink.faults c.args.out.now } in
    let after : Outside = record { content = g.F.Files.content c.list.new.files; asked = g.F.Files.asked c.list.new.files; file_faults = g.F.Files.faults c.list.new.files; left = g.S.Source.left c.args.input.now; read_faults = g.S.Source.faults c.args.input.now; held = g.K.Sink.held c.list.new.out; write_faults = g.K.Sink.faults c.list.new.out } in
    record {
      ends = named_so before after (c.args.input.now ≡ c.args.input.now) c.list.result name c.args.command command.List c.in-List.is
          (ends_unread of.are (λ content codes told. of.tells content codes [] told) of.asks here there c.list.result (g.S.Source.left c.args.input.now) (g.S.Source.faults c.args.input.now)
          (c.args.input.now ≡ c.args.input.now) refl refl refl c.list.ensures.ends);
    }

pub returns-in-Run : goal.returns-in-Run
returns-in-Run g c =
    let before : Outside = record { content = g.F.Files.content c.args.files.now; asked = g.F.Files.asked c.args.files.now; file_faults = g.F.Files.faults c.args.files.now; left = g.S.Source.left c.args.input.now; read_faults = g.S.Source.faults c.args.input.now; held = g.K.Sink.held c.args.out.now; write_faults = g.K.Sink.faults c.args.out.now } in
    let after : Outside = record { content = g.F.Files.content c.run.new.files; asked = g.F.Files.asked c.run.new.files; file_faults = g.F.Files.faults c.run.new.files; left = g.S.Source.left c.run.new.input; read_faults = g.S.Source.faults c.run.new.input; held = g.K.Sink.held c.run.new.out; write_faults = g.K.Sink.faults c.run.new.out } in
    record { ends = named_so before after (c.run.new.input ≡ c.args.input.now) c.run.result c.args.name.now c.args.command command.Run c.in-Run.is c.run.ensures.ends }

pub returns-in-Pipe : goal.returns-in-Pipe
returns-in-Pipe g c =
    let before : Outside = record { content = g.F.Files.content c.args.files.now; asked = g.F.Files.asked c.args.files.now; file_faults = g.F.Files.faults c.args.files.now; left = g.S.Source.left c.args.input.now; read_faults = g.S.Source.faults c.args.input.now; held = g.K.Sink.held c.args.out.now; write_faults = g.K.Sink.faults c.args.out.now } in
    let after : Outside = record { content = g.F.Files.content c.pipe.new.files; asked = g.F.Files.asked c.pipe.new.files; file_faults = g.F.Files.faults c.pipe.new.files; left = g.S.Source.left c.pipe.new.input; read_faults = g.S.Source.faults c.pipe.new.input; held = g.K.Sink.held c.pipe.new.out; write_faults = g.K.Sink.faults c.pipe.new.out } in
    record { ends = named_so before after (c.pipe.new.input ≡ c.args.input.now) c.pipe.result c.args.name.now c.args.command command.Pipe c.in-Pipe.is c.pipe.ensures.ends }
