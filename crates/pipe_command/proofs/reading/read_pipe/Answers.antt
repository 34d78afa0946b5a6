-- The job's file is none, or its bytes are read.
use Rattle.std.proofs.Common.{sym}
use Rattle.std.proofs.lemmas.Result.{err_from_is_err_and}
use Rattle.pipe_command.proofs.Finding.{both_asked, bytes_so, file_asked, file_missing}
use Rattle.pipe_command.proofs.reading.read_pipe.Goals as goal

pub returns-in_err-bytes-clause-told : goal.returns-in_err-bytes-clause-told
returns-in_err-bytes-clause-told g c =
    let found = c.in_err-bytes.ensures.found in
    let missing = file_missing (g.F.Files.content c.args.files.now) c.args.name.now found.0 c.in_err-bytes.field-0.0 found.1 found.2 in
    let exit = err_from_is_err_and c.from_residual.result c.from_residual.ensures.1 in
    (missing.0, missing.1, rw (exit.1, exit.2) missing.2)

pub returns-in_err-bytes-clause-asked : goal.returns-in_err-bytes-clause-asked
returns-in_err-bytes-clause-asked g c =
    file_asked (g.F.Files.content c.args.files.now) (g.F.Files.asked c.args.files.now) (g.F.Files.asked c.read_file.new.files) c.args.name.now c.in_err-bytes.ensures.asks

pub returns-clause-told : goal.returns-clause-told
returns-clause-told g c =
    let told = c.pipe_with_list.ensures.told in
    let short = rw (sym c.as_slice.ensures.value) at c.in_ok-bytes.ensures.within in
    (told.0, rw c.in_ok-bytes.ensures.kept at told.1, bytes_so told.0 c.args.name.now c.as_slice.result.now c.pipe_with_list.result told.2 short told.3)

pub returns-clause-asked : goal.returns-clause-asked
returns-clause-asked g c =
    let told = c.pipe_with_list.ensures.told in
    both_asked (g.F.Files.content c.args.files.now) (g.F.Files.asked c.args.files.now) (g.F.Files.asked c.read_file.new.files) (g.F.Files.asked c.pipe_with_list.new.files) c.args.name.now
    c.as_slice.result.now told.0 (rw c.in_ok-bytes.ensures.kept at told.1) told.2 (rw (sym c.as_slice.ensures.value) at c.in_ok-bytes.ensures.within) c.in_ok-bytes.ensures.noted
    c.pipe_with_list.ensures.asks
