-- The list of a file, or the whole catalogue.
use Rattle.std.proofs.Common.{◌≡◌, Some, option_map, string_bytes, ap}
use Rattle.std.proofs.lemmas.Result.{err_from_is_err_and}
use Rattle.job_loading.proofs.Found.{one_found, listed, whole}
use Rattle.command_parts.proofs.Asking.{asks_none}
use Rattle.job_loading.specs.Asked.{list_asked}
use Rattle.job_loading.proofs.Asking.{list_so}
use Rattle.job_loading.proofs.reading.list_for.Goals as goal

pub returns-in-Some-clause-told : goal.returns-in-Some-clause-told
returns-in-Some-clause-told g c =
    let named : option_map string_bytes c.args.job.now.allow ≡ Some (string_bytes c.in-Some.allow) = ap (option_map string_bytes) c.in-Some.is in
    let told = c.list_named.ensures.told in
    listed (g.F.Files.content c.args.files.now) c.args.name.now c.as_str.result.now c.args.bytes.now told.0 (option_map string_bytes c.args.job.now.allow) c.list_named.result c.requires.shown told.1 told.2
    (cc) told.3

pub returns-in_ok-full-in-None-clause-told : goal.returns-in_ok-full-in-None-clause-told
returns-in_ok-full-in-None-clause-told g c =
    whole (g.F.Files.content c.args.files.now) c.args.name.now c.args.bytes.now (option_map string_bytes c.args.job.now.allow) c.in_ok-full-in-None.field-0 c.requires.shown
    (ap (option_map string_bytes) c.in-None.is) c.in_ok-full-in-None.ensures

pub returns-in_err-full-in-None-clause-told : goal.returns-in_err-full-in-None-clause-told
returns-in_err-full-in-None-clause-told g c =
    let found = one_found (g.F.Files.content c.args.files.now) c.args.name.now (Some c.args.bytes.now) c.requires.shown in
    let exit = err_from_is_err_and c.from_residual.result c.from_residual.ensures.1 in
    (found.0, found.1, found.2, rw (exit.1, exit.2) tt)

pub returns-in-Some-clause-asks : goal.returns-in-Some-clause-asks
returns-in-Some-clause-asks g c =
    list_so (g.F.Files.asked c.args.files.now) (g.F.Files.asked c.list_named.new.files) c.args.name.now (option_map string_bytes c.args.job.now.allow) (Some c.as_str.result.now)
    (let named : option_map string_bytes c.args.job.now.allow ≡ Some (string_bytes c.in-Some.allow) = ap (option_map string_bytes) c.in-Some.is in cc) c.list_named.ensures.asks

pub returns-in_ok-full-in-None-clause-asks : goal.returns-in_ok-full-in-None-clause-asks
returns-in_ok-full-in-None-clause-asks g c = asks_none (g.F.Files.asked c.args.files.now) (list_asked c.args.name.now (option_map string_bytes c.args.job.now.allow))

pub returns-in_err-full-in-None-clause-asks : goal.returns-in_err-full-in-None-clause-asks
returns-in_err-full-in-None-clause-asks g c = asks_none (g.F.Files.asked c.args.files.now) (list_asked c.args.name.now (option_map string_bytes c.args.job.now.allow))
