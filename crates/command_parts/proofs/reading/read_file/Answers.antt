use Rattle.std.proofs.Common.{Some}
use Rattle.command_parts.proofs.Found.{short_told, under_name, long_found}
use Rattle.command_parts.proofs.reading.read_file.Goals as goal

pub returns-in-Ok-Bytes-clause-found : goal.returns-in-Ok-Bytes-clause-found
returns-in-Ok-Bytes-clause-found g c =
    (Some c.in-Ok-Bytes.bytes.items, rw c.in-Ok-Bytes.field-0-is at c.in-Ok-Bytes.ensures.shown, short_told c.in-Ok-Bytes.bytes.items (rw c.in-Ok-Bytes.field-0-is at c.in-Ok-Bytes.ensures.within))

pub returns-in-Ok-Long-clause-found : goal.returns-in-Ok-Long-clause-found
returns-in-Ok-Long-clause-found g c =
    long_found (g.F.Files.content c.args.files.now) c.args.name.now (rw c.in-Ok-Long.field-0-is at c.in-Ok-Long.ensures.shown)

pub returns-in-Err-Failed-clause-found : goal.returns-in-Err-Failed-clause-found
returns-in-Err-Failed-clause-found g c = let u = under_name (g.F.Files.content c.args.files.now) c.args.name.now in (u.0, u.1, tt)

pub returns-in-Err-NoMemory-clause-found : goal.returns-in-Err-NoMemory-clause-found
returns-in-Err-NoMemory-clause-found g c = let u = under_name (g.F.Files.content c.args.files.now) c.args.name.now in (u.0, u.1, tt)
