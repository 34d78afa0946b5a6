use Rattle.std.proofs.Common.{to_z-of_z}
use Rattle.api_text.proofs.OfText.{inserted_is}
use Rattle.api_text.proofs.builders.inserted.Goals as goal

pub returns-in-Str : goal.returns-in-Str
returns-in-Str c =
    let told = rw (to_z-of_z c.ranges.at, c.units.ensures) at c.put_at.ensures in
    rw (c.in-Str.is, inserted_is c.args.heap.now.objects c.args.builder c.args.at c.in-Str.text) told
