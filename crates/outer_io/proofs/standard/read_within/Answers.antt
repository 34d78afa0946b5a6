use Rattle.std.proofs.Common.{◌≡◌, ◌+◌, ◌^◌, ◌<◌, length, vec_len, arith}
use Rattle.std.specs.Io.Take.{take_remaining}
use Rattle.outer_io.proofs.Limits.{shown-read}
use Rattle.outer_io.proofs.standard.read_within.Goals as goal

pub returns-clause-shown : goal.returns-clause-shown
returns-clause-shown g c =
    let cap = c.saturating_add.result in
    let bytes = c.read_to_end.new.buf in
    let small : length bytes.items < 2 ^ 63 = omega (arith, bytes.small, bytes.ok) in
    let count : vec_len bytes ≡ vec_len c.new-bytes.result + c.in_ok-count.count = c.in_ok-count.ensures.ok in
    let below : length bytes.items < cap =
    omega (arith, small, count, c.new-bytes.ensures.len, bytes.ok, c.if-count-limit.false, c.saturating_add.ensures) in
    shown-read (g.R.Read.remaining c.args.reader) (take_remaining g.R.Read.remaining c.take.result) c.new-bytes.result.items bytes.items cap
    (cc (c.take.ensures.limit, c.take.ensures.inner)) c.new-bytes.ensures.items c.in_ok-count.ensures.bytes below
