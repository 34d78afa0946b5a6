use Rattle.std.proofs.Common.{◌≡◌, length, take, drop}
use Rattle.outer_io.proofs.Pieces.{left-moved, end-moved}
use Rattle.outer_io.proofs.mem_source.SureSourceSource.take.Goals as goal

pub returns-clause-bytes : goal.returns-clause-bytes
returns-clause-bytes c =
    let bytes = c.self.inside.bytes.items in
    let taken = c.self.inside.taken in
    let count = c.copy_front-count.result in
    let into = c.copy_front-count.new.into in
    let front : c.split_at.result.1.now ≡ drop taken bytes = cc in
    let left : c.args.self.now.left ≡ drop taken bytes = cc in
    let copied : take count into ≡ take count (drop taken bytes) = cc in (
      left-moved bytes into c.args.self.now.left taken count left copied,
      λ none room. end-moved bytes taken count c.self.inside.most (length into) c.self.invariant.1 room (cc) none,
    )
