-- Bytes without a newline.
use Rattle.std.proofs.Common.{◌≢◌, ℕ, List, ◌++◌, length, subst}
use Rattle.std.proofs.Math.Seq.{take-append_seam}
use Rattle.std.proofs.lemmas.List.Elements.{All-take}
use Rattle.outer_io.specs.Lines.{newline, IsUnbroken}

pub unbroken_front : (front behind : List ℕ) → IsUnbroken (front ++ behind) → IsUnbroken front
unbroken_front front behind all =
    subst IsUnbroken (take-append_seam front behind) (All-take (λ byte. byte ≢ newline) (length front) (front ++ behind) all)
