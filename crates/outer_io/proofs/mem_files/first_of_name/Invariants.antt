use Rattle.std.proofs.Common.{◌≡◌, drop}
use Rattle.outer_io.specs.Documents.{documents}
use Rattle.outer_io.specs.Memory.{content_of}
use Rattle.outer_io.proofs.mem_files.first_of_name.Given as goal

-- the files before this one have other names
abbrev pub invariant-loop-known : goal.invariant-loop-known
invariant-loop-known l =
    content_of (documents l.files) l.name ≡ content_of (documents (drop l.known-index l.files)) l.name
