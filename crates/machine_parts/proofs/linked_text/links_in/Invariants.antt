use Rattle.std.proofs.Common.{◌≡◌, map, take}
use Rattle.machine_parts.specs.Links.{links_of}
use Rattle.machine_parts.proofs.linked_text.links_in.Given as goal

-- what the functions so far name
abbrev pub invariant-loop-function : goal.invariant-loop-function
invariant-loop-function l = l.links ≡ map (links_of l.allow) (take l.function-index l.functions)
