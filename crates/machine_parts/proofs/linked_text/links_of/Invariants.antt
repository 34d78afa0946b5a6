use Rattle.std.proofs.Common.{◌≡◌, map, take}
use Rattle.machine_parts.specs.Links.{link_of}
use Rattle.machine_parts.proofs.linked_text.links_of.Given as goal

-- what the lines so far name
abbrev pub invariant-loop-line : goal.invariant-loop-line
invariant-loop-line l = l.links ≡ map (link_of l.allow) (take l.line-index l.line-items)
