use Rattle.source_meaning.specs.Programs.{program_of}
use Rattle.codegen.specs.Worklist.{Back, items_of}
use Rattle.codegen.specs.Weights.{weights}
use Rattle.allowlist.specs.Allow.{AllowList}
use Rattle.program_typing.specs.Agreeing.{known}
use Rattle.codegen.specs.Sound.{Sound}
use Rattle.codegen.proofs.writer.walk.Given as goal

abbrev pub invariant-loop-item : goal.invariant-loop-item
invariant-loop-item l = record {
  back : Back (program_of l.fn.program) (items_of l.fn.worklist) l.fn.config (items_of l.worklist) l.config;
  sound : (allow : AllowList) → Sound (known allow (program_of l.fn.program)) (items_of l.fn.worklist) l.fn.config → Sound (known allow (program_of l.fn.program)) (items_of l.worklist) l.config;
}

-- what is left weighs less
abbrev pub decreases-loop-item : goal.decreases-loop-item
decreases-loop-item l = weights l.worklist
