-- No item is left.
use Rattle.std.proofs.Common.{◌≡◌, [], List, refl}
use Rattle.allowlist.specs.Allow.{AllowList}
use Rattle.typing_rules.specs.declared.header.Header.{Header}
use Rattle.typing_actions.specs.declared.config.Config.{Config}
use Rattle.typing_worklist.specs.Machine.{run, ended}

pub run_none : (allow : AllowList) (hs : List Header) (c : Config) → run allow hs [] c ≡ ended c
unfolding run
run_none allow hs c = refl
