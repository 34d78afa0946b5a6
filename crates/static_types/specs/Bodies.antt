-- The statements of a body.
use Rattle.std.specs.declared.alloc.Global.{Global}
use Rattle.std.specs.declared.vec.Vec.{Vec}
use Rattle.std.specs.Prelude.{◌≡◌, Bool, false, List, [], ◌∷◌, map, Result, Ok, Err}
use Rattle.pl_types.specs.declared.refusal.Fail.{Fail}
use Rattle.pl_types.specs.declared.refusal.Fail.TheVariants.{Refused, NoMemory}
use Rattle.pl_tree.specs.declared.tree.Statement.{Statement}
use Rattle.allowlist.specs.Allow.{AllowList}
use Rattle.typing_rules.specs.declared.header.Header.{Header}
use Rattle.typing_rules.specs.declared.part.Step.{Step}
use Rattle.typing_rules.specs.declared.state.State.{State}
use Rattle.typing_rules.specs.Doing.{Answer}
use Rattle.typing_rules.specs.Outcomes.{Out, bind}
use Rattle.typing_rules.specs.Typing.{ran, doer, statements}
use Rattle.typing_actions.specs.declared.config.Config.{Config}
use Rattle.typing_driver.specs.Item as j
use Rattle.typing_driver.specs.Item.{Item}
use Rattle.typing_driver.specs.Machine.{ended}

abbrev pub steps_of : AllowList → List Header → Bool → List Statement → State → Out (List Step)
steps_of allow hs in_main all s = bind (ran (statements in_main false (map (doer allow hs) all)) s) (λ whole. Ok whole.0)

-- the code gives these statements, or tells the refusal; want of memory is free
abbrev pub KeepsSteps : Out (List Step) → Result (Vec Step Global) Fail → Type 0
KeepsSteps o (Ok taken) = o ≡ Ok taken.items
KeepsSteps o (Err (Refused r)) = o ≡ Err r
KeepsSteps o (Err NoMemory) = Unit {0}

-- nothing is typed so far
abbrev pub fresh : State → Config
fresh s = record { state = s; parts = []; places = []; tests = []; variables = []; steps = []; catches = [] }

-- what is to be done for a body
abbrev pub items_of : Bool → List Statement → List Item
items_of in_main all = j.Statements all 0 in_main false ∷ []

-- what items come to is where they end
abbrev pub Ends : Answer → Result Config Fail → Type 0
Ends o (Ok c) = o ≡ ended c
Ends o (Err (Refused r)) = o ≡ Err r
Ends o (Err NoMemory) = Unit {0}
