-- The body of a lambda: what is known in it, and behind it.
use Rattle.std.specs.Prelude.{ℕ, false, length, Option, Ok}
use Rattle.pl_tree.specs.declared.tree.Parameter.{Parameter}
use Rattle.allowlist.specs.declared.member.MemberType.{MemberType}
use Rattle.typed_tree.specs.declared.program.Named.{Named}
use Rattle.typing_rules.specs.declared.state.State.{State}
use Rattle.typing_rules.specs.Outcomes.{Out, bind}
use Rattle.typing_rules.specs.State.{closed, declared}
use Rattle.typing_rules.specs.Rules.Functions.{named}
use Rattle.typing_functions.specs.declared.entering.Around.{Around}
use Rattle.typing_functions.specs.Wanted.{parameter_type, result_type}

-- what is known around a lambda
abbrev pub around : State → Around
around s = record { height = length s.scopes; base = s.base; result = s.result; looped = s.looped }

-- The names around it are copied, no loop is around its body, and a `return` gives what its method does.
abbrev pub entered : Option MemberType → State → State
entered method s = record s { base = length s.scopes; result = result_type method; looped = false }

-- one parameter, counted from 0, which is in sight from there on
abbrev pub parameter : Option MemberType → ℕ → Parameter → State → Out (Named × State)
parameter method at p s =
    bind (parameter_type method at p.of) (λ of. bind (declared p.name.at p.name.spelling of s) (λ t. Ok (named p.name.spelling of, t)))

-- the names that it declares are gone behind it
abbrev pub left : Around → State → State
left a s = record (closed a.height s) { base = a.base; result = a.result; looped = a.looped }
