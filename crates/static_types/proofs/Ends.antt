-- A body is where its items end.
use Rattle.std.proofs.Common.{◌≡◌, ◌-◌, Bool, false, List, [], ◌∷◌, ◌++◌, length, reverse, map, append-nil, Some, Ok, Err, refl, sym, ap, ◌∙◌, arith}
use Rattle.std.proofs.lemmas.Grind.{common_steps}
use Rattle.pl_tree.specs.declared.tree.Statement.{Statement}
use Rattle.allowlist.specs.Allow.{AllowList}
use Rattle.typing_rules.specs.declared.header.Header.{Header}
use Rattle.typing_rules.specs.declared.state.State.{State}
use Rattle.pl_types.specs.declared.refusal.Refusal.{Refusal}
use Rattle.typing_rules.specs.Doing.{Answer}
use Rattle.typing_rules.specs.Outcomes.{bind}
use Rattle.typing_rules.specs.Typing.{doer, statements}
use Rattle.typing_actions.specs.declared.config.Config.{Config}
use Rattle.plain_stack.specs.Stacks.{gathered}
use Rattle.typing_driver.specs.Machine.{run, ended, stacked}
use Rattle.static_types.specs.Bodies.{steps_of, fresh, items_of}

stacked_is : {A : Type 0} (xs below : List A) → stacked xs below ≡ reverse xs ++ below
stacked_is [] below = refl
stacked_is (x ∷ xs) below = stacked_is xs (x ∷ below) ∙ grind (arith, common_steps)

reverse_stacked : {A : Type 0} (xs : List A) → reverse (stacked xs []) ≡ xs
reverse_stacked xs = ap reverse (stacked_is xs []) ∙ grind (arith, common_steps)

gathered_all : {A : Type 0} (xs others : List A) → gathered (length xs) xs others ≡ Some (reverse xs ++ others, [])
gathered_all [] others = refl
gathered_all (x ∷ xs) others = gathered_all xs (x ∷ others) ∙ ap (λ ys. Some (ys, [])) (sym (stacked_is xs (x ∷ others)) ∙ stacked_is (x ∷ xs) others)

pub taken_all : {A : Type 0} (xs : List A) → gathered (length xs - 0) xs [] ≡ Some (reverse xs, [])
taken_all xs = let e : length xs - 0 ≡ length xs = omega arith in
    ap (λ n. gathered n xs []) e ∙ gathered_all xs [] ∙ ap (λ ys. Some (ys, [])) (append-nil (reverse xs))

body_runs : (allow : AllowList) (hs : List Header) (in_main : Bool) (all : List Statement) (s : State)
    → steps_of allow hs in_main all s ≡ bind (run allow hs (items_of in_main all) (fresh s)) (λ whole. Ok whole.0)
unfolding run
body_runs allow hs in_main all s = sym (λ i. bind (statements in_main false (map (doer allow hs) all) s (λ ys t. Ok (reverse_stacked ys i, t))) (λ whole. Ok whole.0))

pub body_ends : (allow : AllowList) (hs : List Header) (in_main : Bool) (all : List Statement) (s : State) (c : Config)
    → run allow hs (items_of in_main all) (fresh s) ≡ ended c → steps_of allow hs in_main all s ≡ Ok (reverse c.steps)
body_ends allow hs in_main all s c is = body_runs allow hs in_main all s ∙ ap (λ (o : Answer). bind o (λ whole. Ok whole.0)) is

pub body_fails : (allow : AllowList) (hs : List Header) (in_main : Bool) (all : List Statement) (s : State) (r : Refusal)
    → run allow hs (items_of in_main all) (fresh s) ≡ Err r → steps_of allow hs in_main all s ≡ Err r
body_fails allow hs in_main all s r is = body_runs allow hs in_main all s ∙ ap (λ (o : Answer). bind o (λ whole. Ok whole.0)) is
