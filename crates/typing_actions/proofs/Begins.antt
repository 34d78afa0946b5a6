-- How a loop over elements begins, behind the part that it goes over.
use Rattle.std.proofs.Common.{◌≡◌, ℕ, Result, Ok, sym, subst}
use Rattle.pl_types.specs.declared.refusal.Fail.{Fail}
use Rattle.pl_types.specs.declared.ty.Ty.{Ty}
use Rattle.pl_types.specs.declared.ty.Ty.TheVariants as ty
use Rattle.pl_tree.specs.declared.tree.Spelled.{Spelled}
use Rattle.pl_tree.specs.declared.tree.TypeName.{TypeName}
use Rattle.typing_rules.specs.declared.part.Part.{Part}
use Rattle.typing_rules.specs.Outcomes.{KeepsIn, bind}
use Rattle.typing_rules.specs.Rules.Types.{type_of}
use Rattle.typing_actions.specs.declared.config.Config.{Config}
use Rattle.typing_actions.specs.Stacks.{put_part}
use Rattle.typing_actions.specs.Statements as spec

pub each_from : {U : Type 0} (at : ℕ) (name : Spelled) (of : TypeName) (to : Ty) (x : Part) (old new last : Config) (r : Result U Fail)
    → old ≡ put_part new new.parts x → type_of of ≡ Ok to → KeepsIn (spec.each_begun at name to x new) r last → KeepsIn (spec.each at name of old) r last
each_from at name of to x old new last r was is keeps =
    subst (λ c. KeepsIn (spec.each at name of c) r last) (sym was)
    (subst (λ o. KeepsIn (bind o (λ t. spec.each_begun at name t x new)) r last) (sym is) keeps)

pub each_def_from : {U : Type 0} (at : ℕ) (name : Spelled) (x : Part) (old new last : Config) (r : Result U Fail)
    → old ≡ put_part new new.parts x → KeepsIn (spec.each_begun at name ty.Def x new) r last → KeepsIn (spec.each_def at name old) r last
each_def_from at name x old new last r was keeps = subst (λ c. KeepsIn (spec.each_def at name c) r last) (sym was) keeps
