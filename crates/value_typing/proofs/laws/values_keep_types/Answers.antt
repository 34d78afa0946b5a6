use Rattle.value_typing.proofs.Typing.{types_stay, all_types_stay, classes_widen, null_is_typed}
use Rattle.value_typing.proofs.Casts.{casts_give_types, texts_give_types}
use Rattle.container_calls.proofs.There.{there_refl}
use Rattle.run_fit.proofs.Leaving.{there_trans}
use Rattle.value_typing.proofs.Elements.{elements_are_typed}
use Rattle.value_typing.proofs.Kept.{kept_is_typed, boxed_is_typed}
use Rattle.value_typing.proofs.Operators.{comparisons_give_flags, equality_gives_types}
use Rattle.value_typing.proofs.Containers.{containers_give_types}
use Rattle.value_typing.proofs.laws.values_keep_types.Goals as goal

pub returns-clause-stay : goal.returns-clause-stay
returns-clause-stay c = types_stay

pub returns-clause-all_stay : goal.returns-clause-all_stay
returns-clause-all_stay c = all_types_stay

pub returns-clause-widen : goal.returns-clause-widen
returns-clause-widen c = classes_widen

pub returns-clause-null : goal.returns-clause-null
returns-clause-null c = null_is_typed

pub returns-clause-casts : goal.returns-clause-casts
returns-clause-casts c = casts_give_types

pub returns-clause-texts : goal.returns-clause-texts
returns-clause-texts c = texts_give_types

pub returns-clause-kept : goal.returns-clause-kept
returns-clause-kept c = kept_is_typed

pub returns-clause-boxed : goal.returns-clause-boxed
returns-clause-boxed c = boxed_is_typed

pub returns-clause-comparisons : goal.returns-clause-comparisons
returns-clause-comparisons c = comparisons_give_flags

pub returns-clause-equality : goal.returns-clause-equality
returns-clause-equality c = equality_gives_types

pub returns-clause-begin : goal.returns-clause-begin
returns-clause-begin c = there_refl

pub returns-clause-go_on : goal.returns-clause-go_on
returns-clause-go_on c = there_trans

pub returns-clause-elements : goal.returns-clause-elements
returns-clause-elements c = elements_are_typed

pub returns-clause-containers : goal.returns-clause-containers
returns-clause-containers c = containers_give_types
