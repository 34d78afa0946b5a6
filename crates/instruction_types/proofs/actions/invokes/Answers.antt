use Rattle.std.proofs.Common.{ap, ◌∙◌}
use Rattle.std.specs.Prelude.{◌++◌, [], ◌∷◌, if◌then◌else◌}
use Rattle.pl_code.specs.declared.kinds.Slot.TheVariants.{R}
use Rattle.instruction_types.specs.Seen.{seen_action}
use Rattle.instruction_types.specs.Members.{argument_kinds, has_receiver}
use Rattle.instruction_types.proofs.Named.{invoked}
use Rattle.instruction_types.proofs.actions.invokes.Goals as goal

pub returns : goal.returns
unfolding seen_action
returns c =
    let m = c.member_type-called.result.now in
    invoked c.args.allow.now c.args.member m _ _ c.member_type-called.ensures
    (c.arguments-takes.ensures ∙ ap (λ params. argument_kinds params ++ (if has_receiver m.kind then R ∷ [] else [])) c.as_slice.ensures) c.kind_of_type-gives.ensures
