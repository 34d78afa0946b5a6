use Rattle.std.proofs.Common.{◌-◌, ◌∙◌, ap, sym}
use Rattle.object_heap.specs.Effects.{Gives}
use Rattle.object_values.specs.declared.value.Value.TheVariants as v
use Rattle.pl_types.specs.declared.classes.TheConstants.{STRING}
use Rattle.pl_types.specs.declared.ty.Ty.TheVariants as ty
use Rattle.api_text.proofs.Room.{array_paid, array_room}
use Rattle.api_text.proofs.paying.add_texts.Goals as goal

pub take_charge-requires : goal.take_charge-requires
take_charge-requires c = array_room c.args.heap.now c.add.new.self (ty.Class STRING) c.args.items c.args.made c.requires c.in-Ok.ensures.pays

pub returns-in-Ok : goal.returns-in-Ok
returns-in-Ok c =
    array_paid c.args.heap.now c.add.new.self (ty.Class STRING) c.args.items c.args.made c.requires c.in-Ok.ensures.pays
    ∙ (ap (λ id. Gives (v.Ref id) (record c.add.new.self { room = c.add.new.self.room - c.args.made })) (sym c.in-Ok.ensures.number) ∙ ap (Gives (v.Ref c.in-Ok.id)) (sym c.take_charge.ensures))
