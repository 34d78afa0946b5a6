use Rattle.std.proofs.Common.{Bool, sym, ap, ◌∙◌, ◌&&◌}
use Rattle.pl_types.specs.declared.conversion.Cast.TheVariants.{Unwrap, TextToChar}
use Rattle.pl_types.specs.Casts.{only_if}
use Rattle.pl_types.proofs.Shapes.{unboxing_box, unboxing_object, unboxing_number, unboxing_text, unboxing_other}
use Rattle.pl_types.proofs.casting.unboxing_cast.Goals as goal

pub returns-in-Some : goal.returns-in-Some
returns-in-Some c below = unboxing_box below c.in-Some.from c.args.to c.args.class c.args.explicit _ (sym c.unboxed.ensures.table ∙ c.in-Some.is) (c.only.ensures ∙ ap (λ (t : Bool). only_if t (Unwrap c.in-Some.from c.args.to)) c.reaches_to.ensures)

pub returns-then-class-eq-OBJECT : goal.returns-then-class-eq-OBJECT
returns-then-class-eq-OBJECT c below = unboxing_object below c.args.to c.args.class c.args.explicit _ c.if-class-eq-OBJECT.true c.only-then-class-eq-OBJECT.ensures

pub returns-then-class-eq-NUMBER : goal.returns-then-class-eq-NUMBER
returns-then-class-eq-NUMBER c below = unboxing_number below c.args.to c.args.class c.args.explicit _ c.if-class-eq-NUMBER.true c.only-then-class-eq-NUMBER.ensures

pub returns-then-class-eq-STRING : goal.returns-then-class-eq-STRING
returns-then-class-eq-STRING c below = unboxing_text below c.args.to c.args.class c.args.explicit _ c.if-class-eq-STRING.true (c.written_only.ensures ∙ ap (λ (t : Bool). only_if (c.args.explicit && t) TextToChar) c.same.ensures)

pub returns : goal.returns
returns c below = unboxing_other below c.args.to c.args.class c.args.explicit (sym c.unboxed.ensures.table ∙ c.in_default.is) c.if-class-eq-OBJECT.false c.if-class-eq-NUMBER.false c.if-class-eq-STRING.false
