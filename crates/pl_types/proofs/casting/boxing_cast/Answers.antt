use Rattle.std.proofs.Common.{Bool, ℕ, sym, ap, ◌∙◌, ◌&&◌}
use Rattle.pl_types.specs.declared.conversion.Cast.TheVariants.{Wrap, CharToText}
use Rattle.pl_types.specs.Casts.{only_if}
use Rattle.pl_types.proofs.Shapes.{boxing_box, boxing_text, boxing_parent}
use Rattle.pl_types.proofs.casting.boxing_cast.Goals as goal

pub returns-in-Some : goal.returns-in-Some
returns-in-Some g c = boxing_box _ c.args.from c.in-Some.to c.args.class c.args.explicit _ (sym c.unboxed.ensures.table ∙ c.in-Some.is) (c.only.ensures ∙ ap (λ (t : Bool). only_if t (Wrap c.args.from c.in-Some.to)) c.reaches_to.ensures)

pub returns-then-class-eq-STRING : goal.returns-then-class-eq-STRING
returns-then-class-eq-STRING g c = boxing_text _ c.args.from c.args.class c.args.explicit _ c.if-class-eq-STRING.true (c.written_only.ensures ∙ ap (λ (t : Bool). only_if (c.args.explicit && t) CharToText) c.same.ensures)

pub returns : goal.returns
returns g c = boxing_parent (g.L.Lineage.is_below c.args.lineage.now) c.args.from c.args.class c.args.explicit _ (sym c.unboxed.ensures.table ∙ c.in_default.is) c.if-class-eq-STRING.false (c.only-2.ensures ∙ ap (λ (t : Bool). only_if t (Wrap c.args.from c.args.from)) (c.is_sub.ensures ∙ ap (λ (b : ℕ). g.L.Lineage.is_below c.args.lineage.now b c.args.class) c.box_class.ensures))
