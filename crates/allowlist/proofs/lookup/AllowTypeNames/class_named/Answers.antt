use Rattle.std.proofs.Common.{◌≡◌, ◌-◌, ◌+◌, suc, refl, sym, ◌∙◌, arith}
use Rattle.allowlist.specs.Allow.{class_named_of, is_named}
use Rattle.allowlist.proofs.Members.{first_class-no}
use Rattle.allowlist.proofs.lookup.AllowTypeNames.class_named.Goals as goal

pub loop-class-init : goal.loop-class-init
unfolding class_named_of
loop-class-init c = refl

pub loop-class-preserved : goal.loop-class-preserved
loop-class-preserved c =
    let e : 57 - c.loop-class.class ≡ suc (57 - (c.loop-class.class + 1)) = omega arith in
    c.loop-class.invariant ∙ first_class-no (is_named c.args.self.now c.args.name.now) c.loop-class.class (57 - c.loop-class.class) (57 - (c.loop-class.class + 1)) e (sym c.means.ensures ∙ c.if-means.false)
