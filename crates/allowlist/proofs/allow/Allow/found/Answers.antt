use Rattle.std.proofs.Common.{sym, ◌∙◌}
use Rattle.allowlist.specs.Accessors.{seen_name}
use Rattle.allowlist.proofs.Members.{own_of, member_along, member_past, first_gives, others_give, none_gives, fewer}
use Rattle.allowlist.proofs.allow.Allow.found.Goals as goal

pub returns-then-class-ge-CLASS_COUNT : goal.returns-then-class-ge-CLASS_COUNT
returns-then-class-ge-CLASS_COUNT c = sym (member_past c.args.self.now c.args.class (seen_name c.args.name.now) c.args.arity c.if-class-ge-CLASS_COUNT.true)

pub loop-lineage-init : goal.loop-lineage-init
loop-lineage-init c = member_along c.args.self.now c.args.class (seen_name c.args.name.now) c.args.arity c.class_lineage-lineage.result.now c.class_lineage-lineage.ensures

pub returns-in-Some : goal.returns-in-Some
returns-in-Some c = sym (c.loop-lineage.invariant ∙ first_gives (own_of c.args.self.now (seen_name c.args.name.now) c.args.arity) c.loop-lineage.lineage.now c.in-Some.number c.in-len1-up.len_at_least (sym c.own.ensures ∙ c.in-Some.is))

pub loop-lineage-smaller : goal.loop-lineage-smaller
loop-lineage-smaller c = fewer c.loop-lineage.lineage.now c.in-len1-up.len_at_least

pub loop-lineage-preserved : goal.loop-lineage-preserved
loop-lineage-preserved c = c.loop-lineage.invariant ∙ others_give (own_of c.args.self.now (seen_name c.args.name.now) c.args.arity) c.loop-lineage.lineage.now c.in-len1-up.len_at_least (sym c.own.ensures ∙ c.in_default-own.is)

pub returns : goal.returns
returns c = sym (c.loop-lineage.invariant ∙ none_gives (own_of c.args.self.now (seen_name c.args.name.now) c.args.arity) c.loop-lineage.lineage.now c.in_default.len_below)
