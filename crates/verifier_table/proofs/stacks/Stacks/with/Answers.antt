use Rattle.std.proofs.Common.{◌≡◌, ◌+◌, length, refl, arith}
use Rattle.verifier_table.specs.Nodes.{stack_at}
use Rattle.verifier_table.proofs.Linked.{shown_length, shown_linked, shown_measure, shown_low, measured_with, shown_pushed}
use Rattle.verifier_table.proofs.stacks.Stacks.with.Goals as goal

pub index-requires : goal.index-requires
index-requires c = omega (arith, shown_length c.self.inside.nodes.items c.args.self.now c.self.invariant.0 c.self.view_is, c.self.inside.nodes.ok)

pub returns-then-linked-ne0-clause-ok : goal.returns-then-linked-ne0-clause-ok
returns-then-linked-ne0-clause-ok c =
    shown_linked c.self.inside.nodes.items c.args.self.now c.self.invariant.0 c.self.view_is c.args.at c.args.kind c.index.result.now c.link_of-linked.result
    c.requires c.index.ensures c.link_of-linked.ensures c.if-linked-ne0.true

pub overflow_add-node : goal.overflow_add-node
overflow_add-node c =
    let nodes = c.self.inside.nodes.items in
    let count = shown_length nodes c.args.self.now c.self.invariant.0 c.self.view_is in
    let high = (shown_measure nodes c.args.self.now c.self.invariant.0 c.self.invariant.1 c.self.view_is c.args.at c.index.result.now c.requires c.index.ensures).height in
    omega (arith, count, high, shown_low nodes c.args.self.now c.self.invariant.0 c.self.view_is c.args.at c.requires, c.self.inside.nodes.ok)

pub index_mut-requires : goal.index_mut-requires
index_mut-requires c = omega (arith, shown_length c.self.inside.nodes.items c.args.self.now c.self.invariant.0 c.self.view_is, c.self.inside.nodes.ok, c.in_ok-push.ensures.len)

pub invariant_of-self-2 : goal.invariant_of-self-2
invariant_of-self-2 c =
    let nodes = c.self.inside.nodes.items in
    let stacks = c.args.self.now in
    let n = c.index.result.now in
    let old = shown_measure nodes stacks c.self.invariant.0 c.self.invariant.1 c.self.view_is c.args.at n c.requires c.index.ensures in
    let measure = measured_with stacks (stack_at stacks c.args.at) c.args.kind _ (n.height + 1) c.window_with.result c.below-under.result old refl c.window_with.ensures c.below-under.ensures.within c.below-under.ensures.below in
    let new : c.len-new.result ≡ length nodes = omega (arith, c.len-new.ensures, c.self.inside.nodes.ok) in
    let pushed =
    shown_pushed nodes c.push.new.self.items stacks c.self.invariant.0 c.self.invariant.1 c.self.view_is c.args.at c.args.kind (n.height + 1) c.window_with.result c.below-under.result
    n c.index_mut.result.now c.link.new.node c.link_of-linked.result c.len-new.result c.requires c.index.ensures c.link_of-linked.ensures
    c.if-linked-ne0.false measure new c.in_ok-push.ensures.items c.index_mut.ensures.value c.link.ensures in
    (pushed.0, pushed.1)

pub returns-clause-ok : goal.returns-clause-ok
returns-clause-ok c =
    let nodes = c.self.inside.nodes.items in
    let stacks = c.args.self.now in
    let n = c.index.result.now in
    let old = shown_measure nodes stacks c.self.invariant.0 c.self.invariant.1 c.self.view_is c.args.at n c.requires c.index.ensures in
    let measure = measured_with stacks (stack_at stacks c.args.at) c.args.kind _ (n.height + 1) c.window_with.result c.below-under.result old refl c.window_with.ensures c.below-under.ensures.within c.below-under.ensures.below in
    let new : c.len-new.result ≡ length nodes = omega (arith, c.len-new.ensures, c.self.inside.nodes.ok) in
    let pushed =
    shown_pushed nodes c.push.new.self.items stacks c.self.invariant.0 c.self.invariant.1 c.self.view_is c.args.at c.args.kind (n.height + 1) c.window_with.result c.below-under.result
    n c.index_mut.result.now c.link.new.node c.link_of-linked.result c.len-new.result c.requires c.index.ensures c.link_of-linked.ensures
    c.if-linked-ne0.false measure new c.in_ok-push.ensures.items c.index_mut.ensures.value c.link.ensures in
    pushed.2
