use Rattle.std.proofs.Common.{[], sym, subst, arith}
use Rattle.allowlist.specs.declared.member.MemberType.{MemberType}
use Rattle.code_meaning.specs.Machine.{on_received, on_words, take_words}
use Rattle.code_meaning.specs.Members.{count_of, received}
use Rattle.machine.specs.Sparing.{CallSpares}
use Rattle.machine.specs.Seen.{Comes, world_of, codes_in, limits_in}
use Rattle.machine.proofs.Spaces.{listed_within, takes_within}
use Rattle.machine.proofs.members.call_numbered.Goals as goal

pub call_member-requires : goal.call_member-requires
call_member-requires c = listed_within c.args.executable.now c.args.run.now.frames.top.text c.args.number _ c.requires.listed c.requires.reached

pub returns-clause-exact : goal.returns-clause-exact
returns-clause-exact c =
    subst (λ (m : MemberType). Comes (on_words (take_words (count_of m) c.args.run.now.frames.top.stack []) (λ words stack. on_received (codes_in c.args.executable.now) (limits_in c.args.executable.now c.args.limits.now) (received m words) c.args.number m c.args.run.now.frames.top c.args.run.now.frames.below (world_of c.args.run.now.world) stack)) c.call_member.result c.call_member.new.run)
    c.member-called.ensures c.call_member.ensures.exact

pub returns-clause-memory : goal.returns-clause-memory
returns-clause-memory c = λ spares space next.
    let text = c.args.run.now.frames.top.text in
    let called = c.member-called.result.now in
    c.call_member.ensures.memory
    (subst (λ (m : MemberType). CallSpares (take_words (count_of m) c.args.run.now.frames.top.stack []) m c.args.number c.args.run.now.world.heap.objects) (sym c.member-called.ensures) spares)
    (takes_within c.args.executable.now text c.args.number _ called space.taken c.requires.listed c.member-called.ensures)
    (takes_within c.args.executable.now text c.args.number _ called space.values c.requires.listed c.member-called.ensures)
    (omega (arith, space.words)) next
