use Rattle.std.proofs.Common.{◌≡◌, ◌<◌, ◌+◌, ℕ, refl, sym, subst, ◌∙◌, arith}
use Rattle.machine.proofs.Reaching.{Reached, begins, goes_on, finishes, all_taken, joined, went}
use Rattle.machine.proofs.Spaces.{spares_there, space_there}
use Rattle.machine.proofs.running.run_on.Goals as goal
use Rattle.machine_parts.specs.Rooms.{MembersWithin, Room}
use Rattle.machine.specs.Seen.{codes_in, configuration_of, limits_in}
use Rattle.machine_paths.proofs.Counting.{counts_led, counts_on}

pub instructions-init : goal.instructions-init
instructions-init c = record { leads = begins (codes_in c.args.executable.now) (limits_in c.args.executable.now c.args.limits.now) c.args.run.now; counts = c.requires.counts; room = refl; within = omega arith }

pub step-last-requires-clause-counts : goal.step-last-requires-clause-counts
step-last-requires-clause-counts c =
    counts_led (codes_in c.args.executable.now) (limits_in c.args.executable.now c.args.limits.now) c.run_paths-taken.result (configuration_of c.instructions.run) (configuration_of c.run_paths-taken.new.run) c.run_paths-taken.ensures.exact
    c.instructions.invariant.counts

pub step-last-requires-clause-reached : goal.step-last-requires-clause-reached
step-last-requires-clause-reached c =
    subst (λ (r : Room). MembersWithin c.args.executable.now r.reached) (sym (c.run_paths-taken.ensures.room ∙ c.instructions.invariant.room)) c.requires.reached

pub instructions-preserved : goal.instructions-preserved
instructions-preserved c =
    let codes = codes_in c.args.executable.now in
    let limits = limits_in c.args.executable.now c.args.limits.now in
    let k = c.instructions.taken + c.run_paths-taken.result in
    let here = joined codes limits c.instructions.taken c.run_paths-taken.result c.args.run.now c.instructions.run c.run_paths-taken.new.run c.instructions.invariant.leads c.run_paths-taken.ensures.exact in
    let counts = counts_led codes limits c.run_paths-taken.result (configuration_of c.instructions.run) (configuration_of c.run_paths-taken.new.run) c.run_paths-taken.ensures.exact c.instructions.invariant.counts in
    let on = went _ c.step-last.result c.step-last.new.run (sym c.goes.ensures ∙ c.if-not-goes.false) c.step-last.ensures.exact in
    record {
      leads = goes_on codes limits k c.args.run.now c.run_paths-taken.new.run c.step-last.new.run here on;
      counts = counts_on codes limits (configuration_of c.run_paths-taken.new.run) (configuration_of c.step-last.new.run) counts on;
      room = c.step-last.ensures.room ∙ c.run_paths-taken.ensures.room ∙ c.instructions.invariant.room;
      within = omega arith;
    }

pub returns-then-not-goes-clause-exact : goal.returns-then-not-goes-clause-exact
returns-then-not-goes-clause-exact c =
    let codes = codes_in c.args.executable.now in
    let limits = limits_in c.args.executable.now c.args.limits.now in
    let here = joined codes limits c.instructions.taken c.run_paths-taken.result c.args.run.now c.instructions.run c.run_paths-taken.new.run c.instructions.invariant.leads c.run_paths-taken.ensures.exact in
    finishes codes limits (c.instructions.taken + c.run_paths-taken.result) c.args.count c.args.run.now c.run_paths-taken.new.run c.step-last.new.run c.step-last.result
    (omega arith) here c.step-last.ensures.exact (sym c.goes.ensures ∙ c.if-not-goes.true)

pub returns-then-not-goes-clause-memory : goal.returns-then-not-goes-clause-memory
returns-then-not-goes-clause-memory c = λ run.
    let codes = codes_in c.args.executable.now in
    let limits = limits_in c.args.executable.now c.args.limits.now in
    let k = c.instructions.taken + c.run_paths-taken.result in
    let less : k < c.args.count = omega arith in
    let here = joined codes limits c.instructions.taken c.run_paths-taken.result c.args.run.now c.instructions.run c.run_paths-taken.new.run c.instructions.invariant.leads c.run_paths-taken.ensures.exact in
    c.step-last.ensures.memory
    (spares_there c.args.executable.now limits c.args.count k c.args.run.now c.run_paths-taken.new.run run less here)
    (space_there c.args.executable.now limits c.args.count k c.args.run.now c.run_paths-taken.new.run run less here (c.run_paths-taken.ensures.room ∙ c.instructions.invariant.room) c.are_counted.ensures)

pub returns-then-not-goes-clause-room : goal.returns-then-not-goes-clause-room
returns-then-not-goes-clause-room c = c.step-last.ensures.room ∙ c.run_paths-taken.ensures.room ∙ c.instructions.invariant.room

pub returns-then-taken-count-clause-exact : goal.returns-then-taken-count-clause-exact
returns-then-taken-count-clause-exact c =
    let codes = codes_in c.args.executable.now in
    let limits = limits_in c.args.executable.now c.args.limits.now in
    let same : c.instructions.taken + c.run_paths-taken.result ≡ c.args.count = omega arith in
    let here = joined codes limits c.instructions.taken c.run_paths-taken.result c.args.run.now c.instructions.run c.run_paths-taken.new.run c.instructions.invariant.leads c.run_paths-taken.ensures.exact in
    all_taken codes limits c.args.count c.args.run.now c.run_paths-taken.new.run (subst (λ (n : ℕ). Reached codes limits n c.args.run.now c.run_paths-taken.new.run) same here)

pub returns-then-taken-count-clause-counts : goal.returns-then-taken-count-clause-counts
returns-then-taken-count-clause-counts c = λ goes.
    counts_led (codes_in c.args.executable.now) (limits_in c.args.executable.now c.args.limits.now) c.run_paths-taken.result (configuration_of c.instructions.run) (configuration_of c.run_paths-taken.new.run)
    c.run_paths-taken.ensures.exact c.instructions.invariant.counts

pub returns-clause-exact : goal.returns-clause-exact
returns-clause-exact c =
    let codes = codes_in c.args.executable.now in
    let limits = limits_in c.args.executable.now c.args.limits.now in
    let same : c.instructions.taken ≡ c.args.count = omega arith in
    all_taken codes limits c.args.count c.args.run.now c.instructions.run (subst (λ (n : ℕ). Reached codes limits n c.args.run.now c.instructions.run) same c.instructions.invariant.leads)
