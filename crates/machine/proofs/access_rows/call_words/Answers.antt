use Rattle.std.proofs.Common.{List, sym, ap, ◌∙◌}
use Rattle.object_values.specs.declared.value.Value.{Value}
use Rattle.def_access.specs.Access.{method_called}
use Rattle.code_meaning.specs.Machine.{Next, on_access, on_first, on_values}
use Rattle.machine.proofs.Calling.{as_well}
use Rattle.machine.specs.Seen.{with_stack, world_of, codes_in, limits_in, text_of}
use Rattle.machine.proofs.access_rows.call_words.Goals as goal

pub call_values-requires-clause-reached : goal.call_values-requires-clause-reached
call_values-requires-clause-reached c = c.requires.reached.within c.args.run.now.frames.top.text

pub returns-in-Ok-Some-clause-exact : goal.returns-in-Ok-Some-clause-exact
returns-in-Ok-Some-clause-exact c = λ stack.
    let next : List Value → Next = λ values. on_first values (λ receiver arguments. on_access (codes_in c.args.executable.now) (limits_in c.args.executable.now c.args.limits.now) (method_called (text_of c.args.executable.now c.args.run.now.frames.top.text).allow c.args.run.now.world.heap receiver c.args.name.now arguments) (with_stack c.args.run.now.frames.top stack) c.args.run.now.frames.below (world_of c.args.run.now.world) c.args.run.now.frames.top.stack) in
    as_well _ _ _ _
    (ap (λ o. on_values o next) (sym (rw c.in-Ok-Some.field-0-is at c.in-Ok-Some.ensures.exact)) ∙ ap next (sym c.into_vec.ensures))
    (c.call_values.ensures.exact stack)
