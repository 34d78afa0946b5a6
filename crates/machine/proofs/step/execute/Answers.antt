use Rattle.std.proofs.Common.{◌≡◌, ℕ, List, Some, sym, subst, arith}
use Rattle.machine_parts.specs.Links.{link_at, methods_in, methods_of}
use Rattle.machine.specs.Seen.{Comes, codes_in, world_of, limits_in, text_of}
use Rattle.machine.proofs.Calling.{as_well}
use Rattle.machine.proofs.Linked.{typed_acts, typed_spares, sized_acts, called_acts, called_by_list, cast_acts, cast_spares, method_acts, method_spares, constructor_acts, constructor_spares, field_acts, field_spares}
use Rattle.machine_parts.proofs.Linked.{methods_names, text_names}
use Rattle.machine.proofs.step.execute.Goals as goal

pub quoted-requires-clause-linked : goal.quoted-requires-clause-linked
quoted-requires-clause-linked c =
    text_names c.args.executable.now c.args.instruction.now c.args.run.now.frames.top c.requires.instruction c.in-Quoted.kind _ c.in-Quoted.is

pub returns-in-Typed-clause-exact : goal.returns-in-Typed-clause-exact
returns-in-Typed-clause-exact c =
    as_well _ _ _ _ (typed_acts c.args.executable.now c.args.limits.now c.args.instruction.now c.args.run.now.frames.top c.requires.instruction c.args.run.now.frames.below (world_of c.args.run.now.world) c.in-Typed.kind _ c.in-Typed.is) c.typed.ensures.exact

pub returns-in-Typed-clause-memory : goal.returns-in-Typed-clause-memory
returns-in-Typed-clause-memory c = λ spares space next.
    c.typed.ensures.memory (typed_spares c.args.executable.now c.args.limits.now c.args.instruction.now c.args.run.now.frames.top c.requires.instruction c.args.run.now.world.heap c.in-Typed.kind _ c.in-Typed.is spares) (omega (arith, space.words)) next

pub returns-in-Sized-clause-exact : goal.returns-in-Sized-clause-exact
returns-in-Sized-clause-exact c =
    as_well _ _ _ _ (sized_acts c.args.executable.now c.args.limits.now c.args.instruction.now c.args.run.now.frames.top c.requires.instruction c.args.run.now.frames.below (world_of c.args.run.now.world) c.in-Sized.kind _ c.in-Sized.count c.in-Sized.is) c.sized_by_name.ensures.exact

pub call_method-requires-clause-linked : goal.call_method-requires-clause-linked
call_method-requires-clause-linked c =
    subst (λ (name : List ℕ). methods_in (link_at c.args.executable.now c.args.run.now.frames.top) ≡ Some (methods_of (text_of c.args.executable.now c.args.run.now.frames.top.text).allow name c.in-DefCall.count)) (sym c.as_str.ensures.text)
    (methods_names c.args.executable.now c.args.instruction.now c.args.run.now.frames.top c.requires.instruction _ c.in-DefCall.count c.in-DefCall.is)

pub returns-in-DefCall-clause-exact : goal.returns-in-DefCall-clause-exact
returns-in-DefCall-clause-exact c =
    as_well _ _ _ _ (called_acts c.args.executable.now c.args.limits.now c.args.instruction.now c.args.run.now.frames.top c.requires.instruction c.args.run.now.frames.below (world_of c.args.run.now.world) _ c.in-DefCall.count c.in-DefCall.is)
    (subst (λ (name : List ℕ). Comes (called_by_list (codes_in c.args.executable.now) (limits_in c.args.executable.now c.args.limits.now) (text_of c.args.executable.now c.args.run.now.frames.top.text).allow name c.in-DefCall.count c.args.run.now.frames.top c.args.run.now.frames.below (world_of c.args.run.now.world)) c.call_method.result c.call_method.new.run) c.as_str.ensures.text
    c.call_method.ensures.exact)

pub returns-in-Cast-clause-exact : goal.returns-in-Cast-clause-exact
returns-in-Cast-clause-exact c =
    as_well _ _ _ _ (cast_acts c.args.executable.now c.args.limits.now c.args.instruction.now c.args.run.now.frames.top c.requires.instruction c.args.run.now.frames.below (world_of c.args.run.now.world) _ c.in-Cast.way c.in-Cast.is) c.cast.ensures.exact

pub returns-in-Cast-clause-memory : goal.returns-in-Cast-clause-memory
returns-in-Cast-clause-memory c = λ spares space next.
    c.cast.ensures.memory (cast_spares c.args.executable.now c.args.limits.now c.args.instruction.now c.args.run.now.frames.top c.requires.instruction c.args.run.now.world.heap _ c.in-Cast.way c.in-Cast.is spares) (omega (arith, space.words)) next

pub returns-in-Invoke-clause-exact : goal.returns-in-Invoke-clause-exact
returns-in-Invoke-clause-exact c =
    as_well _ _ _ _ (method_acts c.args.executable.now c.args.limits.now c.args.instruction.now c.args.run.now.frames.top c.requires.instruction c.args.run.now.frames.below (world_of c.args.run.now.world) _ c.in-Invoke.is) c.named.ensures.exact

pub returns-in-Invoke-clause-memory : goal.returns-in-Invoke-clause-memory
returns-in-Invoke-clause-memory c = λ spares space next.
    c.named.ensures.memory (method_spares c.args.executable.now c.args.limits.now c.args.instruction.now c.args.run.now.frames.top c.requires.instruction c.args.run.now.world.heap _ c.in-Invoke.is spares) space next

pub returns-in-New-clause-exact : goal.returns-in-New-clause-exact
returns-in-New-clause-exact c =
    as_well _ _ _ _ (constructor_acts c.args.executable.now c.args.limits.now c.args.instruction.now c.args.run.now.frames.top c.requires.instruction c.args.run.now.frames.below (world_of c.args.run.now.world) _ c.in-New.is) c.named-in-New.ensures.exact

pub returns-in-New-clause-memory : goal.returns-in-New-clause-memory
returns-in-New-clause-memory c = λ spares space next.
    c.named-in-New.ensures.memory (constructor_spares c.args.executable.now c.args.limits.now c.args.instruction.now c.args.run.now.frames.top c.requires.instruction c.args.run.now.world.heap _ c.in-New.is spares) space next

pub returns-in-Field-clause-exact : goal.returns-in-Field-clause-exact
returns-in-Field-clause-exact c =
    as_well _ _ _ _ (field_acts c.args.executable.now c.args.limits.now c.args.instruction.now c.args.run.now.frames.top c.requires.instruction c.args.run.now.frames.below (world_of c.args.run.now.world) _ c.in-Field.is) c.named-in-Field.ensures.exact

pub returns-in-Field-clause-memory : goal.returns-in-Field-clause-memory
returns-in-Field-clause-memory c = λ spares space next.
    c.named-in-Field.ensures.memory (field_spares c.args.executable.now c.args.limits.now c.args.instruction.now c.args.run.now.frames.top c.requires.instruction c.args.run.now.world.heap _ c.in-Field.is spares) space next
