use Rattle.std.proofs.Common.{ℕ, ap, sym, ◌∙◌}
use Rattle.pl_code.specs.declared.kinds.Plain.TheVariants as plain
use Rattle.code_meaning.specs.Machine.{copied, on_stack, plain_act, to_line}
use Rattle.machine_paths.proofs.Quick.{as_does}
use Rattle.machine_paths.proofs.fast_path.fast_plain.Goals as goal

pub returns-in-Dup-clause-exact : goal.returns-in-Dup-clause-exact
returns-in-Dup-clause-exact c = λ codes limits w.
    let f = c.args.frames.now.top in
    let below = c.args.frames.now.below in
    as_does _ _ _ _ _
    (ap (λ p. plain_act codes limits p f below w) c.in-Dup.is ∙ ap (λ (n : ℕ). on_stack (copied plain.Dup f.stack) (λ stack. to_line f below w n stack)) (sym c.requires))
    (c.duplicate.ensures.exact w)

pub returns-in-Pop-clause-exact : goal.returns-in-Pop-clause-exact
returns-in-Pop-clause-exact c = λ codes limits w.
    let f = c.args.frames.now.top in
    let below = c.args.frames.now.below in
    as_does _ _ _ _ _
    (ap (λ p. plain_act codes limits p f below w) c.in-Pop.is ∙ ap (λ (n : ℕ). on_stack (copied plain.Pop f.stack) (λ stack. to_line f below w n stack)) (sym c.requires))
    (c.take_off.ensures.exact w)
