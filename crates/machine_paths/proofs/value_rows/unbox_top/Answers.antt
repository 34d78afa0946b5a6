use Rattle.std.proofs.Common.{Some, ◌∷◌, drop, ap, sym, ◌∙◌}
use Rattle.std.specs.Option.{option_copied}
use Rattle.code_meaning.specs.declared.word.Word.TheVariants.{R}
use Rattle.machine_paths.proofs.Boxing.{comes_to, unboxes}
use Rattle.machine_paths.proofs.Quick.{of_upper}
use Rattle.machine_paths.proofs.value_rows.unbox_top.Goals as goal

pub returns-in-Some-clause-exact : goal.returns-in-Some-clause-exact
returns-in-Some-clause-exact c = λ codes limits w written.
    let old = c.args.frames.now in
    of_upper old.top.stack (R c.in-Some-R.value) _ (ap Some (sym c.in-Some-R.field-0-is) ∙ sym (ap option_copied c.in-Some-R.is) ∙ c.upper.ensures)
    ∙ unboxes c.in-Some-R.value c.args.primitive c.in-Some.word (sym c.in-Some.ensures) codes limits old.top old.below w (drop 1 old.top.stack) written
    ∙ comes_to old c.write_upper.new.self (c.in-Some.word ∷ drop 1 old.top.stack) c.args.next w c.write_upper.ensures.top c.write_upper.ensures.below c.requires
