use Rattle.std.proofs.Common.{◌≡◌, Some, subst}
use Rattle.pl_code.specs.Words.{head_of}
use Rattle.pl_code.specs.Lines.{way_of, primitive_of, loops_of, letter_of}
use Rattle.pl_code.proofs.Heads.{head_back}
use Rattle.pl_code.proofs.LineForms.{head_sound}
use Rattle.pl_code.proofs.FieldForms.{way_form, primitive_form, loops_form, letter_back, letter_sound}
use Rattle.pl_code.proofs.laws.word_laws.Goals as goal

pub returns : goal.returns
returns c = record {
  heads = λ word head. (head_sound word head, λ e. subst (λ w. head_of w ≡ Some head) e (head_back head));
  ways = λ word way. (λ e. (way_form.sound word way e).1, λ e. subst (λ w. way_of w ≡ Some way) e (way_form.complete way tt));
  primitives = λ word p. (λ e. (primitive_form.sound word p e).1, λ e. subst (λ w. primitive_of w ≡ Some p) e (primitive_form.complete p tt));
  loops = λ word loops. (λ e. (loops_form.sound word loops e).1, λ e. subst (λ w. loops_of w ≡ Some loops) e (loops_form.complete loops tt));
  slots = λ letter slot. (letter_sound letter slot, λ e. subst (λ b. letter_of b ≡ Some slot) e (letter_back slot));
}
