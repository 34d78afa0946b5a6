-- The words of arguments, one after the other.
use Rattle.std.specs.Prelude.{◌≡◌, ℕ, ◌≤◌, List, [], ◌∷◌, ◌++◌, length, drop, reverse}
use Rattle.std.proofs.Common.{refl, sym, ap, ◌∙◌, append-nil}
use Rattle.std.proofs.Math.ListN.{drop_of_length-le}
use Rattle.object_values.specs.declared.value.Value.{Value}
use Rattle.pl_code.specs.declared.kinds.Slot.{Slot}
use Rattle.verified_machine.specs.code_meaning_declared.word.Word.{Word}
use Rattle.script_engine.specs.Running.{words_in}

none_in : (kinds : List Slot) → words_in kinds [] ≡ []
none_in [] = refl
none_in (kind ∷ kinds) = refl

-- no argument is left
pub stopped : (words : List Word) (kinds : List Slot) (args : List Value) (whole : List Word) → args ≡ [] → words ++ words_in kinds (reverse args) ≡ whole → words ≡ whole
stopped words kinds args whole none is =
    sym (append-nil words) ∙ sym (ap (λ ws. words ++ ws) (ap (λ xs. words_in kinds (reverse xs)) none ∙ none_in kinds)) ∙ is

-- no kind is left
pub ended : (words : List Word) (kinds : List Slot) (i : ℕ) (args : List Value) (whole : List Word) → length kinds ≤ i → words ++ words_in (drop i kinds) (reverse args) ≡ whole → words ≡ whole
ended words kinds i args whole past is =
    sym (append-nil words) ∙ sym (ap (λ ks. words ++ words_in ks (reverse args)) (drop_of_length-le kinds past)) ∙ is
