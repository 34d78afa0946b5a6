-- Laws over the definitions.
use Rattle.std.specs.Prelude.{◌≡◌, ℕ, ◌+◌, List, ◌∷◌, length}
use Rattle.object_values.specs.declared.value.Value.{Value}
use Rattle.object_heap.specs.Fits.{Rules, Fits, AllFit, EffectFits}
use Rattle.object_heap.specs.Store.{Store}
use Rattle.api_text.specs.Joining.{joined}
use Rattle.api_text.specs.Members.{does_numbered}
use Rattle.api_text.specs.Outcomes.{effect}
use Rattle.api_text.specs.Pieces.{cut, replaced_times}

-- what members keep: where the heap and the arguments fit a program or a code, the heap fits it afterwards
abbrev pub MembersKeepFit : Type 0
MembersKeepFit = (rules : Rules) (store : Store) (number : ℕ) (arguments : List Value) → Fits rules store.objects → AllFit (length store.objects) arguments
    → EffectFits rules (effect store (does_numbered store.objects number arguments))

-- the pieces of a text, with the token between each two, are the text
abbrev pub PiecesJoin : Type 0
PiecesJoin = (times : ℕ) (token text : List ℕ) → joined token (cut times token text) ≡ text

-- to replace occurrences is to put the other text between the pieces
abbrev pub ReplacedJoins : Type 0
ReplacedJoins = (times : ℕ) (target by text : List ℕ) → replaced_times times target by text ≡ joined by (cut times target text)

-- a text has no more occurrences of a token that is not empty than it has units
abbrev pub CutsEnd : Type 0
CutsEnd = (more unit : ℕ) (token text : List ℕ) → cut (length text + more) (unit ∷ token) text ≡ cut (length text) (unit ∷ token) text
