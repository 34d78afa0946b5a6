-- The end of a program, and that of its code.
use Rattle.std.proofs.Common.{◌≡◌, ℕ, ◌≤◌, List, [], ◌∷◌, map, Option, Some, refl, sym, ap, ◌∙◌, arith}
use Rattle.pl_types.specs.declared.ty.Ty.{Ty, out-Ty}
use Rattle.pl_types.specs.declared.ty.Ty.TheOpen.{Ty-F}
use Rattle.object_values.specs.declared.value.Value.{Value}
use Rattle.object_values.specs.declared.object.Owner.TheVariants.{Script}
use Rattle.run_state.specs.World.{End, Result, Uncaught, Limited}
use Rattle.program_typing.specs.Tree.{Variable}
use Rattle.program_typing.specs.Programs.{fun_of}
use Rattle.program_typing.specs.Meaning.{Out, Done, Thrown, Over, More, Flow, Normal, Broke, Continued, Returned, default_of, meaning}
use Rattle.program_typing.specs.Laws.{Stays}
use Rattle.program_typing.proofs.Greater.{stays_above}
use Rattle.compiler_relation.specs.code_meaning_declared.word.Word.{Word}
use Rattle.compiler_relation.specs.Representation.{representation_of, representation_of_layer, low}
use Rattle.compiler_relation.specs.Correct.{EndsAlike, end_of, source_in, words_of, programs_of, program_ends}
use Rattle.program_typing.specs.Types.{has_values_layer, HaveAll}
use Rattle.program_typing.specs.Agreeing.{types_in, HaveValues}
use Rattle.program_typing.specs.Enough.{enough, IsEnough}
use Rattle.program_typing.proofs.Enough.{comes_to_an_end}
use Rattle.compiled_outcome.specs.Outcome.{CodeEndsAsPrograms}

-- ---- the words of arguments

record HasWord (of : Ty) (value : Value) : Type 0 where
  word : Word
  is : low (representation_of of) value ≡ Some word

has_word_layer : (l : Ty-F Ty) (value : Value) → has_values_layer l → (w : Word) × (low (representation_of_layer l) value ≡ Some w)
has_word_layer Ty-F.Void value h = absurd h
has_word_layer Ty-F.Null value h = (_, refl)
has_word_layer Ty-F.Def value h = (_, refl)
has_word_layer (Ty-F.Prim p) value h = (_, refl)
has_word_layer (Ty-F.Class class) value h = (_, refl)
has_word_layer (Ty-F.Array of) value h = (_, refl)

record HaveWords (xs : List Variable) (values : List Value) : Type 0 where
  words : List Word
  are : map Some words ≡ words_of xs values

have_words : (xs : List Variable) (values : List Value) → HaveValues xs → HaveAll (types_in xs) values → HaveWords xs values
have_words [] [] v h = record { words = []; are = refl }
have_words [] (value ∷ values) v h = absurd h
have_words (x ∷ xs) [] v h = absurd h
have_words (x ∷ xs) (value ∷ values) v h =
    let first = has_word_layer (out-Ty x.of) value v.0 in
    let rest = have_words xs values v.1 h.1 in
    record { words = first.0 ∷ rest.words; are = ap (λ o. o ∷ map Some rest.words) (sym first.1) ∙ ap (λ os. low (representation_of x.of) value ∷ os) rest.are }

-- ---- the end

record Comes (of : Ty) (o : Out Flow) : Type 0 where
  end : End (Option Word)
  is : end_of of o ≡ Some end

comes : (of : Ty) (o : Out Flow) → IsEnough of o → Comes of o
comes of (Done Normal s e) x = record { end = Result (low (representation_of of) (default_of of)) s.world; is = refl }
comes of (Done Broke s e) x = absurd x
comes of (Done Continued s e) x = absurd x
comes of (Done (Returned value) s e) x = record { end = Result (low (representation_of of) value) s.world; is = refl }
comes of (Thrown id place s e) x = record { end = Uncaught id place s.world; is = refl }
comes of (Over limit place w) x = record { end = Limited limit place w; is = refl }
comes of More x = absurd x

-- what was come to at a bound is come to at every greater one
stays_end : (of : Ty) (o other : Out Flow) (end : End (Option Word)) → Stays o other → end_of of o ≡ Some end → end_of of other ≡ Some end
stays_end of (Done flow s e) other end x is = ap (end_of of) x ∙ is
stays_end of (Thrown id place s e) other end x is = ap (end_of of) x ∙ is
stays_end of (Over limit place w) other end x is = ap (end_of of) x ∙ is
stays_end of More other end x is = cc

pub programs_end : EndsAlike → CodeEndsAsPrograms
programs_end ends_alike p prelude codes limits formed made also args have w =
    let funs = programs_of p prelude in
    let main = fun_of p.main in
    let bound = enough funs w in
    let words = have_words main.params args (formed.script.each 0 main refl).present have in
    let ran = comes_to_an_end funs limits formed main refl args have w bound (omega arith) in
    let last = comes main.result ((meaning funs limits bound).stmts (record { text = Script; depth = 0 }) (record { world = w; turns = 0 }) ran.0 main.body) ran.2 in
    let ends : (k : ℕ) → bound ≤ k → program_ends p prelude limits k args w ≡ Some last.end = λ k h.
    ap (λ o. source_in funs limits k main o w) ran.1
    ∙ stays_end main.result _ _ last.end ((stays_above funs limits bound k h).stmts main.body (record { text = Script; depth = 0 }) (record { world = w; turns = 0 }) ran.0) last.is in
    record {
      end = last.end;
      ends = record { always = ends };
      words = words.words;
      are = record { are = words.are };
      code_ends = ends_alike funs codes (record { script = made; prelude = also }) limits main refl args words.words (record { are = words.are }) w bound last.end (ends bound (omega arith));
    }
