-- No two rows of the table of casts give different casts.
use Rattle.std.proofs.Common.{◌≡◌, ℕ, Bool, true, false, not, ◌&&◌, ◌||◌, eqb, Option, Some, None, refl, sym, ap, ◌∙◌, subst, List, [], ◌∷◌, ◌↔◌}
use Rattle.std.specs.List.{AllByRecursion}
use Rattle.std.proofs.lemmas.Bool.{eqb-true}
use Rattle.pl_types.specs.declared.primitive.Primitive.{Primitive}
use Rattle.pl_types.specs.declared.primitive.Primitive.TheVariants as prim
use Rattle.pl_types.specs.declared.ty.Ty.{Ty, out-Ty}
use Rattle.pl_types.specs.declared.ty.Ty.TheOpen.{Ty-F}
use Rattle.pl_types.specs.declared.conversion.Cast.{Cast}
use Rattle.pl_types.specs.declared.conversion.Cast.TheVariants.{Keep, Wrap, Explicit, CharToText, TextToChar}
use Rattle.pl_types.specs.Types.{same_primitives, same_types}
use Rattle.pl_types.specs.Casts.{Agrees, RowsAgree, NoRowGives, Row, cast_of, cast_from, given_by, cast_rows, cast_between, only_if, first_of_two, wrapped_as, unwrapped_as, is_plain, keeps, narrows, unboxed, box_of}
use Rattle.pl_types.proofs.Shapes.{unboxed_is}

abbrev Fine : (ℕ → ℕ → Bool) → Ty-F Ty → Ty-F Ty → Bool → Type 0
Fine below f t w = AllByRecursion (λ r. Agrees (given_by r below f t w) (cast_between below f t w)) cast_rows

-- what comes first is the cast
first : (t : Bool) (x : Cast) (rest : Option Cast) → Agrees (only_if t x) (first_of_two (only_if t x) rest)
first true x rest = refl
first false x rest = tt

-- the same cast after another test
second : (s t : Bool) (x : Cast) (rest : Option Cast) → Agrees (only_if t x) (first_of_two (only_if s x) (first_of_two (only_if t x) rest))
second true true x rest = refl
second false true x rest = refl
second s false x rest = tt

third : (s u d : Bool) → Agrees (only_if (d && not u && not s) Explicit) (first_of_two (only_if s Keep) (first_of_two (only_if u Keep) (first_of_two (only_if (d && not u && not s) Explicit) None)))
third true true true = tt
third true true false = tt
third true false true = tt
third true false false = tt
third false true true = tt
third false true false = tt
third false false true = refl
third false false false = tt

by_same : (a b x y : Option Cast) → a ≡ b → x ≡ y → Agrees b y → Agrees a x
by_same a b x y e k h = let P : Option Cast → Type 0 = λ z. Agrees z x in subst P (sym e) (let Q : Option Cast → Type 0 = λ z. Agrees b z in subst Q (sym k) h)

nothing : (a x : Option Cast) → a ≡ None → Agrees a x
nothing a x e = by_same a None x x e refl tt

primitives : (below : ℕ → ℕ → Bool) (p q : Primitive) (w : Bool) → Fine below (Ty-F.Prim p) (Ty-F.Prim q) w
unfolding cast_between
primitives below prim.Boolean prim.Boolean true = (refl, (tt, (tt, (tt, (tt, (tt, (tt, (tt, (tt, (tt, (tt, (tt, (tt, (tt, (tt, (tt, (tt, (tt, (tt, tt)))))))))))))))))))
primitives below prim.Boolean prim.Boolean false = (refl, (tt, (tt, (tt, (tt, (tt, (tt, (tt, (tt, (tt, (tt, (tt, (tt, (tt, (tt, (tt, (tt, (tt, (tt, tt)))))))))))))))))))
primitives below prim.Boolean prim.Byte true = (tt, (tt, (tt, (tt, (tt, (tt, (tt, (tt, (tt, (tt, (tt, (tt, (tt, (tt, (tt, (tt, (tt, (tt, (tt, tt)))))))))))))))))))
primitives below prim.Boolean prim.Byte false = (tt, (tt, (tt, (tt, (tt, (tt, (tt, (tt, (tt, (tt, (tt, (tt, (tt, (tt, (tt, (tt, (tt, (tt, (tt, tt)))))))))))))))))))
primitives below prim.Boolean prim.Short true = (tt, (tt, (tt, (tt, (tt, (tt, (tt, (tt, (tt, (tt, (tt, (tt, (tt, (tt, (tt, (tt, (tt, (tt, (tt, tt)))))))))))))))))))
primitives below prim.Boolean prim.Short false = (tt, (tt, (tt, (tt, (tt, (tt, (tt, (tt, (tt, (tt, (tt, (tt, (tt, (tt, (tt, (tt, (tt, (tt, (tt, tt)))))))))))))))))))
primitives below prim.Boolean prim.Char true = (tt, (tt, (tt, (tt, (tt, (tt, (tt, (tt, (tt, (tt, (tt, (tt, (tt, (tt, (tt, (tt, (tt, (tt, (tt, tt)))))))))))))))))))
primitives below prim.Boolean prim.Char false = (tt, (tt, (tt, (tt, (tt, (tt, (tt, (tt, (tt, (tt, (tt, (tt, (tt, (tt, (tt, (tt, (tt, (tt, (tt, tt)))))))))))))))))))
primitives below prim.Boolean prim.Int true = (tt, (tt, (tt, (tt, (tt, (tt, (tt, (tt, (tt, (tt, (tt, (tt, (tt, (tt, (tt, (tt, (tt, (tt, (tt, tt)))))))))))))))))))
primitives below prim.Boolean prim.Int false = (tt, (tt, (tt, (tt, (tt, (tt, (tt, (tt, (tt, (tt, (tt, (tt, (tt, (tt, (tt, (tt, (tt, (tt, (tt, tt)))))))))))))))))))
primitives below prim.Boolean prim.Long true = (tt, (tt, (tt, (tt, (tt, (tt, (tt, (tt, (tt, (tt, (tt, (tt, (tt, (tt, (tt, (tt, (tt, (tt, (tt, tt)))))))))))))))))))
primitives below prim.Boolean prim.Long false = (tt, (tt, (tt, (tt, (tt, (tt, (tt, (tt, (tt, (tt, (tt, (tt, (tt, (tt, (tt, (tt, (tt, (tt, (tt, tt)))))))))))))))))))
primitives below prim.Byte prim.Boolean true = (tt, (tt, (tt, (tt, (tt, (tt, (tt, (tt, (tt, (tt, (tt, (tt, (tt, (tt, (tt, (tt, (tt, (tt, (tt, tt)))))))))))))))))))
primitives below prim.Byte prim.Boolean false = (tt, (tt, (tt, (tt, (tt, (tt, (tt, (tt, (tt, (tt, (tt, (tt, (tt, (tt, (tt, (tt, (tt, (tt, (tt, tt)))))))))))))))))))
primitives below prim.Byte prim.Byte true = (refl, (tt, (tt, (tt, (tt, (tt, (tt, (tt, (tt, (tt, (tt, (tt, (tt, (tt, (tt, (tt, (tt, (tt, (tt, tt)))))))))))))))))))
primitives below prim.Byte prim.Byte false = (refl, (tt, (tt, (tt, (tt, (tt, (tt, (tt, (tt, (tt, (tt, (tt, (tt, (tt, (tt, (tt, (tt, (tt, (tt, tt)))))))))))))))))))
primitives below prim.Byte prim.Short true = (tt, (tt, (refl, (tt, (tt, (tt, (tt, (tt, (tt, (tt, (tt, (tt, (tt, (tt, (tt, (tt, (tt, (tt, (tt, tt)))))))))))))))))))
primitives below prim.Byte prim.Short false = (tt, (tt, (refl, (tt, (tt, (tt, (tt, (tt, (tt, (tt, (tt, (tt, (tt, (tt, (tt, (tt, (tt, (tt, (tt, tt)))))))))))))))))))
primitives below prim.Byte prim.Char true = (tt, (tt, (tt, (refl, (tt, (tt, (tt, (tt, (tt, (tt, (tt, (tt, (tt, (tt, (tt, (tt, (tt, (tt, (tt, tt)))))))))))))))))))
primitives below prim.Byte prim.Char false = (tt, (tt, (tt, (tt, (tt, (tt, (tt, (tt, (tt, (tt, (tt, (tt, (tt, (tt, (tt, (tt, (tt, (tt, (tt, tt)))))))))))))))))))
primitives below prim.Byte prim.Int true = (tt, (tt, (refl, (tt, (tt, (tt, (tt, (tt, (tt, (tt, (tt, (tt, (tt, (tt, (tt, (tt, (tt, (tt, (tt, tt)))))))))))))))))))
primitives below prim.Byte prim.Int false = (tt, (tt, (refl, (tt, (tt, (tt, (tt, (tt, (tt, (tt, (tt, (tt, (tt, (tt, (tt, (tt, (tt, (tt, (tt, tt)))))))))))))))))))
primitives below prim.Byte prim.Long true = (tt, (tt, (refl, (tt, (tt, (tt, (tt, (tt, (tt, (tt, (tt, (tt, (tt, (tt, (tt, (tt, (tt, (tt, (tt, tt)))))))))))))))))))
primitives below prim.Byte prim.Long false = (tt, (tt, (refl, (tt, (tt, (tt, (tt, (tt, (tt, (tt, (tt, (tt, (tt, (tt, (tt, (tt, (tt, (tt, (tt, tt)))))))))))))))))))
primitives below prim.Short prim.Boolean true = (tt, (tt, (tt, (tt, (tt, (tt, (tt, (tt, (tt, (tt, (tt, (tt, (tt, (tt, (tt, (tt, (tt, (tt, (tt, tt)))))))))))))))))))
primitives below prim.Short prim.Boolean false = (tt, (tt, (tt, (tt, (tt, (tt, (tt, (tt, (tt, (tt, (tt, (tt, (tt, (tt, (tt, (tt, (tt, (tt, (tt, tt)))))))))))))))))))
primitives below prim.Short prim.Byte true = (tt, (tt, (tt, (refl, (tt, (tt, (tt, (tt, (tt, (tt, (tt, (tt, (tt, (tt, (tt, (tt, (tt, (tt, (tt, tt)))))))))))))))))))
primitives below prim.Short prim.Byte false = (tt, (tt, (tt, (tt, (tt, (tt, (tt, (tt, (tt, (tt, (tt, (tt, (tt, (tt, (tt, (tt, (tt, (tt, (tt, tt)))))))))))))))))))
primitives below prim.Short prim.Short true = (refl, (tt, (tt, (tt, (tt, (tt, (tt, (tt, (tt, (tt, (tt, (tt, (tt, (tt, (tt, (tt, (tt, (tt, (tt, tt)))))))))))))))))))
primitives below prim.Short prim.Short false = (refl, (tt, (tt, (tt, (tt, (tt, (tt, (tt, (tt, (tt, (tt, (tt, (tt, (tt, (tt, (tt, (tt, (tt, (tt, tt)))))))))))))))))))
primitives below prim.Short prim.Char true = (tt, (tt, (tt, (refl, (tt, (tt, (tt, (tt, (tt, (tt, (tt, (tt, (tt, (tt, (tt, (tt, (tt, (tt, (tt, tt)))))))))))))))))))
primitives below prim.Short prim.Char false = (tt, (tt, (tt, (tt, (tt, (tt, (tt, (tt, (tt, (tt, (tt, (tt, (tt, (tt, (tt, (tt, (tt, (tt, (tt, tt)))))))))))))))))))
primitives below prim.Short prim.Int true = (tt, (tt, (refl, (tt, (tt, (tt, (tt, (tt, (tt, (tt, (tt, (tt, (tt, (tt, (tt, (tt, (tt, (tt, (tt, tt)))))))))))))))))))
primitives below prim.Short prim.Int false = (tt, (tt, (refl, (tt, (tt, (tt, (tt, (tt, (tt, (tt, (tt, (tt, (tt, (tt, (tt, (tt, (tt, (tt, (tt, tt)))))))))))))))))))
primitives below prim.Short prim.Long true = (tt, (tt, (refl, (tt, (tt, (tt, (tt, (tt, (tt, (tt, (tt, (tt, (tt, (tt, (tt, (tt, (tt, (tt, (tt, tt)))))))))))))))))))
primitives below prim.Short prim.Long false = (tt, (tt, (refl, (tt, (tt, (tt, (tt, (tt, (tt, (tt, (tt, (tt, (tt, (tt, (tt, (tt, (tt, (tt, (tt, tt)))))))))))))))))))
primitives below prim.Char prim.Boolean true = (tt, (tt, (tt, (tt, (tt, (tt, (tt, (tt, (tt, (tt, (tt, (tt, (tt, (tt, (tt, (tt, (tt, (tt, (tt, tt)))))))))))))))))))
primitives below prim.Char prim.Boolean false = (tt, (tt, (tt, (tt, (tt, (tt, (tt, (tt, (tt, (tt, (tt, (tt, (tt, (tt, (tt, (tt, (tt, (tt, (tt, tt)))))))))))))))))))
primitives below prim.Char prim.Byte true = (tt, (tt, (tt, (refl, (tt, (tt, (tt, (tt, (tt, (tt, (tt, (tt, (tt, (tt, (tt, (tt, (tt, (tt, (tt, tt)))))))))))))))))))
primitives below prim.Char prim.Byte false = (tt, (tt, (tt, (tt, (tt, (tt, (tt, (tt, (tt, (tt, (tt, (tt, (tt, (tt, (tt, (tt, (tt, (tt, (tt, tt)))))))))))))))))))
primitives below prim.Char prim.Short true = (tt, (tt, (tt, (refl, (tt, (tt, (tt, (tt, (tt, (tt, (tt, (tt, (tt, (tt, (tt, (tt, (tt, (tt, (tt, tt)))))))))))))))))))
primitives below prim.Char prim.Short false = (tt, (tt, (tt, (tt, (tt, (tt, (tt, (tt, (tt, (tt, (tt, (tt, (tt, (tt, (tt, (tt, (tt, (tt, (tt, tt)))))))))))))))))))
primitives below prim.Char prim.Char true = (refl, (tt, (tt, (tt, (tt, (tt, (tt, (tt, (tt, (tt, (tt, (tt, (tt, (tt, (tt, (tt, (tt, (tt, (tt, tt)))))))))))))))))))
primitives below prim.Char prim.Char false = (refl, (tt, (tt, (tt, (tt, (tt, (tt, (tt, (tt, (tt, (tt, (tt, (tt, (tt, (tt, (tt, (tt, (tt, (tt, tt)))))))))))))))))))
primitives below prim.Char prim.Int true = (tt, (tt, (refl, (tt, (tt, (tt, (tt, (tt, (tt, (tt, (tt, (tt, (tt, (tt, (tt, (tt, (tt, (tt, (tt, tt)))))))))))))))))))
primitives below prim.Char prim.Int false = (tt, (tt, (refl, (tt, (tt, (tt, (tt, (tt, (tt, (tt, (tt, (tt, (tt, (tt, (tt, (tt, (tt, (tt, (tt, tt)))))))))))))))))))
primitives below prim.Char prim.Long true = (tt, (tt, (refl, (tt, (tt, (tt, (tt, (tt, (tt, (tt, (tt, (tt, (tt, (tt, (tt, (tt, (tt, (tt, (tt, tt)))))))))))))))))))
primitives below prim.Char prim.Long false = (tt, (tt, (refl, (tt, (tt, (tt, (tt, (tt, (tt, (tt, (tt, (tt, (tt, (tt, (tt, (tt, (tt, (tt, (tt, tt)))))))))))))))))))
primitives below prim.Int prim.Boolean true = (tt, (tt, (tt, (tt, (tt, (tt, (tt, (tt, (tt, (tt, (tt, (tt, (tt, (tt, (tt, (tt, (tt, (tt, (tt, tt)))))))))))))))))))
primitives below prim.Int prim.Boolean false = (tt, (tt, (tt, (tt, (tt, (tt, (tt, (tt, (tt, (tt, (tt, (tt, (tt, (tt, (tt, (tt, (tt, (tt, (tt, tt)))))))))))))))))))
primitives below prim.Int prim.Byte true = (tt, (tt, (tt, (refl, (tt, (tt, (tt, (tt, (tt, (tt, (tt, (tt, (tt, (tt, (tt, (tt, (tt, (tt, (tt, tt)))))))))))))))))))
primitives below prim.Int prim.Byte false = (tt, (tt, (tt, (tt, (tt, (tt, (tt, (tt, (tt, (tt, (tt, (tt, (tt, (tt, (tt, (tt, (tt, (tt, (tt, tt)))))))))))))))))))
primitives below prim.Int prim.Short true = (tt, (tt, (tt, (refl, (tt, (tt, (tt, (tt, (tt, (tt, (tt, (tt, (tt, (tt, (tt, (tt, (tt, (tt, (tt, tt)))))))))))))))))))
primitives below prim.Int prim.Short false = (tt, (tt, (tt, (tt, (tt, (tt, (tt, (tt, (tt, (tt, (tt, (tt, (tt, (tt, (tt, (tt, (tt, (tt, (tt, tt)))))))))))))))))))
primitives below prim.Int prim.Char true = (tt, (tt, (tt, (refl, (tt, (tt, (tt, (tt, (tt, (tt, (tt, (tt, (tt, (tt, (tt, (tt, (tt, (tt, (tt, tt)))))))))))))))))))
primitives below prim.Int prim.Char false = (tt, (tt, (tt, (tt, (tt, (tt, (tt, (tt, (tt, (tt, (tt, (tt, (tt, (tt, (tt, (tt, (tt, (tt, (tt, tt)))))))))))))))))))
primitives below prim.Int prim.Int true = (refl, (tt, (tt, (tt, (tt, (tt, (tt, (tt, (tt, (tt, (tt, (tt, (tt, (tt, (tt, (tt, (tt, (tt, (tt, tt)))))))))))))))))))
primitives below prim.Int prim.Int false = (refl, (tt, (tt, (tt, (tt, (tt, (tt, (tt, (tt, (tt, (tt, (tt, (tt, (tt, (tt, (tt, (tt, (tt, (tt, tt)))))))))))))))))))
primitives below prim.Int prim.Long true = (tt, (tt, (refl, (tt, (tt, (tt, (tt, (tt, (tt, (tt, (tt, (tt, (tt, (tt, (tt, (tt, (tt, (tt, (tt, tt)))))))))))))))))))
primitives below prim.Int prim.Long false = (tt, (tt, (refl, (tt, (tt, (tt, (tt, (tt, (tt, (tt, (tt, (tt, (tt, (tt, (tt, (tt, (tt, (tt, (tt, tt)))))))))))))))))))
primitives below prim.Long prim.Boolean true = (tt, (tt, (tt, (tt, (tt, (tt, (tt, (tt, (tt, (tt, (tt, (tt, (tt, (tt, (tt, (tt, (tt, (tt, (tt, tt)))))))))))))))))))
primitives below prim.Long prim.Boolean false = (tt, (tt, (tt, (tt, (tt, (tt, (tt, (tt, (tt, (tt, (tt, (tt, (tt, (tt, (tt, (tt, (tt, (tt, (tt, tt)))))))))))))))))))
primitives below prim.Long prim.Byte true = (tt, (tt, (tt, (refl, (tt, (tt, (tt, (tt, (tt, (tt, (tt, (tt, (tt, (tt, (tt, (tt, (tt, (tt, (tt, tt)))))))))))))))))))
primitives below prim.Long prim.Byte false = (tt, (tt, (tt, (tt, (tt, (tt, (tt, (tt, (tt, (tt, (tt, (tt, (tt, (tt, (tt, (tt, (tt, (tt, (tt, tt)))))))))))))))))))
primitives below prim.Long prim.Short true = (tt, (tt, (tt, (refl, (tt, (tt, (tt, (tt, (tt, (tt, (tt, (tt, (tt, (tt, (tt, (tt, (tt, (tt, (tt, tt)))))))))))))))))))
primitives below prim.Long prim.Short false = (tt, (tt, (tt, (tt, (tt, (tt, (tt, (tt, (tt, (tt, (tt, (tt, (tt, (tt, (tt, (tt, (tt, (tt, (tt, tt)))))))))))))))))))
primitives below prim.Long prim.Char true = (tt, (tt, (tt, (refl, (tt, (tt, (tt, (tt, (tt, (tt, (tt, (tt, (tt, (tt, (tt, (tt, (tt, (tt, (tt, tt)))))))))))))))))))
primitives below prim.Long prim.Char false = (tt, (tt, (tt, (tt, (tt, (tt, (tt, (tt, (tt, (tt, (tt, (tt, (tt, (tt, (tt, (tt, (tt, (tt, (tt, tt)))))))))))))))))))
primitives below prim.Long prim.Int true = (tt, (tt, (tt, (refl, (tt, (tt, (tt, (tt, (tt, (tt, (tt, (tt, (tt, (tt, (tt, (tt, (tt, (tt, (tt, tt)))))))))))))))))))
primitives below prim.Long prim.Int false = (tt, (tt, (tt, (tt, (tt, (tt, (tt, (tt, (tt, (tt, (tt, (tt, (tt, (tt, (tt, (tt, (tt, (tt, (tt, tt)))))))))))))))))))
primitives below prim.Long prim.Long true = (refl, (tt, (tt, (tt, (tt, (tt, (tt, (tt, (tt, (tt, (tt, (tt, (tt, (tt, (tt, (tt, (tt, (tt, (tt, tt)))))))))))))))))))
primitives below prim.Long prim.Long false = (refl, (tt, (tt, (tt, (tt, (tt, (tt, (tt, (tt, (tt, (tt, (tt, (tt, (tt, (tt, (tt, (tt, (tt, (tt, tt)))))))))))))))))))

boxes : (below : ℕ → ℕ → Bool) (p q : Primitive) (w : Bool) → Fine below (Ty-F.Prim p) (Ty-F.Class (box_of q)) w
unfolding cast_between
boxes below p prim.Boolean true = (tt, (tt, (tt, (tt, (first (keeps p prim.Boolean) _ _, (second (keeps p prim.Boolean) (narrows p prim.Boolean) _ _, (tt, (tt, (tt, (tt, (tt, (tt, (tt, (tt, (tt, (tt, (tt, (tt, (tt, tt)))))))))))))))))))
boxes below p prim.Boolean false = (tt, (tt, (tt, (tt, (first (keeps p prim.Boolean) _ _, (tt, (tt, (tt, (tt, (tt, (tt, (tt, (tt, (tt, (tt, (tt, (tt, (tt, (tt, tt)))))))))))))))))))
boxes below p prim.Byte true = (tt, (tt, (tt, (tt, (first (keeps p prim.Byte) _ _, (second (keeps p prim.Byte) (narrows p prim.Byte) _ _, (tt, (tt, (tt, (tt, (tt, (tt, (tt, (tt, (tt, (tt, (tt, (tt, (tt, tt)))))))))))))))))))
boxes below p prim.Byte false = (tt, (tt, (tt, (tt, (first (keeps p prim.Byte) _ _, (tt, (tt, (tt, (tt, (tt, (tt, (tt, (tt, (tt, (tt, (tt, (tt, (tt, (tt, tt)))))))))))))))))))
boxes below p prim.Short true = (tt, (tt, (tt, (tt, (first (keeps p prim.Short) _ _, (second (keeps p prim.Short) (narrows p prim.Short) _ _, (tt, (tt, (tt, (tt, (tt, (tt, (tt, (tt, (tt, (tt, (tt, (tt, (tt, tt)))))))))))))))))))
boxes below p prim.Short false = (tt, (tt, (tt, (tt, (first (keeps p prim.Short) _ _, (tt, (tt, (tt, (tt, (tt, (tt, (tt, (tt, (tt, (tt, (tt, (tt, (tt, (tt, tt)))))))))))))))))))
boxes below p prim.Char true = (tt, (tt, (tt, (tt, (first (keeps p prim.Char) _ _, (second (keeps p prim.Char) (narrows p prim.Char) _ _, (tt, (tt, (tt, (tt, (tt, (tt, (tt, (tt, (tt, (tt, (tt, (tt, (tt, tt)))))))))))))))))))
boxes below p prim.Char false = (tt, (tt, (tt, (tt, (first (keeps p prim.Char) _ _, (tt, (tt, (tt, (tt, (tt, (tt, (tt, (tt, (tt, (tt, (tt, (tt, (tt, (tt, tt)))))))))))))))))))
boxes below p prim.Int true = (tt, (tt, (tt, (tt, (first (keeps p prim.Int) _ _, (second (keeps p prim.Int) (narrows p prim.Int) _ _, (tt, (tt, (tt, (tt, (tt, (tt, (tt, (tt, (tt, (tt, (tt, (tt, (tt, tt)))))))))))))))))))
boxes below p prim.Int false = (tt, (tt, (tt, (tt, (first (keeps p prim.Int) _ _, (tt, (tt, (tt, (tt, (tt, (tt, (tt, (tt, (tt, (tt, (tt, (tt, (tt, (tt, tt)))))))))))))))))))
boxes below p prim.Long true = (tt, (tt, (tt, (tt, (first (keeps p prim.Long) _ _, (second (keeps p prim.Long) (narrows p prim.Long) _ _, (tt, (tt, (tt, (tt, (tt, (tt, (tt, (tt, (tt, (tt, (tt, (tt, (tt, tt)))))))))))))))))))
boxes below p prim.Long false = (tt, (tt, (tt, (tt, (first (keeps p prim.Long) _ _, (tt, (tt, (tt, (tt, (tt, (tt, (tt, (tt, (tt, (tt, (tt, (tt, (tt, (tt, tt)))))))))))))))))))

to_text : (below : ℕ → ℕ → Bool) (p : Primitive) (w : Bool) → Fine below (Ty-F.Prim p) (Ty-F.Class 11) w
unfolding cast_between
to_text below p true = (tt, (tt, (tt, (tt, (tt, (tt, (tt, (tt, (tt, (tt, (tt, (tt, (tt, (tt, (tt, (tt, (tt, (first (same_primitives p prim.Char) _ _, (tt, tt)))))))))))))))))))
to_text below p false = (tt, (tt, (tt, (tt, (tt, (tt, (tt, (tt, (tt, (tt, (tt, (tt, (tt, (tt, (tt, (tt, (tt, (tt, (tt, tt)))))))))))))))))))

-- A class that is neither a box nor String: what the rows say depends on whether it stands above the box.
abbrev to_plain : Primitive → Bool → Bool → Option Primitive → Bool → Option Cast
to_plain p b true o t = first_of_two (wrapped_as keeps p o) (first_of_two (wrapped_as narrows p o) (first_of_two (only_if (is_plain o t && b) (Wrap p p)) (first_of_two (only_if (t && same_primitives p prim.Char) CharToText) None)))
to_plain p b false o t = first_of_two (wrapped_as keeps p o) (first_of_two (only_if (is_plain o t && b) (Wrap p p)) None)

plain_first : (p : Primitive) (b w : Bool) → Agrees (only_if b (Wrap p p)) (to_plain p b w None false)
plain_first p b true = first b (Wrap p p) None
plain_first p b false = first b (Wrap p p) None

plain_is : (p : Primitive) (b w : Bool) (o : Option Primitive) (t : Bool) → o ≡ None → t ≡ false → to_plain p b w o t ≡ to_plain p b w None false
plain_is p b w o t e k = ap (λ x. to_plain p b w x t) e ∙ ap (λ x. to_plain p b w None x) k

to_parents : (below : ℕ → ℕ → Bool) (p : Primitive) (c : ℕ) (w : Bool) → unboxed c ≡ None → eqb c 11 ≡ false → Fine below (Ty-F.Prim p) (Ty-F.Class c) w
unfolding cast_between
to_parents below p c true e k = (tt, (tt, (tt, (tt, (nothing _ _ (ap (wrapped_as keeps p) e), (nothing _ _ (ap (wrapped_as narrows p) e), (by_same _ (only_if (below (box_of p) c) (Wrap p p)) _ _ (ap (λ x. only_if (is_plain x (eqb c 11) && below (box_of p) c) (Wrap p p)) e ∙ ap (λ x. only_if (is_plain None x && below (box_of p) c) (Wrap p p)) k) (plain_is p (below (box_of p) c) true (unboxed c) (eqb c 11) e k) (plain_first p (below (box_of p) c) true), (tt, (tt, (tt, (tt, (tt, (tt, (tt, (tt, (tt, (tt, (nothing _ _ (ap (λ x. only_if (x && same_primitives p prim.Char) CharToText) k), (tt, tt)))))))))))))))))))
to_parents below p c false e k = (tt, (tt, (tt, (tt, (nothing _ _ (ap (wrapped_as keeps p) e), (tt, (by_same _ (only_if (below (box_of p) c) (Wrap p p)) _ _ (ap (λ x. only_if (is_plain x (eqb c 11) && below (box_of p) c) (Wrap p p)) e ∙ ap (λ x. only_if (is_plain None x && below (box_of p) c) (Wrap p p)) k) (plain_is p (below (box_of p) c) false (unboxed c) (eqb c 11) e k) (plain_first p (below (box_of p) c) false), (tt, (tt, (tt, (tt, (tt, (tt, (tt, (tt, (tt, (tt, (tt, (tt, tt)))))))))))))))))))

to_class : (below : ℕ → ℕ → Bool) (p : Primitive) (c : ℕ) (w : Bool) (o : Option Primitive) (t : Bool) → unboxed c ≡ o → eqb c 11 ≡ t → Fine below (Ty-F.Prim p) (Ty-F.Class c) w
to_class below p c w (Some q) t e k = let P : ℕ → Type 0 = λ d. Fine below (Ty-F.Prim p) (Ty-F.Class d) w in subst P (sym (unboxed_is c q e)) (boxes below p q w)
to_class below p c w None true e k = let P : ℕ → Type 0 = λ d. Fine below (Ty-F.Prim p) (Ty-F.Class d) w in subst P (sym (eqb-true c 11 k)) (to_text below p w)
to_class below p c w None false e k = to_parents below p c w e k

-- A class to a primitive.
from_boxes : (below : ℕ → ℕ → Bool) (p q : Primitive) (w : Bool) → Fine below (Ty-F.Class (box_of p)) (Ty-F.Prim q) w
unfolding cast_between
from_boxes below prim.Boolean q true = (tt, (tt, (tt, (tt, (tt, (tt, (tt, (tt, (first (keeps prim.Boolean q) _ _, (tt, (tt, (tt, (tt, (tt, (tt, (tt, (tt, (tt, (tt, tt)))))))))))))))))))
from_boxes below prim.Boolean q false = (tt, (tt, (tt, (tt, (tt, (tt, (tt, (tt, (first (keeps prim.Boolean q) _ _, (tt, (tt, (tt, (tt, (tt, (tt, (tt, (tt, (tt, (tt, tt)))))))))))))))))))
from_boxes below prim.Byte q true = (tt, (tt, (tt, (tt, (tt, (tt, (tt, (tt, (first (keeps prim.Byte q) _ _, (second (keeps prim.Byte q) (narrows prim.Byte q) _ _, (tt, (tt, (tt, (tt, (tt, (tt, (tt, (tt, (tt, tt)))))))))))))))))))
from_boxes below prim.Byte q false = (tt, (tt, (tt, (tt, (tt, (tt, (tt, (tt, (first (keeps prim.Byte q) _ _, (tt, (tt, (tt, (tt, (tt, (tt, (tt, (tt, (tt, (tt, tt)))))))))))))))))))
from_boxes below prim.Short q true = (tt, (tt, (tt, (tt, (tt, (tt, (tt, (tt, (first (keeps prim.Short q) _ _, (second (keeps prim.Short q) (narrows prim.Short q) _ _, (tt, (tt, (tt, (tt, (tt, (tt, (tt, (tt, (tt, tt)))))))))))))))))))
from_boxes below prim.Short q false = (tt, (tt, (tt, (tt, (tt, (tt, (tt, (tt, (first (keeps prim.Short q) _ _, (tt, (tt, (tt, (tt, (tt, (tt, (tt, (tt, (tt, (tt, tt)))))))))))))))))))
from_boxes below prim.Char q true = (tt, (tt, (tt, (tt, (tt, (tt, (tt, (tt, (first (keeps prim.Char q) _ _, (second (keeps prim.Char q) (narrows prim.Char q) _ _, (tt, (tt, (tt, (tt, (tt, (tt, (tt, (tt, (tt, tt)))))))))))))))))))
from_boxes below prim.Char q false = (tt, (tt, (tt, (tt, (tt, (tt, (tt, (tt, (first (keeps prim.Char q) _ _, (tt, (tt, (tt, (tt, (tt, (tt, (tt, (tt, (tt, (tt, tt)))))))))))))))))))
from_boxes below prim.Int q true = (tt, (tt, (tt, (tt, (tt, (tt, (tt, (tt, (first (keeps prim.Int q) _ _, (second (keeps prim.Int q) (narrows prim.Int q) _ _, (tt, (tt, (tt, (tt, (tt, (tt, (tt, (tt, (tt, tt)))))))))))))))))))
from_boxes below prim.Int q false = (tt, (tt, (tt, (tt, (tt, (tt, (tt, (tt, (first (keeps prim.Int q) _ _, (tt, (tt, (tt, (tt, (tt, (tt, (tt, (tt, (tt, (tt, tt)))))))))))))))))))
from_boxes below prim.Long q true = (tt, (tt, (tt, (tt, (tt, (tt, (tt, (tt, (first (keeps prim.Long q) _ _, (second (keeps prim.Long q) (narrows prim.Long q) _ _, (tt, (tt, (tt, (tt, (tt, (tt, (tt, (tt, (tt, tt)))))))))))))))))))
from_boxes below prim.Long q false = (tt, (tt, (tt, (tt, (tt, (tt, (tt, (tt, (first (keeps prim.Long q) _ _, (tt, (tt, (tt, (tt, (tt, (tt, (tt, (tt, (tt, (tt, tt)))))))))))))))))))

from_text : (below : ℕ → ℕ → Bool) (q : Primitive) (w : Bool) → Fine below (Ty-F.Class 11) (Ty-F.Prim q) w
unfolding cast_between
from_text below q true = (tt, (tt, (tt, (tt, (tt, (tt, (tt, (tt, (tt, (tt, (tt, (tt, (tt, (tt, (tt, (tt, (tt, (tt, (first (same_primitives q prim.Char) _ _, tt)))))))))))))))))))
from_text below q false = (tt, (tt, (tt, (tt, (tt, (tt, (tt, (tt, (tt, (tt, (tt, (tt, (tt, (tt, (tt, (tt, (tt, (tt, (tt, tt)))))))))))))))))))

abbrev from_plain : Primitive → Bool → Option Primitive → Bool → Bool → Option Cast
from_plain q true o n t = first_of_two (unwrapped_as keeps o q) (first_of_two (unwrapped_as narrows o q) (first_of_two (only_if n Explicit) (first_of_two (only_if (t && same_primitives q prim.Char) TextToChar) None)))
from_plain q false o n t = first_of_two (unwrapped_as keeps o q) None

from_is : (q : Primitive) (w n : Bool) (o : Option Primitive) (t : Bool) → o ≡ None → t ≡ false → from_plain q w o n t ≡ from_plain q w None n false
from_is q w n o t e k = ap (λ x. from_plain q w x n t) e ∙ ap (λ x. from_plain q w None n x) k

from_others : (below : ℕ → ℕ → Bool) (q : Primitive) (c : ℕ) (w : Bool) → unboxed c ≡ None → eqb c 11 ≡ false → Fine below (Ty-F.Class c) (Ty-F.Prim q) w
unfolding cast_between
from_others below q c true e k = (tt, (tt, (tt, (tt, (tt, (tt, (tt, (tt, (nothing _ _ (ap (λ x. unwrapped_as keeps x q) e), (nothing _ _ (ap (λ x. unwrapped_as narrows x q) e), (tt, (tt, (tt, (tt, (tt, (tt, (by_same _ _ _ _ refl (from_is q true (eqb c 0 || eqb c 3) (unboxed c) (eqb c 11) e k) (first (eqb c 0 || eqb c 3) Explicit None), (tt, (nothing _ _ (ap (λ x. only_if (x && same_primitives q prim.Char) TextToChar) k), tt)))))))))))))))))))
from_others below q c false e k = (tt, (tt, (tt, (tt, (tt, (tt, (tt, (tt, (nothing _ _ (ap (λ x. unwrapped_as keeps x q) e), (tt, (tt, (tt, (tt, (tt, (tt, (tt, (tt, (tt, (tt, tt)))))))))))))))))))

from_class : (below : ℕ → ℕ → Bool) (q : Primitive) (c : ℕ) (w : Bool) (o : Option Primitive) (t : Bool) → unboxed c ≡ o → eqb c 11 ≡ t → Fine below (Ty-F.Class c) (Ty-F.Prim q) w
from_class below q c w (Some p) t e k = let P : ℕ → Type 0 = λ d. Fine below (Ty-F.Class d) (Ty-F.Prim q) w in subst P (sym (unboxed_is c p e)) (from_boxes below p q w)
from_class below q c w None true e k = let P : ℕ → Type 0 = λ d. Fine below (Ty-F.Class d) (Ty-F.Prim q) w in subst P (sym (eqb-true c 11 k)) (from_text below q w)
from_class below q c w None false e k = from_others below q c w e k

fine : (below : ℕ → ℕ → Bool) (f t : Ty-F Ty) (w : Bool) → Fine below f t w
unfolding cast_between
fine below Ty-F.Void t true = (tt, (tt, (tt, (tt, (tt, (tt, (tt, (tt, (tt, (tt, (tt, (tt, (tt, (tt, (tt, (tt, (tt, (tt, (tt, tt)))))))))))))))))))
fine below Ty-F.Void t false = (tt, (tt, (tt, (tt, (tt, (tt, (tt, (tt, (tt, (tt, (tt, (tt, (tt, (tt, (tt, (tt, (tt, (tt, (tt, tt)))))))))))))))))))
fine below Ty-F.Null Ty-F.Void true = (tt, (tt, (tt, (tt, (tt, (tt, (tt, (tt, (tt, (tt, (tt, (tt, (tt, (tt, (tt, (tt, (tt, (tt, (tt, tt)))))))))))))))))))
fine below Ty-F.Null Ty-F.Void false = (tt, (tt, (tt, (tt, (tt, (tt, (tt, (tt, (tt, (tt, (tt, (tt, (tt, (tt, (tt, (tt, (tt, (tt, (tt, tt)))))))))))))))))))
fine below Ty-F.Null Ty-F.Null true = (refl, (tt, (tt, (tt, (tt, (tt, (tt, (tt, (tt, (tt, (tt, (tt, (tt, (tt, (tt, (tt, (tt, (tt, (tt, tt)))))))))))))))))))
fine below Ty-F.Null Ty-F.Null false = (refl, (tt, (tt, (tt, (tt, (tt, (tt, (tt, (tt, (tt, (tt, (tt, (tt, (tt, (tt, (tt, (tt, (tt, (tt, tt)))))))))))))))))))
fine below Ty-F.Null Ty-F.Def true = (tt, (refl, (tt, (tt, (tt, (tt, (tt, (tt, (tt, (tt, (tt, (tt, (tt, (tt, (tt, (tt, (tt, (tt, (tt, tt)))))))))))))))))))
fine below Ty-F.Null Ty-F.Def false = (tt, (refl, (tt, (tt, (tt, (tt, (tt, (tt, (tt, (tt, (tt, (tt, (tt, (tt, (tt, (tt, (tt, (tt, (tt, tt)))))))))))))))))))
fine below Ty-F.Null (Ty-F.Prim q) true = (tt, (tt, (tt, (tt, (tt, (tt, (tt, (tt, (tt, (tt, (tt, (tt, (tt, (tt, (tt, (tt, (tt, (tt, (tt, tt)))))))))))))))))))
fine below Ty-F.Null (Ty-F.Prim q) false = (tt, (tt, (tt, (tt, (tt, (tt, (tt, (tt, (tt, (tt, (tt, (tt, (tt, (tt, (tt, (tt, (tt, (tt, (tt, tt)))))))))))))))))))
fine below Ty-F.Null (Ty-F.Class b) true = (tt, (refl, (tt, (tt, (tt, (tt, (tt, (tt, (tt, (tt, (tt, (tt, (tt, (tt, (tt, (tt, (tt, (tt, (tt, tt)))))))))))))))))))
fine below Ty-F.Null (Ty-F.Class b) false = (tt, (refl, (tt, (tt, (tt, (tt, (tt, (tt, (tt, (tt, (tt, (tt, (tt, (tt, (tt, (tt, (tt, (tt, (tt, tt)))))))))))))))))))
fine below Ty-F.Null (Ty-F.Array u) true = (tt, (refl, (tt, (tt, (tt, (tt, (tt, (tt, (tt, (tt, (tt, (tt, (tt, (tt, (tt, (tt, (tt, (tt, (tt, tt)))))))))))))))))))
fine below Ty-F.Null (Ty-F.Array u) false = (tt, (refl, (tt, (tt, (tt, (tt, (tt, (tt, (tt, (tt, (tt, (tt, (tt, (tt, (tt, (tt, (tt, (tt, (tt, tt)))))))))))))))))))
fine below Ty-F.Def Ty-F.Void true = (tt, (tt, (tt, (tt, (tt, (tt, (tt, (tt, (tt, (tt, (tt, (tt, (tt, (tt, (tt, (tt, (tt, (tt, (tt, tt)))))))))))))))))))
fine below Ty-F.Def Ty-F.Void false = (tt, (tt, (tt, (tt, (tt, (tt, (tt, (tt, (tt, (tt, (tt, (tt, (tt, (tt, (tt, (tt, (tt, (tt, (tt, tt)))))))))))))))))))
fine below Ty-F.Def Ty-F.Null true = (tt, (tt, (tt, (tt, (tt, (tt, (tt, (tt, (tt, (tt, (tt, (tt, (tt, (tt, (tt, (tt, (tt, (tt, (tt, tt)))))))))))))))))))
fine below Ty-F.Def Ty-F.Null false = (tt, (tt, (tt, (tt, (tt, (tt, (tt, (tt, (tt, (tt, (tt, (tt, (tt, (tt, (tt, (tt, (tt, (tt, (tt, tt)))))))))))))))))))
fine below Ty-F.Def Ty-F.Def true = (refl, (tt, (tt, (tt, (tt, (tt, (tt, (tt, (tt, (tt, (tt, (tt, (tt, (tt, (tt, (tt, (tt, (tt, (tt, tt)))))))))))))))))))
fine below Ty-F.Def Ty-F.Def false = (refl, (tt, (tt, (tt, (tt, (tt, (tt, (tt, (tt, (tt, (tt, (tt, (tt, (tt, (tt, (tt, (tt, (tt, (tt, tt)))))))))))))))))))
fine below Ty-F.Def (Ty-F.Prim q) true = (tt, (tt, (tt, (tt, (tt, (tt, (tt, (tt, (tt, (tt, (tt, (tt, (tt, (tt, (refl, (tt, (tt, (tt, (tt, tt)))))))))))))))))))
fine below Ty-F.Def (Ty-F.Prim q) false = (tt, (tt, (tt, (tt, (tt, (tt, (tt, (tt, (tt, (tt, (tt, (tt, (tt, (refl, (tt, (tt, (tt, (tt, (tt, tt)))))))))))))))))))
fine below Ty-F.Def (Ty-F.Class b) true = (tt, (tt, (tt, (tt, (tt, (tt, (tt, (tt, (tt, (tt, (tt, (tt, (tt, (tt, (refl, (tt, (tt, (tt, (tt, tt)))))))))))))))))))
fine below Ty-F.Def (Ty-F.Class b) false = (tt, (tt, (tt, (tt, (tt, (tt, (tt, (tt, (tt, (tt, (tt, (tt, (tt, (refl, (tt, (tt, (tt, (tt, (tt, tt)))))))))))))))))))
fine below Ty-F.Def (Ty-F.Array u) true = (tt, (tt, (tt, (tt, (tt, (tt, (tt, (tt, (tt, (tt, (tt, (tt, (tt, (tt, (refl, (tt, (tt, (tt, (tt, tt)))))))))))))))))))
fine below Ty-F.Def (Ty-F.Array u) false = (tt, (tt, (tt, (tt, (tt, (tt, (tt, (tt, (tt, (tt, (tt, (tt, (tt, (refl, (tt, (tt, (tt, (tt, (tt, tt)))))))))))))))))))
fine below (Ty-F.Prim p) Ty-F.Void true = (tt, (tt, (tt, (tt, (tt, (tt, (tt, (tt, (tt, (tt, (tt, (tt, (tt, (tt, (tt, (tt, (tt, (tt, (tt, tt)))))))))))))))))))
fine below (Ty-F.Prim p) Ty-F.Void false = (tt, (tt, (tt, (tt, (tt, (tt, (tt, (tt, (tt, (tt, (tt, (tt, (tt, (tt, (tt, (tt, (tt, (tt, (tt, tt)))))))))))))))))))
fine below (Ty-F.Prim p) Ty-F.Null true = (tt, (tt, (tt, (tt, (tt, (tt, (tt, (tt, (tt, (tt, (tt, (tt, (tt, (tt, (tt, (tt, (tt, (tt, (tt, tt)))))))))))))))))))
fine below (Ty-F.Prim p) Ty-F.Null false = (tt, (tt, (tt, (tt, (tt, (tt, (tt, (tt, (tt, (tt, (tt, (tt, (tt, (tt, (tt, (tt, (tt, (tt, (tt, tt)))))))))))))))))))
fine below (Ty-F.Prim p) Ty-F.Def true = (tt, (tt, (tt, (tt, (tt, (tt, (tt, (refl, (tt, (tt, (tt, (tt, (tt, (tt, (tt, (tt, (tt, (tt, (tt, tt)))))))))))))))))))
fine below (Ty-F.Prim p) Ty-F.Def false = (tt, (tt, (tt, (tt, (tt, (tt, (tt, (refl, (tt, (tt, (tt, (tt, (tt, (tt, (tt, (tt, (tt, (tt, (tt, tt)))))))))))))))))))
fine below (Ty-F.Prim p) (Ty-F.Prim q) w = primitives below p q w
fine below (Ty-F.Prim p) (Ty-F.Class b) w = to_class below p b w (unboxed b) (eqb b 11) refl refl
fine below (Ty-F.Prim p) (Ty-F.Array u) true = (tt, (tt, (tt, (tt, (tt, (tt, (tt, (tt, (tt, (tt, (tt, (tt, (tt, (tt, (tt, (tt, (tt, (tt, (tt, tt)))))))))))))))))))
fine below (Ty-F.Prim p) (Ty-F.Array u) false = (tt, (tt, (tt, (tt, (tt, (tt, (tt, (tt, (tt, (tt, (tt, (tt, (tt, (tt, (tt, (tt, (tt, (tt, (tt, tt)))))))))))))))))))
fine below (Ty-F.Class a) Ty-F.Void true = (tt, (tt, (tt, (tt, (tt, (tt, (tt, (tt, (tt, (tt, (tt, (tt, (tt, (tt, (tt, (tt, (tt, (tt, (tt, tt)))))))))))))))))))
fine below (Ty-F.Class a) Ty-F.Void false = (tt, (tt, (tt, (tt, (tt, (tt, (tt, (tt, (tt, (tt, (tt, (tt, (tt, (tt, (tt, (tt, (tt, (tt, (tt, tt)))))))))))))))))))
fine below (Ty-F.Class a) Ty-F.Null true = (tt, (tt, (tt, (tt, (tt, (tt, (tt, (tt, (tt, (tt, (tt, (tt, (tt, (tt, (tt, (tt, (tt, (tt, (tt, tt)))))))))))))))))))
fine below (Ty-F.Class a) Ty-F.Null false = (tt, (tt, (tt, (tt, (tt, (tt, (tt, (tt, (tt, (tt, (tt, (tt, (tt, (tt, (tt, (tt, (tt, (tt, (tt, tt)))))))))))))))))))
fine below (Ty-F.Class a) Ty-F.Def true = (tt, (tt, (tt, (tt, (tt, (tt, (tt, (tt, (tt, (tt, (tt, (tt, (refl, (tt, (tt, (tt, (tt, (tt, (tt, tt)))))))))))))))))))
fine below (Ty-F.Class a) Ty-F.Def false = (tt, (tt, (tt, (tt, (tt, (tt, (tt, (tt, (tt, (tt, (tt, (tt, (refl, (tt, (tt, (tt, (tt, (tt, (tt, tt)))))))))))))))))))
fine below (Ty-F.Class a) (Ty-F.Prim q) w = from_class below q a w (unboxed a) (eqb a 11) refl refl
fine below (Ty-F.Class a) (Ty-F.Class b) true = (first (eqb a b) _ _, (tt, (tt, (tt, (tt, (tt, (tt, (tt, (tt, (tt, (second (eqb a b) (below a b) _ _, (third (eqb a b) (below a b) (below b a), (tt, (tt, (tt, (tt, (tt, (tt, (tt, tt)))))))))))))))))))
fine below (Ty-F.Class a) (Ty-F.Class b) false = (first (eqb a b) _ _, (tt, (tt, (tt, (tt, (tt, (tt, (tt, (tt, (tt, (second (eqb a b) (below a b) _ _, (tt, (tt, (tt, (tt, (tt, (tt, (tt, (tt, tt)))))))))))))))))))
fine below (Ty-F.Class a) (Ty-F.Array u) true = (tt, (tt, (tt, (tt, (tt, (tt, (tt, (tt, (tt, (tt, (tt, (tt, (tt, (tt, (tt, (tt, (tt, (tt, (tt, tt)))))))))))))))))))
fine below (Ty-F.Class a) (Ty-F.Array u) false = (tt, (tt, (tt, (tt, (tt, (tt, (tt, (tt, (tt, (tt, (tt, (tt, (tt, (tt, (tt, (tt, (tt, (tt, (tt, tt)))))))))))))))))))
fine below (Ty-F.Array v) Ty-F.Void true = (tt, (tt, (tt, (tt, (tt, (tt, (tt, (tt, (tt, (tt, (tt, (tt, (tt, (tt, (tt, (tt, (tt, (tt, (tt, tt)))))))))))))))))))
fine below (Ty-F.Array v) Ty-F.Void false = (tt, (tt, (tt, (tt, (tt, (tt, (tt, (tt, (tt, (tt, (tt, (tt, (tt, (tt, (tt, (tt, (tt, (tt, (tt, tt)))))))))))))))))))
fine below (Ty-F.Array v) Ty-F.Null true = (tt, (tt, (tt, (tt, (tt, (tt, (tt, (tt, (tt, (tt, (tt, (tt, (tt, (tt, (tt, (tt, (tt, (tt, (tt, tt)))))))))))))))))))
fine below (Ty-F.Array v) Ty-F.Null false = (tt, (tt, (tt, (tt, (tt, (tt, (tt, (tt, (tt, (tt, (tt, (tt, (tt, (tt, (tt, (tt, (tt, (tt, (tt, tt)))))))))))))))))))
fine below (Ty-F.Array v) Ty-F.Def true = (tt, (tt, (tt, (tt, (tt, (tt, (tt, (tt, (tt, (tt, (tt, (tt, (refl, (tt, (tt, (tt, (tt, (tt, (tt, tt)))))))))))))))))))
fine below (Ty-F.Array v) Ty-F.Def false = (tt, (tt, (tt, (tt, (tt, (tt, (tt, (tt, (tt, (tt, (tt, (tt, (refl, (tt, (tt, (tt, (tt, (tt, (tt, tt)))))))))))))))))))
fine below (Ty-F.Array v) (Ty-F.Prim q) true = (tt, (tt, (tt, (tt, (tt, (tt, (tt, (tt, (tt, (tt, (tt, (tt, (tt, (tt, (tt, (tt, (tt, (tt, (tt, tt)))))))))))))))))))
fine below (Ty-F.Array v) (Ty-F.Prim q) false = (tt, (tt, (tt, (tt, (tt, (tt, (tt, (tt, (tt, (tt, (tt, (tt, (tt, (tt, (tt, (tt, (tt, (tt, (tt, tt)))))))))))))))))))
fine below (Ty-F.Array v) (Ty-F.Class b) true = (tt, (tt, (tt, (tt, (tt, (tt, (tt, (tt, (tt, (tt, (tt, (tt, (tt, (tt, (tt, (first (eqb b 0) _ _, (tt, (tt, (tt, tt)))))))))))))))))))
fine below (Ty-F.Array v) (Ty-F.Class b) false = (tt, (tt, (tt, (tt, (tt, (tt, (tt, (tt, (tt, (tt, (tt, (tt, (tt, (tt, (tt, (first (eqb b 0) _ _, (tt, (tt, (tt, tt)))))))))))))))))))
fine below (Ty-F.Array v) (Ty-F.Array u) true = (first (same_types v u) _ _, (tt, (tt, (tt, (tt, (tt, (tt, (tt, (tt, (tt, (tt, (tt, (tt, (tt, (tt, (tt, (tt, (tt, (tt, tt)))))))))))))))))))
fine below (Ty-F.Array v) (Ty-F.Array u) false = (first (same_types v u) _ _, (tt, (tt, (tt, (tt, (tt, (tt, (tt, (tt, (tt, (tt, (tt, (tt, (tt, (tt, (tt, (tt, (tt, (tt, tt)))))))))))))))))))

pub rows_agree : (below : ℕ → ℕ → Bool) (from to : Ty) (w : Bool) → RowsAgree below from to w
unfolding cast_of
rows_agree below from to w = fine below (out-Ty from) (out-Ty to) w

-- There is no cast where no row gives one.

both_none : (a b : Option Cast) → first_of_two a b ≡ None → (a ≡ None) × (b ≡ None)
both_none None b h = (refl, h)
both_none (Some x) b h = absurd (cc)

none_then : (a b : Option Cast) → a ≡ None → b ≡ None → first_of_two a b ≡ None
none_then a b h k = ap (λ z. first_of_two z b) h ∙ k

no_row : (rows : List Row) (below : ℕ → ℕ → Bool) (f t : Ty-F Ty) (w : Bool) → cast_from rows below f t w ≡ None → AllByRecursion (λ r. given_by r below f t w ≡ None) rows
no_row [] below f t w h = tt
no_row (r ∷ rows) below f t w h = let b = both_none (given_by r below f t w) (cast_from rows below f t w) h in (b.0, no_row rows below f t w b.1)

no_cast : (rows : List Row) (below : ℕ → ℕ → Bool) (f t : Ty-F Ty) (w : Bool) → AllByRecursion (λ r. given_by r below f t w ≡ None) rows → cast_from rows below f t w ≡ None
no_cast [] below f t w h = refl
no_cast (r ∷ rows) below f t w h = none_then (given_by r below f t w) (cast_from rows below f t w) h.0 (no_cast rows below f t w h.1)

pub none_iff : (below : ℕ → ℕ → Bool) (from to : Ty) (w : Bool) → (cast_of below from to w ≡ None) ↔ NoRowGives below from to w
unfolding cast_of cast_between
none_iff below from to w = (no_row cast_rows below (out-Ty from) (out-Ty to) w, no_cast cast_rows below (out-Ty from) (out-Ty to) w)
