-- The lines of functions, one function after another.
use Rattle.std.proofs.Common.{◌≡◌, ℕ, suc, ◌+◌, ◌<◌, List, [], ◌∷◌, ◌++◌, length, take, get_or, map, sym, subst, ap, ◌∙◌, arith, append_assoc}
use Rattle.std.specs.Prelude.{codes}
use Rattle.std.proofs.lemmas.List.{take_more, length-take, append-nil}
use Rattle.std.proofs.lemmas.List.Concat.{flat_map-append}
use Rattle.pl_code.specs.declared.code.FunCode.{FunCode}
use Rattle.pl_code.specs.declared.head.Head.TheVariants as head
use Rattle.pl_code.specs.Words.{head_word}
use Rattle.pl_code.specs.Instructions.{instruction_text}
use Rattle.pl_code.specs.Listing.{header_text, trap_text, ended, text_of, function_lines, functions_lines}

pub functions_push : (n : ℕ) (fs : List FunCode) (f : FunCode) → functions_lines n (fs ++ f ∷ []) ≡ functions_lines n fs ++ function_lines (n + length fs) f
functions_push n [] f =
    let e : n + 0 ≡ n = omega arith in
    append-nil (function_lines n f) ∙ ap (λ k. function_lines k f) (sym e)
functions_push n (g ∷ gs) f =
    let e : (n + 1) + length gs ≡ n + suc (length gs) = omega arith in
    ap (λ t. function_lines n g ++ t) (functions_push (n + 1) gs f ∙ ap (λ k. functions_lines (n + 1) gs ++ function_lines k f) e)
    ∙ sym (append_assoc (function_lines n g) (functions_lines (n + 1) gs) (function_lines (n + suc (length gs)) f))

-- one function more is written
pub one_more : (xs fs : List FunCode) (i : ℕ) (f : FunCode) → xs ≡ fs → i < length xs → f ≡ get_or xs i f
    → text_of (functions_lines 0 (take (i + 1) fs)) ≡ text_of (functions_lines 0 (take i fs)) ++ text_of (function_lines i f)
one_more xs fs i f same within is =
    let count : 0 + length (take i xs) ≡ i = omega (arith, length-take i xs) in
    let lines : functions_lines 0 (take (i + 1) xs) ≡ functions_lines 0 (take i xs) ++ function_lines i f =
    ap (functions_lines 0) (take_more xs i f within ∙ ap (λ g. take i xs ++ g ∷ []) (sym is))
    ∙ functions_push 0 (take i xs) f ∙ ap (λ k. functions_lines 0 (take i xs) ++ function_lines k f) count in
    subst (λ gs. text_of (functions_lines 0 (take (i + 1) gs)) ≡ text_of (functions_lines 0 (take i gs)) ++ text_of (function_lines i f)) same
    (ap text_of lines ∙ flat_map-append ended (functions_lines 0 (take i xs)) (function_lines i f))

-- the text of a function is that of its parts
pub function_text : (n : ℕ) (f : FunCode) → text_of (function_lines n f)
    ≡ (header_text n f.loops f.result f.params f.locals ++ 10 ∷ []) ++ (text_of (map trap_text f.traps) ++ (text_of (map instruction_text f.lines) ++ codes "end\n"))
unfolding head_word
function_text n f =
    ap (λ t. ended (header_text n f.loops f.result f.params f.locals) ++ t)
    (flat_map-append ended (map trap_text f.traps) (map instruction_text f.lines ++ head_word head.End ∷ [])
    ∙ ap (λ t. text_of (map trap_text f.traps) ++ t) (flat_map-append ended (map instruction_text f.lines) (head_word head.End ∷ [])))
