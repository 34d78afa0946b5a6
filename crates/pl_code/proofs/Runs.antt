-- What was read of lines has just these lines, and the lines of a code are read as it.
use Rattle.std.proofs.Common.{◌≡◌, ℕ, ◌+◌, ◌^◌, ◌<◌, ◌≤◌, true, List, [], ◌∷◌, ◌++◌, length, map, Option, Some, None, refl, sym, subst, ap, ◌∙◌, arith, append_assoc}
use Rattle.std.specs.Prelude.{nat_lt, nat_le, ◌==◌, option_and_then}
use Rattle.std.specs.List.{list_all}
use Rattle.std.proofs.lemmas.Bool.{and_parts, and_from, ltb-true, leb-true, lt-ltb, eqb-true, eq-eqb, cond-true}
use Rattle.std.proofs.lemmas.Option.{none-some, same_Some, cond_some, option_and_then_some}
use Rattle.std.proofs.lemmas.List.{map-append, append-nil, length-append}
use Rattle.std.proofs.lemmas.List.Folds.{list_all-append}
use Rattle.pl_code.specs.declared.code.Instruction.{Instruction}
use Rattle.pl_code.specs.declared.code.Trap.{Trap}
use Rattle.pl_code.specs.declared.code.FunCode.{FunCode}
use Rattle.pl_code.specs.declared.code.Code.{Code}
use Rattle.pl_code.specs.declared.head.Head.TheVariants as head
use Rattle.pl_code.specs.declared.line.Header.{Header}
use Rattle.pl_code.specs.declared.line.Line.{Line}
use Rattle.pl_code.specs.declared.line.Line.TheVariants.{Fun, Caught, Do, End}
use Rattle.pl_code.specs.declared.reading.Reading.{Reading}
use Rattle.pl_code.specs.Words.{head_word}
use Rattle.pl_code.specs.Instructions.{instruction_text, is_instruction}
use Rattle.pl_code.specs.Listing.{header_text, trap_text, function_lines, functions_lines, is_trap, is_function, is_code}
use Rattle.pl_code.specs.Lines.{line_text, is_line, line_of}
use Rattle.pl_code.specs.Reading.{begun, reading_in, next_in, next, next_line}
use Rattle.pl_code.proofs.LineForms.{line_form}
use Rattle.pl_code.proofs.Writings.{functions_push}

-- the lines of a function that stands open
abbrev pub current_lines : ℕ → Option FunCode → List (List ℕ)
current_lines n None = []
current_lines n (Some f) = header_text n f.loops f.result f.params f.locals ∷ (map trap_text f.traps ++ map instruction_text f.lines)

abbrev pub lines_in : List FunCode → Option FunCode → List (List ℕ)
lines_in fs current = functions_lines 0 fs ++ current_lines (length fs) current

-- the lines of what was read
abbrev pub so_far : Reading → List (List ℕ)
so_far r = lines_in r.functions r.current

abbrev pub FitsCurrent : ℕ → Option FunCode → Type 0
FitsCurrent n None = n ≤ 2 ^ 64
FitsCurrent n (Some f) = (is_function f ≡ true) × (n < 2 ^ 64)

pub record Fits (fs : List FunCode) (current : Option FunCode) : Type 0 where
  pub functions : list_all is_function fs ≡ true
  pub last : FitsCurrent (length fs) current

-- a line follows what was read
pub record Follows (fs : List FunCode) (current : Option FunCode) (l : Line) (q : Reading) : Type 0 where
  pub fits : Fits q.functions q.current
  pub lines : so_far q ≡ lines_in fs current ++ line_text l ∷ []

follows : (fs : List FunCode) (current : Option FunCode) (l : Line) (p q : Reading) → Follows fs current l p → p ≡ q → Follows fs current l q
follows fs current l p q f e = subst (Follows fs current l) e f

no_lines : (xs : List Instruction) → (length xs == 0) ≡ true → xs ≡ []
no_lines [] h = refl
no_lines (x ∷ xs) h = let e = eqb-true (length (x ∷ xs)) 0 h in absurd (omega arith)

begin_follows : (fs : List FunCode) (h : Header) → Fits fs None → nat_lt h.number (2 ^ 64) ≡ true → h.number ≡ length fs → Follows fs None (Fun h) (reading_in fs (Some (begun h)))
unfolding line_text
begin_follows fs h fits small same = record {
  fits = record { functions = fits.functions; last = (refl, subst (λ n. n < 2 ^ 64) same (ltb-true h.number (2 ^ 64) small)) };
  lines = ap (λ n. functions_lines 0 fs ++ header_text n h.loops h.result h.params h.locals ∷ []) (sym same)
      ∙ ap (λ t. t ++ header_text h.number h.loops h.result h.params h.locals ∷ []) (sym (append-nil (functions_lines 0 fs)));
}

-- a function with one trap more, and with one instruction more
abbrev with_trap : FunCode → Trap → FunCode
with_trap f t = record f { traps = f.traps ++ t ∷ [] }

abbrev with_line : FunCode → Instruction → FunCode
with_line f i = record f { lines = f.lines ++ i ∷ [] }

catch_lines : (n : ℕ) (f : FunCode) (t : Trap) (is : List Instruction) → is ≡ [] → f.lines ≡ is
    → current_lines n (Some (with_trap f t)) ≡ current_lines n (Some f) ++ trap_text t ∷ []
catch_lines n f t is none same =
    let empty : f.lines ≡ [] = same ∙ none in
    let header = header_text n f.loops f.result f.params f.locals in
    ap (λ ls. header ∷ (map trap_text (f.traps ++ t ∷ []) ++ map instruction_text ls)) empty
    ∙ ap (λ ls. header ∷ ls) (append-nil (map trap_text (f.traps ++ t ∷ [])) ∙ map-append trap_text f.traps (t ∷ []))
    ∙ ap (λ ls. header ∷ (ls ++ trap_text t ∷ [])) (sym (append-nil (map trap_text f.traps)))
    ∙ ap (λ ls. header ∷ ((map trap_text f.traps ++ map instruction_text ls) ++ trap_text t ∷ [])) (sym empty)

add_lines : (n : ℕ) (f : FunCode) (i : Instruction) → current_lines n (Some (with_line f i)) ≡ current_lines n (Some f) ++ instruction_text i ∷ []
add_lines n f i =
    let header = header_text n f.loops f.result f.params f.locals in
    ap (λ ls. header ∷ (map trap_text f.traps ++ ls)) (map-append instruction_text f.lines (i ∷ []))
    ∙ ap (λ ls. header ∷ ls) (sym (append_assoc (map trap_text f.traps) (map instruction_text f.lines) (instruction_text i ∷ [])))

pub step_follows : (fs : List FunCode) (current : Option FunCode) (l : Line) (q : Reading) → Fits fs current → is_line l ≡ true → next_in fs current l ≡ Some q → Follows fs current l q
unfolding line_text is_line
step_follows fs None (Fun h) q fits line e =
    let c = cond_some (h.number == length fs) (reading_in fs (Some (begun h))) q e in
    follows fs None (Fun h) _ q (begin_follows fs h fits line (eqb-true h.number (length fs) c.0)) c.1
step_follows fs None (Caught t) q fits line e = absurd (none-some q e)
step_follows fs None (Do i) q fits line e = absurd (none-some q e)
step_follows fs None End q fits line e = absurd (none-some q e)
step_follows fs (Some f) (Fun h) q fits line e = absurd (none-some q e)
step_follows fs (Some f) (Caught t) q fits line e =
    let c = cond_some (length f.lines == 0) (reading_in fs (Some (with_trap f t))) q e in
    let parts = and_parts (list_all is_trap f.traps) (list_all is_instruction f.lines) fits.last.0 in
    let traps : list_all is_trap (f.traps ++ t ∷ []) ≡ true = list_all-append is_trap f.traps (t ∷ []) ∙ and_from _ _ parts.0 (and_from (is_trap t) true line refl) in
    follows fs (Some f) (Caught t) _ q (record {
      fits = record { functions = fits.functions; last = (and_from (list_all is_trap (f.traps ++ t ∷ [])) (list_all is_instruction f.lines) traps parts.1, fits.last.1) };
      lines = ap (λ ls. functions_lines 0 fs ++ ls) (catch_lines (length fs) f t f.lines (no_lines f.lines c.0) refl)
          ∙ sym (append_assoc (functions_lines 0 fs) (current_lines (length fs) (Some f)) (trap_text t ∷ []));
    }) c.1
step_follows fs (Some f) (Do i) q fits line e =
    let parts = and_parts (list_all is_trap f.traps) (list_all is_instruction f.lines) fits.last.0 in
    let lines : list_all is_instruction (f.lines ++ i ∷ []) ≡ true = list_all-append is_instruction f.lines (i ∷ []) ∙ and_from _ _ parts.1 (and_from (is_instruction i) true line refl) in
    follows fs (Some f) (Do i) _ q (record {
      fits = record { functions = fits.functions; last = (and_from (list_all is_trap f.traps) (list_all is_instruction (f.lines ++ i ∷ [])) parts.0 lines, fits.last.1) };
      lines = ap (λ ls. functions_lines 0 fs ++ ls) (add_lines (length fs) f i)
          ∙ sym (append_assoc (functions_lines 0 fs) (current_lines (length fs) (Some f)) (instruction_text i ∷ []));
    }) (same_Some _ q e)
step_follows fs (Some f) End q fits line e =
    let all : list_all is_function (fs ++ f ∷ []) ≡ true = list_all-append is_function fs (f ∷ []) ∙ and_from _ _ fits.functions (and_from (is_function f) true fits.last.0 refl) in
    let header = header_text (length fs) f.loops f.result f.params f.locals in
    let count : 0 + length fs ≡ length fs = omega arith in
    let whole : function_lines (length fs) f ≡ current_lines (length fs) (Some f) ++ head_word head.End ∷ [] =
    ap (λ ls. header ∷ ls) (sym (append_assoc (map trap_text f.traps) (map instruction_text f.lines) (head_word head.End ∷ []))) in
    follows fs (Some f) End _ q (record {
      fits = record { functions = all; last = omega (arith, length-append fs (f ∷ []), fits.last.1) };
      lines = append-nil (functions_lines 0 (fs ++ f ∷ [])) ∙ functions_push 0 fs f
          ∙ ap (λ n. functions_lines 0 fs ++ function_lines n f) count ∙ ap (λ ls. functions_lines 0 fs ++ ls) whole
          ∙ sym (append_assoc (functions_lines 0 fs) (current_lines (length fs) (Some f)) (head_word head.End ∷ []));
    }) (same_Some _ q e)

-- lines that are read one after another
abbrev pub run : Reading → List (List ℕ) → Option Reading
run r [] = Some r
run r (l ∷ ls) = option_and_then (λ q. run q ls) (next_line r l)

pub record Ran (r : Reading) (ls : List (List ℕ)) (q : Reading) : Type 0 where
  pub fits : Fits q.functions q.current
  pub lines : so_far q ≡ so_far r ++ ls

one_ran : (r : Reading) (s : List ℕ) (q : Reading) → Fits r.functions r.current → next_line r s ≡ Some q → Ran r (s ∷ []) q
unfolding next_line next
one_ran r s q fits e = option_and_then_some (λ l. next_in r.functions r.current l) (line_of s) q e (λ l found goes.
    let is = line_form.sound s l found in
    let f = step_follows r.functions r.current l q fits is.0 goes in
    record { fits = f.fits; lines = f.lines ∙ ap (λ t. so_far r ++ t ∷ []) is.1 })

pub run_sound : (r : Reading) (ls : List (List ℕ)) (q : Reading) → Fits r.functions r.current → run r ls ≡ Some q → Ran r ls q
run_sound r [] q fits e = subst (Ran r []) (same_Some r q e) (record { fits = fits; lines = sym (append-nil (so_far r)) })
run_sound r (l ∷ ls) q fits e = option_and_then_some (λ p. run p ls) (next_line r l) q e (λ p one more.
    let first = one_ran r l p fits one in
    let rest = run_sound p ls q first.fits more in
    record { fits = rest.fits; lines = rest.lines ∙ ap (λ t. t ++ ls) first.lines ∙ append_assoc (so_far r) (l ∷ []) ls })

over : (xs ys : List (List ℕ)) (o : Option Reading) → ((q : Reading) → run q (xs ++ ys) ≡ option_and_then (λ p. run p ys) (run q xs))
    → option_and_then (λ q. run q (xs ++ ys)) o ≡ option_and_then (λ q. run q ys) (option_and_then (λ q. run q xs) o)
over xs ys None h = refl
over xs ys (Some q) h = h q

pub run-append : (r : Reading) (xs ys : List (List ℕ)) → run r (xs ++ ys) ≡ option_and_then (λ q. run q ys) (run r xs)
run-append r [] ys = refl
run-append r (x ∷ xs) ys = over xs ys (next_line r x) (λ q. run-append q xs ys)

-- The lines of a code are read as it.

line_next : (r : Reading) (l : Line) → is_line l ≡ true → next_line r (line_text l) ≡ next r l
unfolding next_line
line_next r l h = ap (option_and_then (next r)) (line_form.complete l h)

abbrev part : FunCode → List Trap → List Instruction → FunCode
part f ts is = record f { traps = ts; lines = is }

traps_run : (fs : List FunCode) (f : FunCode) (before ts : List Trap) → list_all is_trap ts ≡ true
    → run (reading_in fs (Some (part f before []))) (map trap_text ts) ≡ Some (reading_in fs (Some (part f (before ++ ts) [])))
unfolding line_text is_line next
traps_run fs f before [] h = ap (λ ts. Some (reading_in fs (Some (part f ts [])))) (sym (append-nil before))
traps_run fs f before (t ∷ ts) h =
    let parts = and_parts (is_trap t) (list_all is_trap ts) h in
    ap (option_and_then (λ q. run q (map trap_text ts))) (line_next (reading_in fs (Some (part f before []))) (Caught t) parts.0)
    ∙ traps_run fs f (before ++ t ∷ []) ts parts.1
    ∙ ap (λ us. Some (reading_in fs (Some (part f us [])))) (append_assoc before (t ∷ []) ts)

lines_run : (fs : List FunCode) (f : FunCode) (before is : List Instruction) → list_all is_instruction is ≡ true
    → run (reading_in fs (Some (part f f.traps before))) (map instruction_text is) ≡ Some (reading_in fs (Some (part f f.traps (before ++ is))))
unfolding line_text is_line next
lines_run fs f before [] h = ap (λ is. Some (reading_in fs (Some (part f f.traps is)))) (sym (append-nil before))
lines_run fs f before (i ∷ is) h =
    let parts = and_parts (is_instruction i) (list_all is_instruction is) h in
    ap (option_and_then (λ q. run q (map instruction_text is))) (line_next (reading_in fs (Some (part f f.traps before))) (Do i) parts.0)
    ∙ lines_run fs f (before ++ i ∷ []) is parts.1
    ∙ ap (λ us. Some (reading_in fs (Some (part f f.traps us)))) (append_assoc before (i ∷ []) is)

header_run : (fs : List FunCode) (f : FunCode) (rest : List (List ℕ)) → length fs < 2 ^ 64
    → run (reading_in fs None) (header_text (length fs) f.loops f.result f.params f.locals ∷ rest) ≡ run (reading_in fs (Some (part f [] []))) rest
unfolding line_text is_line next
header_run fs f rest small =
    let h : Header = record { number = length fs; loops = f.loops; result = f.result; params = f.params; locals = f.locals } in
    ap (option_and_then (λ q. run q rest)) (line_next (reading_in fs None) (Fun h) (lt-ltb (length fs) (2 ^ 64) small)
    ∙ cond-true _ _ _ (eq-eqb (length fs) (length fs) refl))

end_run : (fs : List FunCode) (f : FunCode) (rest : List (List ℕ)) → run (reading_in fs (Some f)) (head_word head.End ∷ rest) ≡ run (reading_in (fs ++ f ∷ []) None) rest
unfolding line_text is_line next
end_run fs f rest = ap (option_and_then (λ q. run q rest)) (line_next (reading_in fs (Some f)) End refl)

function_run : (fs : List FunCode) (f : FunCode) (rest : List (List ℕ)) → length fs < 2 ^ 64 → is_function f ≡ true
    → run (reading_in fs None) (function_lines (length fs) f ++ rest) ≡ run (reading_in (fs ++ f ∷ []) None) rest
function_run fs f rest small h =
    let parts = and_parts (list_all is_trap f.traps) (list_all is_instruction f.lines) h in
    let after_traps = (map instruction_text f.lines ++ head_word head.End ∷ []) ++ rest in
    let after_lines = head_word head.End ∷ rest in
    header_run fs f ((map trap_text f.traps ++ (map instruction_text f.lines ++ head_word head.End ∷ [])) ++ rest) small
    ∙ ap (run (reading_in fs (Some (part f [] [])))) (append_assoc (map trap_text f.traps) (map instruction_text f.lines ++ head_word head.End ∷ []) rest)
    ∙ run-append (reading_in fs (Some (part f [] []))) (map trap_text f.traps) after_traps
    ∙ ap (option_and_then (λ q. run q after_traps)) (traps_run fs f [] f.traps parts.0)
    ∙ ap (run (reading_in fs (Some (part f f.traps [])))) (append_assoc (map instruction_text f.lines) (head_word head.End ∷ []) rest)
    ∙ run-append (reading_in fs (Some (part f f.traps []))) (map instruction_text f.lines) after_lines
    ∙ ap (option_and_then (λ q. run q after_lines)) (lines_run fs f [] f.lines parts.1)
    ∙ end_run fs f rest

functions_run : (fs gs : List FunCode) → list_all is_function gs ≡ true → length fs + length gs ≤ 2 ^ 64
    → run (reading_in fs None) (functions_lines (length fs) gs) ≡ Some (reading_in (fs ++ gs) None)
functions_run fs [] h l = ap (λ t. Some (reading_in t None)) (sym (append-nil fs))
functions_run fs (g ∷ gs) h l =
    let parts = and_parts (is_function g) (list_all is_function gs) h in
    let count : length fs + 1 ≡ length (fs ++ g ∷ []) = omega (arith, length-append fs (g ∷ [])) in
    function_run fs g (functions_lines (length fs + 1) gs) (omega arith) parts.0
    ∙ ap (λ n. run (reading_in (fs ++ g ∷ []) None) (functions_lines n gs)) count
    ∙ functions_run (fs ++ g ∷ []) gs parts.1 (omega (arith, length-append fs (g ∷ [])))
    ∙ ap (λ t. Some (reading_in t None)) (append_assoc fs (g ∷ []) gs)

pub code_run : (c : Code) → is_code c ≡ true → run (reading_in [] None) (functions_lines 0 c.functions) ≡ Some (reading_in c.functions None)
unfolding is_code
code_run c h =
    let parts = and_parts (list_all is_function c.functions) (nat_le (length c.functions) (2 ^ 64)) h in
    let small = leb-true (length c.functions) (2 ^ 64) parts.1 in
    functions_run [] c.functions parts.0 (omega arith)
