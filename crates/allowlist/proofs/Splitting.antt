-- The lines of a file, one after another.
use Rattle.std.proofs.Common.{◌≡◌, ℕ, suc, ◌+◌, Bool, true, false, cond, not, eqb, List, [], ◌∷◌, length, take, drop, Result, Ok, Err, Option, refl, sym, ap, ◌∙◌, ◌<◌, arith}
use Rattle.std.proofs.lemmas.Bool.{ne_eqb, false≢true}
use Rattle.allowlist.specs.Allow.{AllowList}
use Rattle.allowlist.specs.Files.{lines_of, begins_line, line_len, is_last, read_lines, next_line, after_line, line_result, Reading, Fault, Syntax, Unknown}
use Rattle.allowlist.specs.declared.error.AllowErr.{AllowErr}
use Rattle.allowlist.specs.declared.error.AllowErr.TheVariants as error
use Rattle.allowlist.specs.Answers.{ReadAnswers}

stop : (b : ℕ) (bs : List ℕ) (t : Bool) → eqb b 10 ≡ t → lines_of (b ∷ bs) ≡ cond t ([] ∷ lines_of bs) (begins_line b (lines_of bs))
stop b bs t e = ap (λ x. cond x ([] ∷ lines_of bs) (begins_line b (lines_of bs))) e

len : (b : ℕ) (bs : List ℕ) (t : Bool) → eqb b 10 ≡ t → line_len (b ∷ bs) ≡ cond (not t) (1 + line_len bs) 0
len b bs t e = ap (λ x. cond (not x) (1 + line_len bs) 0) e

one : (b : ℕ) (bs : List ℕ) (t : Bool) → eqb b 10 ≡ t → begins_line b (lines_of bs) ≡ (b ∷ take (line_len bs) bs) ∷ lines_of (drop (line_len bs + 1) bs) → lines_of (b ∷ bs) ≡ take (line_len (b ∷ bs)) (b ∷ bs) ∷ lines_of (drop (line_len (b ∷ bs) + 1) (b ∷ bs))
one b bs true e inner = stop b bs true e ∙ sym (ap (λ n. take n (b ∷ bs) ∷ lines_of (drop (n + 1) (b ∷ bs))) (len b bs true e))
one b bs false e inner =
    let s : 1 + line_len bs ≡ suc (line_len bs) = omega arith in
    let s' : suc (line_len bs) + 1 ≡ suc (line_len bs + 1) = omega arith in
    stop b bs false e ∙ inner
    ∙ sym (ap (λ n. take n (b ∷ bs) ∷ lines_of (drop (n + 1) (b ∷ bs))) (len b bs false e ∙ s) ∙ ap (λ n. (b ∷ take (line_len bs) bs) ∷ lines_of (drop n (b ∷ bs))) s')

pub one_line : (b : ℕ) (bs : List ℕ) → lines_of (b ∷ bs) ≡ take (line_len (b ∷ bs)) (b ∷ bs) ∷ lines_of (drop (line_len (b ∷ bs) + 1) (b ∷ bs))
one_line b [] = one b [] (eqb b 10) refl refl
one_line b (c ∷ cs) = one b (c ∷ cs) (eqb b 10) refl (ap (begins_line b) (one_line c cs))

pub last_line : (s : List ℕ) → is_last (lines_of s) ≡ eqb (length s) 0
last_line [] = refl
last_line (b ∷ bs) = ap is_last (one_line b bs) ∙ sym (ne_eqb (length (b ∷ bs)) 0 (λ e. omega arith))

-- One line, and what it makes of what was read before.

pub reads_on : (n : ℕ) (r s : Reading) (text : List ℕ) → 0 < length text → line_result n r (eqb (length (drop (line_len text + 1) text)) 0) (take (line_len text) text) ≡ Ok s → read_lines n r (lines_of text) ≡ read_lines (next_line n) s (lines_of (drop (line_len text + 1) text))
unfolding read_lines
reads_on n r s [] h e = absurd (omega arith)
reads_on n r s (b ∷ bs) h e =
    let rest = drop (line_len (b ∷ bs) + 1) (b ∷ bs) in
    ap (read_lines n r) (one_line b bs)
    ∙ ap (λ t. after_line (line_result n r t (take (line_len (b ∷ bs)) (b ∷ bs))) (λ s. read_lines (next_line n) s (lines_of rest))) (last_line rest)
    ∙ ap (λ o. after_line o (λ s. read_lines (next_line n) s (lines_of rest))) e

pub reads_fault : (n : ℕ) (r : Reading) (fault : Fault) (text : List ℕ) → 0 < length text → line_result n r (eqb (length (drop (line_len text + 1) text)) 0) (take (line_len text) text) ≡ Err fault → read_lines n r (lines_of text) ≡ Err fault
unfolding read_lines
reads_fault n r fault [] h e = absurd (omega arith)
reads_fault n r fault (b ∷ bs) h e =
    let rest = drop (line_len (b ∷ bs) + 1) (b ∷ bs) in
    ap (read_lines n r) (one_line b bs)
    ∙ ap (λ t. after_line (line_result n r t (take (line_len (b ∷ bs)) (b ∷ bs))) (λ s. read_lines (next_line n) s (lines_of rest))) (last_line rest)
    ∙ ap (λ o. after_line o (λ s. read_lines (next_line n) s (lines_of rest))) e

pub reads_end : (n : ℕ) (r : Reading) (text : List ℕ) → length text ≡ 0 → read_lines n r (lines_of text) ≡ Ok r.allow
unfolding read_lines
reads_end n r [] e = refl
reads_end n r (b ∷ bs) e = absurd (omega arith)

-- a text that is not empty has a byte
some_byte : (text : List ℕ) → eqb (length text) 0 ≡ false → 0 < length text
some_byte [] h = absurd (false≢true (sym h))
some_byte (b ∷ bs) h = omega arith

rewritten : (n : ℕ) (r : Reading) (text line after : List ℕ) (last : Bool) → last ≡ eqb (length after) 0 → line ≡ take (line_len text) text → after ≡ drop (line_len text + 1) text → line_result n r last line ≡ line_result n r (eqb (length (drop (line_len text + 1) text)) 0) (take (line_len text) text)
rewritten n r text line after last a b c = ap (λ x. line_result n r x line) a ∙ ap (line_result n r (eqb (length after) 0)) b ∙ ap (λ x. line_result n r (eqb (length x) 0) (take (line_len text) text)) c

pub reads_step : (n next : ℕ) (r s : Reading) (text line after : List ℕ) (last : Bool) → last ≡ eqb (length after) 0 → line ≡ take (line_len text) text → after ≡ drop (line_len text + 1) text → eqb (length text) 0 ≡ false → next ≡ next_line n → line_result n r last line ≡ Ok s → read_lines n r (lines_of text) ≡ read_lines next s (lines_of after)
reads_step n next r s text line after last a b c some e h =
    reads_on n r s text (some_byte text some) (sym (rewritten n r text line after last a b c) ∙ h)
    ∙ ap (λ m. read_lines m s (lines_of (drop (line_len text + 1) text))) (sym e)
    ∙ ap (λ x. read_lines next s (lines_of x)) (sym c)

pub reads_error : (view : Option ℕ → Reading) (fault : AllowErr) (n : ℕ) (r : Reading) (text line after : List ℕ) (last : Bool) (whole : Result AllowList Fault) → last ≡ eqb (length after) 0 → line ≡ take (line_len text) text → after ≡ drop (line_len text + 1) text → eqb (length text) 0 ≡ false → whole ≡ read_lines n r (lines_of text) → ReadAnswers view (Err fault) (line_result n r last line) → ReadAnswers (λ (a : AllowList). a) (Err fault) whole
reads_error view (error.Syntax k) n r text line after last whole a b c some w h = w ∙ reads_fault n r (Syntax k) text (some_byte text some) (sym (rewritten n r text line after last a b c) ∙ h)
reads_error view (error.Unknown k) n r text line after last whole a b c some w h = w ∙ reads_fault n r (Unknown k) text (some_byte text some) (sym (rewritten n r text line after last a b c) ∙ h)
reads_error view error.NoMemory n r text line after last whole a b c some w h = tt
