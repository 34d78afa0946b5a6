-- What a listing is read as is what it is.
use Rattle.std.proofs.Common.{◌≡◌, ℕ, zero, suc, ◌+◌, ◌^◌, ◌≤◌, true, false, List, [], ◌∷◌, ◌++◌, length, take, drop, Option, Some, None, Result, Ok, Err, refl, sym, subst, ap, ◌∙◌, arith, inl, inr, append_assoc}
use Rattle.std.specs.Prelude.{nat_lt, nat_le, option_and_then}
use Rattle.std.specs.List.{list_all, position_or_len, before_first, after_first}
use Rattle.std.specs.Str.{bytes_eq}
use Rattle.std.proofs.lemmas.Bool.{and_parts, and_from, le-leb, cond-true, cond-false, cases_Bool, cases_order, ltb-false}
use Rattle.std.proofs.lemmas.Option.{none-some, same_Some, cond_some}
use Rattle.std.proofs.lemmas.List.{append-nil, length-append, take-append-drop, take_all}
use Rattle.std.proofs.lemmas.List.Folds.{list_all-append}
use Rattle.listing_parts.proofs.Unbroken.{other_than_newline}
use Rattle.std.proofs.lemmas.List.Concat.{flat_map-append}
use Rattle.std.proofs.lemmas.Slice.Eq.{bytes_eq-Decides}
use Rattle.std.proofs.Math.Seq.{take-append_seam, take-append-add}
use Rattle.pl_code.specs.declared.code.FunCode.{FunCode}
use Rattle.pl_code.specs.declared.code.Code.{Code}
use Rattle.pl_code.specs.declared.line.Line.TheVariants.{End}
use Rattle.pl_code.specs.declared.reading.Reading.{Reading}
use Rattle.pl_code.specs.declared.error.ListingErr.{ListingErr}
use Rattle.pl_code.specs.declared.error.ListingErr.TheVariants.{Syntax, Version, NoMemory}
use Rattle.pl_code.specs.Listing.{first_line, ended, text_of, functions_lines, code_lines, written, is_function, is_code}
use Rattle.pl_code.specs.Lines.{line_text, is_line}
use Rattle.pl_code.specs.Reading.{reading_in, next_line, told, finished, continued, is_newline, first_ended, ended_of, behind_of, read_on, read_bytes, first_fault, listing_from, listing_of, is_other_version, Gives}
use Rattle.pl_code.specs.Faults.{IsListing, Begins, FaultsAt, first_of, IsReading}
use Rattle.pl_code.proofs.Cuts.{HasNone, none_cut, cut_some, cut_none, ended_cons, ended_none, behind_cons}
use Rattle.pl_code.proofs.Runs.{Fits, step_follows, lines_in, run, run_sound, run-append, code_run}
use Rattle.pl_code.proofs.Texts.{AllUnbroken, code_unbroken, prefix, has_newline, behind_unbroken, ended_unbroken, whole}

-- a code begins with what was read
begins_in : (fs : List FunCode) (current : Option FunCode) → Fits fs current → Begins (first_line ∷ lines_in fs current)
unfolding code_lines is_code is_line
begins_in fs None fits = record {
  code = record { functions = fs };
  is = and_from (list_all is_function fs) (nat_le (length fs) (2 ^ 64)) fits.functions (le-leb _ _ fits.last);
  rest = [];
  text = ap (λ ls. text_of (first_line ∷ ls)) (sym (append-nil (functions_lines 0 fs))) ∙ sym (append-nil (text_of (first_line ∷ lines_in fs None)));
}
begins_in fs (Some f) fits =
    let done = step_follows fs (Some f) End (reading_in (fs ++ f ∷ []) None) fits refl refl in
    record {
      code = record { functions = fs ++ f ∷ [] };
      is = and_from (list_all is_function (fs ++ f ∷ [])) (nat_le (length (fs ++ f ∷ [])) (2 ^ 64)) done.fits.functions (le-leb _ _ done.fits.last);
      rest = text_of (line_text End ∷ []);
      text = ap (λ ls. text_of (first_line ∷ ls)) (sym (append-nil (functions_lines 0 (fs ++ f ∷ []))) ∙ done.lines)
          ∙ flat_map-append ended (first_line ∷ lines_in fs (Some f)) (line_text End ∷ []);
    }

begins_after : (ds : List (List ℕ)) (r : Reading) → run (reading_in [] None) ds ≡ Some r → Begins (first_line ∷ ds)
begins_after ds r e =
    let ran = run_sound (reading_in [] None) ds r (record { functions = refl; last = omega arith }) e in
    subst (λ ls. Begins (first_line ∷ ls)) ran.lines (begins_in r.functions r.current ran.fits)

-- fewer lines begin a code too
begins_front : (xs ys : List (List ℕ)) → Begins (xs ++ ys) → Begins xs
begins_front xs ys b = record { code = b.code; is = b.is; rest = text_of ys ++ b.rest; text = b.text ∙ ap (λ t. t ++ b.rest) (flat_map-append ended xs ys) ∙ append_assoc (text_of xs) (text_of ys) b.rest }

tail_same : (x : List ℕ) (xs ys : List (List ℕ)) → x ∷ xs ≡ x ∷ ys → xs ≡ ys
tail_same x xs ys e = cc

-- no code goes on with a line that cannot follow
not_begins : (ds : List (List ℕ)) (r : Reading) (l : List ℕ) → run (reading_in [] None) ds ≡ Some r → next_line r l ≡ None
    → AllUnbroken (first_line ∷ (ds ++ l ∷ [])) → Begins (first_line ∷ (ds ++ l ∷ [])) → ⊥
unfolding code_lines
not_begins ds r l e none un b =
    let p = prefix (code_lines b.code) (first_line ∷ (ds ++ l ∷ [])) b.rest (code_unbroken b.code b.is) un b.text in
    let lines : functions_lines 0 b.code.functions ≡ (ds ++ l ∷ []) ++ p.more = tail_same first_line _ _ p.lines in
    let goes = code_run b.code b.is in
    let stops : run (reading_in [] None) (functions_lines 0 b.code.functions) ≡ None =
    ap (run (reading_in [] None)) (lines ∙ append_assoc ds (l ∷ []) p.more) ∙ run-append (reading_in [] None) ds (l ∷ p.more)
    ∙ ap (option_and_then (λ q. run q (l ∷ p.more))) e ∙ ap (option_and_then (λ q. run q p.more)) none in
    none-some _ (sym stops ∙ goes)

heads_same : (x y : List ℕ) (xs ys : List (List ℕ)) → y ∷ ys ≡ (x ∷ []) ++ xs → x ≡ y
heads_same x y xs ys e = cc

first_front : (bytes line behind : List ℕ) → first_ended bytes ≡ Some (line, behind) → first_of bytes ≡ line
unfolding first_ended
first_front bytes line behind h =
    let p = cond_some (nat_lt (position_or_len is_newline bytes) (length bytes)) (before_first is_newline bytes, after_first is_newline bytes) (line, behind) h in
    ap (λ q. q.0) p.1

first_whole : (bytes : List ℕ) → first_ended bytes ≡ None → first_of bytes ≡ bytes
unfolding first_ended
first_whole bytes h = take_all (position_or_len is_newline bytes) bytes (ltb-false (position_or_len is_newline bytes) (length bytes) (none_cut _ (before_first is_newline bytes, after_first is_newline bytes) h))

-- what is a code's text ends where a function has ended
record Ends (r : Reading) (rest : List ℕ) : Type 0 where
  nothing : rest ≡ []
  closed : r.current ≡ None

more_ends : (ds more : List (List ℕ)) (r : Reading) (rest : List ℕ) (c : Code) → run (reading_in [] None) ds ≡ Some r → HasNone rest → is_code c ≡ true
    → functions_lines 0 c.functions ≡ ds ++ more → text_of more ≡ rest → Ends r rest
more_ends ds [] r rest c e un is lines text =
    let same : Some r ≡ Some (reading_in c.functions None) = sym e ∙ ap (run (reading_in [] None)) (sym (append-nil ds) ∙ sym lines) ∙ code_run c is in
    record { nothing = sym text; closed = ap (λ q. q.current) (same_Some r _ same) }
more_ends ds (m ∷ ms) r rest c e un is lines text = absurd (has_newline m ms rest text un)

listing_ends : (ds : List (List ℕ)) (r : Reading) (rest bytes : List ℕ) → run (reading_in [] None) ds ≡ Some r → HasNone rest → AllUnbroken (first_line ∷ ds)
    → text_of (first_line ∷ ds) ++ rest ≡ bytes → IsListing bytes → Ends r rest
unfolding code_lines
listing_ends ds r rest bytes e un lines_un all is =
    let p = prefix (code_lines is.code) (first_line ∷ ds) rest (code_unbroken is.code is.is) lines_un (is.text ∙ sym all) in
    more_ends ds p.more r rest is.code e un is.is (tail_same first_line _ _ p.lines) p.text

-- what was read of lines that begin a code
abbrev pub Exact : List ℕ → Result Code ListingErr → Type 0
Exact bytes (Ok c) = (is_code c ≡ true) × (written c ≡ bytes)
Exact bytes (Err (Syntax n)) = FaultsAt bytes n
Exact bytes (Err Version) = ⊥
Exact bytes (Err NoMemory) = ⊥

unbroken_front : (xs ys : List (List ℕ)) → AllUnbroken (xs ++ ys) → AllUnbroken xs
unbroken_front xs ys h = (and_parts _ _ (sym (list_all-append (list_all other_than_newline) xs ys) ∙ h)).0

-- the lines that were read, and what is known of them
record At (bytes : List ℕ) (ds : List (List ℕ)) (r : Reading) (ls : List (List ℕ)) (n : ℕ) : Type 0 where
  lines : ended_of bytes ≡ (first_line ∷ ds) ++ ls
  read : run (reading_in [] None) ds ≡ Some r
  count : n ≡ length (first_line ∷ ds)

front_at : {bytes : List ℕ} {ds : List (List ℕ)} {r : Reading} {ls : List (List ℕ)} {n : ℕ} → At bytes ds r ls n → take n (ended_of bytes) ≡ first_line ∷ ds
front_at {bytes} {ds} {r} {ls} {n} at = ap (take n) at.lines ∙ ap (λ k. take k ((first_line ∷ ds) ++ ls)) at.count ∙ take-append_seam (first_line ∷ ds) ls

good_at : {bytes : List ℕ} {ds : List (List ℕ)} {r : Reading} {ls : List (List ℕ)} {n : ℕ} → At bytes ds r ls n → Begins (take n (ended_of bytes))
good_at {bytes} {ds} {r} {ls} {n} at = subst Begins (sym (front_at at)) (begins_after ds r at.read)

short_fault : (bytes : List ℕ) (ds : List (List ℕ)) (r : Reading) (n : ℕ) → At bytes ds r [] n → (Ends r (behind_of bytes) → ⊥) → FaultsAt bytes (told (n + 1))
short_fault bytes ds r n at open_ =
    let size : length (ended_of bytes) ≡ n = ap length at.lines ∙ omega (arith, length-append (first_line ∷ ds) [], at.count) in
    record {
      before = n;
      number = refl;
      within = omega arith;
      good = good_at at;
      bad = λ l b. absurd (omega arith);
      short = λ l is. open_ (listing_ends ds r (behind_of bytes) bytes at.read (behind_unbroken bytes)
          (unbroken_front (first_line ∷ ds) [] (subst AllUnbroken at.lines (ended_unbroken bytes)))
          (ap (λ ls. text_of ls ++ behind_of bytes) (sym (at.lines ∙ append-nil (first_line ∷ ds))) ∙ whole bytes) is);
    }

line_fault : (bytes : List ℕ) (ds : List (List ℕ)) (r : Reading) (l : List ℕ) (ls : List (List ℕ)) (n : ℕ) → At bytes ds r (l ∷ ls) n → next_line r l ≡ None → FaultsAt bytes (told (n + 1))
line_fault bytes ds r l ls n at none =
    let size : length (ended_of bytes) ≡ n + 1 + length ls = ap length at.lines ∙ omega (arith, length-append (first_line ∷ ds) (l ∷ ls), at.count) in
    let with_line : take (n + 1) (ended_of bytes) ≡ first_line ∷ (ds ++ l ∷ []) =
    ap (take (n + 1)) at.lines ∙ ap (λ k. take (k + 1) ((first_line ∷ ds) ++ l ∷ ls)) at.count ∙ take-append-add (first_line ∷ ds) (l ∷ ls) 1 in
    let parted : ended_of bytes ≡ (first_line ∷ (ds ++ l ∷ [])) ++ ls = at.lines ∙ sym (append_assoc (first_line ∷ ds) (l ∷ []) ls) in
    record {
      before = n;
      number = refl;
      within = omega arith;
      good = good_at at;
      bad = λ w b. not_begins ds r l at.read none (unbroken_front (first_line ∷ (ds ++ l ∷ [])) ls (subst AllUnbroken parted (ended_unbroken bytes))) (subst Begins with_line b);
      short = λ e is. absurd (omega arith);
    }

code_is : (bytes : List ℕ) (ds : List (List ℕ)) (r : Reading) (n : ℕ) → At bytes ds r [] n → r.current ≡ None → behind_of bytes ≡ []
    → (is_code (record { functions = r.functions }) ≡ true) × (written (record { functions = r.functions }) ≡ bytes)
unfolding code_lines is_code
code_is bytes ds r n at closed nothing =
    let ran = run_sound (reading_in [] None) ds r (record { functions = refl; last = omega arith }) at.read in
    let fits : Fits r.functions None = subst (Fits r.functions) closed ran.fits in
    let lines : functions_lines 0 r.functions ≡ ds = sym (append-nil (functions_lines 0 r.functions)) ∙ ap (lines_in r.functions) (sym closed) ∙ ran.lines in (
      and_from (list_all is_function r.functions) (nat_le (length r.functions) (2 ^ 64)) fits.functions (le-leb _ _ fits.last),
      ap (λ ls. text_of (first_line ∷ ls)) lines ∙ ap text_of (sym (at.lines ∙ append-nil (first_line ∷ ds)))
          ∙ sym (append-nil (text_of (ended_of bytes))) ∙ ap (λ t. text_of (ended_of bytes) ++ t) (sym nothing) ∙ whole bytes,
    )

not_none : (f : FunCode) → ◌≡◌ {A = Option FunCode} (Some f) None → ⊥
not_none f e = none-some f (sym e)

finish_exact : (bytes : List ℕ) (ds : List (List ℕ)) (r : Reading) (n : ℕ) (current : Option FunCode) (rest : List ℕ) → At bytes ds r [] n → r.current ≡ current → behind_of bytes ≡ rest
    → Exact bytes (finished (n + 1) r.functions current rest)
finish_exact bytes ds r n None [] at c e = code_is bytes ds r n at c e
finish_exact bytes ds r n None (b ∷ bs) at c e = short_fault bytes ds r n at (λ ends. let wrong : b ∷ bs ≡ [] = sym e ∙ ends.nothing in cc)
finish_exact bytes ds r n (Some f) rest at c e = short_fault bytes ds r n at (λ ends. not_none f (sym c ∙ ends.closed))

next_exact : (bytes : List ℕ) (l : List ℕ) (ls ds : List (List ℕ)) (r : Reading) (n : ℕ) (o : Option Reading) → At bytes ds r (l ∷ ls) n → next_line r l ≡ o
    → ((q : Reading) → o ≡ Some q → Exact bytes (read_on (n + 1) q ls (behind_of bytes))) → Exact bytes (continued (n + 1) o (λ q. read_on (n + 1) q ls (behind_of bytes)))
next_exact bytes l ls ds r n None at e more = line_fault bytes ds r l ls n at e
next_exact bytes l ls ds r n (Some q) at e more = more q refl

read_exact : (bytes : List ℕ) (ls ds : List (List ℕ)) (r : Reading) (n : ℕ) → At bytes ds r ls n → Exact bytes (read_on n r ls (behind_of bytes))
read_exact bytes [] ds r n at = finish_exact bytes ds r n r.current (behind_of bytes) at refl refl
read_exact bytes (l ∷ ls) ds r n at = next_exact bytes l ls ds r n (next_line r l) at refl (λ q e.
    read_exact bytes ls (ds ++ l ∷ []) q (n + 1) (record {
      lines = at.lines ∙ sym (append_assoc (first_line ∷ ds) (l ∷ []) ls);
      read = run-append (reading_in [] None) ds (l ∷ []) ∙ ap (option_and_then (λ p. run p (l ∷ []))) at.read ∙ ap (option_and_then (λ p. run p [])) e;
      count = omega (arith, at.count, length-append ds (l ∷ []));
    }))

-- the same of a whole text
abbrev pub IsAnswer : List ℕ → Result Code ListingErr → Type 0
IsAnswer bytes (Ok c) = (is_code c ≡ true) × (written c ≡ bytes)
IsAnswer bytes (Err (Syntax n)) = (is_other_version (first_of bytes) ≡ false) × FaultsAt bytes n
IsAnswer bytes (Err Version) = is_other_version (first_of bytes) ≡ true
IsAnswer bytes (Err NoMemory) = ⊥

with_version : (bytes : List ℕ) (a : Result Code ListingErr) → is_other_version (first_of bytes) ≡ false → Exact bytes a → IsAnswer bytes a
with_version bytes (Ok c) v h = h
with_version bytes (Err (Syntax n)) v h = (v, h)
with_version bytes (Err Version) v h = absurd h
with_version bytes (Err NoMemory) v h = h

first_is_no_other : is_other_version first_line ≡ false
unfolding is_other_version
first_is_no_other = refl

-- a first line that is refused
refused : (bytes line : List ℕ) → first_of bytes ≡ line → FaultsAt bytes 1 → IsAnswer bytes (Err (first_fault line))
refused bytes line is fault = elim (cases_Bool (is_other_version line)) [
  | inl other ↦ subst (λ e. IsAnswer bytes (Err e)) (sym (cond-true (is_other_version line) Version (Syntax 1) other)) (ap is_other_version is ∙ other)
  | inr same ↦ subst (λ e. IsAnswer bytes (Err e)) (sym (cond-false (is_other_version line) Version (Syntax 1) same)) (ap is_other_version is ∙ same, fault)
]

nothing_begins : Begins []
nothing_begins =
    let b = begins_after [] (reading_in [] None) refl in
    record { code = b.code; is = b.is; rest = text_of (first_line ∷ []) ++ b.rest; text = b.text }

empty_fault : (bytes : List ℕ) → HasNone bytes → FaultsAt bytes 1
unfolding code_lines
empty_fault bytes un =
    let none = ended_none bytes un in
    let size : length (ended_of bytes) ≡ 0 = ap length none in
    record {
      before = 0;
      number = refl;
      within = omega arith;
      good = nothing_begins;
      bad = λ l b. absurd (omega arith);
      short = λ l is. has_newline first_line (functions_lines 0 is.code.functions) bytes is.text un;
    }

other_fault : (bytes line behind : List ℕ) → ended_of bytes ≡ line ∷ ended_of behind → (line ≡ first_line → ⊥) → HasNone line → FaultsAt bytes 1
unfolding code_lines
other_fault bytes line behind lines other un =
    let size : length (ended_of bytes) ≡ suc (length (ended_of behind)) = ap length lines in
    let one : take 1 (ended_of bytes) ≡ line ∷ [] = ap (take 1) lines in
    record {
      before = 0;
      number = refl;
      within = omega arith;
      good = nothing_begins;
      bad = λ l b. (let c = subst Begins one b in
          let p = prefix (code_lines c.code) (line ∷ []) c.rest (code_unbroken c.code c.is) (and_from (list_all other_than_newline line) true un refl) c.text in
          other (heads_same _ _ _ _ p.lines));
      short = λ l is. absurd (omega arith);
    }

from_exact : (bytes : List ℕ) (o : Option (List ℕ × List ℕ)) → first_ended bytes ≡ o → IsAnswer bytes (listing_from bytes o)
unfolding read_bytes
from_exact bytes None e =
    let un = cut_none bytes e in
    refused bytes bytes (first_whole bytes e) (empty_fault bytes un)
from_exact bytes (Some p) e =
    let cut = cut_some bytes p.0 p.1 e in
    let lines : ended_of bytes ≡ p.0 ∷ ended_of p.1 = ap ended_of cut.whole ∙ ended_cons p.0 p.1 cut.unbroken in
    let rest : behind_of bytes ≡ behind_of p.1 = ap behind_of cut.whole ∙ behind_cons p.0 p.1 cut.unbroken in
    let first = first_front bytes p.0 p.1 e in
    elim (cases_Bool (bytes_eq p.0 first_line)) [
      | inl is ↦ (let same : p.0 ≡ first_line = (bytes_eq-Decides p.0 first_line).0 is in
          let at : At bytes [] (reading_in [] None) (ended_of p.1) 1 = record { lines = lines ∙ ap (λ t. t ∷ ended_of p.1) same; read = refl; count = refl } in
          let exact = read_exact bytes (ended_of p.1) [] (reading_in [] None) 1 at in
          subst (IsAnswer bytes) (ap (read_on 1 (reading_in [] None) (ended_of p.1)) rest ∙ sym (cond-true (bytes_eq p.0 first_line) _ (Err (first_fault p.0)) is))
          (with_version bytes _ (ap is_other_version (first ∙ same) ∙ first_is_no_other) exact))
      | inr isnt ↦ subst (IsAnswer bytes) (sym (cond-false (bytes_eq p.0 first_line) (read_bytes 1 (reading_in [] None) p.1) (Err (first_fault p.0)) isnt))
          (refused bytes p.0 first (other_fault bytes p.0 p.1 lines (λ same. let yes_ : bytes_eq p.0 first_line ≡ true = (bytes_eq-Decides p.0 first_line).1 same in cc) cut.unbroken))
    ]

pub listing_exact : (bytes : List ℕ) → IsAnswer bytes (listing_of bytes)
unfolding listing_of
listing_exact bytes = from_exact bytes (first_ended bytes) refl

-- two codes with one text are one

no_text : (ls : List (List ℕ)) → text_of ls ≡ [] → ls ≡ []
no_text [] e = refl
no_text (l ∷ ls) e = absurd (omega (arith, ap length e, length-append (l ++ 10 ∷ []) (text_of ls), length-append l (10 ∷ [])))

lines_same : (c d : Code) → is_code c ≡ true → is_code d ≡ true → written c ≡ written d → code_lines c ≡ code_lines d
lines_same c d h k e =
    let p = prefix (code_lines c) (code_lines d) [] (code_unbroken c h) (code_unbroken d k) (e ∙ sym (append-nil (written d))) in
    p.lines ∙ ap (λ ls. code_lines d ++ ls) (no_text p.more p.text) ∙ append-nil (code_lines d)

pub codes_same : (c d : Code) → is_code c ≡ true → is_code d ≡ true → written c ≡ written d → c ≡ d
unfolding code_lines
codes_same c d h k e =
    let lines : functions_lines 0 c.functions ≡ functions_lines 0 d.functions = tail_same first_line _ _ (lines_same c d h k e) in
    let same : Some (reading_in c.functions None) ≡ Some (reading_in d.functions None) = sym (code_run c h) ∙ ap (run (reading_in [] None)) lines ∙ code_run d k in
    ap (λ (r : Reading). record { functions = r.functions }) (same_Some _ _ same)

-- There is one answer.

from_first : (xs : List (List ℕ)) (m n : ℕ) → m ≤ n → take m (take n xs) ≡ take m xs
from_first [] zero n l = refl
from_first [] (suc m) zero l = absurd (omega arith)
from_first [] (suc m) (suc n) l = refl
from_first (x ∷ xs) zero n l = refl
from_first (x ∷ xs) (suc m) zero l = absurd (omega arith)
from_first (x ∷ xs) (suc m) (suc n) l = ap (λ t. x ∷ t) (from_first xs m n (omega arith))

begins_before : (xs : List (List ℕ)) (m n : ℕ) → m ≤ n → Begins (take n xs) → Begins (take m xs)
begins_before xs m n l b =
    subst Begins (from_first xs m n l) (begins_front (take m (take n xs)) (drop m (take n xs)) (subst Begins (sym (take-append-drop m (take n xs))) b))

pub faults_once : (bytes : List ℕ) (m n : ℕ) → FaultsAt bytes m → FaultsAt bytes n → m ≡ n
faults_once bytes m n a b = elim (cases_order a.before b.before) [
  | inl same ↦ a.number ∙ ap (λ k. told (k + 1)) same ∙ sym b.number
  | inr apart ↦ elim apart [
    | inl less ↦ (let last = b.within in absurd (a.bad (omega arith) (begins_before (ended_of bytes) (a.before + 1) b.before (omega arith) b.good)))
    | inr more ↦ (let last = a.within in absurd (b.bad (omega arith) (begins_before (ended_of bytes) (b.before + 1) a.before (omega arith) a.good)))
  ]
]

-- a text of a code has no fault
listing_has_none : (bytes : List ℕ) (n : ℕ) → IsListing bytes → FaultsAt bytes n → ⊥
listing_has_none bytes n is f = elim (cases_order f.before (length (ended_of bytes))) [
  | inl same ↦ f.short same is
  | inr apart ↦ elim apart [
    | inl less ↦ (let k = f.before + 1 in
        let lines = ended_of bytes in
        let text : text_of lines ++ behind_of bytes ≡ bytes = whole bytes in
        f.bad less (begins_front (take k lines) (drop k lines) (subst Begins (sym (take-append-drop k lines)) (record {
          code = is.code;
          is = is.is;
          rest = behind_of bytes;
          text = is.text ∙ sym text;
        }))))
    | inr more ↦ (let w = f.within in absurd (omega arith))
  ]
]

-- the text of a code names version 1
listing_is_one : (bytes : List ℕ) → IsListing bytes → is_other_version (first_of bytes) ≡ false
unfolding code_lines
listing_is_one bytes is =
    let lines = functions_lines 0 is.code.functions in
    let text : bytes ≡ first_line ++ 10 ∷ text_of lines = sym is.text in
    let front : first_of (first_line ++ 10 ∷ text_of lines) ≡ first_line = refl in
    ap is_other_version (ap first_of text ∙ front) ∙ first_is_no_other

ok_once : (bytes : List ℕ) (c : Code) (a : Result Code ListingErr) → IsAnswer bytes a → is_code c ≡ true → written c ≡ bytes → a ≡ Ok c
ok_once bytes c (Ok d) h is text = ap Ok (codes_same d c h.0 is (h.1 ∙ sym text))
ok_once bytes c (Err (Syntax n)) h is text = absurd (listing_has_none bytes n (record { code = c; is = is; text = text }) h.1)
ok_once bytes c (Err Version) h is text = let one = listing_is_one bytes (record { code = c; is = is; text = text }) in cc
ok_once bytes c (Err NoMemory) h is text = absurd h

syntax_once : (bytes : List ℕ) (n : ℕ) (a : Result Code ListingErr) → IsAnswer bytes a → is_other_version (first_of bytes) ≡ false → FaultsAt bytes n → a ≡ Err (Syntax n)
syntax_once bytes n (Ok d) h v f = absurd (listing_has_none bytes n (record { code = d; is = h.0; text = h.1 }) f)
syntax_once bytes n (Err (Syntax m)) h v f = ap (λ k. Err (Syntax k)) (faults_once bytes m n h.1 f)
syntax_once bytes n (Err Version) h v f = cc
syntax_once bytes n (Err NoMemory) h v f = absurd h

version_once : (bytes : List ℕ) (a : Result Code ListingErr) → IsAnswer bytes a → is_other_version (first_of bytes) ≡ true → a ≡ Err Version
version_once bytes (Ok d) h v = let one = listing_is_one bytes (record { code = d; is = h.0; text = h.1 }) in cc
version_once bytes (Err (Syntax n)) h v = let one = h.0 in cc
version_once bytes (Err Version) h v = refl
version_once bytes (Err NoMemory) h v = absurd h

-- an answer is what the text is, and nothing else is

pub answered : (bytes : List ℕ) (r : Result Code ListingErr) → Gives r (listing_of bytes) → IsReading bytes r
answered bytes (Ok c) g = subst (IsAnswer bytes) (sym g) (listing_exact bytes)
answered bytes (Err (Syntax n)) g = subst (IsAnswer bytes) (sym g) (listing_exact bytes)
answered bytes (Err Version) g = subst (IsAnswer bytes) (sym g) (listing_exact bytes)
answered bytes (Err NoMemory) g = tt

pub only_ok : (bytes : List ℕ) (r : Result Code ListingErr) → Gives r (listing_of bytes) → (c : Code) → is_code c ≡ true → written c ≡ bytes → Gives r (Ok c)
only_ok bytes r g c is text = subst (Gives r) (ok_once bytes c (listing_of bytes) (listing_exact bytes) is text) g

pub only_syntax : (bytes : List ℕ) (r : Result Code ListingErr) → Gives r (listing_of bytes) → (n : ℕ) → is_other_version (first_of bytes) ≡ false → FaultsAt bytes n → Gives r (Err (Syntax n))
only_syntax bytes r g n v f = subst (Gives r) (syntax_once bytes n (listing_of bytes) (listing_exact bytes) v f) g

pub only_version : (bytes : List ℕ) (r : Result Code ListingErr) → Gives r (listing_of bytes) → is_other_version (first_of bytes) ≡ true → Gives r (Err Version)
only_version bytes r g v = subst (Gives r) (version_once bytes (listing_of bytes) (listing_exact bytes) v) g

-- the listing of a code is read as this code
pub read_is_code : (c : Code) → is_code c ≡ true → (read : Result Code ListingErr) → IsReading (written c) read → Gives read (Ok c)
read_is_code c is (Ok d) h = ap Ok (codes_same d c h.0 is h.1)
read_is_code c is (Err (Syntax n)) h = absurd (listing_has_none (written c) n (record { code = c; is = is; text = refl }) h.1)
read_is_code c is (Err Version) h = let one = listing_is_one (written c) (record { code = c; is = is; text = refl }) in cc
read_is_code c is (Err NoMemory) h = tt
