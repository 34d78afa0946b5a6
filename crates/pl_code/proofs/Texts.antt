-- Texts of lines.
use Rattle.std.proofs.Common.{◌≡◌, ℕ, ◌+◌, ◌^◌, ◌<◌, ◌≤◌, Bool, true, false, not, ◌||◌, List, [], ◌∷◌, ◌++◌, length, map, refl, sym, subst, ap, ◌∙◌, arith, inl, inr, append_assoc}
use Rattle.std.specs.Prelude.{nat_le, ◌==◌}
use Rattle.std.specs.List.{list_all, list_any}
use Rattle.std.proofs.lemmas.Bool.{and_parts, and_from, or_parts, or_right, leb-true, lt-ltb, eqb-true, cond-true, cond-false, cases_Bool}
use Rattle.std.proofs.lemmas.List.{length-append}
use Rattle.std.proofs.lemmas.List.Folds.{list_all-append}
use Rattle.listing_parts.proofs.Unbroken.{other_than_newline}
use Rattle.pl_code.specs.declared.code.FunCode.{FunCode}
use Rattle.pl_code.specs.declared.code.Code.{Code}
use Rattle.pl_code.specs.declared.head.Head.TheVariants as head
use Rattle.pl_code.specs.declared.line.Line.TheVariants.{Fun, Caught, Do, End}
use Rattle.pl_code.specs.Words.{head_word}
use Rattle.pl_code.specs.Instructions.{instruction_text, is_instruction}
use Rattle.pl_code.specs.Listing.{text_of, header_text, trap_text, function_lines, functions_lines, code_lines, is_trap, is_function, is_code}
use Rattle.pl_code.specs.Lines.{line_text, is_line}
use Rattle.pl_code.specs.Reading.{is_newline, ended_of, before_ended, behind_of}
use Rattle.pl_code.proofs.LineTexts.{line_unbroken}
use Rattle.pl_code.proofs.Cuts.{HasNone, ended_none}

abbrev pub all_unbroken : List (List ℕ) → Bool
all_unbroken ls = list_all (list_all other_than_newline) ls

abbrev pub AllUnbroken : List (List ℕ) → Type 0
AllUnbroken ls = all_unbroken ls ≡ true

pub unbroken-append : (xs ys : List (List ℕ)) → AllUnbroken xs → AllUnbroken ys → AllUnbroken (xs ++ ys)
unbroken-append xs ys h k = list_all-append (list_all other_than_newline) xs ys ∙ and_from (all_unbroken xs) (all_unbroken ys) h k

all_map : {A : Type 0} (p : A → Bool) (t : A → List ℕ) → ((x : A) → p x ≡ true → HasNone (t x)) → (xs : List A) → list_all p xs ≡ true → AllUnbroken (map t xs)
all_map p t each [] h = refl
all_map p t each (x ∷ xs) h = let parts = and_parts (p x) (list_all p xs) h in and_from (list_all other_than_newline (t x)) _ (each x parts.0) (all_map p t each xs parts.1)

function_unbroken : (n : ℕ) (f : FunCode) → n < 2 ^ 64 → is_function f ≡ true → AllUnbroken (function_lines n f)
unfolding line_text is_line
function_unbroken n f small h =
    let parts = and_parts (list_all is_trap f.traps) (list_all is_instruction f.lines) h in
    let header = line_unbroken (Fun (record { number = n; loops = f.loops; result = f.result; params = f.params; locals = f.locals })) (lt-ltb n (2 ^ 64) small) in
    let last : AllUnbroken (head_word head.End ∷ []) = and_from (list_all other_than_newline (head_word head.End)) true (line_unbroken End refl).unbroken refl in
    and_from (list_all other_than_newline (header_text n f.loops f.result f.params f.locals)) _ header.unbroken
    (unbroken-append (map trap_text f.traps) (map instruction_text f.lines ++ head_word head.End ∷ []) (all_map is_trap trap_text (λ t k. (line_unbroken (Caught t) k).unbroken) f.traps parts.0)
    (unbroken-append (map instruction_text f.lines) (head_word head.End ∷ []) (all_map is_instruction instruction_text (λ i k. (line_unbroken (Do i) k).unbroken) f.lines parts.1) last))

functions_unbroken : (n : ℕ) (fs : List FunCode) → n + length fs ≤ 2 ^ 64 → list_all is_function fs ≡ true → AllUnbroken (functions_lines n fs)
functions_unbroken n [] l h = refl
functions_unbroken n (f ∷ fs) l h =
    let parts = and_parts (is_function f) (list_all is_function fs) h in
    unbroken-append (function_lines n f) (functions_lines (n + 1) fs) (function_unbroken n f (omega arith) parts.0) (functions_unbroken (n + 1) fs (omega arith) parts.1)

-- the lines of a code have no newline
pub code_unbroken : (c : Code) → is_code c ≡ true → AllUnbroken (code_lines c)
unfolding code_lines is_code
code_unbroken c h =
    let parts = and_parts (list_all is_function c.functions) (nat_le (length c.functions) (2 ^ 64)) h in
    let small = leb-true (length c.functions) (2 ^ 64) parts.1 in
    functions_unbroken 0 c.functions (omega arith) parts.0

record Same (a b x y : List ℕ) : Type 0 where
  line : a ≡ b
  rest : x ≡ y

newline_is_one : (c : ℕ) → c ≡ 10 → other_than_newline c ≡ true → ⊥
newline_is_one c e h = let wrong : other_than_newline c ≡ false = ap other_than_newline e in cc

same_first : (a b x y : List ℕ) → HasNone a → HasNone b → a ++ 10 ∷ x ≡ b ++ 10 ∷ y → Same a b x y
same_first [] [] x y h k e = record { line = refl; rest = cc }
same_first [] (d ∷ ds) x y h k e =
    let is : d ≡ 10 = cc in absurd (newline_is_one d is (and_parts (other_than_newline d) _ k).0)
same_first (c ∷ cs) [] x y h k e =
    let is : c ≡ 10 = cc in absurd (newline_is_one c is (and_parts (other_than_newline c) _ h).0)
same_first (c ∷ cs) (d ∷ ds) x y h k e =
    let first : c ≡ d = cc in
    let more : cs ++ 10 ∷ x ≡ ds ++ 10 ∷ y = cc in
    let rest = same_first cs ds x y (and_parts (other_than_newline c) _ h).1 (and_parts (other_than_newline d) _ k).1 more in
    record { line = ap (λ t. c ∷ t) rest.line ∙ ap (λ z. z ∷ ds) first; rest = rest.rest }

-- lines that a text begins with are its first lines
pub record Prefix (ls ms : List (List ℕ)) (rest : List ℕ) : Type 0 where
  pub more : List (List ℕ)
  pub lines : ls ≡ ms ++ more
  pub text : text_of more ≡ rest

pub prefix : (ls ms : List (List ℕ)) (rest : List ℕ) → AllUnbroken ls → AllUnbroken ms → text_of ls ≡ text_of ms ++ rest → Prefix ls ms rest
prefix ls [] rest h k e = record { more = ls; lines = refl; text = e }
prefix [] (m ∷ ms) rest h k e =
    absurd (omega (arith, ap length e, length-append ((m ++ 10 ∷ []) ++ text_of ms) rest, length-append (m ++ 10 ∷ []) (text_of ms), length-append m (10 ∷ [])))
prefix (l ∷ ls) (m ∷ ms) rest h k e =
    let one = and_parts (list_all other_than_newline l) (all_unbroken ls) h in
    let two = and_parts (list_all other_than_newline m) (all_unbroken ms) k in
    let even : l ++ 10 ∷ text_of ls ≡ m ++ 10 ∷ (text_of ms ++ rest) =
    sym (append_assoc l (10 ∷ []) (text_of ls)) ∙ e ∙ append_assoc (m ++ 10 ∷ []) (text_of ms) rest ∙ append_assoc m (10 ∷ []) (text_of ms ++ rest) in
    let same = same_first l m (text_of ls) (text_of ms ++ rest) one.0 two.0 even in
    let p = prefix ls ms rest one.1 two.1 same.rest in
    record { more = p.more; lines = ap (λ t. l ∷ t) p.lines ∙ ap (λ z. z ∷ (ms ++ p.more)) same.line; text = p.text }

-- a text that has a line has a newline
pub has_newline : (m : List ℕ) (ms : List (List ℕ)) (rest : List ℕ) → text_of (m ∷ ms) ≡ rest → HasNone rest → ⊥
has_newline m ms rest e h =
    let whole : HasNone ((m ++ 10 ∷ []) ++ text_of ms) = subst HasNone (sym e) h in
    let first = and_parts (list_all other_than_newline (m ++ 10 ∷ [])) (list_all other_than_newline (text_of ms)) (sym (list_all-append other_than_newline (m ++ 10 ∷ []) (text_of ms)) ∙ whole) in
    let last = and_parts (list_all other_than_newline m) (list_all other_than_newline (10 ∷ [])) (sym (list_all-append other_than_newline m (10 ∷ [])) ∙ first.0) in
    cc

-- the lines of a text

record Lines (bs : List ℕ) : Type 0 where
  first : List ℕ
  others : List (List ℕ)
  is : ended_of bs ≡ first ∷ others

ended_some : (bs : List ℕ) → list_any is_newline bs ≡ true → Lines bs
ended_some [] h = cc
ended_some (b ∷ bs) h = elim (cases_Bool (b == 10)) [
  | inl is ↦ record { first = []; others = ended_of bs; is = cond-true _ _ _ is }
  | inr isnt ↦ (let rest : list_any is_newline bs ≡ true = ap (λ t. t || list_any is_newline bs) (sym isnt) ∙ h in
      let more = ended_some bs rest in
      record { first = b ∷ more.first; others = more.others; is = cond-false _ _ _ isnt ∙ ap (before_ended b) more.is })
]

none_any : (bs : List ℕ) → list_any is_newline bs ≡ false → HasNone bs
none_any [] h = refl
none_any (b ∷ bs) h =
    let parts = or_parts (is_newline b) (list_any is_newline bs) h in
    and_from (other_than_newline b) _ (ap not parts.0) (none_any bs parts.1)

pub behind_unbroken : (bs : List ℕ) → HasNone (behind_of bs)
behind_unbroken [] = refl
behind_unbroken (b ∷ bs) = elim (cases_Bool ((b == 10) || list_any is_newline bs)) [
  | inl is ↦ subst HasNone (sym (cond-true _ _ _ is)) (behind_unbroken bs)
  | inr isnt ↦ subst HasNone (sym (cond-false _ _ _ isnt)) (none_any (b ∷ bs) isnt)
]

before_unbroken : (b : ℕ) (ls : List (List ℕ)) → other_than_newline b ≡ true → AllUnbroken ls → AllUnbroken (before_ended b ls)
before_unbroken b [] o h = refl
before_unbroken b (l ∷ ls) o h =
    let parts = and_parts (list_all other_than_newline l) (all_unbroken ls) h in
    and_from (list_all other_than_newline (b ∷ l)) (all_unbroken ls) (and_from (other_than_newline b) (list_all other_than_newline l) o parts.0) parts.1

pub ended_unbroken : (bs : List ℕ) → AllUnbroken (ended_of bs)
ended_unbroken [] = refl
ended_unbroken (b ∷ bs) = elim (cases_Bool (b == 10)) [
  | inl is ↦ subst AllUnbroken (sym (cond-true _ _ _ is)) (ended_unbroken bs)
  | inr isnt ↦ subst AllUnbroken (sym (cond-false _ _ _ isnt)) (before_unbroken b (ended_of bs) (ap not isnt) (ended_unbroken bs))
]

pub whole : (bs : List ℕ) → text_of (ended_of bs) ++ behind_of bs ≡ bs
whole [] = refl
whole (b ∷ bs) = elim (cases_Bool (b == 10)) [
  | inl is ↦ ap (λ ls. text_of ls ++ behind_of (b ∷ bs)) (cond-true (b == 10) ([] ∷ ended_of bs) (before_ended b (ended_of bs)) is)
      ∙ ap (λ t. 10 ∷ (text_of (ended_of bs) ++ t)) (cond-true ((b == 10) || list_any is_newline bs) (behind_of bs) (b ∷ bs) (ap (λ t. t || list_any is_newline bs) is))
      ∙ ap (λ t. 10 ∷ t) (whole bs) ∙ ap (λ z. z ∷ bs) (sym (eqb-true b 10 is))
  | inr isnt ↦ elim (cases_Bool (list_any is_newline bs)) [
    | inl some ↦ (let more = ended_some bs some in
        ap (λ ls. text_of ls ++ behind_of (b ∷ bs)) (cond-false (b == 10) ([] ∷ ended_of bs) (before_ended b (ended_of bs)) isnt ∙ ap (before_ended b) more.is)
        ∙ ap (λ t. b ∷ (text_of (more.first ∷ more.others) ++ t)) (cond-true ((b == 10) || list_any is_newline bs) (behind_of bs) (b ∷ bs) (or_right (b == 10) (list_any is_newline bs) some))
        ∙ ap (λ ls. b ∷ (text_of ls ++ behind_of bs)) (sym more.is) ∙ ap (λ t. b ∷ t) (whole bs))
    | inr none ↦ ap (λ ls. text_of ls ++ behind_of (b ∷ bs)) (cond-false (b == 10) ([] ∷ ended_of bs) (before_ended b (ended_of bs)) isnt ∙ ap (before_ended b) (ended_none bs (none_any bs none)))
        ∙ cond-false ((b == 10) || list_any is_newline bs) (behind_of bs) (b ∷ bs) (ap (λ t. t || list_any is_newline bs) isnt ∙ none)
  ]
]
