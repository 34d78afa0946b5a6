-- The search for the longest path at the front of a text that names a class.
use Rattle.std.proofs.Common.{◌≡◌, ℕ, zero, suc, ◌+◌, ◌-◌, ◌<◌, ◌≤◌, Bool, true, false, ◌&&◌, List, [], ◌∷◌, ◌++◌, length, take, drop, Option, Some, None, sym, refl, ap, ◌∙◌, subst, arith, get_or, ⊎_elim, nat_lt, IsUtf8, add-zero}
use Rattle.std.specs.Prelude.{IsSome, ◌==◌}
use Rattle.std.specs.Str.{IsCharBoundary}
use Rattle.std.specs.List.{prefix_len, list_all}
use Rattle.std.proofs.lemmas.Bool.{false≢true}
use Rattle.std.proofs.lemmas.Bool.Decides.{nat_tests}
use Rattle.std.proofs.lemmas.Str.{IsCharBoundary-before_ascii, IsCharBoundary-after_ascii}
use Rattle.std.proofs.lemmas.List.{length-take-le, length-drop, take-append-drop, drop_at, drop-drop, append_assoc, get_or-drop, get_or-take}
use Rattle.std.proofs.str.Laws.{order}
use Rattle.std.proofs.Math.Seq.{take-append-add}
use Rattle.pl_lexer.specs.declared.found.Found.{Found}
use Rattle.pl_lexer.specs.declared.found.Found.TheVariants.{Nothing, Foreign, Blank, Leading}
use Rattle.pl_lexer.specs.declared.token.Kind.TheVariants.{ClassName}
use Rattle.pl_lexer.specs.Lexeme.{token}
use Rattle.pl_lexer.specs.Longest.{Finds}
use Rattle.pl_lexer.specs.Bytes.{begins, is_letter, is_name_byte}
use Rattle.pl_lexer.specs.Tables.{reserved_of}
use Rattle.pl_lexer.specs.Words.{goes_on, first_word, class_of}
use Rattle.pl_lexer.specs.Lengths.{dot_word_length, class_or}
use Rattle.pl_lexer.proofs.Runs.{both, run_passes, run_some, run_ends, run_within, run_reaches, begins_taken}
use Rattle.pl_lexer.proofs.Tested.{lead_by, none_is}
use Rattle.pl_lexer.proofs.Leading.{same_parts}
use Rattle.pl_lexer.proofs.Named.{PathIs, path_is, is_path-true, class_path, letter_name, path_reaches, first_taken}

-- what has been found is right as far as fronts of at most n bytes go
abbrev pub UpTo : (List ℕ → Option ℕ) → List ℕ → ℕ → Found → Type 0
UpTo names text n Nothing = (more left : List ℕ) → more ++ left ≡ text → length more ≤ n → IsSome (class_of names more left) → ⊥
UpTo names text n (Leading kind m) = (m ≤ n) × ((m ≤ length text) × ((class_of names (take m text) (drop m text) ≡ Some (token kind)) × ((more left : List ℕ) → more ++ left ≡ text → length more ≤ n → IsSome (class_of names more left) → length more ≤ m)))
UpTo names text n _ = ⊥

-- the paths between two lengths are all of the second
abbrev OneBetween : List ℕ → ℕ → ℕ → Type 0
OneBetween text n n' = (more left : List ℕ) → more ++ left ≡ text → n < length more → length more ≤ n' → PathIs more left → length more ≡ n'

front_is : (more left text : List ℕ) (n : ℕ) → more ++ left ≡ text → n ≤ length text → length more ≡ n → (more ≡ take n text) × (left ≡ drop n text)
front_is more left text n e within long = same_parts more left (take n text) (drop n text) (e ∙ sym (take-append-drop n text)) (long ∙ sym (length-take-le n text within))

up_to_none : (names : List ℕ → Option ℕ) (text : List ℕ) (n n' : ℕ) (best : Found) → UpTo names text n best → n ≤ n' → n' ≤ length text → names (take n' text) ≡ None → OneBetween text n n' → UpTo names text n' best
up_to_none names text n n' best a more_than within none between = at_best best a where
  no_class : (more left : List ℕ) → more ++ left ≡ text → n < length more → length more ≤ n' → IsSome (class_of names more left) → ⊥
  no_class more left e low high some =
      let path = class_path names more left some in
      let long = between more left e low high (path_is more left path) in
      let same = front_is more left text n' e within long in
      let unnamed : names more ≡ None = ap names same.0 ∙ none in
      let no : class_of names more left ≡ None = rw (path, unnamed) refl in
      none_is (class_of names more left) no some

  at_best : (best : Found) → UpTo names text n best → UpTo names text n' best
  at_best Nothing a = λ more left e high some. ⊎_elim (λ low. no_class more left e low high some) (λ low. a more left e low some) (order n (length more))
  at_best Foreign a = a
  at_best (Blank m) a = a
  at_best (Leading kind m) a = (omega (arith, a.0), (a.1.0, (a.1.1.0, λ more left e high some. ⊎_elim (λ low. absurd (no_class more left e low high some)) (λ low. a.1.1.1 more left e low some) (order n (length more)))))

up_to_some : (names : List ℕ → Option ℕ) (text : List ℕ) (n class : ℕ) → n ≤ length text → names (take n text) ≡ Some class → PathIs (take n text) (drop n text) → UpTo names text n (Leading (ClassName class) n)
up_to_some names text n class within named path = (omega arith, (within, (rw (is_path-true (take n text) (drop n text) path, named) refl, λ more left e high some. high)))

-- one path more is looked up
up_to_more : (names : List ℕ → Option ℕ) (text : List ℕ) (n n' : ℕ) (best : Found) → UpTo names text n best → n ≤ n' → n' ≤ length text → PathIs (take n' text) (drop n' text) → OneBetween text n n' → UpTo names text n' (class_or best (names (take n' text)) n')
up_to_more names text n n' best a more_than within path between = at_class (names (take n' text)) refl where
  at_class : (o : Option ℕ) → names (take n' text) ≡ o → UpTo names text n' (class_or best o n')
  at_class None f = up_to_none names text n n' best a more_than within f between
  at_class (Some class) f = up_to_some names text n' class within f path

nothing_yet : (names : List ℕ → Option ℕ) (text : List ℕ) → UpTo names text 0 Nothing
nothing_yet names text [] left e low some = false≢true some
nothing_yet names text (c ∷ cs) left e low some = omega arith

-- a text has been looked through up to the end of a path
pub record PathTo (names : List ℕ → Option ℕ) (text : List ℕ) (n : ℕ) (best : Found) : Type 0 where
  pub within : n ≤ length text
  pub path : PathIs (take n text) (drop n text)
  pub found : UpTo names text n best

no_dot : (b : ℕ) → is_name_byte b ≡ true → (b == 46) ≡ false
no_dot b e = at_dot (b == 46) refl where
  apart : (b : ℕ) → is_name_byte b ≡ true → (b == 46) ≡ true → ⊥
  apart b e f = grind (arith, nat_tests)

  at_dot : (v : Bool) → (b == 46) ≡ v → (b == 46) ≡ false
  at_dot true f = absurd (apart b e f)
  at_dot false f = f

word_goes : (bytes : List ℕ) → list_all is_name_byte bytes ≡ true → goes_on bytes ≡ true
word_goes [] e = refl
word_goes (b ∷ bs) e =
    let parts = both (is_name_byte b) (list_all is_name_byte bs) e in
    rw (no_dot b parts.0, parts.0, word_goes bs parts.1) refl

begins_append : (p : ℕ → Bool) (xs ys : List ℕ) → begins p xs ≡ true → begins p (xs ++ ys) ≡ true
begins_append p [] ys e = absurd (false≢true e)
begins_append p (x ∷ xs) ys e = e

goes_append : (xs ys : List ℕ) → goes_on xs ≡ true → goes_on ys ≡ true → goes_on (xs ++ ys) ≡ true
goes_append [] ys e f = f
goes_append (x ∷ xs) ys e f = at_dot (x == 46) refl (goes_append xs ys) where
  at_dot : (v : Bool) → (x == 46) ≡ v → (goes_on xs ≡ true → goes_on ys ≡ true → goes_on (xs ++ ys) ≡ true) → goes_on (x ∷ xs ++ ys) ≡ true
  at_dot true d rest = let parts = both (begins is_letter xs) (goes_on xs) (rw d at e) in rw (d, begins_append is_letter xs ys parts.0) (rest parts.1 f)
  at_dot false d rest = let parts = both (is_name_byte x) (goes_on xs) (rw d at e) in rw (d, parts.0) (rest parts.1 f)

goes_tail : (xs ys : List ℕ) → goes_on (xs ++ ys) ≡ true → goes_on ys ≡ true
goes_tail [] ys e = e
goes_tail (x ∷ xs) ys e = goes_tail xs ys (both _ (goes_on (xs ++ ys)) e).1

-- the first word
pub first_path : (names : List ℕ → Option ℕ) (text : List ℕ) → begins is_letter text ≡ true → reserved_of (take (prefix_len is_name_byte text) text) ≡ None → PathIs (take (prefix_len is_name_byte text) text) (drop (prefix_len is_name_byte text) text)
first_path names text letter fresh =
    let n = prefix_len is_name_byte text in
    let same : first_word (take n text) ≡ take n text = first_taken text n (omega arith) in
    record {
      letter = begins_taken is_letter n text (run_some is_name_byte text (letter_name text letter)) letter;
      on = word_goes (take n text) (run_passes is_name_byte text);
      fresh = ap reserved_of same ∙ fresh;
      whole = run_ends is_name_byte text;
    }

pub first_to : (names : List ℕ → Option ℕ) (text : List ℕ) → begins is_letter text ≡ true → reserved_of (take (prefix_len is_name_byte text) text) ≡ None → PathTo names text (prefix_len is_name_byte text) (class_or Nothing (names (take (prefix_len is_name_byte text) text)) (prefix_len is_name_byte text))
first_to names text letter fresh =
    let n = prefix_len is_name_byte text in
    let within = run_within is_name_byte text in
    let path = first_path names text letter fresh in
    record {
      within = within;
      path = path;
      found = up_to_more names text 0 n Nothing (nothing_yet names text) (omega arith) within path (λ more left e low high is. let reach = path_reaches more left text e is in omega arith);
    }

-- a dot and a word

record DotWord (rest : List ℕ) (n : ℕ) : Type 0 where
  dot : ℕ
  behind : List ℕ
  rest_is : rest ≡ dot ∷ behind
  is_dot : (dot == 46) ≡ true
  letter : begins is_letter behind ≡ true
  long : n ≡ suc (prefix_len is_name_byte behind)

dot_word : (rest : List ℕ) (n : ℕ) → Some n ≡ dot_word_length rest → DotWord rest n
dot_word [] n e = absurd cc
dot_word (b ∷ bs) n e = at_test (b == 46 && begins is_letter bs) refl where
  at_test : (v : Bool) → (b == 46 && begins is_letter bs) ≡ v → DotWord (b ∷ bs) n
  at_test true f =
      let parts = both (b == 46) (begins is_letter bs) f in
      let some : Some n ≡ Some (1 + prefix_len is_name_byte bs) = e ∙ rw f refl in
      let long : n ≡ 1 + prefix_len is_name_byte bs = cc in
      record { dot = b; behind = bs; rest_is = refl; is_dot = parts.0; letter = parts.1; long = omega arith }
  at_test false f = let none : Some n ≡ None = e ∙ rw f refl in absurd cc

drop_more : (text : List ℕ) (n m b : ℕ) (bs : List ℕ) → drop n text ≡ b ∷ bs → drop (n + suc m) text ≡ drop m bs
drop_more text n m b bs e = sym (drop-drop (suc m) n text) ∙ ap (drop (suc m)) e

take_more_of : (text : List ℕ) (n m : ℕ) → n ≤ length text → take (n + m) text ≡ take n text ++ take m (drop n text)
take_more_of text n m within =
    let whole = take-append-drop n text in
    let long = length-take-le n text within in
    ap (take (n + m)) (sym whole) ∙ take_split (take n text) (drop n text) n m long
  where
    take_split : (xs ys : List ℕ) (n m : ℕ) → length xs ≡ n → take (n + m) (xs ++ ys) ≡ xs ++ take m ys
    take_split xs ys n m long = rw (← long) (take-append-add xs ys m)

pub next_to : (names : List ℕ → Option ℕ) (text : List ℕ) (n m : ℕ) (best : Found) → begins is_letter text ≡ true → reserved_of (take (prefix_len is_name_byte text) text) ≡ None → PathTo names text n best → Some m ≡ dot_word_length (drop n text) → PathTo names text (n + m) (class_or best (names (take (n + m) text)) (n + m))
next_to names text n m best letter fresh a e =
    let w = dot_word (drop n text) m e in
    let r = prefix_len is_name_byte w.behind in
    let bound = run_within is_name_byte w.behind in
    let rest_long : length (drop n text) ≡ suc (length w.behind) = ap length w.rest_is in
    let within : n + m ≤ length text = omega (arith, length-drop n text, a.within, rest_long, w.long, bound) in
    let reach = path_reaches (take n text) (drop n text) text (take-append-drop n text) a.path in
    let reach' : prefix_len is_name_byte text ≤ n = omega (arith, reach, length-take-le n text a.within) in
    let first = run_some is_name_byte w.behind (letter_name w.behind w.letter) in
    let piece : take m (drop n text) ≡ w.dot ∷ take r w.behind = ap (take m) w.rest_is ∙ ap (λ k. take k (w.dot ∷ w.behind)) w.long in
    let front : take (n + m) text ≡ take n text ++ (w.dot ∷ take r w.behind) = take_more_of text n m a.within ∙ ap (λ x. take n text ++ x) piece in
    let behind : drop (n + m) text ≡ drop r w.behind = ap (λ k. drop (n + k) text) w.long ∙ drop_more text n r w.dot w.behind w.rest_is in
    let word : goes_on (w.dot ∷ take r w.behind) ≡ true = rw (w.is_dot, begins_taken is_letter r w.behind first w.letter) (word_goes (take r w.behind) (run_passes is_name_byte w.behind)) in
    let path : PathIs (take (n + m) text) (drop (n + m) text) = record {
      letter = begins_taken is_letter (n + m) text (omega (arith, w.long)) letter;
      on = ap goes_on front ∙ goes_append (take n text) (w.dot ∷ take r w.behind) a.path.on word;
      fresh = ap reserved_of (first_taken text (n + m) (omega (arith, reach'))) ∙ fresh;
      whole = ap (begins is_name_byte) behind ∙ run_ends is_name_byte w.behind;
    } in
    record {
      within = within;
      path = path;
      found = up_to_more names text n (n + m) best a.found (omega arith) within path (between w.behind w.dot r w.rest_is w.long refl);
    }
  where
    between : (bs : List ℕ) (b r : ℕ) → drop n text ≡ b ∷ bs → m ≡ suc r → r ≡ prefix_len is_name_byte bs → OneBetween text n (n + m)
    between bs b r rest_is long run more left parts low high path = ⊎_elim (λ short. absurd (inside short)) (λ enough. omega arith) (order (length more) (n + m)) where
      inside : length more < n + m → ⊥
      inside short =
          let k : ℕ = length more - suc n in
          let place : n + suc k ≡ length more = omega arith in
          let left_is : left ≡ drop k bs = sym (drop_at more left (length more) refl) ∙ ap (drop (length more)) parts ∙ ap (λ j. drop j text) (sym place) ∙ drop_more text n k b bs rest_is in
          let name = run_reaches is_name_byte bs k (omega (arith, long, run)) in
          false≢true (sym path.whole ∙ ap (begins is_name_byte) left_is ∙ name)

-- no path goes on beyond the last
pub last_to : (names : List ℕ → Option ℕ) (text : List ℕ) (n : ℕ) (best : Found) → PathTo names text n best → None ≡ dot_word_length (drop n text) → Finds (class_of names) text best
last_to names text n best a e = at_best best a.found where
  goes_no : (k : ℕ) (js left : List ℕ) → k ∷ js ++ left ≡ drop n text → goes_on (k ∷ js) ≡ true → ⊥
  goes_no k js left parts on = at_dot (k == 46) refl where
    at_dot : (v : Bool) → (k == 46) ≡ v → ⊥
    at_dot true f =
        let letter = begins_append is_letter js left (both (begins is_letter js) (goes_on js) (rw f at on)).0 in
        let some : dot_word_length (k ∷ (js ++ left)) ≡ Some (1 + prefix_len is_name_byte (js ++ left)) = rw (f, letter) refl in
        let none : None ≡ Some (1 + prefix_len is_name_byte (js ++ left)) = e ∙ ap dot_word_length (sym parts) ∙ some in
        cc
    at_dot false f =
        let name = (both (is_name_byte k) (goes_on js) (rw f at on)).0 in
        false≢true (sym a.path.whole ∙ ap (begins is_name_byte) (sym parts) ∙ name)

  beyond : (more left : List ℕ) → more ++ left ≡ text → n < length more → IsSome (class_of names more left) → ⊥
  beyond more left parts long some =
      let path = path_is more left (class_path names more left some) in
      let pieces = take-append-drop n more in
      let size : length (take n more) ≡ n = length-take-le n more (omega arith) in
      let joined : take n more ++ (drop n more ++ left) ≡ text = sym (append_assoc (take n more) (drop n more) left) ∙ ap (λ x. x ++ left) pieces ∙ parts in
      let rest : drop n more ++ left ≡ drop n text = sym (drop_at (take n more) (drop n more ++ left) n size) ∙ ap (drop n) joined in
      let on = goes_tail (take n more) (drop n more) (ap goes_on pieces ∙ path.on) in
      at_rest (drop n more) rest on (omega (arith, length-drop n more))
    where
      at_rest : (ks : List ℕ) → ks ++ left ≡ drop n text → goes_on ks ≡ true → 0 < length ks → ⊥
      at_rest [] rest on some' = omega arith
      at_rest (k ∷ js) rest on some' = goes_no k js left rest on

  at_best : (best : Found) → UpTo names text n best → Finds (class_of names) text best
  at_best Nothing found = λ more left parts some. ⊎_elim (λ long. beyond more left parts long some) (λ short. found more left parts short some) (order n (length more))
  at_best Foreign found = absurd found
  at_best (Blank m) found = absurd found
  at_best (Leading kind m) found = lead_by (class_of names) text m (token kind) found.1.0 found.1.1.0 (λ more left parts some. ⊎_elim (λ long. absurd (beyond more left parts long some)) (λ short. found.1.1.1 more left parts short some) (order n (length more)))

-- a path ends between characters

pub path_ascii : (bytes : List ℕ) → goes_on bytes ≡ true → list_all (λ b. nat_lt b 128) bytes ≡ true
path_ascii [] e = refl
path_ascii (b ∷ bs) e = at_dot (b == 46) refl (path_ascii bs) where
  name_ascii : (b : ℕ) → is_name_byte b ≡ true → nat_lt b 128 ≡ true
  name_ascii b e = grind (arith, nat_tests)

  dot_ascii : (b : ℕ) → (b == 46) ≡ true → nat_lt b 128 ≡ true
  dot_ascii b e = grind (arith, nat_tests)

  at_dot : (v : Bool) → (b == 46) ≡ v → (goes_on bs ≡ true → list_all (λ b. nat_lt b 128) bs ≡ true) → list_all (λ b. nat_lt b 128) (b ∷ bs) ≡ true
  at_dot true f rest = let parts = both (begins is_letter bs) (goes_on bs) (rw f at e) in rw (dot_ascii b f, rest parts.1) refl
  at_dot false f rest = let parts = both (is_name_byte b) (goes_on bs) (rw f at e) in rw (name_ascii b parts.0, rest parts.1) refl

pub ascii_at : (bytes : List ℕ) (i : ℕ) → list_all (λ b. nat_lt b 128) bytes ≡ true → get_or bytes i 0 < 128
ascii_at [] i all = omega arith
ascii_at (b ∷ bs) zero all = let low = (both (nat_lt b 128) (list_all (λ b. nat_lt b 128) bs) all).0 in grind (arith, nat_tests)
ascii_at (b ∷ bs) (suc i) all = ascii_at bs i (both (nat_lt b 128) (list_all (λ b. nat_lt b 128) bs) all).1

pub path_starts : (text : List ℕ) (at : ℕ) → begins is_letter (drop at text) ≡ true → IsCharBoundary text at
path_starts text at letter = IsCharBoundary-before_ascii text at within low where
  some : (rest : List ℕ) → begins is_letter rest ≡ true → 0 < length rest
  some [] e = absurd (false≢true e)
  some (b ∷ bs) e = omega arith

  byte : (rest : List ℕ) → begins is_letter rest ≡ true → get_or rest 0 0 < 128
  byte [] e = absurd (false≢true e)
  byte (b ∷ bs) e = grind (arith, nat_tests)

  within : at < length text
  within = omega (arith, some (drop at text) letter, length-drop at text)

  low : get_or text at 0 < 128
  low = let same : get_or (drop at text) 0 0 ≡ get_or text at 0 = get_or-drop at text 0 0 ∙ ap (λ i. get_or text i 0) (add-zero at) in omega (arith, byte (drop at text) letter)

pub path_ends : (names : List ℕ → Option ℕ) (text : List ℕ) (at n : ℕ) → IsUtf8 text → begins is_letter (drop at text) ≡ true → n ≤ length (drop at text) → PathIs (take n (drop at text)) (drop n (drop at text)) → IsCharBoundary text (at + n)
path_ends names text at zero utf8 letter within path = absurd (false≢true path.letter)
path_ends names text at (suc n) utf8 letter within path =
    let low = ascii_at (take (suc n) (drop at text)) n (path_ascii (take (suc n) (drop at text)) path.on) in
    let same : get_or (take (suc n) (drop at text)) n 0 ≡ get_or text (at + n) 0 = get_or-take (suc n) (drop at text) n 0 (omega arith) ∙ get_or-drop at text n 0 in
    let next : at + n + 1 ≡ at + suc n = omega arith in
    subst (IsCharBoundary text) next (IsCharBoundary-after_ascii text (at + n) utf8 (omega (arith, length-drop at text)) (omega arith))

-- the same where the length of the first word has a name

pub first_to_at : (names : List ℕ → Option ℕ) (text : List ℕ) (n : ℕ) (best : Found) → begins is_letter text ≡ true → n ≡ prefix_len is_name_byte text → reserved_of (take n text) ≡ None → best ≡ class_or Nothing (names (take n text)) n → PathTo names text n best
first_to_at names text n best letter whole fresh is =
    let fresh' = ap (λ k. reserved_of (take k text)) (sym whole) ∙ fresh in
    let to = first_to names text letter fresh' in
    subst (PathTo names text n) (sym is) (subst (λ k. PathTo names text k (class_or Nothing (names (take k text)) k)) (sym whole) to)

pub next_to_at : (names : List ℕ → Option ℕ) (text rest : List ℕ) (first n m : ℕ) (best best' : Found) → begins is_letter text ≡ true → first ≡ prefix_len is_name_byte text → reserved_of (take first text) ≡ None → PathTo names text n best → rest ≡ drop n text → Some m ≡ dot_word_length rest → best' ≡ class_or best (names (take (n + m) text)) (n + m) → PathTo names text (n + m) best'
next_to_at names text rest first n m best best' letter whole fresh a rest_is e is =
    let fresh' = ap (λ k. reserved_of (take k text)) (sym whole) ∙ fresh in
    subst (PathTo names text (n + m)) (sym is) (next_to names text n m best letter fresh' a (e ∙ ap dot_word_length rest_is))

-- an answer that is no number is none
pub none_only : (o : Option ℕ) → ((x : ℕ) → o ≡ Some x → ⊥) → o ≡ None
none_only None other = refl
none_only (Some x) other = absurd (other x refl)
