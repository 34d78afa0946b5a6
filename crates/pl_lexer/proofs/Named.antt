-- Words and names of classes at the front of a text.
use Rattle.std.proofs.Common.{◌≡◌, ℕ, ◌<◌, ◌≤◌, Bool, true, false, ◌&&◌, not, List, [], ◌∷◌, ◌++◌, length, take, drop, Option, Some, None, sym, refl, ap, ◌∙◌, subst, arith, ⊎_elim, ◌⊎◌, inl, inr}
use Rattle.std.specs.Prelude.{IsSome, is_some, unwrap_or}
use Rattle.std.specs.List.{prefix_len, list_all}
use Rattle.std.proofs.lemmas.Bool.{false≢true}
use Rattle.std.proofs.lemmas.List.{length-take-le, take-append-drop, take-take, take_at, drop_at}
use Rattle.std.proofs.str.Laws.{order}
use Rattle.pl_lexer.specs.declared.found.Found.{Found}
use Rattle.pl_lexer.specs.declared.found.Found.TheVariants.{Nothing, Foreign, Blank, Leading}
use Rattle.pl_lexer.specs.declared.token.Kind.TheVariants.{Name, DotName}
use Rattle.pl_lexer.specs.Lexeme.{Lexeme, blank, token, foreign}
use Rattle.pl_lexer.specs.Longest.{Leads, LeadsBy, NothingLeads, Finds, Shows}
use Rattle.pl_lexer.specs.Bytes.{begins, is_letter, is_name_byte}
use Rattle.pl_lexer.specs.Tables.{reserved_of}
use Rattle.pl_lexer.specs.Words.{is_word, plain_of, goes_on, is_dotted, first_word, is_path, class_of, word_of, dot_word_of}
use Rattle.pl_lexer.proofs.Runs.{both, all_within, run_passes, run_some, run_within, run_reaches, run_taken, begins_taken}
use Rattle.pl_lexer.proofs.Integers.{or_left}
use Rattle.pl_lexer.proofs.Tested.{lead_by, test_leads, test_some, some_is, none_is}

pub letter_name : (text : List ℕ) → begins is_letter text ≡ true → begins is_name_byte text ≡ true
letter_name [] e = e
letter_name (b ∷ bs) e = or_left (is_letter b) _ e

-- the run of name bytes is a word
pub first_is_word : (text : List ℕ) → begins is_letter text ≡ true → is_word (take (prefix_len is_name_byte text) text) ≡ true
first_is_word text letter =
    let some = run_some is_name_byte text (letter_name text letter) in
    rw (begins_taken is_letter (prefix_len is_name_byte text) text some letter, run_passes is_name_byte text) refl

word_most : (more left text : List ℕ) → more ++ left ≡ text → is_word more ≡ true → length more ≤ prefix_len is_name_byte text
word_most more left text e word = all_within is_name_byte more left text e (both (begins is_letter more) (list_all is_name_byte more) word).1

-- after a dot
pub dot_word_leads : (text : List ℕ) → begins is_letter text ≡ true → LeadsBy (λ bytes _. dot_word_of bytes) text (prefix_len is_name_byte text) (token DotName)
dot_word_leads text letter = test_leads is_word (token DotName) text (prefix_len is_name_byte text) (run_within is_name_byte text) (first_is_word text letter) (λ more left e word. word_most more left text e word)

-- the first word of a front that has the whole of it
pub first_taken : (text : List ℕ) (n : ℕ) → prefix_len is_name_byte text ≤ n → first_word (take n text) ≡ take (prefix_len is_name_byte text) text
first_taken text n low = rw (run_taken is_name_byte text n low) (take-take (prefix_len is_name_byte text) n text low)

-- what is spelled is a class or a word

pub record PathIs (bytes behind : List ℕ) : Type 0 where
  pub letter : begins is_letter bytes ≡ true
  pub on : goes_on bytes ≡ true
  pub fresh : reserved_of (first_word bytes) ≡ None
  pub whole : begins is_name_byte behind ≡ false

not_true : (v : Bool) → not v ≡ true → v ≡ false
not_true true e = absurd (false≢true e)
not_true false e = refl

is_none : {X : Type 0} (o : Option X) → is_some o ≡ false → o ≡ None
is_none None e = refl
is_none (Some x) e = absurd (false≢true (sym e))

pub path_is : (bytes behind : List ℕ) → is_path bytes behind ≡ true → PathIs bytes behind
path_is bytes behind e =
    let outer = both (is_dotted bytes && not (is_some (reserved_of (first_word bytes)))) (not (begins is_name_byte behind)) e in
    let inner = both (is_dotted bytes) (not (is_some (reserved_of (first_word bytes)))) outer.0 in
    let dotted = both (begins is_letter bytes) (goes_on bytes) inner.0 in
    record { letter = dotted.0; on = dotted.1; fresh = is_none (reserved_of (first_word bytes)) (not_true _ inner.1); whole = not_true _ outer.1 }

pub is_path-true : (bytes behind : List ℕ) → PathIs bytes behind → is_path bytes behind ≡ true
is_path-true bytes behind a = rw (a.letter, a.on, a.fresh, a.whole) refl

pub class_path : (names : List ℕ → Option ℕ) (bytes behind : List ℕ) → IsSome (class_of names bytes behind) → is_path bytes behind ≡ true
class_path names bytes behind some = at_path (is_path bytes behind) refl where
  at_path : (v : Bool) → is_path bytes behind ≡ v → is_path bytes behind ≡ true
  at_path true f = f
  at_path false f = let none : class_of names bytes behind ≡ None = rw f refl in absurd (none_is (class_of names bytes behind) none some)

plain_word : (bytes : List ℕ) → IsSome (plain_of bytes) → is_word bytes ≡ true
plain_word bytes some = test_some (is_word bytes) (unwrap_or (reserved_of bytes) (token Name)) some

pub word_either : (names : List ℕ → Option ℕ) (bytes behind : List ℕ) → IsSome (word_of names bytes behind) → IsSome (class_of names bytes behind) ⊎ (is_word bytes ≡ true)
word_either names bytes behind some = at_class (class_of names bytes behind) refl where
  at_class : (o : Option Lexeme) → class_of names bytes behind ≡ o → IsSome (class_of names bytes behind) ⊎ (is_word bytes ≡ true)
  at_class (Some l) f = inl (some_is (class_of names bytes behind) l f)
  at_class None f = let plain : word_of names bytes behind ≡ plain_of bytes = rw f refl in inr (plain_word bytes (subst IsSome plain some))

-- a path is no shorter than its first word
pub path_reaches : (more left text : List ℕ) → more ++ left ≡ text → PathIs more left → prefix_len is_name_byte text ≤ length more
path_reaches more left text e path = ⊎_elim (λ short. absurd (within short)) (λ long. long) (order (length more) (prefix_len is_name_byte text)) where
  within : length more < prefix_len is_name_byte text → ⊥
  within short =
      let behind : drop (length more) text ≡ left = ap (drop (length more)) (sym e) ∙ drop_at more left (length more) refl in
      let name = run_reaches is_name_byte text (length more) short in
      false≢true (sym path.whole ∙ ap (begins is_name_byte) (sym behind) ∙ name)

-- the first word of a path is that of the text
path_first : (more left text : List ℕ) → more ++ left ≡ text → PathIs more left → first_word more ≡ take (prefix_len is_name_byte text) text
path_first more left text e path =
    let low = path_reaches more left text e path in
    let whole : take (length more) text ≡ more = ap (take (length more)) (sym e) ∙ take_at more left (length more) refl in
    ap first_word (sym whole) ∙ first_taken text (length more) low

-- a reserved word leads as what it is
reserved_leads : (names : List ℕ → Option ℕ) (text : List ℕ) (l : Lexeme) → begins is_letter text ≡ true → reserved_of (take (prefix_len is_name_byte text) text) ≡ Some l → LeadsBy (word_of names) text (prefix_len is_name_byte text) l
reserved_leads names text l letter reserved = lead_by (word_of names) text (prefix_len is_name_byte text) l (run_within is_name_byte text) spelled most where
  first : List ℕ
  first = take (prefix_len is_name_byte text) text

  behind : List ℕ
  behind = drop (prefix_len is_name_byte text) text

  no_path : (more left : List ℕ) → more ++ left ≡ text → IsSome (class_of names more left) → ⊥
  no_path more left e some =
      let path = path_is more left (class_path names more left some) in
      let same = path_first more left text e path in
      none_is (reserved_of first) (ap reserved_of (sym same) ∙ path.fresh) (some_is (reserved_of first) l reserved)

  spelled_by : (o : Option Lexeme) → class_of names first behind ≡ o → word_of names first behind ≡ Some l
  spelled_by (Some k) f = absurd (no_path first behind (take-append-drop (prefix_len is_name_byte text) text) (some_is _ k f))
  spelled_by None f = rw (f, first_is_word text letter, reserved) refl

  spelled : word_of names first behind ≡ Some l
  spelled = spelled_by (class_of names first behind) refl

  most : (more left : List ℕ) → more ++ left ≡ text → IsSome (word_of names more left) → length more ≤ prefix_len is_name_byte text
  most more left e some = ⊎_elim (λ class. absurd (no_path more left e class)) (λ word. word_most more left text e word) (word_either names more left some)

pub reserved_finds : (names : List ℕ → Option ℕ) (text : List ℕ) (found : Found) → begins is_letter text ≡ true → Shows (reserved_of (take (prefix_len is_name_byte text) text)) (length (take (prefix_len is_name_byte text) text)) found → (found ≡ Nothing → ⊥) → Finds (word_of names) text found
reserved_finds names text Nothing letter shows some = absurd (some refl)
reserved_finds names text Foreign letter shows some = let n = prefix_len is_name_byte text in (take n text, (drop n text, (reserved_leads names text foreign letter shows).leads))
reserved_finds names text (Blank m) letter shows some = absurd shows
reserved_finds names text (Leading kind m) letter shows some =
    let long : m ≡ prefix_len is_name_byte text = shows.1 ∙ length-take-le (prefix_len is_name_byte text) text (run_within is_name_byte text) in
    subst (λ n. LeadsBy (word_of names) text n (token kind)) (sym long) (reserved_leads names text (token kind) letter shows.0)

-- a name leads where no class does
pub name_leads : (names : List ℕ → Option ℕ) (text : List ℕ) → begins is_letter text ≡ true → reserved_of (take (prefix_len is_name_byte text) text) ≡ None → NothingLeads (class_of names) text → LeadsBy (word_of names) text (prefix_len is_name_byte text) (token Name)
name_leads names text letter fresh nothing = lead_by (word_of names) text (prefix_len is_name_byte text) (token Name) (run_within is_name_byte text) (spelled (class_of names first behind) refl) most where
  first : List ℕ
  first = take (prefix_len is_name_byte text) text

  behind : List ℕ
  behind = drop (prefix_len is_name_byte text) text

  spelled : (o : Option Lexeme) → class_of names first behind ≡ o → word_of names first behind ≡ Some (token Name)
  spelled (Some k) f = absurd (nothing first behind (take-append-drop (prefix_len is_name_byte text) text) (some_is _ k f))
  spelled None f = rw (f, first_is_word text letter, fresh) refl

  most : (more left : List ℕ) → more ++ left ≡ text → IsSome (word_of names more left) → length more ≤ prefix_len is_name_byte text
  most more left e some = ⊎_elim (λ class. absurd (nothing more left e class)) (λ word. word_most more left text e word) (word_either names more left some)

-- the longest class leads
class_leads : (names : List ℕ → Option ℕ) (text front behind : List ℕ) (l : Lexeme) → Leads (class_of names) text front behind l → Leads (word_of names) text front behind l
class_leads names text front behind l a =
    let some = some_is _ l a.spells in
    let low = path_reaches front behind text a.parts (path_is front behind (class_path names front behind some)) in
    record {
      parts = a.parts;
      spells = rw a.spells refl;
      longest = λ more left e spelled. ⊎_elim (λ class. a.longest more left e class) (λ word. let high = word_most more left text e word in omega arith) (word_either names more left spelled);
    }

pub class_finds : (names : List ℕ → Option ℕ) (text : List ℕ) (found : Found) → (found ≡ Nothing → ⊥) → Finds (class_of names) text found → Finds (word_of names) text found
class_finds names text Nothing some a = absurd (some refl)
class_finds names text Foreign some a = (a.0, (a.1.0, class_leads names text a.0 a.1.0 foreign a.1.1))
class_finds names text (Blank n) some a = record { within = a.within; leads = class_leads names text (take n text) (drop n text) blank a.leads }
class_finds names text (Leading kind n) some a = record { within = a.within; leads = class_leads names text (take n text) (drop n text) (token kind) a.leads }

-- the same where the pieces have names

front_of : (text rest front : List ℕ) (n : ℕ) → rest ≡ text → n ≡ prefix_len is_name_byte rest → front ≡ take n rest → front ≡ take (prefix_len is_name_byte text) text
front_of text rest front n rest_is long front_is = front_is ∙ ap (λ k. take k rest) long ∙ ap (λ r. take (prefix_len is_name_byte r) r) rest_is

pub reserved_finds_at : (names : List ℕ → Option ℕ) (text rest front : List ℕ) (n : ℕ) (found : Found) → begins is_letter text ≡ true → rest ≡ text → n ≡ prefix_len is_name_byte rest → front ≡ take n rest → Shows (reserved_of front) (length front) found → (found ≡ Nothing → ⊥) → Finds (word_of names) text found
reserved_finds_at names text rest front n found letter rest_is long front_is shows some =
    let front_is' = front_of text rest front n rest_is long front_is in
    reserved_finds names text found letter (subst (λ f. Shows (reserved_of f) (length f) found) front_is' shows) some

pub name_leads_at : (names : List ℕ → Option ℕ) (text rest front : List ℕ) (n : ℕ) → begins is_letter text ≡ true → rest ≡ text → n ≡ prefix_len is_name_byte rest → front ≡ take n rest → reserved_of front ≡ None → NothingLeads (class_of names) text → LeadsBy (word_of names) text n (token Name)
name_leads_at names text rest front n letter rest_is long front_is fresh nothing =
    let front_is' = front_of text rest front n rest_is long front_is in
    let long' : n ≡ prefix_len is_name_byte text = long ∙ ap (prefix_len is_name_byte) rest_is in
    subst (λ k. LeadsBy (word_of names) text k (token Name)) (sym long') (name_leads names text letter (ap reserved_of (sym front_is') ∙ fresh) nothing)
