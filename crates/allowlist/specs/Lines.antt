-- The lines of an allowlist file.
use Rattle.std.specs.Prelude.{◌==◌, ◌+◌, ◌&&◌, ◌||◌, not, ℕ, zero, suc, Bool, true, false, List, [], ◌∷◌, Option, Some, None, if◌then◌else◌, nat_le, length, take, drop, codes, option_and_then}
use Rattle.std.specs.List.{prefix_len, before_first, list_any}
use Rattle.std.specs.Str.{bytes_eq, is_utf8}

-- space and tab
abbrev pub is_blank : ℕ → Bool
is_blank b = b == 32 || b == 9

-- a letter, a digit, `_`, `$` or `.`
abbrev pub is_word_byte : ℕ → Bool
is_word_byte b = nat_le 97 b && nat_le b 122 || nat_le 65 b && nat_le b 90 || nat_le 48 b && nat_le b 57 || b == 95 || b == 36 || b == 46

-- what follows the blanks at the front
unfoldable pub past_blanks : List ℕ → List ℕ
past_blanks s = drop (prefix_len is_blank s) s

-- What is read is a value and what follows it and the blanks after it.

infixl 10 ◌>>=◌
abbrev pub ◌>>=◌ : {A B : Type 0} → Option A → (A → Option B) → Option B
o >>= f = option_and_then f o

-- a word, the longest
unfoldable pub word_at : List ℕ → Option (List ℕ × List ℕ)
word_at s = if prefix_len is_word_byte s == 0 then None else Some (take (prefix_len is_word_byte s) s, past_blanks (drop (prefix_len is_word_byte s) s))

-- what may begin a name
abbrev pub is_letter : ℕ → Bool
is_letter b = nat_le 97 b && nat_le b 122 || nat_le 65 b && nat_le b 90 || b == 95

abbrev pub is_digit : ℕ → Bool
is_digit b = nat_le 48 b && nat_le b 57

-- what stands between the names in the name of a class, `.` or `$`
abbrev pub is_joint : ℕ → Bool
is_joint b = b == 46 || b == 36

-- whether a name has to begin after a byte; nothing where the byte may not stand there
abbrev pub joined_after : Bool → ℕ → Option Bool
joined_after begins b = if is_letter b then Some false else (if begins then None else (if is_joint b then Some true else (if is_digit b then Some false else None)))

abbrev pub joined_or : Option Bool → (Bool → Bool) → Bool
joined_or None go_on = false
joined_or (Some begins) go_on = go_on begins

-- whether names with `.` or `$` between them end here, where one has to begin or where one may go on
unfoldable pub names_joined : Bool → List ℕ → Bool
names_joined begins [] = not begins
names_joined begins (b ∷ bs) = joined_or (joined_after begins b) (λ next. names_joined next bs)

-- the name of a class or of a type: names with `.` or `$` between them
abbrev pub is_class_name : List ℕ → Bool
is_class_name word = names_joined true word

-- the name of a member: one name
abbrev pub is_name : List ℕ → Bool
is_name word = names_joined true word && not (list_any is_joint word)

abbrev pub only_where : (List ℕ → Bool) → List ℕ × List ℕ → Option (List ℕ × List ℕ)
only_where test w = if test w.0 then Some w else None

-- a word that is the name of a class or of a type, and one that is the name of a member
unfoldable pub class_name_at : List ℕ → Option (List ℕ × List ℕ)
class_name_at s = word_at s >>= only_where is_class_name

unfoldable pub name_at : List ℕ → Option (List ℕ × List ℕ)
name_at s = word_at s >>= only_where is_name

-- one byte
unfoldable pub mark_at : ℕ → List ℕ → Option (List ℕ)
mark_at mark [] = None
mark_at mark (b ∷ bs) = if b == mark then Some (past_blanks bs) else None

-- a type: a word and the number of its `[]`
pub record TypeText : Type 0 where
  pub word : List ℕ
  pub depth : ℕ

-- what follows an opening square bracket, if one stands there
abbrev pub closed_pair : (List ℕ → Option (ℕ × List ℕ)) → ℕ → List ℕ → Option (List ℕ) → Option (ℕ × List ℕ)
closed_pair more depth s None = Some (depth, s)
closed_pair more depth s (Some r) = mark_at 93 r >>= more

-- how many pairs of square brackets follow, at most so many more than depth
unfoldable pub brackets_at : ℕ → ℕ → List ℕ → Option (ℕ × List ℕ)
brackets_at zero depth s = Some (depth, s)
brackets_at (suc n) depth s = closed_pair (brackets_at n (depth + 1)) depth s (mark_at 91 s)

unfoldable pub type_at : List ℕ → Option (TypeText × List ℕ)
type_at s = do
  w ← class_name_at s
  d ← brackets_at (length w.1) 0 w.1
  Some (record { word = w.0; depth = d.0 }, d.1)

-- what follows a type: the closing bracket, or a comma and more types
abbrev pub after_type : (List ℕ → Option (List TypeText × List ℕ)) → TypeText → List ℕ → Option (List ℕ) → Option (List TypeText × List ℕ)
after_type more t s (Some r) = Some (t ∷ [], r)
after_type more t s None = mark_at 44 s >>= more >>= λ ts. Some (t ∷ ts.0, ts.1)

-- types with commas between, at most so many, and the closing bracket
unfoldable pub types_at : ℕ → List ℕ → Option (List TypeText × List ℕ)
types_at zero s = None
types_at (suc n) s = type_at s >>= λ t. after_type (types_at n) t.0 t.1 (mark_at 41 t.1)

abbrev pub some_types : List ℕ → Option (List ℕ) → Option (List TypeText × List ℕ)
some_types s (Some r) = Some ([], r)
some_types s None = types_at (length s) s

-- the types in round brackets, after the opening one
unfoldable pub params_at : List ℕ → Option (List TypeText × List ℕ)
params_at s = some_types s (mark_at 41 s)

-- What a line says.
pub data Form : Type 0 where
  -- nothing
  Blank : Form
  -- `class NAME {`
  Opens : (name : List ℕ) → Form
  -- `static_import {`
  Imports : Form
  -- `}`
  Closes : Form
  -- a constructor
  Makes : (params : List TypeText) → Form
  -- a member that is called, with the augmentation word or without
  Calls : (gives : TypeText) (augmented : Bool) (name : List ℕ) (params : List TypeText) → Form
  -- a field
  Has : (gives : TypeText) (name : List ℕ) → Form

abbrev pub at_end : List ℕ → Form → Option Form
at_end [] form = Some form
at_end (b ∷ bs) form = None

abbrev pub augmentation : List ℕ
augmentation = codes "org.elasticsearch.painless.api.Augmentation"

-- a member's parameters, to the end of the line
unfoldable pub called : TypeText → Bool → List ℕ → List ℕ → Option Form
called gives augmented name s = do
  r ← mark_at 40 s
  ps ← params_at r
  at_end ps.1 (Calls gives augmented name ps.0)

-- what follows the augmentation word
unfoldable pub augmented_at : TypeText → List ℕ → Option Form
augmented_at gives s = name_at s >>= λ m. called gives true m.0 m.1

-- what follows a word after a type: the end of the line, or parameters, where the word is a name, or else an augmented member
unfoldable pub after_name : TypeText → List ℕ → List ℕ → Option Form
after_name gives name [] = if is_name name then Some (Has gives name) else None
after_name gives name (b ∷ bs) =
    if b == 40 then (if is_name name then called gives false name (b ∷ bs) else None)
    else (if bytes_eq name augmentation then augmented_at gives (b ∷ bs) else None)

-- what follows a type
unfoldable pub named_at : TypeText → List ℕ → Option Form
named_at gives s = word_at s >>= λ n. after_name gives n.0 n.1

unfoldable pub opening_at : List ℕ → Option Form
opening_at s = do
  n ← class_name_at s
  r ← mark_at 123 n.1
  at_end r (Opens n.0)

unfoldable pub import_at : List ℕ → Option Form
import_at s = mark_at 123 s >>= λ r. at_end r Imports

unfoldable pub member_at : List ℕ → List ℕ → Option Form
member_at word s = brackets_at (length s) 0 s >>= λ d. named_at (record { word = word; depth = d.0 }) d.1

abbrev pub form_or : Option Form → Option Form → Option Form
form_or (Some form) other = Some form
form_or None other = other

-- What follows the first word. `static_import` is the word of a type where no bracket follows.
unfoldable pub after_word : List ℕ → List ℕ → Option Form
after_word word s =
    if bytes_eq word (codes "class") then opening_at s
    else (if bytes_eq word (codes "static_import") then form_or (import_at s) (member_at word s)
    else (if is_class_name word then member_at word s else None))

unfoldable pub constructor_at : List ℕ → Option Form
constructor_at s = params_at s >>= λ ps. at_end ps.1 (Makes ps.0)

-- a line without its comment and the blanks at its front
unfoldable pub content_form : List ℕ → Option Form
content_form [] = Some Blank
content_form (b ∷ bs) =
    if b == 125 then at_end (past_blanks bs) Closes
    else (if b == 40 then constructor_at (past_blanks bs)
    else (word_at (b ∷ bs) >>= λ w. after_word w.0 w.1))

-- What a line says, if it has a form. `#` begins a comment.
unfoldable pub form_of : List ℕ → Option Form
form_of line = if is_utf8 line then content_form (past_blanks (before_first (λ b. b == 35) line)) else None
