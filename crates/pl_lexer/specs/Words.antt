-- Names, keywords and names of classes.
use Rattle.std.specs.Prelude.{ℕ, Bool, true, not, ◌&&◌, ◌==◌, if◌then◌else◌, List, [], ◌∷◌, take, Option, Some, None, is_some, unwrap_or}
use Rattle.std.specs.List.{list_all, prefix_len}
use Rattle.pl_lexer.specs.declared.token.Kind.TheVariants.{Name, DotName, ClassName}
use Rattle.pl_lexer.specs.Lexeme.{Lexeme, token}
use Rattle.pl_lexer.specs.Bytes.{begins, is_letter, is_name_byte}
use Rattle.pl_lexer.specs.Tables.{reserved_of}

-- a letter or `_`, and letters, digits and `_`
abbrev pub is_word : List ℕ → Bool
is_word bytes = begins is_letter bytes && list_all is_name_byte bytes

-- a word by itself: a keyword, or else a name
abbrev pub plain_of : List ℕ → Option Lexeme
plain_of bytes = if is_word bytes then Some (unwrap_or (reserved_of bytes) (token Name)) else None

-- what stands after the first byte of words that dots join: at each dot a further word begins
abbrev pub goes_on : List ℕ → Bool
goes_on [] = true
goes_on (b ∷ bs) = (if b == 46 then begins is_letter bs else is_name_byte b) && goes_on bs

-- words that dots join, without blanks
abbrev pub is_dotted : List ℕ → Bool
is_dotted bytes = begins is_letter bytes && goes_on bytes

abbrev pub first_word : List ℕ → List ℕ
first_word bytes = take (prefix_len is_name_byte bytes) bytes

-- names that dots join, up to the end of a name
abbrev pub is_path : List ℕ → List ℕ → Bool
is_path bytes behind = is_dotted bytes && not (is_some (reserved_of (first_word bytes))) && not (begins is_name_byte behind)

abbrev pub class_named : Option ℕ → Option Lexeme
class_named (Some class) = Some (token (ClassName class))
class_named None = None

-- the class that a path names
abbrev pub class_of : (List ℕ → Option ℕ) → List ℕ → List ℕ → Option Lexeme
class_of names bytes behind = if is_path bytes behind then class_named (names bytes) else None

-- a class, or else a word by itself
abbrev pub word_of : (List ℕ → Option ℕ) → List ℕ → List ℕ → Option Lexeme
word_of names bytes behind = if is_some (class_of names bytes behind) then class_of names bytes behind else plain_of bytes

-- after a dot each word is a name
abbrev pub dot_word_of : List ℕ → Option Lexeme
dot_word_of bytes = if is_word bytes then Some (token DotName) else None
