-- Allowlist files.
use Rattle.std.specs.Prelude.{◌==◌, ◌+◌, ◌-◌, ◌&&◌, ◌||◌, not, ℕ, Bool, true, false, List, [], ◌∷◌, Option, Some, None, Result, Ok, Err, if◌then◌else◌, is_some, nat_lt, codes, min, ◌^◌}
use Rattle.std.specs.Str.{bytes_eq}
use Rattle.std.specs.List.{position_or_len}
use Rattle.pl_types.specs.declared.ty.Ty.{Ty}
use Rattle.pl_types.specs.declared.ty.Ty.TheOpen.{Ty-F}
use Rattle.pl_types.specs.declared.ty.Ty.TheFolds.{fold-Ty}
use Rattle.pl_types.specs.declared.classes.TheConstants.{CLASS_COUNT, PRELUDE}
use Rattle.pl_types.specs.Classes.{full_name, short_name}
use Rattle.pl_types.specs.Names.{class_of_full}
use Rattle.pl_types.specs.Texts.{primitive_word}
use Rattle.allowlist.specs.declared.member.MemberType.{MemberType}
use Rattle.allowlist.specs.declared.member.MemberKind.{MemberKind}
use Rattle.allowlist.specs.declared.member.MemberKind.TheVariants.{Constructor, Static, Instance, Field}
use Rattle.allowlist.specs.declared.member.Origin.{Origin}
use Rattle.allowlist.specs.declared.member.Origin.TheVariants.{Augmented, AugmentedPrelude}
use Rattle.allowlist.specs.Catalogue.{catalogue}
use Rattle.allowlist.specs.Allow.{AllowList, empty_list, first_member, flag, with_flag, dotted}
use Rattle.allowlist.specs.Lines.{Form, Blank, Opens, Imports, Closes, Makes, Calls, Has, TypeText, form_of}

-- Lines end at newlines; what stands after the last newline is a line only if it has a byte.
abbrev pub begins_line : ℕ → List (List ℕ) → List (List ℕ)
begins_line b [] = (b ∷ []) ∷ []
begins_line b (line ∷ lines) = (b ∷ line) ∷ lines

abbrev pub lines_of : List ℕ → List (List ℕ)
lines_of [] = []
lines_of (b ∷ bs) = if b == 10 then [] ∷ lines_of bs else begins_line b (lines_of bs)

-- how many bytes stand before the first newline
abbrev pub line_len : List ℕ → ℕ
line_len bytes = position_or_len (λ b. b == 10) bytes

-- a class in a signature stands by its full or its short name, with `$` or `.` before the name of a nested class
abbrev pub is_word_of : ℕ → List ℕ → Bool
is_word_of class word = nat_lt class CLASS_COUNT && (bytes_eq word (full_name class) || bytes_eq word (short_name class) || bytes_eq (dotted (full_name class)) word || bytes_eq (dotted (short_name class)) word)

-- whether a word with so many `[]` is a type
abbrev pub spells_layer : Ty-F (ℕ → List ℕ → Bool) → ℕ → List ℕ → Bool
spells_layer Ty-F.Void depth word = (depth == 0) && bytes_eq word (codes "void")
spells_layer Ty-F.Null depth word = false
spells_layer Ty-F.Def depth word = (depth == 0) && bytes_eq word (codes "def")
spells_layer (Ty-F.Prim p) depth word = (depth == 0) && bytes_eq word (primitive_word p)
spells_layer (Ty-F.Class class) depth word = (depth == 0) && is_word_of class word
spells_layer (Ty-F.Array element) depth word = not (depth == 0) && element (depth - 1) word

abbrev pub spells : Ty → ℕ → List ℕ → Bool
spells = fold-Ty (ℕ → List ℕ → Bool) spells_layer

abbrev pub spells_all : List Ty → List TypeText → Bool
spells_all [] [] = true
spells_all [] (text ∷ texts) = false
spells_all (ty ∷ types) [] = false
spells_all (ty ∷ types) (text ∷ texts) = spells ty text.depth text.word && spells_all types texts

abbrev pub is_augmented : Origin → Bool
is_augmented Augmented = true
is_augmented AugmentedPrelude = true
is_augmented origin = false

abbrev pub is_constructor : MemberKind → Bool
is_constructor Constructor = true
is_constructor kind = false

abbrev pub is_field : MemberKind → Bool
is_field Field = true
is_field kind = false

abbrev pub is_call : MemberKind → Bool
is_call Static = true
is_call Instance = true
is_call kind = false

-- whether a line is that of a member
abbrev pub declares : Form → MemberType → Bool
declares (Makes params) m = is_constructor m.kind && spells_all m.params params
declares (Calls gives augmented name params) m = is_call m.kind && bytes_eq m.name name && (if is_augmented m.origin then augmented else not augmented) && spells m.result gives.depth gives.word && spells_all m.params params
declares (Has gives name) m = is_field m.kind && bytes_eq m.name name && spells m.result gives.depth gives.word
declares form m = false

-- the member of a class that a line declares
unfoldable pub declared_member : ℕ → Form → Option ℕ
declared_member class form = first_member (λ n m. (m.owner == class) && declares form m) 0 catalogue

-- the class of a full name; the hidden classes have none in files
abbrev pub in_files : Option ℕ → Option ℕ
in_files None = None
in_files (Some class) = if nat_lt class PRELUDE then Some class else None

abbrev pub class_of_line : List ℕ → Option ℕ
class_of_line name = in_files (class_of_full name)

-- What was read so far: the class whose members stand here, if one is open, and the list.
pub record Reading : Type 0 where
  pub inside : Option ℕ
  pub allow : AllowList

-- whether a class is open after a line; one that the catalogue lacks opens none
abbrev pub open_after : Bool → Form → Bool
open_after open_ (Opens name) = is_some (class_of_line name)
open_after open_ Closes = false
open_after open_ form = open_

-- a class inside a class, a member or an end outside one
abbrev pub is_misplaced : Bool → Form → Bool
is_misplaced open_ Blank = false
is_misplaced open_ (Opens name) = open_
is_misplaced open_ Imports = open_
is_misplaced open_ form = not open_

-- a class is listed once
abbrev pub with_class : AllowList → Option ℕ → Option Reading
with_class allow None = None
with_class allow (Some class) = if flag allow.classes class then None else Some (record { inside = Some class; allow = record { classes = with_flag allow.classes class; members = allow.members } })

-- a member is allowed once
abbrev pub with_member : ℕ → AllowList → Option ℕ → Option Reading
with_member class allow None = None
with_member class allow (Some number) = if flag allow.members number then None else Some (record { inside = Some class; allow = record { classes = allow.classes; members = with_flag allow.members number } })

abbrev pub with_declared : Option ℕ → AllowList → Form → Option Reading
with_declared None allow form = None
with_declared (Some class) allow form = with_member class allow (declared_member class form)

-- what a line makes of it; nothing where it names what the catalogue lacks, or the same twice
unfoldable pub next_reading : Reading → Form → Option Reading
next_reading r Blank = Some r
next_reading r Imports = None
next_reading r Closes = Some (record { inside = None; allow = r.allow })
next_reading r (Opens name) = with_class r.allow (class_of_line name)
next_reading r (Makes params) = with_declared r.inside r.allow (Makes params)
next_reading r (Calls gives augmented name params) = with_declared r.inside r.allow (Calls gives augmented name params)
next_reading r (Has gives name) = with_declared r.inside r.allow (Has gives name)

-- Why a file is refused, with the line, from 1.
pub data Fault : Type 0 where
  Syntax : (line : ℕ) → Fault
  Unknown : (line : ℕ) → Fault

abbrev pub is_last : List (List ℕ) → Bool
is_last [] = true
is_last (line ∷ lines) = false

-- A line's own form comes first, then its place, then whether the file ends inside a class, then what it names.
abbrev pub line_fault : Bool → Bool → Option Form → Bool
line_fault open_ last None = true
line_fault open_ last (Some form) = is_misplaced open_ form || last && open_after open_ form

abbrev pub reading_after : Reading → Option Form → Option Reading
reading_after r None = None
reading_after r (Some form) = next_reading r form

-- what one line of the number n makes of it
abbrev pub known_or : ℕ → Option Reading → Result Reading Fault
known_or n None = Err (Unknown n)
known_or n (Some r) = Ok r

unfoldable pub line_result : ℕ → Reading → Bool → List ℕ → Result Reading Fault
line_result n r last line = if line_fault (is_some r.inside) last (form_of line) then Err (Syntax n) else known_or n (reading_after r (form_of line))

abbrev pub after_line : Result Reading Fault → (Reading → Result AllowList Fault) → Result AllowList Fault
after_line (Ok r) next = next r
after_line (Err fault) next = Err fault

-- the number of the line behind one: it stands still at the most that 32 bits hold
abbrev pub next_line : ℕ → ℕ
next_line n = min (n + 1) (2 ^ 32 - 1)

-- the lines from one on, which has the number n
unfoldable pub read_lines : ℕ → Reading → List (List ℕ) → Result AllowList Fault
read_lines n r [] = Ok r.allow
read_lines n r (line ∷ lines) = after_line (line_result n r (is_last lines) line) (λ s. read_lines (next_line n) s lines)

-- The list that a file denotes, or the first fault.
unfoldable pub allowlist_of : List ℕ → Result AllowList Fault
allowlist_of bytes = read_lines 1 (record { inside = None; allow = empty_list }) (lines_of bytes)
