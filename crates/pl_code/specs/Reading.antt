-- How a listing is read: by lines, and each line goes to the function that stands open.
use Rattle.std.specs.Prelude.{ℕ, ◌+◌, ◌-◌, ◌^◌, ◌==◌, ◌&&◌, ◌||◌, ◌≡◌, not, min, nat_lt, Bool, false, List, [], ◌∷◌, ◌++◌, Option, Some, None, Result, Ok, Err, if◌then◌else◌, codes, length, take, drop}
use Rattle.std.specs.Char.{is_ascii_digit}
use Rattle.std.specs.List.{list_all, list_any, position_or_len, before_first, after_first}
use Rattle.std.specs.Str.{bytes_eq}
use Rattle.listing_parts.specs.Split.{◌>>=◌}
use Rattle.pl_code.specs.declared.code.FunCode.{FunCode}
use Rattle.pl_code.specs.declared.code.Code.{Code}
use Rattle.pl_code.specs.declared.line.Header.{Header}
use Rattle.pl_code.specs.declared.line.Line.{Line}
use Rattle.pl_code.specs.declared.line.Line.TheVariants.{Fun, Caught, Do, End}
use Rattle.pl_code.specs.declared.reading.Reading.{Reading}
use Rattle.pl_code.specs.declared.error.ListingErr.{ListingErr}
use Rattle.pl_code.specs.declared.error.ListingErr.TheVariants.{Syntax, Version, NoMemory}
use Rattle.pl_code.specs.Listing.{first_line}
use Rattle.pl_code.specs.Lines.{line_of}

-- The lines that end at a newline, and what stands behind the last newline.

abbrev pub before_ended : ℕ → List (List ℕ) → List (List ℕ)
before_ended b [] = []
before_ended b (line ∷ lines) = (b ∷ line) ∷ lines

abbrev pub ended_of : List ℕ → List (List ℕ)
ended_of [] = []
ended_of (b ∷ bs) = if b == 10 then [] ∷ ended_of bs else before_ended b (ended_of bs)

-- a function of which the line `fun` was read
abbrev pub begun : Header → FunCode
begun h = record { loops = h.loops; result = h.result; params = h.params; locals = h.locals; traps = []; lines = [] }

abbrev pub reading_in : List FunCode → Option FunCode → Reading
reading_in functions current = record { functions = functions; current = current }

-- what a line makes of what was read; nothing where it cannot follow
abbrev pub next_in : List FunCode → Option FunCode → Line → Option Reading
next_in fs None (Fun h) = if h.number == length fs then Some (reading_in fs (Some (begun h))) else None
next_in fs None (Caught t) = None
next_in fs None (Do i) = None
next_in fs None End = None
next_in fs (Some f) (Fun h) = None
next_in fs (Some f) (Caught t) = if length f.lines == 0 then Some (reading_in fs (Some (record f { traps = f.traps ++ t ∷ [] }))) else None
next_in fs (Some f) (Do i) = Some (reading_in fs (Some (record f { lines = f.lines ++ i ∷ [] })))
next_in fs (Some f) End = Some (reading_in (fs ++ f ∷ []) None)

unfoldable pub next : Reading → Line → Option Reading
next r l = next_in r.functions r.current l

-- the same for the text of a line
unfoldable pub next_line : Reading → List ℕ → Option Reading
next_line r s = line_of s >>= next r

-- a number of a line, as it is told: it stands still at the end of 32 bits
abbrev pub told : ℕ → ℕ
told n = min n (2 ^ 32 - 1)

-- what was read is code where no function stands open
abbrev pub finished : ℕ → List FunCode → Option FunCode → List ℕ → Result Code ListingErr
finished n fs None [] = Ok (record { functions = fs })
finished n fs None (b ∷ bs) = Err (Syntax (told n))
finished n fs (Some f) rest = Err (Syntax (told n))

-- Version 1 is the one that is read.

abbrev pub is_natural : List ℕ → Bool
is_natural [] = false
is_natural (b ∷ bs) = is_ascii_digit b && list_all is_ascii_digit bs && (not (b == 48) || (length bs == 0))

abbrev pub is_negative : List ℕ → Bool
is_negative s = is_natural s && not (bytes_eq s (codes "0"))

abbrev pub is_integer : List ℕ → Bool
is_integer [] = false
is_integer (b ∷ bs) = if b == 45 then is_negative bs else is_natural (b ∷ bs)

-- the line is `painless` and another number
unfoldable pub is_other_version : List ℕ → Bool
is_other_version s = bytes_eq (take 9 s) (codes "painless ") && is_integer (drop 9 s) && not (bytes_eq s first_line)

abbrev pub is_newline : ℕ → Bool
is_newline b = b == 10

-- the first line that ends, and what stands behind it
unfoldable pub first_ended : List ℕ → Option (List ℕ × List ℕ)
first_ended s = if nat_lt (position_or_len is_newline s) (length s) then Some (before_first is_newline s, after_first is_newline s) else None

-- what stands behind the last newline
abbrev pub behind_of : List ℕ → List ℕ
behind_of [] = []
behind_of (b ∷ bs) = if (b == 10) || list_any is_newline bs then behind_of bs else b ∷ bs

abbrev pub continued : ℕ → Option Reading → (Reading → Result Code ListingErr) → Result Code ListingErr
continued n None more = Err (Syntax (told n))
continued n (Some r) more = more r

-- lines are read, behind so many others
abbrev pub read_on : ℕ → Reading → List (List ℕ) → List ℕ → Result Code ListingErr
read_on n r [] rest = finished (n + 1) r.functions r.current rest
read_on n r (line ∷ lines) rest = continued (n + 1) (next_line r line) (λ q. read_on (n + 1) q lines rest)

unfoldable pub read_bytes : ℕ → Reading → List ℕ → Result Code ListingErr
read_bytes n r bytes = read_on n r (ended_of bytes) (behind_of bytes)

abbrev pub first_fault : List ℕ → ListingErr
first_fault line = if is_other_version line then Version else Syntax 1

abbrev pub listing_from : List ℕ → Option (List ℕ × List ℕ) → Result Code ListingErr
listing_from bytes None = Err (first_fault bytes)
listing_from bytes (Some p) = if bytes_eq p.0 first_line then read_bytes 1 (reading_in [] None) p.1 else Err (first_fault p.0)

-- what a listing is read as
unfoldable pub listing_of : List ℕ → Result Code ListingErr
listing_of bytes = listing_from bytes (first_ended bytes)

-- this was answered; want of memory is free
abbrev pub Gives : Result Code ListingErr → Result Code ListingErr → Type 0
Gives (Ok code) answer = Ok code ≡ answer
Gives (Err (Syntax n)) answer = Err (Syntax n) ≡ answer
Gives (Err Version) answer = Err Version ≡ answer
Gives (Err NoMemory) answer = Unit {0}
