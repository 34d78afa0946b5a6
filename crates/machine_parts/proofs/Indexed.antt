-- A row of the table of the members by which an index reads and writes is that of its class.
use Rattle.std.proofs.Common.{◌≡◌, ℕ, zero, suc, ◌+◌, List, [], ◌∷◌, ◌++◌, Some, length, slice_get, refl, sym, ap, ◌∙◌, add-one, arith}
use Rattle.std.proofs.lemmas.List.{length-append}
use Rattle.allowlist.specs.Allow.{AllowList}
use Rattle.machine_parts.specs.Indexes.{index_members, index_rows}
use Rattle.machine_parts.specs.declared.index_table.IndexMembers.{IndexMembers}

pub one_more : (allow : AllowList) (count : ℕ) (rows : List IndexMembers) → rows ≡ index_rows allow count → rows ++ (index_members allow count ∷ []) ≡ index_rows allow (count + 1)
unfolding index_rows
one_more allow count rows is = rw add-one (ap (λ rows. rows ++ (index_members allow count ∷ [])) is)

pub none_yet : (allow : AllowList) → index_rows allow 0 ≡ []
unfolding index_rows
none_yet allow = refl

length_is : (allow : AllowList) (count : ℕ) → length (index_rows allow count) ≡ count
unfolding index_rows
length_is allow zero = refl
length_is allow (suc count) = let before : length (index_rows allow count) ≡ count = length_is allow count in simp length-append (omega (arith, before))

-- what an element is by its place is so of one more at the end
behind : (of : ℕ → IndexMembers) (rows : List IndexMembers) (last : IndexMembers) → ((place : ℕ) (row : IndexMembers) → slice_get rows place ≡ Some row → row ≡ of place) → last ≡ of (length rows)
    → (place : ℕ) (row : IndexMembers) → slice_get (rows ++ (last ∷ [])) place ≡ Some row → row ≡ of place
behind of [] last before is zero row there = cc
behind of [] last before is (suc place) row there = absurd (cc)
behind of (first ∷ rows) last before is zero row there = before zero row there
behind of (first ∷ rows) last before is (suc place) row there = behind (λ place. of (suc place)) rows last (λ place. before (suc place)) is place row there

placed : (allow : AllowList) (count class : ℕ) (row : IndexMembers) → slice_get (index_rows allow count) class ≡ Some row → row ≡ index_members allow class
unfolding index_rows
placed allow zero class row there = absurd (cc)
placed allow (suc count) class row there =
    behind (index_members allow) (index_rows allow count) (index_members allow count) (placed allow count) (sym (ap (index_members allow) (length_is allow count))) class row there

pub row_is : (allow : AllowList) (count class : ℕ) (rows : List IndexMembers) (row : IndexMembers) → rows ≡ index_rows allow count → Some row ≡ slice_get rows class → row ≡ index_members allow class
row_is allow count class rows row is there = placed allow count class row (sym (there ∙ ap (λ rows. slice_get rows class) is))
