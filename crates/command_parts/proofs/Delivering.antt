-- What a run leaves in its sink.
use Rattle.std.proofs.Common.{◌≡◌, ℕ, inl, inr, List, [], Option, None, Some, IfSome, refl, sym, subst, append-nil, string_bytes}
use Rattle.std.specs.Io.KnownBytes.{Appends}
use Rattle.outer_io.specs.Front.{AppendsFront}
use Rattle.command_parts.specs.declared.status.Status.{Status}
use Rattle.command_parts.specs.declared.status.Status.TheVariants as s
use Rattle.command_parts.specs.declared.stop.Stop.{Stop}
use Rattle.command_parts.specs.declared.stop.Stop.TheVariants as stop
use Rattle.command_parts.specs.Told.{Told, silent, uncounted}
use Rattle.command_parts.specs.Writing.{Writes}
use Rattle.command_parts.specs.Stops.{stop_told}
use Rattle.command_parts.specs.Ending.{EndsSo}
use Rattle.command_parts.specs.DeliversOver.{IsInput, DeliversOver}

pub nothing : (old : Option (List ℕ)) → Appends old old []
nothing None = tt
nothing (Some xs) = sym (append-nil xs)

-- nothing is a front of whatever was to be written
pub no_front : (old : Option (List ℕ)) (bytes : List ℕ) → AppendsFront old old bytes
no_front old bytes = record { front = []; behind = bytes; parts = refl; appended = nothing old }

-- files may tell no content; then there is some content that shows an answer
pub some_content : (known : Option (List ℕ → Option (List ℕ))) → (content : List ℕ → Option (List ℕ)) × IfSome known (λ k. k ≡ content)
some_content None = ((λ _. None), tt)
some_content (Some k) = (k, refl)

-- what is told where something is, by what follows
pub if_told : (found : Option Told) (P Q : Told → Type 0) → ((told : Told) → P told → Q told) → IfSome found P → IfSome found Q
if_told None P Q to h = tt
if_told (Some told) P Q to h = to told h

-- a source may tell no bytes; then any are its
pub some_input : (left : Option (List ℕ)) → (input : List ℕ) × IsInput left input
some_input None = ([], tt)
some_input (Some known) = (known, refl)

-- the same is delivered under what tells the same
module _ (tells others taken : List ℕ → Told → Type 0) (past : List ℕ → Type 0) (to : (input : List ℕ) (told : Told) → tells input told → others input told)
    (from : (input : List ℕ) (told : Told) → others input told → tells input told) (left left' old new : Option (List ℕ)) where
  pub delivers_same : (status : Status) → DeliversOver tells taken past status left left' old new → DeliversOver others taken past status left left' old new
  delivers_same s.Done (input, is, told, h, at, appended) = (input, is, told, to input told h, at, appended)
  delivers_same s.SomeErrors (input, is, told, h, at, appended) = (input, is, told, to input told h, at, appended)
  delivers_same s.Refused (input, is, told, h, at, appended) = (input, is, told, to input told h, at, appended)
  delivers_same s.Usage (input, is, told, h, at, appended) = (input, is, told, to input told h, at, appended)
  delivers_same s.FileAbsent (input, is, told, h, at, appended) = (input, is, told, to input told h, at, appended)
  delivers_same s.FileLong (input, is, told, h, at, appended) = (input, is, told, to input told h, at, appended)
  delivers_same s.InputLong ((input, is, told, h, at, appended), more) = ((input, is, told, to input told h, at, appended), more)
  delivers_same s.ReadFault h = h
  delivers_same s.WriteFault (input, is, told, h, front) = (input, is, told, to input told h, front)
  delivers_same s.NoMemory (input, is, h) = (input, is, λ told k. h told (from input told k))
  delivers_same s.FileFault h = h

-- the statuses of what is told and written
abbrev pub IsAnswered : Status → Type 0
IsAnswered s.Done = Unit {0}
IsAnswered s.SomeErrors = Unit {0}
IsAnswered s.Refused = Unit {0}
IsAnswered other = ⊥

-- One thing is told, whatever the input is.
module _ (tells taken : List ℕ → Told → Type 0) (past : List ℕ → Type 0) (told : Told) (is : (input : List ℕ) → tells input told)
    (left left' old new : Option (List ℕ)) where
  abbrev pub Over : Status → Type 0
  Over status = DeliversOver tells taken past status left left' old new

  -- it was written whole
  pub whole_delivers : (status : Status) → IsAnswered status → told.status ≡ status → Appends old new told.bytes → Over status
  whole_delivers s.Done can at appended = let i = some_input left in (i.0, i.1, told, is i.0, at, appended)
  whole_delivers s.SomeErrors can at appended = let i = some_input left in (i.0, i.1, told, is i.0, at, appended)
  whole_delivers s.Refused can at appended = let i = some_input left in (i.0, i.1, told, is i.0, at, appended)
  whole_delivers s.ReadFault can at appended = absurd can
  whole_delivers s.WriteFault can at appended = absurd can
  whole_delivers s.NoMemory can at appended = absurd can
  whole_delivers s.InputLong can at appended = absurd can
  whole_delivers s.Usage can at appended = absurd can
  whole_delivers s.FileFault can at appended = absurd can
  whole_delivers s.FileAbsent can at appended = absurd can
  whole_delivers s.FileLong can at appended = absurd can

  -- a front of it was
  pub failed_delivers : AppendsFront old new told.bytes → Over s.WriteFault
  failed_delivers front = let i = some_input left in (i.0, i.1, told, is i.0, front)

  pub cut_delivers : ((input : List ℕ) (other : Told) → tells input other → told ≡ other) → AppendsFront old new told.bytes → Over s.NoMemory
  cut_delivers once front =
      let i = some_input left in (i.0, i.1, λ other k. subst (λ (t : Told). AppendsFront old new t.bytes) (once i.0 other k) front)

  pub writes_deliver : ((input : List ℕ) (other : Told) → tells input other → told ≡ other) → (status : Status) → IsAnswered told.status → Writes told status old new → Over status
  writes_deliver once status can (inl (at, appended)) = subst Over (sym at) (whole_delivers told.status can refl appended)
  writes_deliver once status can (inr (inl fault, front)) = subst Over (sym fault) (failed_delivers front)
  writes_deliver once status can (inr (inr memory, front)) = subst Over (sym memory) (cut_delivers once front)

-- nothing is written where memory runs out before there is anything to tell
pub none_delivers : (tells taken : List ℕ → Told → Type 0) (past : List ℕ → Type 0) (left left' old : Option (List ℕ)) → DeliversOver tells taken past s.NoMemory left left' old old
none_delivers tells taken past left left' old = let i = some_input left in (i.0, i.1, λ told h. no_front old told.bytes)

-- nothing is told of a file that is not there, or too long
pub absent_delivers : (tells taken : List ℕ → Told → Type 0) (past : List ℕ → Type 0) (left left' old : Option (List ℕ)) → ((input : List ℕ) → tells input (silent s.FileAbsent))
    → DeliversOver tells taken past s.FileAbsent left left' old old
absent_delivers tells taken past left left' old is = let i = some_input left in (i.0, i.1, silent s.FileAbsent, is i.0, refl, nothing old)

pub long_delivers : (tells taken : List ℕ → Told → Type 0) (past : List ℕ → Type 0) (left left' old : Option (List ℕ)) → ((input : List ℕ) → tells input (silent s.FileLong))
    → DeliversOver tells taken past s.FileLong left left' old old
long_delivers tells taken past left left' old is = let i = some_input left in (i.0, i.1, silent s.FileLong, is i.0, refl, nothing old)

-- a run that ends by a stop, which tells the one thing that is told
module _ (tells taken : List ℕ → Told → Type 0) (past : List ℕ → Type 0) (once : (input : List ℕ) (a b : Told) → tells input a → tells input b → a ≡ b) (left left' old new : Option (List ℕ)) where
  abbrev pub Stops : Status → Option (List ℕ) → Type 0
  Stops status now = DeliversOver tells taken past status left left' old now

  pub stop_delivers : (end : Stop) (status : Status) → IfSome (stop_told end) (λ told. (input : List ℕ) → tells input told) → EndsSo end status old new
      → DeliversOver tells taken past status left left' old new
  stop_delivers (stop.Refused line) status is ends =
      let told = uncounted s.Refused (string_bytes line) in
      writes_deliver tells taken past told is left left' old new (λ input other k. once input told other (is input) k) status tt ends
  stop_delivers stop.FileAbsent status is (at, same) =
      subst (λ (t : Status). Stops t new) (sym at) (subst (Stops s.FileAbsent) (sym same) (absent_delivers tells taken past left left' old is))
  stop_delivers stop.FileLong status is (at, same) =
      subst (λ (t : Status). Stops t new) (sym at) (subst (Stops s.FileLong) (sym same) (long_delivers tells taken past left left' old is))
  stop_delivers stop.FileFault status is (at, same) = subst (λ (t : Status). Stops t new) (sym at) (subst (Stops s.FileFault) (sym same) (nothing old))
  stop_delivers stop.NoMemory status is (at, same) =
      subst (λ (t : Status). Stops t new) (sym at) (subst (Stops s.NoMemory) (sym same) (none_delivers tells taken past left left' old))
