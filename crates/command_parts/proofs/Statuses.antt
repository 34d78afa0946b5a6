-- By which statuses commands end.
use Rattle.std.proofs.Common.{◌≡◌, ◌≢◌, ℕ, List, Option, inl, inr, ◌⊎◌, refl, sym, subst}
use Rattle.std.specs.Io.KnownBytes.{IsAtEnd}
use Rattle.command_parts.specs.declared.status.Status.{Status}
use Rattle.command_parts.specs.declared.status.Status.TheVariants as s
use Rattle.command_parts.specs.declared.stop.Stop.{Stop}
use Rattle.command_parts.specs.declared.stop.Stop.TheVariants as stop
use Rattle.command_parts.specs.Ending.{EndsSo}
use Rattle.command_parts.specs.Writing.{IsWriteFault}

-- those of a run that ends before its work
abbrev pub IsStopped : Status → Type 0
IsStopped s.Refused = Unit {0}
IsStopped s.WriteFault = Unit {0}
IsStopped s.NoMemory = Unit {0}
IsStopped s.FileFault = Unit {0}
IsStopped s.FileAbsent = Unit {0}
IsStopped s.FileLong = Unit {0}
IsStopped other = ⊥

pub stopped : (end : Stop) (status : Status) (old new : Option (List ℕ)) → EndsSo end status old new → IsStopped status
stopped (stop.Refused line) status old new (inl (is, appended)) = subst IsStopped (sym is) tt
stopped (stop.Refused line) status old new (inr (inl is, front)) = subst IsStopped (sym is) tt
stopped (stop.Refused line) status old new (inr (inr is, front)) = subst IsStopped (sym is) tt
stopped stop.FileAbsent status old new (is, same) = subst IsStopped (sym is) tt
stopped stop.FileLong status old new (is, same) = subst IsStopped (sym is) tt
stopped stop.FileFault status old new (is, same) = subst IsStopped (sym is) tt
stopped stop.NoMemory status old new (is, same) = subst IsStopped (sym is) tt

-- with the status of a fault of the files where they failed, and only there
pub fault_stopped : (end : Stop) (status : Status) (old new : Option (List ℕ)) → EndsSo end status old new → end ≡ stop.FileFault → status ≡ s.FileFault
fault_stopped end status old new ends is = go (subst (λ (e : Stop). EndsSo e status old new) is ends) where
  go : EndsSo stop.FileFault status old new → status ≡ s.FileFault
  go h = h.0

pub stopped_fault : (end : Stop) (status : Status) (old new : Option (List ℕ)) → EndsSo end status old new → status ≡ s.FileFault → end ≡ stop.FileFault
stopped_fault (stop.Refused line) status old new (inl (is, appended)) at = absurd cc
stopped_fault (stop.Refused line) status old new (inr (inl is, front)) at = absurd cc
stopped_fault (stop.Refused line) status old new (inr (inr is, front)) at = absurd cc
stopped_fault stop.FileAbsent status old new (is, same) at = absurd cc
stopped_fault stop.FileLong status old new (is, same) at = absurd cc
stopped_fault stop.FileFault status old new (is, same) at = refl
stopped_fault stop.NoMemory status old new (is, same) at = absurd cc

-- a stop that is no fault of the files leaves no file's status
pub refused_status : (end : Stop) (status : Status) (old new : Option (List ℕ)) → end ≢ stop.FileFault → EndsSo end status old new → status ≢ s.FileFault
refused_status end status old new quiet ends at = quiet (stopped_fault end status old new ends at)

-- no input was read to its end
pub stopped_ended : (status : Status) (left : Option (List ℕ)) → IsStopped status → (status ≡ s.Done) ⊎ (status ≡ s.SomeErrors) → IsAtEnd left
stopped_ended status left is (inl at) = absurd (subst IsStopped at is)
stopped_ended status left is (inr at) = absurd (subst IsStopped at is)

-- those of what is written and cannot be refused
abbrev pub IsAccepted : Status → Type 0
IsAccepted s.Done = Unit {0}
IsAccepted s.WriteFault = Unit {0}
IsAccepted s.NoMemory = Unit {0}
IsAccepted other = ⊥

pub accepts : (status : Status) → (status ≡ s.Done) ⊎ IsWriteFault status → IsAccepted status
accepts status (inl is) = subst IsAccepted (sym is) tt
accepts status (inr (inl is)) = subst IsAccepted (sym is) tt
accepts status (inr (inr is)) = subst IsAccepted (sym is) tt
