-- One step of a reader, as lines.
use Rattle.std.proofs.Common.{◌≡◌, ℕ, Bool, true, false, List, [], ◌∷◌, ◌++◌, Ok, Err, refl, sym, ap, ◌∙◌, subst, inl, inr, append_assoc, append-nil}
use Rattle.std.specs.Prelude.{Option, Some, Result, is_ok}
use Rattle.std.specs.Io.KnownBytes.{IsAtEnd}
use Rattle.outer_io.specs.Lines.{newline, IsUnbroken, lines_of, ended_of}
use Rattle.outer_io.specs.Reading.{Intake, ReadsLine, ReadsEnd, Reads, EndsByNewline, EndsBySource}
use Rattle.outer_io.specs.Steps.{IsSettled, GivesLine, Steps, TellsSteps}
use Rattle.outer_io.specs.declared.lines.Line.{Line}
use Rattle.outer_io.specs.declared.lines.Line.TheVariants.{Whole, Long, End}
use Rattle.outer_io.specs.declared.lines.ReadErr.{ReadErr}
use Rattle.outer_io.specs.declared.lines.ReadErr.TheVariants.{Fault, InputLong, NoMemory}
use Rattle.outer_io.proofs.LineLemmas.{lines_of-ended, ended_of-ended, ended_of-unbroken, lines_of-unbroken}
use Rattle.outer_io.proofs.ReadingLemmas.{contradicts}

-- bytes that end a line at a newline, and what follows them
pub step-newline : (old new : Intake) (more line rest : List ℕ) → EndsByNewline new (old.pending ++ more) line
    → old.pending ++ (more ++ rest) ≡ line ++ newline ∷ (new.pending ++ rest)
step-newline old new more line rest ends =
    sym (append_assoc old.pending more rest) ∙ ap (λ l. l ++ rest) ends.parts ∙ append_assoc line (newline ∷ new.pending) rest

pub step-line : (old new : Intake) (left left' : Option (List ℕ)) (line : List ℕ) → ReadsLine old new left left' line
    → GivesLine old new left left' line
step-line old new left left' line reads = elim reads.ends [
  | inl ends ↦ record {
    more = reads.more;
    consumed = reads.takes.consumed;
    whole = λ rest _. ap lines_of (step-newline old new reads.more line rest ends) ∙ lines_of-ended line (new.pending ++ rest) reads.unbroken;
    ended = λ rest _. ap ended_of (step-newline old new reads.more line rest ends) ∙ ended_of-ended line (new.pending ++ rest) reads.unbroken;
    settled = λ ended. absurd (contradicts ends.going ended);
  }
  | inr ends ↦ record {
    more = reads.more;
    consumed = reads.takes.consumed;
    whole = λ rest nothing. step-last old new reads.more line rest reads.unbroken ends (nothing ends.ended);
    ended = λ rest going. absurd (contradicts going ends.ended);
    settled = λ _. ends.at_end;
  }
] where
  step-last : (old new : Intake) (more line rest : List ℕ) → IsUnbroken line → EndsBySource new left' (old.pending ++ more) line → rest ≡ []
      → lines_of (old.pending ++ (more ++ rest)) ≡ line ∷ lines_of (new.pending ++ rest)
  step-last old new more line rest unbroken ends nothing =
      let before : lines_of (old.pending ++ (more ++ rest)) ≡ line ∷ [] =
      ap (λ l. lines_of (old.pending ++ (more ++ l))) nothing ∙ ap (λ l. lines_of (old.pending ++ l)) (append-nil more) ∙ ap lines_of ends.same
      ∙ lines_of-unbroken line unbroken ends.some in
      let after : lines_of (new.pending ++ rest) ≡ [] = ap (λ l. lines_of (new.pending ++ l)) nothing ∙ ap (λ l. lines_of (l ++ [])) ends.none in
      before ∙ ap (λ l. line ∷ l) (sym after)

-- the source is at its end, also where it was seen before
pub step-at_end : (old new : Intake) (left left' : Option (List ℕ)) → IsSettled old left → ReadsEnd old new left left' → IsAtEnd left'
step-at_end old new left left' settled reads = by (old.ended) refl where
  by : (b : Bool) → old.ended ≡ b → IsAtEnd left'
  by true is = subst IsAtEnd (sym (reads.untouched is)) (settled is)
  by false is = reads.at_end is

pub steps-of : (old new : Intake) (left left' : Option (List ℕ)) (answer : Result Line ReadErr) → IsSettled old left → Reads old new left left' answer
    → Steps old new left left' answer
steps-of old new left left' (Ok (Whole bytes)) settled reads = (step-line old new left left' bytes.items reads.0, reads.1)
steps-of old new left left' (Ok Long) settled reads = (reads.0, step-line old new left left' reads.0 reads.1, reads.2)
steps-of old new left left' (Ok End) settled reads = record {
  consumed = reads.takes.consumed;
  none = ap lines_of reads.nothing;
  nothing = ap lines_of reads.none;
  at_end = step-at_end old new left left' settled reads;
}
steps-of old new left left' (Err Fault) settled reads = record {
  more = reads.more;
  consumed = reads.takes.consumed;
  none = ended_of-unbroken (old.pending ++ reads.more) reads.unbroken;
}
steps-of old new left left' (Err InputLong) settled reads = record {
  more = reads.more;
  next = reads.next;
  consumed = reads.consumed;
  reached = reads.reached;
  none = ended_of-unbroken (old.pending ++ reads.more) reads.unbroken;
}
steps-of old new left left' (Err NoMemory) settled reads = tt

pub settled-after : (old new : Intake) (left left' : Option (List ℕ)) (answer : Result Line ReadErr) → IsSettled old left → Reads old new left left' answer
    → is_ok answer ≡ true → IsSettled new left'
settled-after old new left left' (Ok (Whole bytes)) settled reads ok =
    (step-line old new left left' bytes.items reads.0).settled
settled-after old new left left' (Ok Long) settled reads ok = (step-line old new left left' reads.0 reads.1).settled
settled-after old new left left' (Ok End) settled reads ok = λ _. step-at_end old new left left' settled reads
settled-after old new left left' (Err error) settled reads ok = cc

-- where the source tells its bytes
pub told-line : (old new : Intake) (left left' : List ℕ) (line : List ℕ) (gives : GivesLine old new (Some left) (Some left') line)
    → lines_of (old.pending ++ left) ≡ line ∷ lines_of (new.pending ++ left')
told-line old new left left' line gives = ap (λ l. lines_of (old.pending ++ l)) gives.consumed ∙ gives.whole left' gives.settled

pub told-of : (old new : Intake) (left left' : List ℕ) (answer : Result Line ReadErr) → IsSettled old (Some left) → Reads old new (Some left) (Some left') answer
    → TellsSteps old new left left' answer
told-of old new left left' (Ok (Whole bytes)) settled reads =
    told-line old new left left' bytes.items (step-line old new (Some left) (Some left') bytes.items reads.0)
told-of old new left left' (Ok Long) settled reads =
    (reads.0, told-line old new left left' reads.0 (step-line old new (Some left) (Some left') reads.0 reads.1), reads.2)
told-of old new left left' (Ok End) settled reads =
    let none : left' ≡ [] = step-at_end old new (Some left) (Some left') settled reads in
    let all : left ≡ [] = reads.takes.consumed ∙ none in (
      ap (λ l. lines_of (old.pending ++ l)) all ∙ ap (λ l. lines_of (l ++ [])) reads.nothing,
      ap (λ l. lines_of (new.pending ++ l)) none ∙ ap (λ l. lines_of (l ++ [])) reads.none,
    )
told-of old new left left' (Err Fault) settled reads =
    (reads.more, reads.takes.consumed, ended_of-unbroken (old.pending ++ reads.more) reads.unbroken)
told-of old new left left' (Err InputLong) settled reads =
    (reads.more, reads.next, reads.consumed ∙ append_assoc reads.more (reads.next ∷ []) left', ended_of-unbroken (old.pending ++ reads.more) reads.unbroken)
told-of old new left left' (Err NoMemory) settled reads = tt
