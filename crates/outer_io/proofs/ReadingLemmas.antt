-- How a line is read, piece by piece.
use Rattle.std.proofs.Common.{◌≡◌, ◌≢◌, ℕ, Bool, true, ◌<◌, ◌≤◌, false, List, [], ◌∷◌, ◌++◌, length, Ok, Err, refl, sym, ap, ◌∙◌, subst, inl, inr, arith, append_assoc, append-nil, length-append}
use Rattle.std.specs.Prelude.{Option, Some, Vec}
use Rattle.std.specs.declared.alloc.Global.{Global}
use Rattle.std.proofs.KnownBytes.{Consumes-nil, Consumes-trans}
use Rattle.std.proofs.lemmas.List.Elements.{All-nil, All-append}
use Rattle.outer_io.specs.Lines.{newline, longest, IsUnbroken}
use Rattle.outer_io.specs.Reading.{Intake, Takes, ReadsLine, Reads}
use Rattle.outer_io.specs.Gathering.{Holds, IsSameTake, GathersEnded, GathersOpen, RefillsMore, RefillsNone, RefillsPast, Refills, Gives, GivesLast}
use Rattle.outer_io.specs.declared.lines.Line.{Line}
use Rattle.outer_io.specs.declared.lines.Line.TheVariants.{Whole, Long, End}
use Rattle.outer_io.specs.declared.lines.ReadErr.{ReadErr}
use Rattle.outer_io.specs.declared.lines.ReadErr.TheVariants.{Fault, InputLong, NoMemory}

-- what was taken so far since the line began, and the line so far
pub record Progress (old now : Intake) (left left' : Option (List ℕ)) (line : Option (Vec ℕ Global)) (faults faults' : ℕ) : Type 0 where
  pub more : List ℕ
  pub before : List ℕ
  pub takes : Takes old now left left' more
  pub holds : Holds line before
  pub unbroken : IsUnbroken before
  pub parts : before ++ now.pending ≡ old.pending ++ more
  pub going : now.ended ≡ false
  pub quiet : faults' ≡ faults

-- a test has one answer
pub contradicts : {b : Bool} → b ≡ false → b ≡ true → ⊥
contradicts is_false is_true = cc

-- nothing was taken, and the line is empty
pub progress_none : (old : Intake) (left : Option (List ℕ)) (line : Vec ℕ Global) (faults : ℕ) → old.ended ≡ false → line.items ≡ []
    → Progress old old left left (Some line) faults faults
progress_none old left line faults going empty = record {
  more = [];
  before = [];
  takes = record { consumed = Consumes-nil left; counted = omega arith; limited = refl };
  holds = (empty, omega arith);
  unbroken = All-nil (λ byte. byte ≢ newline);
  parts = sym (append-nil old.pending);
  going = going;
  quiet = refl;
}

-- what was taken by two calls
pub takes_more : (old mid now : Intake) (left left' left'' : Option (List ℕ)) (more bytes : List ℕ) → Takes old mid left left' more → Takes mid now left' left'' bytes
    → Takes old now left left'' (more ++ bytes)
takes_more old mid now left left' left'' more bytes first second = record {
  consumed = Consumes-trans left left' left'' more bytes first.consumed second.consumed;
  counted = omega (arith, first.counted, second.counted, length-append more bytes);
  limited = second.limited ∙ first.limited;
}

-- a call that took nothing
pub takes_same : (old mid now : Intake) (left left' : Option (List ℕ)) (more : List ℕ) → Takes old mid left left' more → IsSameTake mid now → Takes old now left left' more
takes_same old mid now left left' more takes same = record {
  consumed = takes.consumed;
  counted = same.taken ∙ takes.counted;
  limited = same.limit ∙ takes.limited;
}

-- a piece without a newline was moved behind the line
pub progress_open : {old mid now : Intake} {left left' : Option (List ℕ)} {line line' : Option (Vec ℕ Global)} {faults faults' : ℕ} (p : Progress old mid left left' line faults faults')
    → GathersOpen mid now p.before line' → Progress old now left left' line' faults faults'
progress_open {old} {mid} {now} {left} {left'} p gathered = record {
  more = p.more;
  before = p.before ++ mid.pending;
  takes = takes_same old mid now left left' p.more p.takes gathered.same;
  holds = gathered.holds;
  unbroken = All-append (λ byte. byte ≢ newline) p.before mid.pending p.unbroken gathered.unbroken;
  parts = ap (λ l. (p.before ++ mid.pending) ++ l) gathered.none ∙ append-nil (p.before ++ mid.pending) ∙ p.parts;
  going = gathered.same.ended ∙ p.going;
  quiet = p.quiet;
}

-- a further piece was taken
pub progress_more : {old mid now : Intake} {left left' left'' : Option (List ℕ)} {line : Option (Vec ℕ Global)} {faults faults' faults'' : ℕ} → Progress old mid left left' line faults faults'
    → mid.pending ≡ [] → RefillsMore mid now left' left'' → faults'' ≡ faults' → Progress old now left left'' line faults faults''
progress_more {old} {mid} {now} {left} {left'} {left''} p none refill quiet = record {
  more = p.more ++ now.pending;
  before = p.before;
  takes = takes_more old mid now left left' left'' p.more now.pending p.takes refill.takes;
  holds = p.holds;
  unbroken = p.unbroken;
  parts =
      ap (λ l. l ++ now.pending) (sym (append-nil p.before) ∙ ap (λ l. p.before ++ l) (sym none) ∙ p.parts)
      ∙ append_assoc old.pending p.more now.pending;
  going = refill.going;
  quiet = quiet ∙ p.quiet;
}

-- a line that was given is read
pub reads-given : (old now : Intake) (left left' : Option (List ℕ)) (given : Line) (line : List ℕ) → ReadsLine old now left left' line → Gives given line → Reads old now left left' (Ok given)
reads-given old now left left' (Whole bytes) line reads gives =
    (subst (λ l. ReadsLine old now left left' l) (sym gives.0) reads, subst (λ l. length l ≤ longest) (sym gives.0) gives.1)
reads-given old now left left' Long line reads gives = (line, reads, gives)
reads-given old now left left' End line reads gives = absurd gives

-- the newline was met
pub reads_newline : {old mid now : Intake} {left left' : Option (List ℕ)} {line line' : Option (Vec ℕ Global)} {faults faults' : ℕ} (given : Line) → old.ended ≡ false
    → (p : Progress old mid left left' line faults faults') → GathersEnded mid now p.before line'
    → ((bytes : List ℕ) → Holds line' bytes → Gives given bytes) → Reads old now left left' (Ok given)
reads_newline {old} {mid} {now} {left} {left'} given going p ended gives =
    let whole = p.before ++ ended.front in
    reads-given old now left left' given whole (record {
      more = p.more;
      takes = takes_same old mid now left left' p.more p.takes ended.same;
      going = going;
      unbroken = All-append (λ byte. byte ≢ newline) p.before ended.front p.unbroken ended.unbroken;
      ends = inl (record {
        parts =
            sym p.parts ∙ ap (λ l. p.before ++ l) ended.parts ∙ sym (append_assoc p.before ended.front (newline ∷ now.pending));
        going = ended.same.ended ∙ p.going;
      });
    }) (gives whole ended.holds)

-- what stands behind a line whose pending bytes were moved into it
pub taken_whole : {old now : Intake} {left left' : Option (List ℕ)} {line : Option (Vec ℕ Global)} {faults faults' : ℕ} (p : Progress old now left left' line faults faults')
    → now.pending ≡ [] → old.pending ++ p.more ≡ p.before
taken_whole {old} {now} p none = sym p.parts ∙ ap (λ l. p.before ++ l) none ∙ append-nil p.before

pub empty_front : (xs ys : List ℕ) → xs ++ ys ≡ [] → xs ≡ []
empty_front [] ys e = refl
empty_front (x ∷ xs) ys e = cc

pub empty_back : (xs ys : List ℕ) → xs ++ ys ≡ [] → ys ≡ []
empty_back [] ys e = e
empty_back (x ∷ xs) ys e = cc

-- the source had no more: what is left is a line where it has a byte
pub reads_last : {old mid now : Intake} {left left' left'' : Option (List ℕ)} {line : Option (Vec ℕ Global)} {faults faults' : ℕ} (bytes : List ℕ) → old.ended ≡ false
    → (p : Progress old mid left left' line faults faults') → mid.pending ≡ [] → RefillsNone mid now left' left'' → bytes ≡ p.before → 0 < length bytes
    → ReadsLine old now left left'' bytes
reads_last {old} {mid} {now} {left} {left'} {left''} bytes going p none refill is some =
    let e : p.more ++ [] ≡ p.more = append-nil p.more in
    record {
      more = p.more ++ [];
      takes = takes_more old mid now left left' left'' p.more [] p.takes refill.takes;
      going = going;
      unbroken = subst IsUnbroken (sym is) p.unbroken;
      ends = inr (record {
        same = ap (λ l. old.pending ++ l) e ∙ taken_whole p none ∙ sym is;
        some = some;
        none = refill.none;
        ended = refill.ended;
        at_end = refill.at_end;
      });
    }

pub reads_source : {old mid now : Intake} {left left' left'' : Option (List ℕ)} {line : Option (Vec ℕ Global)} {faults faults' : ℕ} (given : Line) → old.ended ≡ false
    → (p : Progress old mid left left' line faults faults') → mid.pending ≡ [] → RefillsNone mid now left' left''
    → ((bytes : List ℕ) → Holds line bytes → GivesLast given bytes) → Reads old now left left'' (Ok given)
reads_source (Whole bytes) going p none refill gives =
    let last = gives p.before p.holds in
    (reads_last bytes.items going p none refill last.0 (subst (λ l. 0 < length l) (sym last.0) last.2), subst (λ l. length l ≤ longest) (sym last.0) last.1)
reads_source Long going p none refill gives =
    let last : longest < length p.before = gives p.before p.holds in
    (p.before, reads_last p.before going p none refill refl (omega arith), last)
reads_source {old} {mid} {now} {left} {left'} {left''} End going p none refill gives =
    let empty : old.pending ++ p.more ≡ [] = taken_whole p none ∙ gives p.before p.holds in
    let nothing : p.more ++ [] ≡ [] = append-nil p.more ∙ empty_back old.pending p.more empty in
    record {
      takes = subst (λ l. Takes old now left left'' l) nothing (takes_more old mid now left left' left'' p.more [] p.takes refill.takes);
      nothing = empty_front old.pending p.more empty;
      none = refill.none;
      ended = refill.ended;
      at_end = λ _. refill.at_end;
      untouched = λ ended. absurd (contradicts going ended);
    }

-- the source failed
pub reads_fault : {old mid now : Intake} {left left' left'' : Option (List ℕ)} {line : Option (Vec ℕ Global)} {faults faults' : ℕ} → old.ended ≡ false
    → (p : Progress old mid left left' line faults faults') → mid.pending ≡ [] → Takes mid now left' left'' [] → Reads old now left left'' (Err Fault)
reads_fault {old} {mid} {now} {left} {left'} {left''} going p none takes = record {
  more = p.more ++ [];
  takes = takes_more old mid now left left' left'' p.more [] p.takes takes;
  going = going;
  unbroken = subst IsUnbroken (sym (ap (λ l. old.pending ++ l) (append-nil p.more) ∙ taken_whole p none)) p.unbroken;
}

-- there was one byte more than may be taken
pub reads_past : {old mid now : Intake} {left left' left'' : Option (List ℕ)} {line : Option (Vec ℕ Global)} {faults faults' : ℕ} → old.ended ≡ false
    → (p : Progress old mid left left' line faults faults') → mid.pending ≡ [] → RefillsPast mid now left' left'' → Reads old now left left'' (Err InputLong)
reads_past {old} {mid} {now} {left} {left'} {left''} going p none past = record {
  more = p.more;
  next = past.next;
  consumed = Consumes-trans left left' left'' p.more (past.next ∷ []) p.takes.consumed past.consumed;
  reached = sym p.takes.counted ∙ past.reached ∙ p.takes.limited;
  going = going;
  unbroken = subst IsUnbroken (sym (taken_whole p none)) p.unbroken;
}

-- memory was wanting
pub reads_no_memory : {old mid now : Intake} {left left' : Option (List ℕ)} {line : Option (Vec ℕ Global)} {faults faults' : ℕ} → old.ended ≡ false
    → (p : Progress old mid left left' line faults faults') → IsSameTake mid now → Reads old now left left' (Err NoMemory)
reads_no_memory {old} {mid} {now} {left} {left'} going p same = record {
  more = p.more;
  takes = takes_same old mid now left left' p.more p.takes same;
  going = going;
}

-- an error of the source
pub reads_err : {old mid : Intake} (now : Intake) {left left' : Option (List ℕ)} (left'' : Option (List ℕ)) {line : Option (Vec ℕ Global)} {faults faults' : ℕ} (error : ReadErr) → old.ended ≡ false
    → (p : Progress old mid left left' line faults faults') → mid.pending ≡ [] → Refills mid now left' left'' (Err error) → Reads old now left left'' (Err error)
reads_err now left'' Fault going p none takes = reads_fault going p none takes
reads_err now left'' InputLong going p none past = reads_past going p none past
reads_err now left'' NoMemory going p none never = absurd never
