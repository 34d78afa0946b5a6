-- How a source is read to its end, line by line.
use Rattle.std.proofs.Common.{◌≡◌, ◌≢◌, ℕ, ◌+◌, ◌-◌, ◌<◌, ◌≤◌, true, false, leb, ◌⊎◌, List, [], ◌∷◌, ◌++◌, length, map, Ok, Err, refl, sym, ap, ◌∙◌, subst, inl, inr, arith, append_assoc, append-nil, length-append}
use Rattle.std.proofs.lemmas.List.{map-append}
use Rattle.std.specs.Prelude.{Option, Result, IfSome}
use Rattle.std.specs.Io.KnownBytes.{Consumes, IsAtEnd}
use Rattle.std.proofs.KnownBytes.{Consumes-nil, Consumes-trans, Consumes-whole}
use Rattle.std.proofs.lemmas.Bool.{le-leb, lt-leb}
use Rattle.outer_io.proofs.ReadingLemmas.{contradicts}
use Rattle.outer_io.specs.Lines.{newline, longest, InputLine, Within, input_line, IsUnbroken, lines_of, ended_of}
use Rattle.outer_io.specs.Reading.{Intake, Takes, ReadsLine, ReadsEnd, Reads, EndsByNewline, EndsBySource}
use Rattle.outer_io.specs.Gathering.{Gives}
use Rattle.outer_io.specs.Runs.{line_shown, shown, ReadsAll, ReadsSome, ReadsLines, GivesLines}
use Rattle.outer_io.specs.declared.lines.Line.{Line}
use Rattle.outer_io.specs.declared.lines.Line.TheVariants.{Whole, Long, End}
use Rattle.outer_io.specs.declared.lines.ReadErr.{ReadErr}
use Rattle.outer_io.specs.declared.lines.ReadErr.TheVariants.{Fault, InputLong, NoMemory}
use Rattle.outer_io.proofs.LineLemmas.{lines_of-ended, ended_of-ended, ended_of-unbroken, lines_of-unbroken}

-- the lines so far are those of the bytes so far but for the pending ones, whatever follows
pub record Goes (intake : Intake) (front : List ℕ) (lines : List (List ℕ)) : Type 0 where
  pub going : intake.ended ≡ false
  pub all : (rest : List ℕ) → lines_of (front ++ rest) ≡ lines ++ lines_of (intake.pending ++ rest)
  pub ended : (rest : List ℕ) → ended_of (front ++ rest) ≡ lines ++ ended_of (intake.pending ++ rest)

-- the lines so far are those of all bytes
pub record Ended (intake : Intake) (left' : Option (List ℕ)) (front : List ℕ) (lines : List (List ℕ)) : Type 0 where
  pub ended : intake.ended ≡ true
  pub all : lines_of front ≡ lines
  pub at_end : IsAtEnd left'

-- the bytes taken so far, and the lines given so far
pub record Run (limit : ℕ) (intake : Intake) (left left' : Option (List ℕ)) (old new : List InputLine) (faults faults' : ℕ) : Type 0 where
  pub front : List ℕ
  pub lines : List (List ℕ)
  pub consumed : Consumes left left' front
  pub counted : intake.taken ≡ length front
  pub limited : intake.limit ≡ limit
  pub within : intake.taken ≤ intake.limit
  pub grown : new ≡ old ++ map input_line lines
  pub state : Goes intake front lines ⊎ Ended intake left' front lines
  pub quiet : faults' ≡ faults

pub run_none : (limit : ℕ) (intake : Intake) (left : Option (List ℕ)) (old : List InputLine) (faults : ℕ)
    → intake ≡ record { limit = limit; taken = 0; pending = []; ended = false } → Run limit intake left left old old faults faults
run_none limit intake left old faults is = record {
  front = [];
  lines = [];
  consumed = Consumes-nil left;
  counted = ap (λ (s : Intake). s.taken) is;
  limited = ap (λ (s : Intake). s.limit) is;
  within = rw (ap (λ (s : Intake). s.taken) is) (omega arith);
  grown = sym (append-nil old);
  state = inl (record {
    going = ap (λ (s : Intake). s.ended) is;
    all = λ rest. sym (ap (λ (s : Intake). lines_of (s.pending ++ rest)) is);
    ended = λ rest. sym (ap (λ (s : Intake). ended_of (s.pending ++ rest)) is);
  });
  quiet = refl;
}

-- ---- a line more

pub map-push : {X Y : Type 0} (f : X → Y) (xs : List X) (x : X) → map f (xs ++ x ∷ []) ≡ map f xs ++ f x ∷ []
map-push f [] x = refl
map-push f (y ∷ ys) x = ap (λ l. f y ∷ l) (map-push f ys x)

pub shown-given : (given : Line) (line : List ℕ) → Gives given line → shown (given ∷ []) ≡ input_line line ∷ []
shown-given (Whole bytes) line gives =
    let short : leb (length line) longest ≡ true = le-leb (length line) longest gives.1 in
    ap (λ l. Within l ∷ []) gives.0 ∙ rw short refl
shown-given Long line gives = let long : leb (length line) longest ≡ false = lt-leb (length line) longest gives in rw long refl
shown-given End line gives = absurd gives

-- a line that was put behind others
pub shown-push : (old new : List Line) (given : Line) (line : List ℕ) → new ≡ old ++ given ∷ [] → Gives given line → shown new ≡ shown old ++ input_line line ∷ []
shown-push old new given line is gives = ap shown is ∙ map-append line_shown old (given ∷ []) ∙ ap (λ l. shown old ++ l) (shown-given given line gives)

-- a line that is not the end was read
pub line_read : (old new : Intake) (left left' : Option (List ℕ)) (given : Line) → given ≢ End → Reads old new left left' (Ok given)
    → (line : List ℕ) × ReadsLine old new left left' line × Gives given line
line_read old new left left' (Whole bytes) some reads = (bytes.items, reads.0, (refl, reads.1))
line_read old new left left' Long some reads = (reads.0, reads.1, reads.2)
line_read old new left left' End some reads = absurd (some refl)

-- the bytes taken before and now
pub run_taken : {limit : ℕ} {mid now : Intake} {left left' left'' : Option (List ℕ)} {old new : List InputLine} {faults faults' : ℕ} (r : Run limit mid left left' old new faults faults')
    (more : List ℕ) → Takes mid now left' left'' more → (now.taken ≡ length (r.front ++ more)) × (now.limit ≡ limit)
run_taken r more takes = (omega (arith, takes.counted, r.counted, length-append r.front more), takes.limited ∙ r.limited)

-- a line that ended at a newline
pub goes_more : {mid now : Intake} {front : List ℕ} {lines : List (List ℕ)} (goes : Goes mid front lines) (more line : List ℕ) → IsUnbroken line
    → EndsByNewline now (mid.pending ++ more) line → Goes now (front ++ more) (lines ++ line ∷ [])
goes_more {mid} {now} {front} {lines} goes more line unbroken ends =
    let parts : (rest : List ℕ) → mid.pending ++ (more ++ rest) ≡ line ++ newline ∷ (now.pending ++ rest) =
    λ rest. sym (append_assoc mid.pending more rest) ∙ ap (λ l. l ++ rest) ends.parts ∙ append_assoc line (newline ∷ now.pending) rest in
    record {
      going = ends.going;
      all =
          λ rest. ap lines_of (append_assoc front more rest) ∙ goes.all (more ++ rest) ∙ ap (λ l. lines ++ lines_of l) (parts rest)
          ∙ ap (λ l. lines ++ l) (lines_of-ended line (now.pending ++ rest) unbroken)
          ∙ sym (append_assoc lines (line ∷ []) (lines_of (now.pending ++ rest)));
      ended =
          λ rest. ap ended_of (append_assoc front more rest) ∙ goes.ended (more ++ rest) ∙ ap (λ l. lines ++ ended_of l) (parts rest)
          ∙ ap (λ l. lines ++ l) (ended_of-ended line (now.pending ++ rest) unbroken)
          ∙ sym (append_assoc lines (line ∷ []) (ended_of (now.pending ++ rest)));
    }

-- a last line
pub ends_more : {mid now : Intake} {left'' : Option (List ℕ)} {front : List ℕ} {lines : List (List ℕ)} (goes : Goes mid front lines) (more line : List ℕ) → IsUnbroken line
    → EndsBySource now left'' (mid.pending ++ more) line → Ended now left'' (front ++ more) (lines ++ line ∷ [])
ends_more {mid} {now} {left''} {front} {lines} goes more line unbroken ends = record {
  ended = ends.ended;
  all =
      goes.all more ∙ ap (λ l. lines ++ lines_of l) ends.same ∙ ap (λ l. lines ++ l) (lines_of-unbroken line unbroken ends.some);
  at_end = ends.at_end;
}

-- a reader that goes on
pub goes_of : {intake : Intake} {left' : Option (List ℕ)} {front : List ℕ} {lines : List (List ℕ)} → Goes intake front lines ⊎ Ended intake left' front lines
    → intake.ended ≡ false → Goes intake front lines
goes_of (inl goes) going = goes
goes_of (inr ended) going = absurd (contradicts going ended.ended)

-- a line more was given
pub run_line : {limit : ℕ} {mid now : Intake} {left left' left'' : Option (List ℕ)} {old new : List InputLine} {faults faults' : ℕ} (line : List ℕ) (newer : List InputLine) (faults'' : ℕ)
    → Run limit mid left left' old new faults faults' → ReadsLine mid now left' left'' line → now.taken ≤ now.limit → newer ≡ new ++ input_line line ∷ [] → faults'' ≡ faults'
    → Run limit now left left'' old newer faults faults''
run_line {limit} {mid} {now} {left} {left'} {left''} {old} {new} line newer faults'' r reads within grown quiet =
    let goes = goes_of r.state reads.going in
    let taken = run_taken r reads.more reads.takes in
    record {
      front = r.front ++ reads.more;
      lines = r.lines ++ line ∷ [];
      consumed = Consumes-trans left left' left'' r.front reads.more r.consumed reads.takes.consumed;
      counted = taken.0;
      limited = taken.1;
      within = within;
      grown =
          grown ∙ ap (λ l. l ++ input_line line ∷ []) r.grown ∙ append_assoc old (map input_line r.lines) (input_line line ∷ [])
          ∙ ap (λ l. old ++ l) (sym (map-push input_line r.lines line));
      state = elim reads.ends [
        | inl ends ↦ inl (goes_more goes reads.more line reads.unbroken ends)
        | inr ends ↦ inr (ends_more goes reads.more line reads.unbroken ends)
      ];
      quiet = quiet ∙ r.quiet;
    }

-- fewer bytes may be taken or are pending
pub run_smaller : {mid now : Intake} {left' left'' : Option (List ℕ)} (line : List ℕ) → ReadsLine mid now left' left'' line → now.taken ≤ now.limit
    → (now.limit - now.taken) + length now.pending < (mid.limit - mid.taken) + length mid.pending
run_smaller {mid} {now} line reads within =
    let counted = reads.takes.counted in
    let limited = reads.takes.limited in
    let joined = length-append mid.pending reads.more in
    elim reads.ends [
      | inl ends ↦ omega (arith, counted, limited, joined, within, ap length ends.parts, length-append line (newline ∷ now.pending))
      | inr ends ↦ omega (arith, counted, limited, joined, within, ap length ends.same, ends.some, ap length ends.none)
    ]

-- what was given where memory was wanting
pub run_some : {limit : ℕ} {mid now : Intake} {left left' left'' : Option (List ℕ)} {old new : List InputLine} {faults faults' : ℕ} (r : Run limit mid left left' old new faults faults')
    (more : List ℕ) → mid.ended ≡ false → Takes mid now left' left'' more → ReadsSome left left'' (map input_line r.lines)
run_some {limit} {mid} {now} {left} {left'} {left''} r more going takes =
    let goes = goes_of r.state going in
    record {
      front = r.front ++ more;
      behind = map input_line (ended_of (mid.pending ++ more));
      consumed = Consumes-trans left left' left'' r.front more r.consumed takes.consumed;
      lines = sym (map-append input_line r.lines (ended_of (mid.pending ++ more))) ∙ ap (map input_line) (sym (goes.ended more));
    }

-- what was given before an error
pub run_err : {limit : ℕ} {mid : Intake} (now : Intake) {left left' : Option (List ℕ)} (left'' : Option (List ℕ)) {old new : List InputLine} {faults faults' : ℕ} (error : ReadErr)
    (r : Run limit mid left left' old new faults faults') → now.taken ≤ now.limit → Reads mid now left' left'' (Err error)
    → ReadsLines {T = Unit {0}} limit left left'' (map input_line r.lines) (Err error)
run_err {limit} {mid} now {left} {left'} left'' Fault r within reads =
    let goes = goes_of r.state reads.going in
    let taken = run_taken r reads.more reads.takes in
    record {
      front = r.front ++ reads.more;
      consumed = Consumes-trans left left' left'' r.front reads.more r.consumed reads.takes.consumed;
      within = omega (arith, taken.0, taken.1, within);
      lines =
          ap (map input_line)
          (sym (goes.ended reads.more ∙ ap (λ l. r.lines ++ l) (ended_of-unbroken (mid.pending ++ reads.more) reads.unbroken) ∙ append-nil r.lines));
    }
run_err {limit} {mid} now {left} {left'} left'' InputLong r within reads =
    let goes = goes_of r.state reads.going in
    record {
      front = r.front ++ reads.more;
      next = reads.next;
      consumed =
          subst (Consumes left left'') (sym (append_assoc r.front reads.more (reads.next ∷ [])))
          (Consumes-trans left left' left'' r.front (reads.more ++ reads.next ∷ []) r.consumed reads.consumed);
      reached = omega (arith, length-append r.front reads.more, r.counted, reads.reached, r.limited);
      lines =
          ap (map input_line)
          (sym (goes.ended reads.more ∙ ap (λ l. r.lines ++ l) (ended_of-unbroken (mid.pending ++ reads.more) reads.unbroken) ∙ append-nil r.lines));
    }
run_err now left'' NoMemory r within reads = run_some r reads.more reads.going reads.takes

-- what was given at the end
pub run_end : {limit : ℕ} {mid now : Intake} {left left' left'' : Option (List ℕ)} {old new : List InputLine} {faults faults' : ℕ} (r : Run limit mid left left' old new faults faults')
    → now.taken ≤ now.limit → ReadsEnd mid now left' left'' → ReadsAll limit left left'' (map input_line r.lines)
run_end {limit} {mid} {now} {left} {left'} {left''} r within reads =
    let taken = run_taken r [] reads.takes in
    record {
      front = r.front ++ [];
      consumed = Consumes-trans left left' left'' r.front [] r.consumed reads.takes.consumed;
      within = omega (arith, taken.0, taken.1, within);
      at_end = elim r.state [
        | inl goes ↦ reads.at_end goes.going
        | inr ended ↦ subst IsAtEnd (sym (reads.untouched ended.ended)) ended.at_end
      ];
      lines = ap (map input_line) (elim r.state [
        | inl goes ↦
            sym (goes.all [] ∙ ap (λ l. r.lines ++ lines_of (l ++ [])) reads.nothing ∙ append-nil r.lines)
        | inr ended ↦ sym (ap lines_of (append-nil r.front) ∙ ended.all)
      ]);
    }

-- the lines grew by those that were given
pub gives : {limit : ℕ} {intake : Intake} {left left' left'' : Option (List ℕ)} {old new : List InputLine} {faults faults' : ℕ} (result : Result (Unit {0}) ReadErr)
    (r : Run limit intake left left' old new faults faults') → ReadsLines limit left left'' (map input_line r.lines) result → GivesLines limit left left'' old new result
gives result r reads = record { given = map input_line r.lines; grown = r.grown; reads = reads }

-- where the source tells its bytes, they are all that was read
pub reads-all : (limit : ℕ) (left left' : Option (List ℕ)) (old new : List InputLine) → GivesLines {T = Unit {0}} limit left left' old new (Ok tt)
    → IfSome left (λ bytes. new ≡ old ++ map input_line (lines_of bytes))
reads-all limit left left' old new given =
    Consumes-whole left left' given.reads.front (λ bytes. new ≡ old ++ map input_line (lines_of bytes)) given.reads.consumed given.reads.at_end
    (given.grown ∙ ap (λ l. old ++ l) given.reads.lines)
