-- A run over lines: what was read, which replies the lines have, and what was given of them.
use Rattle.std.proofs.Common.{◌≡◌, ◌≢◌, ℕ, ◌+◌, ◌-◌, ◌^◌, ◌<◌, ◌≤◌, Bool, true, false, ◌||◌, ◌⊎◌, List, [], ◌∷◌, ◌++◌, length, map, take, Ok, Some, None, refl, sym, ap, ◌∙◌, subst, inl, inr, arith, append_assoc, append-nil, length-append}
use Rattle.std.proofs.lemmas.List.{map-append}
use Rattle.std.proofs.Math.Seq.{take-append-add, take-append_seam}
use Rattle.std.proofs.lemmas.Bool.{le-leb, lt-leb}
use Rattle.std.specs.Prelude.{Option, min}
use Rattle.std.specs.Io.KnownBytes.{Consumes, IsAtEnd, Appends}
use Rattle.std.proofs.KnownBytes.{Consumes-whole}
use Rattle.outer_io.specs.Front.{AppendsFront}
use Rattle.outer_io.specs.Lines.{InputLine, input_line, lines_of, ended_of}
use Rattle.outer_io.specs.Reading.{Intake, Reads}
use Rattle.outer_io.specs.Runs.{line_shown}
use Rattle.outer_io.specs.declared.lines.Line.{Line}
use Rattle.outer_io.specs.declared.lines.Line.TheVariants.{End}
use Rattle.outer_io.specs.declared.lines.ReadErr.TheVariants as e
use Rattle.outer_io.proofs.RunLemmas.{Run, Goes, Ended, run_none, run_line, run_err, run_end, line_read, shown-given}
use Rattle.command_parts.specs.declared.status.Status.{Status}
use Rattle.command_parts.specs.declared.status.Status.TheVariants as s
use Rattle.command_parts.specs.DeliversOver.{IsInput}
use Rattle.command_parts.specs.Told.{Told, uncounted}
use Rattle.command_parts.specs.Writing.{IsWriteFault}
use Rattle.line_run.specs.declared.replies.Replies.{Replies}
use Rattle.line_run.specs.Replies.{Reply, Front, Talk, AreReplies, bytes_of, has_error, steps_of, status_of, lines_told, bytes_behind, whole_told, TellsWhole, TellsCut, TellsBy, TellsInput}
use Rattle.line_run.specs.declared.ran.Ran.{Ran}
use Rattle.line_run.specs.Passing.{listings_by, PassesAll, PassesFront, Passes}
use Rattle.line_run.specs.Steps.{Gives, Adds, ReadsNot, AnswersNot, GivesLast, Closes, ended_by, cut_short}
use Rattle.line_run.specs.Talking.{Hears, Ends}
use Rattle.line_run.proofs.Lists.{long_or_short, are_push, bytes_push, error_push, steps_push, gives_trans, gives_more, gives_front, gives_all, gives_whole}

-- The lines so far were heard and have their replies. What stands before these, and they, were given up to what is held.
pub record Pass (talk : Talk) (heard : List InputLine → Type 0) (front : List ℕ) (limit : ℕ) (intake : Intake) (left left' held held' : Option (List ℕ)) (replies : Replies) (faults faults' : ℕ) : Type 0 where
  pub lines : List InputLine
  pub run : Run limit intake left left' [] lines faults faults'
  pub hears : heard lines
  pub all : List Reply
  pub are : AreReplies talk [] lines all
  pub written : Gives held held' (front ++ bytes_of all) replies.bytes.items
  pub error : replies.any_error ≡ has_error all
  pub steps : replies.steps ≡ steps_of all

-- what stands before the replies is the front's bytes
pub pass_behind : {talk : Talk} {heard : List InputLine → Type 0} {before : List ℕ} {limit : ℕ} {intake : Intake} {left left' held held' : Option (List ℕ)} {replies : Replies} {faults faults' : ℕ} (front : Front)
    → front.bytes ≡ before → Pass talk heard before limit intake left left' held held' replies faults faults' → Pass talk heard front.bytes limit intake left left' held held' replies faults faults'
pass_behind {talk} {heard} {before} {limit} {intake} {left} {left'} {held} {held'} {replies} {faults} {faults'} front is p =
    subst (λ (l : List ℕ). Pass talk heard l limit intake left left' held held' replies faults faults') (sym is) p

-- ---- the lines so far are the first of those that are told of

-- the lines of an input within its limit
pub told_within : (limit : ℕ) (input : List ℕ) → length input ≤ limit → lines_told limit input ≡ map input_line (lines_of input)
told_within limit input within = let is = le-leb (length input) limit within in rw is refl

-- those of one beyond it
pub told_beyond : (limit : ℕ) (input : List ℕ) → limit < length input → lines_told limit input ≡ map input_line (ended_of (take limit input))
told_beyond limit input beyond = let is = lt-leb (length input) limit beyond in rw is refl

-- the first of all lines
behind_all : (limit : ℕ) (input : List ℕ) (lines behind : List (List ℕ)) → length input ≤ limit → lines_of input ≡ lines ++ behind
    → map input_line lines ++ map input_line behind ≡ lines_told limit input
behind_all limit input lines behind within is =
    sym (map-append input_line lines behind) ∙ ap (map input_line) (sym is) ∙ sym (told_within limit input within)

behind_ended : (limit : ℕ) (input : List ℕ) (lines behind : List (List ℕ)) → limit < length input → ended_of (take limit input) ≡ lines ++ behind
    → map input_line lines ++ map input_line behind ≡ lines_told limit input
behind_ended limit input lines behind beyond is =
    sym (map-append input_line lines behind) ∙ ap (map input_line) (sym is) ∙ sym (told_beyond limit input beyond)

pub record First (limit : ℕ) (left : Option (List ℕ)) (lines : List InputLine) : Type 0 where
  pub input : List ℕ
  pub is : IsInput left input
  pub behind : List InputLine
  pub parts : lines ++ behind ≡ lines_told limit input

-- over bytes that the source goes on with
first_over : (limit : ℕ) (intake : Intake) (front rest : List ℕ) (lines : List (List ℕ)) → Goes intake front lines → length front ≤ limit
    → (behind : List InputLine) × (map input_line lines ++ behind ≡ lines_told limit (front ++ rest))
first_over limit intake front rest lines goes within = elim (long_or_short (length (front ++ rest)) limit) [
  | inl beyond ↦
      (let more = take (limit - length front) rest in
      let cut : take limit (front ++ rest) ≡ front ++ more = cut_behind front rest limit within in
      (map input_line (ended_of (intake.pending ++ more)), behind_ended limit (front ++ rest) lines (ended_of (intake.pending ++ more)) beyond (ap ended_of cut ∙ goes.ended more)))
  | inr short ↦ (map input_line (lines_of (intake.pending ++ rest)), behind_all limit (front ++ rest) lines (lines_of (intake.pending ++ rest)) short (goes.all rest))
] where
  cut_behind : (front rest : List ℕ) (limit : ℕ) → length front ≤ limit → take limit (front ++ rest) ≡ front ++ take (limit - length front) rest
  cut_behind front rest limit within =
      let whole : limit ≡ length front + (limit - length front) = omega arith in
      subst (λ (n : ℕ). take n (front ++ rest) ≡ front ++ take (limit - length front) rest) (sym whole) (take-append-add front rest (limit - length front))

-- where the source has no more
first_ended : (limit : ℕ) (front : List ℕ) (lines : List (List ℕ)) → lines_of front ≡ lines → length front ≤ limit
    → (behind : List InputLine) × (map input_line lines ++ behind ≡ lines_told limit front)
first_ended limit front lines is within = ([], behind_all limit front lines [] within (is ∙ sym (append-nil lines)))

first_state : (limit : ℕ) (intake : Intake) (left left' : Option (List ℕ)) (front : List ℕ) (lines : List (List ℕ)) → Consumes left left' front → length front ≤ limit
    → Goes intake front lines ⊎ Ended intake left' front lines → First limit left (map input_line lines)
first_state limit intake None left' front lines consumed within (inl goes) =
    let b = first_over limit intake front [] lines goes within in
    record { input = front ++ []; is = tt; behind = b.0; parts = b.1 }
first_state limit intake None left' front lines consumed within (inr ended) =
    let b = first_ended limit front lines ended.all within in
    record { input = front; is = tt; behind = b.0; parts = b.1 }
first_state limit intake (Some known) None front lines consumed within state = absurd consumed
first_state limit intake (Some known) (Some rest) front lines consumed within (inl goes) =
    let b = first_over limit intake front rest lines goes within in
    record { input = front ++ rest; is = consumed; behind = b.0; parts = b.1 }
first_state limit intake (Some known) (Some rest) front lines consumed within (inr ended) =
    let b = first_ended limit front lines ended.all within in
    record { input = front; is = consumed ∙ ap (λ (l : List ℕ). front ++ l) ended.at_end ∙ append-nil front; behind = b.0; parts = b.1 }

pub first_of : {limit : ℕ} {intake : Intake} {left left' : Option (List ℕ)} {lines : List InputLine} {faults faults' : ℕ} → Run limit intake left left' [] lines faults faults' → First limit left lines
first_of {limit} {intake} {left} {left'} {lines} r =
    subst (First limit left) (sym r.grown) (first_state limit intake left left' r.front r.lines r.consumed (omega (arith, r.counted, r.within, r.limited)) r.state)

-- a front of what was to be given so far was given
pub pass_front : {talk : Talk} {heard : List InputLine → Type 0} {front : Front} {limit : ℕ} {intake : Intake} {left left' held held' : Option (List ℕ)} {replies : Replies} {faults faults' : ℕ} (held'' : Option (List ℕ))
    → Pass talk heard front.bytes limit intake left left' held held' replies faults faults' → AppendsFront held' held'' replies.bytes.items → PassesFront talk front limit left held held''
pass_front held'' p given =
    let first = first_of p.run in
    record { input = first.input; is = first.is; lines = p.lines; behind = first.behind; parts = first.parts; replies = p.all; are = p.are; appended = inl (gives_front p.written given) }

-- ---- the steps

pub pass_none : (talk : Talk) (heard : List InputLine → Type 0) (front : List ℕ) (limit : ℕ) (intake : Intake) (left held : Option (List ℕ)) (replies : Replies) (faults : ℕ) → heard []
    → intake ≡ record { limit = limit; taken = 0; pending = []; ended = false } → Appends held held [] → replies.bytes.items ≡ front → replies.any_error ≡ false → replies.steps ≡ 0
    → Pass talk heard front limit intake left left held held replies faults faults
pass_none talk heard front limit intake left held replies faults hears is nothing bytes error steps = record {
  lines = [];
  run = run_none limit intake left [] faults is;
  hears = hears;
  all = [];
  are = tt;
  written = record { given = []; parts = bytes ∙ sym (append-nil front); appended = nothing };
  error = error;
  steps = steps;
}

-- the replies were given before the next line was read
pub pass_given : {talk : Talk} {heard : List InputLine → Type 0} {front : List ℕ} {limit : ℕ} {intake : Intake} {left left' held held' held'' : Option (List ℕ)} {replies : Replies} {faults faults' : ℕ} (now : Replies)
    → Pass talk heard front limit intake left left' held held' replies faults faults' → Gives held' held'' replies.bytes.items now.bytes.items → now.any_error ≡ replies.any_error
    → now.steps ≡ replies.steps → Pass talk heard front limit intake left left' held held'' now faults faults'
pass_given now p given same counted = record {
  lines = p.lines;
  run = p.run;
  hears = p.hears;
  all = p.all;
  are = p.are;
  written = gives_trans p.written given;
  error = same ∙ p.error;
  steps = counted ∙ p.steps;
}

-- what is to be given behind one reply more
written_more : {held held' : Option (List ℕ)} (front : List ℕ) (all : List Reply) (reply : Reply) (before after : Replies) → Gives held held' (front ++ bytes_of all) before.bytes.items
    → after.bytes.items ≡ before.bytes.items ++ reply.bytes → Gives held held' (front ++ bytes_of (all ++ reply ∷ [])) after.bytes.items
written_more {held} {held'} front all reply before after written bytes =
    subst (λ (l : List ℕ). Gives held held' l after.bytes.items) (append_assoc front (bytes_of all) reply.bytes ∙ ap (λ (l : List ℕ). front ++ l) (sym (bytes_push all reply)))
    (subst (λ (l : List ℕ). Gives held held' ((front ++ bytes_of all) ++ reply.bytes) l) (sym bytes) (gives_more reply.bytes written))

-- .. with its error and its instructions
error_more : (all : List Reply) (reply : Reply) (before after : Replies) → before.any_error ≡ has_error all → after.any_error ≡ (before.any_error || reply.error)
    → after.any_error ≡ has_error (all ++ reply ∷ [])
error_more all reply before after error is = is ∙ ap (λ (b : Bool). b || reply.error) error ∙ sym (error_push all reply)

steps_more : (all : List Reply) (reply : Reply) (before after : Replies) → before.steps ≡ steps_of all → after.steps ≡ min (before.steps + reply.steps) (2 ^ 64 - 1)
    → after.steps ≡ steps_of (all ++ reply ∷ [])
steps_more all reply before after steps is = is ∙ ap (λ (n : ℕ). min (n + reply.steps) (2 ^ 64 - 1)) steps ∙ sym (steps_push all reply)

-- a line was read, and has its reply
pub pass_added : {talk : Talk} {heard heard' : List InputLine → Type 0} {front : List ℕ} {limit : ℕ} {mid now : Intake} {left left' left'' held held' : Option (List ℕ)} {before after : Replies} {faults faults' : ℕ} (line : Line) (faults'' : ℕ)
    → Pass talk heard front limit mid left left' held held' before faults faults' → line ≢ End → Reads mid now left' left'' (Ok line) → now.taken ≤ now.limit → faults'' ≡ faults'
    → Adds (Hears talk heard heard' (line_shown line)) before after → Pass talk heard' front limit now left left'' held held' after faults faults''
pass_added {talk} {heard} {heard'} {front} {limit} {mid} {now} {left} {left'} {left''} {held} {held'} {before} {after} line faults'' p some reads within quiet adds =
    let read = line_read mid now left' left'' line some reads in
    let one : line_shown line ∷ [] ≡ input_line read.0 ∷ [] = shown-given line read.0 read.2 in
    record {
      lines = p.lines ++ line_shown line ∷ [];
      run = run_line read.0 (p.lines ++ line_shown line ∷ []) faults'' p.run read.1 within (ap (λ (l : List InputLine). p.lines ++ l) one) quiet;
      hears = adds.is.heard p.lines p.hears;
      all = p.all ++ adds.reply ∷ [];
      are = are_push talk [] p.lines p.all (line_shown line) adds.reply p.are (adds.is.says p.lines p.hears);
      written = written_more front p.all adds.reply before after p.written adds.bytes;
      error = error_more p.all adds.reply before after p.error adds.error;
      steps = steps_more p.all adds.reply before after p.steps adds.steps;
    }

-- ---- the ends

-- by its status and its instructions
pub ended_so : (ran : Ran) (error : Bool) (steps : ℕ) → ran.status ≡ status_of error → ran.steps ≡ steps → ran ≡ ended_by error steps
ended_so ran error steps status counted =
    ap (λ (t : Status). record { status = t; steps = ran.steps }) status ∙ ap (λ (n : ℕ). record { status = status_of error; steps = n }) counted

-- .. which is of no fault of the source
pub unread : (status : Status) → IsWriteFault status → status ≢ s.ReadFault
unread status (inl fault) is = absurd cc
unread status (inr fault) is = absurd cc

-- an input within its limit is told whole
tells_within : (talk : Talk) (front : Front) (limit : ℕ) (input : List ℕ) (told : Told) → length input ≤ limit → TellsWhole talk front input told → TellsInput talk front limit input told
tells_within talk front limit input told short h = subst (λ (b : Bool). TellsBy b talk front limit input told) (sym (le-leb (length input) limit short)) h

-- .. and one beyond it up to its limit
tells_beyond : (talk : Talk) (front : Front) (limit : ℕ) (input : List ℕ) (told : Told) → limit < length input → TellsCut talk front s.InputLong (take limit input) told
    → TellsInput talk front limit input told
tells_beyond talk front limit input told beyond h = subst (λ (b : Bool). TellsBy b talk front limit input told) (sym (lt-leb (length input) limit beyond)) h

listings_ended : (front : Front) (error : Bool) (steps : ℕ) → front.listings ≡ listings_by (ended_by error steps).status front
listings_ended front true steps = refl
listings_ended front false steps = refl

-- by its status
passes_by : (talk : Talk) (front : Front) (limit : ℕ) (left left'' held held' : Option (List ℕ)) (error : Bool) (steps : ℕ)
    → PassesAll talk front limit (ended_by error steps) left held held' × IsAtEnd left'' → Passes talk front limit (ended_by error steps) left left'' held held'
passes_by talk front limit left left'' held held' true steps h = h
passes_by talk front limit left left'' held held' false steps h = h

-- the last line was read
module _ {talk : Talk} {heard : List InputLine → Type 0} (front : Front) {limit : ℕ} {mid now : Intake} {left left' left'' held held' : Option (List ℕ)} {replies : Replies} {faults faults' : ℕ}
    (held'' : Option (List ℕ)) (p : Pass talk heard front.bytes limit mid left left' held held' replies faults faults') (reads : Reads mid now left' left'' (Ok End)) (within : now.taken ≤ now.limit) where
  -- all lines have their replies, and what stands behind the last one was given
  pass_all : (closed : Replies) → GivesLast (Ends talk heard) held' held'' replies closed → PassesAll talk front limit (ended_by closed.any_error closed.steps) left held held'' × IsAtEnd left''
  pass_all closed gives =
      let all = run_end {now = now} p.run within reads in
      let last = gives.adds.reply in
      let lines : p.lines ≡ map input_line (lines_of all.front) = p.run.grown ∙ all.lines in
      let told = whole_told front (p.all ++ last ∷ []) in
      let whole : TellsWhole talk front all.front told = (
        p.all,
        subst (λ (l : List InputLine). AreReplies talk [] l p.all) lines p.are,
        last,
        subst (λ (l : List InputLine). talk.ends l last) lines (gives.adds.is p.lines p.hears),
        refl,
      ) in (
        record {
          input = all.front;
          is = Consumes-whole left left'' all.front (λ bytes. bytes ≡ all.front) all.consumed all.at_end refl;
          told = told;
          tells = tells_within talk front limit all.front told all.within whole;
          ends = ap status_of (sym (error_more p.all last replies gives.between p.error gives.adds.error) ∙ sym gives.error);
          listings = listings_ended front closed.any_error closed.steps;
          steps = sym (steps_more p.all last replies gives.between p.steps gives.adds.steps) ∙ sym gives.steps;
          appended =
              gives_whole held held'' (bytes_behind front (p.all ++ last ∷ [])) closed.bytes.items
              (gives_trans (written_more front.bytes p.all last replies gives.between p.written gives.adds.bytes) gives.given) gives.none;
        },
        all.at_end,
      )

  -- .. or a front of it was given
  pass_last : (between : Replies) → Adds (Ends talk heard) replies between → AppendsFront held' held'' between.bytes.items → PassesFront talk front limit left held held''
  pass_last between adds given =
      let all = run_end {now = now} p.run within reads in
      let lines : p.lines ≡ lines_told limit all.front = p.run.grown ∙ all.lines ∙ sym (told_within limit all.front all.within) in
      record {
        input = all.front;
        is = Consumes-whole left left'' all.front (λ bytes. bytes ≡ all.front) all.consumed all.at_end refl;
        lines = p.lines;
        behind = [];
        parts = append-nil p.lines ∙ lines;
        replies = p.all;
        are = p.are;
        appended = inr (record {
          within = all.within;
          all = refl;
          last = adds.reply;
          ends = adds.is p.lines p.hears;
          appended = gives_front (written_more front.bytes p.all adds.reply replies between p.written adds.bytes) given;
        });
      }

  -- what stands behind the last line could not be made or given
  pass_unended : (status : Status) → AnswersNot (Ends talk heard) held' held'' replies status → Passes talk front limit (cut_short status) left left'' held held''
  pass_unended s.WriteFault (between, adds, given) = pass_last between adds given
  pass_unended s.NoMemory (inl none) = pass_front held'' p (record { front = []; behind = replies.bytes.items; parts = refl; appended = none })
  pass_unended s.NoMemory (inr (between, adds, given)) = pass_last between adds given
  pass_unended s.Done never = absurd never
  pass_unended s.SomeErrors never = absurd never
  pass_unended s.Refused never = absurd never
  pass_unended s.ReadFault never = absurd never
  pass_unended s.InputLong never = absurd never
  pass_unended s.Usage never = absurd never
  pass_unended s.FileFault never = absurd never
  pass_unended s.FileAbsent never = absurd never
  pass_unended s.FileLong never = absurd never

  -- how a run ends behind the last line
  pub pass_closed : (ran : Ran) → Closes (Ends talk heard) held' held'' replies ran → Passes talk front limit ran left left'' held held''
  pass_closed ran (inl (closed, gives, is)) =
      subst (λ (r : Ran). Passes talk front limit r left left'' held held'') (sym is)
      (passes_by talk front limit left left'' held held'' closed.any_error closed.steps (pass_all closed gives))
  pass_closed ran (inr (status, not, is)) = subst (λ (r : Ran). Passes talk front limit r left left'' held held'') (sym is) (pass_unended status not)

-- the source had more bytes than its limit
limit_told : (talk : Talk) (front : Front) (limit : ℕ) (left left'' held held'' : Option (List ℕ)) (lines : List InputLine) (all : List Reply) (taken : List ℕ) (next : ℕ) (rest : List ℕ)
    → length taken ≡ limit → lines ≡ map input_line (ended_of taken) → AreReplies talk [] lines all → IsInput left (taken ++ next ∷ rest) → Appends held held'' (bytes_behind front all)
    → PassesAll talk front limit (cut_short s.InputLong) left held held''
limit_told talk front limit left left'' held held'' lines all taken next rest reached is are input appended =
    let whole = taken ++ next ∷ rest in
    let long : limit < length whole = omega (arith, length-append taken (next ∷ rest), reached) in
    let cut : take limit whole ≡ taken = subst (λ (n : ℕ). take n whole ≡ taken) reached (take-append_seam taken (next ∷ rest)) in
    let told : lines ≡ map input_line (ended_of (take limit whole)) = is ∙ ap (λ (l : List ℕ). map input_line (ended_of l)) (sym cut) in
    record {
      input = whole;
      is = input;
      told = uncounted s.InputLong (bytes_behind front all);
      tells = tells_beyond talk front limit whole (uncounted s.InputLong (bytes_behind front all)) long (all, subst (λ (l : List InputLine). AreReplies talk [] l all) told are, refl);
      ends = refl;
      listings = refl;
      steps = refl;
      appended = appended;
    }

limit_input : (left left'' : Option (List ℕ)) (front : List ℕ) (next : ℕ) → Consumes left left'' (front ++ next ∷ []) → (rest : List ℕ) × IsInput left (front ++ next ∷ rest)
limit_input None left'' front next consumed = ([], tt)
limit_input (Some known) None front next consumed = absurd consumed
limit_input (Some known) (Some rest) front next consumed = (rest, consumed ∙ append_assoc front (next ∷ []) rest)

-- the source failed, or had more bytes than its limit, or the sink failed, or memory
pub pass_not : (talk : Talk) (heard : List InputLine → Type 0) (front : Front) (limit : ℕ) (mid now : Intake) (left left' left'' held held' held'' : Option (List ℕ)) (replies : Replies) (faults faults' : ℕ) (status : Status)
    → Pass talk heard front.bytes limit mid left left' held held' replies faults faults' → ReadsNot mid now left' left'' held' held'' replies status → now.taken ≤ now.limit
    → Passes talk front limit (cut_short status) left left'' held held''
pass_not talk heard front limit mid now left left' left'' held held' held'' replies faults faults' s.ReadFault p n within =
    let taken = run_err now left'' e.Fault p.run within n.0 in
    record {
      taken = taken.front;
      consumed = taken.consumed;
      told = uncounted s.ReadFault (bytes_behind front p.all);
      tells = (taken.within, (p.all, subst (λ (l : List InputLine). AreReplies talk [] l p.all) (p.run.grown ∙ taken.lines) p.are, refl));
      appended = gives_all held held' held'' (bytes_behind front p.all) replies.bytes.items p.written n.1;
    }
pass_not talk heard front limit mid now left left' left'' held held' held'' replies faults faults' s.InputLong p n within =
    let taken = run_err now left'' e.InputLong p.run within n.0 in
    let input = limit_input left left'' taken.front taken.next taken.consumed in
    let count : length (taken.front ++ taken.next ∷ []) ≡ length taken.front + 1 = length-append taken.front (taken.next ∷ []) in (
      limit_told talk front limit left left'' held held'' p.lines p.all taken.front taken.next input.0 taken.reached (p.run.grown ∙ taken.lines) p.are input.1
          (gives_all held held' held'' (bytes_behind front p.all) replies.bytes.items p.written n.1),
      record { front = taken.front ++ taken.next ∷ []; consumed = taken.consumed; past = omega (arith, count, taken.reached) },
    )
pass_not talk heard front limit mid now left left' left'' held held' held'' replies faults faults' s.WriteFault p n within = pass_front held'' p n
pass_not talk heard front limit mid now left left' left'' held held' held'' replies faults faults' s.NoMemory p n within = pass_front held'' p n
pass_not talk heard front limit mid now left left' left'' held held' held'' replies faults faults' s.Done p n within = absurd n
pass_not talk heard front limit mid now left left' left'' held held' held'' replies faults faults' s.SomeErrors p n within = absurd n
pass_not talk heard front limit mid now left left' left'' held held' held'' replies faults faults' s.Refused p n within = absurd n
pass_not talk heard front limit mid now left left' left'' held held' held'' replies faults faults' s.Usage p n within = absurd n
pass_not talk heard front limit mid now left left' left'' held held' held'' replies faults faults' s.FileFault p n within = absurd n
pass_not talk heard front limit mid now left left' left'' held held' held'' replies faults faults' s.FileAbsent p n within = absurd n
pass_not talk heard front limit mid now left left' left'' held held' held'' replies faults faults' s.FileLong p n within = absurd n

-- the reply to a line could not be made or given: before it is put behind the others, these are still held
module _ (talk : Talk) (heard heard' : List InputLine → Type 0) (front : Front) (limit : ℕ) (mid now : Intake) (left left' left'' held held' held'' : Option (List ℕ)) (before : Replies) (faults faults' faults'' : ℕ) (line : Line) where
  pub pass_unanswered : (status : Status) → Pass talk heard front.bytes limit mid left left' held held' before faults faults' → line ≢ End → Reads mid now left' left'' (Ok line) → now.taken ≤ now.limit
      → faults'' ≡ faults' → AnswersNot (Hears talk heard heard' (line_shown line)) held' held'' before status → Passes talk front limit (cut_short status) left left'' held held''
  pass_unanswered s.WriteFault p some reads within quiet (between, adds, given) = pass_front held'' (pass_added line faults'' p some reads within quiet adds) given
  pass_unanswered s.NoMemory p some reads within quiet (inl none) = pass_front held'' p (record { front = []; behind = before.bytes.items; parts = refl; appended = none })
  pass_unanswered s.NoMemory p some reads within quiet (inr (between, adds, given)) = pass_front held'' (pass_added line faults'' p some reads within quiet adds) given
  pass_unanswered s.Done p some reads within quiet never = absurd never
  pass_unanswered s.SomeErrors p some reads within quiet never = absurd never
  pass_unanswered s.Refused p some reads within quiet never = absurd never
  pass_unanswered s.ReadFault p some reads within quiet never = absurd never
  pass_unanswered s.InputLong p some reads within quiet never = absurd never
  pass_unanswered s.Usage p some reads within quiet never = absurd never
  pass_unanswered s.FileFault p some reads within quiet never = absurd never
  pass_unanswered s.FileAbsent p some reads within quiet never = absurd never
  pass_unanswered s.FileLong p some reads within quiet never = absurd never

-- nothing was read
pub pass_nothing : (talk : Talk) (front : Front) (limit : ℕ) (left held : Option (List ℕ)) → Appends held held [] → PassesFront talk front limit left held held
pass_nothing talk front limit None held none = record {
  input = [];
  is = tt;
  lines = [];
  behind = lines_told limit [];
  parts = refl;
  replies = [];
  are = tt;
  appended = inl (record { front = []; behind = bytes_behind front []; parts = refl; appended = none });
}
pass_nothing talk front limit (Some known) held none = record {
  input = known;
  is = refl;
  lines = [];
  behind = lines_told limit known;
  parts = refl;
  replies = [];
  are = tt;
  appended = inl (record { front = []; behind = bytes_behind front []; parts = refl; appended = none });
}
