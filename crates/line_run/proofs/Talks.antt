-- Conversations: where one tells what another tells, and where each line is told one thing.
use Rattle.std.proofs.Common.{◌≡◌, ℕ, ◌⊎◌, inl, inr, Bool, true, false, List, [], ◌∷◌, ◌++◌, length, map, take, nat_le, Option, refl, sym, ap, ◌∙◌, subst, append_assoc, append-nil}
use Rattle.std.proofs.lemmas.Bool.{le-leb}
use Rattle.outer_io.specs.Front.{AppendsFront}
use Rattle.outer_io.specs.Lines.{InputLine, input_line, lines_of, ended_of}
use Rattle.command_parts.specs.declared.status.Status.TheVariants as s
use Rattle.command_parts.specs.Told.{Told, uncounted}
use Rattle.line_run.specs.Passing.{PassesEnd, PassesFront}
use Rattle.line_run.specs.Replies.{Reply, Front, Talk, stateless, AreReplies, bytes_of, bytes_behind, whole_told, lines_told, TellsBy, TellsInput, TellsTaken}

-- what the one tells the other tells
pub record Follows (T U : Talk) : Type 0 where
  pub says : (before : List InputLine) (line : InputLine) (reply : Reply) → T.says before line reply → U.says before line reply
  pub ends : (lines : List InputLine) (reply : Reply) → T.ends lines reply → U.ends lines reply

-- one thing is told at most
pub record IsOnce (T : Talk) : Type 0 where
  pub says : (before : List InputLine) (line : InputLine) (a b : Reply) → T.says before line a → T.says before line b → a ≡ b
  pub ends : (lines : List InputLine) (a b : Reply) → T.ends lines a → T.ends lines b → a ≡ b

-- and something is
pub record IsTotal (T : Talk) : Type 0 where
  pub says : (before : List InputLine) (line : InputLine) → (reply : Reply) × T.says before line reply
  pub ends : (lines : List InputLine) → (reply : Reply) × T.ends lines reply

-- ---- those that look at no line before

pub stateless_follows : (P Q : InputLine → Reply → Type 0) → ((line : InputLine) (reply : Reply) → P line reply → Q line reply) → Follows (stateless P) (stateless Q)
stateless_follows P Q to = record { says = λ before line reply is. to line reply is; ends = λ lines reply is. is }

pub stateless_once : (P : InputLine → Reply → Type 0) → ((line : InputLine) (a b : Reply) → P line a → P line b → a ≡ b) → IsOnce (stateless P)
stateless_once P once = record { says = λ before line a b h k. once line a b h k; ends = λ lines a b h k. h ∙ sym k }

pub stateless_total : (P : InputLine → Reply → Type 0) → ((line : InputLine) → (reply : Reply) × P line reply) → IsTotal (stateless P)
stateless_total P some = record { says = λ before line. some line; ends = λ lines. (record { bytes = []; error = false; steps = 0 }, refl) }

-- ---- replies

pub are_follow : (T U : Talk) → Follows T U → (before lines : List InputLine) (replies : List Reply) → AreReplies T before lines replies → AreReplies U before lines replies
are_follow T U to before [] [] are = tt
are_follow T U to before (line ∷ lines) (reply ∷ replies) are = (to.says before line reply are.0, are_follow T U to (before ++ line ∷ []) lines replies are.1)
are_follow T U to before [] (reply ∷ replies) are = absurd are
are_follow T U to before (line ∷ lines) [] are = absurd are

-- each line has a reply
are_some : (T : Talk) → IsTotal T → (before lines : List InputLine) → (replies : List Reply) × AreReplies T before lines replies
are_some T some before [] = ([], tt)
are_some T some before (line ∷ lines) = let one = some.says before line in let rest = are_some T some (before ++ line ∷ []) lines in (one.0 ∷ rest.0, (one.1, rest.1))

-- where each line has one reply, the replies of the first lines are the first replies
are_front : (T : Talk) → IsOnce T → (before lines behind : List InputLine) (first replies : List Reply) → AreReplies T before lines first → AreReplies T before (lines ++ behind) replies
    → (more : List Reply) × (replies ≡ first ++ more)
are_front T once before [] behind [] replies a b = (replies, refl)
are_front T once before [] behind (reply ∷ first) replies a b = absurd a
are_front T once before (line ∷ lines) behind [] replies a b = absurd a
are_front T once before (line ∷ lines) behind (reply ∷ first) [] a b = absurd b
are_front T once before (line ∷ lines) behind (reply ∷ first) (other ∷ replies) a b =
    let rest = are_front T once (before ++ line ∷ []) lines behind first replies a.1 b.1 in
    (rest.0, ap (λ (r : Reply). r ∷ replies) (once.says before line other reply b.0 a.0) ∙ ap (λ (l : List Reply). reply ∷ l) rest.1)

-- replies of the same lines are the same
are_once : (T : Talk) → IsOnce T → (before lines : List InputLine) (first replies : List Reply) → AreReplies T before lines first → AreReplies T before lines replies → first ≡ replies
are_once T once before [] [] [] a b = refl
are_once T once before [] [] (reply ∷ replies) a b = absurd b
are_once T once before [] (reply ∷ first) replies a b = absurd a
are_once T once before (line ∷ lines) [] replies a b = absurd a
are_once T once before (line ∷ lines) (reply ∷ first) [] a b = absurd b
are_once T once before (line ∷ lines) (reply ∷ first) (other ∷ replies) a b =
    ap (λ (r : Reply). r ∷ first) (once.says before line reply other a.0 b.0)
    ∙ ap (λ (l : List Reply). other ∷ l) (are_once T once (before ++ line ∷ []) lines first replies a.1 b.1)

bytes_append : (first more : List Reply) → bytes_of (first ++ more) ≡ bytes_of first ++ bytes_of more
bytes_append [] more = refl
bytes_append (reply ∷ first) more = ap (λ (l : List ℕ). reply.bytes ++ l) (bytes_append first more) ∙ sym (append_assoc reply.bytes (bytes_of first) (bytes_of more))

-- ---- what is told

module _ (T U : Talk) (to : Follows T U) (front : Front) (limit : ℕ) where
  by_follow : (within : Bool) (input : List ℕ) (told : Told) → TellsBy within T front limit input told → TellsBy within U front limit input told
  by_follow true input told (replies, are, last, ends, is) =
      (replies, are_follow T U to [] (map input_line (lines_of input)) replies are, last, to.ends (map input_line (lines_of input)) last ends, is)
  by_follow false input told (replies, are, is) = (replies, are_follow T U to [] (map input_line (ended_of (take limit input))) replies are, is)

  pub input_follow : (input : List ℕ) (told : Told) → TellsInput T front limit input told → TellsInput U front limit input told
  input_follow input = by_follow (nat_le (length input) limit) input

  pub taken_follow : (taken : List ℕ) (told : Told) → TellsTaken T front limit taken told → TellsTaken U front limit taken told
  taken_follow taken told (within, (replies, are, is)) = (within, (replies, are_follow T U to [] (map input_line (ended_of taken)) replies are, is))

  module _ (left old new : Option (List ℕ)) (passes : PassesFront T front limit left old new) where
    appended_follow : AppendsFront old new (bytes_behind front passes.replies) ⊎ PassesEnd T front limit passes.input passes.lines passes.behind passes.replies old new
        → AppendsFront old new (bytes_behind front passes.replies) ⊎ PassesEnd U front limit passes.input passes.lines passes.behind passes.replies old new
    appended_follow (inl h) = inl h
    appended_follow (inr e) = inr (record { within = e.within; all = e.all; last = e.last; ends = to.ends passes.lines e.last e.ends; appended = e.appended })

    pub front_follow : PassesFront U front limit left old new
    front_follow = record {
      input = passes.input;
      is = passes.is;
      lines = passes.lines;
      behind = passes.behind;
      parts = passes.parts;
      replies = passes.replies;
      are = are_follow T U to [] passes.lines passes.replies passes.are;
      appended = appended_follow passes.appended;
    }

module _ (T : Talk) (once : IsOnce T) (front : Front) (limit : ℕ) where
  by_once : (within : Bool) (input : List ℕ) (a b : Told) → TellsBy within T front limit input a → TellsBy within T front limit input b → a ≡ b
  by_once true input a b (r, are, last, ends, is) (q, goes, other, ends', at) =
      is
      ∙ ap (λ (l : List Reply). whole_told front (l ++ last ∷ [])) (are_once T once [] (map input_line (lines_of input)) r q are goes)
      ∙ ap (λ (x : Reply). whole_told front (q ++ x ∷ [])) (once.ends (map input_line (lines_of input)) last other ends ends') ∙ sym at
  by_once false input a b (r, are, is) (q, goes, at) =
      is
      ∙ ap (λ (l : List Reply). uncounted s.InputLong (bytes_behind front l)) (are_once T once [] (map input_line (ended_of (take limit input))) r q are goes) ∙ sym at

  pub input_once : (input : List ℕ) (a b : Told) → TellsInput T front limit input a → TellsInput T front limit input b → a ≡ b
  input_once input = by_once (nat_le (length input) limit) input

module _ (T : Talk) (some : IsTotal T) (front : Front) (limit : ℕ) where
  by_some : (within : Bool) (input : List ℕ) → (told : Told) × TellsBy within T front limit input told
  by_some true input =
      let r = are_some T some [] (map input_line (lines_of input)) in
      let last = some.ends (map input_line (lines_of input)) in
      (whole_told front (r.0 ++ last.0 ∷ []), (r.0, r.1, last.0, last.1, refl))
  by_some false input =
      let r = are_some T some [] (map input_line (ended_of (take limit input))) in
      (uncounted s.InputLong (bytes_behind front r.0), (r.0, r.1, refl))

  pub input_some : (input : List ℕ) → (told : Told) × TellsInput T front limit input told
  input_some input = by_some (nat_le (length input) limit) input

-- ---- a front of what is told

-- the lines that are told of, by whether the input is within its limit
lines_whole : (limit : ℕ) (input : List ℕ) → nat_le (length input) limit ≡ true → lines_told limit input ≡ map input_line (lines_of input)
lines_whole limit input is = rw is refl

lines_cut : (limit : ℕ) (input : List ℕ) → nat_le (length input) limit ≡ false → lines_told limit input ≡ map input_line (ended_of (take limit input))
lines_cut limit input is = rw is refl

contradicts : {b : Bool} → b ≡ true → b ≡ false → ⊥
contradicts holds fails = cc

-- a front of what is told of the first lines is a front of all that is told
front_told : (old new : Option (List ℕ)) (front : Front) (first more : List Reply) → AppendsFront old new (bytes_behind front first) → AppendsFront old new (bytes_behind front (first ++ more))
front_told old new front first more h = record {
  front = h.front;
  behind = h.behind ++ bytes_of more;
  parts =
      sym (append_assoc h.front h.behind (bytes_of more)) ∙ ap (λ (l : List ℕ). l ++ bytes_of more) h.parts ∙ append_assoc front.bytes (bytes_of first) (bytes_of more)
      ∙ ap (λ (l : List ℕ). front.bytes ++ l) (sym (bytes_append first more));
  appended = h.appended;
}

-- whatever is told begins with the front and the replies to the first lines
module _ (T : Talk) (once : IsOnce T) (front : Front) (limit : ℕ) (left old new : Option (List ℕ)) (passes : PassesFront T front limit left old new) (told : Told) where
  -- what was appended is a front of what these replies are told
  of_replies : (l : List Reply) → told.bytes ≡ bytes_behind front l → AppendsFront old new (bytes_behind front l) → AppendsFront old new told.bytes
  of_replies l is h = subst (AppendsFront old new) (sym is) h

  begins : (replies : List Reply) → AreReplies T [] (lines_told limit passes.input) replies → (more : List Reply) × (replies ≡ passes.replies ++ more)
  begins replies are =
      are_front T once [] passes.lines passes.behind passes.replies replies passes.are (subst (λ (l : List InputLine). AreReplies T [] l replies) (sym passes.parts) are)

  -- behind all replies, or some of them
  behind_first : (replies more : List Reply) → AreReplies T [] (lines_told limit passes.input) replies → AppendsFront old new (bytes_behind front passes.replies)
      → AppendsFront old new (bytes_behind front (replies ++ more))
  behind_first replies more are h =
      let m = begins replies are in
      let all : replies ++ more ≡ passes.replies ++ (m.0 ++ more) = ap (λ (l : List Reply). l ++ more) m.1 ∙ append_assoc passes.replies m.0 more in
      subst (λ (l : List Reply). AppendsFront old new (bytes_behind front l)) (sym all) (front_told old new front passes.replies (m.0 ++ more) h)

  whole_front : (replies : List Reply) (last : Reply) → lines_told limit passes.input ≡ map input_line (lines_of passes.input) → AreReplies T [] (lines_told limit passes.input) replies
      → T.ends (map input_line (lines_of passes.input)) last
      → AppendsFront old new (bytes_behind front passes.replies) ⊎ PassesEnd T front limit passes.input passes.lines passes.behind passes.replies old new
      → AppendsFront old new (bytes_behind front (replies ++ last ∷ []))
  whole_front replies last lines are ends (inl h) = behind_first replies (last ∷ []) are h
  whole_front replies last lines are ends (inr e) =
      let all : passes.lines ≡ lines_told limit passes.input = sym (append-nil passes.lines) ∙ ap (λ (l : List InputLine). passes.lines ++ l) (sym e.all) ∙ passes.parts in
      let same : passes.replies ≡ replies = are_once T once [] (lines_told limit passes.input) passes.replies replies (subst (λ (l : List InputLine). AreReplies T [] l passes.replies) all passes.are) are in
      let end : e.last ≡ last = once.ends (map input_line (lines_of passes.input)) e.last last (subst (λ (l : List InputLine). T.ends l e.last) (all ∙ lines) e.ends) ends in
      subst (λ (x : Reply). AppendsFront old new (bytes_behind front (replies ++ x ∷ []))) end
      (subst (λ (l : List Reply). AppendsFront old new (bytes_behind front (l ++ e.last ∷ []))) same e.appended)

  cut_front : (replies : List Reply) → nat_le (length passes.input) limit ≡ false → AreReplies T [] (lines_told limit passes.input) replies
      → AppendsFront old new (bytes_behind front passes.replies) ⊎ PassesEnd T front limit passes.input passes.lines passes.behind passes.replies old new
      → AppendsFront old new (bytes_behind front replies)
  cut_front replies beyond are (inl h) =
      subst (λ (l : List Reply). AppendsFront old new (bytes_behind front l)) (append-nil replies) (behind_first replies [] are h)
  cut_front replies beyond are (inr e) = absurd (contradicts (le-leb (length passes.input) limit e.within) beyond)

  by_front : (within : Bool) → nat_le (length passes.input) limit ≡ within → TellsBy within T front limit passes.input told → AppendsFront old new told.bytes
  by_front true at (replies, are, last, ends, is) =
      let lines = lines_whole limit passes.input at in
      of_replies (replies ++ last ∷ []) (ap (λ (t : Told). t.bytes) is)
      (whole_front replies last lines (subst (λ (l : List InputLine). AreReplies T [] l replies) (sym lines) are) ends passes.appended)
  by_front false at (replies, are, is) =
      of_replies replies (ap (λ (t : Told). t.bytes) is)
      (cut_front replies at (subst (λ (l : List InputLine). AreReplies T [] l replies) (sym (lines_cut limit passes.input at)) are) passes.appended)

  pub tells_front : TellsInput T front limit passes.input told → AppendsFront old new told.bytes
  tells_front = by_front (nat_le (length passes.input) limit) refl
