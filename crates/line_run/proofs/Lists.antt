-- Replies that are put behind others.
use Rattle.std.proofs.Common.{◌≡◌, ℕ, ◌+◌, ◌-◌, ◌^◌, ◌<◌, ◌≤◌, ◌||◌, ◌⊎◌, Bool, true, false, List, [], ◌∷◌, ◌++◌, refl, sym, ap, subst, ◌∙◌, append_assoc, append-nil, inl, inr, arith}
use Rattle.std.proofs.Math.Nat.{add_assoc, min-eq_left, min-eq_right}
use Rattle.std.proofs.lemmas.Bool.{cases_order}
use Rattle.std.specs.Prelude.{Option, Result, Ok, Err, OnOk, min}
use Rattle.std.specs.Io.KnownBytes.{Appends}
use Rattle.std.proofs.KnownBytes.{Appends-trans}
use Rattle.outer_io.specs.Front.{AppendsFront}
use Rattle.outer_io.specs.Lines.{InputLine}
use Rattle.line_run.specs.declared.replies.Replies.{Replies}
use Rattle.line_run.specs.Replies.{Reply, Talk, AreReplies, bytes_of, has_error, sum_of, steps_of}
use Rattle.line_run.specs.Steps.{Adds, Gives}

pub are_push : (talk : Talk) (before lines : List InputLine) (replies : List Reply) (line : InputLine) (reply : Reply) → AreReplies talk before lines replies → talk.says (before ++ lines) line reply
    → AreReplies talk before (lines ++ line ∷ []) (replies ++ reply ∷ [])
are_push talk before [] [] line reply are is = (subst (λ (l : List InputLine). talk.says l line reply) (append-nil before) is, tt)
are_push talk before (l ∷ lines) (r ∷ replies) line reply are is =
    (are.0, are_push talk (before ++ l ∷ []) lines replies line reply are.1 (subst (λ (m : List InputLine). talk.says m line reply) (sym (append_assoc before (l ∷ []) lines)) is))
are_push talk before [] (r ∷ replies) line reply are is = absurd are
are_push talk before (l ∷ lines) [] line reply are is = absurd are

pub bytes_push : (replies : List Reply) (reply : Reply) → bytes_of (replies ++ reply ∷ []) ≡ bytes_of replies ++ reply.bytes
bytes_push [] reply = append-nil reply.bytes
bytes_push (r ∷ replies) reply = ap (λ (l : List ℕ). r.bytes ++ l) (bytes_push replies reply) ∙ sym (append_assoc r.bytes (bytes_of replies) reply.bytes)

or_false : (a : Bool) → (a || false) ≡ a
or_false true = refl
or_false false = refl

or_assoc : (a b c : Bool) → (a || (b || c)) ≡ ((a || b) || c)
or_assoc true b c = refl
or_assoc false b c = refl

pub error_push : (replies : List Reply) (reply : Reply) → has_error (replies ++ reply ∷ []) ≡ (has_error replies || reply.error)
error_push [] reply = or_false reply.error
error_push (r ∷ replies) reply = ap (λ (b : Bool). r.error || b) (error_push replies reply) ∙ or_assoc r.error (has_error replies) reply.error

-- the instructions of one more
pub sum_push : (replies : List Reply) (reply : Reply) → sum_of (replies ++ reply ∷ []) ≡ sum_of replies + reply.steps
sum_push [] reply = omega arith
sum_push (r ∷ replies) reply = ap (λ (n : ℕ). r.steps + n) (sum_push replies reply) ∙ sym (add_assoc r.steps (sum_of replies) reply.steps)

pub long_or_short : (n limit : ℕ) → (limit < n) ⊎ (n ≤ limit)
long_or_short n limit = elim (cases_order n limit) [
  | inl e ↦ inr (omega arith)
  | inr lt ↦ elim lt [ inl below ↦ inr (omega arith) | inr above ↦ inl above ]
]

-- A sum that stands still at a number stands there behind one more too.
min_add : (n more last : ℕ) → min (min n last + more) last ≡ min (n + more) last
min_add n more last = elim (long_or_short n last) [
  | inl past ↦
      (let here : min n last ≡ last = min-eq_right (omega (arith, past)) in
      let now : min (last + more) last ≡ last = min-eq_right (omega arith) in
      let all : min (n + more) last ≡ last = min-eq_right (omega (arith, past)) in
      ap (λ (l : ℕ). min (l + more) last) here ∙ now ∙ sym all)
  | inr within ↦ ap (λ (l : ℕ). min (l + more) last) (min-eq_left within)
]

pub steps_push : (replies : List Reply) (reply : Reply) → steps_of (replies ++ reply ∷ []) ≡ min (steps_of replies + reply.steps) (2 ^ 64 - 1)
steps_push replies reply = ap (λ (n : ℕ). min n (2 ^ 64 - 1)) (sum_push replies reply) ∙ sym (min_add (sum_of replies) reply.steps (2 ^ 64 - 1))

-- what two calls gave
pub gives_trans : {a b c : Option (List ℕ)} {x y z : List ℕ} → Gives a b x y → Gives b c y z → Gives a c x z
gives_trans {a} {b} {c} {x} {y} {z} first second = record {
  given = first.given ++ second.given;
  parts = append_assoc first.given second.given z ∙ ap (λ (l : List ℕ). first.given ++ l) second.parts ∙ first.parts;
  appended = Appends-trans a b c first.given second.given first.appended second.appended;
}

-- what was put behind what is held
pub gives_more : {a b : Option (List ℕ)} {x y : List ℕ} (more : List ℕ) → Gives a b x y → Gives a b (x ++ more) (y ++ more)
gives_more {a} {b} {x} {y} more first = record {
  given = first.given;
  parts = sym (append_assoc first.given y more) ∙ ap (λ (l : List ℕ). l ++ more) first.parts;
  appended = first.appended;
}

-- a front of what is held was given
pub gives_front : {a b c : Option (List ℕ)} {x y : List ℕ} → Gives a b x y → AppendsFront b c y → AppendsFront a c x
gives_front {a} {b} {c} {x} {y} first front = record {
  front = first.given ++ front.front;
  behind = front.behind;
  parts = append_assoc first.given front.front front.behind ∙ ap (λ (l : List ℕ). first.given ++ l) front.parts ∙ first.parts;
  appended = Appends-trans a b c first.given front.front first.appended front.appended;
}

-- all that is held was given
pub gives_all : (a b c : Option (List ℕ)) (x y : List ℕ) → Gives a b x y → Appends b c y → Appends a c x
gives_all a b c x y first all =
    subst (λ (l : List ℕ). Appends a c l) first.parts (Appends-trans a b c first.given y first.appended all)

pub gives_whole : (a b : Option (List ℕ)) (x y : List ℕ) → Gives a b x y → y ≡ [] → Appends a b x
gives_whole a b x y first none =
    subst (λ (l : List ℕ). Appends a b l) (sym (append-nil first.given) ∙ ap (λ (l : List ℕ). first.given ++ l) (sym none) ∙ first.parts) first.appended

-- a reply that was put behind those that are held
pub adds_so : {T E : Type 0} (Is : Reply → Type 0) (before now : Replies) (reply : Reply) (result : Result T E) → Is reply → OnOk result (now.bytes.items ≡ before.bytes.items ++ reply.bytes)
    → OnOk result (now.any_error ≡ (before.any_error || reply.error)) → OnOk result (now.steps ≡ min (before.steps + reply.steps) (2 ^ 64 - 1)) → OnOk result (Adds Is before now)
adds_so Is before now reply (Ok done) is bytes error steps = record { reply = reply; is = is; bytes = bytes; error = error; steps = steps }
adds_so Is before now reply (Err error) is bytes at steps = tt
