-- Texts and comments at the front of a text.
use Rattle.std.proofs.Common.{◌≡◌, ◌≢◌, ℕ, suc, ◌+◌, ◌≤◌, Bool, true, false, List, [], ◌∷◌, ◌++◌, length, take, drop, Option, Some, None, sym, refl, ap, ◌∙◌, subst, arith, get_or}
use Rattle.std.specs.Prelude.{IsSome, IfSome, ◌==◌, if◌then◌else◌}
use Rattle.std.specs.List.{prefix_len, list_all}
use Rattle.std.proofs.lemmas.Bool.{false≢true, eqb-true, eq-eqb}
use Rattle.std.proofs.Math.Numerals.{one-add}
use Rattle.pl_lexer.specs.declared.token.Kind.TheVariants.{Text}
use Rattle.pl_lexer.specs.Lexeme.{blank, token}
use Rattle.pl_lexer.specs.Longest.{LeadsBy, NothingLeads}
use Rattle.pl_lexer.specs.Bytes.{begins, in_line, is_quote}
use Rattle.pl_lexer.specs.Tables.{sign_of}
use Rattle.pl_lexer.specs.Enclosed.{Next, on, end, wrong, closes, text_next, text_of, comment_next, slash_of}
use Rattle.pl_lexer.specs.Lengths.{one_more, closed_at, second_is}
use Rattle.pl_lexer.proofs.Runs.{is_nil-true, all_within, run_passes, run_within}
use Rattle.pl_lexer.proofs.Tested.{lead_by, test_some, Agree}

-- what is closed at a byte
pub closed_spelled : (next : Bool → ℕ → Next) (bs : List ℕ) (state : Bool) (n : ℕ) → closed_at next state bs ≡ Some n → (n ≤ length bs) × (closes next state (take n bs) ≡ true)
closed_spelled next [] state n e = absurd cc
closed_spelled next (b ∷ bs) state n e = at_next (next state b) refl (closed_spelled next bs) where
  at_more : (s : Bool) (o : Option ℕ) → next state b ≡ on s → closed_at next s bs ≡ o → one_more o ≡ Some n → ((m : ℕ) → closed_at next s bs ≡ Some m → (m ≤ length bs) × (closes next s (take m bs) ≡ true)) → (n ≤ length (b ∷ bs)) × (closes next state (take n (b ∷ bs)) ≡ true)
  at_more s None f g some rest = absurd cc
  at_more s (Some m) f g some rest =
      let long : n ≡ suc m = let same : 1 + m ≡ n = cc in omega arith in
      let spelled = rest m g in
      rw long (omega (arith, spelled.0), rw f spelled.1)

  at_next : (v : Next) → next state b ≡ v → ((s : Bool) (m : ℕ) → closed_at next s bs ≡ Some m → (m ≤ length bs) × (closes next s (take m bs) ≡ true)) → (n ≤ length (b ∷ bs)) × (closes next state (take n (b ∷ bs)) ≡ true)
  at_next (on s) f rest = at_more s (closed_at next s bs) f refl (rw f at e) (rest s)
  at_next end f rest =
      let some : Some 1 ≡ Some n = rw f at e in
      let one : n ≡ 1 = cc in
      rw one (omega arith, rw f refl)
  at_next wrong f rest = let none : None ≡ Some n = rw f at e in absurd cc

-- bytes that close what is open are all up to where it is closed
pub closes_at : (next : Bool → ℕ → Next) (more left bs : List ℕ) (state : Bool) → more ++ left ≡ bs → closes next state more ≡ true → closed_at next state bs ≡ Some (length more)
closes_at next [] left bs state e ends = absurd (false≢true ends)
closes_at next (c ∷ cs) left [] state e ends = absurd cc
closes_at next (c ∷ cs) left (b ∷ bs) state e ends = at_next (next state b) refl (λ s. closes_at next cs left bs s tails) where
  heads : c ≡ b
  heads = cc

  tails : cs ++ left ≡ bs
  tails = cc

  ends_b : closes next state (b ∷ cs) ≡ true
  ends_b = subst (λ x. closes next state (x ∷ cs) ≡ true) heads ends

  at_next : (v : Next) → next state b ≡ v → ((s : Bool) → closes next s cs ≡ true → closed_at next s bs ≡ Some (length cs)) → closed_at next state (b ∷ bs) ≡ Some (length (c ∷ cs))
  at_next (on s) f rest =
      let later : closes next s cs ≡ true = rw f at ends_b in
      rw (f, rest s later, one-add) refl
  at_next end f rest =
      let alone : cs ≡ [] = is_nil-true cs (rw f at ends_b) in
      rw (f, alone) refl
  at_next wrong f rest = absurd (false≢true (rw f at ends_b))

text_is : (quote : ℕ) (bs : List ℕ) → IsSome (text_of (quote ∷ bs)) → closes (text_next quote) false bs ≡ true
text_is quote bs some = test_some (closes (text_next quote) false bs) (token Text) some

-- a text leads up to its quote
pub text_leads : (quote : ℕ) (bs : List ℕ) (n : ℕ) → closed_at (text_next quote) false bs ≡ Some n → LeadsBy (λ bytes _. text_of bytes) (quote ∷ bs) (suc n) (token Text)
text_leads quote bs n e =
    let spelled = closed_spelled (text_next quote) bs false n e in
    lead_by (λ bytes _. text_of bytes) (quote ∷ bs) (suc n) (token Text) (omega (arith, spelled.0)) (rw spelled.1 refl) most
  where
    most : (more left : List ℕ) → more ++ left ≡ quote ∷ bs → IsSome (text_of more) → length more ≤ suc n
    most [] left parts some = omega arith
    most (q ∷ ms) left parts some =
        let heads : q ≡ quote = cc in
        let tails : ms ++ left ≡ bs = cc in
        let ends = text_is quote ms (subst (λ x. IsSome (text_of (x ∷ ms))) heads some) in
        let same : Some (length ms) ≡ Some n = sym (closes_at (text_next quote) ms left bs false tails ends) ∙ e in
        let long : length ms ≡ n = cc in
        omega arith

pub no_text : (quote : ℕ) (bs : List ℕ) → closed_at (text_next quote) false bs ≡ None → NothingLeads (λ bytes _. text_of bytes) (quote ∷ bs)
no_text quote bs e [] left parts some = false≢true some
no_text quote bs e (q ∷ ms) left parts some =
    let heads : q ≡ quote = cc in
    let tails : ms ++ left ≡ bs = cc in
    let ends = text_is quote ms (subst (λ x. IsSome (text_of (x ∷ ms))) heads some) in
    let same : Some (length ms) ≡ None = sym (closes_at (text_next quote) ms left bs false tails ends) ∙ e in
    cc

-- what begins with a slash and another byte
slash_more : (s b : ℕ) (ms : List ℕ) (behind : List ℕ) → b ≡ 47 → slash_of (s ∷ b ∷ ms) behind ≡ (if list_all in_line ms then Some blank else None)
slash_more s b ms behind e = rw e refl

slash_star : (s b : ℕ) (ms : List ℕ) (behind : List ℕ) → b ≡ 42 → slash_of (s ∷ b ∷ ms) behind ≡ (if closes comment_next false ms then Some blank else None)
slash_star s b ms behind e = rw e refl

-- a comment to the end of the line
pub line_leads : (s b : ℕ) (bs : List ℕ) → b ≡ 47 → LeadsBy slash_of (s ∷ b ∷ bs) (suc (suc (prefix_len in_line bs))) blank
line_leads s b bs second = lead_by slash_of (s ∷ b ∷ bs) (suc (suc (prefix_len in_line bs))) blank (omega (arith, run_within in_line bs)) spelled most where
  spelled : slash_of (s ∷ b ∷ take (prefix_len in_line bs) bs) (drop (prefix_len in_line bs) bs) ≡ Some blank
  spelled = slash_more s b (take (prefix_len in_line bs) bs) (drop (prefix_len in_line bs) bs) second ∙ rw (run_passes in_line bs) refl

  most : (more left : List ℕ) → more ++ left ≡ s ∷ b ∷ bs → IsSome (slash_of more left) → length more ≤ suc (suc (prefix_len in_line bs))
  most [] left parts some = omega arith
  most (c ∷ []) left parts some = omega arith
  most (c ∷ d ∷ ms) left parts some =
      let seconds : d ≡ b = cc in
      let tails : ms ++ left ≡ bs = cc in
      let test = test_some (list_all in_line ms) blank (subst IsSome (slash_more c d ms left (seconds ∙ second)) some) in
      omega (arith, all_within in_line ms left bs tails test)

-- a comment up to `*/`
pub comment_leads : (s b : ℕ) (bs : List ℕ) (n : ℕ) → b ≡ 42 → closed_at comment_next false bs ≡ Some n → LeadsBy slash_of (s ∷ b ∷ bs) (suc (suc n)) blank
comment_leads s b bs n second e = lead_by slash_of (s ∷ b ∷ bs) (suc (suc n)) blank (omega (arith, spelled.0)) (slash_star s b (take n bs) (drop n bs) second ∙ rw spelled.1 refl) most where
  spelled : (n ≤ length bs) × (closes comment_next false (take n bs) ≡ true)
  spelled = closed_spelled comment_next bs false n e

  most : (more left : List ℕ) → more ++ left ≡ s ∷ b ∷ bs → IsSome (slash_of more left) → length more ≤ suc (suc n)
  most [] left parts some = omega arith
  most (c ∷ []) left parts some = omega arith
  most (c ∷ d ∷ ms) left parts some =
      let seconds : d ≡ b = cc in
      let tails : ms ++ left ≡ bs = cc in
      let ends = test_some (closes comment_next false ms) blank (subst IsSome (slash_star c d ms left (seconds ∙ second)) some) in
      let same : Some (length ms) ≡ Some n = sym (closes_at comment_next ms left bs false tails ends) ∙ e in
      let long : length ms ≡ n = cc in
      omega arith

pub no_comment : (s b : ℕ) (bs : List ℕ) → b ≡ 42 → closed_at comment_next false bs ≡ None → NothingLeads slash_of (s ∷ b ∷ bs)
unfolding sign_of
no_comment s b bs second e [] left parts some = nil_no_slash left some where
  nil_no_slash : (left : List ℕ) → IsSome (slash_of [] left) → ⊥
  nil_no_slash left some = at_star (begins (λ x. x == 42) left) refl where
    at_star : (v : Bool) → begins (λ x. x == 42) left ≡ v → ⊥
    at_star true f = false≢true (rw f at some)
    at_star false f = false≢true (rw f at some)
no_comment s b bs second e (c ∷ []) left parts some =
    let tails : left ≡ b ∷ bs = cc in
    let star : begins (λ x. x == 42) left ≡ true = rw (tails, second) refl in
    false≢true (rw star at some)
no_comment s b bs second e (c ∷ d ∷ ms) left parts some =
    let seconds : d ≡ b = cc in
    let tails : ms ++ left ≡ bs = cc in
    let ends = test_some (closes comment_next false ms) blank (subst IsSome (slash_star c d ms left (seconds ∙ second)) some) in
    let same : Some (length ms) ≡ None = sym (closes_at comment_next ms left bs false tails ends) ∙ e in
    cc

-- a slash that begins no comment is the front of a sign
pub slash_signs : (text : List ℕ) → ((s b : ℕ) (bs : List ℕ) → text ≡ s ∷ b ∷ bs → (b ≢ 47) × (b ≢ 42)) → Agree (λ bytes _. sign_of bytes) slash_of text
unfolding sign_of
slash_signs text other [] left parts = at_star (begins (λ x. x == 42) left) refl where
  at_star : (v : Bool) → begins (λ x. x == 42) left ≡ v → sign_of [] ≡ slash_of [] left
  at_star true f = rw f refl
  at_star false f = rw f refl
slash_signs text other (c ∷ []) left parts = at_left left parts where
  at_left : (left : List ℕ) → c ∷ [] ++ left ≡ text → sign_of (c ∷ []) ≡ slash_of (c ∷ []) left
  at_left [] parts = refl
  at_left (b ∷ bs) parts = at_star (b == 42) refl where
    at_star : (v : Bool) → (b == 42) ≡ v → sign_of (c ∷ []) ≡ slash_of (c ∷ []) (b ∷ bs)
    at_star true f = absurd ((other c b bs (sym parts)).1 (eqb-true b 42 f))
    at_star false f = rw f refl
slash_signs text other (c ∷ d ∷ ms) left parts = at_slash (d == 47) refl where
  apart : (d ≢ 47) × (d ≢ 42)
  apart = other c d (ms ++ left) (sym parts)

  at_star : (v : Bool) → (d == 47) ≡ false → (d == 42) ≡ v → sign_of (c ∷ d ∷ ms) ≡ slash_of (c ∷ d ∷ ms) left
  at_star true f g = absurd (apart.1 (eqb-true d 42 g))
  at_star false f g = rw (f, g) refl

  at_slash : (v : Bool) → (d == 47) ≡ v → sign_of (c ∷ d ∷ ms) ≡ slash_of (c ∷ d ∷ ms) left
  at_slash true f = absurd (apart.0 (eqb-true d 47 f))
  at_slash false f = at_star (d == 42) f refl

-- the place of what is closed, counted from an earlier byte
abbrev pub placed : ℕ → Option ℕ → Option ℕ
placed n (Some m) = Some (n + m)
placed n None = None

-- the same of a text that is not taken apart

pub text_leads_at : (text front rest : List ℕ) (n : ℕ) → begins is_quote text ≡ true → front ≡ take 1 text → rest ≡ drop 1 text → Some n ≡ closed_at (text_next (get_or front 0 0)) false rest → LeadsBy (λ bytes _. text_of bytes) text (1 + n) (token Text)
text_leads_at [] front rest n opens front_is rest_is e = absurd (false≢true opens)
text_leads_at (q ∷ bs) front rest n opens front_is rest_is e =
    let quote : get_or front 0 0 ≡ q = ap (λ f. get_or f 0 0) front_is in
    let closed : closed_at (text_next q) false bs ≡ Some n = sym (e ∙ ap (λ x. closed_at (text_next x) false rest) quote ∙ ap (closed_at (text_next q) false) rest_is) in
    rw one-add (text_leads q bs n closed)

pub no_text_at : (text front rest : List ℕ) → begins is_quote text ≡ true → front ≡ take 1 text → rest ≡ drop 1 text → None ≡ closed_at (text_next (get_or front 0 0)) false rest → NothingLeads (λ bytes _. text_of bytes) text
no_text_at [] front rest opens front_is rest_is e = absurd (false≢true opens)
no_text_at (q ∷ bs) front rest opens front_is rest_is e =
    let quote : get_or front 0 0 ≡ q = ap (λ f. get_or f 0 0) front_is in
    let closed : closed_at (text_next q) false bs ≡ None = sym (e ∙ ap (λ x. closed_at (text_next x) false rest) quote ∙ ap (closed_at (text_next q) false) rest_is) in
    no_text q bs closed

pub line_leads_at : (text rest : List ℕ) (n : ℕ) → second_is 47 text ≡ true → rest ≡ drop 2 text → n ≡ prefix_len in_line rest → LeadsBy slash_of text (2 + n) blank
line_leads_at [] rest n second rest_is e = absurd (false≢true second)
line_leads_at (s ∷ []) rest n second rest_is e = absurd (false≢true second)
line_leads_at (s ∷ b ∷ bs) rest n second rest_is e =
    let long : 2 + n ≡ suc (suc (prefix_len in_line bs)) = omega (arith, e, ap (prefix_len in_line) rest_is) in
    rw long (line_leads s b bs (eqb-true b 47 second))

pub comment_leads_at : (text rest : List ℕ) (n : ℕ) → second_is 42 text ≡ true → rest ≡ drop 2 text → Some n ≡ closed_at comment_next false rest → LeadsBy slash_of text (2 + n) blank
comment_leads_at [] rest n second rest_is e = absurd (false≢true second)
comment_leads_at (s ∷ []) rest n second rest_is e = absurd (false≢true second)
comment_leads_at (s ∷ b ∷ bs) rest n second rest_is e =
    let long : 2 + n ≡ suc (suc n) = omega arith in
    rw long (comment_leads s b bs n (eqb-true b 42 second) (sym (e ∙ ap (closed_at comment_next false) rest_is)))

pub no_comment_at : (text rest : List ℕ) → second_is 42 text ≡ true → rest ≡ drop 2 text → None ≡ closed_at comment_next false rest → NothingLeads slash_of text
no_comment_at [] rest second rest_is e = absurd (false≢true second)
no_comment_at (s ∷ []) rest second rest_is e = absurd (false≢true second)
no_comment_at (s ∷ b ∷ bs) rest second rest_is e = no_comment s b bs (eqb-true b 42 second) (sym (e ∙ ap (closed_at comment_next false) rest_is))

pub signs_at : (text : List ℕ) → second_is 47 text ≡ false → second_is 42 text ≡ false → Agree (λ bytes _. sign_of bytes) slash_of text
signs_at text line star = slash_signs text (λ s b bs is. (λ e. false≢true (sym line ∙ ap (second_is 47) is ∙ eq-eqb b 47 e), λ e. false≢true (sym star ∙ ap (second_is 42) is ∙ eq-eqb b 42 e)))

pub second_long : (b : ℕ) (text : List ℕ) → second_is b text ≡ true → 2 ≤ length text
second_long b [] e = absurd (false≢true e)
second_long b (s ∷ []) e = absurd (false≢true e)
second_long b (s ∷ c ∷ bs) e = omega arith

pub closed_within : (next : Bool → ℕ → Next) (state : Bool) (bs : List ℕ) → IfSome (closed_at next state bs) (λ n. n ≤ length bs)
closed_within next state bs = at_answer (closed_at next state bs) refl where
  at_answer : (o : Option ℕ) → closed_at next state bs ≡ o → IfSome o (λ n. n ≤ length bs)
  at_answer None e = tt
  at_answer (Some n) e = (closed_spelled next bs state n e).0
