-- A text that has been cut up to some place, and one part more.
use Rattle.std.proofs.Common.{◌≡◌, ℕ, ◌+◌, ◌-◌, ◌<◌, ◌≤◌, Bool, false, List, [], ◌∷◌, ◌++◌, length, take, drop, Option, Some, None, sym, refl, ap, ◌∙◌, subst, arith, add-zero, zero-add}
use Rattle.std.proofs.lemmas.List.{drop_all, length-drop, length-take-le, take-append-drop, length-append}
use Rattle.pl_lexer.specs.declared.token.Token.{Token}
use Rattle.pl_lexer.specs.declared.token.Kind.{Kind}
use Rattle.pl_lexer.specs.Lexeme.{Lexeme}
use Rattle.pl_lexer.specs.Longest.{Leads, LeadsBy}
use Rattle.pl_lexer.specs.Spelling.{spelling}
use Rattle.std.specs.Prelude.{◌≢◌}
use Rattle.pl_lexer.proofs.Leading.{Leads-some}
use Rattle.pl_lexer.specs.Tokens.{Part, lexeme_of, dot_after, Cuts, dot_after_all, size_of, told, tokens_of, Tokenizes, Wrong, LexFault, breaks, most_bytes}

-- one part more
pub Cuts-push : (names : List ℕ → Option ℕ) (parts : List Part) (part : Part) (dot : Bool) (text rest behind : List ℕ) → Cuts names dot parts text rest → Leads (spelling names (dot_after_all dot parts)) rest part.bytes behind (lexeme_of part.kind) → Cuts names dot (parts ++ part ∷ []) text behind
Cuts-push names [] part dot text rest behind cuts led = (behind, (subst (λ t. Leads (spelling names dot) t part.bytes behind (lexeme_of part.kind)) (sym cuts) led, refl))
Cuts-push names (p ∷ ps) part dot text rest behind cuts led = (cuts.0, (cuts.1.0, Cuts-push names ps part (dot_after dot p.kind) cuts.0 rest behind cuts.1.1 led))

dot_after_all-push : (dot : Bool) (parts : List Part) (part : Part) → dot_after_all dot (parts ++ part ∷ []) ≡ dot_after (dot_after_all dot parts) part.kind
dot_after_all-push dot [] part = refl
dot_after_all-push dot (p ∷ ps) part = dot_after_all-push (dot_after dot p.kind) ps part

size_of-push : (parts : List Part) (part : Part) → size_of (parts ++ part ∷ []) ≡ size_of parts + length part.bytes
size_of-push [] part = omega arith
size_of-push (p ∷ ps) part = omega (arith, size_of-push ps part)

told-append : (kind : Option Kind) (start end : ℕ) (ts us : List Token) → told kind start end (ts ++ us) ≡ told kind start end ts ++ us
told-append None start end ts us = refl
told-append (Some kind) start end ts us = refl

tokens_of-push : (parts : List Part) (part : Part) (at : ℕ) → tokens_of at (parts ++ part ∷ []) ≡ tokens_of at parts ++ told part.kind (at + size_of parts) (at + size_of parts + length part.bytes) []
tokens_of-push [] part at = rw add-zero refl
tokens_of-push (p ∷ ps) part at =
    let next = at + length p.bytes in
    let places : at + (length p.bytes + size_of ps) ≡ next + size_of ps = omega arith in
    let more = tokens_of-push ps part next in
    rw (more, places) (told-append p.kind at next (tokens_of next ps) (told part.kind (next + size_of ps) (next + size_of ps + length part.bytes) []))

-- the text is cut up to `at`, with these tokens, and `rest` is left
pub record CutsSoFar (names : List ℕ → Option ℕ) (text : List ℕ) (tokens : List Token) (rest : List ℕ) (at : ℕ) (dot : Bool) : Type 0 where
  pub small : length text ≤ most_bytes
  pub parts : List Part
  pub cuts : Cuts names false parts text rest
  pub tokens_are : tokens ≡ tokens_of 0 parts
  pub place : at ≡ size_of parts
  pub left : at + length rest ≡ length text
  pub dotted : dot ≡ dot_after_all false parts

pub none_cut : (names : List ℕ → Option ℕ) (text : List ℕ) → length text ≤ most_bytes → CutsSoFar names text [] text 0 false
none_cut names text small = record { small = small; parts = []; cuts = refl; tokens_are = refl; place = refl; left = omega arith; dotted = refl }

pub all_cut : (names : List ℕ → Option ℕ) (text : List ℕ) (tokens : List Token) (rest : List ℕ) (at : ℕ) (dot : Bool) → rest ≡ [] → CutsSoFar names text tokens rest at dot → Tokenizes text names tokens
all_cut names text tokens rest at dot none a = record { small = a.small; parts = a.parts; cuts = subst (λ r. Cuts names false a.parts text r) none a.cuts; tokens_are = a.tokens_are }

-- one part more is cut
pub part_cut : (names : List ℕ → Option ℕ) (text : List ℕ) (tokens : List Token) (rest : List ℕ) (at : ℕ) (dot : Bool) (kind : Option Kind) (n : ℕ) → CutsSoFar names text tokens rest at dot → LeadsBy (spelling names dot) rest n (lexeme_of kind) → CutsSoFar names text (tokens ++ told kind at (at + n) []) (drop n rest) (at + n) (dot_after dot kind)
part_cut names text tokens rest at dot kind n a led =
    let part : Part = record { bytes = take n rest; kind = kind } in
    let long : length (take n rest) ≡ n = length-take-le n rest led.within in
    let dots : dot ≡ dot_after_all false a.parts = a.dotted in
    record {
      small = a.small;
      parts = a.parts ++ part ∷ [];
      cuts = Cuts-push names a.parts part false text rest (drop n rest) a.cuts (subst (λ d. Leads (spelling names d) rest (take n rest) (drop n rest) (lexeme_of kind)) dots led.leads);
      tokens_are = rw (tokens_of-push a.parts part 0, zero-add, long, ← a.place, ← a.tokens_are) refl;
      place = rw (size_of-push a.parts part, long, ← a.place) refl;
      left = omega (arith, a.left, led.within, length-append (take n rest) (drop n rest), ap length (take-append-drop n rest), long);
      dotted = ap (λ d. dot_after d kind) dots ∙ sym (dot_after_all-push false a.parts part);
    }

-- what is wrong with what is left is the fault
pub breaks_here : (names : List ℕ → Option ℕ) (text : List ℕ) (tokens : List Token) (rest : List ℕ) (at : ℕ) (dot : Bool) (number : ℕ) → CutsSoFar names text tokens rest at dot → Wrong (spelling names dot) rest number → LexFault text names (record { number = number; offset = at })
breaks_here names text tokens rest at dot number a wrong = breaks (record {
  small = a.small;
  parts = a.parts;
  rest = rest;
  cuts = a.cuts;
  wrong = subst (λ d. Wrong (spelling names d) rest number) a.dotted wrong;
  place = a.place;
})

-- what is left falls with each part
pub left_falls : (names : List ℕ → Option ℕ) (dot : Bool) (rest behind : List ℕ) (n : ℕ) (l : Lexeme) → LeadsBy (spelling names dot) rest n l → behind ≡ drop n rest → length behind < length rest
left_falls names dot rest behind n l led is =
    let some = Leads-some names dot rest (take n rest) (drop n rest) l led.leads in
    omega (arith, ap length is, length-take-le n rest led.within, ap length led.leads.parts, length-append (take n rest) (drop n rest))

pub part_cut_is : (names : List ℕ → Option ℕ) (text : List ℕ) (tokens tokens' : List Token) (rest rest' : List ℕ) (at : ℕ) (dot dot' : Bool) (kind : Option Kind) (n : ℕ) → CutsSoFar names text tokens rest at dot → LeadsBy (spelling names dot) rest n (lexeme_of kind) → tokens' ≡ tokens ++ told kind at (at + n) [] → rest' ≡ drop n rest → dot' ≡ dot_after dot kind → CutsSoFar names text tokens' rest' (at + n) dot'
part_cut_is names text tokens tokens' rest rest' at dot dot' kind n a led tokens_are rest_is dot_is =
    let cut = part_cut names text tokens rest at dot kind n a led in
    let one = subst (λ ts. CutsSoFar names text ts (drop n rest) (at + n) (dot_after dot kind)) (sym tokens_are) cut in
    let two = subst (λ r. CutsSoFar names text tokens' r (at + n) (dot_after dot kind)) (sym rest_is) one in
    subst (λ d. CutsSoFar names text tokens' rest' (at + n) d) (sym dot_is) two

-- what stands after a place within the text, and after its end
pub some_behind : (text : List ℕ) (at : ℕ) → at < length text → drop at text ≢ []
some_behind text at within none = omega (arith, ap length none, length-drop at text)

pub none_behind : (text : List ℕ) (at : ℕ) → length text ≤ at → drop at text ≡ []
none_behind text at past = drop_all at text past

-- a part is not empty, and ends in the text
pub part_small : (names : List ℕ → Option ℕ) (dot : Bool) (text : List ℕ) (at n : ℕ) (l : Lexeme) → LeadsBy (spelling names dot) (drop at text) n l → (0 < n) × (n ≤ length text - at)
part_small names dot text at n l led =
    let some = Leads-some names dot (drop at text) (take n (drop at text)) (drop n (drop at text)) l led.leads in
    (omega (arith, length-take-le n (drop at text) led.within), omega (arith, led.within, length-drop at text))
