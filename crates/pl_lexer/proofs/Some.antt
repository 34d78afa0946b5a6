-- Each text is read in some way.
use Rattle.std.proofs.Common.{◌≡◌, ℕ, zero, suc, ◌≤◌, Bool, false, List, [], ◌∷◌, length, Option, Some, None, Result, Ok, Err, refl, ap, subst, arith, ⊎_elim, inl, inr, ◌⊎◌}
use Rattle.std.proofs.lemmas.List.{length-append}
use Rattle.std.proofs.str.Laws.{order}
use Rattle.pl_types.specs.declared.refusal.Refusal.{Refusal}
use Rattle.pl_lexer.specs.declared.token.Token.{Token}
use Rattle.pl_lexer.specs.Lexeme.{Lexeme, blank, token, foreign}
use Rattle.pl_lexer.specs.Longest.{Leads, NothingLeads}
use Rattle.pl_lexer.specs.Spelling.{spelling, is_dot}
use Rattle.pl_lexer.specs.Tokens.{Part, lexeme_of, dot_after, Cuts, dot_after_all, size_of, tokens_of, Wrong, no_spelling, foreign_spelling, breaks, too_large, Lexes, most_bytes}
use Rattle.pl_lexer.proofs.Leading.{Leads-some}
use Rattle.pl_lexer.proofs.Led.{Led, leads_or_not}

-- a text cut as far as it can be
pub record CutsFar (names : List ℕ → Option ℕ) (dot : Bool) (text : List ℕ) : Type 0 where
  pub parts : List Part
  pub rest : List ℕ
  pub cuts : Cuts names dot parts text rest
  pub ends : (rest ≡ []) ⊎ ((number : ℕ) × Wrong (spelling names (dot_after_all dot parts)) rest number)

stop_here : (names : List ℕ → Option ℕ) (dot : Bool) (text : List ℕ) → ((text ≡ []) ⊎ ((number : ℕ) × Wrong (spelling names dot) text number)) → CutsFar names dot text
stop_here names dot text ends = record { parts = []; rest = text; cuts = refl; ends = ends }

go_on : (names : List ℕ → Option ℕ) (dot : Bool) (text behind : List ℕ) (part : Part) → Leads (spelling names dot) text part.bytes behind (lexeme_of part.kind) → CutsFar names (dot_after dot part.kind) behind → CutsFar names dot text
go_on names dot text behind part led far = record { parts = part ∷ far.parts; rest = far.rest; cuts = (behind, (led, far.cuts)); ends = far.ends }

cut_far : (names : List ℕ → Option ℕ) (fuel : ℕ) (dot : Bool) (text : List ℕ) → length text ≤ fuel → CutsFar names dot text
cut_far names fuel dot [] within = stop_here names dot [] (inl refl)
cut_far names zero dot (b ∷ bs) within = absurd (omega arith)
cut_far names (suc fuel) dot (b ∷ bs) within = at_front (leads_or_not (spelling names dot) (b ∷ bs)) (cut_far names fuel) where
  shorter : (front behind : List ℕ) (l : Lexeme) → Leads (spelling names dot) (b ∷ bs) front behind l → length behind ≤ fuel
  shorter front behind l led = omega (arith, Leads-some names dot (b ∷ bs) front behind l led, ap length led.parts, length-append front behind)

  at_lexeme : (front behind : List ℕ) (l : Lexeme) → Leads (spelling names dot) (b ∷ bs) front behind l → ((d : Bool) (t : List ℕ) → length t ≤ fuel → CutsFar names d t) → CutsFar names dot (b ∷ bs)
  at_lexeme front behind blank led below = go_on names dot (b ∷ bs) behind (record { bytes = front; kind = None }) led (below dot behind (shorter front behind blank led))
  at_lexeme front behind (token kind) led below = go_on names dot (b ∷ bs) behind (record { bytes = front; kind = Some kind }) led (below (is_dot kind) behind (shorter front behind (token kind) led))
  at_lexeme front behind foreign led below = stop_here names dot (b ∷ bs) (inr (19, foreign_spelling front behind led refl))

  at_front : Led (spelling names dot) (b ∷ bs) ⊎ NothingLeads (spelling names dot) (b ∷ bs) → ((d : Bool) (t : List ℕ) → length t ≤ fuel → CutsFar names d t) → CutsFar names dot (b ∷ bs)
  at_front (inl led) below = at_lexeme led.front led.behind led.lexeme led.leads below
  at_front (inr nothing) below = stop_here names dot (b ∷ bs) (inr (1, no_spelling (λ e. cc) nothing refl))

-- a text has tokens or a fault
pub Lexes-some : (text : List ℕ) (names : List ℕ → Option ℕ) → (reading : Result (List Token) Refusal) × Lexes text names reading
Lexes-some text names = ⊎_elim (λ large. (Err (record { number = 20; offset = most_bytes }), too_large large refl)) small (order most_bytes (length text)) where
  at_end : (far : CutsFar names false text) → length text ≤ most_bytes → ((far.rest ≡ []) ⊎ ((number : ℕ) × Wrong (spelling names (dot_after_all false far.parts)) far.rest number)) → (reading : Result (List Token) Refusal) × Lexes text names reading
  at_end far fits (inl none) = (Ok (tokens_of 0 far.parts), record { small = fits; parts = far.parts; cuts = subst (λ r. Cuts names false far.parts text r) none far.cuts; tokens_are = refl })
  at_end far fits (inr wrong) = (Err (record { number = wrong.0; offset = size_of far.parts }), breaks (record { small = fits; parts = far.parts; rest = far.rest; cuts = far.cuts; wrong = wrong.1; place = refl }))

  small : length text ≤ most_bytes → (reading : Result (List Token) Refusal) × Lexes text names reading
  small fits = let far = cut_far names (length text) false text (omega arith) in at_end far fits far.ends
