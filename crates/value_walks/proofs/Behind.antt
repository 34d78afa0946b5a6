-- Texts that are written one behind the other.
use Rattle.std.proofs.Common.{◌≡◌, ◌≢◌, ◌-◌, ◌+◌, ◌≤◌, length, drop, arith, add-one, ℕ, zero, suc, codes, Result, Ok, Err, IfOk, IfErr, Option, Some, subst, List, [], ◌∷◌, ◌++◌, inl, inr, refl, ap, sym, ◌∙◌}
use Rattle.std.proofs.lemmas.Bool.{cases_lt}
use Rattle.std.proofs.lemmas.List.{drop_all}
use Rattle.object_values.specs.declared.object.Object.{Object}
use Rattle.object_values.specs.declared.object.Object.TheVariants as o
use Rattle.object_values.specs.declared.object.Part.{Part}
use Rattle.object_values.specs.declared.object.Target.{Target}
use Rattle.object_values.specs.declared.value.Value.{Value}
use Rattle.object_heap.specs.Parts.{map_of, pairs_in}
use Rattle.value_walks.specs.declared.keyed.Shown.{Shown}
use Rattle.value_walks.specs.declared.error.TextErr.{TextErr}
use Rattle.value_walks.specs.declared.error.TextErr.TheVariants.{Deep, Large, NoMemory}
use Rattle.value_walks.specs.declared.outputs.Output.{Output}
use Rattle.value_walks.specs.declared.outputs.Output.TheVariants.{Kept}
use Rattle.value_walks.specs.Outputs.{put, kept_in}
use Rattle.value_walks.proofs.Putting.{put_beyond, put_nothing, put_put, put_thrice, put_within}
use Rattle.value_walks.specs.Texts.{Text, Wrote, TooDeep, TooLarge, Node, Came, EndedDeep, EndedLarge, Writes, Gives, GivesWithin, written, before, follow, separator, items_text, more_text, node_text, node_at, keyed_text, name_text, pair_text, AValue, shown_of}

-- the text of the items from a place on
abbrev pub rest_text : {A : Type 0} → (A → ℕ → Text) → ℕ → List A → ℕ → Text
rest_text text zero items visits = items_text text items visits
rest_text text (suc at) items visits = more_text text items visits

pub written_before : (out : Output) (a : List ℕ) (walk : Text) → written out (before a walk) ≡ written (put out a) walk
written_before out a (Wrote text visits) = ap (λ o. Came o visits) (sym (put_put out a text))
written_before out a TooDeep = refl
written_before out a TooLarge = refl

pub before_nothing : (text : Text) → before [] text ≡ text
before_nothing (Wrote more visits) = refl
before_nothing TooDeep = refl
before_nothing TooLarge = refl

pub written_nothing : (out : Output) (visits : ℕ) → written out (Wrote [] visits) ≡ Came out visits
written_nothing out visits = ap (λ o. Came o visits) (put_nothing out)

-- an object that shows nothing
pub unnamed : (object : Object) (out : Output) (visits : ℕ) → ((over cursor seen : ℕ) (last : Option ℕ) → object ≡ o.Iter over cursor seen last → ⊥)
    → ((units : List ℕ) → object ≡ o.Builder units → ⊥) → ((iface : Option ℕ) (target : Target) (captures : List Value) → object ≡ o.Fun iface target captures → ⊥)
    → ((class : ℕ) (message : Option (List ℕ)) → object ≡ o.Exc class message → ⊥) → written out (name_text object visits) ≡ Came out visits
unnamed (o.Iter over cursor seen last) out visits i b f e = absurd (i over cursor seen last refl)
unnamed (o.Builder units) out visits i b f e = absurd (b units refl)
unnamed (o.Fun iface target captures) out visits i b f e = absurd (f iface target captures refl)
unnamed (o.Exc class message) out visits i b f e = absurd (e class message refl)
unnamed object out visits i b f e = written_nothing out visits

-- what follows a walk comes behind what it wrote
pub follow_on : (old new : Output) (walk : Text) (visits : ℕ) (further : ℕ → Text) → written old walk ≡ Came new visits
    → written old (follow walk further) ≡ written new (further visits)
follow_on old new (Wrote text rest) visits further h = written_before old text (further rest) ∙ (cc)
follow_on old new TooDeep visits further h = cc
follow_on old new TooLarge visits further h = cc

-- a walk that follows another is written behind it
pub continued : (walk : Text) (further : ℕ → Text) (visits : ℕ) (old mid new : Output) (result : Result ℕ TextErr) → written old walk ≡ Came mid visits
    → Writes (further visits) mid new result → Writes (follow walk further) old new result
continued (Wrote text rest) further visits old mid new (Ok left) h k = follow_on old mid (Wrote text rest) visits further h ∙ k
continued (Wrote text rest) further visits old mid new (Err Deep) h k =
    let same : rest ≡ visits = cc in
    ap (before text) (ap further same ∙ k)
continued (Wrote text rest) further visits old mid new (Err Large) h k =
    let same : rest ≡ visits = cc in
    ap (before text) (ap further same ∙ k)
continued (Wrote text rest) further visits old mid new (Err NoMemory) h k = tt
continued TooDeep further visits old mid new result h k = absurd (cc)
continued TooLarge further visits old mid new result h k = absurd (cc)

-- a walk behind units, and then other units
pub placed_before : (walk : Text) (a : List ℕ) (old mid new : Output) (result : Result ℕ TextErr) → mid ≡ put old a → Writes walk mid new result → Writes (before a walk) old new result
placed_before walk a old mid new (Ok visits) m h = written_before old a walk ∙ (ap (λ (o : Output). written o walk) (sym m) ∙ h)
placed_before walk a old mid new (Err Deep) m h = ap (before a) h
placed_before walk a old mid new (Err Large) m h = ap (before a) h
placed_before walk a old mid new (Err NoMemory) m h = tt

pub wrapped : (walk : Text) (a b : List ℕ) (old opened inner new : Output) (visits : ℕ) → opened ≡ put old a → written opened walk ≡ Came inner visits → new ≡ put inner b
    → written old (before a (follow walk (Wrote b))) ≡ Came new visits
wrapped (Wrote text rest) a b old opened inner new visits m h n =
    let e : put opened text ≡ inner = cc in
    let r : rest ≡ visits = cc in
    let whole : new ≡ put old (a ++ (text ++ b)) = n ∙ (ap (λ (o : Output). put o b) (sym e ∙ ap (λ (o : Output). put o text) m) ∙ put_thrice old a text b) in
    ap (Came (put old (a ++ (text ++ b)))) r ∙ ap (λ (o : Output). Came o visits) (sym whole)
wrapped TooDeep a b old opened inner new visits m h n = absurd (cc)
wrapped TooLarge a b old opened inner new visits m h n = absurd (cc)

-- a key and its value
pub paired : (text : Node → ℕ → Text) (key value : Value) (visits rest : ℕ) (old a b new : Output) (result : Result ℕ TextErr) → written old (text (AValue key) visits) ≡ Came a rest
    → b ≡ put a (codes "=") → Writes (text (AValue value) rest) b new result → Writes (pair_text text key value visits) old new result
paired text key value visits rest old a b new result h m k =
    continued (text (AValue key) visits) (λ left. before (codes "=") (text (AValue value) left)) rest old a new result h
    (placed_before (text (AValue value) rest) (codes "=") a b new result m k)

-- what is kept of a text that is written alone: it, or that it is longer than there is room for
alone : (room : ℕ) (text : List ℕ) (visits : ℕ) (kept : Option (List ℕ)) → kept ≡ kept_in (put (Kept [] room) text) → GivesWithin room (Wrote text visits) (Ok kept)
alone room text visits kept h = elim (cases_lt room (length text)) [
  | inl l ↦ rw (h, put_beyond [] text room l) l
  | inr g ↦ rw (h, put_within [] text room g) (visits, refl, g)
]

reached : (room : ℕ) (walk : Text) (out : Output) (visits : ℕ) (kept : Option (List ℕ)) → written (Kept [] room) walk ≡ Came out visits → kept ≡ kept_in out
    → GivesWithin room walk (Ok kept)
reached room (Wrote text rest) out visits kept h k = alone room text rest kept (cc)
reached room TooDeep out visits kept h k = absurd (cc)
reached room TooLarge out visits kept h k = absurd (cc)

-- a walk that is written alone
pub given_within : (room : ℕ) (walk : Text) (out : Output) (visits : ℕ) (result : Result (Option (List ℕ)) TextErr) → written (Kept [] room) walk ≡ Came out visits
    → IfOk result (λ text. text ≡ kept_in out) → IfErr result (λ cause. cause ≡ NoMemory) → GivesWithin room walk result
given_within room walk out visits (Ok kept) h k e = reached room walk out visits kept h k
given_within room walk out visits (Err Deep) h k e = absurd (cc)
given_within room walk out visits (Err Large) h k e = absurd (cc)
given_within room walk out visits (Err NoMemory) h k e = tt

pub stopped_within : (room : ℕ) (walk : Text) (a b : Output) (cause : TextErr) → Writes walk a b (Err cause) → GivesWithin room walk (Err cause)
stopped_within room walk a b Deep h = h
stopped_within room walk a b Large h = h
stopped_within room walk a b NoMemory h = tt

pub given_whole : (room : ℕ) (walk : Text) (text : List ℕ) → GivesWithin room walk (Ok (Some text)) → Gives walk (Ok text)
given_whole room walk text h = (h.0, h.1)

pub stopped_whole : (room : ℕ) (walk : Text) (cause : TextErr) → GivesWithin room walk (Err cause) → Gives walk (Err cause)
stopped_whole room walk Deep h = h
stopped_whole room walk Large h = h
stopped_whole room walk NoMemory h = tt

-- a walk stops where a part of it does
pub stops : (walk whole : Text) (a b c d : Output) (cause : TextErr) → (walk ≡ TooDeep → whole ≡ TooDeep) → (walk ≡ TooLarge → whole ≡ TooLarge)
    → Writes walk a b (Err cause) → Writes whole c d (Err cause)
stops walk whole a b c d Deep deep large h = deep h
stops walk whole a b c d Large deep large h = large h
stops walk whole a b c d NoMemory deep large h = tt

-- where there was no memory nothing is said
pub refused : (whole : Text) (a b : Output) (cause : TextErr) → cause ≡ NoMemory → Writes whole a b (Err cause)
refused whole a b Deep h = cc
refused whole a b Large h = cc
refused whole a b NoMemory h = tt

pub deep_before : (old : Output) (walk : Text) → written old walk ≡ EndedDeep → walk ≡ TooDeep
deep_before old (Wrote text visits) h = cc
deep_before old TooDeep h = refl
deep_before old TooLarge h = cc

pub large_before : (old : Output) (walk : Text) → written old walk ≡ EndedLarge → walk ≡ TooLarge
large_before old (Wrote text visits) h = cc
large_before old TooDeep h = cc
large_before old TooLarge h = refl

-- behind the last item comes nothing
pub rest_end : {A : Type 0} → (text : A → ℕ → Text) (at : ℕ) (items : List A) (visits : ℕ) → length items ≤ at → rest_text text at (drop at items) visits ≡ Wrote [] visits
rest_end text zero [] visits h = refl
rest_end text zero (item ∷ items) visits h = absurd (omega arith)
rest_end text (suc at) items visits h = rw (drop_all (suc at) items h) refl

-- from an item on there is what separates it, its text, and the text from the next on
pub rest_item : {A : Type 0} → (text : A → ℕ → Text) (at : ℕ) (item : A) (items : List A) (visits : ℕ)
    → rest_text text at (item ∷ items) visits ≡ before (separator at) (follow (text item visits) (rest_text text (at + 1) items))
rest_item text zero item items visits = sym (before_nothing (follow (text item visits) (more_text text items)))
rest_item text (suc at) item items visits = rw add-one refl

-- one item more
pub next_item : {A : Type 0} → (text : A → ℕ → Text) (at : ℕ) (item : A) (items : List A) (visits rest : ℕ) (old mid new : Output)
    → mid ≡ put old (separator at) → written mid (text item visits) ≡ Came new rest
    → written old (rest_text text at (item ∷ items) visits) ≡ written new (rest_text text (at + 1) items rest)
next_item text at item items visits rest old mid new m h =
    ap (written old) (rest_item text at item items visits)
    ∙ (written_before old (separator at) (follow (text item visits) (rest_text text (at + 1) items))
    ∙ (ap (λ (o : Output). written o (follow (text item visits) (rest_text text (at + 1) items))) (sym m)
    ∙ follow_on mid new (text item visits) rest (rest_text text (at + 1) items) h))

-- an item that stops the walk
pub deep_item : {A : Type 0} → (text : A → ℕ → Text) (at : ℕ) (item : A) (items : List A) (visits : ℕ) → text item visits ≡ TooDeep
    → rest_text text at (item ∷ items) visits ≡ TooDeep
deep_item text at item items visits h = rest_item text at item items visits ∙ ap (λ w. before (separator at) (follow w (rest_text text (at + 1) items))) h

pub large_item : {A : Type 0} → (text : A → ℕ → Text) (at : ℕ) (item : A) (items : List A) (visits : ℕ) → text item visits ≡ TooLarge
    → rest_text text at (item ∷ items) visits ≡ TooLarge
large_item text at item items visits h = rest_item text at item items visits ∙ ap (λ w. before (separator at) (follow w (rest_text text (at + 1) items))) h

pub visited : (levels visits : ℕ) (objects : List Object) (node : Node) → levels ≢ 0 → visits ≢ 0
    → node_at levels objects node visits ≡ node_text (node_at (levels - 1) objects) objects node (visits - 1)
visited zero visits objects node h k = absurd (h refl)
visited (suc levels) zero objects node h k = absurd (k refl)
visited (suc levels) (suc visits) objects node h k =
    let l : suc levels - 1 ≡ levels = omega arith in
    let n : suc visits - 1 ≡ visits = omega arith in
    rw (l, n) refl

-- a walk over items stops where an item does
pub stopped : {A : Type 0} → (text : A → ℕ → Text) (at : ℕ) (item : A) (items : List A) (visits : ℕ) (whole : Text) (old out mid new end : Output) (cause : TextErr)
    → written old whole ≡ written out (rest_text text at (item ∷ items) visits) → Writes (text item visits) mid new (Err cause) → Writes whole old end (Err cause)
stopped text at item items visits whole old out mid new end cause h w =
    stops (text item visits) whole mid new old end cause
    (λ deep. deep_before old whole (h ∙ ap (written out) (deep_item text at item items visits deep)))
    (λ large. large_before old whole (h ∙ ap (written out) (large_item text at item items visits large)))
    w

-- a view is written by what it shows
pub of_view : (text : Node → ℕ → Text) (objects : List Object) (map : ℕ) (part : Part) (shown : Shown) (pairs : Option (List (Value × Value))) (visits : ℕ) (old new : Output) (result : Result ℕ TextErr)
    → shown ≡ shown_of part → pairs ≡ map_of objects map → Writes (keyed_text text shown (pairs_in pairs) visits) old new result
    → Writes (keyed_text text (shown_of part) (pairs_in (map_of objects map)) visits) old new result
of_view text objects map part shown pairs visits old new result h k w =
    subst (λ (s : Shown). Writes (keyed_text text s (pairs_in (map_of objects map)) visits) old new result) h
    (subst (λ (p : Option (List (Value × Value))). Writes (keyed_text text shown (pairs_in p) visits) old new result) k w)
