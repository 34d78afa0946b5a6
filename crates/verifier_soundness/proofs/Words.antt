-- Words of kinds: what lies on a stack of which the kinds are known.
use Rattle.std.proofs.Common.{◌≡◌, ℕ, zero, suc, ◌+◌, ℤ, List, [], ◌∷◌, ◌++◌, map, length, reverse, Option, Some, None, refl, sym, ap, ◌∙◌, subst, arith, append_assoc}
use Rattle.std.specs.Prelude.{slice_get, slice_set, option_map, replicate}
use Rattle.std.proofs.lemmas.List.{map-set, reverse-append}
use Rattle.object_values.specs.declared.value.Value.{Value}
use Rattle.pl_code.specs.declared.kinds.Slot.{Slot}
use Rattle.pl_code.specs.declared.kinds.Slot.TheVariants as slot
use Rattle.instruction_types.specs.Effects.{taken}
use Rattle.code_meaning.specs.declared.word.Word.{Word}
use Rattle.code_meaning.specs.declared.word.Word.TheVariants.{I, J, R}
use Rattle.code_meaning.specs.Machine.{Next, on_top, on_int, on_long, on_reference, on_values, on_ints, on_first, on_words, on_local, take_words}
use Rattle.code_meaning.specs.Members.{before, references_in, int_before, ints_in}
use Rattle.code_meaning.specs.Words.{start_of}
use Rattle.verifier_soundness.specs.Fits.{kind_of, kinds_of}

-- what is left of a stack, with these kinds put on it
abbrev pub exchanged : List Slot → List Slot → List Slot → Option (List Slot)
exchanged takes gives kinds = option_map (λ left. gives ++ left) (taken takes kinds)

pub left_is : (gives rest left : List Slot) → Some (gives ++ rest) ≡ Some left → gives ++ rest ≡ left
left_is gives rest left e = cc

-- what was taken off, and what it leaves
pub record Exchanged (takes gives kinds left : List Slot) : Type 0 where
  pub rest : List Slot
  pub is : taken takes kinds ≡ Some rest
  pub left_so : gives ++ rest ≡ left

pub exchange_of : (takes gives kinds left : List Slot) → exchanged takes gives kinds ≡ Some left → Exchanged takes gives kinds left
exchange_of takes gives kinds left e = by_taken (taken takes kinds) refl e
  where
    by_taken : (o : Option (List Slot)) → taken takes kinds ≡ o → option_map (λ left. gives ++ left) o ≡ Some left → Exchanged takes gives kinds left
    by_taken None q e = cc
    by_taken (Some rest) q e = record { rest = rest; is = q; left_so = left_is gives rest left e }

pub on_one_int : (P : Next → Type 0) (gives left : List Slot) (stack : List Word) (next : ℤ → List Word → Next) → exchanged (slot.I ∷ []) gives (kinds_of stack) ≡ Some left
    → ((a : ℤ) (rest : List Word) → gives ++ kinds_of rest ≡ left → P (next a rest)) → P (on_top stack (λ word stack. on_int word (λ a. next a stack)))
on_one_int P gives left [] next e h = cc
on_one_int P gives left (I a ∷ stack) next e h = h a stack (left_is gives (kinds_of stack) left e)
on_one_int P gives left (J a ∷ stack) next e h = cc
on_one_int P gives left (R value ∷ stack) next e h = cc

pub on_one_long : (P : Next → Type 0) (gives left : List Slot) (stack : List Word) (next : ℤ → List Word → Next) → exchanged (slot.J ∷ []) gives (kinds_of stack) ≡ Some left
    → ((a : ℤ) (rest : List Word) → gives ++ kinds_of rest ≡ left → P (next a rest)) → P (on_top stack (λ word stack. on_long word (λ a. next a stack)))
on_one_long P gives left [] next e h = cc
on_one_long P gives left (I a ∷ stack) next e h = cc
on_one_long P gives left (J a ∷ stack) next e h = h a stack (left_is gives (kinds_of stack) left e)
on_one_long P gives left (R value ∷ stack) next e h = cc

pub on_one_reference : (P : Next → Type 0) (gives left : List Slot) (stack : List Word) (next : Value → List Word → Next) → exchanged (slot.R ∷ []) gives (kinds_of stack) ≡ Some left
    → ((value : Value) (rest : List Word) → gives ++ kinds_of rest ≡ left → P (next value rest)) → P (on_top stack (λ word stack. on_reference word (λ value. next value stack)))
on_one_reference P gives left [] next e h = cc
on_one_reference P gives left (I a ∷ stack) next e h = cc
on_one_reference P gives left (J a ∷ stack) next e h = cc
on_one_reference P gives left (R value ∷ stack) next e h = h value stack (left_is gives (kinds_of stack) left e)

pub on_two_references : (P : Next → Type 0) (gives left : List Slot) (stack : List Word) (next : Value → Value → List Word → Next) → exchanged (slot.R ∷ slot.R ∷ []) gives (kinds_of stack) ≡ Some left
    → ((b a : Value) (rest : List Word) → gives ++ kinds_of rest ≡ left → P (next b a rest))
    → P (on_top stack (λ upper rest. on_reference upper (λ b. on_top rest (λ lower stack. on_reference lower (λ a. next b a stack)))))
on_two_references P gives left [] next e h = cc
on_two_references P gives left (I b ∷ stack) next e h = cc
on_two_references P gives left (J b ∷ stack) next e h = cc
on_two_references P gives left (R b ∷ []) next e h = cc
on_two_references P gives left (R b ∷ I a ∷ stack) next e h = cc
on_two_references P gives left (R b ∷ J a ∷ stack) next e h = cc
on_two_references P gives left (R b ∷ R a ∷ stack) next e h = h b a stack (left_is gives (kinds_of stack) left e)

one_slot : (k : Slot) (word : Word) (gives rest left : List Slot) → exchanged (k ∷ []) gives (kind_of word ∷ rest) ≡ Some left → (kind_of word ≡ k) × (gives ++ rest ≡ left)
one_slot slot.I (I a) gives rest left e = (refl, left_is gives rest left e)
one_slot slot.J (J a) gives rest left e = (refl, left_is gives rest left e)
one_slot slot.R (R value) gives rest left e = (refl, left_is gives rest left e)
one_slot slot.I (J a) gives rest left e = cc
one_slot slot.I (R value) gives rest left e = cc
one_slot slot.J (I a) gives rest left e = cc
one_slot slot.J (R value) gives rest left e = cc
one_slot slot.R (I a) gives rest left e = cc
one_slot slot.R (J a) gives rest left e = cc

pub on_one : (P : Next → Type 0) (k : Slot) (gives left : List Slot) (stack : List Word) (next : Word → List Word → Next) → exchanged (k ∷ []) gives (kinds_of stack) ≡ Some left
    → ((word : Word) (rest : List Word) → kind_of word ≡ k → gives ++ kinds_of rest ≡ left → P (next word rest)) → P (on_top stack next)
on_one P k gives left [] next e h = cc
on_one P k gives left (word ∷ stack) next e h = let x = one_slot k word gives (kinds_of stack) left e in h word stack x.0 x.1

-- ---- locals

pub on_one_local : (P : Next → Type 0) (locals : List Word) (n : ℕ) (k : Slot) (next : Word → Next) → slice_get (kinds_of locals) n ≡ Some k → ((word : Word) → kind_of word ≡ k → P (next word))
    → P (on_local (slice_get locals n) next)
on_one_local P [] n k next e h = let wrong : None ≡ Some k = e in cc
on_one_local P (word ∷ locals) zero k next e h = h word cc
on_one_local P (word ∷ locals) (suc n) k next e h = on_one_local P locals n k next e h

set_same : (kinds : List Slot) (n : ℕ) (k : Slot) → slice_get kinds n ≡ Some k → slice_set kinds n k ≡ kinds
set_same [] n k e = let wrong : None ≡ Some k = e in cc
set_same (j ∷ kinds) zero k e = let same : j ≡ k = cc in ap (λ k. k ∷ kinds) (sym same)
set_same (j ∷ kinds) (suc n) k e = ap (λ ks. j ∷ ks) (set_same kinds n k e)

-- a word of the kind that a local has leaves the kinds of locals as they are
pub stored : (locals : List Word) (n : ℕ) (k : Slot) (word : Word) → slice_get (kinds_of locals) n ≡ Some k → kind_of word ≡ k → kinds_of (slice_set locals n word) ≡ kinds_of locals
stored locals n k word e same = map-set kind_of locals n word ∙ ap (slice_set (kinds_of locals) n) same ∙ set_same (kinds_of locals) n k e

pub starts_are : (kinds : List Slot) → kinds_of (map start_of kinds) ≡ kinds
starts_are [] = refl
starts_are (slot.I ∷ kinds) = ap (λ ks. slot.I ∷ ks) (starts_are kinds)
starts_are (slot.J ∷ kinds) = ap (λ ks. slot.J ∷ ks) (starts_are kinds)
starts_are (slot.R ∷ kinds) = ap (λ ks. slot.R ∷ ks) (starts_are kinds)

-- ---- arguments

-- words that were taken off a stack
pub record Taken (takes : List Slot) (stack already : List Word) (rest : List Slot) : Type 0 where
  pub words : List Word
  pub others : List Word
  pub is : take_words (length takes) stack already ≡ Some (words, others)
  pub kinds : kinds_of words ≡ reverse takes ++ kinds_of already
  pub left : kinds_of others ≡ rest

turned : (k : Slot) (ks others : List Slot) → reverse ks ++ k ∷ others ≡ reverse (k ∷ ks) ++ others
turned k ks others = sym (append_assoc (reverse ks) (k ∷ []) others) ∙ ap (λ xs. xs ++ others) (sym (reverse-append (k ∷ []) ks))

one_taken : (k : Slot) (word : Word) (takes kinds rest : List Slot) → taken (k ∷ takes) (kind_of word ∷ kinds) ≡ Some rest → (kind_of word ≡ k) × (taken takes kinds ≡ Some rest)
one_taken slot.I (I a) takes kinds rest e = (refl, e)
one_taken slot.J (J a) takes kinds rest e = (refl, e)
one_taken slot.R (R value) takes kinds rest e = (refl, e)
one_taken slot.I (J a) takes kinds rest e = cc
one_taken slot.I (R value) takes kinds rest e = cc
one_taken slot.J (I a) takes kinds rest e = cc
one_taken slot.J (R value) takes kinds rest e = cc
one_taken slot.R (I a) takes kinds rest e = cc
one_taken slot.R (J a) takes kinds rest e = cc

pub take_kinds : (takes : List Slot) (stack already : List Word) (rest : List Slot) → taken takes (kinds_of stack) ≡ Some rest → Taken takes stack already rest
take_kinds [] stack already rest e = record { words = already; others = stack; is = refl; kinds = refl; left = cc }
take_kinds (k ∷ takes) [] already rest e = cc
take_kinds (k ∷ takes) (word ∷ stack) already rest e =
    let x = one_taken k word takes (kinds_of stack) rest e in
    let more = take_kinds takes stack (word ∷ already) rest x.1 in
    record {
      words = more.words;
      others = more.others;
      is = more.is;
      kinds = more.kinds ∙ ap (λ k. reverse takes ++ k ∷ kinds_of already) x.0 ∙ turned k takes (kinds_of already);
      left = more.left;
    }

-- ---- words of one kind

abbrev pub AreAll : Slot → List Word → Type 0
AreAll k [] = Unit {0}
AreAll k (word ∷ words) = (kind_of word ≡ k) × AreAll k words

-- so many words of a kind that were taken off a stack
pub record TakenAlike (k : Slot) (n : ℕ) (stack already : List Word) (rest : List Slot) : Type 0 where
  pub words : List Word
  pub others : List Word
  pub is : take_words n stack already ≡ Some (words, others)
  pub alike : AreAll k words
  pub many : length words ≡ n + length already
  pub left : kinds_of others ≡ rest

one_more : (n m k : ℕ) → k ≡ n + suc m → k ≡ suc n + m
one_more n m k e = omega (arith, e)

none_more : (m : ℕ) → m ≡ 0 + m
none_more m = omega arith

take_alike : (k : Slot) (n : ℕ) (stack already : List Word) (rest : List Slot) → taken (replicate n k) (kinds_of stack) ≡ Some rest → AreAll k already → TakenAlike k n stack already rest
take_alike k zero stack already rest e all = record { words = already; others = stack; is = refl; alike = all; many = none_more (length already); left = cc }
take_alike k (suc n) [] already rest e all = cc
take_alike k (suc n) (word ∷ stack) already rest e all =
    let x = one_taken k word (replicate n k) (kinds_of stack) rest e in
    let more = take_alike k n stack (word ∷ already) rest x.1 (x.0, all) in
    record { words = more.words; others = more.others; is = more.is; alike = more.alike; many = one_more n (length already) (length more.words) more.many; left = more.left }

all_taken : (n m : ℕ) → m ≡ n + 0 → m ≡ n
all_taken n m e = omega (arith, e)

pub on_alike : (P : Next → Type 0) (k : Slot) (n : ℕ) (gives left : List Slot) (stack : List Word) (next : List Word → List Word → Next) → exchanged (replicate n k) gives (kinds_of stack) ≡ Some left
    → ((words rest : List Word) → AreAll k words → length words ≡ n → gives ++ kinds_of rest ≡ left → P (next words rest)) → P (on_words (take_words n stack []) next)
on_alike P k n gives left stack next e h =
    let x = exchange_of (replicate n k) gives (kinds_of stack) left e in
    let t = take_alike k n stack [] x.rest x.is tt in
    subst (λ o. P (on_words o next)) (sym t.is) (h t.words t.others t.alike (all_taken n (length t.words) t.many) (ap (λ ks. gives ++ ks) t.left ∙ x.left_so))

-- all that are references, and all that are ints
pub references_there : (words : List Word) → AreAll slot.R words → (values : List Value) × (references_in words ≡ Some values) × (length values ≡ length words)
references_there [] h = ([], refl, refl)
references_there (I a ∷ words) h = absurd (cc)
references_there (J a ∷ words) h = absurd (cc)
references_there (R value ∷ words) h = let more = references_there words h.1 in (value ∷ more.0, ap (before (Some value)) more.1, ap suc more.2)

pub on_references : (P : Next → Type 0) (words : List Word) (next : List Value → Next) → AreAll slot.R words → ((values : List Value) → length values ≡ length words → P (next values)) → P (on_values (references_in words) next)
on_references P words next all h = let x = references_there words all in subst (λ o. P (on_values o next)) (sym x.1) (h x.0 x.2)

ints_there : (words : List Word) → AreAll slot.I words → (numbers : List ℤ) × (ints_in words ≡ Some numbers)
ints_there [] h = ([], refl)
ints_there (I a ∷ words) h = let more = ints_there words h.1 in (a ∷ more.0, ap (int_before (I a)) more.1)
ints_there (J a ∷ words) h = absurd (cc)
ints_there (R value ∷ words) h = absurd (cc)

pub on_sizes : (P : Next → Type 0) (words : List Word) (next : List ℤ → Next) → AreAll slot.I words → ((numbers : List ℤ) → P (next numbers)) → P (on_ints (ints_in words) next)
on_sizes P words next all h = let x = ints_there words all in subst (λ o. P (on_ints o next)) (sym x.1) (h x.0)

-- the deepest of some, and those above it
pub on_some : (P : Next → Type 0) (n : ℕ) (values : List Value) (next : Value → List Value → Next) → length values ≡ suc n → ((value : Value) (others : List Value) → P (next value others)) → P (on_first values next)
on_some P n [] next e h = absurd (cc)
on_some P n (value ∷ values) next e h = h value values

-- ---- one word after the other

one_of_more : (k : Slot) (word : Word) (takes gives rest left : List Slot) → exchanged (k ∷ takes) gives (kind_of word ∷ rest) ≡ Some left → (kind_of word ≡ k) × (exchanged takes gives rest ≡ Some left)
one_of_more slot.I (I a) takes gives rest left e = (refl, e)
one_of_more slot.J (J a) takes gives rest left e = (refl, e)
one_of_more slot.R (R value) takes gives rest left e = (refl, e)
one_of_more slot.I (J a) takes gives rest left e = cc
one_of_more slot.I (R value) takes gives rest left e = cc
one_of_more slot.J (I a) takes gives rest left e = cc
one_of_more slot.J (R value) takes gives rest left e = cc
one_of_more slot.R (I a) takes gives rest left e = cc
one_of_more slot.R (J a) takes gives rest left e = cc

pub on_next : (P : Next → Type 0) (k : Slot) (takes gives left : List Slot) (stack : List Word) (next : Word → List Word → Next) → exchanged (k ∷ takes) gives (kinds_of stack) ≡ Some left
    → ((word : Word) (rest : List Word) → kind_of word ≡ k → exchanged takes gives (kinds_of rest) ≡ Some left → P (next word rest)) → P (on_top stack next)
on_next P k takes gives left [] next e h = cc
on_next P k takes gives left (word ∷ stack) next e h = let x = one_of_more k word takes gives (kinds_of stack) left e in h word stack x.0 x.1

pub as_reference : (P : Next → Type 0) (word : Word) (next : Value → Next) → kind_of word ≡ slot.R → ((value : Value) → P (next value)) → P (on_reference word next)
as_reference P (I a) next e h = absurd (cc)
as_reference P (J a) next e h = absurd (cc)
as_reference P (R value) next e h = h value

pub as_int : (P : Next → Type 0) (word : Word) (next : ℤ → Next) → kind_of word ≡ slot.I → ((a : ℤ) → P (next a)) → P (on_int word next)
as_int P (I a) next e h = h a
as_int P (J a) next e h = absurd (cc)
as_int P (R value) next e h = absurd (cc)

pub on_three_references : (P : Next → Type 0) (gives left : List Slot) (stack : List Word) (next : Value → Value → Value → List Word → Next)
    → exchanged (slot.R ∷ slot.R ∷ slot.R ∷ []) gives (kinds_of stack) ≡ Some left → ((c b a : Value) (rest : List Word) → gives ++ kinds_of rest ≡ left → P (next c b a rest))
    → P (on_top stack (λ third more. on_reference third (λ c. on_top more (λ second rest. on_reference second (λ b. on_top rest (λ first stack. on_reference first (λ a. next c b a stack)))))))
on_three_references P gives left stack next e h =
    on_next P slot.R (slot.R ∷ slot.R ∷ []) gives left stack _ e (λ third more is e'. as_reference P third _ is (λ c.
    on_two_references P gives left more (λ b a rest. next c b a rest) e' (λ b a rest. h c b a rest)))

-- an index, and an array below it
pub on_place : (P : Next → Type 0) (gives left : List Slot) (stack : List Word) (next : ℤ → Value → List Word → Next) → exchanged (slot.I ∷ slot.R ∷ []) gives (kinds_of stack) ≡ Some left
    → ((at : ℤ) (array : Value) (rest : List Word) → gives ++ kinds_of rest ≡ left → P (next at array rest))
    → P (on_top stack (λ upper rest. on_int upper (λ at. on_top rest (λ lower stack. on_reference lower (λ array. next at array stack)))))
on_place P gives left stack next e h =
    on_next P slot.I (slot.R ∷ []) gives left stack _ e (λ upper rest is e'. as_int P upper _ is (λ at. on_one_reference P gives left rest (λ array stack. next at array stack) e' (λ array stack. h at array stack)))
