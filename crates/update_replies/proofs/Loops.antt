-- What loops have done so far, and what is left.
use Rattle.std.proofs.Common.{◌≡◌, ℕ, zero, suc, ◌+◌, ◌<◌, ◌≤◌, List, [], ◌∷◌, ◌++◌, drop, get_or, length, map, add-one, append-nil, append_assoc, refl, sym, ap, ◌∙◌, arith}
use Rattle.std.proofs.Math.Seq.{drop-cons}
use Rattle.std.proofs.lemmas.List.{drop_all}
use Rattle.serde_json.specs.Data.{Data, Members, no_members, put}
use Rattle.serde_json.specs.View.{view}
use Rattle.serde_json.specs.declared.value.Value.{Value}
use Rattle.update_store.specs.declared.document.Commit.{Commit}
use Rattle.update_store.specs.declared.document.Doc.{Doc}
use Rattle.update_store.specs.Documents.{doc_view}
use Rattle.update_replies.specs.Stores.{commit_reply, doc_reply, with_replies}

-- an item of a list, and what stands behind it
next_item : {A : Type 0} (xs : List A) (at : ℕ) (x : A) → at < length xs → x ≡ get_or xs at x → drop at xs ≡ x ∷ drop (at + 1) xs
next_item {A} xs at x within is =
    drop-cons xs at x within ∙ (ap (λ (y : A). y ∷ drop (suc at) xs) (sym is) ∙ ap (λ (n : ℕ). x ∷ drop n xs) (sym (add-one at)))

-- an item does not hang on what stands for one that is not there
pub any_item : {A : Type 0} (xs : List A) (at : ℕ) (a b : A) → at < length xs → get_or xs at a ≡ get_or xs at b
any_item [] at a b within = absurd (omega (arith, within))
any_item (x ∷ xs) zero a b within = refl
any_item (x ∷ xs) (suc at) a b within = any_item xs at a b (omega (arith, within))

-- ---- the replies to documents

abbrev pub RepliesOn : List Doc → List Doc → Members → Type 0
RepliesOn docs left now = with_replies now (map doc_view left) ≡ with_replies no_members (map doc_view docs)

pub replies_next : (now after : Members) (docs : List Doc) (at : ℕ) (doc : Doc) → at < length docs → doc ≡ get_or docs at doc → RepliesOn docs (drop at docs) now
    → after ≡ put (doc_view doc).id (doc_reply (doc_view doc)) now → RepliesOn docs (drop (at + 1) docs) after
replies_next now after docs at doc within item is added =
    ap (λ (ms : Members). with_replies ms (map doc_view (drop (at + 1) docs))) added
    ∙ (ap (λ (l : List Doc). with_replies now (map doc_view l)) (sym (next_item docs at doc within item)) ∙ is)

pub replies_all : (now : Members) (docs : List Doc) (at : ℕ) → length docs ≤ at → RepliesOn docs (drop at docs) now → now ≡ with_replies no_members (map doc_view docs)
replies_all now docs at past is = ap (λ (l : List Doc). with_replies now (map doc_view l)) (sym (drop_all at docs past)) ∙ is

-- ---- a history

abbrev pub HistoryOn : List Commit → List Commit → List Value → Type 0
HistoryOn history left now = map view now ++ map commit_reply left ≡ map commit_reply history

pub history_next : (now after : List Value) (history : List Commit) (at : ℕ) (entry : Commit) → at < length history → entry ≡ get_or history at entry
    → HistoryOn history (drop at history) now → map view after ≡ map view now ++ commit_reply entry ∷ [] → HistoryOn history (drop (at + 1) history) after
history_next now after history at entry within item is added =
    let rest = map commit_reply (drop (at + 1) history) in
    ap (λ (l : List Data). l ++ rest) added
    ∙ (append_assoc (map view now) (commit_reply entry ∷ []) rest
    ∙ (ap (λ (l : List Commit). map view now ++ map commit_reply l) (sym (next_item history at entry within item)) ∙ is))

pub history_all : (now : List Value) (history : List Commit) (at : ℕ) → length history ≤ at → HistoryOn history (drop at history) now → map view now ≡ map commit_reply history
history_all now history at past is =
    sym (append-nil (map view now)) ∙ (ap (λ (l : List Commit). map view now ++ map commit_reply l) (sym (drop_all at history past)) ∙ is)
