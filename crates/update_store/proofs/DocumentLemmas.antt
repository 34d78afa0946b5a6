-- What is found behind a change, and that versions only grow.
use Rattle.std.proofs.Common.{◌≡◌, ◌≢◌, ◌⊎◌, ℕ, ◌+◌, ◌≤◌, Bool, true, false, true≢false, cond, List, [], ◌∷◌, Option, Some, None, bytes_eq, inl, inr, refl, sym, ap, ◌∙◌, subst, arith}
use Rattle.std.proofs.lemmas.Slice.Eq.{bytes_eq-Decides}
use Rattle.serde_json.specs.Data.{Data}
use Rattle.update_store.specs.Documents.{DocData, ChangeData, Index, Delete, DocumentsData, find, deleted_version, version_in, version_at, rewritten, with_source, without, with_version, removed, changed, with_change}

-- ---- tests

pub chosen : {A : Type 0} (b : Bool) (x y : A) → b ≡ true → cond b x y ≡ x
chosen b x y h = ap (λ t. cond t x y) h

pub passed : {A : Type 0} (b : Bool) (x y : A) → b ≡ false → cond b x y ≡ y
passed b x y h = ap (λ t. cond t x y) h

tell_at : (b : Bool) (xs ys : List ℕ) → bytes_eq xs ys ≡ b → ((bytes_eq xs ys ≡ true) × (xs ≡ ys)) ⊎ ((bytes_eq xs ys ≡ false) × (xs ≢ ys))
tell_at true xs ys e = inl (e, (bytes_eq-Decides xs ys).0 e)
tell_at false xs ys e = inr (e, λ h. true≢false (sym ((bytes_eq-Decides xs ys).1 h) ∙ e))

-- whether two ids are one
pub ids_tell : (xs ys : List ℕ) → ((bytes_eq xs ys ≡ true) × (xs ≡ ys)) ⊎ ((bytes_eq xs ys ≡ false) × (xs ≢ ys))
ids_tell xs ys = tell_at (bytes_eq xs ys) xs ys refl

pub differs : (xs ys : List ℕ) → xs ≢ ys → bytes_eq xs ys ≡ false
differs xs ys other = elim (ids_tell xs ys) [ inl h ↦ absurd (other h.1) | inr h ↦ h.0 ]

-- ---- documents

abbrev pub also : {A B : Type 0} → (A → B) → Option A → Option B
also f None = None
also f (Some a) = Some (f a)

pub find_rewritten : (id : List ℕ) (version : ℕ) (source : Data) (docs : List DocData) → find id (with_source id version source docs) ≡ also (rewritten version source) (find id docs)
find_rewritten id version source [] = refl
find_rewritten id version source (doc ∷ docs) =
    let new = rewritten version source in
    elim (ids_tell id doc.id) [
      | inl h ↦
          ap (find id) (chosen (bytes_eq id doc.id) (new doc ∷ docs) (doc ∷ with_source id version source docs) h.0)
          ∙ chosen (bytes_eq id doc.id) (Some (new doc)) (find id docs) h.0
          ∙ sym (ap (also new) (chosen (bytes_eq id doc.id) (Some doc) (find id docs) h.0))
      | inr h ↦
          ap (find id) (passed (bytes_eq id doc.id) (new doc ∷ docs) (doc ∷ with_source id version source docs) h.0)
          ∙ passed (bytes_eq id doc.id) (Some doc) (find id (with_source id version source docs)) h.0
          ∙ find_rewritten id version source docs
          ∙ sym (ap (also new) (passed (bytes_eq id doc.id) (Some doc) (find id docs) h.0))
    ]

pub other_rewritten : (q id : List ℕ) (version : ℕ) (source : Data) (docs : List DocData) → id ≢ q → find q (with_source id version source docs) ≡ find q docs
other_rewritten q id version source [] other = refl
other_rewritten q id version source (doc ∷ docs) other =
    let new = rewritten version source in
    elim (ids_tell id doc.id) [
      | inl h ↦
          let test : bytes_eq q doc.id ≡ false = differs q doc.id (λ e. other (h.1 ∙ sym e)) in
          ap (find q) (chosen (bytes_eq id doc.id) (new doc ∷ docs) (doc ∷ with_source id version source docs) h.0)
          ∙ passed (bytes_eq q doc.id) (Some (new doc)) (find q docs) test
          ∙ sym (passed (bytes_eq q doc.id) (Some doc) (find q docs) test)
      | inr h ↦
          ap (find q) (passed (bytes_eq id doc.id) (new doc ∷ docs) (doc ∷ with_source id version source docs) h.0)
          ∙ ap (cond (bytes_eq q doc.id) (Some doc)) (other_rewritten q id version source docs other)
    ]

pub find_without : (id : List ℕ) (docs : List DocData) → find id (without id docs) ≡ None
find_without id [] = refl
find_without id (doc ∷ docs) = elim (ids_tell id doc.id) [
  | inl h ↦ ap (find id) (chosen (bytes_eq id doc.id) (without id docs) (doc ∷ without id docs) h.0) ∙ find_without id docs
  | inr h ↦
      ap (find id) (passed (bytes_eq id doc.id) (without id docs) (doc ∷ without id docs) h.0)
      ∙ passed (bytes_eq id doc.id) (Some doc) (find id (without id docs)) h.0
      ∙ find_without id docs
]

pub other_without : (q id : List ℕ) (docs : List DocData) → id ≢ q → find q (without id docs) ≡ find q docs
other_without q id [] other = refl
other_without q id (doc ∷ docs) other = elim (ids_tell id doc.id) [
  | inl h ↦
      ap (find q) (chosen (bytes_eq id doc.id) (without id docs) (doc ∷ without id docs) h.0)
      ∙ other_without q id docs other
      ∙ sym (passed (bytes_eq q doc.id) (Some doc) (find q docs) (differs q doc.id (λ e. other (h.1 ∙ sym e))))
  | inr h ↦
      ap (find q) (passed (bytes_eq id doc.id) (without id docs) (doc ∷ without id docs) h.0)
      ∙ ap (cond (bytes_eq q doc.id) (Some doc)) (other_without q id docs other)
]

pub version_put : (id : List ℕ) (version : ℕ) (es : List (List ℕ × ℕ)) → deleted_version id (with_version id version es) ≡ version
version_put id version [] = chosen (bytes_eq id id) version 0 ((bytes_eq-Decides id id).1 refl)
version_put id version (e ∷ es) = elim (ids_tell id e.0) [
  | inl h ↦
      ap (deleted_version id) (chosen (bytes_eq id e.0) ((e.0, version) ∷ es) (e ∷ with_version id version es) h.0)
      ∙ chosen (bytes_eq id e.0) version (deleted_version id es) h.0
  | inr h ↦
      ap (deleted_version id) (passed (bytes_eq id e.0) ((e.0, version) ∷ es) (e ∷ with_version id version es) h.0)
      ∙ passed (bytes_eq id e.0) e.1 (deleted_version id (with_version id version es)) h.0
      ∙ version_put id version es
]

pub other_version : (q id : List ℕ) (version : ℕ) (es : List (List ℕ × ℕ)) → id ≢ q → deleted_version q (with_version id version es) ≡ deleted_version q es
other_version q id version [] other = passed (bytes_eq q id) version 0 (differs q id (λ e. other (sym e)))
other_version q id version (e ∷ es) other = elim (ids_tell id e.0) [
  | inl h ↦
      let test : bytes_eq q e.0 ≡ false = differs q e.0 (λ s. other (h.1 ∙ sym s)) in
      ap (deleted_version q) (chosen (bytes_eq id e.0) ((e.0, version) ∷ es) (e ∷ with_version id version es) h.0)
      ∙ passed (bytes_eq q e.0) version (deleted_version q es) test
      ∙ sym (passed (bytes_eq q e.0) e.1 (deleted_version q es) test)
  | inr h ↦
      ap (deleted_version q) (passed (bytes_eq id e.0) ((e.0, version) ∷ es) (e ∷ with_version id version es) h.0)
      ∙ ap (cond (bytes_eq q e.0) e.1) (other_version q id version es other)
]

-- ---- a change

version_removed : (id : List ℕ) (version : ℕ) (docs : DocumentsData) → version_at id (removed id version docs) ≡ version
version_removed id version docs =
    ap (λ (o : Option DocData). version_in o (deleted_version id (with_version id version docs.deleted))) (find_without id docs.live)
    ∙ version_put id version docs.deleted

version_changed : (id : List ℕ) (version : ℕ) (change : ChangeData) (found : Option DocData) (docs : DocumentsData) → find id docs.live ≡ found
    → version_at id (changed id version change found docs) ≡ version
version_changed id version (Index source) (Some doc) docs is =
    ap (λ (o : Option DocData). version_in o (deleted_version id docs.deleted)) (find_rewritten id version source docs.live ∙ ap (also (rewritten version source)) is)
version_changed id version (Index source) None docs is = version_removed id version docs
version_changed id version Delete found docs is = version_removed id version docs

-- another id has what it had
record Keeps (q : List ℕ) (old new : DocumentsData) : Type 0 where
  pub doc : find q new.live ≡ find q old.live
  pub version : version_at q new ≡ version_at q old

other_removed : (q id : List ℕ) (version : ℕ) (docs : DocumentsData) → id ≢ q → Keeps q docs (removed id version docs)
other_removed q id version docs other = record {
  doc = other_without q id docs.live other;
  version =
      ap (λ (o : Option DocData). version_in o (deleted_version q (with_version id version docs.deleted))) (other_without q id docs.live other)
      ∙ ap (version_in (find q docs.live)) (other_version q id version docs.deleted other);
}

other_changed : (q id : List ℕ) (version : ℕ) (change : ChangeData) (found : Option DocData) (docs : DocumentsData) → id ≢ q → Keeps q docs (changed id version change found docs)
other_changed q id version (Index source) (Some doc) docs other = record {
  doc = other_rewritten q id version source docs.live other;
  version = ap (λ (o : Option DocData). version_in o (deleted_version q docs.deleted)) (other_rewritten q id version source docs.live other);
}
other_changed q id version (Index source) None docs other = other_removed q id version docs other
other_changed q id version Delete found docs other = other_removed q id version docs other

-- ---- versions only grow, and a version stands for one document

pub record Grows (old new : DocumentsData) : Type 0 where
  pub versions : (id : List ℕ) → version_at id old ≤ version_at id new
  pub same : (id : List ℕ) → version_at id new ≡ version_at id old → find id new.live ≡ find id old.live

pub grows_none : (docs : DocumentsData) → Grows docs docs
grows_none docs = record { versions = λ id. omega arith; same = λ id h. refl }

less : (a b : ℕ) → b ≡ a + 1 → a ≤ b
less a b h = omega (arith, h)

le_same : (a b : ℕ) → a ≡ b → b ≤ a
le_same a b h = omega (arith, h)

not_same : {P : Type 0} (a b : ℕ) → b ≡ a + 1 → b ≡ a → P
not_same a b h e = absurd (omega (arith, h, e))

pub grows_change : (id : List ℕ) (change : ChangeData) (docs : DocumentsData) → Grows docs (with_change id change docs)
grows_change id change docs =
    let new = with_change id change docs in
    let here : version_at id new ≡ version_at id docs + 1 = version_changed id (version_at id docs + 1) change (find id docs.live) docs refl in
    record {
      versions = λ q. elim (ids_tell id q) [
        | inl h ↦ subst (λ (i : List ℕ). version_at i docs ≤ version_at i new) h.1 (less (version_at id docs) (version_at id new) here)
        | inr h ↦ le_same (version_at q new) (version_at q docs) (other_changed q id (version_at id docs + 1) change (find id docs.live) docs h.1).version
      ];
      same = λ q. elim (ids_tell id q) [
        | inl h ↦ subst (λ (i : List ℕ). version_at i new ≡ version_at i docs → find i new.live ≡ find i docs.live) h.1 (λ e. not_same (version_at id docs) (version_at id new) here e)
        | inr h ↦ λ e. (other_changed q id (version_at id docs + 1) change (find id docs.live) docs h.1).doc
      ];
    }
