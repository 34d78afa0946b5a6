-- When two scripts are one.
use Rattle.std.proofs.Common.{◌≡◌, Bool, true, false, ◌&&◌, refl, sym, ap, ◌∙◌, true≢false, bytes_eq, string_bytes}
use Rattle.std.specs.Cmp.{first_so, second_so}
use Rattle.std.specs.Cmp.Lexicographic.{bytes_decides}
use Rattle.std.proofs.lemmas.Bool.{and_from}
use Rattle.script_store.specs.declared.kind.ServeKind.{ServeKind}
use Rattle.script_store.specs.declared.kind.ServeKind.TheVariants.{Filter, Score, Field, Update, Ingest}
use Rattle.script_store.specs.declared.stored.Stored.{Stored}
use Rattle.script_store.specs.contracts.kind.ServeKindPartialEq.TheImpl as kind_eq
use Rattle.script_store.specs.contracts.stored.StoredPartialEq.TheImpl as stored_eq
use Rattle.script_store.specs.Script.{Script, script_of, same_kind, same_script}

-- what the code's comparison of contexts tells
kinds : (a b : ServeKind) → (kind_eq.ghosts).eq a b ≡ same_kind a b
kinds Filter Filter = refl
kinds Score Score = refl
kinds Field Field = refl
kinds Update Update = refl
kinds Ingest Ingest = refl
kinds _ _ = refl

-- the code's comparison of keys
abbrev pub is_key : Stored → Stored → Bool
is_key = (stored_eq.ghosts).eq

-- what it tells
pub same_stored : (a b : Stored) → is_key a b ≡ same_script (script_of a) (script_of b)
same_stored a b = ap (λ t. t && bytes_eq (string_bytes a.source) (string_bytes b.source)) (kinds a.kind b.kind)

-- the same of a copy of a key
pub same_copy : (k : Stored) (key : Script) → script_of k ≡ key → (j : Stored) → is_key k j ≡ same_script key (script_of j)
same_copy k key copied j = same_stored k j ∙ ap (λ (s : Script). same_script s (script_of j)) copied

one_kind : (a b : ServeKind) → same_kind a b ≡ true → a ≡ b
one_kind Filter Filter h = refl
one_kind Score Score h = refl
one_kind Field Field h = refl
one_kind Update Update h = refl
one_kind Ingest Ingest h = refl
one_kind _ _ h = absurd (true≢false (sym h))

itself : (a : ServeKind) → same_kind a a ≡ true
itself Filter = refl
itself Score = refl
itself Field = refl
itself Update = refl
itself Ingest = refl

-- the test of two scripts holds of one script alone
pub one_script : (a b : Script) → same_script a b ≡ true → a ≡ b
one_script a b h =
    let kind = one_kind a.kind b.kind (first_so (same_kind a.kind b.kind) (bytes_eq a.source b.source) h) in
    let source = (bytes_decides a.source b.source).0 (second_so (same_kind a.kind b.kind) (bytes_eq a.source b.source) h) in
    λ i. record { kind = kind i; source = source i }

pub same_script-itself : (a : Script) → same_script a a ≡ true
same_script-itself a = and_from (same_kind a.kind a.kind) (bytes_eq a.source a.source) (itself a.kind) ((bytes_decides a.source a.source).1 refl)
