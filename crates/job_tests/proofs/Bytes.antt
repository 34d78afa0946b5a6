-- The reply of the context whose lines are bound to their first bytes.
use Rattle.std.proofs.Common.{◌≡◌, ℕ, Bool, true, false, List, [], ◌∷◌, Result, Ok, refl, sym, ap, ◌∙◌}
use Rattle.std.specs.Prelude.{pos}
use Rattle.serde_json.specs.Data.{number, unsigned}
use Rattle.object_heap.specs.Store.{Store}
use Rattle.object_values.specs.declared.value.Value.{Value}
use Rattle.object_values.specs.declared.value.Value.TheVariants as v
use Rattle.job_loading.specs.Allow.{AllowList}
use Rattle.job_loading.specs.Replies.{is_error, line_of}
use Rattle.document_replies.specs.Replies.{Ended}
use Rattle.document_replies.specs.Starts.{Fault, Start}
use Rattle.document_replies.specs.json_replies_declared.showing.ShownKeys.{ShownKeys}
use Rattle.document_replies.specs.Showing.{shown_reply, with_members, with_steps}
use Rattle.job_tests.specs.FirstBytes.{KeepsByte, byte_in, byte_reply, byte_start, first_byte}

-- nothing is shown beside a number
plain_members : (allow : AllowList) (shown : Bool) (reached : List ℕ) (n : ℕ) → with_members allow shown reached (number (unsigned n)) ≡ number (unsigned n)
plain_members allow true reached n = refl
plain_members allow false reached n = refl

plain_steps : (shown : Bool) (steps n : ℕ) → with_steps shown steps (number (unsigned n)) ≡ number (unsigned n)
plain_steps true steps n = refl
plain_steps false steps n = refl

pub plain_shown : (allow : AllowList) (keys : ShownKeys) (reached : List ℕ) (steps n : ℕ) → shown_reply allow keys reached steps (number (unsigned n)) ≡ number (unsigned n)
plain_shown allow keys reached steps n = ap (with_steps keys.steps steps) (plain_members allow keys.members reached n) ∙ plain_steps keys.steps steps n

-- the reply to a start of which this byte is kept
pub byte_shown : (allow : AllowList) (keys : ShownKeys) (ran : Ended) (from : Start) (byte : ℕ) → KeepsByte from byte
    → number (unsigned byte) ≡ shown_reply allow keys ran.reached ran.steps (byte_reply from ran)
byte_shown allow keys ran from byte kept =
    sym (ap (λ (args : List Value). shown_reply allow keys ran.reached ran.steps (number (unsigned (byte_in args)))) kept ∙ plain_shown allow keys ran.reached ran.steps byte)

pub line_shown : (allow : AllowList) (keys : ShownKeys) (ran : Ended) (from : Start) (byte : ℕ) (text : List ℕ) → KeepsByte from byte → text ≡ line_of (number (unsigned byte))
    → text ≡ line_of (shown_reply allow keys ran.reached ran.steps (byte_reply from ran))
line_shown allow keys ran from byte text kept is = is ∙ ap line_of (byte_shown allow keys ran from byte kept)

pub no_error : (allow : AllowList) (keys : ShownKeys) (ran : Ended) (from : Start) (byte : ℕ) → KeepsByte from byte
    → false ≡ is_error (shown_reply allow keys ran.reached ran.steps (byte_reply from ran))
no_error allow keys ran from byte kept = ap is_error (byte_shown allow keys ran from byte kept)

abbrev start_at : Store → List Value → Result Start Fault
start_at store args = Ok (record { store = store; args = args })

-- what a line is bound to
pub bound_so : (line : List ℕ) (store : Store) (args : List Value) (byte : ℕ) → byte ≡ first_byte line → args ≡ v.Long (pos byte) ∷ [] → store ≡ record { objects = []; room = 0 }
    → byte_start line ≡ Ok (record { store = store; args = args })
bound_so line store args byte is args_are store_is =
    ap (λ (n : ℕ). start_at (record { objects = []; room = 0 }) (v.Long (pos n) ∷ [])) (sym is)
    ∙ (ap (λ (s : Store). start_at s (v.Long (pos byte) ∷ [])) (sym store_is) ∙ ap (λ (l : List Value). start_at store l) (sym args_are))
