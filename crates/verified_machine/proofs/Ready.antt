-- Verified code that is made ready to run.
use Rattle.std.proofs.Common.{◌≡◌, ◌≤◌, ℕ, ◌+◌, length, sym, ap, ◌∙◌, subst, arith}
use Rattle.object_values.specs.declared.object.Owner.TheVariants.{Script, Prelude}
use Rattle.pl_code.specs.declared.code.Code.{Code}
use Rattle.allowlist.specs.Allow.{AllowList}
use Rattle.verifier.specs.Verified.{CodeUnder, IsSound, FrameWords}
use Rattle.verifier_soundness.specs.Rows.{HaveRows}
use Rattle.machine.specs.Code.{TextCode}
use Rattle.machine.specs.Seen.{Executable}
use Rattle.verified_machine.specs.Tasks.{code_under, IsReady}

most_of : (a b c : ℕ) → a ≤ b → b ≤ c → a ≤ c
most_of a b c h k = omega (arith, h, k)

more_words : (c : CodeUnder) (own frame : ℕ) → own ≤ frame → FrameWords own c → FrameWords frame c
more_words c own frame h words k f line kinds is within stands = most_of (length f.params + length f.locals + length kinds) own frame (words k f line kinds is within stands) h

-- a text
pub text_is : (t : TextCode) (c : CodeUnder) (code : Code) (allow : AllowList) → t ≡ record { code = code; allow = allow } → code ≡ c.code → allow ≡ c.allow → t ≡ record { code = c.code; allow = c.allow }
text_is t c code allow is same under = is ∙ (λ i. record { code = same i; allow = under i })

pub text_is_under : (t : TextCode) (c : CodeUnder) (code : Code) (allow : AllowList) → t ≡ record { code = code; allow = allow } → code ≡ c.code → allow ≡ c.allow → code_under t ≡ c
text_is_under t c code allow is same under = ap code_under (text_is t c code allow is same under)

pub text_is_ready : (t : TextCode) (c : CodeUnder) (code : Code) (allow : AllowList) (frame : ℕ) → t ≡ record { code = code; allow = allow } → code ≡ c.code → allow ≡ c.allow → IsSound c → FrameWords frame c
    → HaveRows c.allow c.code.functions → IsSound (code_under t) × FrameWords frame (code_under t) × HaveRows t.allow t.code.functions
text_is_ready t c code allow frame is same under sound words rows =
    subst (λ (t : TextCode). IsSound (code_under t) × FrameWords frame (code_under t) × HaveRows t.allow t.code.functions) (sym (text_is t c code allow is same under)) (sound, words, rows)

-- .. and a script's beside it
both_ready : (c : CodeUnder) (t : TextCode) (own kept frame : ℕ) → IsSound c → FrameWords own c → IsSound (code_under t) → FrameWords kept (code_under t) → own ≤ frame → kept ≤ frame
    → IsReady (record { script = record { code = c.code; allow = c.allow }; prelude = t; frame = frame })
both_ready c t own kept frame sound words beside_sound beside_words h k Script = (sound, more_words c own frame h words)
both_ready c t own kept frame sound words beside_sound beside_words h k Prelude = (beside_sound, more_words (code_under t) kept frame k beside_words)

pub executable_is : (e : Executable) (c : CodeUnder) (t beside : TextCode) (code : Code) (allow : AllowList) (frame : ℕ) → e ≡ record { script = record { code = code; allow = allow }; prelude = beside; frame = frame }
    → code ≡ c.code → allow ≡ c.allow → beside ≡ t → e ≡ record { script = record { code = c.code; allow = c.allow }; prelude = t; frame = frame }
executable_is e c t beside code allow frame is same under there = is ∙ (λ i. record { script = record { code = same i; allow = under i }; prelude = there i; frame = frame })

pub executable_is_ready : (e : Executable) (c : CodeUnder) (t : TextCode) (own kept frame : ℕ) → e ≡ record { script = record { code = c.code; allow = c.allow }; prelude = t; frame = frame } → IsSound c → FrameWords own c
    → IsSound (code_under t) → FrameWords kept (code_under t) → HaveRows t.allow t.code.functions → own ≤ frame → kept ≤ frame → IsReady e × HaveRows e.prelude.allow e.prelude.code.functions
executable_is_ready e c t own kept frame is sound words beside_sound beside_words rows h k =
    subst (λ (e : Executable). IsReady e × HaveRows e.prelude.allow e.prelude.code.functions) (sym is) (both_ready c t own kept frame sound words beside_sound beside_words h k, rows)
