-- Each stage has an answer, and so something is told.
use Rattle.std.proofs.Common.{◌≡◌, ℕ, zero, suc, ◌<◌, ◌≤◌, Bool, true, false, List, [], length, take, Option, None, Some, Result, Ok, Err, inl, inr, ◌⊎◌, refl, subst, arith}
use Rattle.std.proofs.lemmas.Bool.{cases_order}
use Rattle.std.proofs.lemmas.List.{take_all}
use Rattle.std.proofs.lemmas.Str.{IsUtf8-nil, IsUtf8-from_is_utf8, is_utf8-from_IsUtf8}
use Rattle.std.specs.Str.{IsUtf8, is_utf8, IsValidUpTo}
use Rattle.pl_types.specs.declared.refusal.Refusal.{Refusal}
use Rattle.pl_types.specs.declared.ty.Ty.{out-Ty}
use Rattle.pl_types.specs.declared.ty.Ty.TheVariants as t
use Rattle.allowlist.specs.Allow.{full_list}
use Rattle.typed_tree.specs.declared.program.Program.{Program}
use Rattle.script_engine.specs.TypingSoundnessLaws.{IsContext}
use Rattle.script_engine.proofs.Types.{built_named, def_built}
use Rattle.json_replies.specs.Replies.{line_of, refusal_of}
use Rattle.script_engine.specs.Codes.{ScriptCodes, empty_program}
use Rattle.script_engine.specs.Programs.{IsProgramOf}
use Rattle.script_engine.specs.Laws.{TextsAreAnswered, ProgramsEnd, ListedCodesCount}
use Rattle.script_engine.proofs.Texts.{Answered}
use Rattle.command_parts.specs.declared.status.Status.TheVariants as s
use Rattle.command_parts.specs.Told.{Told, silent, uncounted, file_limit}
use Rattle.eval_command.specs.Codes.{AreCodesOfText, AreCodesOf, AreCodesIn}
use Rattle.eval_command.specs.Script.{Decodes, eval_types, eval_limits, eval_world}
use Rattle.eval_command.specs.Evaluation.{end_told, TellsScript, TellsFile}
use Rattle.eval_command.specs.Outcomes.{machine_limits}

contradicts : {b : Bool} → b ≡ true → b ≡ false → ⊥
contradicts holds fails = cc

-- a front is UTF-8, or the shorter ones are tried
by_front : (bytes : List ℕ) (k : ℕ) → suc k ≤ length bytes → ((m : ℕ) → suc k ≤ m → IsUtf8 (take m bytes) → ⊥) → (b : Bool) → is_utf8 (take k bytes) ≡ b
    → (((m : ℕ) → k ≤ m → IsUtf8 (take m bytes) → ⊥) → (n : ℕ) × IsValidUpTo bytes n) → (n : ℕ) × IsValidUpTo bytes n
by_front bytes k within none true is shorter = (
  k,
  record {
    short = omega arith;
    front = IsUtf8-from_is_utf8 (take k bytes) is;
    longest = λ m above text. none m (omega arith) text;
  },
)
by_front bytes k within none false is shorter = shorter (λ m from text. elim (cases_order m k) [
  | inl e ↦ contradicts (is_utf8-from_IsUtf8 (take k bytes) (subst (λ (n : ℕ). IsUtf8 (take n bytes)) e text)) is
  | inr lt ↦ elim lt [ inl below ↦ absurd (omega arith) | inr above ↦ none m (omega arith) text ]
])

-- the longest front that is UTF-8, which is shorter than all
longest_front : (bytes : List ℕ) (k : ℕ) → k ≤ length bytes → ((m : ℕ) → k ≤ m → IsUtf8 (take m bytes) → ⊥) → (n : ℕ) × IsValidUpTo bytes n
longest_front bytes zero within none = absurd (none 0 (omega arith) IsUtf8-nil)
longest_front bytes (suc k) within none =
    by_front bytes k within none (is_utf8 (take k bytes)) refl (λ shorter. longest_front bytes k (omega arith) shorter)

decodes_some : (bytes : List ℕ) → Answered (Decodes bytes)
decodes_some bytes = by (is_utf8 bytes) refl
  where
    by : (b : Bool) → is_utf8 bytes ≡ b → Answered (Decodes bytes)
    by true is = (Ok bytes, (refl, IsUtf8-from_is_utf8 bytes is))
    by false is =
        let front = longest_front bytes (length bytes) (omega arith)
        (λ m from text. contradicts (is_utf8-from_IsUtf8 bytes (subst IsUtf8 (take_all m bytes from) text)) is) in
        (Err (record { number = 1; offset = front.0 }), (refl, front.1))

pub is_context : IsContext eval_types
unfolding out-Ty denote.Hole.Carrier.out
is_context = record { distinct = tt; present = tt; result = built_named t.Def def_built }

module _ (texts : TextsAreAnswered) (ends : ProgramsEnd) (counted : ListedCodesCount) (codes : ScriptCodes) where
  -- .. of the codes of its program
  program_some : (script text : List ℕ) → Decodes script (Ok text) → AreCodesOfText text codes → (reading : Result Program Refusal) → IsProgramOf full_list eval_types text reading
      → (told : Told) × TellsScript codes script told
  program_some script text decodes are (Ok p) is =
      let end = ends full_list eval_types text p is_context is eval_limits refl [] tt eval_world in
      let count = counted full_list eval_types p empty_program codes (are p is).0 machine_limits eval_world.store [] tt in
      (end_told codes end.0 count.0, (Ok end.0, (Ok text, decodes, (Ok p, is, (end.0, end.1, refl))), (count.0, count.1, refl)))
  program_some script text decodes are (Err refusal) is =
      (uncounted s.Refused (line_of (refusal_of refusal)), (Err refusal, (Ok text, decodes, (Err refusal, is, refl)), refl))

  bytes_some : (script : List ℕ) → AreCodesOf script codes → (reading : Result (List ℕ) Refusal) → Decodes script reading → (told : Told) × TellsScript codes script told
  bytes_some script are (Ok text) decodes = let read = texts full_list eval_types text in program_some script text decodes (are text decodes) read.0 read.1
  bytes_some script are (Err refusal) decodes = (uncounted s.Refused (line_of (refusal_of refusal)), (Err refusal, (Err refusal, decodes, refl), refl))

  script_some : (script : List ℕ) → AreCodesOf script codes → (told : Told) × TellsScript codes script told
  script_some script are = let read = decodes_some script in bytes_some script are read.0 read.1

  pub file_some : (found : Option (List ℕ)) → AreCodesIn found codes → (told : Told) × TellsFile codes found told
  file_some None are = (silent s.FileAbsent, refl)
  file_some (Some script) are = elim (long_or_short (length script) file_limit) [
    | inl long ↦ (silent s.FileLong, inl (long, refl))
    | inr short ↦ (let t = script_some script (are short) in (t.0, inr (short, t.1)))
  ] where
    long_or_short : (n limit : ℕ) → (limit < n) ⊎ (n ≤ limit)
    long_or_short n limit = elim (cases_order n limit) [
      | inl e ↦ inr (omega arith)
      | inr lt ↦ elim lt [ inl below ↦ inr (omega arith) | inr above ↦ inl above ]
    ]
