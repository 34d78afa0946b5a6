-- Bytes are a text or not, and in one way.
use Rattle.std.proofs.Common.{refl, subst, sym}
use Rattle.std.specs.Str.{IsValidUpTo}
use Rattle.eval_command.proofs.Utf8.{decodes_text, decodes_refused}
use Rattle.eval_command.proofs.script.decode.Goals as goal

pub returns-in-Ok-clause-only : goal.returns-in-Ok-clause-only
returns-in-Ok-clause-only c = λ reading h. decodes_text c.args.bytes.now c.in-Ok.text.now c.in-Ok.ensures.cases reading h

pub returns-in-Err-clause-only : goal.returns-in-Err-clause-only
returns-in-Err-clause-only c = λ reading h.
    decodes_refused c.args.bytes.now (record { number = 1; offset = c.valid_up_to.result })
    (refl, subst (λ n. IsValidUpTo c.args.bytes.now n) (sym c.valid_up_to.ensures) c.in-Err.ensures.cases.1) reading h
