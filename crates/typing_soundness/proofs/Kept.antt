-- In a program that typing gives each value is of its type, since such a program is well formed.
use Rattle.std.proofs.Common.{sym, subst}
use Rattle.source_typing.specs.Programs.{program_of}
use Rattle.source_typing.specs.Agreeing.{known, WellFormed}
use Rattle.source_typing.proofs.Meanings.{meanings_are_typed}
use Rattle.typing_soundness.specs.Laws.{beside, TypingKeepsTypes}
use Rattle.typing_soundness.proofs.Functions.{typing_is_sound}

pub typing_keeps_types : TypingKeepsTypes
typing_keeps_types allow context tree p good is prelude limits allowed formed bound =
    let script = subst (λ list. WellFormed (known list (program_of p))) (sym allowed) (typing_is_sound allow context tree p good is) in
    meanings_are_typed (beside p prelude) limits bound (record { script = script; prelude = formed })
