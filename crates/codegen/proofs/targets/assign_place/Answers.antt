use Rattle.std.proofs.Common.{refl, sym, ap, ◌∙◌, arith}
use Rattle.std.proofs.lemmas.Result.{err_from_is_err_and}
use Rattle.std.specs.Prelude.{map}
use Rattle.source_meaning.specs.Programs.{program_of, expr_of, exprs_of}
use Rattle.program_typing.specs.Agreeing.{known, types_of}
use Rattle.compiler_relation.specs.Representation.{representation_of}
use Rattle.compiler_relation.specs.Stands.{representations}
use Rattle.codegen.specs.Worklist.{items_of, wanted}
use Rattle.codegen.proofs.Wanting.{written_present, writes_spell, few_parts, parts_want}
use Rattle.codegen.proofs.Plans.{assign_place_plan}
use Rattle.codegen.proofs.Steps.{instead, never}
use Rattle.codegen.proofs.targets.assign_place.Goals as goal

pub returns-clause-back : goal.returns-clause-back
returns-clause-back c =
    let parts = exprs_of (map expr_of c.args.parts.now) in
    let lies = c.in_ok-below.ensures in
    rw c.in_ok-push_four.ensures
    (assign_place_plan _ (items_of c.args.worklist.now) c.args.config.now c.args.at c.args.of.now c.args.read.now c.args.write.now parts (expr_of c.args.value.now) (wanted 0 c.in_ok-wanted.wanted) _ lies.many
    (λ h. record { present = c.in_ok-present.ensures; few = lies.few; writes = c.in_ok-wanted.ensures.fits.by (representations parts) h })
    (c.in_ok-represented_as.ensures ∙ c.representation_of.ensures))

pub returns-clause-sound : goal.returns-clause-sound
returns-clause-sound c = rw c.in_ok-push_four.ensures (instead _ _ _ _
    (λ allow of s.
    let funs = known allow (program_of c.args.program.now) in
    let ofs = types_of (exprs_of (map expr_of c.args.parts.now)) in
    ((s.0.0, c.in_ok-below.ensures.wants), (s.0.1, (writes_spell c.names_of_members.ensures.forms funs c.args.write.now ofs c.args.of.now s.0.4, s.1)))) refl)

pub returns-in_err-present-clause-sound : goal.returns-in_err-present-clause-sound
returns-in_err-present-clause-sound c = never _ _ _ _ _ _
    (λ allow of s.
    written_present (known allow (program_of c.args.program.now)) c.args.write.now (types_of (exprs_of (map expr_of c.args.parts.now))) c.args.of.now s.0.3 s.0.4 c.in_err-present.ensures)

pub returns-in_err-represented_as-clause-sound : goal.returns-in_err-represented_as-clause-sound
returns-in_err-represented_as-clause-sound c = never _ _ _ _ _ _ (λ allow of s. c.in_err-represented_as.ensures (ap representation_of s.0.2 ∙ sym c.representation_of.ensures))

pub returns-in_err-wanted-clause-sound : goal.returns-in_err-wanted-clause-sound
returns-in_err-wanted-clause-sound c =
    let p = err_from_is_err_and c.from_residual-in_err-wanted.result c.from_residual-in_err-wanted.ensures.1 in
    rw p.1 (record { by = λ allow s. p.2 ∙ c.in_err-wanted.ensures.total.by allow (types_of (exprs_of (map expr_of c.args.parts.now))) s.agree.0.4 })

pub returns-in_err-below-clause-sound : goal.returns-in_err-below-clause-sound
returns-in_err-below-clause-sound c = never _ _ _ _ _ _
    (λ allow of s.
    let parts = exprs_of (map expr_of c.args.parts.now) in
    c.in_err-below.ensures (few_parts parts s.0.3) (parts_want parts (wanted 0 c.in_ok-wanted.wanted) (c.in_ok-wanted.ensures.total.by allow (types_of parts) s.0.4)))

pub returns-clause-falls : goal.returns-clause-falls
returns-clause-falls c = rw c.in_ok-push_four.ensures (omega arith)
