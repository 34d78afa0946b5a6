use Rattle.std.proofs.Common.{refl, sym, subst, ◌∙◌, arith}
use Rattle.std.proofs.lemmas.Result.{err_from_is_err_and}
use Rattle.std.specs.Prelude.{map}
use Rattle.source_meaning.specs.Programs.{program_of, expr_of, exprs_of}
use Rattle.program_typing.specs.Agreeing.{known, types_of}
use Rattle.compiler_relation.specs.Representation.{Representation}
use Rattle.compiler_relation.specs.Stands.{ChangeFits, representations}
use Rattle.codegen.specs.Worklist.{items_of, wanted}
use Rattle.codegen.proofs.Fitting.{changes_fit, changes_name}
use Rattle.codegen.proofs.Wanting.{applies_spell, writes_spell, few_parts, parts_want}
use Rattle.codegen.proofs.Parts.{parts_counted, types_counted}
use Rattle.codegen.proofs.Plans.{modify_place_plan}
use Rattle.codegen.proofs.Steps.{instead, never}
use Rattle.codegen.proofs.targets.modify_read.Goals as goal

pub returns-clause-back : goal.returns-clause-back
returns-clause-back c =
    let parts = exprs_of (map expr_of c.args.parts.now) in
    let lies = c.in_ok-below.ensures in
    let changes = subst (λ (k : Representation). ChangeFits c.args.change c.args.of.now k) c.representation_in.ensures c.in_ok-change_fits.ensures in
    rw c.in_ok-push_three-2.ensures (rw c.in_ok-push_four.ensures (rw c.in_ok-push_three.ensures (rw c.count.ensures
    (modify_place_plan _ (items_of c.args.worklist.now) c.args.config.now c.args.at c.args.of.now c.args.read.now c.args.write.now parts c.args.change (expr_of c.args.right.now) c.args.gives
    (wanted 0 c.in_ok-writing.writing) _ lies.many
    (λ h. record { present = changes.present; few = lies.few; writes = c.in_ok-writing.ensures.fits.by (representations parts) h })
    (c.in_ok-reading.ensures.fits.by (representations parts) (parts_counted c.args.parts.now ∙ sym c.len.ensures) c.in_ok-place.ensures.wants) changes))))

pub returns-clause-sound : goal.returns-clause-sound
returns-clause-sound c = rw c.in_ok-push_three-2.ensures (rw c.in_ok-push_four.ensures (rw c.in_ok-push_three.ensures (instead _ _ _ _
    (λ allow of s.
    let funs = known allow (program_of c.args.program.now) in
    let ofs = types_of (exprs_of (map expr_of c.args.parts.now)) in
    let law = c.names_of_members.ensures.forms in
    let names = changes_name c.args.change c.args.of.now _ s.0.2 in (
      (s.0.0, c.in_ok-below.ensures.wants),
      (applies_spell law funs c.args.read.now ofs c.args.of.now s.0.4, (names.before, (s.0.1, (names.after, (writes_spell law funs c.args.write.now ofs c.args.of.now s.0.5, s.1))))),
    )) refl)))

pub returns-in_err-change_fits-clause-sound : goal.returns-in_err-change_fits-clause-sound
returns-in_err-change_fits-clause-sound c = never _ _ _ _ _ _
    (λ allow of s. c.in_err-change_fits.ensures (subst (λ (k : Representation). ChangeFits c.args.change c.args.of.now k) (sym c.representation_in.ensures) (changes_fit c.args.change c.args.of.now _ s.0.2)))

pub returns-in_err-reading-clause-sound : goal.returns-in_err-reading-clause-sound
returns-in_err-reading-clause-sound c =
    let p = err_from_is_err_and c.from_residual-in_err-reading.result c.from_residual-in_err-reading.ensures.1 in
    rw p.1 (record {
      by = λ allow s. p.2 ∙ c.in_err-reading.ensures.total.by allow (types_of (exprs_of (map expr_of c.args.parts.now))) (types_counted c.args.parts.now ∙ sym c.len.ensures) s.agree.0.4;
    })

pub returns-in_err-writing-clause-sound : goal.returns-in_err-writing-clause-sound
returns-in_err-writing-clause-sound c =
    let p = err_from_is_err_and c.from_residual-in_err-writing.result c.from_residual-in_err-writing.ensures.1 in
    rw p.1 (record { by = λ allow s. p.2 ∙ c.in_err-writing.ensures.total.by allow (types_of (exprs_of (map expr_of c.args.parts.now))) s.agree.0.5 })

pub returns-in_err-place-clause-sound : goal.returns-in_err-place-clause-sound
returns-in_err-place-clause-sound c = never _ _ _ _ _ _
    (λ allow of s.
    let parts = exprs_of (map expr_of c.args.parts.now) in
    c.in_err-place.ensures (few_parts parts s.0.3)
    (parts_want parts (wanted 0 c.in_ok-reading.reading) (c.in_ok-reading.ensures.total.by allow (types_of parts) (types_counted c.args.parts.now ∙ sym c.len.ensures) s.0.4)))

pub returns-in_err-below-clause-sound : goal.returns-in_err-below-clause-sound
returns-in_err-below-clause-sound c = never _ _ _ _ _ _
    (λ allow of s.
    let parts = exprs_of (map expr_of c.args.parts.now) in
    c.in_err-below.ensures (few_parts parts s.0.3) (parts_want parts (wanted 0 c.in_ok-writing.writing) (c.in_ok-writing.ensures.total.by allow (types_of parts) s.0.5)))

pub returns-clause-falls : goal.returns-clause-falls
returns-clause-falls c = rw c.in_ok-push_three-2.ensures (rw c.in_ok-push_four.ensures (rw c.in_ok-push_three.ensures (omega arith)))
