use Rattle.std.proofs.Common.{refl, sym, ◌∙◌, arith}
use Rattle.std.proofs.lemmas.Result.{err_from_is_err_and}
use Rattle.std.specs.Prelude.{map}
use Rattle.source_meaning.specs.Programs.{program_of, expr_of, exprs_of}
use Rattle.program_typing.specs.Agreeing.{known, types_of}
use Rattle.compiler_relation.specs.Stands.{representations}
use Rattle.codegen.specs.Worklist.{items_of, wanted}
use Rattle.codegen.proofs.Wanting.{applies_spell, parts_want}
use Rattle.codegen.proofs.Parts.{parts_counted, types_counted}
use Rattle.codegen.proofs.Plans.{apply_plan}
use Rattle.codegen.proofs.Steps.{instead}
use Rattle.codegen.proofs.expressions.apply.Goals as goal

pub returns-clause-back : goal.returns-clause-back
returns-clause-back c =
    let parts = exprs_of (map expr_of c.args.parts.now) in
    rw c.in_ok-push_two.ensures
    (apply_plan _ (items_of c.args.worklist.now) c.args.config.now c.args.at c.args.of.now c.args.does.now parts (wanted 0 c.in_ok-wanted.wanted) _
    (c.in_ok-count.ensures ∙ c.len-2.ensures ∙ sym (parts_counted c.args.parts.now))
    (λ h. c.in_ok-wanted.ensures.fits.by (representations parts) (parts_counted c.args.parts.now ∙ sym c.len.ensures) h))

pub returns-clause-sound : goal.returns-clause-sound
returns-clause-sound c = rw c.in_ok-push_two.ensures (instead _ _ _ _
    (λ allow of s.
    let funs = known allow (program_of c.args.program.now) in
    let parts = exprs_of (map expr_of c.args.parts.now) in
    let ofs = types_of parts in (
      (s.0.0, parts_want parts (wanted 0 c.in_ok-wanted.wanted) (c.in_ok-wanted.ensures.total.by allow ofs (types_counted c.args.parts.now ∙ sym c.len.ensures) s.0.1)),
      (applies_spell c.names_of_members.ensures.forms funs c.args.does.now ofs c.args.of.now s.0.1, s.1),
    )) refl)

pub returns-in_err-wanted-clause-sound : goal.returns-in_err-wanted-clause-sound
returns-in_err-wanted-clause-sound c =
    let p = err_from_is_err_and c.from_residual.result c.from_residual.ensures.1 in
    rw p.1 (record {
      by = λ allow s.
          let parts = exprs_of (map expr_of c.args.parts.now) in
          p.2 ∙ c.in_err-wanted.ensures.total.by allow (types_of parts) (types_counted c.args.parts.now ∙ sym c.len.ensures) s.agree.0.1;
    })

pub returns-clause-falls : goal.returns-clause-falls
returns-clause-falls c = rw c.in_ok-push_two.ensures (omega arith)
