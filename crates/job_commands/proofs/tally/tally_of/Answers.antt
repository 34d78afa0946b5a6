-- Each document is counted once.
use Rattle.std.proofs.Common.{◌≡◌, ℕ, suc, ◌+◌, ◌-◌, sym, ap, ◌∙◌, subst, arith}
use Rattle.document_replies.specs.Jobs.{by_start}
use Rattle.document_replies.specs.Searches.{documents_of}
use Rattle.job_commands.specs.Preparing.{EndsAsItsProgram}
use Rattle.job_commands.specs.declared.answer.Answer.{Answer}
use Rattle.job_commands.specs.declared.tally.Tally.{Tally}
use Rattle.job_commands.specs.Answers.{IsAnswer}
use Rattle.job_commands.specs.Summaries.{counted}
use Rattle.job_commands.proofs.Tallying.{CountsOn, counts_first, counts_next, counts_all, counted_once}
use Rattle.job_commands.proofs.tally.tally_of.Goals as goal

pub documents-init : goal.documents-init
documents-init c =
    let Is : ℕ → Answer → Type 0 = IsAnswer (documents_of c.args.job.now.context) (by_start (EndsAsItsProgram c.args.job.now.script)) in
    let same = c.nothing_counted-tally.ensures in
    let errors : c.nothing_counted-tally.result.errors ≡ 0 = ap (λ (t : Tally). t.errors) same in
    let ok : c.nothing_counted-tally.result.ok ≡ 0 = ap (λ (t : Tally). t.ok) same in
    let all : c.args.count - 0 ≡ c.args.count = omega arith in
    record { counts = subst (λ (t : Tally). CountsOn Is c.args.count (c.args.count - 0) 0 t) (sym same) (counts_first Is c.args.count (c.args.count - 0) all); few = omega (arith, errors, ok) }

pub documents-preserved : goal.documents-preserved
documents-preserved c =
    let Is : ℕ → Answer → Type 0 = IsAnswer (documents_of c.args.job.now.context) (by_start (EndsAsItsProgram c.args.job.now.script)) in
    let answer = c.in_ok-answer.answer in
    let tally = c.documents.tally in
    let left = c.args.count - c.documents._made in
    let rest = c.args.count - (c.documents._made + 1) in
    let one_less : left ≡ suc rest = omega arith in
    let here = c.following-number.ensures in
    let now = c.counted-tally.ensures in
    let once : c.counted-tally.result.errors + c.counted-tally.result.ok ≡ suc (tally.errors + tally.ok) = ap (λ (t : Tally). t.errors + t.ok) now ∙ counted_once answer tally in
    record {
      counts =
          subst (λ (t : Tally). CountsOn Is c.args.count rest c.following-number.result t) (sym now)
          (subst (λ (x : ℕ). CountsOn Is c.args.count rest x (counted answer tally)) (sym here)
          (counts_next Is c.args.count left rest c.documents.number tally answer one_less c.documents.invariant.counts (subst (λ (x : ℕ). Is x answer) here c.in_ok-answer.ensures)));
      few = omega (arith, once, c.documents.invariant.few);
    }

pub returns : goal.returns
returns c =
    let Is : ℕ → Answer → Type 0 = IsAnswer (documents_of c.args.job.now.context) (by_start (EndsAsItsProgram c.args.job.now.script)) in
    let none : c.args.count - c.documents._made ≡ 0 = omega arith in
    counts_all Is c.args.count (c.args.count - c.documents._made) c.documents.number c.documents.tally none c.documents.invariant.counts
