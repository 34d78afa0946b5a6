-- The job's own file is its allowlist.
use Rattle.std.proofs.Common.{◌≡◌, ℕ, false, List, Some, IfSome, refl, sym, subst, rules}
use Rattle.std.specs.Str.{bytes_eq}
use Rattle.std.proofs.lemmas.Slice.Eq.{bytes_eq-Decides}
use Rattle.job_loading.proofs.Found.{list_own}
use Rattle.command_parts.proofs.Asking.{asks_none}
use Rattle.job_loading.specs.Asked.{list_asked}
use Rattle.job_loading.proofs.Asking.{other_asked}
use Rattle.job_loading.proofs.reading.list_named.Goals as goal

pub returns-then-eq-clause-told : goal.returns-then-eq-clause-told
returns-then-eq-clause-told g c =
    let same : c.args.allow.now ≡ c.args.name.now = search (rules, bytes_eq-Decides) in (
      Some c.args.bytes.now,
      subst (λ (name : List ℕ). IfSome (g.F.Files.content c.args.files.now) (λ known. known name ≡ Some c.args.bytes.now)) (sym same) c.requires.shown,
      (λ _. refl),
      list_own c.list_of.result c.args.bytes.now c.requires.short c.list_of.ensures.told,
    )

pub returns-then-eq-clause-asks : goal.returns-then-eq-clause-asks
returns-then-eq-clause-asks g c = asks_none (g.F.Files.asked c.args.files.now) (list_asked c.args.name.now (Some c.args.allow.now))

pub returns-else-eq-clause-asks : goal.returns-else-eq-clause-asks
returns-else-eq-clause-asks g c =
    let other : bytes_eq c.args.allow.now c.args.name.now ≡ false = search (rules, bytes_eq-Decides) in
    other_asked (g.F.Files.asked c.args.files.now) (g.F.Files.asked c.list_read.new.files) c.args.name.now c.args.allow.now other c.list_read.ensures.asks
