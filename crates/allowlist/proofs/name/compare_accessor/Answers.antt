use Rattle.std.proofs.Common.{length, sym, ap, ◌∙◌}
use Rattle.std.specs.Cmp.Lexicographic.{slice_cmp}
use Rattle.std.specs.Ordering.{nat_cmp, ordering_then}
use Rattle.std.specs.declared.cmp.Ordering.{Ordering}
use Rattle.allowlist.specs.Accessors.{capitalized}
use Rattle.allowlist.proofs.Comparing.{cmp_shorter, cmp_split}
use Rattle.allowlist.proofs.name.compare_accessor.Goals as goal

pub returns-then-text-prefix : goal.returns-then-text-prefix
returns-then-text-prefix c = c.compare_bytes.ensures ∙ sym (cmp_shorter c.args.text.now c.args.prefix.now (capitalized c.args.property.now) c.if-text-prefix.true)

pub returns : goal.returns
returns c =
    let front = c.split_at.result.0.now in
    let back = c.split_at.result.1.now in
    c.then.ensures
    ∙ ap (λ (o : Ordering). ordering_then o c.compare_capital.result) c.compare_bytes-2.ensures
    ∙ ap (ordering_then (slice_cmp nat_cmp front c.args.prefix.now)) c.compare_capital.ensures
    ∙ cmp_split c.args.text.now front back c.args.prefix.now (capitalized c.args.property.now) (length c.args.prefix.now) c.split_at.ensures.front c.split_at.ensures.back c.split_at.ensures.front_len
