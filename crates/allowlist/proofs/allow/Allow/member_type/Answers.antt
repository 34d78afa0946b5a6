use Rattle.std.proofs.Common.{◌≡◌, ◌<◌, ℕ, List, length, get_or, sym, ap, ◌∙◌, arith}
use Rattle.std.proofs.lemmas.Option.{slice_get_read}
use Rattle.allowlist.specs.declared.member.MemberType.{MemberType}
use Rattle.allowlist.specs.Allow.{AllowList}
use Rattle.allowlist.specs.Catalogue.{catalogue}
use Rattle.allowlist.proofs.Tables.{length-catalogue}
use Rattle.allowlist.proofs.allow.Allow.member_type.Goals as goal

-- a number below how many the list knows
below : (inside now : AllowList) (n : ℕ) → inside ≡ now → length inside.members ≡ 228 → n < length now.members → n < 228
below inside now n is whole h = omega (arith, ap (λ (a : AllowList). length a.members) is, whole, h)

pub index-requires : goal.index-requires
index-requires c = omega (arith, c.self.inside.types.ok.0, ap length c.self.invariant.2, length-catalogue, below _ _ c.args.member c.self.view_is c.self.invariant.1 c.requires)

pub returns : goal.returns
returns c =
    let read : c.index.result.now ≡ get_or catalogue c.args.member c.index.result.now =
    c.index.ensures ∙ ap (λ (xs : List MemberType). get_or xs c.args.member c.index.result.now) c.self.invariant.2 in
    slice_get_read catalogue 228 c.args.member c.index.result.now (sym length-catalogue) (below _ _ c.args.member c.self.view_is c.self.invariant.1 c.requires) read
