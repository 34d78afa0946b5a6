use Rattle.std.proofs.Common.{drop, sym, ◌∙◌, ap, subst, ◌≤◌, length}
use Rattle.pl_lexer.specs.Bytes.{is_name_byte}
use Rattle.pl_lexer.proofs.Runs.{run_within}
use Rattle.pl_lexer.proofs.Named.{reserved_finds_at, name_leads_at, class_finds}
use Rattle.pl_lexer.proofs.words.word_found.Goals as goal

pub split_at-requires-2 : goal.split_at-requires-2
split_at-requires-2 g c = subst (λ n. n ≤ length c.split_at.result.1.now) (sym c.name_bytes-length.ensures) (run_within is_name_byte c.split_at.result.1.now)

pub returns-in_default : goal.returns-in_default
returns-in_default g c =
    let rest_is = c.split_at.ensures.back ∙ ap (drop c.args.at) c.as_bytes.ensures.value in
    reserved_finds_at _ _ _ _ _ _ c.requires rest_is c.name_bytes-length.ensures c.split_at-2.ensures.front c.reserved.ensures c.in_default.not-Nothing

pub returns-in-Nothing-class_found : goal.returns-in-Nothing-class_found
returns-in-Nothing-class_found g c =
    let rest_is = c.split_at.ensures.back ∙ ap (drop c.args.at) c.as_bytes.ensures.value in
    name_leads_at _ _ _ _ _ c.requires rest_is c.name_bytes-length.ensures c.split_at-2.ensures.front c.in-Nothing.ensures c.in-Nothing-class_found.ensures

pub returns-in_default-class_found : goal.returns-in_default-class_found
returns-in_default-class_found g c = class_finds _ _ c.class_found.result c.in_default-class_found.not-Nothing c.class_found.ensures
