use Rattle.std.proofs.lemmas.Str.Pattern.{strip_prefix_char, strip_suffix_char}
use Rattle.typing_rules.proofs.Quotes.{between_opened, between_no_front}
use Rattle.typing_rules.proofs.texts.between.Goals as goal

pub returns-in-Some : goal.returns-in-Some
returns-in-Some c =
    let q = c.args.quote in
    let front = rw c.in-Some.is at (strip_prefix_char q c.args.spelling.now c.strip_prefix.result c.strip_prefix.ensures.cases c.requires) in
    between_opened q c.args.spelling.now c.in-Some.opened.now c.strip_suffix.result front
    (strip_suffix_char q c.in-Some.opened.now c.strip_suffix.result c.strip_suffix.ensures.cases c.requires)

pub returns-in-None : goal.returns-in-None
returns-in-None c =
    between_no_front c.args.quote c.args.spelling.now
    (rw c.in-None.is at (strip_prefix_char c.args.quote c.args.spelling.now c.strip_prefix.result c.strip_prefix.ensures.cases c.requires))
