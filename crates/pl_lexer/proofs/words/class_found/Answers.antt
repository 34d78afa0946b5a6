use Rattle.std.proofs.Common.{◌≡◌, ◌+◌, drop, take, sym, refl, ap, ◌∙◌, arith, length-drop}
use Rattle.pl_lexer.specs.Lengths.{class_or, dot_word_length}
use Rattle.pl_lexer.proofs.Paths.{none_only, PathTo, first_to_at, next_to_at, last_to, path_ends}
use Rattle.pl_lexer.proofs.words.class_found.Given as given
use Rattle.pl_lexer.proofs.words.class_found.Goals as goal
use Rattle.pl_lexer.proofs.words.class_found.Goals.{In-Some}

pub class_or-best-requires-clause-ends : goal.class_or-best-requires-clause-ends
class_or-best-requires-clause-ends g c =
    let rest = drop c.args.at c.args.text.now in
    let to = first_to_at (g.N.TypeNames.class_of c.args.names.now) rest c.args.first _ c.requires.word c.requires.whole c.requires.name refl in
    path_ends (g.N.TypeNames.class_of c.args.names.now) c.args.text.now c.args.at c.args.first c.utf8.text c.requires.word to.within to.path

pub loop-more-init : goal.loop-more-init
loop-more-init g c = first_to_at _ _ _ _ c.requires.word c.requires.whole c.requires.name c.class_or-best.ensures

-- the next path, once its length is known
to_next : (g : given.Over) (c : In-Some g) → PathTo (g.N.TypeNames.class_of c.args.names.now) (drop c.args.at c.args.text.now) (c.loop-more.length + c.in-Some.more) (class_or c.loop-more.best (g.N.TypeNames.class_of c.args.names.now (take (c.loop-more.length + c.in-Some.more) (drop c.args.at c.args.text.now))) (c.loop-more.length + c.in-Some.more))
to_next g c =
    let rest_is : c.split_at.result.1.now ≡ drop c.args.at c.args.text.now = c.split_at.ensures.back ∙ ap (drop c.args.at) c.as_bytes.ensures.value in
    let behind_is = c.split_at-in-loop-more.ensures.back ∙ ap (drop c.loop-more.length) rest_is in
    next_to_at (g.N.TypeNames.class_of c.args.names.now) (drop c.args.at c.args.text.now) _ c.args.first c.loop-more.length c.in-Some.more c.loop-more.best _ c.requires.word c.requires.whole c.requires.name c.loop-more.invariant behind_is c.in-Some.ensures refl

pub overflow_add-length : goal.overflow_add-length
overflow_add-length g c = let to = to_next g c in omega (arith, to.within, length-drop c.args.at c.args.text.now)

pub class_or-best-requires-in-Some-clause-within : goal.class_or-best-requires-in-Some-clause-within
class_or-best-requires-in-Some-clause-within g c = let to = to_next g (goal.at.class_or-best-requires-in-Some-clause-within g c).In-Some in omega (arith, to.within, length-drop c.args.at c.args.text.now)

pub class_or-best-requires-in-Some-clause-ends : goal.class_or-best-requires-in-Some-clause-ends
class_or-best-requires-in-Some-clause-ends g c =
    let to = to_next g (goal.at.class_or-best-requires-in-Some-clause-ends g c).In-Some in
    path_ends (g.N.TypeNames.class_of c.args.names.now) c.args.text.now c.args.at (c.loop-more.length + c.in-Some.more) c.utf8.text c.requires.word to.within to.path

pub loop-more-preserved : goal.loop-more-preserved
loop-more-preserved g c =
    let to = to_next g (goal.at.loop-more-preserved g c).In-Some in
    rw c.class_or-best-in-Some.ensures to

pub returns : goal.returns
returns g c =
    let rest_is : c.split_at.result.1.now ≡ drop c.args.at c.args.text.now = c.split_at.ensures.back ∙ ap (drop c.args.at) c.as_bytes.ensures.value in
    let behind_is = c.split_at-in-loop-more.ensures.back ∙ ap (drop c.loop-more.length) rest_is in
    last_to (g.N.TypeNames.class_of c.args.names.now) (drop c.args.at c.args.text.now) c.loop-more.length c.loop-more.best c.loop-more.invariant (sym (none_only c.dot_word_length.result c.in_default.not-Some) ∙ c.dot_word_length.ensures ∙ ap dot_word_length behind_is)
