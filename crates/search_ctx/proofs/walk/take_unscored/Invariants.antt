use Rattle.std.proofs.Common.{◌≡◌, []}
use Rattle.serde_json.specs.View.{members_view}
use Rattle.search_ctx.specs.DocValues.{all_taken, found_members}
use Rattle.search_ctx.specs.Lines.{score_key, without}
use Rattle.search_ctx.proofs.walk.take_unscored.Given as goal

abbrev pub invariant-loop-name : goal.invariant-loop-name
invariant-loop-name l =
    all_taken l.initial.doc (found_members l.fields [] (without score_key (members_view l.members.entries)))
    ≡ all_taken l.doc (found_members l.fields [] (without score_key (members_view l.name-iterator)))
