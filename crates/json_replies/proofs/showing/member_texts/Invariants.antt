-- The texts that are made, and behind them those of the members that are left, are the texts of all.
use Rattle.std.proofs.Common.{◌≡◌, ◌++◌, drop, map}
use Rattle.serde_json.specs.View.{view}
use Rattle.json_replies.proofs.Shown.{text_data}
use Rattle.json_replies.proofs.showing.member_texts.Given as goal

abbrev pub invariant-loop-number : goal.invariant-loop-number
invariant-loop-number l = map view l.texts.items ++ map (text_data l.allow) (drop l.number-index l.reached) ≡ map (text_data l.allow) l.reached
