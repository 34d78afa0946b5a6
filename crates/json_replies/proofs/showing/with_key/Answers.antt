use Rattle.json_replies.proofs.Shown.{key_put}
use Rattle.json_replies.proofs.showing.with_key.Goals as goal

pub returns-in_ok-insert-in-Object : goal.returns-in_ok-insert-in-Object
returns-in_ok-insert-in-Object c =
    key_put c.args.reply c.args.value c.in-Object.members c.insert.new.self c.in_ok-from_str-in-Object.field-0 c.args.key.now c.in-Object.is c.in_ok-insert-in-Object.ensures.entries
    c.in_ok-from_str-in-Object.ensures.ok
