use Rattle.serde_json.proofs.Views.{members_view-insert_entry}
use Rattle.std.proofs.Common.{refl}
use Rattle.json_bridge.proofs.Naming.{fresh}
use Rattle.json_bridge.proofs.names.put.Goals as goal

pub returns-clause-new : goal.returns-clause-new
returns-clause-new c names h =
    rw c.in-Str.is (fresh c.args.members.now.entries names c.in_ok-name.name c.in-Str.text _ _ c.in_ok-name.ensures h c.in_ok-before.ensures.old c.is_none-is_new.ensures)

pub returns-clause-members : goal.returns-clause-members
returns-clause-members c is =
    rw (c.in-Str.is, c.in_ok-before.ensures.entries, members_view-insert_entry c.args.members.now.entries c.in_ok-name.name c.args.json, c.in_ok-name.ensures) refl
