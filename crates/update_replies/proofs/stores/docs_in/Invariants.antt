use Rattle.std.proofs.Common.{◌≡◌, ◌++◌, map}
use Rattle.serde_json.specs.View.{members_view}
use Rattle.update_store.specs.Documents.{doc_view}
use Rattle.update_replies.specs.Stores.{docs_in}
use Rattle.update_replies.proofs.stores.docs_in.Given as goal

-- the documents so far, and those of the members that are left, are all
abbrev pub invariant-loop-id : goal.invariant-loop-id
invariant-loop-id l = map doc_view l.docs.items ++ docs_in (members_view l.id-iterator) ≡ docs_in (members_view l.members.entries)
