-- The items of the code, as plain data.
use Rattle.std.specs.Prelude.{◌≡◌, List, [], ◌∷◌, Option, Some, None}
use Rattle.typing_worklist.specs.declared.item.ExpressionItem.{ExpressionItem}
use Rattle.typing_worklist.specs.declared.item.ExpressionItem.TheVariants as e
use Rattle.typing_worklist.specs.declared.item.WordItem.{WordItem}
use Rattle.typing_worklist.specs.declared.item.WordItem.TheVariants as w
use Rattle.typing_worklist.specs.declared.item.StatementItem.{StatementItem}
use Rattle.typing_worklist.specs.declared.item.StatementItem.TheVariants as s
use Rattle.typing_worklist.specs.declared.item.LoopItem.{LoopItem}
use Rattle.typing_worklist.specs.declared.item.LoopItem.TheVariants as l
use Rattle.typing_worklist.specs.declared.item.DeclarationItem.{DeclarationItem}
use Rattle.typing_worklist.specs.declared.item.DeclarationItem.TheVariants as d
use Rattle.typing_worklist.specs.declared.item.BindingItem.{BindingItem}
use Rattle.typing_worklist.specs.declared.item.BindingItem.TheVariants as b
use Rattle.typing_worklist.specs.declared.item.CatchItem.{CatchItem}
use Rattle.typing_worklist.specs.declared.item.CatchItem.TheVariants as k
use Rattle.typing_worklist.specs.declared.item.UnbuiltItem.{UnbuiltItem}
use Rattle.typing_worklist.specs.declared.item.UnbuiltItem.TheVariants as u
use Rattle.typing_worklist.specs.declared.item.WorkItem.{WorkItem}
use Rattle.typing_worklist.specs.declared.item.WorkItem.TheVariants as t
use Rattle.typing_worklist.specs.Item as j
use Rattle.typing_worklist.specs.Item.{Item}

abbrev pub expression_item : ExpressionItem → Item
expression_item (e.Value x) = j.Value x.now
expression_item (e.Negated x minus) = j.Negated x.now minus
expression_item (e.Target x by) = j.Target x.now by
expression_item (e.Given x) = j.Given x.now
expression_item (e.Arguments all i) = j.Arguments all.now i
expression_item (e.Call at name all) = j.Call at name.now all.now
expression_item (e.Method at access name all) = j.Method at access name.now all.now
expression_item (e.Static at access of name all) = j.Static at access of.now name.now all.now
expression_item (e.New at of all) = j.New at of.now all.now
expression_item (e.Values all i) = j.Values all.now i
expression_item (e.Entries all i) = j.Entries all.now i
expression_item (e.List at all) = j.ListOf at all.now
expression_item (e.Map at all) = j.MapOf at all.now
expression_item (e.Array at of all) = j.ArrayOf at of.now all.now
expression_item (e.ArrayWith at of all) = j.ArrayWith at of.now all.now

abbrev pub word_item : WordItem → Item
word_item (w.Called at name height) = j.Called at name.now height
word_item (w.Integer at spelling) = j.Integer at spelling.now
word_item (w.NegatedInteger minus at spelling) = j.NegatedInteger minus at spelling.now
word_item (w.Text at spelling) = j.Text at spelling.now
word_item (w.Name at spelling) = j.Name at spelling.now
word_item (w.Written at spelling) = j.Written at spelling.now
word_item (w.TypeOf of) = j.TypeOf of.now
word_item (w.Asked at of) = j.Asked at of.now
word_item (w.InstanceOf at of) = j.InstanceOf at of.now
word_item (w.MethodCalled at access name height) = j.MethodCalled at access name.now height
word_item (w.StaticCalled at access of name height) = j.StaticCalled at access of.now name.now height
word_item (w.Made at of height) = j.Made at of.now height
word_item (w.Read at access name) = j.Read at access name.now
word_item (w.Numbered at access digits) = j.Numbered at access digits.now
word_item (w.Indexed at) = j.Indexed at
word_item (w.ArrayMade at of height) = j.ArrayMade at of.now height
word_item (w.ArrayFilled at of height) = j.ArrayFilled at of.now height
word_item (w.WrittenName at by name) = j.WrittenName at by name.now
word_item (w.WrittenNumber at by digits) = j.WrittenNumber at by digits.now
word_item (w.WrittenIndex at by) = j.WrittenIndex at by
word_item (w.Field at access of name) = j.Field at access of.now name.now
word_item (w.Begun x) = j.Begun x.now
word_item (w.Updated x) = j.Updated x.now

abbrev pub binding_item : BindingItem → Item
binding_item (b.CastInitial of) = j.CastInitial of.now
binding_item (b.Declare name of) = j.Declare name.now of.now
binding_item (b.Each at name of) = j.Each at name.now of.now
binding_item (b.EachDef at name) = j.EachDef at name.now
binding_item (b.Named name of) = j.Named name.now of.now
binding_item (b.NamedDef name) = j.NamedDef name.now
binding_item (b.Catching of name) = j.Catching of.now name.now
binding_item (b.Caught at of name) = j.Caught at of.now name.now

abbrev pub statement_item : StatementItem → Item
statement_item (s.One x last) = j.Statement_ x.now last
statement_item (s.Body x) = j.Body_ x.now
statement_item (s.Scoped x) = j.Scoped x.now
statement_item (s.Block x) = j.Block_ x.now
statement_item (s.Statements all i in_main after) = j.Statements all.now i in_main after
statement_item (s.Otherwise at x) = j.Otherwise at x.now
statement_item (s.Returned at x) = j.Returned at x.now

abbrev pub loop_item : LoopItem → Item
loop_item (l.Looping x) = j.Looping x.now
loop_item (l.Body x) = j.LoopBody x.now
loop_item (l.Block x) = j.LoopBlock x.now
loop_item (l.For at first condition update body) = j.For at first.now condition.now update.now body.now
loop_item (l.ForParts at first condition update body) = j.ForParts at first.now condition.now update.now body.now
loop_item (l.Each at of name over body) = j.ForEach at of.now name.now over.now body.now
loop_item (l.EachDef at name over body) = j.ForIn at name.now over.now body.now
loop_item (l.FirstIf x) = j.FirstIf x.now
loop_item (l.First x) = j.First_ x.now
loop_item (l.Deed x) = j.Deed x.now
loop_item (l.Condition x) = j.Condition x.now
loop_item (l.UpdateIf x) = j.UpdateIf x.now
loop_item (l.Update x) = j.Update x.now

abbrev pub declaration_item : DeclarationItem → Item
declaration_item (d.Whole x) = j.Declaration_ x.now
declaration_item (d.Variables of all i) = j.Variables of.now all.now i
declaration_item (d.Variable of x) = j.Variable_ of.now x.now
declaration_item (d.Initial of x) = j.Initial of.now x.now

abbrev pub unbuilt_item : UnbuiltItem → Item
unbuilt_item (u.Parameters all i) = j.Parameters all.now i
unbuilt_item (u.Inner x at) = j.UnbuiltInner x.now at

abbrev pub catch_item : CatchItem → Item
catch_item (k.Try at all) = j.Try at all.now
catch_item (k.All all i) = j.Catches all.now i
catch_item (k.One x) = j.Catch_ x.now

abbrev pub item_of : WorkItem → Item
item_of (t.Expression x) = expression_item x
item_of (t.Word x) = word_item x
item_of (t.Binding x) = binding_item x
item_of (t.Do act) = j.Do act
item_of (t.Statement x) = statement_item x
item_of (t.Loop x) = loop_item x
item_of (t.Declaration x) = declaration_item x
item_of (t.DoStatement act) = j.DoStatement act
item_of (t.Catch x) = catch_item x
item_of (t.Unbuilt x) = unbuilt_item x
item_of (t.Reached all i at in_main after) = j.Reached all.now i at in_main after

-- the next item is taken
abbrev pub Pops : Option WorkItem → List Item → List Item → Type 0
Pops None old new = old ≡ []
Pops (Some item) old new = old ≡ item_of item ∷ new
