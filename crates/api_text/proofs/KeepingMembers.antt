-- What each member comes to fits the store.
use Rattle.std.proofs.Common.{ℕ, Option, Some, None, List, length, ℤ, slice_get}
use Rattle.std.specs.Prelude.{pos}
use Rattle.object_values.specs.declared.object.Object.{Object}
use Rattle.object_values.specs.declared.value.Value.{Value}
use Rattle.object_heap.specs.Fits.{Rules, AllFit, kinds}
use Rattle.object_heap.specs.Parts.{message_of, units_of}
use Rattle.value_walks.specs.declared.TheConstants.{VISITS}
use Rattle.value_walks.specs.Texts.{text_of}
use Rattle.api_text.specs.declared.outcome.Outcome.TheVariants.{Extends, Makes}
use Rattle.api_text.specs.declared.member.Member.{Member}
use Rattle.api_text.specs.declared.member.Member.TheVariants as m
use Rattle.member_arguments.specs.Arguments.{int_at, object_at, sequence_at, text_at}
use Rattle.api_text.specs.Builders as builders
use Rattle.api_text.specs.Exceptions as exceptions
use Rattle.api_text.specs.Joining as joining
use Rattle.api_text.specs.Making as making
use Rattle.api_text.specs.Members as members
use Rattle.api_text.specs.Sequences as sequences
use Rattle.api_text.specs.Texts as texts
use Rattle.api_text.proofs.Keeping.{OutcomeFits, chars_fit, cut_from_fits, deleted_fits, followed_fits, joined_fits, message_fits, object_there, one_fits, put_fits, rest_fits, same_fits, set_fits, split_fits, three_fit, two_fit, unit_fits}

does_fits : (rules : Rules) (objects : List Object) (member : Member) (arguments : List Value) → AllFit (length objects) arguments → OutcomeFits rules objects (members.does objects member arguments)
does_fits rules objects m.CharAt arguments f = two_fit rules objects sequences.char_of (sequence_at objects arguments 0) (int_at arguments 1) (λ text at e. unit_fits rules objects text at (sequences.unit_in text at))
does_fits rules objects m.Length arguments f = one_fits rules objects sequences.length_of (sequence_at objects arguments 0) (λ text e. tt)
does_fits rules objects m.Join arguments f =
    two_fit rules objects (joining.joined_of objects) (sequence_at objects arguments 0) (object_at arguments 1) (λ between id e. joined_fits rules objects objects (joining.elements_of objects id) (joining.joined between))
does_fits rules objects m.ValueOf arguments f = one_fits {A = Value} rules objects (making.to_text objects) (slice_get arguments 0) (λ value e. followed_fits rules objects (text_of objects value VISITS) Makes (λ text. tt))
does_fits rules objects m.Concat arguments f = two_fit rules objects making.both (text_at arguments 0) (text_at arguments 1) (λ text other e. tt)
does_fits rules objects m.Contains arguments f = two_fit rules objects texts.contains_of (text_at arguments 0) (sequence_at objects arguments 1) (λ text part e. tt)
does_fits rules objects m.EndsWith arguments f = two_fit rules objects texts.ends_of (text_at arguments 0) (text_at arguments 1) (λ text part e. tt)
does_fits rules objects m.EqualsIgnoreCase arguments f = one_fits rules objects (λ text. texts.same_text text (text_at arguments 1)) (text_at arguments 0) (λ text e. same_fits rules objects text (text_at arguments 1))
does_fits rules objects m.IndexOf arguments f = two_fit rules objects texts.place_of (text_at arguments 0) (text_at arguments 1) (λ text part e. tt)
does_fits rules objects m.IndexOfFrom arguments f = three_fit rules objects texts.place_from (text_at arguments 0) (text_at arguments 1) (int_at arguments 2) (λ text part start e. tt)
does_fits rules objects m.IsEmpty arguments f = one_fits rules objects texts.empty_of (text_at arguments 0) (λ text e. tt)
does_fits rules objects m.LastIndexOf arguments f = two_fit rules objects texts.last_place_of (text_at arguments 0) (text_at arguments 1) (λ text part e. tt)
does_fits rules objects m.Replace arguments f = three_fit rules objects making.with_replaced (text_at arguments 0) (sequence_at objects arguments 1) (sequence_at objects arguments 2) (λ text target by e. tt)
does_fits rules objects m.SplitOnToken arguments f = one_fits rules objects (λ text. making.split text (text_at arguments 1) (pos 0)) (text_at arguments 0) (λ text e. split_fits rules objects text (text_at arguments 1) (pos 0))
does_fits rules objects m.SplitOnTokenLimited arguments f =
    two_fit rules objects (λ text limit. making.split text (text_at arguments 1) limit) (text_at arguments 0) (int_at arguments 2) (λ text limit e. split_fits rules objects text (text_at arguments 1) limit)
does_fits rules objects m.StartsWith arguments f = two_fit rules objects texts.starts_of (text_at arguments 0) (text_at arguments 1) (λ text part e. tt)
does_fits rules objects m.StartsWithAt arguments f = three_fit rules objects texts.starts_at_of (text_at arguments 0) (text_at arguments 1) (int_at arguments 2) (λ text part at e. tt)
does_fits rules objects m.SubstringFrom arguments f = two_fit rules objects making.part_from (text_at arguments 0) (int_at arguments 1) (λ text start e. rest_fits rules objects text start (sequences.place_within 0 (length text) start))
does_fits rules objects m.Substring arguments f =
    three_fit rules objects making.part_between (text_at arguments 0) (int_at arguments 1) (int_at arguments 2) (λ text start stop e. cut_from_fits rules objects text start stop (sequences.place_within 0 (length text) start))
does_fits rules objects m.ToCharArray arguments f = one_fits rules objects making.chars_of (text_at arguments 0) (λ text e. chars_fit rules.typed (kinds objects) (length (kinds objects)) text)
does_fits rules objects m.ToLowerCase arguments f = one_fits rules objects making.lowered (text_at arguments 0) (λ text e. tt)
does_fits rules objects m.ToUpperCase arguments f = one_fits rules objects making.raised (text_at arguments 0) (λ text e. tt)
does_fits rules objects m.Trim arguments f = one_fits rules objects making.trimmed (text_at arguments 0) (λ text e. tt)
does_fits rules objects m.NewBuilder arguments f = tt
does_fits rules objects m.NewBuilderOf arguments f = one_fits rules objects builders.copied (sequence_at objects arguments 0) (λ units e. tt)
does_fits rules objects m.Append arguments f =
    two_fit {A = ℕ} {B = Value} rules objects (builders.appended objects) (object_at arguments 0) (slice_get arguments 1)
    (λ builder value e. followed_fits rules objects (text_of objects value VISITS) (Extends builder) (λ text. object_there (length objects) arguments builder f e))
does_fits rules objects m.DeleteCharAt arguments f =
    two_fit rules objects (builders.deleted objects) (object_at arguments 0) (int_at arguments 1)
    (λ builder at e. deleted_fits rules objects builder (units_of objects builder) at (sequences.place_before (length (units_of objects builder)) at) (object_there (length objects) arguments builder f e))
does_fits rules objects m.BuilderIndexOf arguments f = two_fit rules objects texts.place_of (sequence_at objects arguments 0) (text_at arguments 1) (λ units part e. tt)
does_fits rules objects m.Insert arguments f =
    three_fit {A = ℕ} {B = ℤ} {C = Value} rules objects (builders.inserted objects) (object_at arguments 0) (int_at arguments 1) (slice_get arguments 2)
    (λ builder at value e. followed_fits rules objects (text_of objects value VISITS) (builders.put_at builder (units_of objects builder) at)
    (λ text. put_fits rules objects builder (units_of objects builder) at text (sequences.place_within 0 (length (units_of objects builder)) at) (object_there (length objects) arguments builder f e)))
does_fits rules objects m.SetLength arguments f =
    two_fit rules objects (builders.resized objects) (object_at arguments 0) (int_at arguments 1) (λ builder count e. set_fits rules objects builder (units_of objects builder) count)
does_fits rules objects (m.NewException class) arguments f = tt
does_fits rules objects (m.NewExceptionSaying class) arguments f = tt
does_fits rules objects m.GetMessage arguments f = one_fits rules objects (exceptions.message_in objects) (object_at arguments 0) (λ id e. message_fits rules objects (message_of objects id))

pub found_fits : (rules : Rules) (objects : List Object) (found : Option Member) (arguments : List Value) → AllFit (length objects) arguments → OutcomeFits rules objects (members.does_found objects found arguments)
found_fits rules objects None arguments f = tt
found_fits rules objects (Some member) arguments f = does_fits rules objects member arguments f
