-- What each member comes to, and their numbers.
use Rattle.std.specs.Prelude.{ℕ, ◌-◌, nat_lt, Bool, true, false, Option, Some, None, List, [], ◌∷◌, slice_get, if◌then◌else◌}
use Rattle.object_values.specs.declared.object.Object.{Object}
use Rattle.object_values.specs.declared.value.Value.{Value}
use Rattle.api_text.specs.declared.member.Member.{Member}
use Rattle.api_text.specs.declared.member.Member.TheVariants as m
use Rattle.api_text.specs.declared.outcome.ExceptionClass.TheVariants as class
use Rattle.api_text.specs.declared.outcome.Outcome.{Outcome}
use Rattle.api_text.specs.Builders as builders
use Rattle.api_text.specs.Exceptions as exceptions
use Rattle.api_text.specs.Joining as joining
use Rattle.api_text.specs.Making as making
use Rattle.api_text.specs.Outcomes.{nothing}
use Rattle.api_text.specs.Sequences as sequences
use Rattle.api_text.specs.Texts as texts

-- what a member comes to
abbrev pub does : List Object → Member → List Value → Outcome
does objects m.CharAt arguments = sequences.char_at objects arguments
does objects m.Length arguments = sequences.sequence_length objects arguments
does objects m.Join arguments = joining.join objects arguments
does objects m.ValueOf arguments = making.value_of objects arguments
does objects m.Concat arguments = making.concat objects arguments
does objects m.Contains arguments = texts.contains objects arguments
does objects m.EndsWith arguments = texts.ends_with objects arguments
does objects m.EqualsIgnoreCase arguments = texts.equals_ignore_case objects arguments
does objects m.IndexOf arguments = texts.index_of objects arguments
does objects m.IndexOfFrom arguments = texts.index_of_from objects arguments
does objects m.IsEmpty arguments = texts.is_empty objects arguments
does objects m.LastIndexOf arguments = texts.last_index_of objects arguments
does objects m.Replace arguments = making.replace objects arguments
does objects m.SplitOnToken arguments = making.split_on_token objects arguments
does objects m.SplitOnTokenLimited arguments = making.split_on_token_limited objects arguments
does objects m.StartsWith arguments = texts.starts_with objects arguments
does objects m.StartsWithAt arguments = texts.starts_with_at objects arguments
does objects m.SubstringFrom arguments = making.substring_from objects arguments
does objects m.Substring arguments = making.substring objects arguments
does objects m.ToCharArray arguments = making.to_char_array objects arguments
does objects m.ToLowerCase arguments = making.to_lower_case objects arguments
does objects m.ToUpperCase arguments = making.to_upper_case objects arguments
does objects m.Trim arguments = making.trim objects arguments
does objects m.NewBuilder arguments = builders.new_builder objects arguments
does objects m.NewBuilderOf arguments = builders.new_builder_of objects arguments
does objects m.Append arguments = builders.append objects arguments
does objects m.DeleteCharAt arguments = builders.delete_char_at objects arguments
does objects m.BuilderIndexOf arguments = builders.builder_index_of objects arguments
does objects m.Insert arguments = builders.insert objects arguments
does objects m.SetLength arguments = builders.set_length objects arguments
does objects (m.NewException class) arguments = exceptions.new_exception class
does objects (m.NewExceptionSaying class) arguments = exceptions.new_exception_saying class arguments
does objects m.GetMessage arguments = exceptions.get_message objects arguments

-- those that change a builder
abbrev pub changes_builder : Member → Bool
changes_builder m.Append = true
changes_builder m.DeleteCharAt = true
changes_builder m.Insert = true
changes_builder m.SetLength = true
changes_builder member = false

-- The members in the order of their numbers in the catalogue: those of CharSequence from 3, those of String and StringBuilder from
-- 58, and those of exceptions from 194
unfoldable pub of_sequences : List Member
of_sequences = m.CharAt ∷ m.Length ∷ []

unfoldable pub of_texts : List Member
of_texts =
    m.Join ∷ m.ValueOf ∷ m.Concat ∷ m.Contains ∷ m.EndsWith ∷ m.EqualsIgnoreCase ∷ m.IndexOf ∷ m.IndexOfFrom ∷ m.IsEmpty ∷ m.LastIndexOf
    ∷ m.Replace ∷ m.SplitOnToken ∷ m.SplitOnTokenLimited ∷ m.StartsWith ∷ m.StartsWithAt ∷ m.SubstringFrom ∷ m.Substring
    ∷ m.ToCharArray ∷ m.ToLowerCase ∷ m.ToUpperCase ∷ m.Trim
    ∷ m.NewBuilder ∷ m.NewBuilderOf ∷ m.Append ∷ m.DeleteCharAt ∷ m.BuilderIndexOf ∷ m.Insert ∷ m.SetLength
    ∷ []

unfoldable pub of_exceptions : List Member
of_exceptions =
    m.NewException class.Exception ∷ m.NewExceptionSaying class.Exception ∷ m.GetMessage
    ∷ m.NewException class.Runtime ∷ m.NewExceptionSaying class.Runtime
    ∷ m.NewException class.Arithmetic ∷ m.NewExceptionSaying class.Arithmetic
    ∷ m.NewException class.ClassCast ∷ m.NewExceptionSaying class.ClassCast
    ∷ m.NewException class.ConcurrentModification ∷ m.NewExceptionSaying class.ConcurrentModification
    ∷ m.NewException class.IllegalArgument ∷ m.NewExceptionSaying class.IllegalArgument
    ∷ m.NewException class.IllegalState ∷ m.NewExceptionSaying class.IllegalState
    ∷ m.NewException class.IndexOutOfBounds ∷ m.NewExceptionSaying class.IndexOutOfBounds
    ∷ m.NewException class.NegativeArraySize ∷ m.NewExceptionSaying class.NegativeArraySize
    ∷ m.NewException class.NoSuchElement ∷ m.NewExceptionSaying class.NoSuchElement
    ∷ m.NewException class.NullPointer ∷ m.NewExceptionSaying class.NullPointer
    ∷ m.NewException class.UnsupportedOperation ∷ m.NewExceptionSaying class.UnsupportedOperation
    ∷ m.NewException class.NumberFormat ∷ m.NewExceptionSaying class.NumberFormat
    ∷ m.NewException class.ArrayIndexOutOfBounds ∷ m.NewExceptionSaying class.ArrayIndexOutOfBounds
    ∷ m.NewException class.StringIndexOutOfBounds ∷ m.NewExceptionSaying class.StringIndexOutOfBounds
    ∷ []

-- the member of a number, if it is one of these
unfoldable pub numbered : ℕ → Option Member
numbered number =
    if nat_lt number 3 then None
    else (if nat_lt number 58 then slice_get of_sequences (number - 3)
    else (if nat_lt number 194 then slice_get of_texts (number - 58)
    else slice_get of_exceptions (number - 194)))

abbrev pub does_found : List Object → Option Member → List Value → Outcome
does_found objects None arguments = nothing
does_found objects (Some member) arguments = does objects member arguments

-- what the member of a number comes to; any other number's is nothing
abbrev pub does_numbered : List Object → ℕ → List Value → Outcome
does_numbered objects number arguments = does_found objects (numbered number) arguments
