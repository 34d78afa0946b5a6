-- The constructors of exceptions, and getMessage.
use Rattle.std.specs.Prelude.{ℕ, Option, Some, None, List}
use Rattle.object_values.specs.declared.object.Object.{Object}
use Rattle.object_values.specs.declared.value.Value.{Value}
use Rattle.object_values.specs.declared.value.Value.TheVariants as v
use Rattle.object_heap.specs.Parts.{message_of}
use Rattle.api_text.specs.declared.outcome.ExceptionClass.{ExceptionClass}
use Rattle.api_text.specs.declared.outcome.Outcome.{Outcome}
use Rattle.api_text.specs.declared.outcome.Outcome.TheVariants.{Gives, Makes, NewException}
use Rattle.member_arguments.specs.Arguments.{object_at, text_at}
use Rattle.api_text.specs.Arguments.{with_one}

-- without a message
abbrev pub new_exception : ExceptionClass → Outcome
new_exception class = NewException class None

-- with a message; null is none
abbrev pub new_exception_saying : ExceptionClass → List Value → Outcome
new_exception_saying class arguments = NewException class (text_at arguments 0)

-- a message is made as any text that a member gives; where there is none it is null
abbrev pub message_given : Option (List ℕ) → Outcome
message_given None = Gives v.Null
message_given (Some message) = Makes message

abbrev pub message_in : List Object → ℕ → Outcome
message_in objects id = message_given (message_of objects id)

-- getMessage
abbrev pub get_message : List Object → List Value → Outcome
get_message objects arguments = with_one (message_in objects) (object_at arguments 0)
