-- The refusals. The first twenty are the rules that a script may break.
use Rattle.std.specs.Prelude.{ℕ, ◌-◌, List, [], ◌∷◌, codes, map, slice_index_or}
use Rattle.pl_types.specs.declared.rules.TheConstants.{BAD_TOKEN, SYNTAX, NESTING_DEEP, UNKNOWN_VARIABLE, ALREADY_DEFINED, UNKNOWN_TYPE, UNKNOWN_MEMBER, UNKNOWN_FUNCTION, BAD_CAST, BAD_OPERAND, NOT_A_STATEMENT, UNREACHABLE, MISSING_RETURN, BAD_JUMP, NOT_ASSIGNABLE, BAD_FUNCTION_VALUE, BAD_NULLABLE, LITERAL_RANGE, OUT_OF_PROFILE, TOO_LARGE, JOB_SYNTAX, JOB_FIELD, ALLOW_SYNTAX, ALLOW_UNKNOWN, LIMIT_RANGE, MAPPING_BAD, LISTING_SYNTAX, LISTING_VERSION, BAD_SHAPE, BAD_TARGET, BAD_MEMBER, BACK_JUMP, PIPELINE_BAD, FUNCTIONS_BAD}

-- Each refusal, in order: its number, the constant of the code that names it, and its name.
abbrev pub refusal_rows : List (ℕ × ℕ × List ℕ)
refusal_rows =
    (1, BAD_TOKEN, codes "BadToken")
    ∷ (2, SYNTAX, codes "Syntax")
    ∷ (3, NESTING_DEEP, codes "NestingDeep")
    ∷ (4, UNKNOWN_VARIABLE, codes "UnknownVariable")
    ∷ (5, ALREADY_DEFINED, codes "AlreadyDefined")
    ∷ (6, UNKNOWN_TYPE, codes "UnknownType")
    ∷ (7, UNKNOWN_MEMBER, codes "UnknownMember")
    ∷ (8, UNKNOWN_FUNCTION, codes "UnknownFunction")
    ∷ (9, BAD_CAST, codes "BadCast")
    ∷ (10, BAD_OPERAND, codes "BadOperand")
    ∷ (11, NOT_A_STATEMENT, codes "NotAStatement")
    ∷ (12, UNREACHABLE, codes "Unreachable")
    ∷ (13, MISSING_RETURN, codes "MissingReturn")
    ∷ (14, BAD_JUMP, codes "BadJump")
    ∷ (15, NOT_ASSIGNABLE, codes "NotAssignable")
    ∷ (16, BAD_FUNCTION_VALUE, codes "BadFunctionValue")
    ∷ (17, BAD_NULLABLE, codes "BadNullable")
    ∷ (18, LITERAL_RANGE, codes "LiteralRange")
    ∷ (19, OUT_OF_PROFILE, codes "OutOfProfile")
    ∷ (20, TOO_LARGE, codes "TooLarge")
    ∷ (21, JOB_SYNTAX, codes "JobSyntax")
    ∷ (22, JOB_FIELD, codes "JobField")
    ∷ (23, ALLOW_SYNTAX, codes "AllowSyntax")
    ∷ (24, ALLOW_UNKNOWN, codes "AllowUnknown")
    ∷ (25, LIMIT_RANGE, codes "LimitRange")
    ∷ (26, MAPPING_BAD, codes "MappingBad")
    ∷ (27, LISTING_SYNTAX, codes "ListingSyntax")
    ∷ (28, LISTING_VERSION, codes "ListingVersion")
    ∷ (29, BAD_SHAPE, codes "BadShape")
    ∷ (30, BAD_TARGET, codes "BadTarget")
    ∷ (31, BAD_MEMBER, codes "BadMember")
    ∷ (32, BACK_JUMP, codes "BackJump")
    ∷ (33, PIPELINE_BAD, codes "PipelineBad")
    ∷ (34, FUNCTIONS_BAD, codes "FunctionsBad")
    ∷ []

unfoldable pub rule_names : List (List ℕ)
rule_names = map (λ (row : ℕ × ℕ × List ℕ). row.2) refusal_rows

-- The name of a refusal, by its number.
unfoldable pub rule_name : ℕ → List ℕ
rule_name number = slice_index_or rule_names (number - 1) []
