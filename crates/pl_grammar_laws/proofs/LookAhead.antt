-- What the look ahead keeps with one token more, seen by a look at every row.
use Rattle.std.proofs.Common.{◌≡◌, Bool, true, false, not, ◌||◌, refl, subst}
use Rattle.pl_grammar.specs.declared.terminal.Terminal.{Terminal}
use Rattle.pl_grammar.specs.declared.terminal.Terminal.TheVariants as t
use Rattle.pl_grammar.specs.declared.ahead.Seen.{Seen}
use Rattle.pl_grammar.specs.declared.ahead.Seen.TheVariants as s
use Rattle.pl_grammar.specs.Ahead.{sees, is_final}
use Rattle.pl_grammar.specs.Grammar.{Form, Production, functions, statements, three_first, each_of, each_in, declares, expresses, declared, value, cast, plain, argued, lambda, lambdas, reference, typed_param, bare_param}
use Rattle.pl_grammar.specs.Firsts.{allowed, fits, is_declared, is_lambda, is_reference, is_listed, is_function, is_each, is_in, is_cast, is_open}
use Rattle.pl_grammar.proofs.Scan.{sees_final}

-- what declares goes on to declare, and so with lambdas and references
pub declared_stays : (seen : Seen) (m : Terminal) → is_declared seen ≡ true → is_declared (sees seen m) ≡ true
declared_stays s.WordPairs t.LeftBracket e = refl
declared_stays s.WordPairs t.Name e = refl
declared_stays s.WordPairs t.ColonColon e = refl
declared_stays s.WordPairs _ e = refl
declared_stays s.WordPairsOpen t.RightBracket e = refl
declared_stays s.WordPairsOpen _ e = refl
declared_stays s.Typed t.LeftParen e = refl
declared_stays s.Typed t.Colon e = refl
declared_stays s.Typed _ e = refl
declared_stays s.Declared m e = refl
declared_stays s.Function m e = refl
declared_stays s.Each m e = refl
declared_stays s.Reference m e = refl
declared_stays s.Array m e = refl
declared_stays _ m e = absurd cc

abbrev told_argument : Seen → Bool
told_argument seen = is_lambda seen || is_reference seen

pub argument_stays : (seen : Seen) (m : Terminal) → told_argument seen ≡ true → told_argument (sees seen m) ≡ true
argument_stays s.WordPairs t.LeftBracket e = refl
argument_stays s.WordPairs t.Name e = refl
argument_stays s.WordPairs t.ColonColon e = refl
argument_stays s.WordPairs _ e = refl
argument_stays s.WordPairsOpen t.RightBracket e = refl
argument_stays s.WordPairsOpen _ e = refl
argument_stays s.Typed t.LeftParen e = refl
argument_stays s.Typed t.Colon e = refl
argument_stays s.Typed _ e = refl
argument_stays s.Declared m e = refl
argument_stays s.Function m e = refl
argument_stays s.Each m e = refl
argument_stays s.Arrow m e = refl
argument_stays s.Reference m e = refl
argument_stays s.Array m e = refl
argument_stays _ m e = absurd cc

abbrev told_head : Seen → Bool
told_head seen = is_each seen || is_in seen

pub head_stays : (seen : Seen) (m : Terminal) → told_head seen ≡ true → told_head (sees seen m) ≡ true
head_stays s.Each m e = refl
head_stays s.In m e = refl
head_stays _ m e = absurd cc

pub function_stays : (seen : Seen) (m : Terminal) → is_function seen ≡ true → is_function (sees seen m) ≡ true
function_stays s.Function m e = refl
function_stays _ m e = absurd cc

pub each_stays : (seen : Seen) (m : Terminal) → is_each seen ≡ true → is_each (sees seen m) ≡ true
each_stays s.Each m e = refl
each_stays _ m e = absurd cc

pub listed_stays : (seen : Seen) (m : Terminal) → is_listed seen ≡ true → is_listed (sees seen m) ≡ true
listed_stays s.Listed m e = refl
listed_stays _ m e = absurd cc

pub cast_stays : (seen : Seen) (m : Terminal) → is_cast seen ≡ true → is_cast (sees seen m) ≡ true
cast_stays s.Cast m e = refl
cast_stays _ m e = absurd cc

-- what was not told with one token more was not told without it
untold : (P : Seen → Bool) (seen : Seen) (m : Terminal) → (P seen ≡ true → P (sees seen m) ≡ true) → not (P (sees seen m)) ≡ true → not (P seen) ≡ true
untold P seen m stays e = by (P seen) refl
  where
    clash : (b : Bool) → b ≡ true → not b ≡ true → ⊥
    clash true p q = cc
    clash false p q = cc

    by : (b : Bool) → P seen ≡ b → not b ≡ true
    by true is = absurd (clash (P (sees seen m)) (stays is) e)
    by false is = refl

or_open : (P : Seen → Bool) (seen : Seen) (m : Terminal) → P (sees seen m) || is_open (sees seen m) ≡ true → P seen || is_open seen ≡ true
or_open P seen m e = by (is_final seen) refl
  where
    with_true : (b : Bool) → b || true ≡ true
    with_true true = refl
    with_true false = refl

    by : (b : Bool) → is_final seen ≡ b → P seen || is_open seen ≡ true
    by true is = subst (λ (q : Seen). P q || is_open q ≡ true) (sees_final seen m is) e
    by false is = rw is (with_true (P seen))

each_in_back : (terminal : Terminal) (seen : Seen) (m : Terminal) → fits each_in terminal (sees seen m) ≡ true → fits each_in terminal seen ≡ true
each_in_back terminal s.Start m e = refl
each_in_back terminal s.Word m e = refl
each_in_back terminal s.WordOpen t.RightBracket e = absurd cc
each_in_back terminal s.WordOpen _ e = absurd cc
each_in_back terminal s.WordPairs t.LeftBracket e = absurd cc
each_in_back terminal s.WordPairs t.Name e = absurd cc
each_in_back terminal s.WordPairs t.ColonColon e = absurd cc
each_in_back terminal s.WordPairs _ e = absurd cc
each_in_back terminal s.WordPairsOpen t.RightBracket e = absurd cc
each_in_back terminal s.WordPairsOpen _ e = absurd cc
each_in_back terminal s.Known t.LeftBracket e = absurd cc
each_in_back terminal s.Known t.Name e = absurd cc
each_in_back terminal s.Known t.ColonColon e = absurd cc
each_in_back terminal s.Known _ e = absurd cc
each_in_back terminal s.KnownOpen t.RightBracket e = absurd cc
each_in_back terminal s.KnownOpen _ e = absurd cc
each_in_back terminal s.Typed t.LeftParen e = absurd cc
each_in_back terminal s.Typed t.Colon e = absurd cc
each_in_back terminal s.Typed _ e = absurd cc
each_in_back terminal s.Round t.Name e = absurd cc
each_in_back terminal s.Round t.Basic e = absurd cc
each_in_back terminal s.Round t.Class e = absurd cc
each_in_back terminal s.Round t.RightParen e = absurd cc
each_in_back terminal s.Round _ e = absurd cc
each_in_back terminal s.RoundWord t.Name e = absurd cc
each_in_back terminal s.RoundWord t.Comma e = absurd cc
each_in_back terminal s.RoundWord t.RightParen e = absurd cc
each_in_back terminal s.RoundWord t.LeftBracket e = absurd cc
each_in_back terminal s.RoundWord _ e = absurd cc
each_in_back terminal s.RoundWordRound t.Arrow e = absurd cc
each_in_back terminal s.RoundWordRound _ e = absurd cc
each_in_back terminal s.RoundWordOpen t.RightBracket e = absurd cc
each_in_back terminal s.RoundWordOpen _ e = absurd cc
each_in_back terminal s.RoundKnown t.LeftBracket e = absurd cc
each_in_back terminal s.RoundKnown t.Name e = absurd cc
each_in_back terminal s.RoundKnown _ e = absurd cc
each_in_back terminal s.RoundKnownOpen t.RightBracket e = absurd cc
each_in_back terminal s.RoundKnownOpen _ e = absurd cc
each_in_back terminal s.CastStart t.LeftParen e = absurd cc
each_in_back terminal s.CastStart _ e = absurd cc
each_in_back terminal s.CastRound t.Basic e = absurd cc
each_in_back terminal s.CastRound t.Class e = absurd cc
each_in_back terminal s.CastRound _ e = absurd cc
each_in_back terminal s.CastKnown t.LeftBracket e = absurd cc
each_in_back terminal s.CastKnown t.RightParen e = absurd cc
each_in_back terminal s.CastKnown _ e = absurd cc
each_in_back terminal s.CastOpen t.RightBracket e = absurd cc
each_in_back terminal s.CastOpen _ e = absurd cc
each_in_back terminal s.Param t.Name e = absurd cc
each_in_back terminal s.Param _ e = absurd cc
each_in_back terminal s.ParamWord t.Name e = absurd cc
each_in_back terminal s.ParamWord t.LeftBracket e = absurd cc
each_in_back terminal s.ParamWord _ e = absurd cc
each_in_back terminal s.In m e = refl
each_in_back terminal _ m e = absurd cc

reference_back : (terminal : Terminal) (seen : Seen) (m : Terminal) → fits reference terminal (sees seen m) ≡ true → fits reference terminal seen ≡ true
reference_back terminal s.Typed t.LeftParen e = absurd cc
reference_back terminal s.Typed t.Colon e = absurd cc
reference_back terminal s.Typed _ e = absurd cc
reference_back terminal s.Declared m e = absurd cc
reference_back terminal s.Function m e = absurd cc
reference_back terminal s.Each m e = absurd cc
reference_back terminal s.In m e = absurd cc
reference_back terminal s.Arrow m e = absurd cc
reference_back terminal s.Array m e = absurd cc
reference_back terminal s.Listed m e = absurd cc
reference_back terminal s.Cast m e = absurd cc
reference_back terminal s.Other m e = absurd cc
reference_back terminal s.Reference m e = refl
reference_back terminal _ m e = refl

pub allowed_back : {f : Form} (p : Production f) (terminal : Terminal) (seen : Seen) (m : Terminal) → allowed p terminal (sees seen m) ≡ true → allowed p terminal seen ≡ true
allowed_back statements t.Name seen m e = untold is_function seen m (function_stays seen m) e
allowed_back statements t.Basic seen m e = untold is_function seen m (function_stays seen m) e
allowed_back statements t.Class seen m e = untold is_function seen m (function_stays seen m) e
allowed_back statements _ seen m e = refl
allowed_back three_first t.Name seen m e = untold told_head seen m (head_stays seen m) e
allowed_back three_first t.Basic seen m e = untold is_each seen m (each_stays seen m) e
allowed_back three_first t.Class seen m e = untold is_each seen m (each_stays seen m) e
allowed_back three_first _ seen m e = refl
allowed_back expresses t.Name seen m e = untold is_declared seen m (declared_stays seen m) e
allowed_back expresses t.Basic seen m e = untold is_declared seen m (declared_stays seen m) e
allowed_back expresses t.Class seen m e = untold is_declared seen m (declared_stays seen m) e
allowed_back expresses _ seen m e = refl
allowed_back value t.Name seen m e = untold is_declared seen m (declared_stays seen m) e
allowed_back value t.Basic seen m e = untold is_declared seen m (declared_stays seen m) e
allowed_back value t.Class seen m e = untold is_declared seen m (declared_stays seen m) e
allowed_back value _ seen m e = refl
allowed_back argued t.Name seen m e = untold told_argument seen m (argument_stays seen m) e
allowed_back argued t.Basic seen m e = untold told_argument seen m (argument_stays seen m) e
allowed_back argued t.Class seen m e = untold told_argument seen m (argument_stays seen m) e
allowed_back argued t.LeftParen seen m e = untold is_listed seen m (listed_stays seen m) e
allowed_back argued _ seen m e = refl
allowed_back bare_param t.Name seen m e = untold is_declared seen m (declared_stays seen m) e
allowed_back bare_param _ seen m e = refl
allowed_back plain t.LeftParen seen m e = untold is_cast seen m (cast_stays seen m) e
allowed_back plain _ seen m e = refl
allowed_back _ terminal seen m e = refl

-- what fits with one token more fits without it
pub fits_back : {f : Form} (p : Production f) (terminal : Terminal) (seen : Seen) (m : Terminal) → fits p terminal (sees seen m) ≡ true → fits p terminal seen ≡ true
fits_back functions terminal seen m e = or_open is_function seen m e
fits_back each_of terminal seen m e = or_open is_each seen m e
fits_back each_in terminal seen m e = each_in_back terminal seen m e
fits_back declares terminal seen m e = or_open is_declared seen m e
fits_back declared terminal seen m e = or_open is_declared seen m e
fits_back lambda terminal seen m e = or_open is_lambda seen m e
fits_back reference terminal seen m e = reference_back terminal seen m e
fits_back lambdas terminal seen m e = or_open is_listed seen m e
fits_back typed_param t.Name seen m e = or_open is_declared seen m e
fits_back typed_param _ seen m e = refl
fits_back cast terminal seen m e = or_open is_cast seen m e
fits_back statements terminal seen m e = allowed_back statements terminal seen m e
fits_back three_first terminal seen m e = allowed_back three_first terminal seen m e
fits_back expresses terminal seen m e = allowed_back expresses terminal seen m e
fits_back value terminal seen m e = allowed_back value terminal seen m e
fits_back argued terminal seen m e = allowed_back argued terminal seen m e
fits_back bare_param terminal seen m e = allowed_back bare_param terminal seen m e
fits_back plain terminal seen m e = allowed_back plain terminal seen m e
fits_back _ terminal seen m e = refl

pub fits_allowed : {f : Form} (p : Production f) (terminal : Terminal) (seen : Seen) → fits p terminal seen ≡ true → allowed p terminal seen ≡ true
fits_allowed statements terminal seen e = e
fits_allowed three_first terminal seen e = e
fits_allowed expresses terminal seen e = e
fits_allowed value terminal seen e = e
fits_allowed argued terminal seen e = e
fits_allowed bare_param terminal seen e = e
fits_allowed plain terminal seen e = e
fits_allowed _ terminal seen e = refl
