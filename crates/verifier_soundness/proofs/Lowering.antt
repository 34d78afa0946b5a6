-- How many instructions a run can still take, and what lowers that.
use Rattle.std.proofs.Common.{◌≡◌, ℕ, zero, suc, ◌+◌, ◌-◌, ◌*◌, ◌<◌, ◌≤◌, max, List, [], ◌∷◌, Option, Some, None, length, refl, sym, ap, ◌∙◌, subst, arith, suc-le-suc, mul-le-mul_right, mul_assoc}
use Rattle.std.specs.Prelude.{slice_get}
use Rattle.object_values.specs.declared.object.Owner.{Owner}
use Rattle.object_values.specs.declared.object.Owner.TheVariants.{Script, Prelude}
use Rattle.pl_code.specs.declared.code.FunCode.{FunCode}
use Rattle.run_state.specs.World.{World, Limits}
use Rattle.code_meaning.specs.Machine.{Codes, Frame, Config, code_in, depth_of}
use Rattle.verifier_soundness.specs.Bounds.{longest, longest_in, most_steps}

abbrev count_of : Option FunCode → ℕ
count_of None = 0
count_of (Some f) = length f.lines

-- how many lines a function has
abbrev pub lines_in : List FunCode → ℕ → ℕ
lines_in code function = count_of (slice_get code function)

pub lines_so : (code : List FunCode) (k : ℕ) (function : FunCode) → slice_get code k ≡ Some function → lines_in code k ≡ length function.lines
lines_so code k function e = ap count_of e

-- the lines of a function from one on
abbrev pub lines_from : List FunCode → ℕ → ℕ → ℕ
lines_from code function line = lines_in code function - line

-- the lines that the frames below have before them, when they go on behind their calls
abbrev pub lines_below : Codes → List Frame → ℕ
lines_below codes [] = 0
lines_below codes (f ∷ fs) = lines_from (code_in codes f.text) f.fun (suc f.line) + lines_below codes fs

-- what a tick is worth: all lines of all frames
abbrev pub tick_worth : Codes → Limits → ℕ
tick_worth codes limits = suc limits.depth * longest_in codes

-- what is left with these ticks, of so many lines in a function behind a line, and below it
abbrev pub weight : (worth ticks lines line under : ℕ) → ℕ
weight worth ticks lines line under = ticks * worth + ((lines - line) + under)

-- the most instructions that are left
abbrev pub left_at : Codes → Limits → Frame → List Frame → World → ℕ
left_at codes limits f below w = weight (tick_worth codes limits) w.ticks (lines_in (code_in codes f.text) f.fun) f.line (lines_below codes below)

abbrev pub left_of : Codes → Limits → Config → ℕ
left_of codes limits c = left_at codes limits c.top c.below c.world

-- ---- what lowers it

plus_less : (p a b : ℕ) → a < b → p + a < p + b
plus_less p a b h = omega arith

lines_less : (lines line to under : ℕ) → line < lines → line < to → (lines - to) + under < (lines - line) + under
lines_less lines line to under within later = omega arith

-- a later line
pub later_is_less : (worth ticks after lines line to under : ℕ) → after ≡ ticks → line < lines → line < to → weight worth after lines to under < weight worth ticks lines line under
later_is_less worth ticks after lines line to under same within later =
    subst (λ t. weight worth t lines to under < weight worth ticks lines line under) (sym same)
    (plus_less (ticks * worth) ((lines - to) + under) ((lines - line) + under) (lines_less lines line to under within later))

-- a frame less: its lines are gone, and the one below goes on behind its call or later
pub below_is_less : (worth ticks after lines line lines' line' to under : ℕ) → after ≡ ticks → line < lines → suc line' ≤ to
    → weight worth after lines' to under < weight worth ticks lines line ((lines' - suc line') + under)
below_is_less worth ticks after lines line lines' line' to under same within later =
    subst (λ t. weight worth t lines' to under < weight worth ticks lines line ((lines' - suc line') + under)) (sym same)
    (plus_less (ticks * worth) ((lines' - to) + under) ((lines - line) + ((lines' - suc line') + under)) (omega (arith, within, later)))

paid_less : (worth p q all here : ℕ) → all ≤ worth → q ≡ worth + p → 0 < here → p + all < q + here
paid_less worth p q all here a e h = omega (arith, a, e, h)

suc_times : (t worth : ℕ) → suc t * worth ≡ worth + t * worth
suc_times t worth = omega arith

-- a tick is paid: all that is left then is worth less
pub paid_is_less : (worth ticks after here all : ℕ) → suc after ≡ ticks → all ≤ worth → 0 < here → after * worth + all < ticks * worth + here
paid_is_less worth ticks after here all paid most some =
    paid_less worth (after * worth) (ticks * worth) all here most (ap (λ t. t * worth) (sym paid) ∙ suc_times after worth) some

pub something_left : (lines line under : ℕ) → line < lines → 0 < (lines - line) + under
something_left lines line under h = omega arith

-- ---- the most that there is

max_left : (a b : ℕ) → a ≤ max a b
max_left a b = omega arith

max_right : (a b c : ℕ) → c ≤ b → c ≤ max a b
max_right a b c h = omega arith

function_most : (code : List FunCode) (k : ℕ) → lines_in code k ≤ longest code
function_most [] k = omega arith
function_most (f ∷ fs) zero = max_left (length f.lines) (longest fs)
function_most (f ∷ fs) (suc k) = max_right (length f.lines) (longest fs) (lines_in fs k) (function_most fs k)

max_before : (a b c : ℕ) → c ≤ a → c ≤ max a b
max_before a b c h = omega arith

text_most : (codes : Codes) (text : Owner) (k : ℕ) → lines_in (code_in codes text) k ≤ longest_in codes
text_most codes Script k = max_before (longest codes.script) (longest codes.prelude) (lines_in codes.script k) (function_most codes.script k)
text_most codes Prelude k = max_right (longest codes.script) (longest codes.prelude) (lines_in codes.prelude k) (function_most codes.prelude k)

minus_most : (a b m : ℕ) → a ≤ m → a - b ≤ m
minus_most a b m h = omega arith

both_most : (a b d m : ℕ) → a ≤ m → b ≤ d * m → a + b ≤ suc d * m
both_most a b d m h k = let s = suc_times d m in omega (arith, h, k, s)

none_most : (m : ℕ) → 0 ≤ m
none_most m = omega arith

below_most : (codes : Codes) (below : List Frame) → lines_below codes below ≤ depth_of below * longest_in codes
below_most codes [] = none_most (0 * longest_in codes)
below_most codes (f ∷ fs) =
    both_most (lines_from (code_in codes f.text) f.fun (suc f.line)) (lines_below codes fs) (depth_of fs) (longest_in codes)
    (minus_most (lines_in (code_in codes f.text) f.fun) (suc f.line) (longest_in codes) (text_most codes f.text f.fun)) (below_most codes fs)

deeper_most : (d most m : ℕ) → d ≤ most → suc d * m ≤ suc most * m
deeper_most d most m h = mul-le-mul_right m (suc-le-suc h)

most_of : (a b c : ℕ) → a ≤ b → b ≤ c → a ≤ c
most_of a b c h k = omega (arith, h, k)

-- what frames that the limit of depth allows have before them is no more than a tick is worth
pub frames_most : (codes : Codes) (limits : Limits) (text : Owner) (function line : ℕ) (below : List Frame) → depth_of below ≤ limits.depth
    → lines_from (code_in codes text) function line + lines_below codes below ≤ tick_worth codes limits
frames_most codes limits text function line below h =
    most_of (lines_from (code_in codes text) function line + lines_below codes below) (suc (depth_of below) * longest_in codes) (tick_worth codes limits)
    (both_most (lines_from (code_in codes text) function line) (lines_below codes below) (depth_of below) (longest_in codes)
    (minus_most (lines_in (code_in codes text) function) line (longest_in codes) (text_most codes text function)) (below_most codes below))
    (deeper_most (depth_of below) limits.depth (longest_in codes) h)

one_times : (t worth : ℕ) → (t + 1) * worth ≡ t * worth + worth
one_times t worth = omega arith

one_more_is : (n : ℕ) → n + 1 ≡ suc n
one_more_is n = omega arith

no_more : (a b c : ℕ) → a ≤ b → c ≡ b → a ≤ c
no_more a b c h e = omega (arith, h, e)

all_most : (ticks worth here depth m : ℕ) → here ≤ worth → worth ≡ suc depth * m → ticks * worth + here ≤ (ticks + 1) * (depth + 1) * m
all_most ticks worth here depth m h e =
    let more : (ticks + 1) * worth ≡ ticks * worth + worth = one_times ticks worth in
    let whole : (ticks + 1) * (depth + 1) * m ≡ (ticks + 1) * worth = mul_assoc (ticks + 1) (depth + 1) m ∙ ap (λ n. (ticks + 1) * (n * m)) (one_more_is depth) ∙ ap (λ n. (ticks + 1) * n) (sym e) in
    no_more (ticks * worth + here) (ticks * worth + worth) ((ticks + 1) * (depth + 1) * m) (omega (arith, h)) (whole ∙ more)

pub left_most : (codes : Codes) (limits : Limits) (c : Config) → depth_of c.below ≤ limits.depth → left_of codes limits c ≤ most_steps codes limits c.world.ticks
left_most codes limits c h =
    all_most c.world.ticks (tick_worth codes limits) (lines_from (code_in codes c.top.text) c.top.fun c.top.line + lines_below codes c.below) limits.depth (longest_in codes)
    (frames_most codes limits c.top.text c.top.fun c.top.line c.below h) refl
