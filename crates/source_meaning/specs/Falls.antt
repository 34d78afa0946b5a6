-- How statements are left: whether what stands behind them is reached, and whether a `continue` of their own is.
use Rattle.std.specs.Prelude.{◌||◌, ◌&&◌, Bool, true, false}
use Rattle.source_meaning.specs.Tree.{Stmt, Do, If, While, DoWhile, Try, Block, Break, Continue, Return, Throw, Stmts, Finish, Then, Declare, Catches, NoCatch, Catch}

abbrev mutual
  pub falls : Stmt → Bool
  falls (Do a) = true
  falls (If c a b) = all_fall a || all_fall b
  falls (While test update body) = true
  falls (DoWhile body test) = true
  falls (Try body catches) = all_fall body || any_falls catches
  falls (Block body) = all_fall body
  falls Break = false
  falls Continue = false
  falls (Return value) = false
  falls (Throw value) = false

  pub all_fall : Stmts → Bool
  all_fall Finish = true
  all_fall (Then t rest) = falls t && all_fall rest
  all_fall (Declare x of value rest) = all_fall rest

  pub any_falls : Catches → Bool
  any_falls NoCatch = false
  any_falls (Catch class x body rest) = all_fall body || any_falls rest

abbrev mutual
  pub continues : Stmt → Bool
  continues (Do a) = false
  continues (If c a b) = any_continues a || any_continues b
  continues (While test update body) = false
  continues (DoWhile body test) = false
  continues (Try body catches) = any_continues body || catches_continue catches
  continues (Block body) = any_continues body
  continues Break = false
  continues Continue = true
  continues (Return value) = false
  continues (Throw value) = false

  pub any_continues : Stmts → Bool
  any_continues Finish = false
  any_continues (Then t rest) = continues t || any_continues rest
  any_continues (Declare x of value rest) = any_continues rest

  pub catches_continue : Catches → Bool
  catches_continue NoCatch = false
  catches_continue (Catch class x body rest) = any_continues body || catches_continue rest
