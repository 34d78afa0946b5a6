-- Which files a command asks for, where that hangs on what files hold.
use Rattle.std.specs.Prelude.{◌≡◌, ℕ, List, Option, IfSome}
use Rattle.outer_io.specs.Asking.{AsksFront}

-- Some front was asked for of the names that come of the files' content, and no other name. Files may tell no content; then it is that of
-- some content.
pub record AsksBy (known : Option (List ℕ → Option (List ℕ))) (old new : List (List ℕ)) (names : (List ℕ → Option (List ℕ)) → List (List ℕ)) : Type 0 where
  pub content : List ℕ → Option (List ℕ)
  pub shown : IfSome known (λ k. k ≡ content)
  pub front : AsksFront old new (names content)
