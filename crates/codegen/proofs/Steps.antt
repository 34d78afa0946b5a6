-- Steps keep what is still to be written as well-formed programs have it: the forms that most of them have.
use Rattle.std.proofs.Common.{◌≡◌, ℕ, List, [], ◌∷◌, ◌++◌, Ok, Option, None, Result, length, sym, subst}
use Rattle.pl_types.specs.declared.ty.Ty.{Ty}
use Rattle.allowlist.specs.Allow.{AllowList}
use Rattle.program_typing.specs.Agreeing.{known}
use Rattle.source_meaning.specs.Tree.{Program}
use Rattle.codegen.specs.Worklist.{Item}
use Rattle.codegen.specs.Sound.{Agree, Keeps, AreFree, binds, names_in}
use Rattle.codegen.specs.declared.config.Config.{Config}
use Rattle.codegen.specs.declared.error.CodeError.{CodeError}
use Rattle.codegen.specs.declared.labels.Line.{Line}
use Rattle.codegen.proofs.Free.{fresh_one}

module _ (funs : Program) (todo todo' : List Item) (c : Config) where
  -- nothing is written, and something else is to be written
  pub instead : ((allow : AllowList) (of : Ty) → Agree (known allow funs) of todo (names_in c) c.flows → Agree (known allow funs) of todo' (names_in c) c.flows) → binds todo' ≡ binds todo → Keeps funs todo c (Ok tt) todo' c
  instead h e = record { by = λ allow s. record { result = s.result; representation = s.representation; agree = h allow s.result s.agree; free = subst (λ bs. AreFree c.labels (length c.labels) bs) (sym e) s.free } }

  -- a label is taken
  pub with_one : (one : List (Option ℕ)) (a : ℕ) → a ≡ length c.labels → one ≡ c.labels ++ None ∷ []
      → ((allow : AllowList) (of : Ty) → Agree (known allow funs) of todo (names_in c) c.flows → Agree (known allow funs) of todo' (names_in c) c.flows) → binds todo' ≡ a ∷ binds todo → Keeps funs todo c (Ok tt) todo' (record c { labels = one })
  with_one one a ea eone h e = record {
    by = λ allow s. record {
      result = s.result;
      representation = s.representation;
      agree = h allow s.result s.agree;
      free = subst (λ bs. AreFree one (length one) bs) (sym e) (fresh_one c.labels one a (binds todo) ea eone s.free);
    };
  }

  -- labels are taken, of which the last is bound first
  pub with_two : (one two : List (Option ℕ)) (a b : ℕ) → a ≡ length c.labels → one ≡ c.labels ++ None ∷ [] → b ≡ length one → two ≡ one ++ None ∷ []
      → ((allow : AllowList) (of : Ty) → Agree (known allow funs) of todo (names_in c) c.flows → Agree (known allow funs) of todo' (names_in c) c.flows) → binds todo' ≡ b ∷ a ∷ binds todo → Keeps funs todo c (Ok tt) todo' (record c { labels = two })
  with_two one two a b ea eone eb etwo h e = record {
    by = λ allow s. record {
      result = s.result;
      representation = s.representation;
      agree = h allow s.result s.agree;
      free = subst (λ bs. AreFree two (length two) bs) (sym e) (fresh_one one two b (a ∷ binds todo) eb etwo (fresh_one c.labels one a (binds todo) ea eone s.free));
    };
  }

  pub with_four : (one two three four : List (Option ℕ)) (a b x y : ℕ) → a ≡ length c.labels → one ≡ c.labels ++ None ∷ [] → b ≡ length one → two ≡ one ++ None ∷ []
      → x ≡ length two → three ≡ two ++ None ∷ [] → y ≡ length three → four ≡ three ++ None ∷ []
      → ((allow : AllowList) (of : Ty) → Agree (known allow funs) of todo (names_in c) c.flows → Agree (known allow funs) of todo' (names_in c) c.flows) → binds todo' ≡ y ∷ x ∷ b ∷ a ∷ binds todo → Keeps funs todo c (Ok tt) todo' (record c { labels = four })
  with_four one two three four a b x y ea eone eb etwo ex ethree ey efour h e = record {
    by = λ allow s. record {
      result = s.result;
      representation = s.representation;
      agree = h allow s.result s.agree;
      free =
          subst (λ bs. AreFree four (length four) bs) (sym e)
          (fresh_one three four y (x ∷ b ∷ a ∷ binds todo) ey efour (fresh_one two three x (b ∷ a ∷ binds todo) ex ethree (fresh_one one two b (a ∷ binds todo) eb etwo (fresh_one c.labels one a (binds todo) ea eone s.free))));
    };
  }

  -- no well-formed program comes to this
  pub never : (result : Result Unit CodeError) (c' : Config) → ((allow : AllowList) (of : Ty) → Agree (known allow funs) of todo (names_in c) c.flows → ⊥) → Keeps funs todo c result todo' c'
  never result c' h = record { by = λ allow s. absurd (h allow s.result s.agree) }

  -- lines are written
  pub lined : (later : List Line) → ((allow : AllowList) (of : Ty) → Agree (known allow funs) of todo (names_in c) c.flows → Agree (known allow funs) of todo' (names_in c) c.flows) → binds todo' ≡ binds todo → Keeps funs todo c (Ok tt) todo' (record c { lines = later })
  lined later h e = record { by = λ allow s. record { result = s.result; representation = s.representation; agree = h allow s.result s.agree; free = subst (λ bs. AreFree c.labels (length c.labels) bs) (sym e) s.free } }
