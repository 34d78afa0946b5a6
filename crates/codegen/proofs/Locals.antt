-- The locals of a function's code are those of its body, where they are so many.
use Rattle.std.proofs.Common.{◌≡◌, ℕ, suc, ◌+◌, List, [], ◌∷◌, ◌++◌, length, drop, refl, sym, ap, ◌∙◌, append_assoc, append-nil, arith}
use Rattle.std.proofs.lemmas.List.{length-append}
use Rattle.std.proofs.lemmas.Option.{slice_get_past}
use Rattle.std.proofs.Math.Seq.{drop-append_seam}
use Rattle.pl_types.specs.declared.ty.Ty.TheVariants as ty
use Rattle.pl_code.specs.declared.kinds.Slot.{Slot}
use Rattle.pl_code.specs.declared.code.FunCode.{FunCode}
use Rattle.source_meaning.specs.Tree.{Stmt, Do, If, While, DoWhile, Try, Block, Break, Continue, Return, Throw, Stmts, Finish, Then, Declare, Catches, NoCatch, Catch, Program}
use Rattle.compiler_relation.specs.Representation.{Representation, kind_of}
use Rattle.compiler_relation.specs.Stands.{Scope, Jumps, next_stmt, next_stmts, next_catches, locals_stmt, locals_stmts, locals_catches}
use Rattle.compiler_relation.specs.Placed.{StmtIn, StmtsIn, CatchesIn}
use Rattle.codegen.proofs.Parts.{drop_at, drop_end}

-- of two parts, one behind the other
both_parts : (xs ys all behind rest : List Slot) → all ≡ xs ++ behind → behind ≡ ys ++ rest → all ≡ (xs ++ ys) ++ rest
both_parts xs ys all behind rest first second = first ∙ ap (λ zs. xs ++ zs) second ∙ sym (append_assoc xs ys rest)

-- the locals from a number on
abbrev from : FunCode → ℕ → List Slot
from f n = drop n (f.params ++ f.locals)

module _ (funs : Program) (f : FunCode) (k : Representation) where
  mutual
    stmt_locals : (g : Scope) (n : ℕ) (j : Jumps) (p : ℕ) (t : Stmt) → StmtIn funs f k g n j p t → from f n ≡ locals_stmt t ++ from f (next_stmt n t)
    stmt_locals g n j p (Do a) x = refl
    stmt_locals g n j p (If c a b) x =
        both_parts (locals_stmts a) (locals_stmts b) (from f n) (from f (next_stmts n a)) (from f (next_stmts (next_stmts n a) b))
        (stmts_locals g n j _ a x.3) (stmts_locals g (next_stmts n a) j _ b x.5)
    stmt_locals g n j p (While test update body) x = stmts_locals g n _ (suc p) body x.1
    stmt_locals g n j p (DoWhile body test) x = stmts_locals g n _ (suc p) body x.1
    stmt_locals g n j p (Try body catches) x =
        both_parts (locals_stmts body) (locals_catches catches) (from f n) (from f (next_stmts n body)) (from f (next_catches (next_stmts n body) catches))
        (stmts_locals g n j p body x.0) (catches_locals g (next_stmts n body) j _ _ catches x.2)
    stmt_locals g n j p (Block body) x = stmts_locals g n j p body x
    stmt_locals g n j p Break x = refl
    stmt_locals g n j p Continue x = refl
    stmt_locals g n j p (Return value) x = refl
    stmt_locals g n j p (Throw value) x = refl

    stmts_locals : (g : Scope) (n : ℕ) (j : Jumps) (p : ℕ) (t : Stmts) → StmtsIn funs f k g n j p t → from f n ≡ locals_stmts t ++ from f (next_stmts n t)
    stmts_locals g n j p Finish x = refl
    stmts_locals g n j p (Then t rest) x =
        both_parts (locals_stmt t) (locals_stmts rest) (from f n) (from f (next_stmt n t)) (from f (next_stmts (next_stmt n t) rest))
        (stmt_locals g n j p t x.0) (stmts_locals g (next_stmt n t) j _ rest x.1)
    stmts_locals g n j p (Declare name of value rest) x =
        drop_at n (f.params ++ f.locals) (kind_of of) x.2.is ∙ ap (λ zs. kind_of of ∷ zs) (stmts_locals _ (suc n) j _ rest x.4)

    catches_locals : (g : Scope) (n : ℕ) (j : Jumps) (to p : ℕ) (t : Catches) → CatchesIn funs f k g n j to p t → from f n ≡ locals_catches t ++ from f (next_catches n t)
    catches_locals g n j to p NoCatch x = refl
    catches_locals g n j to p (Catch class name body rest) x =
        drop_at n (f.params ++ f.locals) (kind_of (ty.Class class)) x.1.is
        ∙ ap (λ zs. kind_of (ty.Class class) ∷ zs)
        (both_parts (locals_stmts body) (locals_catches rest) (from f (suc n)) (from f (next_stmts (suc n) body)) (from f (next_catches (next_stmts (suc n) body) rest))
        (stmts_locals _ (suc n) j (suc p) body x.3) (catches_locals g (next_stmts (suc n) body) j to _ rest x.5))

pub locals_of_body : (funs : Program) (f : FunCode) (k : Representation) (g : Scope) (n : ℕ) (j : Jumps) (p : ℕ) (body : Stmts) → StmtsIn funs f k g n j p body
    → length f.params ≡ n → length f.params + length f.locals ≡ next_stmts n body → f.locals ≡ locals_stmts body
locals_of_body funs f k g n j p body x first last =
    let none : from f (next_stmts n body) ≡ [] = drop_end (next_stmts n body) (f.params ++ f.locals) (slice_get_past (f.params ++ f.locals) (next_stmts n body) (omega (arith, length-append f.params f.locals, last))) in
    sym (drop-append_seam f.params f.locals) ∙ ap (from f) first ∙ stmts_locals funs f k g n j p body x ∙ ap (λ zs. locals_stmts body ++ zs) none ∙ append-nil (locals_stmts body)
