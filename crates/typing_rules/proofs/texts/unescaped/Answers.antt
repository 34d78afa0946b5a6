-- Piece by piece, each before a backslash.
use Rattle.std.proofs.Common.{◌≡◌, ◌∙◌, subst, ℕ, List, IfOk, arith, rules}
use Rattle.std.proofs.lemmas.Str.Pattern.{strip_prefix_char, split_parts}
use Rattle.std.specs.String.{string_bytes}
use Rattle.typing_rules.proofs.Escapes.{at_last, at_backslash, at_end, at_other}
use Rattle.typing_rules.proofs.texts.unescaped.Goals as goal

pub pieces-preserved-in-Some-strip_prefix : goal.pieces-preserved-in-Some-strip_prefix
pieces-preserved-in-Some-strip_prefix c =
    let l = c.pieces in
    let cut = rw c.in-Some.is at (split_parts 92 l.rest.now c.split_once.result c.split_once.ensures.cases (omega arith)) in
    let other = rw c.in-Some-strip_prefix.is at (strip_prefix_char 92 c.in-Some.behind.now c.strip_prefix.result c.strip_prefix.ensures.cases (omega arith)) in
    let piece = string_bytes c.push_str.new.self in
    let both = string_bytes c.push_str-in-Some-strip_prefix.new.self in (
      at_backslash c.args.written.now (string_bytes l.text) l.rest.now c.in-Some.before.now c.in-Some.behind.now c.in-Some-strip_prefix.further.now piece both
          l.invariant.0 cut.0 cut.1 c.in_ok-push_str.ensures.bytes other c.in_ok-push_str-2.ensures.bytes,
      search rules,
    )

pub pieces-preserved-in-Continue-branch-3 : goal.pieces-preserved-in-Continue-branch-3
pieces-preserved-in-Continue-branch-3 c =
    let l = c.pieces in
    let cut = rw c.in-Some.is at (split_parts 92 l.rest.now c.split_once.result c.split_once.ensures.cases (omega arith)) in
    let piece = string_bytes c.push_str.new.self in
    let both = string_bytes c.push_str-then-is_empty.new.self in (
      at_end c.args.written.now (string_bytes l.text) l.rest.now c.in-Some.before.now c.in-Some.behind.now piece both
          l.invariant.0 cut.0 cut.1 c.in_ok-push_str.ensures.bytes (grind arith) c.in_ok-push_str-3.ensures.bytes,
      search rules,
    )

pub pieces-preserved : goal.pieces-preserved
pieces-preserved c =
    let l = c.pieces in
    let cut = rw c.in-Some.is at (split_parts 92 l.rest.now c.split_once.result c.split_once.ensures.cases (omega arith)) in
    let other = rw c.in_default-strip_prefix.is at (strip_prefix_char 92 c.in-Some.behind.now c.strip_prefix.result c.strip_prefix.ensures.cases (omega arith)) in
    let piece = string_bytes c.push_str.new.self in (
      at_other c.args.written.now (string_bytes l.text) l.rest.now c.in-Some.before.now c.in-Some.behind.now piece
          l.invariant.0 cut.0 cut.1 c.in_ok-push_str.ensures.bytes other (grind arith),
      search rules,
    )

pub returns : goal.returns
returns c =
    let l = c.pieces in
    let lacks = rw c.in_default.is at (split_parts 92 l.rest.now c.split_once.result c.split_once.ensures.cases (omega arith)) in
    let whole = string_bytes c.push_str-2.new.self in
    let last = at_last c.args.written.now (string_bytes l.text) l.rest.now whole l.invariant.0 lacks c.in_ok-push_str-4.ensures.bytes in
    subst (λ (bytes : List ℕ). IfOk c.new.result (λ t. t ≡ bytes)) (c.as_str.ensures.value ∙ last) c.new.ensures
