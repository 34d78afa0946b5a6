-- There is room for the next instruction where frames are within what was taken at the start.
use Rattle.std.proofs.Common.{◌≡◌, ◌≤◌, ◌<◌, ℕ, suc, ◌+◌, ◌*◌, length, List, [], ◌∷◌, Option, Some, None, slice_get, refl, sym, ap, subst, ◌∙◌, arith}
use Rattle.std.proofs.Math.Nat.{mul-le-mul_right}
use Rattle.std.specs.Prelude.{min}
use Rattle.allowlist.specs.Index.{member_in}
use Rattle.allowlist.specs.declared.member.MemberType.{MemberType}
use Rattle.code_meaning.specs.Members.{count_of}
use Rattle.pl_code.specs.declared.code.FunCode.{FunCode}
use Rattle.run_state.specs.World.{Limits}
use Rattle.code_meaning.specs.Machine.{Frame, Goes, depth_of, after, code_in}
use Rattle.code_meaning.specs.Sizes.{words_in, AreWithin, IsWithin}
use Rattle.machine.specs.declared.configuration.Configuration.{Configuration}
use Rattle.machine.specs.Memory.{CallFinds, HasSpace, RunSpares}
use Rattle.machine_parts.specs.Rooms.{ArgumentsWithin, FitsAtStart, IsEnough, MembersWithin, Room, most_at_start}
use Rattle.machine.specs.Seen.{Executable, codes_in, text_of, configuration_of, room_of}
use Rattle.machine.specs.Sparing.{Spares}
use Rattle.machine.proofs.Reaching.{Reached}
use Rattle.object_values.specs.declared.object.Owner.{Owner}

-- so many frames have so many words at most
words_within : (most : ℕ) (fs : List Frame) → AreWithin most fs → words_in fs ≤ depth_of fs * most
words_within most [] h = omega arith
words_within most (f ∷ fs) h =
    let rest : words_in fs ≤ depth_of fs * most = words_within most fs h.1 in
    let one : length f.locals + length f.stack ≤ most = h.0 in
    omega arith

two_more : (frame depth n count words : ℕ) → count ≤ suc n * frame → n ≤ depth → suc depth * frame + 2 ≤ words → count + 2 ≤ words
two_more frame depth n count words h less room =
    let frames : suc n ≤ suc depth = omega arith in
    omega (arith, mul-le-mul_right frame frames)

frame_more : (frame depth n locals count words : ℕ) → count ≤ suc n * frame → n < depth → locals ≤ frame → suc depth * frame + 2 ≤ words → count + locals ≤ words
frame_more frame depth n locals count words h less fits room =
    let frames : suc (suc n) ≤ suc depth = omega arith in
    omega (arith, mul-le-mul_right frame frames)

module _ (e : Executable) (depth : ℕ) (c : Configuration) (enough : IsEnough e depth (room_of c))
    (within : IsWithin e.frame depth (codes_in e) (configuration_of c)) (counted : c.frames.count ≡ words_in (c.frames.top ∷ c.frames.below)) where
  at_most : c.frames.count ≤ suc (depth_of c.frames.below) * e.frame
  at_most = subst (λ n. n ≤ suc (depth_of c.frames.below) * e.frame) (sym counted) (words_within e.frame (c.frames.top ∷ c.frames.below) within.frames)

  finds : (text : Owner) (k : ℕ) (given : Option FunCode) → slice_get (code_in (codes_in e) text) k ≡ given → CallFinds depth given c.frames
  finds text k None is = tt
  finds text k (Some g) is =
      ((λ less. frame_more e.frame depth (depth_of c.frames.below) (length g.locals) c.frames.count c.frames.words at_most less (within.locals text k g is) enough.words), enough.frames)

  pub has_space : HasSpace e depth c
  has_space = record {
    words = two_more e.frame depth (depth_of c.frames.below) c.frames.count c.frames.words at_most within.below enough.words;
    calls = λ text k. finds text k (slice_get (code_in (codes_in e) text) k) refl;
    taken = enough.taken;
    values = enough.values;
  }

-- what is taken at the start is enough where all fits
pub enough_at_start : (e : Executable) (depth words arguments : ℕ) (room : Room) → words ≡ min (suc depth * e.frame + 2) most_at_start → words ≤ room.words → min depth most_at_start ≤ room.frames
    → room.taken ≡ arguments → room.values ≡ arguments → ArgumentsWithin e arguments → FitsAtStart e.frame depth → IsEnough e depth room
enough_at_start e depth words arguments room is all frames taken values most fits = record {
  words = omega (arith, is, all, fits.words);
  frames = omega (arith, frames, fits.frames);
  taken = subst (ArgumentsWithin e) (sym taken) most;
  values = subst (ArgumentsWithin e) (sym values) most;
}

-- and there is room for all members of both lists
pub members_at_start : (e : Executable) (members room : ℕ) → MembersWithin e members → room ≡ members → MembersWithin e room
members_at_start e members room within is = subst (MembersWithin e) (sym is) within

-- a member of a text's list has its place, and there is room for what it is called with
less_than : (a b c : ℕ) → a < b → b ≤ c → a < c
less_than a b c h k = omega (arith, h, k)

pub listed_within : (e : Executable) (text : Owner) (number room : ℕ) → number < length (text_of e text).allow.members → MembersWithin e room → number < room
listed_within e text number room less within = less_than number (length (text_of e text).allow.members) room less (within.within text)

pub takes_within : (e : Executable) (text : Owner) (number most : ℕ) (called : MemberType) → ArgumentsWithin e most → number < length (text_of e text).allow.members → called ≡ member_in (text_of e text).allow number → count_of called ≤ most
takes_within e text number most called within less same = subst (λ (m : MemberType). count_of m ≤ most) (sym same) (within.within text number less)

add_zero : (n : ℕ) → n + 0 ≡ n
add_zero n = omega arith

-- Where a run spares memory, the step behind so many others does.
module _ (e : Executable) (limits : Limits) (count k : ℕ) (from c : Configuration) (run : RunSpares e limits count from)
    (less : k < count) (reached : Reached (codes_in e) limits k from c) where
  here : after (codes_in e) limits k (Goes (configuration_of from)) ≡ Goes (configuration_of c)
  here = ap (λ n. after (codes_in e) limits n (Goes (configuration_of from))) (sym (add_zero k)) ∙ reached.leads 0

  pub spares_there : Spares (codes_in e) limits (configuration_of c)
  spares_there = (run.spares k (configuration_of c) less here).0

  pub space_there : room_of c ≡ room_of from → c.frames.count ≡ words_in (c.frames.top ∷ c.frames.below) → HasSpace e limits.depth c
  space_there same counted =
      has_space e limits.depth c (subst (IsEnough e limits.depth) (sym same) run.enough) (run.spares k (configuration_of c) less here).1 counted
