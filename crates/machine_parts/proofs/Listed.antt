-- The members that instructions name are those of the list.
use Rattle.std.proofs.Common.{◌≡◌, ℕ, ◌<◌, Option, Some, None, IfSome, length, option_map, sym, subst}
use Rattle.allowlist.specs.Allow.{AllowList}
use Rattle.instruction_types.specs.Members.{method_of, constructor_of, field_of}
use Rattle.instruction_types.proofs.Named.{method_listed, constructor_listed, field_listed}
use Rattle.pl_types.specs.declared.ty.Ty.{Ty}
use Rattle.pl_types.specs.Texts.{type_of_full}
use Rattle.pl_code.specs.declared.code.Instruction.{Instruction}
use Rattle.pl_code.specs.declared.code.Instruction.TheVariants as i
use Rattle.code_meaning.specs.Machine.{Frame}
use Rattle.machine_parts.specs.Code.{Executable, text_of}
use Rattle.machine_parts.specs.Links.{instruction_at, link_at, link_of, type_link, member_link, linked_member}
use Rattle.machine_parts.specs.declared.linked_text.Link.{Link}

module _ (allow : AllowList) where
  abbrev IsListed : Option Link → Type 0
  IsListed o = IfSome (linked_member o) (λ number. number < length allow.members)

  no_member : (o : Option Ty) → IsListed (Some (type_link o))
  no_member None = tt
  no_member (Some of) = tt

  member : (o : Option ℕ) → IfSome o (λ number. number < length allow.members) → IsListed (Some (member_link o))
  member None h = tt
  member (Some number) h = h

  line_listed : (line : Instruction) → IsListed (Some (link_of allow line))
  unfolding link_of
  line_listed (i.Typed kind of) = no_member (type_of_full of)
  line_listed (i.Cast to way) = no_member (type_of_full to)
  line_listed (i.Invoke method) = member (method_of allow method) (method_listed allow method)
  line_listed (i.New constructor) = member (constructor_of allow constructor) (constructor_listed allow constructor)
  line_listed (i.Field field) = member (field_of allow field) (field_listed allow field)
  line_listed (i.Plain k) = tt
  line_listed (i.Arithmetic op width) = tt
  line_listed (i.Dynamic op) = tt
  line_listed (i.Int n) = tt
  line_listed (i.Long n) = tt
  line_listed (i.Quoted kind text) = tt
  line_listed (i.Numbered kind n) = tt
  line_listed (i.Boxing p) = tt
  line_listed (i.Unboxing p way) = tt
  line_listed (i.Sized kind of n) = no_member (type_of_full of)
  line_listed (i.DefCall name n) = tt
  line_listed (i.Lambda interface n given) = tt
  line_listed (i.Ref interface of name) = tt
  line_listed (i.NewRef interface of) = tt

  there : (line : Option Instruction) → IsListed (option_map (link_of allow) line)
  there None = tt
  there (Some line) = line_listed line

-- what the instruction names at which a frame stands is of the list of its text
pub listed_at : (e : Executable) (f : Frame) (found : Option Link) → found ≡ link_at e f → IfSome (linked_member found) (λ number. number < length (text_of e f.text).allow.members)
listed_at e f found is = subst (IsListed (text_of e f.text).allow) (sym is) (there (text_of e f.text).allow (instruction_at e f))
