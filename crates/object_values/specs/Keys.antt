-- Values of one kind with one content are one, and are hashed alike.
use Rattle.std.specs.Prelude.{◌≡◌, ℕ, List, [], ◌∷◌, ◌++◌, Bool, true, false, cond, refl, length, bit_or, bit_xor}
use Rattle.std.proofs.Common.{ap, sym, subst}
use Rattle.std.specs.Cmp.{IsEquivalence}
use Rattle.std.specs.Cmp.Lexicographic.{nat_list_eq_equiv}
use Rattle.std.specs.Hash as fed
use Rattle.std.specs.Hash.FoldHasher.{shl}
use Rattle.std.specs.Int.{w8, w16, w32, w64, cast_unsigned}
use Rattle.std.proofs.lemmas.Cmp.{int_eq_equiv, nat_eq_equiv}
use Rattle.std.proofs.lemmas.Bool.{eqb-true}
use Rattle.std.proofs.lemmas.Bool.Decides.{Decides-int_eq}
use Rattle.std.proofs.lemmas.Slice.Eq.{bytes_eq-Decides}
use Rattle.object_values.specs.declared.value.Value.{Value}
use Rattle.object_values.specs.declared.value.Value.TheVariants as v
use Rattle.object_values.specs.Values.{same_value, same_flag}

flags_exact : (a b : Bool) → same_flag a b ≡ true → a ≡ b
flags_exact true true h = refl
flags_exact true false h = sym h
flags_exact false true h = h
flags_exact false false h = refl

pub values_exact : (a b : Value) → same_value a b ≡ true → a ≡ b
values_exact v.Null v.Null h = refl
values_exact (v.Bool a) (v.Bool b) h = ap v.Bool (flags_exact a b h)
values_exact (v.Byte a) (v.Byte b) h = ap v.Byte ((Decides-int_eq a b).0 h)
values_exact (v.Short a) (v.Short b) h = ap v.Short ((Decides-int_eq a b).0 h)
values_exact (v.Char a) (v.Char b) h = ap v.Char (eqb-true a b h)
values_exact (v.Int a) (v.Int b) h = ap v.Int ((Decides-int_eq a b).0 h)
values_exact (v.Long a) (v.Long b) h = ap v.Long ((Decides-int_eq a b).0 h)
values_exact (v.Str a) (v.Str b) h = ap v.Str ((bytes_eq-Decides a b).0 h)
values_exact (v.Ref a) (v.Ref b) h = ap v.Ref (eqb-true a b h)
values_exact a b h = cc

pub values_refl : (a : Value) → same_value a a ≡ true
values_refl v.Null = refl
values_refl (v.Bool true) = refl
values_refl (v.Bool false) = refl
values_refl (v.Byte a) = int_eq_equiv.refl a
values_refl (v.Short a) = int_eq_equiv.refl a
values_refl (v.Char a) = nat_eq_equiv.refl a
values_refl (v.Int a) = int_eq_equiv.refl a
values_refl (v.Long a) = int_eq_equiv.refl a
values_refl (v.Str a) = nat_list_eq_equiv.refl a
values_refl (v.Ref a) = nat_eq_equiv.refl a

both : (p q : Bool) → (p ≡ true → q ≡ true) → (q ≡ true → p ≡ true) → p ≡ q
both true true f g = refl
both true false f g = sym (f refl)
both false true f g = g refl
both false false f g = refl

pub values_symm : (a b : Value) → same_value a b ≡ same_value b a
values_symm a b = both (same_value a b) (same_value b a)
    (λ h. subst (λ (x : Value). same_value x a ≡ true) (values_exact a b h) (values_refl a))
    (λ h. subst (λ (x : Value). same_value x b ≡ true) (values_exact b a h) (values_refl b))

pub values_equiv : IsEquivalence same_value
values_equiv = record {
  refl = values_refl;
  symm = values_symm;
  congr = λ a b c h. ap (λ (x : Value). same_value x c) (values_exact a b h);
}

-- the number of a kind in the highest byte of a word, joined with a content
abbrev pub word : ℕ → ℕ → ℕ
word kind content = bit_xor content (shl kind 56)

-- up to four units as one word, the first lowest
abbrev pub four_units : ℕ → ℕ → ℕ → ℕ → ℕ
four_units a b c d = bit_or (bit_or (bit_or a (shl b 16)) (shl c 32)) (shl d 48)

-- what the units of a text give a hasher: words of four each, and one of those that are left
abbrev pub units_fed : List ℕ → fed.HashWrites
units_fed [] = []
units_fed (a ∷ []) = fed.u64 (four_units a 0 0 0)
units_fed (a ∷ b ∷ []) = fed.u64 (four_units a b 0 0)
units_fed (a ∷ b ∷ c ∷ []) = fed.u64 (four_units a b c 0)
units_fed (a ∷ b ∷ c ∷ d ∷ rest) = fed.u64 (four_units a b c d) ++ units_fed rest

-- what a text gives a hasher: its kind and length, and then its units
abbrev pub text_fed : List ℕ → fed.HashWrites
text_fed units = fed.u64 (word 7 (length units)) ++ units_fed units

-- what a value gives a hasher: the number of its kind with its content
abbrev pub value_fed : Value → fed.HashWrites
value_fed v.Null = fed.u64 (word 0 0)
value_fed (v.Bool flag) = fed.u64 (word 1 (cond flag 1 0))
value_fed (v.Byte number) = fed.u64 (word 2 (cast_unsigned w8 number))
value_fed (v.Short number) = fed.u64 (word 3 (cast_unsigned w16 number))
value_fed (v.Char unit) = fed.u64 (word 4 unit)
value_fed (v.Int number) = fed.u64 (word 5 (cast_unsigned w32 number))
value_fed (v.Long number) = fed.u64 (word 6 (cast_unsigned w64 number))
value_fed (v.Str text) = text_fed text
value_fed (v.Ref id) = fed.u64 (word 8 id)

pub equal_fed : (a b : Value) → same_value a b ≡ true → value_fed a ≡ value_fed b
equal_fed a b h = ap value_fed (values_exact a b h)
