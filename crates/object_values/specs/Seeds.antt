-- Seeds of hash tables.
use Rattle.std.specs.Prelude.{ℕ, List, ◌++◌, length, fold}
use Rattle.std.specs.Hash as fed
use Rattle.std.specs.Hash.DefaultHasher as sip
use Rattle.std.specs.Hash.FoldHasher as folding
use Rattle.std.specs.declared.hash.FoldHasher.{FoldHasher}
use Rattle.object_values.specs.declared.seed.Seed.{Seed}

-- the seed of the bytes so far, and then of these: what SipHash makes of the number so far, of how many bytes come, and of them
abbrev pub seed_with : Seed → List ℕ → Seed
seed_with seed bytes =
    let begun = fold sip.write sip.initial (fed.u64 seed.number ++ fed.usize (length bytes)) in
    record { number = sip.finish (sip.write begun bytes) }

-- the seed of these bytes
abbrev pub seed_of : List ℕ → Seed
seed_of bytes = seed_with (record { number = 0 }) bytes

-- the hasher that each key begins with: it has taken the seed in
abbrev pub first_hasher : Seed → FoldHasher
first_hasher seed = fold folding.write folding.initial (fed.u64 seed.number)
