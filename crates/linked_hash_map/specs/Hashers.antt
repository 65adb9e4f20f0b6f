-- The default build hasher, and the hash of a key.
use Rattle.std.specs.Prelude.{◌≡◌, ℕ, List, fold}
use Rattle.std.specs.Hash.BuildHasherDefault.{initial_hasher}
use Rattle.std.specs.Hash.FoldHasher.{initial}
use Rattle.std.specs.declared.hash.BuildHasherDefault.{BuildHasherDefault}
use Rattle.std.specs.declared.hash.FoldHasher.{FoldHasher}

-- each hasher that it builds begins with the fixed seed of std's maps
abbrev pub IsDefaultHashBuilder : BuildHasherDefault FoldHasher → Type 0
IsDefaultHashBuilder builder = initial_hasher builder ≡ initial

-- the hash that a build hasher gives a key: that of its hasher, once it was fed what the key is
-- hashed by
abbrev pub hash_by : {K S H : Type 0} → (H → ℕ) → (H → List ℕ → H) → (S → H) → (K → List (List ℕ))
    → S → K → ℕ
hash_by finish write build input hasher key = finish (fold write (build hasher) (input key))
