-- A copy of bytes.
-- Not here: what is read by copying (the crate reads). Assumes nothing.
use Rattle.std.specs.Prelude.{ℕ, min, List, ◌++◌, length, take, drop}

-- as many bytes of the one as both have, then what the other held
unfoldable pub copied : List ℕ → List ℕ → List ℕ
copied src dst =
    let n = min (length src) (length dst) in
    take n src ++ drop n dst
