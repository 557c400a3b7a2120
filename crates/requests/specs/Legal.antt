-- What a legal request fulfils: that none of numbers 1 to 4 is given says exactly this
-- (proofs/Exact.antt).
-- Assumes nothing.
use Rattle.std.specs.Prelude.{ℕ, ◌+◌, ◌%◌, ◌<◌, ◌≤◌, ◌≡◌}
use Rattle.pages.specs.declared.PageOffset.{PageOffset}

-- pages of one length, even, "from 8 to 4,096 bytes"
pub record RightPages (p q : ℕ) : Type 0 where
  pub same : p ≡ q
  pub even_page : p % 2 ≡ 0
  pub least : 8 ≤ p
  pub most : p ≤ 4096

-- and a part of the image in them
pub record Legal (p q : ℕ) (o : PageOffset) (n : ℕ) : Type 0 where
  pub same : p ≡ q
  pub even_page : p % 2 ≡ 0
  pub least : 8 ≤ p
  pub most : p ≤ 4096
  pub even_offset : o.0 % 2 ≡ 0
  pub even_length : n % 2 ≡ 0
  pub in_image : 4 ≤ o.0
  pub starts : o.0 < p
  pub ends : o.0 + n ≤ p
