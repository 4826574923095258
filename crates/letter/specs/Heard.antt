-- What a letter says: whether it is fit, and the value of each channel. Assumes nothing.
use Rattle.std.specs.Prelude.{ℕ, Option}

-- the lowest unfit channel, or none if the letter is fit; and the value of each channel
pub record Heard (S : Type 0) : Type 0 where
  pub unfit : Option ℕ
  pub value : ℕ → S
