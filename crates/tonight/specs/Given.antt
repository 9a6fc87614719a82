-- What settlement is given beside the book: the evening's prices.
use Rattle.std.specs.Prelude.{ℕ, List}

pub record Given : Type 0 where
  pub prices : List ℕ
