-- The bounds of requests rise with their numbers.
use Rattle.std.specs.Prelude.{ℕ, ◌<◌, ◌≤◌, length, IfSome, IsSomeAnd}
use Rattle.ground_history.specs.Histories.{History}
use Rattle.ground_history.specs.Evidence.{low, high}
use Rattle.ground_history.specs.Ground.{Ground, IsGrounded}

-- the bounds of request j are no higher than those of request k; where k has an upper one, j has one too
pub record AreNoHigher (h : History) (j k : ℕ) : Type 0 where
  pub low : low h j ≤ low h k
  pub high : IfSome (high h k) (λ top. IsSomeAnd (high h j) (λ t. t ≤ top))

-- the bounds of each request that was sent are no higher than those of a later one
abbrev pub BoundsRise : Type 0
BoundsRise = (g : Ground) (j k : ℕ) → IsGrounded g → j ≤ k → k < length g.history.requests → AreNoHigher g.history j k
