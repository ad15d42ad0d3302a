-- A list of claims: those that it has, in order, and for how many it has room in all.
use Rattle.std.specs.Prelude.{ℕ, List}
use Rattle.lay_cell_work.specs.Claims.{Claim}

pub record ClaimList : Type 0 where
  pub claims : List Claim
  pub room : ℕ
