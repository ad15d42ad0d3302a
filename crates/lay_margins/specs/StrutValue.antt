-- A strut as contracts see it.
use Rattle.std.specs.Prelude.{ℤ}

pub record StrutValue : Type 0 where
  pub positive : ℤ
  pub negative : ℤ
