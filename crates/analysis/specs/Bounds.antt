-- Bounds of terms.
use Rattle.std.specs.Prelude.{Option}
use Rattle.doc.specs.Scalar.{Scalar}

-- the bounds of a range, each where it is given
pub record Bounds : Type 0 where
  pub gt : Option Scalar
  pub gte : Option Scalar
  pub lt : Option Scalar
  pub lte : Option Scalar
