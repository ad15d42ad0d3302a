-- What all contexts of a document are laid out on.
use Rattle.lay_face.specs.FaceValue.{FaceValue}
use Rattle.lay_sizes.specs.declared.sizing.ContainingBlock.{ContainingBlock}

-- the viewport, which is the containing block of the root (10.1), and the face of texts
pub record Medium : Type 0 where
  pub viewport : ContainingBlock
  pub face : FaceValue
