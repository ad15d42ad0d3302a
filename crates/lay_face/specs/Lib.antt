pub mod Clusters
pub mod FaceValue
pub mod Faces
pub mod Laws
pub mod PlainTexts
pub mod FirstEntries
