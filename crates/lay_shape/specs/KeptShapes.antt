pub mod ShapesStay
pub mod KeptBoxes
