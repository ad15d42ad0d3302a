pub mod AtomicExtents
pub mod CutParts
pub mod Disjunctions
pub mod Heads
pub mod SeenPens
pub mod ShownBoxes
pub mod TextStretches
pub mod SeenRows
