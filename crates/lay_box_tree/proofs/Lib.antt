mod PartSteps
pub mod BoxForests
pub mod ContainerSteps
pub mod NearestContainers
pub mod OneEnd
pub mod PartEnds
