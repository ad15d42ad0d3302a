pub mod Cited
pub mod GatheredRuns
pub mod OneText
pub mod OpenInlines
pub mod PlainWords
pub mod Words
mod ClusterPlaces
