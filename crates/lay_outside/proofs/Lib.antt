pub mod TakenFronts
