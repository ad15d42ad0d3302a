pub mod OutcomesSoFar
