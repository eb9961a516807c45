pub mod Automaton
pub mod Kept
pub mod StandardNemeses
