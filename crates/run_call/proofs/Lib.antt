pub mod Ended
mod Written
