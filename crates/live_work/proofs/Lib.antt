pub mod Fits
pub mod Working
pub mod Teams
pub mod PlainFits
