-- A reader of the laws needs the first folder, and for the further laws the second.
pub mod Theorem
pub mod FurtherLaws
pub mod Induction
