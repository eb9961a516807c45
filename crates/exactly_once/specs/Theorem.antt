-- The central theorem. It rests on `boki_model` and `boki_machine`, and on nothing else of this crate.
pub mod ExactlyOnce
