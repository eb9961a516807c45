-- A version that is put in at an old position keeps the invariant.
pub mod StepOrigins
pub mod Writers
pub mod NoStepBeyond
pub mod OneVersionMore
pub mod UnmovedInvocations
pub mod VersionKeeps
