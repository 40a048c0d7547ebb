pub mod GuardOrder
pub mod CandidateLaws
pub mod LeastLaws
pub mod MaskLaws
pub mod MatchLaws
pub mod SeqLaws
