pub mod MeaningLemmas
pub mod ValueLemmas
pub mod CountLemmas
pub mod DepthLemmas
