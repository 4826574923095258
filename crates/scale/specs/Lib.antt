pub mod Codes
pub mod Laws
pub mod MarginCode
pub mod Margins
pub mod VerdictCode
pub mod Verdicts
pub mod MarginsLemmas
