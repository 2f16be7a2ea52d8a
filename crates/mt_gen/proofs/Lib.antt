pub mod ScriptLemmas
pub mod SummaryLemmas
