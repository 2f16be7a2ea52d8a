pub mod LeastRule
