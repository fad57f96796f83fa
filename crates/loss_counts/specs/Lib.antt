pub mod LossCounts
