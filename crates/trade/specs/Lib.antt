pub mod Trade
