-- A stored book with its statistics, as `fulfil` knows it: the rules' desk that it reads as, and what the doors know of a whole one. Assumes nothing.
pub use Rattle.fulfil.specs.Stock.{Sound, read_desk}
