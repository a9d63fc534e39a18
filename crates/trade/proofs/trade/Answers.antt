-- `trade` is `carry_out` and then `sweep`, on the side that the order meets. Assumes nothing.
use Rattle.ledger.specs.Stock.{stock_of}
use Rattle.trade.proofs.Trading.{trade_carry, trade_sweep, trades}
use Rattle.trade.proofs.trade.Goals as goal

pub carry_out-last-requires : goal.carry_out-last-requires
carry_out-last-requires c = trade_carry c.requires c.in-Bid.is

pub sweep-requires : goal.sweep-requires
sweep-requires c = trade_sweep c.requires c.in-Bid.is c.carry_out-last.ensures

pub carry_out-last-requires-in-Ask : goal.carry_out-last-requires-in-Ask
carry_out-last-requires-in-Ask c = trade_carry c.requires c.in-Ask.is

pub sweep-requires-in-Ask : goal.sweep-requires-in-Ask
sweep-requires-in-Ask c = trade_sweep c.requires c.in-Ask.is c.carry_out-last-in-Ask.ensures

pub returns-in-Bid-clause-trades : goal.returns-in-Bid-clause-trades
returns-in-Bid-clause-trades c = trades c.requires c.in-Bid.is c.carry_out-last.ensures {k' = stock_of c.sweep.new.book} c.sweep.ensures.leaves

pub returns-in-Ask-clause-trades : goal.returns-in-Ask-clause-trades
returns-in-Ask-clause-trades c = trades c.requires c.in-Ask.is c.carry_out-last-in-Ask.ensures {k' = stock_of c.sweep-in-Ask.new.book} c.sweep-in-Ask.ensures.leaves
