-- What a refill makes of what is at hand of a tape: the bytes from a start up to an end of a buffer, whose first byte has an offset of the tape.
-- Assumes nothing.
use Rattle.std.specs.Prelude.{ℕ, ◌+◌, ◌≡◌, Bool, true, List, [], ◌++◌, take, drop}

pub data Refilled (l : List ℕ) (start end base : ℕ) (last : Bool) (l' : List ℕ) (start' end' base' : ℕ) (last' : Bool) : Type 0 where
  -- enough is at hand, or no more comes
  same : l' ≡ l → start' ≡ start → end' ≡ end → base' ≡ base → last' ≡ last → Refilled l start end base last l' start' end' base' last'
  -- the bytes at hand move to the front, with their offset, and those that came stand behind them; where none came the tape may have ended
  more : (came : List ℕ) → start' ≡ 0 → base' ≡ base + start → take end' l' ≡ drop start (take end l) ++ came → (last' ≡ true → came ≡ [])
      → Refilled l start end base last l' start' end' base' last'
