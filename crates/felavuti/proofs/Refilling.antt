-- A refill shows what the tape has: it keeps the bytes at hand in their order, behind them stand those that came, and so a window of the tape is one again.
-- Assumes nothing.
use Prim.Native.Nat.{ℕ, ◌+◌, ◌-◌, ◌≤◌}
use mathlib.Core.Path.{◌≡◌, sym, ap, ◌∙◌}
use mathlib.Core.Bool.{Bool, true, false}
use mathlib.Core.List.{List, [], ◌++◌, append_assoc, append-nil}
use native.Mathlib.Omega.{arith}
use lib.ListN.{length, take, drop, length-drop}
use lib.Seq.{paste, take-add, take_at, drop_at, drop-drop, drop-append-le, length-take-le}
use Rattle.reel.specs.Reel.{Window}

-- the bytes at hand
at_hand : (l : List ℕ) (start end : ℕ) → start ≤ end → end ≤ length l → drop start (take end l) ≡ take (end - start) (drop start l)
at_hand l start end h g =
    let e : end ≡ start + (end - start) = omega arith in
    let n : length (take start l) ≡ start = length-take-le start l (omega arith) in
    ap (λ (k : ℕ). drop start (take k l)) e ∙ ap (drop start) (take-add start (end - start) l)
    ∙ drop_at (take start l) (take (end - start) (drop start l)) start n

moved : (l m : List ℕ) (start end : ℕ) → start ≤ end → end ≤ length l → m ≡ paste l 0 (drop start l) (end - start)
    → take (end - start) m ≡ drop start (take end l)
moved l m start end h g e =
    let n : length (take (end - start) (drop start l)) ≡ end - start = length-take-le (end - start) (drop start l) (omega (arith, length-drop start l)) in
    ap (take (end - start)) e
    ∙ take_at (take (end - start) (drop start l)) (drop (0 + (end - start)) l) (end - start) n
    ∙ sym (at_hand l start end h g)

-- what stands at the front after the bytes at hand were moved and so many came behind them
pub came_behind : (l m k : List ℕ) (start end kept came : ℕ) → start ≤ end → end ≤ length l → kept ≡ end - start
    → m ≡ paste l 0 (drop start l) (end - start) → take kept k ≡ take kept m
    → take (kept + came) k ≡ drop start (take end l) ++ take came (drop kept k)
came_behind l m k start end kept came h g n e f =
    take-add kept came k
    ∙ ap (λ (x : List ℕ). x ++ take came (drop kept k)) (f ∙ ap (λ (i : ℕ). take i m) n ∙ moved l m start end h g e)

-- the same where none came
pub kept_alone : (l m k : List ℕ) (start end kept : ℕ) → start ≤ end → end ≤ length l → kept ≡ end - start
    → m ≡ paste l 0 (drop start l) (end - start) → take kept k ≡ take kept m
    → take kept k ≡ drop start (take end l) ++ []
kept_alone l m k start end kept h g n e f =
    f ∙ ap (λ (i : ℕ). take i m) n ∙ moved l m start end h g e ∙ sym (append-nil (drop start (take end l)))

-- the bytes that came are the tape's next: so what is at hand is a part of the tape again
pub window_again : (t l l' came rest : List ℕ) (start end base end' : ℕ) (last' : Bool) → start ≤ end → end ≤ length l → Window t base (take end l) false
    → take end' l' ≡ drop start (take end l) ++ came → drop (base + end) t ≡ came ++ rest → (last' ≡ true → rest ≡ [])
    → Window t (base + start) (take end' l') last'
window_again t l l' came rest start end base end' last' h g v e next over =
    let n : length (take end l) ≡ end = length-take-le end l g in
    let r : v.rest ≡ came ++ rest =
    sym (drop_at (take end l) v.rest end n) ∙ ap (drop end) (sym v.bytes) ∙ drop-drop end base t ∙ next in
    record {
      rest = rest;
      bytes = sym (drop-drop start base t)
          ∙ ap (drop start) v.bytes
          ∙ drop-append-le start (take end l) v.rest (omega (arith, n))
          ∙ ap (λ (x : List ℕ). drop start (take end l) ++ x) r
          ∙ sym (append_assoc (drop start (take end l)) came rest)
          ∙ ap (λ (x : List ℕ). x ++ rest) (sym e);
      ends = over;
    }
