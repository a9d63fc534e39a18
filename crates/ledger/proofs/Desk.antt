-- From one side to the whole desk: the lists are those that storage says. Assumes nothing.
use Prim.Native.Nat.{ℕ, ◌+◌, ◌-◌, ◌/◌, ◌<◌, ◌≤◌}
use mathlib.Core.List.{List, [], ◌∷◌}
use mathlib.Core.Path.{ap, sym, ◌≡◌}
use native.Mathlib.Omega.{arith}
use lib.ListN.{length}
use Rattle.rules.specs.Rules.{Book, ask, bid}
use Rattle.records.specs.Rows.{record_count}
use Rattle.arena.specs.Free.{Chain}
use Rattle.arena.specs.Times.{times}
use Rattle.side.specs.Doors.{RoomFor}
use Rattle.side.specs.Levels.{Lvl, ups}
use Rattle.side.specs.Read.{free_in, levels_in}
use Rattle.side.proofs.Own.{own_free, own_one, own_two}
use Rattle.ledger.specs.Desk.{LedgerIn, Leaves, Ledger, book_of, stored_book}
use Rattle.ledger.specs.Doors.{CanJoin, CanQuit, Joins, Quits, drop_in, rest_in}
use Rattle.ledger.proofs.Frame.{all_swapped}

-- ## The whole desk
pub leaves : {n : ℕ} {rs bd ak se : List ℕ} {nb na f r : ℕ} {bw aw : List Lvl} {fr : List ℕ} {k : Book (Unit {0})} → Ledger n rs bd ak se nb na f r bw aw fr → book_of bid rs se bw aw ≡ k → Leaves k rs bd ak se r f nb na
leaves {n} {rs} {bd} {ak} {se} {nb} {na} {f} {r} {bw} {aw} {fr} {k} a e =
    let z : length rs / 5 ≡ n = omega (arith, a.stored.rows) in
    record {
      desk = rw z (rw (← own_one a.stored, ← own_two a.stored, ← own_free a.stored) a);
      book = rw z (rw (← own_one a.stored, ← own_two a.stored) e);
    }

pub free_head : {n : ℕ} {rs lv ov se : List ℕ} {s t f r : ℕ} {ws vs : List Lvl} {fr : List ℕ} → Ledger n rs lv ov se s t f r ws vs fr → r < n → (l : List ℕ) × (fr ≡ f ∷ l)
free_head {rs = rs} {f = f} {ws = ws} {vs = vs} {fr = fr} a h = go fr a.stored.free (omega (arith, a.stored.full, a.stored.rest))
  where
    go : (l : List ℕ) → Chain rs f l → 1 ≤ length l → (m : List ℕ) × (l ≡ f ∷ m)
    go [] c o = absurd (let z : ⊥ = omega arith in z)
    go (d ∷ l) c o = (l, ap (λ (x : ℕ). x ∷ l) (sym c.0))

module _ {rs bd ak se : List ℕ} {r f nb na : ℕ} (w : LedgerIn rs bd ak se r f nb na) where
  abbrev bw : List Lvl
  bw = levels_in rs bd nb

  abbrev aw : List Lvl
  aw = levels_in rs ak na

  module _ (h : r < record_count rs) where
    first : (l : List ℕ) × (free_in rs f ≡ f ∷ l)
    first = free_head w h

    with_first : Ledger (record_count rs) rs bd ak se nb na f r bw aw (f ∷ first.0)
    with_first = rw first.1 at w

    pub can_bid : (p : ℕ) → RoomFor bd nb p → CanJoin rs bd se nb f p
    can_bid p o = record { n = record_count rs; ov = ak; t = na; r = r; ws = bw; vs = aw; fr = first.0; all = with_first; room = o }

    pub can_ask : (p : ℕ) → RoomFor ak na p → CanJoin rs ak se na f p
    can_ask p o = record { n = record_count rs; ov = bd; t = nb; r = r; ws = aw; vs = bw; fr = first.0; all = all_swapped with_first; room = o }

    pub rest_bid : {id q p s' f' : ℕ} {rs' bd' se' : List ℕ} → Joins rs bd se nb f id q p rs' bd' se' s' f' → Leaves (rest_in bid id q p (stored_book rs bd ak se nb na)) rs' bd' ak se' (r + 1) f' s' na
    rest_bid j = leaves (j.all with_first) (λ k. record { bids = j.own with_first bid k; asks = j.other with_first ask k })

    pub rest_ask : {id q p s' f' : ℕ} {rs' ak' se' : List ℕ} → Joins rs ak se na f id q p rs' ak' se' s' f' → Leaves (rest_in ask id q p (stored_book rs bd ak se nb na)) rs' bd ak' se' (r + 1) f' nb s'
    rest_ask j = leaves (all_swapped (j.all (all_swapped with_first))) (λ k. record { bids = j.other (all_swapped with_first) bid k; asks = j.own (all_swapped with_first) ask k })

  pub can_quit_ask : (c : ℕ) → 1 ≤ times c (ups aw) → CanQuit rs ak se na f c
  can_quit_ask c i = record { n = record_count rs; ov = bd; t = nb; r = r; ws = aw; vs = bw; fr = free_in rs f; all = all_swapped w; inside = i }

  pub drop_bid : {c s' f' : ℕ} {rs' bd' se' : List ℕ} → 1 ≤ times c (ups bw) → Quits rs bd se nb f c rs' bd' se' s' f' → Leaves (drop_in bid c rs se bw aw) rs' bd' ak se' (r - 1) f' s' na
  drop_bid i j = leaves (j.all w i) (λ k. record { bids = j.own w i bid k; asks = j.other w i ask k })

  pub drop_ask : {c s' f' : ℕ} {rs' ak' se' : List ℕ} → 1 ≤ times c (ups aw) → Quits rs ak se na f c rs' ak' se' s' f' → Leaves (drop_in ask c rs se bw aw) rs' bd ak' se' (r - 1) f' nb s'
  drop_ask i j = leaves (all_swapped (j.all (all_swapped w) i)) (λ k. record { bids = j.other (all_swapped w) i bid k; asks = j.own (all_swapped w) i ask k })
