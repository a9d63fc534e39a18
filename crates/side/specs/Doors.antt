-- What becomes of a side's levels where an order leaves it or comes to rest, and the doors of one side, for whatever the other side is:
-- what each asks, and what it does to the stored book and to the columns of the records. Assumes nothing.
use Rattle.std.specs.Prelude.{ℕ, ◌*◌, ◌+◌, ◌-◌, ◌<◌, ◌≤◌, cond, List, [], ◌++◌, ◌∷◌, ◌≢◌, ◌≡◌, eqb, ltb, length}
use Rattle.records.specs.Rows.{field}
use Rattle.arena.specs.Links.{price_of}
use Rattle.arena.specs.Ring.{cut}
use Rattle.arena.specs.Times.{times}
use Rattle.side.specs.Levels.{Lvl, ups}
use Rattle.side.specs.Stored.{Stored}

-- a level with the queue q, or none where q is empty
abbrev pub keep_level : ℕ → List ℕ → List Lvl → List Lvl
keep_level p [] ws = ws
keep_level p (x ∷ q) ws = record { price = p; queue = x ∷ q } ∷ ws

-- the levels once c has left
abbrev pub without : ℕ → List Lvl → List Lvl
without c [] = []
without c (w ∷ ws) = cond (ltb 0 (times c w.queue)) (keep_level w.price (cut c w.queue) ws) (w ∷ without c ws)

-- the levels once c has come to rest at price p
abbrev pub resting : ℕ → ℕ → List Lvl → List Lvl
resting c p [] = record { price = p; queue = c ∷ [] } ∷ []
resting c p (w ∷ ws) =
    cond (ltb w.price p) (w ∷ resting c p ws)
    (cond (eqb w.price p) (record { price = w.price; queue = w.queue ++ c ∷ [] } ∷ ws) (record { price = p; queue = c ∷ [] } ∷ w ∷ ws))

-- ## An order leaves: c is among the codes of the side
pub record CanDiscard (rs lv : List ℕ) (s f c : ℕ) : Type 0 where
  pub n : ℕ
  pub ov : List ℕ
  pub t : ℕ
  pub r : ℕ
  pub ws : List Lvl
  pub vs : List Lvl
  pub fr : List ℕ
  pub stored : Stored n rs lv ov s t f r ws vs fr
  pub inside : 1 ≤ times c (ups ws)

pub record Discards (rs lv : List ℕ) (s f c : ℕ) (rs' lv' : List ℕ) (s' f' : ℕ) : Type 0 where
  pub stored : {n : ℕ} {ov : List ℕ} {t r : ℕ} {ws vs : List Lvl} {fr : List ℕ} → Stored n rs lv ov s t f r ws vs fr → 1 ≤ times c (ups ws)
      → Stored n rs' lv' ov s' t f' (r - 1) (without c ws) vs (c ∷ fr)
  pub fields : (g x : ℕ) → g < 3 → 1 ≤ x → x ≢ c → field rs' g x ≡ field rs g x
  pub ids : (x : ℕ) → field rs' 0 x ≡ field rs 0 x

-- a price new to the side has room
abbrev pub RoomFor : List ℕ → ℕ → ℕ → Type 0
RoomFor lv n p = ((i : ℕ) → i < n → price_of lv i ≢ p) → n * 3 + 3 ≤ length lv

-- ## An order comes to rest: c is the first free place
pub record CanRest (rs lv : List ℕ) (s c p : ℕ) : Type 0 where
  pub n : ℕ
  pub ov : List ℕ
  pub t : ℕ
  pub r : ℕ
  pub ws : List Lvl
  pub vs : List Lvl
  pub fr : List ℕ
  pub stored : Stored n rs lv ov s t c r ws vs (c ∷ fr)
  pub room : RoomFor lv s p

pub record Rests (rs lv : List ℕ) (s c id q p : ℕ) (rs' lv' : List ℕ) (s' f' : ℕ) : Type 0 where
  pub stored : {n : ℕ} {ov : List ℕ} {t r : ℕ} {ws vs : List Lvl} {fr : List ℕ} → Stored n rs lv ov s t c r ws vs (c ∷ fr)
      → Stored n rs' lv' ov s' t f' (r + 1) (resting c p ws) vs fr
  pub fields : (g x : ℕ) → g < 3 → 1 ≤ x → x ≢ c → field rs' g x ≡ field rs g x
  pub named : field rs' 0 c ≡ id
  pub holding : field rs' 1 c ≡ q
  pub priced : field rs' 2 c ≡ p
