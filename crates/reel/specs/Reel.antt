-- The desk along a tape of which only a part is at hand: fields one after another, and parts one after another, whatever the parts are. Assumes nothing.
use Rattle.std.specs.Prelude.{ℕ, ◌+◌, ◌<◌, ◌≤◌, ◌≡◌, Bool, true, false, ◌⊎◌, List, [], ◌++◌, length, drop}
use Rattle.overlay.specs.Over.{Put}
use Rattle.rules.specs.Rules as rule
use Rattle.tape.specs.Orders.{longest_field}
use Rattle.tape.specs.Tape.{read_tape}
use Rattle.feed.specs.Feed.{text_of, after}
use Rattle.serve.specs.declared.State.{State}
use Rattle.serve.specs.declared.State.TheVariants.{Going}
use Rattle.serve.specs.Serve.{Keeping, desk_of, Ready, Stepped}

-- ---- fields one after another

-- a field can be read at a place of the bytes w: as many are at hand as the longest field has, or they are the tape's last
abbrev pub AtHand : List ℕ → Bool → ℕ → Type 0
AtHand w last at = (last ≡ true) ⊎ (at + longest_field ≤ length w)

-- fields served one after another from the place `at` on, as far as the place `next`; the bytes w begin at the offset `base` of the tape
pub data Served (z : rule.Size) (w : List ℕ) (base : ℕ) (last : Bool) (at : ℕ) (x : Keeping) : List ℕ → State → ℕ → Keeping → Type 0 where
  none : Served z w base last at x [] Going at x
  more : {text said : List ℕ} {mid next : ℕ} {s : State} {y x' : Keeping} → Served z w base last at x text Going mid y → AtHand w last mid
      → Stepped z w base mid y said s next x' → Served z w base last at x (text ++ said) s next x'

-- The contract of a part: what was said stands in the buffer out from the place `to` up to the place `behind`; the desk is ready again; and where the tape
-- goes on, the next field isn't at hand, or there is no room for its text in out (`room` is what any text may take).
pub record Part (z : rule.Size) (w : List ℕ) (base : ℕ) (last : Bool) (at : ℕ) (x : Keeping) (out : List ℕ) (to room : ℕ)
    (s : State) (next behind : ℕ) (x' : Keeping) (out' : List ℕ) : Type 0 where
  pub text : List ℕ
  pub served : Served z w base last at x text s next x'
  pub put : Put out to text out' behind
  pub ready : Ready z x'
  pub within : next ≤ length w
  pub paused : s ≡ Going → ((last ≡ false) × (length w < next + longest_field)) ⊎ (length out < behind + room)

-- whether a field can be read, with so many bytes at hand
pub data Handed (last : Bool) (hand : ℕ) : Bool → Type 0 where
  yes : (last ≡ true) ⊎ (longest_field ≤ hand) → Handed last hand true
  no : last ≡ false → hand < longest_field → Handed last hand false

-- whether one more field is served, with so many bytes at hand and so much room left
pub data GoesOn (s : State) (last : Bool) (hand left room : ℕ) : Bool → Type 0 where
  on : s ≡ Going → (last ≡ true) ⊎ (longest_field ≤ hand) → room ≤ left → GoesOn s last hand left room true
  off : (s ≡ Going → ((last ≡ false) × (hand < longest_field)) ⊎ (left < room)) → GoesOn s last hand left room false

-- ---- parts one after another

-- the bytes w are what the tape t has from the offset `base` on: some of it, and all of it where they are its last
pub record Window (t : List ℕ) (base : ℕ) (w : List ℕ) (last : Bool) : Type 0 where
  pub rest : List ℕ
  pub bytes : drop base t ≡ w ++ rest
  pub ends : last ≡ true → rest ≡ []

-- Parts of the tape t served one after another, from its beginning on: each window begins anywhere at or before the field where the one before it paused.
pub data Reeled (z : rule.Size) (t : List ℕ) (x : Keeping) : List ℕ → State → ℕ → Keeping → Type 0 where
  start : Reeled z t x [] Going 0 x
  refill : {text said : List ℕ} {base at next : ℕ} {w : List ℕ} {last : Bool} {s : State} {y x' : Keeping} → Reeled z t x text Going (base + at) y
      → Window t base w last → Served z w base last at y said s next x' → Reeled z t x (text ++ said) s (base + next) x'

-- what was said is the text of the whole tape, and what is left its desk
pub record Tells (z : rule.Size) (t : List ℕ) (x : Keeping) (said : List ℕ) (x' : Keeping) : Type 0 where
  pub text : said ≡ text_of z (desk_of x) (read_tape t)
  pub desk : desk_of x' ≡ after z (desk_of x) (read_tape t).orders
