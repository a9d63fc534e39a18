-- What tying a node does to the links, the other columns and the lengths. Assumes nothing.
use Prim.Native.Nat.{suc, zero, ℕ, ◌*◌, ◌+◌, ◌-◌, ◌<◌, ◌≤◌}
use mathlib.Core.List.{List}
use mathlib.Core.Logic.{◌≢◌}
use mathlib.Core.Path.{refl, ◌∙◌, ◌≡◌}
use native.Mathlib.Omega.{arith}
use lib.Dec.{eqb}
use lib.ListN.{get_or, length, length-set}
use lib.Seq.{get_or-set_other, get_or-set_same}
use Rattle.rules.specs.Whole.{one}
use Rattle.records.specs.Rows.{RecordAt, field, put}
use Rattle.records.proofs.Rows.{field_column, field_record, field_same}
use Rattle.arena.specs.Links.{appended, link, link_lv, link_rs, untied}
use Rattle.arena.specs.Times.{times}
use Rattle.arena.proofs.Times.{one_other}

-- node p tied to v, where it is a record's or the row's at `at`
module _ (rs lv : List ℕ) (f at p v : ℕ) (col : f < 5) (row : at < length lv) (rec : 1 ≤ p → RecordAt rs p) where
  pub tie_same : link (link_rs rs f p v) f (get_or (link_lv lv at p v) at 0) p ≡ v
  tie_same = go p rec
    where
      go : (p : ℕ) → (1 ≤ p → RecordAt rs p) → link (link_rs rs f p v) f (get_or (link_lv lv at p v) at 0) p ≡ v
      go zero h = get_or-set_same lv at v 0 row
      go (suc r) h = field_same rs f (suc r) v col (h (omega arith))

-- its other nodes
pub tie_off : (rs lv : List ℕ) (f at p v x : ℕ) → f < 5 → x ≢ p → link (link_rs rs f p v) f (get_or (link_lv lv at p v) at 0) x ≡ link rs f (get_or lv at 0) x
tie_off rs lv f at zero v zero h n = absurd (n refl)
tie_off rs lv f at zero v (suc x) h n = refl
tie_off rs lv f at (suc p) v zero h n = refl
tie_off rs lv f at (suc p) v (suc x) h n = field_record rs f f (suc p) (suc x) v h h (omega arith) (omega arith) n

-- the other column
pub tie_column : (rs lv : List ℕ) (f g at to p v x : ℕ) → f < 5 → g < 5 → g ≢ f → to ≢ at → link (link_rs rs f p v) g (get_or (link_lv lv at p v) to 0) x ≡ link rs g (get_or lv to 0) x
tie_column rs lv f g at to zero v zero h i m n = get_or-set_other lv at to v 0 n
tie_column rs lv f g at to zero v (suc x) h i m n = refl
tie_column rs lv f g at to (suc p) v zero h i m n = refl
tie_column rs lv f g at to (suc p) v (suc x) h i m n = field_column rs f g (suc p) (suc x) v h i m

-- what is no link stays, and so do lengths
pub tie_field : (rs : List ℕ) (f g p v x : ℕ) → f < 5 → g < 5 → g ≢ f → field (link_rs rs f p v) g x ≡ field rs g x
tie_field rs f g zero v x h i m = refl
tie_field rs f g (suc p) v x h i m = field_column rs f g (suc p) x v h i m

pub tie_row : (lv : List ℕ) (at to p v : ℕ) → to ≢ at → get_or (link_lv lv at p v) to 0 ≡ get_or lv to 0
tie_row lv at to zero v n = get_or-set_other lv at to v 0 n
tie_row lv at to (suc p) v n = refl

pub tie_rs_length : (rs : List ℕ) (f p v : ℕ) → length (link_rs rs f p v) ≡ length rs
tie_rs_length rs f zero v = refl
tie_rs_length rs f (suc p) v = length-set rs ((suc p - 1) * 5 + f) v

pub tie_lv_length : (lv : List ℕ) (at p v : ℕ) → length (link_lv lv at p v) ≡ length lv
tie_lv_length lv at zero v = length-set lv at v
tie_lv_length lv at (suc p) v = refl

pub link_frame : (rs ss : List ℕ) (f h : ℕ) (l : List ℕ) → ((x : ℕ) → 1 ≤ times x l → field rs f x ≡ field ss f x) → (x : ℕ) → 1 ≤ one (eqb x 0) + times x l → link rs f h x ≡ link ss f h x
link_frame rs ss f h l a zero i = refl
link_frame rs ss f h l a (suc r) i = a (suc r) (omega (arith, one_other (suc r) 0 (omega arith)))

pub link_some : (rs : List ℕ) (f h x : ℕ) → 1 ≤ x → link rs f h x ≡ field rs f x
link_some rs f h zero i = absurd (let z : ⊥ = omega arith in z)
link_some rs f h (suc x) i = refl

pub tie_record : (rs : List ℕ) (f p v x : ℕ) → f < 5 → 1 ≤ x → (1 ≤ p → x ≢ p) → field (link_rs rs f p v) f x ≡ field rs f x
tie_record rs f zero v x h i n = refl
tie_record rs f (suc p) v x h i n = field_record rs f f (suc p) x v h h (omega arith) i (n (omega arith))

pub untied_field : (rs : List ℕ) (g p n x : ℕ) → g < 3 → field (untied rs p n) g x ≡ field rs g x
untied_field rs g p n x h = tie_field (link_rs rs 3 p n) 4 g n p x (omega arith) (omega arith) (omega arith) ∙ tie_field rs 3 g p n x (omega arith) (omega arith) (omega arith)

-- columns 0, 1, 2 stay, of every record
pub appended_field : (rs : List ℕ) (g t c x : ℕ) → g < 3 → field (appended rs t c) g x ≡ field rs g x
appended_field rs g t c x h =
    field_column (put (link_rs rs 3 t c) 3 c 0) 4 g c x t (omega arith) (omega arith) (omega arith) ∙ (field_column (link_rs rs 3 t c) 3 g c x 0 (omega arith) (omega arith) (omega arith) ∙ tie_field rs 3 g t c x (omega arith) (omega arith) (omega arith))

pub appended_length : (rs : List ℕ) (t c : ℕ) → length (appended rs t c) ≡ length rs
appended_length rs t c = length-set (put (link_rs rs 3 t c) 3 c 0) ((c - 1) * 5 + 4) t ∙ (length-set (link_rs rs 3 t c) ((c - 1) * 5 + 3) 0 ∙ tie_rs_length rs 3 t c)
