-- What begins some bytes, by the tests in their order. Assumes nothing.
use Prim.Native.Nat.{ℕ, ◌+◌, ◌<◌}
use mathlib.Core.Path.{◌≡◌, refl, ◌∙◌}
use mathlib.Core.Bool.{Bool, true, false, not, cond}
use mathlib.Core.List.{List, [], ◌∷◌}
use native.Mathlib.Omega.{arith}
use lib.Dec.{eqb}
use lib.ListN.{length}
use borrow.Author.Tests.{eq-eqb, ne_eqb}
use Rattle.rules.specs.Rules.{first_of}
use Rattle.std.specs.Prelude.{Option, None, Some, Result, Ok, Err}
use Rattle.fields.specs.declared.Header.{Header}
use Rattle.fields.specs.declared.Stump.{Stump}
use Rattle.fields.specs.Fields.{header, tag_in, length_in, value_in, stump, cut_off, front_of}
use Rattle.tape.specs.Orders.{length_of, order_in, odd_side, checks, Item, order, refused, nothing, unless_refused, item}

-- the order, if every test is passed
abbrev pub meant : List ℕ → Item
meant l = order (order_in (tag_in l) (value_in l)) (header + length_in l)

-- a field whose side is none
abbrev pub odd_in : List ℕ → Bool
odd_in l = odd_side (tag_in l) (value_in l)

-- the header that begins a field, and what stands in its place
abbrev pub begun : Header → Result (Option Header) Stump
begun h = Ok (Some h)

abbrev pub short : Result (Option Header) Stump
short = Err (record {})

abbrev pub header_in : List ℕ → Header
header_in l = record { tag = tag_in l; length = length_in l }

-- the tests with their results
abbrev pub results : Bool → Bool → Bool → Bool → Bool → List (ℕ × Bool)
results a b c d e = (11, a) ∷ (8, b) ∷ (9, c) ∷ (11, d) ∷ (10, e) ∷ []

pub judged : (l : List ℕ) → 0 < length l → item l ≡ unless_refused (first_of (results (stump l) (eqb (length_of (tag_in l)) 0) (not (eqb (length_in l) (length_of (tag_in l)))) (cut_off l) (odd_in l))) (meant l)
unfolding item checks
judged [] h = absurd (let x : ⊥ = omega arith in x)
judged (b ∷ l) h = refl

pub item_end : (l : List ℕ) → Ok None ≡ front_of l → item l ≡ nothing
unfolding item
item_end [] e = refl
item_end (b ∷ l) e = absurd (go (stump (b ∷ l)) e)
  where
    go : (s : Bool) → Ok None ≡ cond s short (begun (header_in (b ∷ l))) → ⊥
    go true e = let z : ◌≡◌ {A = ℕ} 0 1 = cc in omega arith
    go false e = let z : ◌≡◌ {A = ℕ} 0 1 = cc in omega arith

pub item_stump : (l : List ℕ) → short ≡ front_of l → item l ≡ refused 11
unfolding item checks first_of
item_stump [] e = absurd (let z : ◌≡◌ {A = ℕ} 0 1 = cc in let x : ⊥ = omega arith in x)
item_stump (b ∷ l) e = go (stump (b ∷ l)) refl e
  where
    go : (s : Bool) → stump (b ∷ l) ≡ s → short ≡ cond s short (begun (header_in (b ∷ l))) → item (b ∷ l) ≡ refused 11
    go true p e = rw p
    go false p e = absurd (let z : ◌≡◌ {A = ℕ} 0 1 = cc in let x : ⊥ = omega arith in x)

-- tag and length are there
pub record Headed (l : List ℕ) (t n : ℕ) : Type 0 where
  pub some : 0 < length l
  pub whole : stump l ≡ false
  pub tag : t ≡ tag_in l
  pub said : n ≡ length_in l

pub headed : (l : List ℕ) (h : Header) → begun h ≡ front_of l → Headed l h.tag h.length
headed [] h e = absurd (let z : ◌≡◌ {A = ℕ} 0 1 = cc in let x : ⊥ = omega arith in x)
headed (b ∷ l) h e = go (stump (b ∷ l)) refl e
  where
    go : (s : Bool) → stump (b ∷ l) ≡ s → begun h ≡ cond s short (begun (header_in (b ∷ l))) → Headed (b ∷ l) h.tag h.length
    go true p e = absurd (let z : ◌≡◌ {A = ℕ} 0 1 = cc in let x : ⊥ = omega arith in x)
    go false p e = record { some = omega arith; whole = p; tag = cc; said = cc }

-- ---- the tests, one after another

module _ (l : List ℕ) (p : 0 < length l) (a : stump l ≡ false) where
  pub item_unknown : length_of (tag_in l) ≡ 0 → item l ≡ refused 8
  unfolding first_of
  item_unknown b = judged l p ∙ simp (a, eq-eqb _ _ b)

  module _ (b : length_of (tag_in l) ≡ 0 → ⊥) where
    pub item_length : (length_in l ≡ length_of (tag_in l) → ⊥) → item l ≡ refused 9
    unfolding first_of
    item_length c = judged l p ∙ simp (a, ne_eqb _ _ b, ne_eqb _ _ c)

    module _ (c : length_in l ≡ length_of (tag_in l)) where
      pub item_cut : cut_off l ≡ true → item l ≡ refused 11
      unfolding first_of
      item_cut d = judged l p ∙ simp (a, ne_eqb _ _ b, eq-eqb _ _ c, d)

      pub item_side : cut_off l ≡ false → odd_in l ≡ true → item l ≡ refused 10
      unfolding first_of
      item_side d e = judged l p ∙ simp (a, ne_eqb _ _ b, eq-eqb _ _ c, d, e)

      pub item_order : cut_off l ≡ false → odd_in l ≡ false → item l ≡ meant l
      unfolding first_of
      item_order d e = judged l p ∙ simp (a, ne_eqb _ _ b, eq-eqb _ _ c, d, e)
