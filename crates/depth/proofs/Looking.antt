-- The order that the search finds under an id is the one that the rules find in the book. Assumes nothing.
use Prim.Native.Nat.{ℕ, ◌+◌, ◌≤◌}
use mathlib.Core.Bool.{Bool, false, true, ◌&&◌}
use mathlib.Core.List.{List, [], ◌∷◌}
use mathlib.Core.Logic.{◌≢◌, ⊎_elim}
use mathlib.Core.Option.{Option, none, some}
use mathlib.Core.Path.{ap, refl, sym, ◌∙◌, ◌≡◌}
use native.Mathlib.Omega.{arith}
use lib.Dec.{eqb, ltb}
use lib.ListN.{length}
use borrow.Author.Tests.{eq-eqb, eqb-true, ltb-false, ltb-true}
use Rattle.std.proofs.lemmas.Bool.{and_from, true≢false}
use Rattle.rules.specs.Rules as rule
use Rattle.rules.specs.Rules.{ask, bid, either}
use Rattle.rules.specs.Whole.{one}
use Rattle.records.specs.Rows.{RecordAt, field}
use Rattle.search.specs.Seek.{at, home, entry_for, sought}
use Rattle.search.proofs.Entries.{found_at, inside_row}
use Rattle.search.proofs.Walks.{finds, stops_is}
use Rattle.arena.specs.Times.{times}
use Rattle.arena.proofs.Times.{one_self}
use Rattle.side.specs.Levels.{Lvl, ups}
use Rattle.side.specs.Orders.{codes, orders}
use Rattle.side.specs.Read.{levels_in}
use Rattle.side.proofs.Orders.{codes_times}
use Rattle.side.proofs.Stored.{at_most_one}
use Rattle.ledger.specs.Desk.{LedgerIn, stored_book, found}

-- what is found is a record
pub found_row : (se : List ℕ) {rs : List ℕ} (id : ℕ) {c : ℕ} → c ≡ entry_for se rs id → c ≢ 0 → RecordAt rs c
found_row se {rs} id {c} e n =
    let m : entry_for se rs id ≢ 0 = λ z. n (e ∙ z) in
    let f = finds se rs id (length se) (home (length se) id) 0 m in
    rw (e, f.1) (⊎_elim (λ z. absurd (m (f.1 ∙ z))) (λ w. inside_row w.0 w.1) (stops_is rs id (at se (sought se rs id).place) f.0))

-- of these codes only c may be the one found under id
module _ (rs : List ℕ) (fnd : ℕ → Bool) (id c : ℕ) (this : (x : ℕ) → fnd x ≡ true → field rs 0 x ≡ id → x ≡ c) where
  -- where c is not
  look_none : (l : List ℕ) (o : Option (ℕ × ℕ)) → times c l ≡ 0 → rule.lookup id (orders rs fnd l) o ≡ o
  unfolding rule.lookup
  look_none [] o h = refl
  look_none (x ∷ l) o h = go (fnd x) refl (eqb (field rs 0 x) id) refl (look_none l o (omega arith))
    where
      go : (a : Bool) → fnd x ≡ a → (b : Bool) → eqb (field rs 0 x) id ≡ b → rule.lookup id (orders rs fnd l) o ≡ o
          → either (a && b) (field rs 2 x) (field rs 1 x) (rule.lookup id (orders rs fnd l) o) ≡ o
      go true e true f k = absurd (let z : x ≡ c = this x e (eqb-true (field rs 0 x) id f) in let y : ⊥ = omega (arith, h, one_self c, ap (λ (m : ℕ). one (eqb c m)) z) in y)
      go true e false f k = k
      go false e b f k = k

  -- where it is
  look_at : (l : List ℕ) (o : Option (ℕ × ℕ)) → fnd c ≡ true → field rs 0 c ≡ id → 1 ≤ times c l → rule.lookup id (orders rs fnd l) o ≡ some (field rs 2 c, field rs 1 c)
  unfolding rule.lookup
  look_at [] o p q h = absurd (let z : ⊥ = omega arith in z)
  look_at (x ∷ l) o p q h = go (fnd x) refl (eqb (field rs 0 x) id) refl (look_at l o p q)
    where
      later : (fnd x && eqb (field rs 0 x) id ≡ false) → (t : Bool) → eqb c x ≡ t → 1 ≤ times c l
      later z true e =
          let x≡c = sym (eqb-true c x e) in
          absurd (true≢false (sym (and_from (fnd x) (eqb (field rs 0 x) id) (ap fnd x≡c ∙ p) (eq-eqb (field rs 0 x) id (ap (field rs 0) x≡c ∙ q))) ∙ z))
      later z false e = omega (arith, ap one e)

      go : (a : Bool) → fnd x ≡ a → (b : Bool) → eqb (field rs 0 x) id ≡ b → (1 ≤ times c l → rule.lookup id (orders rs fnd l) o ≡ some (field rs 2 c, field rs 1 c))
          → either (a && b) (field rs 2 x) (field rs 1 x) (rule.lookup id (orders rs fnd l) o) ≡ some (field rs 2 c, field rs 1 c)
      go true e true f k = let z : x ≡ c = this x e (eqb-true (field rs 0 x) id f) in ap (λ (y : ℕ). some (field rs 2 y, field rs 1 y)) z
      go true e false f k = k (later (rw (e, f)) (eqb c x) refl)
      go false e b f k = k (later (rw e) (eqb c x) refl)

module _ {rs bd ak se : List ℕ} {r f nb na : ℕ} (w : LedgerIn rs bd ak se r f nb na) (id : ℕ) {c : ℕ} (e : c ≡ entry_for se rs id) where
  this_one : (x : ℕ) → found se rs x ≡ true → field rs 0 x ≡ id → x ≡ c
  this_one x p q = sym (eqb-true (entry_for se rs (field rs 0 x)) x p) ∙ (ap (entry_for se rs) q ∙ sym e)

  abbrev bw : List Lvl
  bw = levels_in rs bd nb

  abbrev aw : List Lvl
  aw = levels_in rs ak na

  -- nothing is found
  pub looked_none : c ≡ 0 → none ≡ rule.lookup id (stored_book rs bd ak se nb na).bids (rule.lookup id (stored_book rs bd ak se nb na).asks none)
  looked_none z =
      let o = at_most_one w.stored c in
      let y : one (eqb c 0) ≡ 1 = rw (eq-eqb c 0 z) in
      sym (look_none rs (found se rs) id c this_one (codes bid bw) _ (omega (arith, codes_times bid c bw))
      ∙ look_none rs (found se rs) id c this_one (codes ask aw) none (omega (arith, codes_times ask c aw)))

  -- an order is found, on one of the sides
  pub looked_some : c ≢ 0 → some (field rs 2 c, field rs 1 c) ≡ rule.lookup id (stored_book rs bd ak se nb na).bids (rule.lookup id (stored_book rs bd ak se nb na).asks none)
  looked_some n = sym (go (ltb 0 (times c (ups bw))) refl)
    where
      named : field rs 0 c ≡ id
      named = ap (field rs 0) e ∙ (found_at se rs (omega (arith, w.room)) id (λ z. n (e ∙ z))).1

      seen : found se rs c ≡ true
      seen = eq-eqb (entry_for se rs (field rs 0 c)) c (ap (entry_for se rs) named ∙ sym e)

      rests : 1 ≤ times c (ups bw) + times c (ups aw)
      rests = rw e (w.held id (λ z. n (e ∙ z)))

      go : (t : Bool) → ltb 0 (times c (ups bw)) ≡ t
          → rule.lookup id (stored_book rs bd ak se nb na).bids (rule.lookup id (stored_book rs bd ak se nb na).asks none) ≡ some (field rs 2 c, field rs 1 c)
      go true i = look_at rs (found se rs) id c this_one (codes bid bw) _ seen named (omega (arith, codes_times bid c bw, ltb-true 0 (times c (ups bw)) i))
      go false i =
          look_none rs (found se rs) id c this_one (codes bid bw) _ (omega (arith, codes_times bid c bw, ltb-false 0 (times c (ups bw)) i))
          ∙ look_at rs (found se rs) id c this_one (codes ask aw) none seen named (omega (arith, rests, ltb-false 0 (times c (ups bw)) i))
