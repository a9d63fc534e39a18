-- Lines of fills, one behind another. Assumes nothing.
use Prim.Native.Nat.{ℕ, ◌+◌, ◌*◌, ◌≤◌}
use mathlib.Core.Path.{◌≡◌, refl, sym, ap, subst, ◌∙◌}
use mathlib.Core.List.{List, [], ◌∷◌, ◌++◌, append_assoc, append-nil}
use native.Mathlib.Omega.{arith}
use native.Mathlib.Numerals.{add-one}
use lib.ListN.{length, length-append}
use Rattle.rules.specs.Rules as rule
use Rattle.rows.specs.Rows.{fill_row, row_at, listed}
use Rattle.rows.proofs.Places.{listed_more, listed_length}
use Rattle.overlay.specs.Over.{Put}
use Rattle.overlay.proofs.Over.{put_more, put_none}
use Rattle.text.specs.Text.{fill_line}
use Rattle.text.proofs.Lines.{fill_length}
use Rattle.feed.specs.Feed.{fill_lines}

lines_append : (l m : List (rule.Fill (Unit {0}))) → fill_lines (l ++ m) ≡ fill_lines l ++ fill_lines m
unfolding fill_lines
lines_append [] m = refl
lines_append (f ∷ l) m = ap (λ (x : List ℕ). fill_line f ++ x) (lines_append l m) ∙ sym (append_assoc (fill_line f) (fill_lines l) (fill_lines m))

lines_length : (l : List (rule.Fill (Unit {0}))) → length (fill_lines l) ≤ length l * 79
unfolding fill_lines
lines_length [] = omega arith
lines_length (f ∷ l) = omega (arith, length-append (fill_line f) (fill_lines l), fill_length f, lines_length l)

one_line : (f : rule.Fill (Unit {0})) → fill_lines (f ∷ []) ≡ fill_line f
unfolding fill_lines
one_line f = append-nil (fill_line f)

-- nothing put
pub none_put : (l : List ℕ) (a : ℕ) (rows : List ℕ) → a ≤ length l → Put l a (fill_lines (listed fill_row rows 0)) l a
unfolding fill_lines listed
none_put l a rows h = put_none l a h

-- one line more
pub line_more : (rows : List ℕ) (i : ℕ) {l l' l'' : List ℕ} {a b c : ℕ} → Put l a (fill_lines (listed fill_row rows i)) l' b → Put l' b (fill_line (row_at fill_row rows i)) l'' c
    → Put l a (fill_lines (listed fill_row rows (i + 1))) l'' c
line_more rows i {l} {l'} {l''} {a} {b} {c} p q =
    let e : fill_lines (listed fill_row rows (i + 1)) ≡ fill_lines (listed fill_row rows i) ++ fill_line (row_at fill_row rows i) =
    ap (λ (n : ℕ). fill_lines (listed fill_row rows n)) (add-one i)
    ∙ ap fill_lines (listed_more fill_row rows i)
    ∙ lines_append (listed fill_row rows i) (row_at fill_row rows i ∷ [])
    ∙ ap (λ (x : List ℕ). fill_lines (listed fill_row rows i) ++ x) (one_line (row_at fill_row rows i)) in
    subst (λ (x : List ℕ). Put l a x l'' c) (sym e) (put_more p q)

-- where the lines of the first i fills end
pub lines_end : (rows : List ℕ) (i : ℕ) {l l' : List ℕ} {a b : ℕ} → Put l a (fill_lines (listed fill_row rows i)) l' b → b ≤ a + i * 79
lines_end rows i p = omega (arith, p.next, lines_length (listed fill_row rows i), listed_length fill_row rows i)
