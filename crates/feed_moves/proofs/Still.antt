-- A piece of more than high + 1 ticks: by the law of long pieces those that are moved give the table and all reports.
use Prim.Native.Nat.{ℕ, suc, ◌+◌, ◌-◌, ◌≤◌, min}
use native.Mathlib.Omega.{arith}
use mathlib.Core.Path.{◌≡◌, refl, sym, ap, ◌∙◌}
use mathlib.Core.Logic.{◌⊎◌, inl, inr, ⊎_elim}
use mathlib.Core.List.{List, ◌++◌, map}
use mathlib.Core.Option.{Option}
use mathlib.Core.Bool.{Bool, true, false}
use borrow.Author.Tests.{leb-true, leb-false}
use lib.Dec.{leb}
use lib.ListN.{length, drop, get_or}
use lib.IntN.{ℤ}
use Rattle.pattern.specs.declared.Pattern.{Pattern}
use Rattle.pattern.specs.Sound.{sound_of}
use Rattle.pattern.specs.Clocks.{Clocks}
use Rattle.pattern.specs.Distance.{Sample}
use Rattle.walks.specs.Tables.{Table}
use Rattle.monitor.specs.Cells.{up_to, held_by, written}
use Rattle.monitor.specs.Tick.{ticks_later, report_of}
use Rattle.monitor.specs.Feed.{piece_view}
use Rattle.monitor.proofs.Numbers.{made-front}
use Rattle.monitor.proofs.Still.{piece-still, piece-reports}
use Rattle.feed_ticks.specs.Ticks.{repeated}
use Rattle.feed_ticks.proofs.Repeated.{made_alike}

module _ (p : Pattern) (sound : sound_of p ≡ true) (before vs : Sample) (t : List ℤ) where
  -- the table after n ticks of the piece
  abbrev meant : ℕ → Table ℤ Clocks
  meant n = ticks_later p (piece_view p before vs) (held_by p t) n

  -- m ticks are moved: all d, or those until the table stands still
  module _ (d m : ℕ) (is : m ≡ min d (p.high + 1)) where
    all-or : (m ≡ d) ⊎ ((m ≡ p.high + 1) × (m ≤ d))
    all-or = by (leb d (p.high + 1)) refl
      where
        by : (x : Bool) → leb d (p.high + 1) ≡ x → (m ≡ d) ⊎ ((m ≡ p.high + 1) × (m ≤ d))
        by true e = let l = leb-true d (p.high + 1) e in inl (omega arith)
        by false e = let l = leb-false d (p.high + 1) e in inr (omega arith, omega arith)

    pub table-still : written p (meant m) t ≡ written p (meant d) t
    table-still =
        ⊎_elim
        (λ e. ap (λ (n : ℕ). written p (meant n) t) e)
        (λ k.
        let a : m ≡ p.high + 1 = k.0 in
        let b : m ≤ d = k.1 in
        let y : p.high + 1 + (d - m) ≡ d = omega arith in
        ap (λ (n : ℕ). written p (meant n) t) a ∙ sym (piece-still p sound before vs t (d - m)) ∙ ap (λ (n : ℕ). written p (meant n) t) y)
        all-or

    module _ {A : Type 0} (read : Option (ℤ × ℕ) → A) (l : List A) (z : A) (room : d ≤ length l) where
      abbrev told : ℕ → A
      told i = read (report_of p (meant (suc i)))

      -- the reports of the ticks that were moved, and then the last of them
      pub reports-still : repeated (map told (up_to m) ++ drop m l) m (d - m) (get_or (map told (up_to m) ++ drop m l) (m - 1) z) ≡ map told (up_to d) ++ drop d l
      unfolding repeated
      reports-still = ⊎_elim every until all-or
        where
          every : m ≡ d → repeated (map told (up_to m) ++ drop m l) m (d - m) (get_or (map told (up_to m) ++ drop m l) (m - 1) z) ≡ map told (up_to d) ++ drop d l
          every e = let n : d - m ≡ 0 = omega arith in rw n (ap (λ (k : ℕ). map told (up_to k) ++ drop k l) e)

          until : (m ≡ p.high + 1) × (m ≤ d) → repeated (map told (up_to m) ++ drop m l) m (d - m) (get_or (map told (up_to m) ++ drop m l) (m - 1) z) ≡ map told (up_to d) ++ drop d l
          until k =
              let a : m ≡ p.high + 1 = k.0 in
              let b : m ≤ d = k.1 in
              let last : told (m - 1) ≡ read (report_of p (meant (p.high + 1))) = let x : suc (m - 1) ≡ p.high + 1 = omega arith in ap (λ (n : ℕ). read (report_of p (meant n))) x in
              let all : m + (d - m) ≡ d = omega arith in
              ap (repeated (map told (up_to m) ++ drop m l) m (d - m)) (made-front told m (m - 1) z (drop m l) (omega arith))
              ∙ made_alike told l m (told (m - 1)) z (d - m) (omega arith)
              (λ i h. (let x : suc (m + i) ≡ p.high + 1 + suc i = omega arith in ap (λ (n : ℕ). read (report_of p (meant n))) x) ∙ ap read (piece-reports p sound before vs t (suc i)) ∙ sym last)
              ∙ ap (λ (n : ℕ). map told (up_to n) ++ drop n l) all
