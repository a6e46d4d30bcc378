-- A piece of more than high + 1 ticks: the later ones see all the same, so that the table and its report stand still.
use Prim.Native.Nat.{ℕ, suc, ◌+◌, ◌≤◌}
use native.Mathlib.Omega.{arith}
use mathlib.Core.Path.{◌≡◌, refl, sym, ap, ◌∙◌}
use mathlib.Core.List.{List, Memᴰ}
use mathlib.Core.Bool.{true}
use lib.IntN.{ℤ}
use Rattle.weighting.proofs.Weightings.{weighting_of}
use Rattle.pattern.specs.declared.Pattern.{Pattern}
use Rattle.pattern.specs.Sound.{sound_of}
use Rattle.pattern.specs.Clocks.{Clocks}
use Rattle.pattern.specs.Distance.{Sample}
use Rattle.walks.specs.Automaton.{State}
use Rattle.walks.specs.Tables.{Table}
use Rattle.walks.proofs.Still.{still, still-reports}
use Rattle.book.specs.Automaton.{same_clocks, held_automaton}
use Rattle.book.specs.View.{tick_view}
use Rattle.monitor.specs.Cells.{cell_states, held_by}
use Rattle.monitor.specs.Tick.{ticks_later, report_of}
use Rattle.monitor.specs.Feed.{piece_view}
use Rattle.monitor.specs.Still.{PieceStill, PieceReports}
use Rattle.monitor.proofs.CellLaws.{of_cells}
use Rattle.monitor.proofs.Written.{written_same}

module _ (p : Pattern) (sound : sound_of p ≡ true) (last vs : Sample) (t : List ℤ) where
  -- the table after n ticks of the piece
  abbrev meant : ℕ → Table ℤ Clocks
  meant n = ticks_later p (piece_view p last vs) (held_by p t) n

  alike : (n : ℕ) → piece_view p last vs (suc n) ≡ tick_view p vs vs
  unfolding piece_view
  alike n = refl

  short : (s : State Clocks) → Memᴰ s (cell_states p) → s.len ≤ p.high
  short s m = (of_cells p sound s m).low

  up : p.high + 1 ≡ suc p.high
  up = omega arith

  more : (n : ℕ) → p.high + 1 + n ≡ suc p.high + n
  more n = omega arith

  cell-stands : (n : ℕ) (s : State Clocks) → Memᴰ s (cell_states p) → meant (p.high + 1 + n) s ≡ meant (p.high + 1) s
  cell-stands n s m =
      ap (λ (k : ℕ). meant k s) (more n)
      ∙ still (weighting_of p.weighing) (held_automaton p) same_clocks p.high (cell_states p) (piece_view p last vs) (tick_view p vs vs) alike (held_by p t) n s (short s m)
      ∙ ap (λ (k : ℕ). meant k s) (sym up)

  report-stands : (n : ℕ) → report_of p (meant (p.high + 1 + n)) ≡ report_of p (meant (p.high + 1))
  report-stands n =
      ap (λ (k : ℕ). report_of p (meant k)) (more n)
      ∙ still-reports (weighting_of p.weighing) (held_automaton p) same_clocks p.high (cell_states p) short p.low (piece_view p last vs) (tick_view p vs vs) alike (held_by p t) n
      ∙ ap (λ (k : ℕ). report_of p (meant k)) (sym up)

pub piece-still : PieceStill
piece-still p sound last vs t n = written_same p _ _ t (cell-stands p sound last vs t n)

pub piece-reports : PieceReports
piece-reports p sound last vs t n = report-stands p sound last vs t n
