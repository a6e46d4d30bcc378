-- What moves leave as it was: the length, and the cells below some index.
use Prim.Native.Nat.{ℕ, zero, suc, ◌+◌, ◌*◌, ◌≤◌, ◌<◌}
use native.Mathlib.Omega.{arith}
use mathlib.Core.Path.{◌≡◌, refl, ◌∙◌}
use mathlib.Core.Bool.{Bool, true, false, cond}
use mathlib.Core.List.{List}
use lib.Dec.{eqb}
use lib.ListN.{length, get_or, set, length-set}
use lib.Seq.{get_or-set_other}
use lib.IntN.{ℤ, pos}
use lib.Signed.{lt_z}
use Rattle.weighting.specs.declared.Weighing.{Weighing}
use Rattle.weighting.specs.Cell.{mark}
use Rattle.pattern.specs.declared.Edge.{Edge}
use Rattle.pattern.specs.Clocks.{Clocks, guards_hold, after_resets}
use Rattle.cells.specs.declared.Layout.{Layout}
use Rattle.cells.specs.Index.{code_of, clocks_at, ticked, block_at}
use Rattle.cells.proofs.Blocks.{below-block}
use Rattle.table.specs.declared.View.{View}
use Rattle.steps.specs.Steps.{edge_in}
use Rattle.table.specs.Moves.{cell_at, marked, each, moved, still, leave_of, spread_of, stay_of, visit_of, visits_of, pass_of, gain_at, place_of, places_of, row_of, rows_of, starts_of}

pub record Kept (b : ℕ) (t u : List ℤ) : Type 0 where
  pub long : length u ≡ length t
  pub same : (i : ℕ) → i < b → cell_at u i ≡ cell_at t i

pub kept_refl : (b : ℕ) (t : List ℤ) → Kept b t t
kept_refl b t = record { long = refl; same = λ i h. refl }

pub kept_trans : {b : ℕ} {t u v : List ℤ} → Kept b t u → Kept b u v → Kept b t v
kept_trans p q = record { long = q.long ∙ p.long; same = λ i h. q.same i h ∙ p.same i h }

pub kept_less : {b d : ℕ} {t u : List ℤ} → d ≤ b → Kept b t u → Kept d t u
kept_less l p = record { long = p.long; same = λ i h. p.same i (omega arith) }

pub kept_set : (b : ℕ) (t : List ℤ) (j : ℕ) (v : ℤ) → b ≤ j → Kept b t (set t j v)
kept_set b t j v l = record { long = length-set t j v; same = λ i h. get_or-set_other t j i v (pos 0) (λ e. omega arith) }

pub kept-cond : {b : ℕ} {t u v : List ℤ} (x : Bool) → Kept b t u → Kept b t v → Kept b t (cond x u v)
kept-cond true p q = p
kept-cond false p q = q

pub kept-each : (b : ℕ) (f : ℕ → List ℤ → List ℤ) → ((i : ℕ) (t : List ℤ) → Kept b t (f i t)) → (n : ℕ) (t : List ℤ) → Kept b t (each f n t)
unfolding each
kept-each b f h zero t = kept_refl b t
kept-each b f h (suc n) t = kept_trans (kept-each b f h n t) (h n (each f n t))

-- ---- the moves, from the smallest to a row

pub moved-kept : (b : ℕ) (l : Layout) (w : Weighing) (e : Edge) (to : ℕ) (cs : Clocks) (x : ℤ) (t : List ℤ) → b ≤ to → Kept b t (moved l w e to cs x t)
unfolding moved
moved-kept b l w e to cs x t h =
    kept-cond (guards_hold cs e) (kept_set b t (to + code_of l.radices (after_resets e cs)) _ (omega arith)) (kept_refl b t)

module _ (l : Layout) (w : Weighing) (n : ℕ) where
  pub turn-kept : (e : Edge) (stage : ℕ) (cs : Clocks) (x : ℤ) (t : List ℤ) → Kept ((n + 1) * l.row) t (moved l w e (block_at l (n + 1) stage e.to) cs x t)
  turn-kept e stage cs x t =
      moved-kept ((n + 1) * l.row) l w e (block_at l (n + 1) stage e.to) cs x t (below-block l (n + 1) stage e.to)

  pub leave_kept : (p : ℕ) (cs : Clocks) (x : ℤ) (e : Edge) (t : List ℤ) → Kept ((n + 1) * l.row) t (leave_of l w n p cs x e t)
  unfolding leave_of
  leave_kept p cs x e t = kept-cond (eqb e.from p) (turn-kept e 0 cs x t) (kept_refl _ t)

  pub stay-kept : (g : ℤ) (p : ℕ) (cs : Clocks) (v : ℤ) (t : List ℤ) → Kept ((n + 1) * l.row) t (stay_of l w g n p cs v t)
  unfolding stay_of
  stay-kept g p cs v t = turn-kept (still p) 1 (ticked l.radices cs) _ t

  module _ (es : List Edge) (count : ℕ) where
    pub spread_kept : (p : ℕ) (cs : Clocks) (x : ℤ) (t : List ℤ) → Kept ((n + 1) * l.row) t (spread_of l w es count n p cs x t)
    unfolding spread_of
    spread_kept p cs x t =
        kept_trans (turn-kept (still p) 1 cs x t)
        (kept-each _ (λ i. leave_of l w n p cs x (edge_in es i)) (λ i. leave_kept p cs x (edge_in es i)) count _)

    pub visit_kept : (g : ℤ) (p at k : ℕ) (cs : Clocks) (t : List ℤ) → Kept ((n + 1) * l.row) t (visit_of l w es count g n p at k cs t)
    unfolding visit_of
    visit_kept g p at k cs t =
        kept-cond (lt_z mark (cell_at t (at + k))) (spread_kept p (ticked l.radices cs) _ t) (kept_refl _ t)

    pub visits_kept : (g : ℤ) (p at m : ℕ) (t : List ℤ) → Kept ((n + 1) * l.row) t (visits_of l w es count g n p at m t)
    visits_kept g p at m t =
        kept-each _ (λ k. visit_of l w es count g n p at k (clocks_at l.radices k)) (λ k. visit_kept g p at k (clocks_at l.radices k)) m t

    pub pass_kept : (g : ℤ) (p at : ℕ) (t : List ℤ) → Kept ((n + 1) * l.row) t (pass_of l w es count g n p at t)
    unfolding pass_of
    pass_kept g p at t = kept-cond (lt_z mark g) (visits_kept g p at l.block t) (kept_refl _ t)

    pub place_kept : (g h : ℤ) (p : ℕ) (t : List ℤ) → Kept ((n + 1) * l.row) t (place_of l w es count g h n p t)
    unfolding place_of
    place_kept g h p t =
        kept_trans (pass_kept g p (block_at l n 0 p) t) (pass_kept h p (block_at l n 1 p) _)

    pub places-kept : (v : View) (m : ℕ) (t : List ℤ) → Kept ((n + 1) * l.row) t (places_of l w v es count n m t)
    places-kept v m t =
        kept-each _ (λ p. place_of l w es count (gain_at v.entered p) (gain_at v.staying p) n p) (λ p. place_kept (gain_at v.entered p) (gain_at v.staying p) p) m t

pub marked-kept : (b : ℕ) (t : List ℤ) (a n : ℕ) → b ≤ a → Kept b t (marked t a n)
unfolding marked
marked-kept b t a zero h = kept_refl b t
marked-kept b t a (suc n) h =
    kept_trans (marked-kept b t a n h) (kept_set b (marked t a n) (a + n) mark (omega arith))

pub row_kept : (l : Layout) (w : Weighing) (v : View) (es : List Edge) (count n : ℕ) (t : List ℤ) → Kept ((n + 1) * l.row) t (row_of l w v es count n t)
unfolding row_of
row_kept l w v es count n t =
    kept_trans (marked-kept ((n + 1) * l.row) t ((n + 1) * l.row) _ (omega arith))
    (places-kept l w n es count v l.places _)

-- ---- lengths

pub rows_long : (l : Layout) (w : Weighing) (v : View) (es : List Edge) (count n : ℕ) (t : List ℤ) → length (rows_of l w v es count n t) ≡ length t
unfolding rows_of
rows_long l w v es count zero t = refl
rows_long l w v es count (suc n) t =
    rows_long l w v es count n (row_of l w v es count n t) ∙ (row_kept l w v es count n t).long

pub marked-long : (t : List ℤ) (a n : ℕ) → length (marked t a n) ≡ length t
marked-long t a n = (marked-kept 0 t a n (omega arith)).long

pub starts-long : (size : ℕ) (unit : ℤ) (starts : List Bool) (p : ℕ) (t : List ℤ) → length (starts_of size unit starts p t) ≡ length t
unfolding starts_of
starts-long size unit starts zero t = refl
starts-long size unit starts (suc p) t = by (get_or starts p false) (starts-long size unit starts p t)
  where
    by : (x : Bool) → length (starts_of size unit starts p t) ≡ length t → length (cond x (set (starts_of size unit starts p t) (p * size) unit) (starts_of size unit starts p t)) ≡ length t
    by true e = length-set (starts_of size unit starts p t) (p * size) unit ∙ e
    by false e = e
