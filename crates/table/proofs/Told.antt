-- The report's definitions: one step more of each loop, and what they read of a table.
use Prim.Native.Nat.{ℕ, zero, suc, ◌+◌, ◌-◌, ◌*◌, ◌≤◌, ◌<◌}
use native.Mathlib.Omega.{arith}
use mathlib.Core.Path.{◌≡◌, refl, sym, ap, ◌∙◌}
use mathlib.Core.Bool.{Bool, true, false, cond, ◌&&◌}
use Rattle.std.specs.Prelude.{Option, None}
use mathlib.Core.List.{List}
use borrow.Author.Tests.{eq-eqb, ne_eqb}
use lib.Dec.{eqb}
use lib.ListN.{get_or}
use lib.IntN.{ℤ}
use lib.Signed.{lt_z}
use Rattle.weighting.specs.declared.Weighing.{Weighing}
use Rattle.weighting.proofs.Weightings.{weighting_of}
use Rattle.weighting.specs.Cell.{mark}
use Rattle.pattern.specs.declared.Edge.{Edge}
use Rattle.pattern.specs.Clocks.{Clocks, guards_hold}
use Rattle.cells.specs.declared.Layout.{Layout}
use Rattle.cells.specs.Layout.{Laid}
use Rattle.cells.specs.Index.{clocks_at, ticked, block_at}
use Rattle.cells.proofs.Blocks.{row_next, block-low}
use Rattle.table.specs.declared.View.{View}
use Rattle.table.specs.declared.Sent.{Sent}
use Rattle.table.specs.declared.report.Report.{Report}
use Rattle.steps.specs.Steps.{edge_in}
use Rattle.table.specs.Moves.{cell_at, cleared, each, gain_at, sent_of}
use Rattle.table.specs.Reports.{noted, told_move, told_leave, told_visit, told_visits, told_pass, told_place, told_places, tells_at, told_row, told_rows, told_of}
use Rattle.table.proofs.Kept.{Kept, kept_less, marked-kept}
use Rattle.table.proofs.Steps.{each_skip}

-- ---- edges

pub told_move_lem : (w : Weighing) (tells : List Bool) (n : ℕ) (cs : Clocks) (x : ℤ) (e : Edge) (r q : Option Report) (a b : Bool) → a ≡ guards_hold cs e → b ≡ get_or tells e.to false → q ≡ cond (a && b) (noted w r x (n + 1)) r → q ≡ told_move w tells n cs x e r
unfolding told_move
told_move_lem w tells n cs x e r q a b f g h = rw (f, g) at h

module _ (w : Weighing) (tells : List Bool) (n p : ℕ) (cs : Clocks) (x : ℤ) (e : Edge) (r : Option Report) where
  pub told_is : e.from ≡ p → told_move w tells n cs x e r ≡ told_leave w tells n p cs x e r
  unfolding told_leave
  told_is f = rw (eq-eqb e.from p f)

  pub told_no : (e.from ≡ p → ⊥) → told_leave w tells n p cs x e r ≡ r
  unfolding told_leave
  told_no f = rw (ne_eqb e.from p f)

-- ---- what is read lies in the row

-- loops whose turns agree
pub each_same : {A : Type 0} (f g : ℕ → A → A) (m : ℕ) (a : A) → ((i : ℕ) (b : A) → i < m → f i b ≡ g i b) → each f m a ≡ each g m a
unfolding each
each_same f g zero a h = refl
each_same f g (suc m) a h =
    h m (each f m a) (omega arith) ∙ ap (g m) (each_same f g m a (λ i b k. h i b (omega arith)))

module _ (l : Layout) (w : Weighing) (es : List Edge) (count : ℕ) (tells : List Bool) (n : ℕ) (t u : List ℤ) where
  pub visit_same : (g : ℤ) (p at k : ℕ) (cs : Clocks) (r : Option Report) → cell_at u (at + k) ≡ cell_at t (at + k) → told_visit l w es count tells g n p at k cs u r ≡ told_visit l w es count tells g n p at k cs t r
  unfolding told_visit
  visit_same g p at k cs r e = rw e

  module _ (kept : Kept ((n + 1) * l.row) t u) where
    pub visits_same : (g : ℤ) (p at m : ℕ) (r : Option Report) → at + m ≤ (n + 1) * l.row → told_visits l w es count tells g n p at m u r ≡ told_visits l w es count tells g n p at m t r
    visits_same g p at m r low =
        each_same (λ k. told_visit l w es count tells g n p at k (clocks_at l.radices k) u) (λ k. told_visit l w es count tells g n p at k (clocks_at l.radices k) t) m r
        (λ k b h. visit_same g p at k (clocks_at l.radices k) b (kept.same (at + k) (omega arith)))

    pub pass_same : (g : ℤ) (p at : ℕ) (r : Option Report) → at + l.block ≤ (n + 1) * l.row → told_pass l w es count tells g n p at u r ≡ told_pass l w es count tells g n p at t r
    unfolding told_pass
    pass_same g p at r low = ap (λ (x : Option Report). cond (lt_z mark g) x r) (visits_same g p at l.block r low)

    module _ (laid : Laid l) (low : n ≤ l.high) where
      block-before : (stage p : ℕ) → stage ≤ 1 → p < l.places → block_at l n stage p + l.block ≤ (n + 1) * l.row
      block-before stage p s h =
          omega (arith, row_next n l.row, block-low l n stage p (record { laid = laid; low = low; stages = s; place = h }))

      pub place_same : (g h : ℤ) (p : ℕ) (r : Option Report) → p < l.places → told_place l w es count tells g h n p u r ≡ told_place l w es count tells g h n p t r
      unfolding told_place
      place_same g h p r low =
          pass_same h p (block_at l n 1 p) (told_pass l w es count tells g n p (block_at l n 0 p) u r) (block-before 1 p (omega arith) low)
          ∙ ap (told_pass l w es count tells h n p (block_at l n 1 p) t) (pass_same g p (block_at l n 0 p) r (block-before 0 p (omega arith) low))

      pub places_same : (v : View) (m : ℕ) (r : Option Report) → m ≤ l.places → told_places l w v es count tells n m u r ≡ told_places l w v es count tells n m t r
      places_same v m r low =
          each_same (λ p. told_place l w es count tells (gain_at v.entered p) (gain_at v.staying p) n p u) (λ p. told_place l w es count tells (gain_at v.entered p) (gain_at v.staying p) n p t) m r
          (λ p b h. place_same (gain_at v.entered p) (gain_at v.staying p) p b (omega arith))

-- ---- rows

rows-below : (l : Layout) (w : Weighing) (v : View) (es : List Edge) (count : ℕ) (ends : List Bool) (low : ℕ) → Laid l → (n : ℕ) (t u : List ℤ) (r : Option Report) → n ≤ l.high → Kept (n * l.row) t u → told_rows l w v es count ends low n u r ≡ told_rows l w v es count ends low n t r
unfolding told_rows
rows-below l w v es count ends low laid zero t u r h k = refl
rows-below l w v es count ends low laid (suc n) t u r h k =
    let e : suc n ≡ n + 1 = omega arith in
    let k' : Kept ((n + 1) * l.row) t u = rw e at k in
    let f = row_next n l.row in
    rows-below l w v es count ends low laid n t u (told_row l w v es count ends low n u r) (omega arith) (kept_less (omega arith) k')
    ∙ ap (told_rows l w v es count ends low n t) (places_same l w es count _ n t u k' laid (omega arith) v l.places r (omega arith))

-- one row less
pub told_again : (l : Layout) (w : Weighing) (v : View) (es : List Edge) (count : ℕ) (ends : List Bool) (low n : ℕ) (t u : List ℤ) (r q R : Option Report) → Laid l → 0 < n → n ≤ l.high → Kept (n * l.row) t u → q ≡ told_row l w v es count ends low (n - 1) t r → told_rows l w v es count ends low n t r ≡ R → told_rows l w v es count ends low (n - 1) u q ≡ R
unfolding told_rows
told_again l w v es count ends low n t u r q R laid some h k e f =
    let s : n ≡ suc (n - 1) = omega arith in
    let g : (n - 1) * l.row ≤ n * l.row = let x = row_next (n - 1) l.row in let y : n - 1 + 1 ≡ n = omega arith in let z : (n - 1) * l.row + l.row ≡ n * l.row = sym x ∙ ap (λ (m : ℕ). m * l.row) y in omega arith in
    let f' : told_rows l w v es count ends low (suc (n - 1)) t r ≡ R = rw s at f in
    rows-below l w v es count ends low laid (n - 1) t u q (omega arith) (kept_less g k)
    ∙ rw e f'

pub told-end : (l : Layout) (w : Weighing) (v : View) (es : List Edge) (count : ℕ) (ends : List Bool) (low n : ℕ) (t : List ℤ) (r R : Option Report) → n ≡ 0 → told_rows l w v es count ends low n t r ≡ R → r ≡ R
unfolding told_rows
told-end l w v es count ends low n t r R e f = rw e at f

-- ---- a cell, a block, a place

module _ (l : Layout) (w : Weighing) (es : List Edge) (count : ℕ) (tells : List Bool) (g : ℤ) (n p at : ℕ) (t : List ℤ) where
  pub told_visit_lem : (k : ℕ) (cs : Clocks) (v : ℤ) (s : Sent) (r : Option Report) → v ≡ cell_at t (at + k) → lt_z mark (cell_at t (at + k)) ≡ true → s ≡ sent_of l w g cs v → each (λ i. told_leave w tells n p s.clocks s.worth (edge_in es i)) count r ≡ told_visit l w es count tells g n p at k cs t r
  unfolding told_visit
  told_visit_lem k cs v s r h m e = rw (m, e, h)

  pub told_visit_no : (k : ℕ) (cs : Clocks) (r : Option Report) → lt_z mark (cell_at t (at + k)) ≡ false → told_visit l w es count tells g n p at k cs t r ≡ r
  unfolding told_visit
  told_visit_no k cs r m = rw m

  -- marks are left out
  pub told_skip : (k m : ℕ) (r : Option Report) → k ≤ m → ((j : ℕ) → k ≤ j → j < m → cell_at t (at + j) ≡ mark) → told_visits l w es count tells g n p at k t r ≡ told_visits l w es count tells g n p at m t r
  told_skip k m r low h =
      let e : k + (m - k) ≡ m = omega arith in
      sym (each_skip (λ i. told_visit l w es count tells g n p at i (clocks_at l.radices i) t) (m - k) k r
      (λ j a b. told_visit_no j (clocks_at l.radices j) (told_visits l w es count tells g n p at k t r) (rw (h j a (omega arith)) refl)))
      ∙ ap (λ (i : ℕ). told_visits l w es count tells g n p at i t r) e

  pub told_pass_lem : (r q : Option Report) → lt_z mark g ≡ true → q ≡ told_visits l w es count tells g n p at l.block t r → q ≡ told_pass l w es count tells g n p at t r
  unfolding told_pass
  told_pass_lem r q m f = rw m f

  pub told_pass_no : (r : Option Report) → lt_z mark g ≡ false → r ≡ told_pass l w es count tells g n p at t r
  unfolding told_pass
  told_pass_no r m = rw m

-- a stage of a place, told of the table u, of which the rows up to n are as in t
pub stage-same : (l : Layout) (w : Weighing) (es : List Edge) (count : ℕ) (tells : List Bool) (g : ℤ) (n stage p a : ℕ) (t u : List ℤ) (r q : Option Report) → Laid l → n ≤ l.high → stage < 2 → p < l.places → a ≡ block_at l n stage p → Kept ((n + 1) * l.row) t u → q ≡ told_pass l w es count tells g n p a u r → q ≡ told_pass l w es count tells g n p (block_at l n stage p) t r
stage-same l w es count tells g n stage p a t u r q laid low two place ea kept f =
    let f' : q ≡ told_pass l w es count tells g n p (block_at l n stage p) u r = rw ea at f in
    f' ∙ pass_same l w es count tells n t u kept g p (block_at l n stage p) r (block-before l w es count tells n t u kept laid low stage p (omega arith) place)

pub told-row : (l : Layout) (w : Weighing) (v : View) (es : List Edge) (count : ℕ) (ends tells : List Bool) (low n : ℕ) (t u : List ℤ) (r q : Option Report) → Laid l → n ≤ l.high → u ≡ cleared t ((n + 1) * l.row) ((n + 1) * l.row + l.row) → tells ≡ tells_at ends low (n + 1) → q ≡ told_places l w v es count tells n l.places u r → q ≡ told_row l w v es count ends low n t r
told-row l w v es count ends tells low n t u r q laid short f g h =
    let kept : Kept ((n + 1) * l.row) t u = rw f (marked-kept ((n + 1) * l.row) t ((n + 1) * l.row) _ (omega arith)) in
    (rw g at h) ∙ places_same l w es count (tells_at ends low (n + 1)) n t u kept laid short v l.places r (omega arith)

-- ---- what every note keeps, the report has

each_keeps : {A : Type 0} (I : A → Type 0) (f : ℕ → A → A) → ((i : ℕ) (a : A) → I a → I (f i a)) → (m : ℕ) (a : A) → I a → I (each f m a)
unfolding each
each_keeps I f h zero a k = k
each_keeps I f h (suc m) a k = h m (each f m a) (each_keeps I f h m a k)

module _ (I : Option Report → Type 0) (l : Layout) (w : Weighing) (step : (r : Option Report) (v : ℤ) (n : ℕ) → 0 < n → n ≤ l.high → I r → I (noted w r v n)) where
  cond-keeps : (b : Bool) (r q : Option Report) → I r → I q → I (cond b r q)
  cond-keeps true r q h k = h
  cond-keeps false r q h k = k

  module _ (es : List Edge) (count : ℕ) (tells : List Bool) (n : ℕ) (low : n < l.high) where
    leave_keeps : (p : ℕ) (cs : Clocks) (x : ℤ) (e : Edge) (r : Option Report) → I r → I (told_leave w tells n p cs x e r)
    unfolding told_leave told_move
    leave_keeps p cs x e r h =
        cond-keeps (eqb e.from p) (cond (guards_hold cs e && get_or tells e.to false) (noted w r x (n + 1)) r) r
        (cond-keeps (guards_hold cs e && get_or tells e.to false) (noted w r x (n + 1)) r (step r x (n + 1) (omega arith) (omega arith) h) h) h

    pass_keeps : (g : ℤ) (p at : ℕ) (t : List ℤ) (r : Option Report) → I r → I (told_pass l w es count tells g n p at t r)
    unfolding told_pass told_visit
    pass_keeps g p at t r h =
        cond-keeps (lt_z mark g) (told_visits l w es count tells g n p at l.block t r) r
        (each_keeps I (λ k. told_visit l w es count tells g n p at k (clocks_at l.radices k) t)
        (λ k u z. cond-keeps (lt_z mark (cell_at t (at + k))) (each (λ i. told_leave w tells n p (ticked l.radices (clocks_at l.radices k)) ((weighting_of w).combine (cell_at t (at + k)) g) (edge_in es i)) count u) u
        (each_keeps I (λ i. told_leave w tells n p (ticked l.radices (clocks_at l.radices k)) ((weighting_of w).combine (cell_at t (at + k)) g) (edge_in es i)) (λ i. leave_keeps p _ _ (edge_in es i)) count u z) z)
        l.block r h)
        h

    row_keeps : (v : View) (t : List ℤ) (r : Option Report) → I r → I (told_places l w v es count tells n l.places t r)
    unfolding told_place
    row_keeps v t r h =
        each_keeps I (λ p. told_place l w es count tells (gain_at v.entered p) (gain_at v.staying p) n p t)
        (λ p u z. pass_keeps (gain_at v.staying p) p (block_at l n 1 p) t (told_pass l w es count tells (gain_at v.entered p) n p (block_at l n 0 p) t u) (pass_keeps (gain_at v.entered p) p (block_at l n 0 p) t u z))
        l.places r h

  rows_keep : (v : View) (es : List Edge) (count : ℕ) (ends : List Bool) (low n : ℕ) (t : List ℤ) (r : Option Report) → n ≤ l.high → I r → I (told_rows l w v es count ends low n t r)
  unfolding told_rows
  rows_keep v es count ends low zero t r h k = k
  rows_keep v es count ends low (suc n) t r h k =
      rows_keep v es count ends low n t (told_row l w v es count ends low n t r) (omega arith) (row_keeps es count (tells_at ends low (n + 1)) n (omega arith) v t r k)

  pub told-keeps : (v : View) (es : List Edge) (count : ℕ) (ends : List Bool) (low : ℕ) (t : List ℤ) → I None → I (told_of l w v es count ends low t)
  told-keeps v es count ends low t h = rows_keep v es count ends low l.high t None (omega arith) h
