-- The cells of a sound pattern's table: each state that a run can be in has one, and no move leaves them.
use Prim.Native.Nat.{ℕ, zero, suc, ◌+◌, ◌≤◌, ◌<◌, min}
use native.Mathlib.Omega.{arith}
use mathlib.Core.Path.{◌≡◌, refl, sym, ap, subst, ◌∙◌}
use mathlib.Core.List.{Memᴰ}
use mathlib.Core.Bool.{Bool, true, false, cond}
use borrow.Author.Tests.{lt-ltb, ltb-true, ltb-false}
use lib.Dec.{eqb, ltb}
use lib.ListN.{length, length-map}
use Rattle.integers.proofs.Tests.{T_true}
use Rattle.pattern.specs.declared.Edge.{Edge}
use Rattle.pattern.specs.declared.Pattern.{Pattern}
use Rattle.pattern.specs.InUse.{place_at, edges_of}
use Rattle.pattern.specs.Kinds as kinds
use Rattle.pattern.specs.declared.Kind.{Kind}
use Rattle.pattern.specs.declared.Kind.TheVariants.{Start, Plain, End, Both}
use Rattle.pattern.specs.Sound.{is_plain, place_unused, sound_of, edge_sound}
use Rattle.pattern.specs.Clocks.{Clocks, later, after_resets}
use Rattle.pattern.specs.Cells.{cells_needed}
use Rattle.pattern.proofs.SoundLaws.{both, parts, edge-parts}
use Rattle.pattern.proofs.ListLaws.{length-zip}
use Rattle.record.proofs.PlaceLaws.{past-unused}
use Rattle.walks.specs.Automaton.{State, entering, stayed, taken}
use Rattle.walks.specs.Walks.{Move, stays, takes}
use Rattle.walks.specs.Tables.{Closed}
use Rattle.walks.proofs.States as states
use Rattle.book.specs.Automaton.{ceilings, held, same_clocks, held_automaton}
use Rattle.book.proofs.Ceilings.{held-by_radices}
use Rattle.book.proofs.Members.{all_member}
use Rattle.cells.specs.declared.Layout.{Layout}
use Rattle.cells.specs.Layout.{layout_of, Laid, cells_in}
use Rattle.cells.specs.Index as cell
use Rattle.cells.proofs.Layouts.{layout-laid, cells-in-layout, radix_some}
use Rattle.cells.specs.Index.{Found}
use Rattle.cells.proofs.Blocks.{found, at}
use Rattle.cells.proofs.Digits.{ticked-within, reset-within}
use Rattle.monitor.specs.Cells.{layout, state_at, index_of, cell_states, is_cell}
use Rattle.monitor.proofs.Numbers.{made_in, made-only}

module _ (p : Pattern) (sound : sound_of p ≡ true) where
  pub laid : Laid (layout p)
  laid = layout-laid p p.high sound (let h = (parts p sound).short_high in omega arith)

  pub cells_are : cells_in (layout p) ≡ cells_needed p
  unfolding cells_needed
  cells_are = cells-in-layout p p.high sound

  -- a layout that is the pattern's has its parts in order and as many cells as needed
  pub layout-made : (l : Layout) → l ≡ layout p → Laid l × (cells_in l ≡ cells_needed p)
  layout-made l e = (subst Laid (sym e) laid, ap cells_in e ∙ cells_are)

  -- a state that the table has a cell for
  pub record Celled (s : State Clocks) : Type 0 where
    pub low : s.len ≤ p.high
    pub place : s.place < p.placecount
    pub four : length s.clocks ≡ 4
    pub within : cell.Within (layout p).radices s.clocks

  stage-back : (n : ℕ) → n ≤ 1 → cond (eqb n 0) 0 1 ≡ n
  stage-back zero h = refl
  stage-back (suc zero) h = refl
  stage-back (suc (suc n)) h = absurd (omega arith)

  -- ---- numbers to states

  pub at-index : (i : ℕ) → i < cells_needed p → index_of p (state_at p i) ≡ i
  at-index i h =
      let e = cells_are in
      let a = at (layout p) i laid (omega arith) in
      rw (stage-back (cell.stage_at (layout p) i) a.placed.stages) a.index

  pub celled_at : (i : ℕ) → i < cells_needed p → Celled (state_at p i)
  unfolding cell.cell_clocks cell.clocks_at layout_of
  celled_at i h =
      let e = cells_are in
      let a = at (layout p) i laid (omega arith) in
      record { low = a.placed.low; place = a.placed.place; four = refl; within = a.within }

  -- ---- states to numbers

  stage_of_lem : (b : Bool) → eqb (cond b 0 1) 0 ≡ b
  stage_of_lem true = refl
  stage_of_lem false = refl

  stage-low : (b : Bool) → cond b 0 1 ≤ 1
  stage-low true = omega arith
  stage-low false = omega arith

  found_at : (s : State Clocks) → Celled s → Found (layout p) s.len (cond s.entered 0 1) s.place s.clocks (index_of p s)
  unfolding layout_of
  found_at s h = found (layout p) s.len (cond s.entered 0 1) s.place s.clocks (record { laid = laid; low = h.low; stages = stage-low s.entered; place = h.place }) h.four h.within

  pub index-low : (s : State Clocks) → Celled s → index_of p s < cells_needed p
  index-low s h = let e = cells_are in let f = (found_at s h).below in omega arith

  pub state-back : (s : State Clocks) → Celled s → state_at p (index_of p s) ≡ s
  state-back s h =
      let f = found_at s h in
      λ z. record { len = f.len z; entered = (ap (λ (n : ℕ). eqb n 0) f.stage_is ∙ stage_of_lem s.entered) z; place = f.place z; clocks = f.clocks z }

  pub in_cells : (s : State Clocks) → Celled s → Memᴰ s (cell_states p)
  in_cells s h =
      let z : 0 + index_of p s ≡ index_of p s = omega arith in
      subst (λ (x : State Clocks). Memᴰ x (cell_states p)) (ap (state_at p) z ∙ state-back s h) (made_in (state_at p) 0 (cells_needed p) (index_of p s) (index-low s h))

  pub of_cells : (s : State Clocks) → Memᴰ s (cell_states p) → Celled s
  of_cells s m =
      let r = made-only (state_at p) 0 (cells_needed p) s m in
      let z : 0 + r.0 ≡ r.0 = omega arith in
      subst Celled (sym (r.2 ∙ ap (state_at p) z)) (celled_at r.0 r.1)

  pub is_a_cell : (s : State Clocks) → Celled s → is_cell p s ≡ true
  unfolding is_cell
  is_a_cell s h = rw (lt-ltb _ _ (index-low s h), state-back s h) (T_true _ (states.same_self same_clocks s))

  -- ---- closed under moves

  tick_is : (cs : Clocks) → held p (later 1 cs) ≡ cell.ticked (layout p).radices cs
  unfolding cell.ticked cell.held layout_of
  tick_is cs = held-by_radices p (later 1 cs)

  tick-four : (cs : Clocks) → length cs ≡ 4 → length (held p (later 1 cs)) ≡ 4
  unfolding held
  tick-four cs h =
      let e : length (later 1 cs) ≡ 4 = length-map cs (λ c. c + 1) ∙ h in
      length-zip min (ceilings p) (later 1 cs) (sym e) ∙ e

  tick-within : (cs : Clocks) → cell.Within (layout p).radices (held p (later 1 cs))
  tick-within cs = rw (tick_is cs) (ticked-within (layout p) cs laid)

  edge_of : (e : Edge) → Memᴰ e (edges_of p) → edge_sound p.clocks p.placecount e ≡ true
  edge_of e m = all_member (edge_sound p.clocks p.placecount) (edges_of p) (parts p sound).edges.front e m

  pub stayed_celled : (s : State Clocks) → Celled s → s.len < p.high → Celled (stayed (held_automaton p) s)
  stayed_celled s h l = record { low = l; place = h.place; four = tick-four s.clocks h.four; within = tick-within s.clocks }

  pub taken_celled : (s : State Clocks) (e : Edge) → Celled s → s.len < p.high → Memᴰ e (edges_of p) → Celled (taken (held_automaton p) e s)
  unfolding after_resets
  taken_celled s e h l m =
      let k = edge_of e m in
      let f = tick-four s.clocks h.four in
      record {
        low = l;
        place = (edge-parts p.clocks p.placecount e k).to_place;
        four = length-zip _ e.resets (held p (later 1 s.clocks)) ((edge-parts p.clocks p.placecount e k).resets.long ∙ sym f) ∙ f;
        within = reset-within (layout p).radices e (held p (later 1 s.clocks)) (tick-within s.clocks);
      }

  -- a place past the last is no start
  plain_no_start : (k : Kind) → is_plain k ≡ true → kinds.is_start k ≡ true → ⊥
  plain_no_start Start e f = let z : ◌≡◌ {A = ℕ} 0 1 = cc in omega arith
  plain_no_start Plain e f = let z : ◌≡◌ {A = ℕ} 0 1 = cc in omega arith
  plain_no_start End e f = let z : ◌≡◌ {A = ℕ} 0 1 = cc in omega arith
  plain_no_start Both e f = let z : ◌≡◌ {A = ℕ} 0 1 = cc in omega arith

  past-plain : (k : ℕ) → p.placecount ≤ k → is_plain (place_at p k).kind ≡ true
  unfolding place_unused
  past-plain k h = (both _ _ (both _ _ (past-unused p sound k h)).0).0

  start-low : (k : ℕ) → kinds.is_start (place_at p k).kind ≡ true → k < p.placecount
  start-low k h = by (ltb k p.placecount) refl
    where
      by : (t : Bool) → ltb k p.placecount ≡ t → k < p.placecount
      by true e = ltb-true _ _ e
      by false e = absurd (plain_no_start (place_at p k).kind (past-plain k (ltb-false _ _ e)) h)

  pub entering_celled : (k : ℕ) → kinds.is_start (place_at p k).kind ≡ true → Celled (entering (held_automaton p) k)
  unfolding layout_of
  entering_celled k h =
      record {
        low = omega arith;
        place = start-low k h;
        four = refl;
        within = record { in0 = radix_some p 0; in1 = radix_some p 1; in2 = radix_some p 2; in3 = radix_some p 3 };
      }

  pub closed : Closed (held_automaton p) p.high (cell_states p)
  closed =
      record {
        short = λ s m. (of_cells s m).low;
        begins_in = λ k t. in_cells (entering (held_automaton p) k) (entering_celled k (T_true _ t));
        moves_in = λ s x m v. moved s x (of_cells s m) v;
      }
    where
      moved : (s x : State Clocks) → Celled s → Move (held_automaton p) p.high s x → Memᴰ x (cell_states p)
      moved s x h (stays l) = in_cells (stayed (held_automaton p) s) (stayed_celled s h l)
      moved s x h (takes {e = e} l t) = in_cells (taken (held_automaton p) e s) (taken_celled s e h l t.known)
