-- After a tick each cell holds what the walks' table holds one tick later, and an opened table what theirs does.
use Prim.Native.Nat.{ℕ, zero, suc, ◌+◌, ◌-◌, ◌*◌, ◌≤◌, ◌<◌}
use native.Mathlib.Omega.{arith}
use native.Mathlib.Numerals.{add-one}
use native.Mathlib.Nat.{suc-mul, zero-mul, mul-le-mul_right}
use mathlib.Core.Path.{◌≡◌, refl, sym, ap, subst, ◌∙◌}
use mathlib.Core.Bool.{Bool, true, false}
use mathlib.Core.Logic.{inl, inr, ⊎_elim}
use mathlib.Core.Option.{Option, none, some, none-ne-some}
use mathlib.Core.List.{List, Memᴰ}
use borrow.Author.Tests.{eq-eqb, lt-ltb, ltb-true}
use lib.Dec.{T, ltb}
use lib.ListN.{length, get_or}
use lib.IntN.{ℤ}
use Rattle.integers.proofs.Tests.{T_true, true_T}
use Rattle.weighting.specs.declared.Weighing.{Weighing}
use Rattle.weighting.proofs.Weightings.{weighting_of}
use Rattle.weighting.specs.Cell.{mark, held_in}
use Rattle.weighting.proofs.Best.{IsBest_iff}
use Rattle.weighting.proofs.Cell.{held_in-mark, held_in-other, small_no_mark}
use Rattle.weighting.proofs.Sizes.{unit_size}
use Rattle.pattern.specs.declared.Edge.{Edge}
use Rattle.pattern.specs.Clocks.{Clocks, zero_clocks, guards_hold, after_resets}
use Rattle.cells.specs.declared.Layout.{Layout}
use Rattle.cells.specs.Layout.{Laid, cells_in}
use Rattle.cells.specs.Index.{code_of, clocks_at, ticked, block_at, index_of, len_at, stage_at, place_at, cell_clocks}
use Rattle.pattern.proofs.ListLaws.{length-zip}
use Rattle.pattern.proofs.SoundLaws.{both}
use Rattle.cells.proofs.Digits.{block-some, coded, code_of_clocks, clocks_of_code, clocks-within, ticked-within, ticked-long, reset-within}
use Rattle.cells.proofs.Blocks.{row_next, row_first, below-block, block-low, block_in, at}
use Rattle.walks.specs.Automaton.{Automaton, TickView, State, entering, stayed, taken, Same}
use Rattle.walks.specs.Walks.{Move, stays, takes}
use Rattle.walks.specs.Tables.{Table, opening, next}
use Rattle.walks.proofs.States.{opening-starts, opening-holds}
use Rattle.walks.proofs.Moves.{move_len}
use Rattle.walks.proofs.Offers.{Offered}
use Rattle.walks.proofs.TableBest.{next-only}
use Rattle.table.specs.declared.View.{View}
use Rattle.steps.specs.Steps.{edge_in}
use Rattle.table.specs.Moves.{cell_at, cleared, gain_at, still, rows_of, begun, tick_of, open_of}
use Rattle.table.specs.Asks.{Known, Ticking}
use Rattle.table.proofs.Kept.{marked-long, rows_long}
use Rattle.table.proofs.Steps.{still-resets, whole-rows}
use Rattle.table_laws.specs.Offers.{goes_to, may_go, Passes, stage_of, gains_of, Follows, Goes, RowOffers}
use Rattle.table_laws.specs.Meaning.{state_at, index_at, table_of, view_of, About, Seen, Viewed}
use Rattle.table_laws.specs.Claims.{TickIsNext, TickIsSeen, OpenIsOpening, OpenIsSeen}
use Rattle.table_laws.proofs.Best.{rows_best}
use Rattle.table_laws.proofs.Rows.{starts-begun, starts_other, tick-past, first-cleared}
use Rattle.table_laws.proofs.States.{state-same, Cell, state_of_index, index_of_state, seen-in, in-seen, seen-holds, edge_in_lem, in-edges}

-- staying has no guards
still-holds : (p : ℕ) (cs : Clocks) → guards_hold cs (still p) ≡ true
unfolding guards_hold
still-holds p cs = refl

-- ---- a move, seen as a cell's and as a state's

module _ (l : Layout) (w : Weighing) (v : View) (es : List Edge) (count : ℕ) (starts ends : List Bool) (A : Automaton Clocks Edge) (about : About A l es count starts ends) (k : Known l v es count) (t : List ℤ) (all : List (State Clocks)) (U : Table ℤ Clocks) (seen : Seen l t all U) (g : TickView ℤ) (viewed : Viewed l v g) where
  -- the state that a cell of a block is about
  from-state : (n : ℕ) (b : Bool) (p c : ℕ) → State Clocks
  from-state n b p c = record { len = n; entered = b; place = p; clocks = clocks_at l.radices c }

  from_cell : (n : ℕ) (b : Bool) (p c : ℕ) → n ≤ l.high → p < l.places → c < l.block → Cell l (from-state n b p c)
  unfolding from-state clocks_at
  from_cell n b p c low h z = record { short = low; place_in = h; within = clocks-within l c k.laid z; four = refl }

  -- a move of a cell is an offer of its state
  to-offered : (n : ℕ) (e : Edge) (b : Bool) (j : ℕ) (x : ℤ) → n < l.high → e.from < l.places → (from : Bool) (p : Passes l w e (gain_at (gains_of v from) e.from) (block_at l n (stage_of from) e.from) (block_at l (n + 1) (stage_of b) e.to) l.block t j x) → Move A l.high (from-state n from e.from p.cell) (state_at l j) → Offered (weighting_of w) A l.high g U all (state_at l j) x
  unfolding from-state index_of
  to-offered n e b j x low h from p move =
      let m = p.moves in
      let s : State Clocks = from-state n from e.from p.cell in
      let cell = from_cell n from e.from p.cell (omega arith) h p.low in
      let c = (code_of_clocks l p.cell k.laid).code in
      let held : table_of l t (from-state n from e.from p.cell) ≡ some m.had = rw c m.holds in
      record {
        by = from-state n from e.from p.cell;
        is_a_cell = seen-in l k.laid t all U seen (from-state n from e.from p.cell) cell;
        had = m.had;
        holds = seen-holds l k.laid t all U seen (from-state n from e.from p.cell) cell ∙ held;
        gain = m.gain;
        gains = viewed from e.from h ∙ m.gains;
        moves = move;
        is = m.is;
      }

  -- cell j is the one that the edge leads to
  reset-four : (e : Edge) (cs : Clocks) → length e.resets ≡ 4 → length cs ≡ 4 → length (after_resets e (ticked l.radices cs)) ≡ 4
  unfolding after_resets
  reset-four e cs rs four =
      let c = ticked-long l cs k.laid four in
      length-zip _ e.resets (ticked l.radices cs) (rs ∙ sym c) ∙ c

  lands-state : (n : ℕ) (e : Edge) (b : Bool) (cs : Clocks) (j : ℕ) → n < l.high → e.to < l.places → length e.resets ≡ 4 → length cs ≡ 4 → j ≡ block_at l (n + 1) (stage_of b) e.to + goes_to l e cs → ◌≡◌ {A = State Clocks} (state_at l j) (record { len = suc n; entered = b; place = e.to; clocks = after_resets e (ticked l.radices cs) })
  unfolding index_of
  lands-state n e b cs j low h rs four lands =
      let s : State Clocks = record { len = suc n; entered = b; place = e.to; clocks = after_resets e (ticked l.radices cs) } in
      let c : Cell l (record { len = suc n; entered = b; place = e.to; clocks = after_resets e (ticked l.radices cs) }) = record { short = low; place_in = h; within = reset-within l.radices e (ticked l.radices cs) (ticked-within l cs k.laid); four = reset-four e cs rs four } in
      let i : j ≡ index_at l (record { len = suc n; entered = b; place = e.to; clocks = after_resets e (ticked l.radices cs) }) = lands ∙ ap (λ (m : ℕ). block_at l m (stage_of b) e.to + goes_to l e cs) (add-one n) in
      ap (state_at l) i ∙ state_of_index l k.laid (record { len = suc n; entered = b; place = e.to; clocks = after_resets e (ticked l.radices cs) }) c

  clocks-four : (c : ℕ) → length (clocks_at l.radices c) ≡ 4
  unfolding clocks_at
  clocks-four c = refl

  stay-offered : (n j : ℕ) (x : ℤ) → n < l.high → Goes l w v still n 1 l.places t j x → Offered (weighting_of w) A l.high g U all (state_at l j) x
  unfolding from-state
  stay-offered n j x low o =
      let p = o.which in
      let f = o.follows in
      let cs = clocks_at l.radices f.passes.cell in
      let four = clocks-four f.passes.cell in
      let clocks : A.tick (clocks_at l.radices f.passes.cell) ≡ after_resets (still o.which) (ticked l.radices (clocks_at l.radices f.passes.cell)) =
      about.tick_is (clocks_at l.radices f.passes.cell) ∙ sym (still-resets o.which (ticked l.radices (clocks_at l.radices f.passes.cell)) (ticked-long l (clocks_at l.radices f.passes.cell) k.laid four)) in
      let same : stayed A (from-state n f.from o.which f.passes.cell) ≡ state_at l j =
      state-same _ _ _ _ _ _ _ _ refl refl refl clocks ∙ sym (lands-state n (still o.which) false (clocks_at l.radices f.passes.cell) j low o.low refl four f.passes.moves.lands) in
      to-offered n (still o.which) false j x low o.low f.from f.passes
      (subst (Move A l.high (from-state n f.from o.which f.passes.cell)) same (stays low))

  edge-offered : (n j : ℕ) (x : ℤ) → n < l.high → Goes l w v (edge_in es) n 0 count t j x → Offered (weighting_of w) A l.high g U all (state_at l j) x
  unfolding from-state
  edge-offered n j x low o =
      let e = edge_in es o.which in
      let f = o.follows in
      let c = f.passes.cell in
      let four = clocks-four f.passes.cell in
      let ticks = about.tick_is (clocks_at l.radices f.passes.cell) in
      let goes : A.holds (edge_in es o.which) (A.tick (clocks_at l.radices f.passes.cell)) ≡ true =
      ap (A.holds (edge_in es o.which)) ticks ∙ about.holds_is (edge_in es o.which) (ticked l.radices (clocks_at l.radices f.passes.cell)) ∙ f.passes.moves.goes in
      let clocks : A.reset (edge_in es o.which) (A.tick (clocks_at l.radices f.passes.cell)) ≡ after_resets (edge_in es o.which) (ticked l.radices (clocks_at l.radices f.passes.cell)) =
      ap (A.reset (edge_in es o.which)) ticks ∙ about.reset_is (edge_in es o.which) (ticked l.radices (clocks_at l.radices f.passes.cell)) in
      let same : taken A (edge_in es o.which) (from-state n f.from (edge_in es o.which).from f.passes.cell) ≡ state_at l j =
      state-same _ _ _ _ _ _ _ _ refl refl (about.target_is (edge_in es o.which)) clocks ∙ sym (lands-state n (edge_in es o.which) true (clocks_at l.radices f.passes.cell) j low (k.tos o.which o.low) (about.four o.which o.low) four f.passes.moves.lands) in
      let known : Memᴰ (edge_in es o.which) A.edges = subst (Memᴰ (edge_in es o.which)) (sym about.edges_are) (edge_in_lem es count o.which about.few o.low) in
      to-offered n (edge_in es o.which) true j x low (k.froms o.which o.low) f.from f.passes
      (subst (Move A l.high (from-state n f.from (edge_in es o.which).from f.passes.cell)) same
      (takes low (record { known = known; fits = about.source_is (edge_in es o.which); guarded = true_T _ goes })))

  -- where a move along an edge leads, and where a stay does
  pub edge-state : (n j : ℕ) (x : ℤ) → n < l.high → (o : Goes l w v (edge_in es) n 0 count t j x) → (j < cells_in l) × ((state_at l j).len ≡ suc n) × ((state_at l j).entered ≡ true) × ((state_at l j).place ≡ (edge_in es o.which).to)
  edge-state n j x low o =
      let f = o.follows in
      let e = lands-state n (edge_in es o.which) true (clocks_at l.radices f.passes.cell) j low (k.tos o.which o.low) (about.four o.which o.low) (clocks-four f.passes.cell) f.passes.moves.lands in
      let c = (coded l (after_resets (edge_in es o.which) (ticked l.radices (clocks_at l.radices f.passes.cell))) k.laid (reset-within l.radices (edge_in es o.which) _ (ticked-within l (clocks_at l.radices f.passes.cell) k.laid))).whole in
      let b = block_in l (n + 1) 0 (edge_in es o.which).to (record { laid = k.laid; low = omega arith; stages = omega arith; place = k.tos o.which o.low }) in
      let m = f.passes.moves.lands in
      (omega arith, ap (λ (s : State Clocks). s.len) e, ap (λ (s : State Clocks). s.entered) e, ap (λ (s : State Clocks). s.place) e)

  pub stay-state : (n j : ℕ) (x : ℤ) → n < l.high → Goes l w v still n 1 l.places t j x → (state_at l j).entered ≡ false
  stay-state n j x low o =
      let f = o.follows in
      ap (λ (s : State Clocks). s.entered) (lands-state n (still o.which) false (clocks_at l.radices f.passes.cell) j low o.low refl (clocks-four f.passes.cell) f.passes.moves.lands)

  pub to-walks : (n j : ℕ) (x : ℤ) → n < l.high → RowOffers l w v es count n t j x → Offered (weighting_of w) A l.high g U all (state_at l j) x
  to-walks n j x low = ⊎_elim (stay-offered n j x low) (edge-offered n j x low)

  -- ---- and back

  -- a state that goes along e to cell j
  follows-from : (s : State Clocks) (n : ℕ) (e : Edge) (b : Bool) (j : ℕ) (x had gain : ℤ) → Cell l s → s.len ≡ n → e.from ≡ s.place → table_of l t s ≡ some had → view_of v s.entered s.place ≡ some gain → guards_hold (ticked l.radices s.clocks) e ≡ true → j ≡ block_at l (n + 1) (stage_of b) e.to + code_of l.radices (after_resets e (ticked l.radices s.clocks)) → x ≡ (weighting_of w).combine had gain → Follows l w v e n (stage_of b) t j x
  unfolding index_of
  follows-from s n e b j x had gain c en ep holds gains goes lands is =
      let code = code_of l.radices s.clocks in
      let cs : clocks_at l.radices (code_of l.radices s.clocks) ≡ s.clocks = clocks_of_code l.radices s.clocks c.four c.within in
      record {
        from = s.entered;
        passes = record {
          cell = code_of l.radices s.clocks;
          low = (coded l s.clocks k.laid c.within).whole;
          moves = record {
            had = had;
            holds = ap (λ (p : ℕ). held_in (cell_at t (block_at l n (stage_of s.entered) p + code_of l.radices s.clocks))) ep ∙ ap (λ (m : ℕ). held_in (cell_at t (block_at l m (stage_of s.entered) s.place + code_of l.radices s.clocks))) (sym en) ∙ holds;
            gain = gain;
            gains = ap (λ (p : ℕ). held_in (gain_at (gains_of v s.entered) p)) ep ∙ gains;
            goes = ap (λ (z : Clocks). may_go l e z) cs ∙ goes;
            lands = lands ∙ ap (λ (z : Clocks). block_at l (n + 1) (stage_of b) e.to + goes_to l e z) (sym cs);
            is = is;
          };
        };
      }

  -- where the index of x is known by x's parts
  index-parts : (s : State Clocks) (n : ℕ) (b : Bool) (q : ℕ) (cs : Clocks) → ◌≡◌ {A = State Clocks} s (record { len = suc n; entered = b; place = q; clocks = cs }) → index_at l s ≡ block_at l (n + 1) (stage_of b) q + code_of l.radices cs
  unfolding index_of
  index-parts s n b q cs e = ap (index_at l) e ∙ ap (λ (m : ℕ). block_at l m (stage_of b) q + code_of l.radices cs) (sym (add-one n))

  from_move : (s x : State Clocks) (n j : ℕ) (y had gain : ℤ) → Move A l.high s x → Cell l s → s.len ≡ n → index_at l x ≡ j → table_of l t s ≡ some had → view_of v s.entered s.place ≡ some gain → y ≡ (weighting_of w).combine had gain → RowOffers l w v es count n t j y
  from_move s x n j y had gain (stays low) c en i holds gains is =
      let p = s.place in
      let four = ticked-long l s.clocks k.laid c.four in
      let clocks : A.tick s.clocks ≡ after_resets (still s.place) (ticked l.radices s.clocks) = about.tick_is s.clocks ∙ sym (still-resets s.place (ticked l.radices s.clocks) four) in
      let same = index-parts (stayed A s) n false s.place (after_resets (still s.place) (ticked l.radices s.clocks)) (state-same _ _ _ _ _ _ _ _ (ap suc en) refl refl clocks) in
      inl (record { which = s.place; low = c.place_in; follows = follows-from s n (still s.place) false j y had gain c en refl holds gains (still-holds s.place (ticked l.radices s.clocks)) (sym i ∙ same) is })
  from_move s x n j y had gain (takes {e = e} low m) c en i holds gains is =
      let r = in-edges es count e (subst (Memᴰ e) about.edges_are m.known) in
      let ticks = about.tick_is s.clocks in
      let clocks : A.reset e (A.tick s.clocks) ≡ after_resets e (ticked l.radices s.clocks) = ap (A.reset e) ticks ∙ about.reset_is e (ticked l.radices s.clocks) in
      let goes : guards_hold (ticked l.radices s.clocks) e ≡ true = sym (about.holds_is e (ticked l.radices s.clocks)) ∙ ap (A.holds e) (sym ticks) ∙ T_true _ m.guarded in
      let same = index-parts (taken A e s) n true e.to (after_resets e (ticked l.radices s.clocks)) (state-same _ _ _ _ _ _ _ _ (ap suc en) refl (about.target_is e) clocks) in
      let f = follows-from s n e true j y had gain c en (sym (about.source_is e) ∙ m.fits) holds gains goes (sym i ∙ same) is in
      inr (record { which = r.0; low = r.1; follows = subst (λ (d : Edge). Follows l w v d n 0 t j y) (sym r.2) f })

  pub of_walks : (n j : ℕ) (x : ℤ) → j < cells_in l → len_at l j ≡ suc n → Offered (weighting_of w) A l.high g U all (state_at l j) x → RowOffers l w v es count n t j x
  of_walks n j x low len o =
      let e : suc o.by.len ≡ suc n = sym (move_len A o.by o.moves) ∙ len in
      let c = in-seen l k.laid t all U seen o.by o.is_a_cell in
      from_move o.by (state_at l j) n j x o.had o.gain o.moves c (omega arith) (index_of_state l k.laid j low) (sym (seen-holds l k.laid t all U seen o.by c) ∙ o.holds) (sym (viewed o.by.entered o.by.place c.place_in) ∙ o.gains) o.is

-- ---- the row that a cell stands in

pub row_of : (l : Layout) (i : ℕ) → Laid l → i < cells_in l → (len_at l i * l.row ≤ i) × (i < len_at l i * l.row + l.row)
unfolding index_of
row_of l i h low =
    let a = at l i h low in
    let e = a.index in
    let c = (coded l (cell_clocks l i) h a.within).whole in
    (omega (arith, below-block l (len_at l i) (stage_at l i) (place_at l i)), omega (arith, block-low l (len_at l i) (stage_at l i) (place_at l i) a.placed))

-- ---- length 0

module _ (l : Layout) (w : Weighing) (es : List Edge) (count : ℕ) (starts ends : List Bool) (A : Automaton Clocks Edge) (about : About A l es count starts ends) (laid : Laid l) (Q : Same Clocks) where
  zero-code : (rs : List ℕ) → code_of rs zero_clocks ≡ 0
  unfolding code_of
  zero-code rs = simp zero-mul

  start-index : (q : ℕ) → index_at l (entering A q) ≡ q * l.block
  unfolding index_of block_at
  start-index q =
      let c : code_of l.radices A.zeros ≡ 0 = ap (code_of l.radices) about.zeros_are ∙ zero-code l.radices in
      let f : 0 * l.places + q ≡ q = omega (arith, zero-mul l.places) in
      rw (c, f) (omega (arith, zero-mul l.row))

  start_cell : (q : ℕ) → q < l.places → Cell l (entering A q)
  start_cell q h =
      rw about.zeros_are
      (record { short = omega arith; place_in = h; within = record { in0 = laid.some0; in1 = laid.some1; in2 = laid.some2; in3 = laid.some3 }; four = refl })

  start-in : (q : ℕ) → T (A.is_start q) → (q < l.places) × (get_or starts q false ≡ true)
  start-in q h =
      let b = both (ltb q l.places) (get_or starts q false) (sym (about.starts_are q) ∙ T_true (A.is_start q) h) in
      (ltb-true q l.places b.0, b.1)

  in_start : (q : ℕ) → q < l.places → get_or starts q false ≡ true → T (A.is_start q)
  in_start q h e = true_T (A.is_start q) (about.starts_are q ∙ rw (lt-ltb q l.places h, e))

  -- where all was cleared, the empty runs are what is held
  begun-opening : (t : List ℤ) (i : ℕ) → l.row ≤ length t → cell_at t i ≡ mark → i < cells_in l → held_in (cell_at (begun l w starts t) i) ≡ opening (weighting_of w) A Q (state_at l i)
  begun-opening t i long cell low = by (opening (weighting_of w) A Q (state_at l i)) refl
    where
      other : opening (weighting_of w) A Q (state_at l i) ≡ none → (q : ℕ) → q < l.places → get_or starts q false ≡ true → i ≡ q * l.block → ⊥
      other o q h e f =
          let s : state_at l i ≡ entering A q = ap (state_at l) (f ∙ sym (start-index q)) ∙ state_of_index l laid (entering A q) (start_cell q h) in
          let p : opening (weighting_of w) A Q (state_at l i) ≡ some (weighting_of w).unit = ap (opening (weighting_of w) A Q) s ∙ opening-starts (weighting_of w) A Q q (in_start q h e) in
          none-ne-some (weighting_of w).unit (sym o ∙ p)

      by : (o : Option ℤ) → opening (weighting_of w) A Q (state_at l i) ≡ o → held_in (cell_at (begun l w starts t) i) ≡ o
      by none o =
          ap held_in (starts_other l.block (weighting_of w).unit starts l.places t i (other o) ∙ cell) ∙ held_in-mark
      by (some u) o =
          let r = opening-holds (weighting_of w) A Q (state_at l i) u o in
          let q = start-in (place_at l i) r.0 in
          let f : i ≡ place_at l i * l.block = sym (index_of_state l laid i low) ∙ ap (index_at l) r.1 ∙ start-index (place_at l i) in
          let fits : l.places * l.block ≤ length t = let y = mul-le-mul_right {m = l.places} {n = 2 * l.places} l.block (omega arith) in omega (arith, laid.row_is) in
          let c : cell_at (begun l w starts t) i ≡ (weighting_of w).unit = ap (cell_at (begun l w starts t)) f ∙ starts-begun l.block (weighting_of w).unit starts l.places t (block-some l laid) fits (place_at l i) q.0 q.1 in
          ap held_in c ∙ held_in-other (weighting_of w).unit (small_no_mark (weighting_of w).unit (omega (arith, unit_size w))) ∙ ap some (sym r.2)

pub open_is-opening : (l : Layout) (w : Weighing) (starts : List Bool) → OpenIsOpening l w starts
unfolding open_of
open_is-opening l w starts es count ends A about Q t a i low =
    let long = marked-long t 0 (cells_in l - 0) in
    begun-opening l w es count starts ends A about a.laid Q (cleared t 0 (cells_in l)) i (omega (arith, row_first l, a.inside)) (first-cleared t (cells_in l) i a.inside low) low

-- ---- a tick

first-row : (l : Layout) (w : Weighing) (v : View) (es : List Edge) (count : ℕ) (starts ends : List Bool) (A : Automaton Clocks Edge) → About A l es count starts ends → (Q : Same Clocks) (t : List ℤ) → Ticking t l v es count → (all : List (State Clocks)) (U : Table ℤ Clocks) → Seen l t all U → (g : TickView ℤ) → Viewed l v g → (i : ℕ) → i < cells_in l → len_at l i ≡ 0 → held_in (cell_at (tick_of l w v es count starts t) i) ≡ next (weighting_of w) A Q l.high all g U (state_at l i)
unfolding tick_of next
first-row l w v es count starts ends A about Q t a all U seen g viewed i low e =
    let laid = a.known.laid in
    let r = row_of l i a.known.laid low in
    let z : len_at l i * l.row ≡ 0 = ap (λ (x : ℕ). x * l.row) e ∙ zero-mul l.row in
    let h : i < l.row = omega (arith, r.1) in
    let f = row_first l in
    let n = rows_long l w v es count l.high t in
    let m = marked-long (rows_of l w v es count l.high t) 0 (l.row - 0) in
    let c = first-cleared (rows_of l w v es count l.high t) l.row i (omega (arith, a.whole.inside)) h in
    begun-opening l w es count starts ends A about a.known.laid Q (cleared (rows_of l w v es count l.high t) 0 l.row) i (omega (arith, a.whole.inside)) c low
    ∙ rw (eq-eqb (len_at l i) 0 e)

later-row : (l : Layout) (w : Weighing) (v : View) (es : List Edge) (count : ℕ) (starts ends : List Bool) (A : Automaton Clocks Edge) → About A l es count starts ends → (Q : Same Clocks) (t : List ℤ) → Ticking t l v es count → (all : List (State Clocks)) (U : Table ℤ Clocks) → Seen l t all U → (g : TickView ℤ) → Viewed l v g → (i : ℕ) → i < cells_in l → (n : ℕ) → len_at l i ≡ suc n → held_in (cell_at (tick_of l w v es count starts t) i) ≡ next (weighting_of w) A Q l.high all g U (state_at l i)
later-row l w v es count starts ends A about Q t a all U seen g viewed i low n e =
    let r = row_of l i a.known.laid low in
    let f = row_next n l.row in
    let s = suc-mul n l.row in
    let z : len_at l i * l.row ≡ suc n * l.row = ap (λ (x : ℕ). x * l.row) e in
    let short : len_at l i ≤ l.high = (at l i a.known.laid low).placed.low in
    let r0 = r.0 in
    let r1 = r.1 in
    let rows = whole-rows t l a.known.laid a.whole in
    let best = rows_best l w v es count a.known l.high t (omega arith) rows.inside rows.bounded n (omega arith) i (omega arith) (omega arith) in
    let past = tick-past l w v es count starts t i a.known.laid (omega arith) in
    next-only (weighting_of w) A Q l.high all g U (state_at l i) (held_in (cell_at (tick_of l w v es count starts t) i))
    (IsBest_iff (weighting_of w).order
    (λ x o. inr (to-walks l w v es count starts ends A about a.known t all U seen g viewed n i x (omega arith) o))
    (λ x. ⊎_elim (λ o. absurd (not-opening x o)) (of_walks l w v es count starts ends A about a.known t all U seen g viewed n i x low e))
    (held_in (cell_at (tick_of l w v es count starts t) i))
    (rw past best))
  where
    not-opening : (x : ℤ) → opening (weighting_of w) A Q (state_at l i) ≡ some x → ⊥
    not-opening x o =
        let k : len_at l i ≡ 0 = ap (λ (y : State Clocks). y.len) (opening-holds (weighting_of w) A Q (state_at l i) x o).1 in
        omega arith

pub tick-is-next : (l : Layout) (w : Weighing) (v : View) (es : List Edge) (count : ℕ) (starts ends : List Bool) → TickIsNext l w v es count starts ends
tick-is-next l w v es count starts ends A about Q t a all U seen g viewed i low = by (len_at l i) refl
  where
    by : (m : ℕ) → len_at l i ≡ m → held_in (cell_at (tick_of l w v es count starts t) i) ≡ next (weighting_of w) A Q l.high all g U (state_at l i)
    by zero e = first-row l w v es count starts ends A about Q t a all U seen g viewed i low e
    by (suc n) e = later-row l w v es count starts ends A about Q t a all U seen g viewed i low n e

pub tick-is-seen : (l : Layout) (w : Weighing) (v : View) (es : List Edge) (count : ℕ) (starts ends : List Bool) → TickIsSeen l w v es count starts ends
tick-is-seen l w v es count starts ends A about Q t a all U seen g viewed =
    record {
      listed = seen.listed;
      only = seen.only;
      holds = λ i low. sym (tick-is-next l w v es count starts ends A about Q t a all U seen g viewed i low);
    }

pub open_is-seen : (l : Layout) (w : Weighing) (starts : List Bool) → OpenIsSeen l w starts
open_is-seen l w starts es count ends A about Q t a all U seen =
    record {
      listed = seen.listed;
      only = seen.only;
      holds = λ i low. sym (open_is-opening l w starts es count ends A about Q t a i low);
    }
