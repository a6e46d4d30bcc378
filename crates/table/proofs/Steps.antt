-- One step more of each loop, and what each call asks.
use Prim.Native.Nat.{ℕ, zero, suc, ◌+◌, ◌-◌, ◌*◌, ◌/◌, ◌%◌, ◌^◌, ◌≤◌, ◌<◌}
use native.Mathlib.Omega.{arith}
use native.Mathlib.Numerals.{add-one}
use native.Mathlib.Nat.{mul-le-mul_right, mul-zero, zero-add, div-add-mod', mod-lt, div-lt_iff_lt-mul}
use mathlib.Core.Path.{◌≡◌, refl, sym, ap, ◌∙◌}
use mathlib.Core.Bool.{Bool, true, false, cond}
use Rattle.std.specs.Prelude.{Option}
use mathlib.Core.List.{List, zip_with}
use mathlib.Core.Logic.{inl, inr}
use borrow.Author.Tests.{eq-eqb, ne_eqb, eqb-true, eqb-false}
use lib.Dec.{eqb}
use lib.ListN.{length, get_or, set}
use lib.IntN.{ℤ, nat_abs}
use lib.Signed.{lt_z}
use mir.Syntax.{w64}
use mir.Val.{SFits}
use Rattle.integers.proofs.Linear.{of_lt, abs_is, negsuc_is}
use Rattle.weighting.specs.declared.Weighing.{Weighing}
use Rattle.weighting.proofs.Weightings.{weighting_of}
use Rattle.weighting.specs.Cell.{mark}
use Rattle.weighting.proofs.Sizes.{combine-fits}
use Rattle.pattern.specs.declared.Edge.{Edge}
use Rattle.pattern.specs.Clocks.{Clocks, clock_at, guards_hold, after_resets}
use Rattle.cells.specs.declared.Layout.{Layout}
use Rattle.cells.specs.Layout.{Laid, cells_in}
use Rattle.cells.specs.Index.{code_of, clocks_at, ticked, Within, block_at}
use Rattle.cells.proofs.Digits.{four_is, coded, block-some}
use Rattle.cells.proofs.Blocks.{row_next, row_inside, row_fits, blocks_inside, block-low, block_in}
use Rattle.table.specs.declared.View.{View}
use Rattle.table.specs.declared.Block.{Block}
use Rattle.table.specs.declared.Sent.{Sent}
use Rattle.table.specs.declared.report.Report.{Report}
use Rattle.steps.specs.Steps.{edge_in}
use Rattle.table.specs.Moves.{cell_at, marked, cleared, each, offered, moved, still, leave_of, leaves_of, spread_of, stay_of, sent_of, visit_of, visits_of, pass_of, gain_at, gain_in, place_of, places_of, row_of, rows_of, starts_of, begun, tick_of, open_of}
use Rattle.table.specs.Reports.{told_pass, told_place}
use Rattle.table.specs.Edges.{Edged, Sourced, Hop}
use Rattle.table.specs.Asks.{Sized, Known, Gains, Whole, Bounded, Moving, Passing, Ready, Placing, Rows}
use Rattle.table.proofs.Kept.{Kept, row_kept, marked-kept}

-- ---- sizes

pub sized_in : {k : ℕ} {z : ℤ} → Sized k z → lt_z mark z ≡ true → nat_abs z ≤ k
sized_in {k} {z} (inl e) h = let n : ◌≡◌ {A = Bool} false true = rw e at h in let y : ◌≡◌ {A = ℕ} 0 1 = cc in absurd (omega arith)
sized_in (inr s) h = s

pub sized_mark : {k : ℕ} {z : ℤ} → k < 2 ^ 63 → Sized k z → lt_z mark z ≡ false → z ≡ mark
sized_mark l (inl e) h = e
sized_mark {k} {z} l (inr s) h =
    let t = of_lt mark z (omega (arith, abs_is z, negsuc_is 9_223_372_036_854_775_807)) in
    let y : ◌≡◌ {A = Bool} true false = sym t ∙ h in
    let n : ◌≡◌ {A = ℕ} 0 1 = cc in
    absurd (omega arith)

pub sized_more : {k m : ℕ} {z : ℤ} → k ≤ m → Sized k z → Sized m z
sized_more l (inl e) = inl e
sized_more l (inr s) = inr (omega arith)

pub marked_more : (t : List ℤ) (a i : ℕ) → a ≤ i → set (marked t a (i - a)) i mark ≡ marked t a (i + 1 - a)
unfolding marked
marked_more t a i h =
    let e : i + 1 - a ≡ suc (i - a) = omega arith in
    let f : a + (i - a) ≡ i = omega arith in
    rw (e, f)

pub each_more : {A : Type 0} (f : ℕ → A → A) (k : ℕ) (t₀ t u : A) → t ≡ each f k t₀ → u ≡ f k t → u ≡ each f (k + 1) t₀
unfolding each
each_more f k t₀ t u p q = q ∙ rw (p, add-one k)

-- turns that change nothing are left out
pub each_skip : {A : Type 0} (f : ℕ → A → A) (d k : ℕ) (t : A) → ((j : ℕ) → k ≤ j → j < k + d → f j (each f k t) ≡ each f k t) → each f (k + d) t ≡ each f k t
unfolding each
each_skip f zero k t h = let e : k + 0 ≡ k = omega arith in rw e
each_skip f (suc d) k t h =
    let e : k + suc d ≡ suc (k + d) = omega arith in
    let b = each_skip f d k t (λ j a z. h j a (omega arith)) in
    rw (e, b) (h (k + d) (omega arith) (omega arith))

-- ---- one move

-- what the calls of a turn gave is the move
pub moved-is : (l : Layout) (w : Weighing) (e : Edge) (to : ℕ) (cs d : Clocks) (x : ℤ) (j : ℕ) (t u : List ℤ) → guards_hold cs e ≡ true → d ≡ after_resets e cs → j ≡ code_of l.radices d → u ≡ offered w t (to + j) x → u ≡ moved l w e to cs x t
unfolding moved
moved-is l w e to cs d x j t u h r q p =
    let j' : j ≡ code_of l.radices (after_resets e cs) = rw r at q in
    rw h (rw j' at p)

pub moved_no : (l : Layout) (w : Weighing) (e : Edge) (to : ℕ) (cs : Clocks) (x : ℤ) (t : List ℤ) → guards_hold cs e ≡ false → t ≡ moved l w e to cs x t
unfolding moved
moved_no l w e to cs x t h = rw h

pub code_lt : (l : Layout) (d : Clocks) (j : ℕ) → Laid l → Within l.radices d → j ≡ code_of l.radices d → j < l.block
code_lt l d j h i q = rw q (coded l d h i).whole

-- no clock is past its ceiling, which is at most 1,001
pub small-clocks : (l : Layout) (cs : Clocks) → Laid l → Within l.radices cs → (k : ℕ) → k < 4 → clock_at cs k < 65536
small-clocks l cs laid w k low = by (eqb k 0) refl (eqb k 1) refl (eqb k 2) refl
  where
    by : (a : Bool) → eqb k 0 ≡ a → (b : Bool) → eqb k 1 ≡ b → (c : Bool) → eqb k 2 ≡ c → clock_at cs k < 65536
    by true e b f c g =
        let q : k ≡ 0 = eqb-true k 0 e in
        let x = w.in0 in
        let y = laid.low 0 in
        rw q (omega arith)
    by false e true f c g =
        let q : k ≡ 1 = eqb-true k 1 f in
        let x = w.in1 in
        let y = laid.low 1 in
        rw q (omega arith)
    by false e false f true g =
        let q : k ≡ 2 = eqb-true k 2 g in
        let x = w.in2 in
        let y = laid.low 2 in
        rw q (omega arith)
    by false e false f false g =
        let a = eqb-false k 0 e in
        let b = eqb-false k 1 f in
        let c = eqb-false k 2 g in
        let q : k ≡ 3 = omega arith in
        let x = w.in3 in
        let y = laid.low 3 in
        rw q (omega arith)

-- staying asks nothing and resets nothing
pub still-goes : (p : ℕ) (cs : Clocks) → guards_hold cs (still p) ≡ true
unfolding guards_hold
still-goes p cs = refl

pub still-resets : (p : ℕ) (cs : Clocks) → length cs ≡ 4 → after_resets (still p) cs ≡ cs
unfolding after_resets zip_with
still-resets p cs four = ap (after_resets (still p)) (four_is cs four) ∙ sym (four_is cs four)

pub grown-fits : (w : Weighing) (v g : ℤ) → nat_abs v ≤ 2 ^ 60 → nat_abs g ≤ 8000000 → SFits w64 ((weighting_of w).combine v g)
grown-fits w v g a b = combine-fits w v g (omega arith)

-- ---- the edges out of a place

-- a block of row n + 1 is in the table
pub next-in : {t : List ℤ} {l : Layout} {n : ℕ} {cs : Clocks} {stage p to : ℕ} → Laid l → Moving t l n cs → to ≡ block_at l (n + 1) stage p → stage ≤ 1 → p < l.places → to + l.block ≤ length t
next-in {t} {l} {n} {cs} {stage} {p} laid m e st h =
    let low = m.low in
    let b = block_in l (n + 1) stage p (record { laid = laid; low = omega arith; stages = st; place = h }) in
    omega (arith, m.inside)

pub leave_is : (l : Layout) (w : Weighing) (n p : ℕ) (cs : Clocks) (x : ℤ) (e : Edge) (t : List ℤ) → e.from ≡ p → moved l w e (block_at l (n + 1) 0 e.to) cs x t ≡ leave_of l w n p cs x e t
unfolding leave_of
leave_is l w n p cs x e t f = rw (eq-eqb e.from p f)

pub leave_no : (l : Layout) (w : Weighing) (n p : ℕ) (cs : Clocks) (x : ℤ) (e : Edge) (t : List ℤ) → (e.from ≡ p → ⊥) → leave_of l w n p cs x e t ≡ t
unfolding leave_of
leave_no l w n p cs x e t f = rw (ne_eqb e.from p f)

-- ---- what is left of a loop

-- m turns from turn i on
unfoldable pub rest : {A : Type 0} → (ℕ → A → A) → (i m : ℕ) → A → A
rest f i zero t = t
rest f i (suc m) t = rest f (suc i) m (f i t)

module _ {A : Type 0} (f : ℕ → A → A) where
  rest-last : (i m : ℕ) (t : A) → rest f i (suc m) t ≡ f (i + m) (rest f i m t)
  unfolding rest
  rest-last i zero t = let e : i + 0 ≡ i = omega arith in rw e
  rest-last i (suc m) t = let e : suc i + m ≡ i + suc m = omega arith in rest-last (suc i) m (f i t) ∙ rw e

  pub rest_all : (m : ℕ) (t : A) → rest f 0 m t ≡ each f m t
  unfolding each rest
  rest_all zero t = refl
  rest_all (suc m) t = let e : 0 + m ≡ m = omega arith in rest-last 0 m t ∙ rw (e, rest_all m t)

  -- turns that change nothing are left out
  rest_skip : (d a b m k : ℕ) (t : A) → b ≡ a + d → m ≡ d + k → ((j : ℕ) (u : A) → a ≤ j → j < b → f j u ≡ u) → rest f a m t ≡ rest f b k t
  unfolding rest
  rest_skip zero a b m k t e g h = let x : a ≡ b = omega arith in let y : m ≡ k = omega arith in rw (x, y)
  rest_skip (suc d) a b m k t e g h =
      let y : m ≡ suc (d + k) = omega arith in
      rw y (ap (rest f (suc a) (d + k)) (h a t (omega arith) (omega arith)) ∙ rest_skip d (suc a) b (d + k) k t (omega arith) refl (λ j u x z. h j u (omega arith) z))

  pub rest_end : (i m : ℕ) (t T : A) → m ≡ 0 → rest f i m t ≡ T → t ≡ T
  unfolding rest
  rest_end i m t T e h = rw e at h

  -- along the links only edges that do not leave p are left out
  module _ (es : List Edge) (count p : ℕ) (no : (j : ℕ) (u : A) → ((edge_in es j).from ≡ p → ⊥) → f j u ≡ u) where
    pub hop_rest : (a b : ℕ) (t : A) → Hop es count p a b → rest f a (count - a) t ≡ rest f b (count - b) t
    hop_rest a b t h =
        let u = h.above in
        let v = h.below in
        rest_skip (b - a) a b (count - a) (count - b) t (omega arith) (omega arith) (λ j z y o. no j z (h.skips j y o))

    -- one edge is taken, and the link after it followed
    pub hop_more : (i b : ℕ) (t u T : A) → i < count → Hop es count p (i + 1) b → u ≡ f i t → rest f i (count - i) t ≡ T → rest f b (count - b) u ≡ T
    unfolding rest
    hop_more i b t u T low h e r =
        let m : count - i ≡ suc (count - (i + 1)) = omega arith in
        let s : i + 1 ≡ suc i = add-one i in
        let r' : rest f i (suc (count - (i + 1))) t ≡ T = rw m at r in
        sym (hop_rest (i + 1) b u h) ∙ rw (e, s) (rw s at r')

    -- all edges, by their links
    pub hop_all : (first : ℕ) (t : A) → Hop es count p 0 first → rest f first (count - first) t ≡ each f count t
    hop_all first t h =
        let o : count - 0 ≡ count = omega arith in
        sym (hop_rest 0 first t h) ∙ rw o (rest_all count t)

-- ---- a cell, a block

pub bounded-kept : {b : ℕ} {t u : List ℤ} {a n : ℕ} → Kept b t u → a + n ≤ b → Bounded t a n → Bounded u a n
bounded-kept {b} {t} {u} {a} {n} p h o =
    record { at = λ k m. rw (p.same (a + k) (omega arith)) (o.at k m) }

pub bounded-part : {t : List ℤ} {a n : ℕ} (b m : ℕ) → Bounded t a n → b + m ≤ n → Bounded t (a + b) m
bounded-part {t} {a} {n} b m o h =
    record { at = λ k i. let s : a + b + k ≡ a + (b + k) = omega arith in rw s (o.at (b + k) (omega arith)) }

pub passing_kept : {t u : List ℤ} {l : Layout} {b : Block} → Kept ((b.len + 1) * l.row) t u → Passing t l b → Passing u l b
passing_kept k h =
    record {
      gain = h.gain;
      low = h.low;
      place = h.place;
      apart = h.apart;
      inside = rw k.long h.inside;
      bounded = bounded-kept k h.apart h.bounded;
    }

pub cell_in : {t : List ℤ} {l : Layout} {b : Block} (k : ℕ) → Passing t l b → k < l.block → b.start + k < length t
cell_in {t} {l} {b} k h low =
    let f = row_fits l b.len h.low in
    let a = h.apart in
    let i = h.inside in
    omega arith

pub passing_moving : {t : List ℤ} {l : Layout} {b : Block} (cs : Clocks) → Passing t l b → Within l.radices cs → Moving t l b.len cs
passing_moving cs h i = record { low = h.low; inside = h.inside; within = i }

module _ (l : Layout) (w : Weighing) (g : ℤ) (n p : ℕ) (cs : Clocks) where
  pub stay-is : (v : ℤ) (t : List ℤ) (c : Clocks) (x : ℤ) (e : Edge) (to : ℕ) (u : List ℤ) → c ≡ ticked l.radices cs → x ≡ (weighting_of w).combine v g → e ≡ still p → to ≡ block_at l (n + 1) 1 p → u ≡ moved l w e to c x t → u ≡ stay_of l w g n p cs v t
  unfolding stay_of
  stay-is v t c x e to u a f s h q = rw (a, f, s, h) at q

  pub sent_is : (c : Clocks) (v x y : ℤ) → c ≡ ticked l.radices cs → x ≡ (weighting_of w).combine v g → y ≡ x → ◌≡◌ {A = Sent} (record { clocks = c; worth = y }) (sent_of l w g cs v)
  sent_is c v x y a f e = rw (e, f, a)

  module _ (at k : ℕ) (t : List ℤ) (es : List Edge) (count : ℕ) where
    -- the stay and what is sent along all edges make up the visit of an occupied cell
    pub sent_visit : (v : ℤ) (s : Sent) (u : List ℤ) → v ≡ cell_at t (at + k) → lt_z mark (cell_at t (at + k)) ≡ true → s ≡ sent_of l w g cs v → u ≡ stay_of l w g n p cs v t → leaves_of l w es n p s.clocks s.worth count u ≡ visit_of l w es count g n p at k cs t
    unfolding stay_of visit_of spread_of
    sent_visit v s u h m e f = rw (m, e, f, h)

    pub visit_no : lt_z mark (cell_at t (at + k)) ≡ false → visit_of l w es count g n p at k cs t ≡ t
    unfolding visit_of
    visit_no m = rw m

-- marks are left out
pub visits_skip : (l : Layout) (w : Weighing) (es : List Edge) (count : ℕ) (g : ℤ) (n p at k r : ℕ) (t : List ℤ) → k ≤ r → ((j : ℕ) → k ≤ j → j < r → cell_at (visits_of l w es count g n p at k t) (at + j) ≡ mark) → visits_of l w es count g n p at k t ≡ visits_of l w es count g n p at r t
visits_skip l w es count g n p at k r t low h =
    let e : k + (r - k) ≡ r = omega arith in
    sym (each_skip (λ i. visit_of l w es count g n p at i (clocks_at l.radices i)) (r - k) k t
    (λ j a b. visit_no l w g n p (clocks_at l.radices j) at j (visits_of l w es count g n p at k t) es count (rw (h j a (omega arith)) refl)))
    ∙ ap (λ (m : ℕ). visits_of l w es count g n p at m t) e

pub pass_is : (l : Layout) (w : Weighing) (es : List Edge) (count : ℕ) (g : ℤ) (n p at : ℕ) (t u : List ℤ) → lt_z mark g ≡ true → u ≡ visits_of l w es count g n p at l.block t → u ≡ pass_of l w es count g n p at t
unfolding pass_of
pass_is l w es count g n p at t u m f = rw m f

pub pass_no : (l : Layout) (w : Weighing) (es : List Edge) (count : ℕ) (g : ℤ) (n p at : ℕ) (t : List ℤ) → lt_z mark g ≡ false → t ≡ pass_of l w es count g n p at t
unfolding pass_of
pass_no l w es count g n p at t m = rw m

-- ---- a place, a row

pub ready-kept : {l : Layout} {n : ℕ} {t u : List ℤ} → Kept ((n + 1) * l.row) t u → Ready t l n → Ready u l n
ready-kept {l} {n} k r =
    record { inside = rw k.long r.inside; low = r.low; bounded = bounded-kept k (omega (arith, row_next n l.row)) r.bounded }

-- a block of row n can be moved
pub pass_asks : (t : List ℤ) (l : Layout) (g : ℤ) (n stage p : ℕ) → Laid l → Sized 8000000 g → stage ≤ 1 → p < l.places → Ready t l n → Passing t l (record { len = n; place = p; start = block_at l n stage p; gain = g })
unfolding block_at
pass_asks t l g n stage p laid small st pl r =
    let low = r.low in
    let b = block-low l n stage p (record { laid = laid; low = omega arith; stages = st; place = pl }) in
    record {
      gain = small;
      low = r.low;
      place = pl;
      apart = omega (arith, row_next n l.row);
      inside = r.inside;
      bounded = bounded-part _ _ r.bounded (omega arith);
    }

module _ (l : Layout) (w : Weighing) (es : List Edge) (count : ℕ) (g h : ℤ) (n p : ℕ) where
  -- what a stage does to the table, and what it tells of the table t
  abbrev pub stage_pass : ℕ → List ℤ → List ℤ
  stage_pass stage = pass_of l w es count (gain_in g h stage) n p (block_at l n stage p)

  abbrev pub stage_told : (tells : List Bool) → List ℤ → ℕ → Option Report → Option Report
  stage_told tells t stage = told_pass l w es count tells (gain_in g h stage) n p (block_at l n stage p) t

  stage_sized : (stage : ℕ) → Sized 8000000 g → Sized 8000000 h → Sized 8000000 (gain_in g h stage)
  stage_sized stage a b = by (eqb stage 0)
    where
      by : (c : Bool) → Sized 8000000 (cond c g h)
      by true = a
      by false = b

  pub stage_asks : (t u : List ℤ) (stage at : ℕ) → Laid l → Placing t l g h n p → stage < 2 → Kept ((n + 1) * l.row) t u → at ≡ block_at l n stage p → Passing u l (record { len = n; place = p; start = at; gain = gain_in g h stage })
  stage_asks t u stage at laid r low k e =
      rw e (pass_asks u l (gain_in g h stage) n stage p laid (stage_sized stage r.entered r.staying) (omega arith) r.place (ready-kept k r.ready))

  pub stages-place : (stage : ℕ) (t u : List ℤ) → stage ≡ 2 → u ≡ each stage_pass stage t → u ≡ place_of l w es count g h n p t
  unfolding each place_of
  stages-place stage t u two e = rw two at e

  pub stages-told : (tells : List Bool) (t : List ℤ) (stage : ℕ) (r q : Option Report) → stage ≡ 2 → q ≡ each (stage_told tells t) stage r → q ≡ told_place l w es count tells g h n p t r
  unfolding each told_place
  stages-told tells t stage r q two e = rw two at e

-- ---- rows

pub known-place : (t : List ℤ) (l : Layout) (v : View) (g h : ℤ) (n p : ℕ) → Gains l v → Ready t l n → p < l.places → g ≡ gain_at v.entered p → h ≡ gain_at v.staying p → Placing t l g h n p
known-place t l v g h n p k r low eg eh =
    rw (eg, eh) (record { entered = k.entered p low; staying = k.staying p low; place = low; ready = r })

pub known_sourced : {l : Layout} {v : View} {es : List Edge} {count : ℕ} → Known l v es count → Sourced es count
known_sourced k =
    record { few = k.edges; froms = λ i h. let f = k.froms i h in let p = k.laid.few in omega arith }

pub edged_sourced : {l : Layout} {es : List Edge} {count : ℕ} → Laid l → Edged l es count → Sourced es count
edged_sourced laid k =
    record { few = k.few; froms = λ i h. let f = k.froms i h in let p = laid.few in omega arith }

-- what is known of a view, of a layout and edges, and of all together
pub known_gains : {l : Layout} {v : View} {es : List Edge} {count : ℕ} → Known l v es count → Gains l v
known_gains k = record { entered = k.entered; staying = k.staying }

pub known_of : {l : Layout} {v : View} {es : List Edge} {count : ℕ} → Laid l → Edged l es count → Gains l v → Known l v es count
known_of laid e k =
    record { laid = laid; entered = k.entered; staying = k.staying; edges = e.few; froms = e.froms; tos = e.tos; fits = e.fits }

pub clear_ready : (l : Layout) (n : ℕ) (t u : List ℤ) → u ≡ cleared t ((n + 1) * l.row) ((n + 1) * l.row + l.row) → Ready t l n → Ready u l n
clear_ready l n t u f r = rw f (ready-kept (marked-kept ((n + 1) * l.row) t ((n + 1) * l.row) _ (omega arith)) r)

pub row_is : (l : Layout) (w : Weighing) (v : View) (es : List Edge) (count n : ℕ) (t u x : List ℤ) → u ≡ cleared t ((n + 1) * l.row) ((n + 1) * l.row + l.row) → x ≡ places_of l w v es count n l.places u → x ≡ row_of l w v es count n t
unfolding row_of
row_is l w v es count n t u x f g = g ∙ rw f

pub rows_step : (l : Layout) (w : Weighing) (v : View) (es : List Edge) (count n : ℕ) (t : List ℤ) → rows_of l w v es count (n + 1) t ≡ rows_of l w v es count n (row_of l w v es count n t)
unfolding rows_of
rows_step l w v es count n t = rw (add-one n)

pub bounded-from : {t : List ℤ} {n : ℕ} (b m : ℕ) → Bounded t 0 n → b + m ≤ n → Bounded t b m
bounded-from {t} {n} b m o h =
    record { at = λ k i. let s : 0 + (b + k) ≡ b + k = omega arith in rw s at (o.at (b + k) (omega arith)) }

-- the row below n is ready
pub rows-ready : (l : Layout) (t : List ℤ) (n : ℕ) → cells_in l ≤ length t → 0 < n → n ≤ l.high → Bounded t 0 (n * l.row) → Ready t l (n - 1)
rows-ready l t n inside some low o =
    let e : n - 1 + 1 ≡ n = omega arith in
    let f = row_next (n - 1) l.row in
    let g : (n - 1) * l.row + l.row ≡ n * l.row = sym f ∙ ap (λ (m : ℕ). m * l.row) e in
    record { inside = inside; low = omega arith; bounded = bounded-from ((n - 1) * l.row) l.row o (omega arith) }

module _ (l : Layout) (w : Weighing) (v : View) (es : List Edge) (count : ℕ) (t u : List ℤ) (n : ℕ) (some : 0 < n) (f : u ≡ row_of l w v es count (n - 1) t) where
  pub row-long : length u ≡ length t
  row-long = rw f (row_kept l w v es count (n - 1) t).long

  pub rows-bounded : Bounded t 0 (n * l.row) → Bounded u 0 ((n - 1) * l.row)
  rows-bounded o =
      let g = row_next (n - 1) l.row in
      let e : n - 1 + 1 ≡ n = omega arith in
      let x : (n - 1) * l.row + l.row ≡ n * l.row = sym g ∙ ap (λ (m : ℕ). m * l.row) e in
      rw f (bounded-kept (row_kept l w v es count (n - 1) t) (omega arith) (bounded-from 0 ((n - 1) * l.row) o (omega arith)))

  pub rows_again : (x : List ℤ) → rows_of l w v es count n t ≡ x → rows_of l w v es count (n - 1) u ≡ x
  rows_again x q =
      let e : n ≡ n - 1 + 1 = omega arith in
      let y : rows_of l w v es count n t ≡ rows_of l w v es count (n - 1) (row_of l w v es count (n - 1) t) = ap (λ (m : ℕ). rows_of l w v es count m t) e ∙ rows_step l w v es count (n - 1) t in
      rw f (sym y ∙ q)

pub rows_end : (l : Layout) (w : Weighing) (v : View) (es : List Edge) (count n : ℕ) (t x : List ℤ) → n ≡ 0 → rows_of l w v es count n t ≡ x → t ≡ x
unfolding rows_of
rows_end l w v es count n t x e f = rw e at f

-- ---- a tick

pub starts-step : (size : ℕ) (unit : ℤ) (starts : List Bool) (p : ℕ) (t : List ℤ) → starts_of size unit starts (p + 1) t ≡ cond (get_or starts p false) (set (starts_of size unit starts p t) (p * size) unit) (starts_of size unit starts p t)
unfolding starts_of
starts-step size unit starts p t = rw (add-one p)

pub first_fits : (l : Layout) (p : ℕ) → Laid l → p < l.places → p * l.block < l.row
first_fits l p h low =
    omega (arith, blocks_inside l h (p + 1) (omega arith), row_next p l.block, block-some l h)

pub tick_is : (l : Layout) (w : Weighing) (v : View) (es : List Edge) (count : ℕ) (starts : List Bool) (t u x y : List ℤ) → u ≡ rows_of l w v es count l.high t → x ≡ cleared u 0 l.row → y ≡ begun l w starts x → y ≡ tick_of l w v es count starts t
unfolding tick_of
tick_is l w v es count starts t u x y f g h = h ∙ rw (g, f)

pub open_is : (l : Layout) (w : Weighing) (starts : List Bool) (t u x : List ℤ) → u ≡ cleared t 0 (cells_in l) → x ≡ begun l w starts u → x ≡ open_of l w starts t
unfolding open_of
open_is l w starts t u x f g = g ∙ rw f

row-some : (r k m : ℕ) → k < m * r → 0 < r
row-some zero k m h = absurd (omega (arith, mul-zero m))
row-some (suc r) k m h = omega arith

-- a whole table's rows can be moved: their limits are far from the end of i64
pub whole-rows : (t : List ℤ) (l : Layout) → Laid l → Whole t l → Rows t l
whole-rows t l h o = record { inside = o.inside; bounded = record { at = λ k low. rw (zero-add k) (by k low) } }
  where
    by : (k : ℕ) → k < l.high * l.row → Sized (2 ^ 60) (cell_at t k)
    by k low =
        let some : 0 < l.row = row-some l.row k l.high low in
        let d = div-add-mod' k l.row in
        let n = (div-lt_iff_lt-mul {x = k} {y = l.high} some).1 low in
        let m : k / l.row * 8000000 ≤ 65535 * 8000000 = mul-le-mul_right {m = k / l.row} {n = 65535} 8000000 (omega (arith, h.short)) in
        let s = o.bounded (k / l.row) (k % l.row) (omega arith) (mod-lt k some) in
        let z : cell_at t (k / l.row * l.row + k % l.row) ≡ cell_at t k = ap (cell_at t) d in
        sized_more (omega arith) (rw z at s)

-- cells that are marks or within the limit of row 0 are within every row's
pub whole_from : (t : List ℤ) (l : Layout) → cells_in l ≤ length t → ((i : ℕ) → i < cells_in l → Sized 32760000000 (cell_at t i)) → Whole t l
whole_from t l inside o =
    record {
      inside = inside;
      bounded = λ n i low h.
          let f = row_inside l n (omega arith) in
          sized_more (omega arith) (o (n * l.row + i) (omega arith));
    }
