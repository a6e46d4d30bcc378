-- A whole run: what its steps come to is its price, and where it stands at its begin.
use Prim.Native.Nat.{ℕ, zero, suc, ◌+◌, ◌-◌, ◌*◌, ◌≤◌, ◌<◌}
use native.Mathlib.Nat.{add-zero}
use native.Mathlib.Omega.{arith}
use mathlib.Core.Path.{◌≡◌, refl, sym, ap, ◌∙◌}
use mathlib.Core.List.{List, [], ◌∷◌, map, zip_with}
use mathlib.Core.Option.{Option, none, some}
use Rattle.std.specs.Prelude.{Some, None}
use mathlib.Core.Bool.{Bool, true, false, cond, ◌&&◌}
use borrow.Author.Tests.{le-leb, lt-leb, leb-true, leb-false, ltb-true, eqb-true}
use lib.Dec.{T, leb}
use lib.ListN.{length, take, drop, get_or, length-drop}
use lib.Seq.{drop-drop, get_or-drop, take_all}
use lib.IntN.{ℤ}
use Rattle.weighting.specs.Weighting.{combine_from}
use Rattle.weighting.proofs.Weightings.{weighting_of}
use Rattle.weighting.proofs.Worths.{combine_from-combine}
use Rattle.weighting.proofs.Sizes.{unit_size}
use Rattle.pattern.specs.declared.Pattern.{Pattern}
use Rattle.pattern.specs.InUse.{place_at, edge_at}
use Rattle.pattern.specs.Kinds.{is_start, is_end}
use Rattle.pattern.specs.Clocks.{Clocks, clock_at, zero_clocks}
use Rattle.pattern.specs.Distance.{place_worth}
use Rattle.pattern.proofs.SoundLaws.{both}
use Rattle.price.specs.declared.Begin.{Begin}
use Rattle.price_runs.specs.declared.Stand.{Stand}
use Rattle.record.specs.Record.{Book, ticks_of, pieces_of, book_of, total, record_sound}
use Rattle.record.specs.Joined.{agrees, joined, observed}
use Rattle.record.specs.Run.{Step, can_step, clocks_after, goes, is_run, length_of, steps_of}
use Rattle.record.specs.Worth.{stay_worth, stay_worths, run_worth, price_of}
use Rattle.price.specs.Price.{steps_fit}
use Rattle.price_stays.specs.Walk.{ahead}
use Rattle.price_runs.specs.Stand.{score_from, outcome, Held}
use Rattle.price.specs.Whole.{Found, stand_of, start_of}
use Rattle.std.proofs.lemmas.List.{get_or_default}
use Rattle.record.proofs.RecordLaws.{parts, part_sound, length-ticks, drop_pieces, ticks-from}
use Rattle.record.proofs.PlaceLaws.{stays-worth-all}

-- ---- what the steps come to is the run's price

worths_shift : (p : Pattern) (b : Book) (t u : ℕ) (xs : List Step) → stay_worths p b (t + u) xs ≡ stay_worths p (drop t b) u xs
unfolding stay_worths stay_worth observed
worths_shift p b t u [] = refl
worths_shift p b t u (x ∷ xs) =
    let e : t + u + x.stay ≡ t + (u + x.stay) = omega arith in
    rw (e, worths_shift p b t (u + x.stay) xs, drop-drop u t b)

leb-split : (a b n : ℕ) → leb (a + b) n ≡ leb a n && leb b (n - a)
leb-split a b n = by (leb a n) refl
  where
    by : (t : Bool) → leb a n ≡ t → leb (a + b) n ≡ t && leb b (n - a)
    by true e = then (leb b (n - a)) refl
      where
        then : (t : Bool) → leb b (n - a) ≡ t → leb (a + b) n ≡ t
        then true k = le-leb (a + b) n (omega (arith, leb-true a n e, leb-true b (n - a) k))
        then false k = lt-leb (a + b) n (omega (arith, leb-true a n e, leb-false b (n - a) k))
    by false e = lt-leb (a + b) n (omega (arith, leb-false a n e))

pub score-is : (p : Pattern) (b : Book) (a : ℤ) (k : ℕ) (cs : Clocks) (xs : List Step) → T ((weighting_of p.weighing).worth a)
    → score_from p b a k cs xs ≡ cond (goes p k cs xs && leb (length_of xs) (length b)) (some (combine_from (weighting_of p.weighing) a (stay_worths p b 0 xs))) none
unfolding score_from goes length_of stay_worths combine_from stay_worth observed
score-is p b a k cs [] h = rw (le-leb 0 (length b) (omega arith)) (by (is_end (place_at p k).kind))
  where
    by : (t : Bool) → cond t (some a) none ≡ cond (t && true) (some a) none
    by true = refl
    by false = refl
score-is p b a k cs (x ∷ xs) h =
    let W = weighting_of p.weighing in
    let obs = map (place_worth p.weighing (place_at p (edge_at p x.edge).from)) (joined (agrees (place_at p (edge_at p x.edge).from)) (take x.stay b)) in
    let a' = combine_from W a obs in
    let b' = drop x.stay b in
    rw (score-is p b' a' (edge_at p x.edge).to (clocks_after p cs x) xs (stays-worth-all p.weighing a obs h), length-drop x.stay b, leb-split x.stay (length_of xs) (length b), flat)
    (by (can_step p k cs x) (leb x.stay (length b)) (goes p (edge_at p x.edge).to (clocks_after p cs x) xs) (leb (length_of xs) (length b - x.stay)) _)
  where
    flat : combine_from (weighting_of p.weighing) ((weighting_of p.weighing).combine a (stay_worth p b (edge_at p x.edge).from 0 x.stay)) (stay_worths p b (0 + x.stay) xs)
        ≡ combine_from (weighting_of p.weighing) (combine_from (weighting_of p.weighing) a (map (place_worth p.weighing (place_at p (edge_at p x.edge).from)) (joined (agrees (place_at p (edge_at p x.edge).from)) (take x.stay b)))) (stay_worths p (drop x.stay b) 0 xs)
    flat =
        let W = weighting_of p.weighing in
        let obs = map (place_worth p.weighing (place_at p (edge_at p x.edge).from)) (joined (agrees (place_at p (edge_at p x.edge).from)) (take x.stay b)) in
        let zero-first : 0 + x.stay ≡ x.stay + 0 = omega arith in
        rw (zero-first, worths_shift p b x.stay 0 xs, ← combine_from-combine W a W.unit obs, W.unit_right a h)

    by : (c l g m : Bool) (o : Option ℤ) → cond (c && l) (cond (g && m) o none) none ≡ cond (c && g && (l && m)) o none
    by true true true m o = refl
    by true true false m o = refl
    by true false true m o = refl
    by true false false m o = refl
    by false l g m o = refl

pub price-is : (p : Pattern) (b : Book) (begin : ℕ) (x : Step) (xs : List Step) → begin ≤ length b
    → price_of p b begin (x ∷ xs)
    ≡ cond (is_start (place_at p (edge_at p x.edge).from).kind)
    (score_from p (drop begin b) (weighting_of p.weighing).unit (edge_at p x.edge).from zero_clocks (x ∷ xs)) none
unfolding price_of is_run run_worth
price-is p b begin x xs h =
    let k = (edge_at p x.edge).from in
    let e : begin ≡ begin + 0 = omega arith in
    let w : stay_worths p b begin (x ∷ xs) ≡ stay_worths p (drop begin b) 0 (x ∷ xs) = ap (λ (t : ℕ). stay_worths p b t (x ∷ xs)) e ∙ worths_shift p b begin 0 (x ∷ xs) in
    rw (score-is p (drop begin b) (weighting_of p.weighing).unit k zero_clocks (x ∷ xs) (weighting_of p.weighing).unit_worth, w, leb-split begin (length_of (x ∷ xs)) (length b), le-leb begin (length b) h, length-drop begin b)
    (by (is_start (place_at p k).kind) (goes p k zero_clocks (x ∷ xs)) (leb (length_of (x ∷ xs)) (length b - begin)) _)
  where
    by : (s g l : Bool) (o : Option ℤ) → cond (s && g && l) o none ≡ cond s (cond (g && l) o none) none
    by true g l o = refl
    by false g l o = refl

-- ---- the begin's piece

-- the begin's ticks lie ahead of the begin's piece, in the part of the record from that piece on
pub begin-ahead : (n : ℕ) (ds : List ℕ) (vs : List ℤ) (begin : ℕ) (r : Begin) → Found ds begin r
    → drop begin (book_of n ds vs) ≡ ahead n (drop r.piece ds) (drop (r.piece * n) vs) 0 r.used
unfolding book_of ahead
begin-ahead n ds vs begin r f =
    ap (λ (t : ℕ). drop t (ticks_of (pieces_of n ds vs))) f.is
    ∙ sym (drop-drop r.used (total (take r.piece ds)) (ticks_of (pieces_of n ds vs)))
    ∙ ap (drop r.used) (ticks-from n r.piece ds vs (let e = f.inside in omega arith) ∙ ap ticks_of (drop_pieces n r.piece ds vs))

-- ---- the whole

pub record Steps (ds : List ℕ) (begin : ℕ) (es ss : List ℕ) : Type 0 where
  pub same : length es ≡ length ss
  pub some_step : 1 ≤ length es
  pub within : begin < total ds

pub steps : (ds : List ℕ) (begin : ℕ) (es ss : List ℕ) → steps_fit ds begin es ss ≡ true → Steps ds begin es ss
unfolding steps_fit
steps ds begin es ss e =
    let a = both _ _ e in
    let b = both _ _ a.0 in
    let c = both _ _ b.0 in
    record { same = eqb-true _ _ c.0; some_step = leb-true _ _ c.1; within = ltb-true _ _ a.1 }

-- the first step, and the others
steps_head : (es ss : List ℕ) → length es ≡ length ss → 1 ≤ length es
    → steps_of es ss ≡ record { edge = get_or es 0 0; stay = get_or ss 0 0 } ∷ drop 1 (steps_of es ss)
unfolding steps_of zip_with
steps_head [] ss e h = absurd (omega arith)
steps_head (a ∷ es) [] e h = absurd (omega arith)
steps_head (a ∷ es) (b ∷ ss) e h = refl

-- what comes of the steps where the run enters a start place, and where it does not
where_started : (p : Pattern) (ds : List ℕ) (vs : List ℤ) (t : Bool) (s : Stand) (xs : List Step)
    → outcome p ds vs (cond t (Some s) None) xs ≡ cond t (score_from p (ahead p.channels ds vs s.piece s.used) s.worth s.place s.clocks xs) none
unfolding outcome
where_started p ds vs true s xs = refl
where_started p ds vs false s xs = refl

-- who has started stands at the begin
pub started : (t : Bool) (s r : Stand) → cond t (Some s) None ≡ Some r → r ≡ s
started true s r e = cc
started false s r e = cc

-- what is left of a slice from a place on
pub rest_of : {A : Type 0} (i : ℕ) (xs : List A) → take (length xs - i) (drop i xs) ≡ drop i xs
rest_of i xs = take_all (length xs - i) (drop i xs) (omega (arith, length-drop i xs))

zero-at : (k : ℕ) → clock_at zero_clocks k ≡ 0
zero-at zero = refl
zero-at (suc zero) = refl
zero-at (suc (suc zero)) = refl
zero-at (suc (suc (suc zero))) = refl
zero-at (suc (suc (suc (suc k)))) = refl

module _ (p : Pattern) (ds : List ℕ) (vs : List ℤ) (begin : ℕ) (es ss : List ℕ) (kept : record_sound p.channels ds vs ≡ true) (fit : steps_fit ds begin es ss ≡ true) (r : Begin) (f : Found ds begin r) where
  -- where the code stands at the begin, in the part of the record from the begin's piece on
  abbrev pub at_begin : Stand
  at_begin = stand_of p (get_or es 0 0) r.used (total ds - begin)

  pub book-long : length (book_of p.channels ds vs) ≡ total ds
  unfolding book_of
  book-long = length-ticks p.channels ds vs

  pub kept-at-begin : record_sound p.channels (drop r.piece ds) (drop (r.piece * p.channels) vs) ≡ true
  kept-at-begin = let in-piece = f.inside in part_sound p.channels r.piece ds vs kept (omega arith)

  pub held-at-begin : Held p (drop r.piece ds) (drop (r.piece * p.channels) vs) at_begin
  held-at-begin =
      let k = parts p.channels ds vs kept in
      let short = k.short in
      let in-piece = f.inside in
      let below = f.below in
      let first : get_or (drop r.piece ds) 0 1 ≡ get_or ds r.piece 0 =
      get_or-drop r.piece ds 0 1 ∙ ap (λ (i : ℕ). get_or ds i 1) (add-zero r.piece) ∙ get_or_default ds r.piece 1 0 in-piece in
      record {
        stands = record { inside = omega arith; below = omega arith };
        left = rw (← begin-ahead p.channels ds vs begin r f, length-drop begin (book_of p.channels ds vs), book-long);
        clocks = λ k. omega (arith, zero-at k);
        size = omega (arith, unit_size p.weighing);
      }

  pub outcome-at-begin : outcome p (drop r.piece ds) (drop (r.piece * p.channels) vs) (start_of p (get_or es 0 0) r.used (total ds - begin)) (steps_of es ss)
      ≡ price_of p (book_of p.channels ds vs) begin (steps_of es ss)
  outcome-at-begin =
      let g = steps ds begin es ss fit in
      let same = g.same in
      let some_step = g.some_step in
      let within = g.within in
      where_started p (drop r.piece ds) (drop (r.piece * p.channels) vs) (is_start (place_at p (edge_at p (get_or es 0 0)).from).kind) at_begin (steps_of es ss)
      ∙ rw (steps_head es ss same (omega arith), ← begin-ahead p.channels ds vs begin r f)
      (sym (price-is p (book_of p.channels ds vs) begin (record { edge = get_or es 0 0; stay = get_or ss 0 0 }) (drop 1 (steps_of es ss)) (omega (arith, book-long))))
