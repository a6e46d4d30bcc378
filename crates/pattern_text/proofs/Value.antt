-- What fits and what is sound correspond, both ways.
use Prim.Native.Nat.{ℕ, ◌≤◌, ◌<◌}
use mathlib.Core.Path.{◌≡◌, refl, sym, ap, ap₂, ◌∙◌}
use mathlib.Core.List.{List, [], ◌∷◌, map}
use mathlib.Core.Bool.{Bool, true, false, not, cond, ◌&&◌}
use native.Mathlib.Omega.{arith}
use lib.Dec.{leb, ltb}
use lib.ListN.{length, take, length-map}
use borrow.Author.Tests.{leb-true, le-leb, eq-eqb}
use Rattle.pattern.specs.declared.Test.{Test}
use Rattle.pattern.specs.declared.Guard.{Guard}
use Rattle.pattern.specs.declared.Place.{Place}
use Rattle.pattern.specs.declared.Edge.{Edge}
use Rattle.pattern.specs.declared.Pattern.{Pattern}
use Rattle.pattern.specs.Slots.{all, within, anything, slots}
use Rattle.pattern.specs.Sound.{no_test, no_place, no_guard, no_edge, is_less, is_null, test_unused, guard_unused, place_unused, edge_unused, unsaid_zero, test_sound, guard_in_range, guard_known, header_in_range, place_sound, edge_sound, sound_of}
use Rattle.pattern.proofs.SoundLaws.{test_parts}
use Rattle.pattern_text.specs.Line.{Header, RawTest, side, inside, test_of, raw_test_of, PlaceLine, EdgeLine}
use Rattle.pattern_text.specs.Fault.{Doc, rising, edge_known, raw_in_range, raw_known}
use Rattle.pattern_text.specs.Text.{pad, flags, flagged, place_of, edge_of, pattern_of, place_line_of, edge_line_of, doc_of}
use Rattle.pattern_text.proofs.Tools.{both, four, in_both}
use Rattle.pattern_text.proofs.Runs.{head_fits, place_fits, edge_fits, Fits}
use Rattle.pattern_text.proofs.Slots.{Slotted, slotted, pad-slots, take-pad, less-only, null_only, test-only, guard-only, not-only, place-only, edge-only}
use Rattle.pattern_text.proofs.Resets.{clocks-back, flagged_rise, flags-back, flags-known, flags-length, widen}

-- ---- lists

all_split : {A : Type 0} (f g : A → Bool) (xs : List A) → all (λ x. f x && g x) xs ≡ true → (all f xs && all g xs) ≡ true
all_split f g [] h = refl
all_split f g (x ∷ xs) h =
    let k = both (f x && g x) (all (λ x. f x && g x) xs) h in
    let l = both (f x) (g x) k.0 in
    let m = both (all f xs) (all g xs) (all_split f g xs k.1) in
    in_both (in_both l.0 m.0) (in_both l.1 m.1)

pub all_join : {A : Type 0} (f g : A → Bool) (xs : List A) → all f xs ≡ true → all g xs ≡ true → all (λ x. f x && g x) xs ≡ true
all_join f g [] p q = refl
all_join f g (x ∷ xs) p q =
    let k = both (f x) (all f xs) p in
    let l = both (g x) (all g xs) q in
    in_both (in_both k.0 l.0) (all_join f g xs k.1 l.1)

module _ {A B : Type 0} (P : A → Bool) (f : A → B) where
  all_map : (Q : B → Bool) → ((a : A) → P a ≡ true → Q (f a) ≡ true) → (xs : List A) → all P xs ≡ true → all Q (map f xs) ≡ true
  all_map Q h [] p = refl
  all_map Q h (x ∷ xs) p = let k = both (P x) (all P xs) p in in_both (h x k.0) (all_map Q h xs k.1)

  map_back : (g : B → A) → ((a : A) → P a ≡ true → g (f a) ≡ a) → (xs : List A) → all P xs ≡ true → map g (map f xs) ≡ xs
  map_back g h [] p = refl
  map_back g h (x ∷ xs) p = let k = both (P x) (all P xs) p in ap₂ ◌∷◌ (h x k.0) (map_back g h xs k.1)

all_any : {A : Type 0} (xs : List A) → all anything xs ≡ true
all_any [] = refl
all_any (x ∷ xs) = all_any xs

-- ---- a place

-- a test that leaves unsaid what its kind does is what its line says
line_test : (t : Test) → unsaid_zero t ≡ true → test_of (raw_test_of t) ≡ t
unfolding unsaid_zero
line_test t e = by t.band refl e
  where
    by : (b : Bool) → t.band ≡ b → cond b (is_less t.sign) (is_null t.high) ≡ true
        → test_of (cond b (inside t.channel t.bound t.high) (side t.sign t.channel t.bound)) ≡ t
    by true h e = λ i. record { sign = sym (less-only t.sign e) i; channel = t.channel; bound = t.bound; band = sym h i; high = t.high }
    by false h e = λ i. record { sign = t.sign; channel = t.channel; bound = t.bound; band = sym h i; high = sym (null_only t.high e) i }

unsaid_line : (x : RawTest) → unsaid_zero (test_of x) ≡ true
unfolding unsaid_zero
unsaid_line (side s c b) = refl
unsaid_line (inside c l h) = refl

test_line : (x : RawTest) → raw_test_of (test_of x) ≡ x
test_line (side s c b) = refl
test_line (inside c l h) = refl

abbrev used_line : ℕ → RawTest → Bool
used_line channels x = raw_in_range x && raw_known channels x

module _ (channels : ℕ) where
  used_line_lem : (t : Test) → test_sound channels t ≡ true → used_line channels (raw_test_of t) ≡ true
  used_line_lem t h = let p = test_parts channels t h in rw (line_test t p.rest) (in_both p.in_range p.known)

  sound_line : (x : RawTest) → used_line channels x ≡ true → test_sound channels (test_of x) ≡ true
  unfolding test_sound
  sound_line x h = in_both h (unsaid_line x)

  place-fits : (l : Place) → place_sound channels l ≡ true → place_fits channels (place_line_of l) ≡ true
  unfolding place_sound place_fits place_line_of
  place-fits l h =
      let s = slotted (test_sound channels) test_unused 4 no_test test-only l.count l.tests h in
      let n = s.fits in
      let c = s.count in
      let ts = take l.count l.tests in
      let m = length-map ts raw_test_of in
      in_both (le-leb (length (map raw_test_of ts)) 4 (omega arith)) (all_split raw_in_range (raw_known channels) (map raw_test_of ts) (all_map (test_sound channels) raw_test_of (used_line channels) used_line_lem ts s.used_ones))

  place-back : (l : Place) → place_sound channels l ≡ true → place_of (place_line_of l) ≡ l
  unfolding place_sound place_of place_line_of
  place-back l h =
      let s = slotted (test_sound channels) test_unused 4 no_test test-only l.count l.tests h in
      let ts = take l.count l.tests in
      let back : map test_of (map raw_test_of ts) ≡ ts = map_back (test_sound channels) raw_test_of test_of (λ t e. line_test t (test_parts channels t e).rest) ts s.used_ones in
      λ i. record { kind = l.kind; tests = (ap (pad 4 no_test) back ∙ s.padded) i; count = (length-map ts raw_test_of ∙ s.count) i }

  place-sound : (l : PlaceLine) → place_fits channels l ≡ true → place_sound channels (place_of l) ≡ true
  unfolding place_sound place_fits place_of test_unused
  place-sound l h =
      let k = both (leb (length l.tests) 4) (all raw_in_range l.tests && all (raw_known channels) l.tests) h in
      let m = both (all raw_in_range l.tests) (all (raw_known channels) l.tests) k.1 in
      let n = length-map l.tests test_of in
      rw n at (pad-slots (test_sound channels) test_unused 4 no_test refl (map test_of l.tests) (rw n (leb-true (length l.tests) 4 k.0))
      (all_map (used_line channels) test_of (test_sound channels) sound_line l.tests (all_join raw_in_range (raw_known channels) l.tests m.0 m.1)))

place_line_back : (l : PlaceLine) → place_line_of (place_of l) ≡ l
unfolding place_of place_line_of
place_line_back l =
    let t : take (length l.tests) (pad 4 no_test (map test_of l.tests)) ≡ map test_of l.tests = rw (← length-map l.tests test_of) (take-pad 4 no_test (map test_of l.tests)) in
    λ i. record { kind = l.kind; tests = (ap (map raw_test_of) t ∙ map_back anything test_of raw_test_of (λ x _. test_line x) l.tests (all_any l.tests)) i }

-- ---- an edge

abbrev used_guard : ℕ → Guard → Bool
used_guard clocks g = guard_in_range g && guard_known clocks g

module _ (clocks places : ℕ) where
  record Edged (e : Edge) : Type 0 where
    leaves : ltb e.from places ≡ true
    enters : ltb e.to places ≡ true
    guards : Slotted (used_guard clocks) guard_unused 4 e.count no_guard e.guards
    resets : Slotted anything not 4 clocks false e.resets

  edged : (e : Edge) → edge_sound clocks places e ≡ true → Edged e
  unfolding edge_sound
  edged e h =
      let k = four (ltb e.from places) (ltb e.to places) (slots (used_guard clocks) guard_unused 4 e.count e.guards) (slots anything not 4 clocks e.resets) h in
      record {
        leaves = k.0;
        enters = k.1;
        guards = slotted (used_guard clocks) guard_unused 4 no_guard guard-only e.count e.guards k.2;
        resets = slotted anything not 4 false not-only clocks e.resets k.3;
      }

  edge-fits : (e : Edge) → edge_sound clocks places e ≡ true → edge_fits clocks places (edge_line_of e) ≡ true
  unfolding edge_fits edge_line_of edge_known
  edge-fits e h =
      let s = edged e h in
      let n = s.guards.fits in
      let c = s.guards.count in
      let u = both (all guard_in_range (take e.count e.guards)) (all (guard_known clocks) (take e.count e.guards)) (all_split guard_in_range (guard_known clocks) (take e.count e.guards) s.guards.used_ones) in
      in_both (le-leb (length (take e.count e.guards)) 4 (omega arith))
      (in_both u.0 (in_both (in_both (in_both s.leaves s.enters) u.1) (flagged_rise clocks e.resets 0 clocks (omega arith) s.resets.unused_ones)))

  edge-back : (e : Edge) → edge_sound clocks places e ≡ true → edge_of (edge_line_of e) ≡ e
  unfolding edge_of edge_line_of
  edge-back e h =
      let s = edged e h in
      let f : flags 0 4 (flagged 0 e.resets) ≡ e.resets = rw (← s.resets.whole) (flags-back e.resets 0) in
      λ i. record { from = e.from; to = e.to; guards = s.guards.padded i; count = s.guards.count i; resets = f i }

  pub record Lined (e : EdgeLine) : Type 0 where
    pub few : length e.guards ≤ 4
    pub in_range : all guard_in_range e.guards ≡ true
    pub leaves : ltb e.from places ≡ true
    pub enters : ltb e.to places ≡ true
    pub known : all (guard_known clocks) e.guards ≡ true
    pub rises : rising 0 clocks e.resets ≡ true

  pub lined : (e : EdgeLine) → edge_fits clocks places e ≡ true → Lined e
  unfolding edge_fits edge_known
  lined e h =
      let a = both (leb (length e.guards) 4) (all guard_in_range e.guards && edge_known clocks places e) h in
      let b = both (all guard_in_range e.guards) (edge_known clocks places e) a.1 in
      let c = four (ltb e.from places) (ltb e.to places) (all (guard_known clocks) e.guards) (rising 0 clocks e.resets) b.1 in
      record { few = leb-true (length e.guards) 4 a.0; in_range = b.0; leaves = c.0; enters = c.1; known = c.2; rises = c.3 }

  module _ (most : clocks ≤ 4) where
    edge-sound : (e : EdgeLine) → edge_fits clocks places e ≡ true → edge_sound clocks places (edge_of e) ≡ true
    unfolding edge_sound edge_of guard_unused slots
    edge-sound e h =
        let l = lined e h in
        let r : slots anything not 4 clocks (flags 0 4 e.resets) ≡ true
        = in_both (in_both (in_both (eq-eqb (length (flags 0 4 e.resets)) 4 (flags-length 4 0 e.resets)) (le-leb clocks 4 most)) (all_any (take clocks (flags 0 4 e.resets))))
        (flags-known clocks 4 0 clocks e.resets (omega arith) l.rises) in
        in_both (in_both (in_both l.leaves l.enters)
        (pad-slots (used_guard clocks) guard_unused 4 no_guard refl e.guards l.few (all_join guard_in_range (guard_known clocks) e.guards l.in_range l.known))) r

    edge_line_back : (e : EdgeLine) → edge_fits clocks places e ≡ true → edge_line_of (edge_of e) ≡ e
    unfolding edge_of edge_line_of
    edge_line_back e h =
        let l = lined e h in
        let f : flagged 0 (flags 0 4 e.resets) ≡ e.resets = clocks-back 4 0 4 e.resets refl (widen 0 clocks 4 e.resets most l.rises) in
        λ i. record { from = e.from; to = e.to; guards = take-pad 4 no_guard e.guards i; resets = f i }

-- ---- the pattern

pub record Ranged (h : Header) : Type 0 where
  pub channels : h.channels ≤ 8
  pub clocks : h.clocks ≤ 4
  pub low : h.low ≤ 4_095
  pub high : h.high ≤ 4_095

pub ranged : (h : Header) → head_fits h ≡ true → Ranged h
unfolding head_fits header_in_range
ranged h t =
    let a = four (within 1 8 h.channels) (leb h.clocks 4) (within 1 4_095 h.low) (within h.low 4_095 h.high) t in
    record {
      channels = leb-true h.channels 8 (both (leb 1 h.channels) (leb h.channels 8) a.0).1;
      clocks = leb-true h.clocks 4 a.1;
      low = leb-true h.low 4_095 (both (leb 1 h.low) (leb h.low 4_095) a.2).1;
      high = leb-true h.high 4_095 (both (leb h.low h.high) (leb h.high 4_095) a.3).1;
    }

pub record Whole (p : Pattern) : Type 0 where
  pub fits : Fits (doc_of p)
  pub a_place : 0 < length (doc_of p).places
  pub back : pattern_of (doc_of p) ≡ p

-- what a sound pattern's text says fits, and gives the pattern back
pub sound-doc : (p : Pattern) → sound_of p ≡ true → Whole p
unfolding sound_of doc_of pattern_of head_fits
sound-doc p h =
    let ch = p.channels in
    let ck = p.clocks in
    let n = p.placecount in
    let k = four (header_in_range ch ck p.low p.high) (leb 1 n) (slots (place_sound ch) place_unused 16 n p.places) (slots (edge_sound ck n) edge_unused 32 p.edgecount p.edges) h in
    let ps = slotted (place_sound ch) place_unused 16 no_place place-only n p.places k.2 in
    let es = slotted (edge_sound ck n) edge_unused 32 no_edge edge-only p.edgecount p.edges k.3 in
    let np : length (map place_line_of (take n p.places)) ≡ n = length-map (take n p.places) place_line_of ∙ ps.count in
    let ne : length (map edge_line_of (take p.edgecount p.edges)) ≡ p.edgecount = length-map (take p.edgecount p.edges) edge_line_of ∙ es.count in
    record {
      fits = record {
        head = k.0;
        few = rw np ps.fits;
        places = all_map (place_sound ch) place_line_of (place_fits ch) (place-fits ch) (take n p.places) ps.used_ones;
        few_edges = rw ne es.fits;
        edges = rw np (all_map (edge_sound ck n) edge_line_of (edge_fits ck n) (edge-fits ck n) (take p.edgecount p.edges) es.used_ones);
      };
      a_place = rw np (leb-true 1 n k.1);
      back = λ i. record {
        weighing = p.weighing;
        channels = ch;
        clocks = ck;
        low = p.low;
        high = p.high;
        placecount = np i;
        places = (ap (pad 16 no_place) (map_back (place_sound ch) place_line_of place_of (place-back ch) (take n p.places) ps.used_ones) ∙ ps.padded) i;
        edgecount = ne i;
        edges = (ap (pad 32 no_edge) (map_back (edge_sound ck n) edge_line_of edge_of (edge-back ck n) (take p.edgecount p.edges) es.used_ones) ∙ es.padded) i;
      };
    }

-- what fits gives a sound pattern, and is what that pattern's text says
pub doc-sound : (d : Doc) → Fits d → 0 < length d.places → sound_of (pattern_of d) ≡ true
unfolding sound_of pattern_of head_fits place_unused edge_unused test_unused guard_unused slots
doc-sound d f n =
    let ck = d.head.clocks in
    let np = length-map d.places place_of in
    let ne = length-map d.edges edge_of in
    in_both (in_both (in_both f.head (le-leb 1 (length d.places) n))
    (rw np at (pad-slots (place_sound d.head.channels) place_unused 16 no_place refl (map place_of d.places) (rw np f.few)
    (all_map (place_fits d.head.channels) place_of (place_sound d.head.channels) (place-sound d.head.channels) d.places f.places))))
    (rw ne at (pad-slots (edge_sound ck (length d.places)) edge_unused 32 no_edge refl (map edge_of d.edges) (rw ne f.few_edges)
    (all_map (edge_fits ck (length d.places)) edge_of (edge_sound ck (length d.places)) (edge-sound ck (length d.places) (ranged d.head f.head).clocks) d.edges f.edges)))

pub doc-back : (d : Doc) → Fits d → doc_of (pattern_of d) ≡ d
unfolding doc_of pattern_of
doc-back d f =
    let ps : take (length d.places) (pad 16 no_place (map place_of d.places)) ≡ map place_of d.places = rw (← length-map d.places place_of) (take-pad 16 no_place (map place_of d.places)) in
    let es : take (length d.edges) (pad 32 no_edge (map edge_of d.edges)) ≡ map edge_of d.edges = rw (← length-map d.edges edge_of) (take-pad 32 no_edge (map edge_of d.edges)) in
    λ i. record {
      head = d.head;
      places = (ap (map place_line_of) ps ∙ map_back (place_fits d.head.channels) place_of place_line_of (λ l _. place_line_back l) d.places f.places) i;
      edges = (ap (map edge_line_of) es ∙ map_back (edge_fits d.head.clocks (length d.places)) edge_of edge_line_of (edge_line_back d.head.clocks (length d.places) (ranged d.head f.head).clocks) d.edges f.edges) i;
    }
