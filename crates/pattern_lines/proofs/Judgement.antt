-- A header's ranges as inequalities; a line without a fault leaves room for what it holds.
use Rattle.std.proofs.Common.{◌≡◌, ℕ, ◌≤◌, ◌<◌, Bool, true, false, ◌&&◌, refl, ltb, Ok}
use lib.Dec.{leb}
use borrow.Author.Tests.{ltb-true, leb-true, le-leb}
use Rattle.pattern.specs.Slots.{within}
use Rattle.pattern.specs.Sound.{header_in_range}
use Rattle.pattern.specs.declared.Test.{Test}
use Rattle.pattern_text.specs.Fault.{judged}
use Rattle.pattern_text.proofs.Tools.{both, by-test}
use Rattle.line_lists.specs.declared.Parts.{Parts}
use Rattle.line_read.specs.declared.EdgeLine.{EdgeLine}
use Rattle.pattern_lines.specs.Turn.{verdict_of, place_verdict, edge_verdict}

-- ---- a header's ranges

pub record InRange (c k l h : ℕ) : Type 0 where
  pub some : 1 ≤ c
  pub few : c ≤ 8
  pub clocks : k ≤ 4
  pub least : 1 ≤ l
  pub low : l ≤ 4_095
  pub above : l ≤ h
  pub high : h ≤ 4_095

pub ranges : (channels clocks low high : ℕ) → header_in_range channels clocks low high ≡ true → InRange channels clocks low high
unfolding header_in_range
ranges c k l h e =
    let a = both (within 1 8 c && leb k 4 && within 1 4_095 l) (within l 4_095 h) e in
    let b = both (within 1 8 c && leb k 4) (within 1 4_095 l) a.0 in
    let d = both (within 1 8 c) (leb k 4) b.0 in
    let x = both (leb 1 c) (leb c 8) d.0 in
    let y = both (leb 1 l) (leb l 4_095) b.1 in
    let z = both (leb l h) (leb h 4_095) a.1 in
    record { some = leb-true 1 c x.0; few = leb-true c 8 x.1; clocks = leb-true k 4 d.1; least = leb-true 1 l y.0; low = leb-true l 4_095 y.1; above = leb-true l h z.0; high = leb-true h 4_095 z.1 }

pub in-range : (channels clocks low high : ℕ) → InRange channels clocks low high → header_in_range channels clocks low high ≡ true
unfolding header_in_range
in-range c k l h r = rw (le-leb 1 c r.some, le-leb c 8 r.few, le-leb k 4 r.clocks, le-leb 1 l r.least, le-leb l 4_095 r.low, le-leb l h r.above, le-leb h 4_095 r.high) refl

pub out_of_range_lem : (channels clocks low high : ℕ) → (InRange channels clocks low high → ⊥) → header_in_range channels clocks low high ≡ false
out_of_range_lem c k l h n = by-test (header_in_range c k l h) (λ e. absurd (n (ranges c k l h e))) (λ e. e)

-- ---- room

few_lem : (few in_range known : Bool) {u : Unit} → Ok u ≡ verdict_of few in_range known → few ≡ true
unfolding verdict_of judged
few_lem true in_range known e = refl
few_lem false in_range known e = cc

room : (n size : ℕ) (b in_range known : Bool) {u : Unit} → Ok u ≡ verdict_of (ltb n size && b) in_range known → n < size
room n size b in_range known e = ltb-true n size (both (ltb n size) b (few_lem (ltb n size && b) in_range known e)).0

pub place_room : (n : ℕ) (tests : Parts Test 4) {u : Unit} → Ok u ≡ place_verdict n tests → n < 16
unfolding place_verdict
place_room n tests e = room n 16 _ _ _ e

pub edge_room : (places n : ℕ) (line : EdgeLine) {u : Unit} → Ok u ≡ edge_verdict places n line → n < 32
unfolding edge_verdict
edge_room places n line e = room n 32 _ _ _ e
