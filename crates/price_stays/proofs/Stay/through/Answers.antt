-- `through` is a turn of WalkLaws: the stay ends in the piece, or moves on.
use Rattle.std.proofs.Common.{◌≡◌, ℕ, ◌+◌, ◌*◌, ◌≤◌, ◌<◌, ◌^◌, ◌∙◌, ℤ, nat_abs, SFits, arith, to_z, of_z}
use Rattle.std.specs.Int.{w64}
use Rattle.integers.proofs.Ranges.{abs_fits_64}
use Rattle.integers.proofs.Casts.{read_back}
use Rattle.price_stays.specs.declared.Stay.{Stay}
use Rattle.price_stays.specs.declared.Walk.{Walk}
use Rattle.price_stays.specs.Within.{worth_in, WalksIn}
use Rattle.price_stays.proofs.WalkLaws.{inside, observes, next, taken-within, taken-whole}
use Rattle.price_stays.proofs.Stay.through.Goals.{Start}
use Rattle.price_stays.proofs.Stay.through.Goals as goal

-- the worth so far, as the machine reads it
reads-worth : (a : ℤ) (left : ℕ) → nat_abs a + 8_000_000 * left ≤ 2 ^ 60 → to_z w64 (of_z w64 a) ≡ a
reads-worth a left h = read_back w64 a (abs_fits_64 a (2 ^ 60) (omega arith) (omega arith))

pub bounds-self-s : goal.bounds-self-s
bounds-self-s c =
    let a = c.args in
    let k = a.self.now in
    inside k.weighing k.place k.channels k.lent.durations.now k.lent.values.now k.first a.s c.requires.walks c.requires.left_nonzero

pub observe-worth-requires : goal.observe-worth-requires
observe-worth-requires c =
    let a = c.args in
    let k = a.self.now in
    rw (reads-worth a.s.worth a.s.left c.requires.walks.size) (observes k.weighing k.place k.channels k.lent.durations.now k.lent.values.now k.first a.s c.requires.walks c.requires.left_nonzero)

-- the worth with the piece, as the machine reads it
reads-next : (c : Stay) (s : Walk) (h : WalksIn c s) (k : 0 < s.left) (r : ℤ) → SFits w64 r
    → r ≡ worth_in c s.piece (to_z w64 (of_z w64 s.worth))
    → to_z w64 (of_z w64 r) ≡ next c.weighing c.place c.channels c.lent.durations.now c.lent.values.now c.first s h k
unfolding next
reads-next c s h k r f e = read_back w64 r f ∙ e ∙ rw (reads-worth s.worth s.left h.size)

pub returns-then-taken-open : goal.returns-then-taken-open
returns-then-taken-open c =
    let a = c.args in
    let k = a.self.now in
    rw (reads-next k a.s c.requires.walks c.requires.left_nonzero c.observe-worth.result (record { sfits = c.observe-worth.type_inv }) c.observe-worth.ensures)
    (taken-within k.weighing k.place k.channels k.lent.durations.now k.lent.values.now k.first a.s c.requires.walks c.requires.left_nonzero c.min-taken.result c.min-taken.ensures c.if-taken-open.true)

pub returns-else-taken-open : goal.returns-else-taken-open
returns-else-taken-open c =
    let a = c.args in
    let k = a.self.now in
    rw (reads-next k a.s c.requires.walks c.requires.left_nonzero c.observe-worth.result (record { sfits = c.observe-worth.type_inv }) c.observe-worth.ensures)
    (taken-whole k.weighing k.place k.channels k.lent.durations.now k.lent.values.now k.first a.s c.requires.walks c.requires.left_nonzero c.min-taken.result c.min-taken.ensures c.if-taken-open.false)
