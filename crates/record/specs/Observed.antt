-- What is proved of a stay's observations (document 02, R-3). OneTick and OneTickMore together say what every stay is worth. Proved
-- in proofs/Observed.
use Rattle.std.specs.Prelude.{ℕ, ◌+◌, ◌-◌, ◌≤◌, ◌<◌, ◌≡◌, [], Bool, true, false, not, cond, eqb, length, get_or}
use Rattle.weighting.proofs.Weightings.{weighting_of}
use Rattle.pattern.specs.declared.Place.{Place}
use Rattle.pattern.specs.declared.Pattern.{Pattern}
use Rattle.pattern.specs.Slots.{all}
use Rattle.pattern.specs.InUse.{tests_of, place_at}
use Rattle.pattern.specs.Distance.{Sample, reading_of, place_worth}
use Rattle.record.specs.Record.{Book}
use Rattle.record.specs.Joined.{agrees}
use Rattle.record.specs.Worth.{stay_worth}

-- ---- tick by tick

-- Theorem: a stay of one tick is worth what its place is then.
abbrev pub OneTick : Type 0
OneTick =
    (p : Pattern) (b : Book) (k t : ℕ) → t < length b → stay_worth p b k t 1 ≡ place_worth p.weighing (place_at p k) (get_or b t [])

-- Theorem: one tick more adds nothing to a stay if it agrees in the place with the tick before, and else what the place is worth
-- then.
abbrev pub OneTickMore : Type 0
OneTickMore =
    (p : Pattern) (b : Book) (k t n : ℕ) → 1 ≤ n → t + n < length b
    → stay_worth p b k t (n + 1)
    ≡ cond (agrees (place_at p k) (get_or b (t + n - 1) []) (get_or b (t + n) []))
    (stay_worth p b k t n)
    ((weighting_of p.weighing).combine (stay_worth p b k t n) (place_worth p.weighing (place_at p k) (get_or b (t + n) [])))

-- ---- what a place does not test

-- No test of the place is on the channel.
abbrev pub untested : Place → (channel : ℕ) → Bool
untested l c = all (λ t. not (eqb t.channel c)) (tests_of l)

-- Two samples differ at most in such channels.
abbrev pub SameWhereTested : Place → Sample → Sample → Type 0
SameWhereTested l x y = (c : ℕ) → untested l c ≡ false → reading_of x c ≡ reading_of y c

-- Theorem: then they agree in the place, and only then.
pub record AgreementMeans (l : Place) (x y : Sample) : Type 0 where
  pub readings : agrees l x y ≡ true → SameWhereTested l x y
  pub agree : SameWhereTested l x y → agrees l x y ≡ true

abbrev pub AgreesWhereTested : Type 0
AgreesWhereTested = (l : Place) (x y : Sample) → AgreementMeans l x y

-- Theorem: so a tick in which only untested channels move adds nothing to a stay.
abbrev pub TwitchAddsNothing : Type 0
TwitchAddsNothing =
    (p : Pattern) (b : Book) (k t n : ℕ) → 1 ≤ n → t + n < length b
    → SameWhereTested (place_at p k) (get_or b (t + n - 1) []) (get_or b (t + n) [])
    → stay_worth p b k t (n + 1) ≡ stay_worth p b k t n

-- Theorem: what untested channels hold during a stay has no say in its worth.
abbrev pub OnlyTestedSpeak : Type 0
OnlyTestedSpeak =
    (p : Pattern) (b other : Book) (k t n : ℕ) → t + n ≤ length b → t + n ≤ length other
    → ((i : ℕ) → i < n → SameWhereTested (place_at p k) (get_or b (t + i) []) (get_or other (t + i) []))
    → stay_worth p b k t n ≡ stay_worth p other k t n

-- Theorem: without tests a stay is worth the unit, whatever it observes: 0 in sum, 2,000,001 in margin.
abbrev pub NoTestsAddNothing : Type 0
NoTestsAddNothing =
    (p : Pattern) (b : Book) (k t n : ℕ) → tests_of (place_at p k) ≡ [] → stay_worth p b k t n ≡ (weighting_of p.weighing).unit
