-- What is proved of reading and writing. The proofs are in proofs/.
use Rattle.std.specs.Prelude.{ℕ, ◌≤◌, ◌<◌, ◌≡◌, ◌↔◌, Bool, true, false, [], ◌∷◌, ◌++◌, length}
use Rattle.std.proofs.Math.Option.{Option, none, some}
use Rattle.pattern.specs.declared.Refusal.{Refusal}
use Rattle.pattern.specs.declared.Refusal.TheVariants.{TextTooLong, BrokenForm}
use Rattle.pattern.specs.declared.Pattern.{Pattern}
use Rattle.pattern.specs.Refusal.{number_of}
use Rattle.pattern.specs.Sound.{sound_of}
use Rattle.pattern_text.specs.Bytes.{Bytes, bytes, Flat, got}
use Rattle.pattern_text.specs.Numeral.{decimal, starts_digit, numeral_of}
use Rattle.pattern_text.specs.Line.{Raw, render_line, line_of}
use Rattle.pattern_text.specs.Fault.{Doc, next, stop, step_of}
use Rattle.pattern_text.specs.Text.{Answer, accepted, refused, finish, meant, read_of, render_of}

-- Some bytes begin with the numeral of n, and then no digit, exactly if reading gives n and the rest.
abbrev pub NumeralsExact : Type 0
NumeralsExact = (b : Bytes) (n : ℕ) (r : Bytes) → (numeral_of b ≡ got n r) ↔ ((b ≡ decimal n ++ r) × (starts_digit r ≡ false))

-- A line says l exactly if it is l's text.
abbrev pub LinesExact : Type 0
LinesExact = (b : Bytes) (l : Raw) → (line_of b ≡ some l) ↔ (b ≡ render_line l)

-- whether something was read
abbrev pub has_form : Option Raw → Bool
has_form none = false
has_form (some l) = true

-- Bytes have the form of a line exactly if they are the text of what a line can say, and of one such thing only.
abbrev pub LinesFormed : Type 0
LinesFormed = (b : Bytes) → ((has_form (line_of b) ≡ true) ↔ ((l : Raw) × (b ≡ render_line l))) × ((l m : Raw) → b ≡ render_line l → b ≡ render_line m → l ≡ m)

-- A text is read as p exactly if p is sound and the text is p's.
abbrev pub TextsExact : Type 0
TextsExact = (t : Bytes) (p : Pattern) → (read_of t ≡ accepted p) ↔ ((sound_of p ≡ true) × (t ≡ render_of p))

-- A sound pattern's text is within the limit.
abbrev pub TextsShort : Type 0
TextsShort = (p : Pattern) → sound_of p ≡ true → length (render_of p) ≤ 8_192

-- "A pattern value is sound if some text reads as it."
abbrev pub SoundMeansRead : Type 0
SoundMeansRead = (p : Pattern) → (sound_of p ≡ true) ↔ ((t : Bytes) × (read_of t ≡ accepted p))

-- ---- the answer to every text

-- the lines of t have no fault and say s
pub data Says : Bytes → Option Doc → Type 0 where
  nothing : Says [] none
  onemore : {t : Bytes} {s : Option Doc} {d : Doc} (b : Bytes) (l : Raw) → Says t s → line_of b ≡ some l → step_of s l ≡ next d → Says (t ++ (b ++ bytes "\n")) (some d)

-- which answer is due to a text, and for which cause
pub data Outcome (t : Bytes) : Answer → Type 0 where
  -- over 8,192 bytes
  long : 8_192 < length t → Outcome t (refused TextTooLong)
  -- lines without a fault, and then the line b with the fault f, whatever follows: "the first faulty line decides"
  faulty : {f : Refusal} (s : Option Doc) (u b r : Bytes) → length t ≤ 8_192 → Says u s → Flat b → t ≡ u ++ (b ++ bytes "\n" ++ r) → meant s (line_of b) ≡ stop f → Outcome t (refused f)
  -- lines without a fault, and then bytes without a line feed
  unended : (s : Option Doc) (u : Bytes) (c : ℕ) (b : Bytes) → length t ≤ 8_192 → Says u s → Flat (c ∷ b) → t ≡ u ++ (c ∷ b) → Outcome t (refused BrokenForm)
  -- lines without a fault
  whole : (s : Option Doc) → length t ≤ 8_192 → Says t s → Outcome t (finish s)

-- Every text has exactly one answer, the one of its outcome.
abbrev pub AnswersExact : Type 0
AnswersExact = (t : Bytes) (a : Answer) → (read_of t ≡ a) ↔ Outcome t a

-- A text is refused for one of the causes 1 to 5.
abbrev pub RefusalNumbers : Type 0
RefusalNumbers = (t : Bytes) (r : Refusal) → read_of t ≡ refused r → (1 ≤ number_of r) × (number_of r ≤ 5)
