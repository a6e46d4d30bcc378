-- The lines of a pattern text (document 01, 'Pattern text'; document 02, R-1), with numbers of any size.
use Rattle.std.specs.Prelude.{ℕ, List, [], ◌∷◌, ◌⊎◌, cond, ℤ}
use Prim.Native.String.{String}
use Rattle.std.proofs.Math.Option.{Option, none, some}
use Rattle.std.proofs.Common.{inl, inr}
use Rattle.pattern.specs.declared.Sign.{Sign}
use Rattle.pattern.specs.declared.Sign.TheVariants.{Less, AtMost, More, AtLeast}
use Rattle.pattern.specs.declared.Kind.{Kind}
use Rattle.pattern.specs.declared.Kind.TheVariants.{Start, Plain, End, Both}
use Rattle.weighting.specs.declared.Weighing.{Weighing}
use Rattle.weighting.specs.declared.Weighing.TheVariants.{Margin, Sum}
use Rattle.pattern.specs.declared.Test.{Test}
use Rattle.pattern.specs.declared.Guard.{Guard}
use Rattle.pattern.specs.Sound.{bounded, banded}
use Rattle.pattern_text.specs.Bytes.{Bytes, Reading, got, broken}
use Rattle.pattern_text.specs.Form.{Form, giving, or_else, ◌▸◌, ◌◂◌, ◌⨾◌, one_of, either, many, mapped, number, integer}

-- "Line 1: `margin` or `sum`; channels; clocks; the window's low; its high"
pub record Header : Type 0 where
  pub weighing : Weighing
  pub channels : ℕ
  pub clocks : ℕ
  pub low : ℕ
  pub high : ℕ

-- what a test says: "a sign .., a channel, and a bound"; or, of a band (R-1), a channel, a low and a high
pub data RawTest : Type 0 where
  side : Sign → (channel : ℕ) → (bound : ℤ) → RawTest
  inside : (channel : ℕ) → (low high : ℤ) → RawTest

-- the test as a value
abbrev pub test_of : RawTest → Test
test_of (side s c b) = bounded s c b
test_of (inside c l h) = banded c l h

-- and back
abbrev pub raw_test_of : Test → RawTest
raw_test_of t = cond t.band (inside t.channel t.bound t.high) (side t.sign t.channel t.bound)

-- a place: "`start`, `plain`, `end` or `both`, with .. tests"
pub record PlaceLine : Type 0 where
  pub kind : Kind
  pub tests : List RawTest

-- an edge: "from, to, .. guards .., then resets"
pub record EdgeLine : Type 0 where
  pub from : ℕ
  pub to : ℕ
  pub guards : List Guard
  pub resets : List ℕ

-- "one form a line": what a line can say
pub data Raw : Type 0 where
  header : Header → Raw
  place : PlaceLine → Raw
  edge : EdgeLine → Raw

-- ---- the words, "matched byte for byte", with the brackets and single spaces that stand beside them

-- "a sign `<`, `<=`, `>`, `>=`"
unfoldable pub sign_word : Sign → String
sign_word Less = " (< "
sign_word AtMost = " (<= "
sign_word More = " (> "
sign_word AtLeast = " (>= "

-- "`start`, `plain`, `end` or `both`"
unfoldable pub kind_word : Kind → String
kind_word Start = "start"
kind_word Plain = "plain"
kind_word End = "end"
kind_word Both = "both"

-- "`margin` or `sum`"
unfoldable pub weighing_word : Weighing → String
weighing_word Margin = "margin "
weighing_word Sum = "sum "

unfoldable pub sign : Form Sign
sign = one_of sign_word (Less ∷ AtMost ∷ More ∷ AtLeast ∷ [])

unfoldable pub kind : Form Kind
kind = one_of kind_word (Start ∷ Plain ∷ End ∷ Both ∷ [])

unfoldable pub weighing : Form Weighing
weighing = one_of weighing_word (Margin ∷ Sum ∷ [])

-- ---- the parts

-- ` (< 0 15)`
unfoldable pub side_test : Form (Sign × (ℕ × ℤ))
side_test = sign ⨾ number ◂ " " ⨾ integer ◂ ")"

-- ` (in 0 -5 5)`: a band, its two ends written as a bound is
unfoldable pub band_test : Form (ℕ × (ℤ × ℤ))
band_test = " (in " ▸ number ◂ " " ⨾ integer ◂ " " ⨾ integer ◂ ")"

-- between what was read of either and what it says
abbrev pub side_of : Sign × (ℕ × ℤ) → RawTest
side_of (s, (c, b)) = side s c b

abbrev pub inside_of : ℕ × (ℤ × ℤ) → RawTest
inside_of (c, (l, h)) = inside c l h

abbrev pub of_parts : (Sign × (ℕ × ℤ)) ⊎ (ℕ × (ℤ × ℤ)) → RawTest
of_parts (inl a) = side_of a
of_parts (inr b) = inside_of b

abbrev pub parts_of : RawTest → (Sign × (ℕ × ℤ)) ⊎ (ℕ × (ℤ × ℤ))
parts_of (side s c b) = inl (s, (c, b))
parts_of (inside c l h) = inr (c, (l, h))

-- a test of either kind
unfoldable pub test : Form RawTest
test = mapped of_parts parts_of (either side_test band_test)

-- ` (< 0 3)`: "a sign, a clock, a bound"
unfoldable pub guard : Form Guard
guard = mapped (λ (s, (c, b)). record { sign = s; clock = c; bound = b }) (λ g. (g.sign, (g.clock, g.bound)))
    (sign ⨾ number ◂ " " ⨾ number ◂ ")")

-- ` (reset 0 2)`: "at least one clock"
unfoldable pub bracket : Form (ℕ × List ℕ)
bracket = " (reset " ▸ number ⨾ many (" " ▸ number) ◂ ")"

-- "or no bracket at all"
unfoldable pub write_resets : List ℕ → Bytes
write_resets [] = []
write_resets (c ∷ cs) = bracket.write (c, cs)

unfoldable pub resets : Form (List ℕ)
resets = record { write = write_resets; read = λ b. or_else (giving (λ (c, cs). c ∷ cs) (bracket.read b)) (got [] b) }

-- ---- the lines

-- `(pattern margin 1 1 1 4)`
unfoldable pub header_line : Form Header
header_line = mapped
    (λ (w, (n, (m, (l, h)))). record { weighing = w; channels = n; clocks = m; low = l; high = h })
    (λ h. (h.weighing, (h.channels, (h.clocks, (h.low, h.high)))))
    ("(pattern " ▸ weighing ⨾ number ◂ " " ⨾ number ◂ " " ⨾ number ◂ " " ⨾ number ◂ ")")

-- `(place start (< 0 15))`
unfoldable pub place_line : Form PlaceLine
place_line = mapped (λ (k, ts). record { kind = k; tests = ts }) (λ l. (l.kind, l.tests))
    ("(place " ▸ kind ⨾ many test ◂ ")")

-- `(edge 0 1 (< 0 3) (reset 0))`
unfoldable pub edge_line : Form EdgeLine
edge_line = mapped
    (λ (f, (t, (gs, rs))). record { from = f; to = t; guards = gs; resets = rs })
    (λ e. (e.from, (e.to, (e.guards, e.resets))))
    ("(edge " ▸ number ◂ " " ⨾ number ⨾ many guard ⨾ resets ◂ ")")

-- a line without its line feed
unfoldable pub render_line : Raw → Bytes
render_line (header h) = header_line.write h
render_line (place l) = place_line.write l
render_line (edge e) = edge_line.write e

-- a line of one of the three kinds at the front
unfoldable pub read_line : Bytes → Reading Raw
read_line b = or_else (giving header (header_line.read b)) (or_else (giving place (place_line.read b)) (giving edge (edge_line.read b)))

-- what was read, if nothing follows it
abbrev pub whole : {A : Type 0} → Reading A → Option A
whole (got a []) = some a
whole (got a (c ∷ r)) = none
whole broken = none

-- what a line says, without its line feed
unfoldable pub line_of : Bytes → Option Raw
line_of b = whole (read_line b)
