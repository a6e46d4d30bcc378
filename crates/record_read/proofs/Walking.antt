-- The walk from line to line stands, at every turn, where the definition's reading stands.
use Prim.Native.Nat.{ℕ, ◌+◌, ◌*◌, ◌≤◌, ◌<◌, min}
use native.Mathlib.Nat.{suc-mul}
use native.Mathlib.Omega.{arith}
use mathlib.Core.Path.{◌≡◌, refl, sym, ap, ap₂, ◌∙◌}
use mathlib.Core.List.{List, [], ◌∷◌, ◌++◌, append-nil, append_assoc, map-append}
use mathlib.Core.Option.{none, some}
use mathlib.Core.Bool.{Bool, true, false, cond, ◌&&◌}
use lib.Dec.{eqb, leb}
use lib.ListN.{length, drop, length-append, length-map}
use borrow.Author.Tests.{leb-true, leb-false, le-leb, lt-leb, eqb-true, eqb-false, eq-eqb, ne_eqb}
use Rattle.pattern.specs.declared.Refusal.TheVariants.{BrokenRecord}
use Rattle.pattern.specs.Slots.{all}
use Rattle.pattern.proofs.SlotLaws.{all_append, all_snoc}
use Rattle.pattern_text.specs.Bytes.{Bytes, Reading, got, broken}
use Rattle.pattern_text.specs.Form.{◌◂◌, giving, read_many, many}
use Rattle.pattern_text.specs.Line.{whole}
use Rattle.pattern_text.proofs.Tools.{both, by-test}
use Rattle.text_reader.proofs.Left.{rest_is, rest_further}
use Rattle.text_scan.proofs.Answered.{met, unmet}
use Rattle.line_lists.proofs.Gather.{many-end, many_more}
use Rattle.line_lists.proofs.Held.{min-leb}
use Rattle.record.specs.Record.{total, value_in_range, record_sound}
use Rattle.record.proofs.RecordLaws.{total-append}
use Rattle.record_text.specs.Piece.{RawPiece, values_in, piece_line}
use Rattle.record_text.specs.Text.{record_form, read_record, durations_of, values_of, counts_fit, pieces_sound, pieces_refusal}
use Rattle.record_text.proofs.LineLaws.{ended-faithful, ended-long, records, render_long}
use Rattle.record_read.specs.declared.PieceLine.{PieceLine}
use Rattle.record_read.specs.declared.Walk.{Walk}
use Rattle.record_read.specs.Line.{limit, gathered_values, held_line, end_of}
use Rattle.record_read.specs.Check.{checked_of, line_sound, turned}

-- ---- a line leaves less than there was, and the reader after it leaves what it left

pub line_shorter : (b : Bytes) (p : RawPiece) (r : Bytes) → (piece_line ◂ "\n").read b ≡ got p r → length r < length b
line_shorter b p r e = omega (arith, ended-long p, ap length (ended-faithful.sound b p r e), length-append ((piece_line ◂ "\n").write p) r)

module _ (t : Bytes) (at : ℕ) (l : PieceLine) (r : Bytes) (e : got l r ≡ giving held_line ((piece_line ◂ "\n").read (drop at t))) where
  says : RawPiece
  says = (met held_line ((piece_line ◂ "\n").read (drop at t)) e).raw

  parted : drop at t ≡ (piece_line ◂ "\n").write says ++ r
  unfolding says
  parted = ended-faithful.sound (drop at t) says r (met held_line ((piece_line ◂ "\n").read (drop at t)) e).is

  pub line_left : drop (end_of t r) t ≡ r
  line_left = rest_is t at ((piece_line ◂ "\n").write says) r parted

  pub line_within : end_of t r ≤ length t
  line_within = omega arith

  pub line_further : at < end_of t r
  line_further = rest_further t at ((piece_line ◂ "\n").write says) r parted (omega (arith, ended-long says))

-- ---- the rules of a record, line by line

unfoldable pub piece_sound : (channels : ℕ) → RawPiece → Bool
piece_sound n p = leb 1 p.duration && all value_in_range (values_in p) && eqb (length (values_in p)) n

min_eqb : (c n m : ℕ) → n < c → eqb (min c m) n ≡ eqb m n
min_eqb c n m h = by-test (eqb m n)
    (λ t. let e = eqb-true m n t in rw t (eq-eqb (min c m) n (omega arith)))
    (λ t. rw t (ne_eqb (min c m) n (λ e. eqb-false m n t (omega arith))))

line_sound-is : (n : ℕ) → n ≤ 255 → (p : RawPiece) → line_sound n (held_line p) ≡ piece_sound n p
unfolding line_sound gathered_values piece_sound
line_sound-is n h p = rw (least p.duration, min_eqb 256 n (length (values_in p)) (omega arith)) refl
  where
    least : (d : ℕ) → leb 1 (min limit d) ≡ leb 1 d
    least d = by-test (leb 1 d)
        (λ t. let k = leb-true 1 d t in rw t (le-leb 1 (min limit d) (omega arith)))
        (λ t. let k = leb-false 1 d t in rw t (lt-leb 1 (min limit d) (omega arith)))

-- six tests in another order
reorder : (a b c x y z : Bool) → (a && b && c) && (x && y && z) ≡ (a && x) && (b && y) && (c && z)
reorder true true true x y z = refl
reorder true true false true true z = refl
reorder true true false true false z = refl
reorder true true false false y z = refl
reorder true false c true y z = refl
reorder true false c false y z = refl
reorder false b c x y z = refl

all_pieces : (n : ℕ) (rs : List RawPiece) → all (piece_sound n) rs ≡ all (leb 1) (durations_of rs) && all value_in_range (values_of rs) && counts_fit n rs
unfolding piece_sound durations_of values_of counts_fit
all_pieces n [] = refl
all_pieces n (r ∷ rs) =
    let lasts = all (leb 1) (durations_of rs) in
    let counts = counts_fit n rs in
    ap (λ (b : Bool). piece_sound n r && b) (all_pieces n rs)
    ∙ reorder (leb 1 r.duration) (all value_in_range (values_in r)) (eqb (length (values_in r)) n) lasts (all value_in_range (values_of rs)) counts
    ∙ ap (λ (b : Bool). (leb 1 r.duration && lasts) && b && (eqb (length (values_in r)) n && counts)) (sym (all_append value_in_range (values_in r) (values_of rs)))

counts-agree : (n : ℕ) (rs : List RawPiece) → counts_fit n rs ≡ true → length (values_of rs) ≡ length (durations_of rs) * n
unfolding durations_of values_of counts_fit
counts-agree n [] h = omega arith
counts-agree n (r ∷ rs) h =
    let k = both (eqb (length (values_in r)) n) (counts_fit n rs) h in
    rw (length-append (values_in r) (values_of rs)) (omega (arith, eqb-true (length (values_in r)) n k.0, counts-agree n rs k.1, suc-mul (length (durations_of rs)) n))

-- all rules together; a text within its limit has few pieces
pub sound-is : (n : ℕ) (rs : List RawPiece) → length rs ≤ 4_096 → pieces_sound n rs ≡ all (piece_sound n) rs && leb (min limit (total (durations_of rs))) 2_147_483_647
unfolding pieces_sound record_sound durations_of
sound-is n rs few =
    let ds = durations_of rs in
    let size : leb (length ds) 4_096 ≡ true = le-leb (length ds) 4_096 (omega (arith, length-map rs (λ (r : RawPiece). r.duration))) in
    rw (all_pieces n rs, min-leb limit 2_147_483_647 (total ds) (omega arith), size) (by-test (counts_fit n rs)
    (λ t. rw (t, eq-eqb (length (values_of rs)) (length ds * n) (counts-agree n rs t)) (kept (all (leb 1) ds) (leb (total ds) 2_147_483_647) (all value_in_range (values_of rs))))
    (λ t. rw t (none_kept (all (leb 1) ds) (leb (total ds) 2_147_483_647) (all value_in_range (values_of rs)))))
  where
    kept : (b c d : Bool) → (b && c && d) && true ≡ (b && d && true) && c
    kept true true true = refl
    kept true true false = refl
    kept true false true = refl
    kept true false false = refl
    kept false c d = refl

    none_kept : (b c d : Bool) → false ≡ (b && d && false) && c
    none_kept true c true = refl
    none_kept true c false = refl
    none_kept false c d = refl

-- ---- where the walk stands

-- the state after some lines
unfoldable pub walked_over : (channels : ℕ) → List RawPiece → Walk
walked_over n rs = record { sound = all (piece_sound n) rs; ticks = min limit (total (durations_of rs)) }

abbrev pub after : List RawPiece → Reading (List RawPiece) → Reading (List RawPiece)
after rs (got l r) = got (rs ++ l) r
after rs broken = broken

-- some lines were walked over, and b is left of the text
pub record Stands (n : ℕ) (t b : Bytes) (s : Walk) : Type 0 where
  pub lines : List RawPiece
  pub state : s ≡ walked_over n lines
  pub text : read_record t ≡ whole (after lines (record_form.read b))

pub start-stands : (n : ℕ) (t : Bytes) → Stands n t t (record { sound = true; ticks = 0 })
unfolding walked_over read_record durations_of total
start-stands n t = record { lines = []; state = refl; text = go (record_form.read t) }
  where
    go : (x : Reading (List RawPiece)) → whole x ≡ whole (after [] x)
    go (got l r) = refl
    go broken = refl

-- ---- a turn

total_snoc : (rs : List RawPiece) (p : RawPiece) → total (durations_of (rs ++ (p ∷ []))) ≡ total (durations_of rs) + p.duration
unfolding durations_of total
total_snoc rs p = rw (map-append (λ (r : RawPiece). r.duration) rs (p ∷ []), total-append (durations_of rs) (p.duration ∷ [])) (omega arith)

-- one line more
walked_more : (n : ℕ) → n ≤ 255 → (s : Walk) (rs : List RawPiece) (p : RawPiece) → s ≡ walked_over n rs
    → turned n s (held_line p) ≡ walked_over n (rs ++ (p ∷ []))
unfolding walked_over
walked_more n few s rs p q = λ i. record {
  sound = (ap₂ ◌&&◌ (ap (λ (x : Walk). x.sound) q) (line_sound-is n few p) ∙ sym (all_snoc (piece_sound n) rs p)) i;
  ticks = ticks i;
}
  where
    ticks : min limit (s.ticks + min limit p.duration) ≡ min limit (total (durations_of (rs ++ (p ∷ []))))
    ticks =
        let a : s.ticks ≡ min limit (total (durations_of rs)) = ap (λ (x : Walk). x.ticks) q in
        rw (a, total_snoc rs p) (omega arith)

after_more : (rs : List RawPiece) (p : RawPiece) (x : Reading (List RawPiece)) → after rs (giving (◌∷◌ p) x) ≡ after (rs ++ (p ∷ [])) x
after_more rs p (got l r) = ap (λ (y : List RawPiece). got y r) (sym (append_assoc rs (p ∷ []) l))
after_more rs p broken = refl

whole-none : {A : Type 0} (a : A) (b : Bytes) → 0 < length b → whole (got a b) ≡ none
whole-none a [] h = absurd (omega arith)
whole-none a (c ∷ b) h = refl

pub turn_on : (n : ℕ) (t b : Bytes) (s : Walk) → n ≤ 255 → Stands n t b s → (l : PieceLine) (r : Bytes) → got l r ≡ giving held_line ((piece_line ◂ "\n").read b)
    → Stands n t r (turned n s l)
unfolding record_form many
turn_on n t b s few st l r e =
    let k = met held_line ((piece_line ◂ "\n").read b) e in
    record {
      lines = st.lines ++ (k.raw ∷ []);
      state = ap (turned n s) k.made ∙ walked_more n few s st.lines k.raw st.state;
      text = st.text ∙ ap (λ x. whole (after st.lines x)) (many_more (piece_line ◂ "\n").read line_shorter b k.raw r k.is)
          ∙ ap whole (after_more st.lines k.raw (record_form.read r));
    }

-- a line without the form
pub form_broken : (n : ℕ) (t b : Bytes) (s : Walk) → Stands n t b s → 0 < length b → broken ≡ giving held_line ((piece_line ◂ "\n").read b) → read_record t ≡ none
unfolding record_form many
form_broken n t b s st h e =
    st.text ∙ ap (λ x. whole (after st.lines x)) (many-end (piece_line ◂ "\n").read line_shorter b (unmet held_line ((piece_line ◂ "\n").read b) e)) ∙ whole-none (st.lines ++ []) b h

-- ---- at the end

pub finish-on : (n : ℕ) (t b : Bytes) (s : Walk) → length t ≤ 16_384 → b ≡ [] → Stands n t b s
    → checked_of (cond (s.sound && leb s.ticks 2_147_483_647) none (some BrokenRecord)) ≡ checked_of (pieces_refusal n (read_record t))
unfolding record_form many read_many walked_over
finish-on n t b s short h st =
    let e : read_record t ≡ some st.lines = st.text ∙ ap (λ (b : Bytes). whole (after st.lines (record_form.read b))) h ∙ ap some (append-nil st.lines) in
    let few : length st.lines ≤ 4_096 = omega (arith, render_long st.lines, ap length ((records t st.lines).0 e)) in
    rw (st.state, e, sound-is n st.lines few) refl
