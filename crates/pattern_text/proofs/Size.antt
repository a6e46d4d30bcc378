-- What fits has a text of at most 8,192 bytes.
use Prim.Native.Nat.{ℕ, zero, suc, ◌+◌, ◌*◌, ◌/◌, ◌%◌, ◌^◌, ◌≤◌, ◌<◌}
use mathlib.Core.Path.{◌≡◌, refl, ap}
use mathlib.Core.List.{List, [], ◌∷◌, ◌++◌, map}
use mathlib.Core.Bool.{Bool, true, ◌&&◌}
use native.Mathlib.Omega.{arith}
use lib.Dec.{leb, ltb}
use lib.ListN.{length, length-append}
use lib.IntN.{ℤ, pos, negsuc, nat_abs}
use borrow.Author.Tests.{leb-true, ltb-true, ltb-false, lt-ltb}
use Rattle.pattern.specs.declared.Sign.{Sign}
use Rattle.pattern.specs.declared.Sign.TheVariants.{Less, AtMost, More, AtLeast}
use Rattle.pattern.specs.declared.Kind.{Kind}
use Rattle.pattern.specs.declared.Kind.TheVariants.{Start, Plain, End, Both}
use Rattle.weighting.specs.declared.Weighing.{Weighing}
use Rattle.weighting.specs.declared.Weighing.TheVariants.{Margin, Sum}
use Rattle.pattern.specs.declared.Guard.{Guard}
use Rattle.pattern.specs.Slots.{all}
use Rattle.pattern.specs.Sound.{bound_in_range, band_in_range, test_in_range, test_known, guard_in_range, guard_known}
use Rattle.pattern.proofs.SoundLaws.{band_parts}
use Rattle.pattern_text.specs.Bytes.{Bytes, bytes}
use Rattle.pattern_text.specs.Numeral.{decimal}
use Rattle.pattern_text.specs.Form.{◌▸◌, ◌◂◌, ◌⨾◌, one_of, either, write_many, many, mapped, number, write_ℤ, integer}
use Rattle.pattern_text.specs.Line.{Header, weighing, PlaceLine, kind, EdgeLine, resets, Raw, RawTest, side, inside, sign_word, kind_word, weighing_word, sign, side_test, band_test, test, guard, bracket, write_resets, header_line, place_line, edge_line, render_line, header, place, edge}
use Rattle.pattern_text.specs.Fault.{Doc, rising, raw_in_range, raw_known}
use Rattle.pattern_text.specs.Text.{raws_of, ended}
use Rattle.pattern_text.proofs.Tools.{both, in_both, by-test}
use Rattle.pattern_text.proofs.NumeralLaws.{decimal-small, decimal_large}
use Rattle.pattern_text.proofs.Runs.{head_fits, place_fits, edge_fits, Fits, write-append}
use Rattle.pattern_text.proofs.Resets.{rises}
use Rattle.pattern_text.proofs.Value.{all_join, lined, ranged}

-- ---- numbers and words

pub few-digits : (k n : ℕ) → n < 10 ^ suc k → length (decimal n) ≤ suc k
few-digits zero n h = rw (decimal-small n (omega arith)) (omega arith)
few-digits (suc k) n h = by-test (ltb n 10)
    (λ t. rw (decimal-small n (ltb-true n 10 t)) (omega arith))
    (λ t. rw (decimal_large n (ltb-false n 10 t), length-append (decimal (n / 10)) ((48 + n % 10) ∷ [])) (omega (arith, few-digits k (n / 10) (omega arith))))

small : (n : ℕ) → n ≤ 1_000_000 → length (decimal n) ≤ 7
small n h = few-digits 6 n (omega arith)

integer-size : (z : ℤ) → nat_abs z ≤ 1_000_000 → length (write_ℤ z) ≤ 8
unfolding write_ℤ
integer-size (pos n) h = omega (arith, small n h)
integer-size (negsuc n) h = omega (arith, small (suc n) h)

sign-size : (s : Sign) → length (bytes (sign_word s)) ≤ 5
unfolding sign_word
sign-size Less = omega arith
sign-size AtMost = omega arith
sign-size More = omega arith
sign-size AtLeast = omega arith

kind-size : (k : Kind) → length (bytes (kind_word k)) ≤ 5
unfolding kind_word
kind-size Start = omega arith
kind-size Plain = omega arith
kind-size End = omega arith
kind-size Both = omega arith

weighing-size : (w : Weighing) → length (bytes (weighing_word w)) ≤ 7
unfolding weighing_word
weighing-size Margin = omega arith
weighing-size Sum = omega arith

module _ {A : Type 0} (P : A → Bool) (w : A → Bytes) (k : ℕ) (each : (a : A) → P a ≡ true → length (w a) ≤ k) where
  many-size : (xs : List A) → all P xs ≡ true → length (write_many w xs) ≤ length xs * k
  unfolding write_many
  many-size [] h = omega arith
  many-size (x ∷ xs) h =
      let b = both (P x) (all P xs) h in
      rw (length-append (w x) (write_many w xs)) (omega (arith, each x b.0, many-size xs b.1))

write-map : {A : Type 0} (g : A → Raw) (xs : List A) → write_many ended (map g xs) ≡ write_many (λ x. ended (g x)) xs
unfolding write_many
write-map g [] = refl
write-map g (x ∷ xs) = ap (◌++◌ (ended (g x))) (write-map g xs)

-- ---- the lines

side_size : (channels : ℕ) (s : Sign) (c : ℕ) (b : ℤ) → channels ≤ 8 → bound_in_range b ≡ true → ltb c channels ≡ true → length (side_test.write (s, (c, b))) ≤ 31
unfolding bound_in_range side_test ◌⨾◌ ◌◂◌ sign one_of number integer
side_size channels s c b n e k =
    let m = ltb-true c channels k in
    simp length-append (omega (arith, sign-size s, small c (omega arith), integer-size b (leb-true (nat_abs b) 1_000_000 e)))

band_size : (channels c : ℕ) (l h : ℤ) → channels ≤ 8 → band_in_range l h ≡ true → ltb c channels ≡ true → length (band_test.write (c, (l, h))) ≤ 31
unfolding band_test ◌▸◌ ◌⨾◌ ◌◂◌ number integer
band_size channels c l h n e k =
    let r = band_parts l h e in
    let m = ltb-true c channels k in
    simp length-append (omega (arith, small c (omega arith), integer-size l r.low, integer-size h r.high))

test-size : (channels : ℕ) → channels ≤ 8 → (t : RawTest) → (raw_in_range t && raw_known channels t) ≡ true → length (test.write t) ≤ 31
unfolding test mapped either test_in_range test_known
test-size channels n (side s c b) h =
    let k = both (bound_in_range b) (ltb c channels) h in
    side_size channels s c b n k.0 k.1
test-size channels n (inside c l u) h =
    let k = both (band_in_range l u) (ltb c channels) h in
    band_size channels c l u n k.0 k.1

guard-size : (clocks : ℕ) → clocks ≤ 4 → (g : Guard) → (guard_in_range g && guard_known clocks g) ≡ true → length (guard.write g) ≤ 21
unfolding guard mapped ◌⨾◌ ◌◂◌ sign one_of number guard_in_range guard_known
guard-size clocks n g h =
    let b = both (leb g.bound 1_000) (ltb g.clock clocks) h in
    let c = ltb-true g.clock clocks b.1 in
    let d = leb-true g.bound 1_000 b.0 in
    simp length-append (omega (arith, sign-size g.sign, small g.clock (omega arith), small g.bound (omega arith)))

place-size : (channels : ℕ) → channels ≤ 8 → (l : PlaceLine) → place_fits channels l ≡ true → length (ended (place l)) ≤ 138
unfolding ended render_line place_line mapped ◌▸◌ ◌⨾◌ ◌◂◌ kind one_of many place_fits
place-size channels n l h =
    let k = both (leb (length l.tests) 4) (all raw_in_range l.tests && all (raw_known channels) l.tests) h in
    let m = both (all raw_in_range l.tests) (all (raw_known channels) l.tests) k.1 in
    let c = leb-true (length l.tests) 4 k.0 in
    simp length-append (omega (
      arith,
      kind-size l.kind,
      many-size (λ t. raw_in_range t && raw_known channels t) test.write 31 (test-size channels n) l.tests (all_join raw_in_range (raw_known channels) l.tests m.0 m.1),
    ))

known : (k m : ℕ) (cs : List ℕ) → rising k m cs ≡ true → all (λ c. ltb c m) cs ≡ true
known k m [] h = refl
known k m (c ∷ cs) h = let r = rises k m c cs h in in_both (lt-ltb c m r.below) (known (suc c) m cs r.others)

few-resets : (k m : ℕ) (cs : List ℕ) → k ≤ m → rising k m cs ≡ true → length cs + k ≤ m
few-resets k m [] l h = omega arith
few-resets k m (c ∷ cs) l h = let r = rises k m c cs h in let a = r.from in let b = r.below in omega (arith, few-resets (suc c) m cs (omega arith) r.others)

resets-size : (clocks : ℕ) → clocks ≤ 4 → (cs : List ℕ) → rising 0 clocks cs ≡ true → length (write_resets cs) ≤ 40
unfolding write_resets bracket ◌▸◌ ◌◂◌ ◌⨾◌ many number
resets-size clocks n [] h = omega arith
resets-size clocks n (c ∷ cs) h =
    let f = few-resets 0 clocks (c ∷ cs) (omega arith) h in
    let r = rises 0 clocks c cs h in
    let b = r.below in
    simp length-append (omega (
      arith,
      small c (omega arith),
      many-size (λ c. ltb c clocks) (λ c. bytes " " ++ decimal c) 8 (λ c t. let k = ltb-true c clocks t in omega (arith, small c (omega arith))) cs (known (suc c) clocks cs r.others),
    ))

edge-size : (clocks places : ℕ) → clocks ≤ 4 → places ≤ 16 → (e : EdgeLine) → edge_fits clocks places e ≡ true → length (ended (edge e)) ≤ 147
unfolding ended render_line edge_line mapped ◌▸◌ ◌⨾◌ ◌◂◌ many resets number
edge-size clocks places n m e h =
    let l = lined clocks places e h in
    let a = ltb-true e.from places l.leaves in
    let b = ltb-true e.to places l.enters in
    let c = l.few in
    simp length-append (omega (
      arith,
      small e.from (omega arith),
      small e.to (omega arith),
      resets-size clocks n e.resets l.rises,
      many-size (λ g. guard_in_range g && guard_known clocks g) guard.write 21 (guard-size clocks n) e.guards (all_join guard_in_range (guard_known clocks) e.guards l.in_range l.known),
    ))

header_size : (h : Header) → head_fits h ≡ true → length (ended (header h)) ≤ 49
unfolding ended render_line header_line mapped ◌▸◌ ◌⨾◌ ◌◂◌ weighing one_of number
header_size h t =
    let r = ranged h t in
    let a = r.channels in let b = r.clocks in let c = r.low in let d = r.high in
    simp length-append (omega (arith, weighing-size h.weighing, small h.channels (omega arith), small h.clocks (omega arith), small h.low (omega arith), small h.high (omega arith)))

pub short : (d : Doc) → Fits d → length (write_many ended (raws_of d)) ≤ 8_192
unfolding raws_of write_many
short d f =
    let r = ranged d.head f.head in
    let a = f.few in let b = f.few_edges in
    rw (
      length-append (ended (header d.head)) (write_many ended (map place d.places ++ map edge d.edges)),
      write-append (map place d.places) (map edge d.edges),
      length-append (write_many ended (map place d.places)) (write_many ended (map edge d.edges)),
      write-map place d.places,
      write-map edge d.edges,
    )
    (omega (
      arith,
      header_size d.head f.head,
      many-size (place_fits d.head.channels) (λ l. ended (place l)) 138 (place-size d.head.channels r.channels) d.places f.places,
      many-size (edge_fits d.head.clocks (length d.places)) (λ e. ended (edge e)) 147 (edge-size d.head.clocks (length d.places) r.clocks f.few) d.edges f.edges,
    ))
