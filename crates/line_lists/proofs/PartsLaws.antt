-- Parts one by one, gathered, are the parts that stand there.
use Rattle.std.proofs.Common.{◌≡◌, ℕ, zero, suc, ◌-◌, ◌≤◌, ◌<◌, min, List, [], ◌∷◌, ◌++◌, map, Bool, true, false, cond, ◌&&◌, length, take, refl, ap, ap₂, ◌∙◌, arith}
use lib.Dec.{leb}
use lib.IntN.{ℤ, nat_abs}
use lib.Signed.{le_z}
use Rattle.pattern.specs.declared.Test.{Test}
use Rattle.pattern.specs.declared.Guard.{Guard}
use Rattle.pattern.specs.Slots.{all}
use Rattle.pattern.specs.Sound.{no_test, no_guard, bound_in_range, band_in_range, test_in_range, test_known, guard_in_range, guard_known}
use Rattle.pattern_text.specs.Bytes.{Bytes, Reading, got, broken}
use Rattle.pattern_text.specs.Form.{giving, many, read_many}
use Rattle.pattern_text.specs.Line.{RawTest, test_of, test, guard}
use Rattle.pattern_text.specs.Text.{pad}
use Rattle.text_scan.specs.Scan.{held_integer}
use Rattle.line_parts.specs.Parts.{held_test, held_guard, held_raw}
use Rattle.line_lists.specs.Lists.{no_parts, with_part, gathered, gathered_tests, gathered_guards}
use Rattle.line_lists.proofs.Gather.{all_read, gather, gather_is, read_giving}
use Rattle.line_lists.proofs.Held.{min-ltb, min-leb, held-leb, held-is, kept_more, all_more, counted}

-- ---- any parts

module _ {A : Type 0} (size : ℕ) (few : size < 256) (unused : A) (in_range known : A → Bool) where
  one_more : (xs : List A) (x : A) → with_part in_range known (gathered size unused (λ y. y) in_range known xs) x ≡ gathered size unused (λ y. y) in_range known (xs ++ (x ∷ []))
  unfolding with_part gathered
  one_more xs x = λ i. record {
    parts = kept_more size 256 few unused (λ y. y) xs x i;
    count = counted 256 xs x i;
    in_range = all_more in_range (λ y. y) (λ y. refl) xs x i;
    known = all_more known (λ y. y) (λ y. refl) xs x i;
  }

  none_yet : no_parts size unused ≡ gathered size unused (λ y. y) in_range known []
  unfolding gathered pad
  none_yet = rw (take_none size, whole) refl
    where
      take_none : (n : ℕ) → take {A = A} n [] ≡ []
      take_none zero = refl
      take_none (suc n) = refl

      whole : size - 0 ≡ size
      whole = omega arith

  pub gathered_is : (x : Reading (List A)) → gather (with_part in_range known) (no_parts size unused) x ≡ giving (gathered size unused (λ y. y) in_range known) x
  gathered_is x = ap (λ s. gather (with_part in_range known) s x) none_yet ∙ gather_is (with_part in_range known) (gathered size unused (λ y. y) in_range known) one_more x

-- parts that are held are judged as what they stand for
module _ {A : Type 0} (size : ℕ) (unused : A) (hold : A → A) (in_range known : A → Bool) where
  module _ (fine : (x : A) → in_range (hold x) ≡ in_range x) (there : (x : A) → known (hold x) ≡ known x) where
    all_same : (p : A → Bool) → ((x : A) → p (hold x) ≡ p x) → (xs : List A) → all p (map hold xs) ≡ all p xs
    all_same p same [] = refl
    all_same p same (x ∷ xs) = ap₂ ◌&&◌ (same x) (all_same p same xs)

    same_parts : (xs : List A) → map (λ (y : A). y) xs ≡ xs
    same_parts [] = refl
    same_parts (x ∷ xs) = ap (◌∷◌ x) (same_parts xs)

    same_length : (xs : List A) → length (map hold xs) ≡ length xs
    same_length [] = refl
    same_length (x ∷ xs) = ap suc (same_length xs)

    pub held_same : (xs : List A) → gathered size unused (λ y. y) in_range known (map hold xs) ≡ gathered size unused hold in_range known xs
    unfolding gathered
    held_same xs = λ i. record {
      parts = ap (λ (ys : List A). pad size unused (take size ys)) (same_parts (map hold xs)) i;
      count = ap (min 256) (same_length xs) i;
      in_range = all_same in_range fine xs i;
      known = all_same known there xs i;
    }

-- ---- tests

-- both ends in their range, and in order
ends_held : (l h : ℤ) → band_in_range (held_integer l) (held_integer h) ≡ band_in_range l h
unfolding band_in_range bound_in_range
ends_held l h = rw (held-leb l, held-leb h) (by (leb (nat_abs l) 1_000_000) (leb (nat_abs h) 1_000_000) refl refl)
  where
    by : (a b : Bool) → leb (nat_abs l) 1_000_000 ≡ a → leb (nat_abs h) 1_000_000 ≡ b → a && b && le_z (held_integer l) (held_integer h) ≡ a && b && le_z l h
    by true true p q = rw (held-is l p, held-is h q)
    by true false p q = refl
    by false true p q = refl
    by false false p q = refl

test-range-held : (x : Test) → test_in_range (held_test x) ≡ test_in_range x
unfolding test_in_range bound_in_range
test-range-held x = ap₂ (cond x.band) (ends_held x.bound x.high) (held-leb x.bound)

test-known-held : (channels : ℕ) → channels ≤ 255 → (x : Test) → test_known channels (held_test x) ≡ test_known channels x
unfolding test_known
test-known-held channels h x = min-ltb 255 channels x.channel h

held_raws : (xs : List RawTest) → map held_raw xs ≡ map held_test (map test_of xs)
held_raws [] = refl
held_raws (x ∷ xs) = ap (◌∷◌ (held_raw x)) (held_raws xs)

pub tests_are : (channels : ℕ) → channels ≤ 255 → (t : Bytes)
    → giving (gathered 4 no_test (λ x. x) test_in_range (test_known channels)) (all_read (λ b. giving held_raw (test.read b)) t)
    ≡ giving (λ xs. gathered_tests channels (map test_of xs)) ((many test).read t)
unfolding many
tests_are channels few t = rw (read_giving held_raw test.read (length t) t) (go (read_many test.read (length t) t))
  where
    go : (x : Reading (List RawTest)) → giving (gathered 4 no_test (λ x. x) test_in_range (test_known channels)) (giving (map held_raw) x) ≡ giving (λ xs. gathered_tests channels (map test_of xs)) x
    go (got xs r) = ap (λ s. got s r) (ap (gathered 4 no_test (λ x. x) test_in_range (test_known channels)) (held_raws xs)
        ∙ held_same 4 no_test held_test test_in_range (test_known channels) test-range-held (test-known-held channels few) (map test_of xs))
    go broken = refl

-- ---- guards

guard-range-held : (x : Guard) → guard_in_range (held_guard x) ≡ guard_in_range x
unfolding guard_in_range
guard-range-held x = min-leb 65_535 1_000 x.bound (omega arith)

guard-known-held : (clocks : ℕ) → clocks ≤ 255 → (x : Guard) → guard_known clocks (held_guard x) ≡ guard_known clocks x
unfolding guard_known
guard-known-held clocks h x = min-ltb 255 clocks x.clock h

pub guards_are : (clocks : ℕ) → clocks ≤ 255 → (t : Bytes)
    → giving (gathered 4 no_guard (λ x. x) guard_in_range (guard_known clocks)) (all_read (λ b. giving held_guard (guard.read b)) t)
    ≡ giving (gathered_guards clocks) ((many guard).read t)
unfolding many
guards_are clocks few t = rw (read_giving held_guard guard.read (length t) t) (go (read_many guard.read (length t) t))
  where
    go : (x : Reading (List Guard)) → giving (gathered 4 no_guard (λ x. x) guard_in_range (guard_known clocks)) (giving (map held_guard) x) ≡ giving (gathered_guards clocks) x
    go (got xs r) = ap (λ s. got s r) (held_same 4 no_guard held_guard guard_in_range (guard_known clocks) guard-range-held (guard-known-held clocks few) xs)
    go broken = refl
