-- Values one by one, gathered, are the values that stand there.
use Rattle.std.proofs.Common.{◌≡◌, ℕ, zero, suc, ◌-◌, ◌<◌, min, List, [], ◌∷◌, ◌++◌, map, true, ◌&&◌, length, take, replicate, get_or, refl, sym, ap, ap₂, ◌∙◌, arith}
use Rattle.std.proofs.lemmas.List.{take-map, length-map, length-take, length-replicate}
use lib.ListN.{length-append}
use mathlib.Core.List.{map-append}
use lib.IntN.{ℤ, pos}
use Rattle.pattern.specs.Slots.{all}
use Rattle.pattern_text.specs.Bytes.{Bytes, Reading, got, broken}
use Rattle.pattern_text.specs.Form.{giving, many, read_many}
use Rattle.pattern_text.specs.Text.{pad}
use Rattle.text_scan.specs.Scan.{held_integer}
use Rattle.line_lists.specs.declared.Parts.{Parts}
use Rattle.line_lists.specs.Lists.{gathered}
use Rattle.line_lists.proofs.Gather.{all_read, read_giving}
use Rattle.line_lists.proofs.Held.{held-leb}
use Rattle.record.specs.Record.{value_in_range}
use Rattle.record_text.specs.Piece.{value}
use Rattle.record_read.specs.declared.Value.{Value}
use Rattle.record_read.specs.Line.{kept_values, held_value, no_value, gathered_values}

abbrev wrapped : ℤ → Value
wrapped v = record { 0 = v }

map_replicate : {A B : Type 0} (f : A → B) (n : ℕ) (u : A) → replicate n (f u) ≡ map f (replicate n u)
map_replicate f zero u = refl
map_replicate f (suc n) u = ap (◌∷◌ (f u)) (map_replicate f n u)

pad_map : {A B : Type 0} (f : A → B) (size : ℕ) (u : A) (xs : List A) → pad size (f u) (map f xs) ≡ map f (pad size u xs)
unfolding pad
pad_map f size u xs = rw (length-map xs f) (ap (λ ys. map f xs ++ ys) (map_replicate f (size - length xs) u) ∙ sym (map-append f xs (replicate (size - length xs) u)))

map_map : {A B C : Type 0} (f : B → C) (g : A → B) (xs : List A) → map f (map g xs) ≡ map (λ x. f (g x)) xs
map_map f g [] = refl
map_map f g (x ∷ xs) = ap (◌∷◌ (f (g x))) (map_map f g xs)

-- the slots, from the values as they were read
slots_are : (vs : List ℤ) → pad 8 no_value (take 8 (map (λ (v : Value). v) (map held_value vs))) ≡ map wrapped (kept_values vs)
slots_are vs =
    ap (λ xs. pad 8 no_value (take 8 xs)) (map_map (λ (v : Value). v) held_value vs ∙ sym (map_map wrapped held_integer vs))
    ∙ ap (pad 8 no_value) (take-map wrapped 8 (map held_integer vs)) ∙ pad_map wrapped 8 (pos 0) (take 8 (map held_integer vs))

ranges_are : (vs : List ℤ) → all (λ (v : Value). value_in_range v.0) (map held_value vs) ≡ all value_in_range vs
ranges_are [] = refl
ranges_are (v ∷ vs) = ap₂ ◌&&◌ (held-leb v) (ranges_are vs)

all_known : (vs : List Value) → all (λ _. true) vs ≡ true
all_known [] = refl
all_known (v ∷ vs) = all_known vs

gathered_are : (vs : List ℤ) → gathered 8 no_value (λ v. v) (λ v. value_in_range v.0) (λ _. true) (map held_value vs) ≡ gathered_values vs
unfolding gathered gathered_values
gathered_are vs = λ i. record {
  parts = slots_are vs i;
  count = ap (min 256) (length-map vs held_value) i;
  in_range = ranges_are vs i;
  known = all_known (map held_value vs) i;
}

pub values_are : (t : Bytes) → giving (gathered 8 no_value (λ v. v) (λ v. value_in_range v.0) (λ _. true)) (all_read (λ b. giving held_value (value.read b)) t)
    ≡ giving gathered_values ((many value).read t)
unfolding many
values_are t = rw (read_giving held_value value.read (length t) t) (go (read_many value.read (length t) t))
  where
    go : (x : Reading (List ℤ)) → giving (gathered 8 no_value (λ v. v) (λ v. value_in_range v.0) (λ _. true)) (giving (map held_value) x) ≡ giving gathered_values x
    go (got vs r) = ap (λ s. got s r) (gathered_are vs)
    go broken = refl

-- the values of the first slots
pub unwrapped : (vs : List ℤ) → map (λ (v : Value). v.0) (map wrapped vs) ≡ vs
unwrapped [] = refl
unwrapped (v ∷ vs) = ap (◌∷◌ v) (unwrapped vs)

-- an array that has the number of each of them
numbers_are : (vs : List Value) (xs : List ℤ) → length xs ≡ length vs → ((i : ℕ) → i < length vs → get_or xs i (pos 0) ≡ (get_or vs i no_value).0) → xs ≡ map (λ (v : Value). v.0) vs
numbers_are [] [] e h = refl
numbers_are [] (x ∷ xs) e h = absurd (omega (arith, e))
numbers_are (v ∷ vs) [] e h = absurd (omega (arith, e))
numbers_are (v ∷ vs) (x ∷ xs) e h = ap₂ ◌∷◌ (h 0 (omega arith)) (numbers_are vs xs (omega (arith, e)) (λ i l. h (suc i) (omega arith)))

kept_length : (vs : List ℤ) → length (kept_values vs) ≡ 8
unfolding pad
kept_length vs =
    let xs = take 8 (map held_integer vs) in
    rw (length-append xs (replicate (8 - length xs) (pos 0)), length-replicate (8 - length xs) (pos 0)) (omega (arith, length-take 8 (map held_integer vs)))

pub slots_numbers : (s : Parts Value 8) (vs : List ℤ) → s ≡ gathered_values vs → (xs : List ℤ) → length xs ≡ 8
    → ((i : ℕ) → i < 8 → get_or xs i (pos 0) ≡ (get_or s.parts i no_value).0) → xs ≡ kept_values vs
unfolding gathered_values
slots_numbers s vs k xs e h =
    let p : s.parts ≡ map wrapped (kept_values vs) = ap (λ (x : Parts Value 8). x.parts) k in
    let n : length s.parts ≡ 8 = rw (p, length-map (kept_values vs) wrapped) (kept_length vs) in
    numbers_are s.parts xs (e ∙ sym n) (λ i l. h i (omega arith)) ∙ ap (map (λ (v : Value). v.0)) p ∙ unwrapped (kept_values vs)
