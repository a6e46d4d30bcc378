-- How long the lines are: a number of 64 bits has at most 20 digits, and a line at most 64 bytes.
use Prim.Native.Nat.{ℕ, suc, ◌+◌, ◌*◌, ◌^◌, ◌≤◌, ◌<◌}
use native.Mathlib.Omega.{arith}
use mathlib.Core.List.{List, ◌++◌}
use lib.ListN.{length, get_or, length-append}
use lib.IntN.{ℤ, pos, negsuc}
use mir.Syntax.{w64}
use mir.Val.{SFits}
use Rattle.pattern.specs.declared.Refusal.{Refusal}
use Rattle.pattern.specs.Refusal.{number_of}
use Rattle.pattern_text.specs.Bytes.{bytes}
use Rattle.pattern_text.specs.Numeral.{decimal}
use Rattle.pattern_text.specs.Form.{write_ℤ}
use Rattle.pattern_text.proofs.Size.{few-digits}
use Rattle.watch_text.specs.Shown.{feed, refused_text, row_text, row_for, rows_past}

twenty : (n : ℕ) → n < 18446744073709551616 → length (decimal n) ≤ 20
twenty n h = few-digits 19 n (let e : 18446744073709551616 ≤ 10 ^ 20 = omega arith in omega arith)

score-short : (z : ℤ) → SFits w64 z → length (write_ℤ z) ≤ 21
unfolding write_ℤ
score-short (pos n) p = let l = twenty n (omega (arith, p.sfits)) in omega arith
score-short (negsuc n) p = let l = twenty (suc n) (omega (arith, p.sfits)) in let e = length-append (bytes "-") (decimal (suc n)) in omega arith

pub row-short : (end begin : ℕ) (score : ℤ) → end < 4294967296 → begin < 4294967296 → SFits w64 score → length (row_text end begin score) ≤ 64
unfolding row_text
row-short end begin score e b s =
    let a = twenty end (omega arith) in
    let c = twenty begin (omega arith) in
    let d = score-short score s in
    let one = length-append (decimal end) (bytes " ") in
    let two = length-append (decimal begin) (bytes " ") in
    let three = length-append (write_ℤ score) feed in
    let four = length-append (decimal begin ++ bytes " ") (write_ℤ score ++ feed) in
    let five = length-append (decimal end ++ bytes " ") ((decimal begin ++ bytes " ") ++ (write_ℤ score ++ feed)) in
    omega arith

pub refused_short : (r : Refusal) → number_of r < 256 → length (refused_text r) ≤ 128
unfolding refused_text
refused_short r h =
    let a = twenty (number_of r) (omega arith) in
    let b = length-append (decimal (number_of r)) feed in
    let c = length-append (bytes "refused ") (decimal (number_of r) ++ feed) in
    omega arith

pub past-short : (n : ℕ) (ss : List ℤ) (ls : List ℕ) (i : ℕ) → length (rows_past n ss ls i) ≤ 64 * i → length (row_for (n + i + 1) (get_or ss i (pos 0)) (get_or ls i 0)) ≤ 64
    → length (rows_past n ss ls (suc i)) ≤ 64 * suc i
unfolding rows_past
past-short n ss ls i h r =
    let e = length-append (rows_past n ss ls i) (row_for (n + i + 1) (get_or ss i (pos 0)) (get_or ls i 0)) in omega arith

pub best_short : (end begin : ℕ) (score : ℤ) → length (row_text end begin score) ≤ 64 → length (bytes "best " ++ row_text end begin score) ≤ 128
best_short end begin score h = let e = length-append (bytes "best ") (row_text end begin score) in omega arith
