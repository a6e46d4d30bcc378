-- A form of text: how a value is written, and how it is read from the front of some bytes.
use Rattle.std.specs.Prelude.{ℕ, zero, suc, List, [], ◌∷◌, ◌++◌, ◌⊎◌, cond, eqb, length, ℤ, pos, negsuc}
use Prim.Native.String.{String}
use Rattle.std.proofs.Common.{inl, inr}
use Rattle.pattern_text.specs.Bytes.{Bytes, bytes, Reading, got, broken}
use Rattle.pattern_text.specs.Numeral.{decimal, numeral_of}

pub record Form (A : Type 0) : Type 0 where
  pub write : A → Bytes
  pub read : Bytes → Reading A

-- ---- reading on, and reading another way

abbrev pub and_then : {A B : Type 0} → Reading A → (A → Bytes → Reading B) → Reading B
and_then (got a r) k = k a r
and_then broken k = broken

abbrev pub giving : {A B : Type 0} → (A → B) → Reading A → Reading B
giving f (got a r) = got (f a) r
giving f broken = broken

abbrev pub or_else : {A : Type 0} → Reading A → Reading A → Reading A
or_else (got a r) y = got a r
or_else broken y = y

-- ---- the forms

-- fixed bytes
unfoldable pub strip : Bytes → Bytes → Reading Unit
strip [] b = got tt b
strip (c ∷ w) [] = broken
strip (c ∷ w) (d ∷ b) = cond (eqb c d) (strip w b) broken

infixr 60 ◌▸◌
infixl 65 ◌◂◌
infixr 55 ◌⨾◌
-- a fixed text before a form, and after it
unfoldable pub ◌▸◌ : {A : Type 0} → String → Form A → Form A
w ▸ f = record { write = λ a. bytes w ++ f.write a; read = λ b. and_then (strip (bytes w) b) (λ _ r. f.read r) }

unfoldable pub ◌◂◌ : {A : Type 0} → Form A → String → Form A
f ◂ w = record { write = λ a. f.write a ++ bytes w; read = λ b. and_then (f.read b) (λ a r. giving (λ _. a) (strip (bytes w) r)) }

-- one form and then another
unfoldable pub ◌⨾◌ : {A B : Type 0} → Form A → Form B → Form (A × B)
f ⨾ g = record { write = λ p. f.write p.0 ++ g.write p.1; read = λ b. and_then (f.read b) (λ a r. giving (λ c. (a, c)) (g.read r)) }

-- a word of a list of words, the first that fits
unfoldable pub first_of : {A : Type 0} → (A → String) → List A → Bytes → Reading A
first_of word [] b = broken
first_of word (a ∷ l) b = or_else (giving (λ _. a) (strip (bytes (word a)) b)) (first_of word l b)

unfoldable pub one_of : {A : Type 0} → (A → String) → List A → Form A
one_of word l = record { write = λ a. bytes (word a); read = first_of word l }

-- one form or, where it cannot be read, another
abbrev pub write_either : {A B : Type 0} → Form A → Form B → A ⊎ B → Bytes
write_either f g (inl a) = f.write a
write_either f g (inr b) = g.write b

unfoldable pub either : {A B : Type 0} → Form A → Form B → Form (A ⊎ B)
either f g = record { write = write_either f g; read = λ b. or_else (giving inl (f.read b)) (giving inr (g.read b)) }

-- a form again and again, as often as it can be read; the count only has to be large enough
unfoldable pub write_many : {A : Type 0} → (A → Bytes) → List A → Bytes
write_many w [] = []
write_many w (a ∷ l) = w a ++ write_many w l

abbrev pub go_on : {A : Type 0} → Reading A → Bytes → (Bytes → Reading (List A)) → Reading (List A)
go_on (got a r) b more = giving (◌∷◌ a) (more r)
go_on broken b more = got [] b

unfoldable pub read_many : {A : Type 0} → (Bytes → Reading A) → ℕ → Bytes → Reading (List A)
read_many f zero b = got [] b
read_many f (suc n) b = go_on (f b) b (λ r. read_many f n r)

unfoldable pub many : {A : Type 0} → Form A → Form (List A)
many f = record { write = write_many f.write; read = λ b. read_many f.read (length b) b }

-- a form whose values stand for others
unfoldable pub mapped : {A B : Type 0} → (A → B) → (B → A) → Form A → Form B
mapped to from f = record { write = λ b. f.write (from b); read = λ b. giving to (f.read b) }

unfoldable pub number : Form ℕ
number = record { write = decimal; read = numeral_of }

-- "A minus may stand only .. before a non-zero number."
unfoldable pub write_ℤ : ℤ → Bytes
write_ℤ (pos n) = decimal n
write_ℤ (negsuc n) = bytes "-" ++ decimal (suc n)

abbrev pub minus : ℕ → Bytes → Reading ℤ
minus zero r = broken
minus (suc n) r = got (negsuc n) r

unfoldable pub integer : Form ℤ
integer = record { write = write_ℤ; read = λ b. or_else (giving pos (numeral_of b)) (and_then (strip (bytes "-") b) (λ _ r. and_then (numeral_of r) minus)) }
