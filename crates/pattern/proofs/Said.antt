-- An answer as the code hands it back, and what it says: an operation promises both.
use mathlib.Core.Path.{◌≡◌, ap, ◌∙◌}

-- what the answer that is due says is said by one that is equal to it
pub said : {A B : Type 0} (says : A → B) {r a : A} {n : B} → says a ≡ n → r ≡ a → (r ≡ a) × (says r ≡ n)
said says k e = (e, ap says e ∙ k)
