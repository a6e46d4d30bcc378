-- From what an answer says to what was read.
use Rattle.std.proofs.Common.{◌≡◌, refl, sym}
use Rattle.pattern_text.specs.Bytes.{Bytes, Reading, got, broken}
use Rattle.pattern_text.specs.Form.{giving}
use Rattle.pattern_text.proofs.Tools.{never}

-- something was read before r, and y stands for it
pub record Met {A B : Type 0} (stand : A → B) (x : Reading A) (y : B) (r : Bytes) : Type 0 where
  pub raw : A
  pub is : x ≡ got raw r
  pub made : y ≡ stand raw

module _ {A B : Type 0} (stand : A → B) where
  pub met : (x : Reading A) {y : B} {r : Bytes} → got y r ≡ giving stand x → Met stand x y r
  met (got a s) e = record { raw = a; is = (cc); made = (cc) }
  met broken e = never (sym e)

  pub unmet : (x : Reading A) → broken ≡ giving stand x → x ≡ broken
  unmet (got a s) e = never e
  unmet broken e = refl
