use Rattle.std.proofs.Common.{rules, ◌≡◌, ℤ, pos, negsuc, int_eq}
use Rattle.pattern.specs.Sound.{is_null, test_unused}
use Rattle.pattern.proofs.slots.test_unused.Goals as goal

zero-is : (z : ℤ) → int_eq z (pos 0) ≡ is_null z
zero-is (pos n) = search rules
zero-is (negsuc n) = search rules

pub returns : goal.returns
unfolding test_unused
returns c =
    let t = c.args.t in
    let e = rw (zero-is t.bound, zero-is t.high) at c.eq.ensures in
    rw e (search rules)
