-- One part more.
use Rattle.std.proofs.Common.{◌≡◌, ◌+◌, ◌<◌, ◌≤◌, refl, min, arith}
use borrow.Author.Tests.{lt-ltb, le-ltb}
use Rattle.line_lists.specs.Lists.{with_part}
use Rattle.line_lists.proofs.Parts.with.Goals as goal

pub returns-then-n : goal.returns-then-n
unfolding with_part
returns-then-n g c =
    let s = c.args.self in
    let e = c.from-n.ensures in
    let k : s.count < g.row.N = omega (arith, c.if-n.true) in
    let m : c.min.result + 1 ≡ min 256 (s.count + 1) = omega (arith, c.min.ensures) in
    rw (lt-ltb s.count g.row.N k, e, m, c.is_in_range.ensures, c.is_known.ensures) refl

pub returns-else-n : goal.returns-else-n
unfolding with_part
returns-else-n g c =
    let s = c.args.self in
    let e = c.from-n.ensures in
    let k : g.row.N ≤ s.count = omega (arith, c.if-n.false) in
    let m : c.min.result + 1 ≡ min 256 (s.count + 1) = omega (arith, c.min.ensures) in
    rw (le-ltb s.count g.row.N k, m, c.is_in_range.ensures, c.is_known.ensures) refl
