-- `pass` visits a block, unless the gain is the mark. Before it the flag is raised of the block that its
-- worths stay in.
use borrow.Author.Rules.{rules}
use Prim.Native.Nat.{◌+◌, ◌<◌}
use native.Mathlib.Omega.{arith}
use mathlib.Core.Path.{◌≡◌, ap}
use lib.ListN.{length}
use mir.Syntax.{w64}
use mir.Val.{to_z, of_z}
use mir.Facts.{to_z-of_z}
use Rattle.table.specs.declared.fixed.Ground.{Ground}
use Rattle.flags.specs.Flags.{flag_at}
use Rattle.flags.proofs.Flags.{raised_is, grown-refl, grown-trans, raised-grown}
use Rattle.table.proofs.Steps.{pass_is, pass_no}
use Rattle.table.proofs.Told.{told_pass_lem, told_pass_no}
use Rattle.table_blocks.proofs.pass.Goals as goal

pub visits-requires : goal.visits-requires
visits-requires c =
    let a = c.args in
    let g = a.g.now in
    let b = a.b in
    let n = c.requires.0.low in
    let k = c.requires.1.long in
    let inside : b.len + 1 < length a.flags.now = omega arith in
    let q : to_z w64 (of_z w64 b.gain) ≡ b.gain = to_z-of_z {w = w64} {z = b.gain} (record { sfits = search rules }) in
    let e = rw (ap (λ (x : Ground). x.layout.places) c.g.view_is) at c.raise.ensures in
    let i : g.layout.places + b.place ≡ flag_at g.layout 1 b.place = omega arith in (
      c.requires.0,
      rw q at c.if-b-gt-MARK.true,
      rw (ap (λ (x : Ground). x.layout.block) c.g.view_is) at c.occupied-first.ensures,
      rw e (raised-grown g.layout g.laid a.table.now a.flags.now (b.len + 1) (g.layout.places + b.place) inside c.requires.1).flagged,
      rw (e, i) (raised_is a.flags.now (b.len + 1) (flag_at g.layout 1 b.place) inside),
    )

pub returns-then-b-gt-MARK : goal.returns-then-b-gt-MARK
returns-then-b-gt-MARK c =
    let a = c.args in
    let g = a.g.now in
    let b = a.b in
    let n = c.requires.0.low in
    let k = c.requires.1.long in
    let inside : b.len + 1 < length a.flags.now = omega arith in
    let q : to_z w64 (of_z w64 b.gain) ≡ b.gain = to_z-of_z {w = w64} {z = b.gain} (record { sfits = search rules }) in
    let m = rw q at c.if-b-gt-MARK.true in
    let e = c.visits.ensures in
    let up = raised-grown g.layout g.laid a.table.now a.flags.now (b.len + 1) (g.layout.places + b.place) inside c.requires.1 in
    record {
      value = told_pass_lem g.layout g.weighing g.edges g.count a.tells.now b.gain b.len b.place b.start a.table.now a.r _ m e.value;
      table_after = pass_is g.layout g.weighing g.edges g.count b.gain b.len b.place b.start a.table.now _ m e.table_after;
      grown = grown-trans up (rw (c.raise.ensures, ap (λ (x : Ground). x.layout.places) c.g.view_is) at e.grown);
    }

pub returns : goal.returns
returns c =
    let a = c.args in
    let g = a.g.now in
    let b = a.b in
    let q : to_z w64 (of_z w64 b.gain) ≡ b.gain = to_z-of_z {w = w64} {z = b.gain} (record { sfits = search rules }) in
    let m = rw q at c.if-b-gt-MARK.false in
    record {
      value = told_pass_no g.layout g.weighing g.edges g.count a.tells.now b.gain b.len b.place b.start a.table.now a.r m;
      table_after = pass_no g.layout g.weighing g.edges g.count b.gain b.len b.place b.start a.table.now m;
      grown = grown-refl c.requires.1;
    }
