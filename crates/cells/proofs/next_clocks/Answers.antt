-- `next_clocks` gives the digits of k + 1: the last clock that can grow does, and those after it are 0.
use native.Mathlib.Omega.{arith}
use Prim.Native.Nat.{ℕ, ◌<◌}
use mathlib.Core.Path.{◌≡◌, sym, subst}
use mathlib.Core.List.{List}
use lib.ListN.{get_or}
use Rattle.cells.specs.declared.Layout.{Layout}
use Rattle.cells.specs.Index.{clocks_at}
use Rattle.cells.proofs.Digits.{turned, next-3, next-2, next_1, next-0}
use Rattle.cells.proofs.next_clocks.Goals as goal

-- what is asked of the layout, of one that is the same
asked : (l : Layout) (k : ℕ) (cs : List ℕ) (m : Layout) → l ≡ m → (k < l.block) × (cs ≡ clocks_at l.radices k) → (k < m.block) × (cs ≡ clocks_at m.radices k)
asked l k cs m e h = subst (λ (s : Layout). (k < s.block) × (cs ≡ clocks_at s.radices k)) e h

pub overflow_add-d : goal.overflow_add-d
overflow_add-d c =
    let a = c.args in
    let q = asked c.args.l a.k a.clocks _ (sym c.l.view_is) c.requires in
    let h = turned _ a.k a.clocks c.l.invariant q.0 q.1 in
    let w = h.within in
    omega (arith, c.l.invariant.low 3)

pub overflow_add-c : goal.overflow_add-c
overflow_add-c c =
    let a = c.args in
    let q = asked c.args.l a.k a.clocks _ (sym c.l.view_is) c.requires in
    let h = turned _ a.k a.clocks c.l.invariant q.0 q.1 in
    let w = h.within in
    omega (arith, c.l.invariant.low 2)

pub overflow_add-b : goal.overflow_add-b
overflow_add-b c =
    let a = c.args in
    let q = asked c.args.l a.k a.clocks _ (sym c.l.view_is) c.requires in
    let h = turned _ a.k a.clocks c.l.invariant q.0 q.1 in
    let w = h.within in
    omega (arith, c.l.invariant.low 1)

pub overflow_add-result-else-b-s : goal.overflow_add-result-else-b-s
overflow_add-result-else-b-s c =
    let a = c.args in
    let q = asked c.args.l a.k a.clocks _ (sym c.l.view_is) c.requires in
    let h = turned _ a.k a.clocks c.l.invariant q.0 q.1 in
    let w = h.within in
    omega (arith, c.l.invariant.low 0)

pub returns-then-d-u : goal.returns-then-d-u
returns-then-d-u c =
    let a = c.args in
    let q = asked c.args.l a.k a.clocks _ (sym c.l.view_is) c.requires in
    let h = turned _ a.k a.clocks c.l.invariant q.0 q.1 in
    let w = h.within in
    rw (← c.l.view_is) (sym (next-3 _ (get_or a.clocks 0 0) (get_or a.clocks 1 0) (get_or a.clocks 2 0) (get_or a.clocks 3 0) a.k w.in1 w.in2 w.in3 h.code (omega arith)))

pub returns-then-c-t : goal.returns-then-c-t
returns-then-c-t c =
    let a = c.args in
    let q = asked c.args.l a.k a.clocks _ (sym c.l.view_is) c.requires in
    let h = turned _ a.k a.clocks c.l.invariant q.0 q.1 in
    let w = h.within in
    rw (← c.l.view_is) (sym (next-2 _ (get_or a.clocks 0 0) (get_or a.clocks 1 0) (get_or a.clocks 2 0) (get_or a.clocks 3 0) a.k w.in1 w.in2 w.in3 h.code (omega arith) (omega arith)))

pub returns-then-b-s : goal.returns-then-b-s
returns-then-b-s c =
    let a = c.args in
    let q = asked c.args.l a.k a.clocks _ (sym c.l.view_is) c.requires in
    let h = turned _ a.k a.clocks c.l.invariant q.0 q.1 in
    let w = h.within in
    rw (← c.l.view_is) (sym (next_1 _ (get_or a.clocks 0 0) (get_or a.clocks 1 0) (get_or a.clocks 2 0) (get_or a.clocks 3 0) a.k w.in1 w.in2 w.in3 h.code (omega arith) (omega arith) (omega arith)))

pub returns-else-b-s : goal.returns-else-b-s
returns-else-b-s c =
    let a = c.args in
    let q = asked c.args.l a.k a.clocks _ (sym c.l.view_is) c.requires in
    let h = turned _ a.k a.clocks c.l.invariant q.0 q.1 in
    let w = h.within in
    rw (← c.l.view_is) (sym (next-0 _ (get_or a.clocks 0 0) (get_or a.clocks 1 0) (get_or a.clocks 2 0) (get_or a.clocks 3 0) a.k w.in1 w.in2 w.in3 h.code (omega arith) (omega arith) (omega arith)))
