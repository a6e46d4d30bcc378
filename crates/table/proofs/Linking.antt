-- The links are made from the last edge to the first: after edge i they are right for the edges from i on.
use Prim.Native.Nat.{ℕ, ◌+◌, ◌-◌, ◌≤◌, ◌<◌}
use native.Mathlib.Omega.{arith}
use mathlib.Core.Path.{◌≡◌, refl, sym, ◌∙◌}
use mathlib.Core.Bool.{Bool, true, false}
use mathlib.Core.List.{List}
use borrow.Author.Tests.{eqb-true, eqb-false}
use lib.Dec.{eqb}
use lib.ListN.{length, get_or, set, replicate, length-set, length-replicate, get_or-replicate}
use lib.Seq.{get_or-set_same, get_or-set_other}
use Rattle.pattern.specs.declared.Edge.{Edge}
use Rattle.steps.specs.Steps.{edge_in}
use Rattle.table.specs.declared.Links.{Links}
use Rattle.table.specs.Edges.{Sourced, Hop, Linked}

pub record LinkedFrom (es : List Edge) (count i : ℕ) (firsts nexts : List ℕ) : Type 0 where
  pub firsts_long : length firsts ≡ 16
  pub nexts_long : length nexts ≡ 32
  pub first : (p : ℕ) → p < 16 → Hop es count p i (get_or firsts p 0)
  pub next : (j : ℕ) → i ≤ j → j < count → Hop es count (edge_in es j).from (j + 1) (get_or nexts j 0)

pub links_none : (es : List Edge) (count : ℕ) → LinkedFrom es count count (replicate 16 count) (replicate 32 count)
links_none es count =
    record {
      firsts_long = length-replicate 16 count;
      nexts_long = length-replicate 32 count;
      first = λ p h.
          rw (get_or-replicate 16 p count 0 h)
          (record { above = omega arith; below = omega arith; skips = λ j a b e. omega arith; lands = λ b. absurd (omega arith) });
      next = λ j a b. absurd (omega arith);
    }

pub links_more : (es : List Edge) (count i place : ℕ) (firsts nexts : List ℕ) → Sourced es count → 0 < i → i ≤ count → place ≡ (edge_in es (i - 1)).from → LinkedFrom es count i firsts nexts → LinkedFrom es count (i - 1) (set firsts place (i - 1)) (set nexts (i - 1) (get_or firsts place 0))
links_more es count i place firsts nexts s some low q h =
    record {
      firsts_long = length-set firsts place (i - 1) ∙ h.firsts_long;
      nexts_long = length-set nexts (i - 1) _ ∙ h.nexts_long;
      first = λ p z. first p z (eqb p place) refl;
      next = λ j a b. after j a b (eqb j (i - 1)) refl;
    }
  where
    few : count ≤ 32
    few = s.few

    from : place < 16
    from = let f = s.froms (i - 1) (omega arith) in omega arith

    first : (p : ℕ) → p < 16 → (b : Bool) → eqb p place ≡ b → Hop es count p (i - 1) (get_or (set firsts place (i - 1)) p 0)
    first p z true t =
        let f : p ≡ place = eqb-true p place t in
        let l = h.firsts_long in
        let is : get_or (set firsts place (i - 1)) place 0 ≡ i - 1 = get_or-set_same firsts place (i - 1) 0 (omega arith) in
        rw (f, is) (record { above = omega arith; below = omega arith; skips = λ j a b e. omega arith; lands = λ b. sym q })
    first p z false t =
        let f = eqb-false p place t in
        let o = h.first p z in
        let up = o.above in
        rw (get_or-set_other firsts place p (i - 1) 0 f)
        (record { above = omega arith; below = o.below; skips = λ j a b g. skip j a b g (eqb j (i - 1)) refl; lands = o.lands })
      where
        skip : (j : ℕ) → i - 1 ≤ j → j < get_or firsts p 0 → (edge_in es j).from ≡ p → (b : Bool) → eqb j (i - 1) ≡ b → ⊥
        skip j a b g true u =
            let k : j ≡ i - 1 = eqb-true j (i - 1) u in
            let w : (edge_in es (i - 1)).from ≡ p = rw k at g in
            eqb-false p place t (sym w ∙ sym q)
        skip j a b g false u = (h.first p z).skips j (omega (arith, eqb-false j (i - 1) u)) b g

    after : (j : ℕ) → i - 1 ≤ j → j < count → (b : Bool) → eqb j (i - 1) ≡ b → Hop es count (edge_in es j).from (j + 1) (get_or (set nexts (i - 1) (get_or firsts place 0)) j 0)
    after j a b true t =
        let k : j ≡ i - 1 = eqb-true j (i - 1) t in
        let l = h.nexts_long in
        let y = few in
        let x : get_or (set nexts (i - 1) (get_or firsts place 0)) (i - 1) 0 ≡ get_or firsts place 0 = get_or-set_same nexts (i - 1) _ 0 (omega arith) in
        let m : i - 1 + 1 ≡ i = omega arith in
        rw (k, x, m, ← q) (h.first place from)
    after j a b false t =
        let k = eqb-false j (i - 1) t in
        rw (get_or-set_other nexts (i - 1) j _ 0 k) (h.next j (omega (arith, k)) b)

pub links_all : (es : List Edge) (count : ℕ) (l : Links) → LinkedFrom es count 0 l.firsts l.nexts → Linked es count l
links_all es count l h = record { firsts = h.first; nexts = λ i low. h.next i (omega arith) low }
