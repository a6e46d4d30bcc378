-- A sound pattern's table is about its automaton with held clocks, and its cells suffice.
use Prim.Native.Nat.{ℕ, ◌+◌, ◌-◌, ◌≤◌, ◌<◌}
use native.Mathlib.Omega.{arith}
use mathlib.Core.Path.{◌≡◌, refl, sym, ap, subst, ◌∙◌}
use mathlib.Core.Bool.{Bool, true, false, not, ◌&&◌}
use mathlib.Core.List.{List, [], ◌∷◌}
use borrow.Author.Tests.{ltb-true, ltb-false, lt-ltb}
use lib.Dec.{T, ltb}
use lib.ListN.{length, get_or, drop, length-drop, get_or-eq_default}
use lib.Seq.{get_or-drop}
use Rattle.integers.proofs.Tests.{T_true}
use Rattle.pattern.specs.declared.Kind.{Kind}
use Rattle.pattern.specs.declared.Kind.TheVariants.{Start, Plain, End, Both}
use Rattle.pattern.specs.declared.Place.{Place}
use Rattle.pattern.specs.declared.Guard.{Guard}
use Rattle.pattern.specs.declared.Edge.{Edge}
use Rattle.pattern.specs.declared.Pattern.{Pattern}
use Rattle.pattern.specs.InUse.{place_at, edges_of, guards_of}
use Rattle.pattern.specs.Slots.{all, anything, slots}
use Rattle.pattern.specs.Sound.{is_plain, no_place, guard_in_range, guard_known, guard_unused, place_unused, edge_sound, sound_of}
use Rattle.pattern.specs.Kinds as kinds
use Rattle.pattern.specs.Clocks.{Clocks, later, after_resets}
use Rattle.pattern.proofs.SoundLaws.{both, slotted, parts, edge-parts}
use Rattle.pattern.proofs.ListLaws.{length-zip}
use Rattle.cells.specs.Layout.{layout_of, Laid}
use Rattle.cells.specs.Index.{ticked}
use Rattle.cells.specs.Index as index
use Rattle.cells.proofs.Digits.{ticked-within, ticked-long, reset-within}
use Rattle.cells.proofs.Layouts.{layout-laid}
use Rattle.walks.specs.Automaton.{State, entering}
use Rattle.walks.specs.Walks.{Move, stays, takes}
use Rattle.book.specs.Automaton.{held, held_automaton}
use Rattle.book.proofs.Ceilings.{held-by_radices}
use Rattle.book.proofs.Members.{all_member, at_member}
use Rattle.steps.specs.Steps.{edge_in, Fit}
use Rattle.table.specs.Edges.{Edged}
use Rattle.table.proofs.Steps.{known_of}
use Rattle.table_laws.specs.Patterns.{AboutPattern, KnownPattern, ClosedPattern}
use Rattle.table_laws.proofs.States.{Cell, seen-in, in-seen, edge_in_lem, in-edges}

-- ---- edges in use are sound

edge-sound : (p : Pattern) → sound_of p ≡ true → (i : ℕ) → i < p.edgecount → edge_sound p.clocks p.placecount (edge_in p.edges i) ≡ true
edge-sound p h i low =
    let s = (parts p h).edges in
    all_member (edge_sound p.clocks p.placecount) (edges_of p) s.front (edge_in p.edges i)
    (edge_in_lem p.edges p.edgecount i (let a = s.long in let b = s.few in omega arith) low)

resets-four : (clocks places : ℕ) (e : Edge) → edge_sound clocks places e ≡ true → length e.resets ≡ 4
unfolding edge_sound
resets-four clocks places e h =
    let a = both (ltb e.from places && ltb e.to places && slots (λ g. guard_in_range g && guard_known clocks g) guard_unused 4 e.count e.guards) (slots anything not 4 clocks e.resets) h in
    (slotted {A = Bool} {used = anything} {unused = not} {size = 4} {n = clocks} {xs = e.resets} a.1).long

-- ---- a place past those in use is plain

not-in_use : (p : Pattern) → sound_of p ≡ true → (k : ℕ) → p.placecount ≤ k → (place_at p k).kind ≡ Plain
unfolding place_unused
not-in_use p h k low = by (ltb k 16) refl
  where
    plain : (x : Kind) → is_plain x ≡ true → x ≡ Plain
    plain Start e = let z : ◌≡◌ {A = ℕ} 0 1 = cc in absurd (omega arith)
    plain Plain e = refl
    plain End e = let z : ◌≡◌ {A = ℕ} 0 1 = cc in absurd (omega arith)
    plain Both e = let z : ◌≡◌ {A = ℕ} 0 1 = cc in absurd (omega arith)

    by : (b : Bool) → ltb k 16 ≡ b → (place_at p k).kind ≡ Plain
    by false q =
        let s = (parts p h).places in
        let long = s.long in
        let z = ltb-false k 16 q in
        ap (λ (x : Place). x.kind) (get_or-eq_default p.places no_place {n = k} (omega arith))
    by true q =
        let s = (parts p h).places in
        let long = s.long in
        let z = ltb-true k 16 q in
        let e : p.placecount + (k - p.placecount) ≡ k = omega arith in
        let at : get_or (drop p.placecount p.places) (k - p.placecount) no_place ≡ place_at p k = get_or-drop p.placecount p.places (k - p.placecount) no_place ∙ ap (λ (n : ℕ). get_or p.places n no_place) e in
        let n = length-drop p.placecount p.places in
        let m = at_member (drop p.placecount p.places) (k - p.placecount) no_place (omega arith) in
        let u : place_unused (place_at p k) ≡ true = ap place_unused (sym at) ∙ all_member place_unused (drop p.placecount p.places) s.rest _ m in
        plain (place_at p k).kind (both _ _ (both _ _ u).0).0

flag : (p : Pattern) → sound_of p ≡ true → (f : Kind → Bool) → f Plain ≡ false → (flags : List Bool) → ((k : ℕ) → k < p.placecount → get_or flags k false ≡ f (place_at p k).kind) → (k : ℕ) → f (place_at p k).kind ≡ ltb k p.placecount && get_or flags k false
flag p h f e flags are k = by (ltb k p.placecount) refl
  where
    by : (b : Bool) → ltb k p.placecount ≡ b → f (place_at p k).kind ≡ b && get_or flags k false
    by true q = sym (are k (ltb-true k p.placecount q))
    by false q = ap f (not-in_use p h k (ltb-false k p.placecount q)) ∙ e

-- ---- clocks held at ceilings, as the two crates say it

tick-same : (p : Pattern) (longest : ℕ) (cs : Clocks) → held p (later 1 cs) ≡ ticked (layout_of p longest).radices cs
unfolding ticked index.held layout_of
tick-same p longest cs = held-by_radices p (later 1 cs)

pub about_pattern : AboutPattern
unfolding layout_of
about_pattern p h longest starts ends f =
    record {
      few = (let s = (parts p h).edges in let a = s.long in let b = s.few in omega arith);
      four = λ i low. resets-four p.clocks p.placecount (edge_in p.edges i) (edge-sound p h i low);
      starts_are = flag p h kinds.is_start refl starts f.starts_are;
      ends_are = flag p h kinds.is_end refl ends f.ends_are;
      edges_are = refl;
      source_is = λ e. refl;
      target_is = λ e. refl;
      zeros_are = refl;
      tick_is = tick-same p longest;
      holds_is = λ e cs. refl;
      reset_is = λ e cs. refl;
    }

-- guards about the pattern's clocks are about the four clocks
known-four : (clocks : ℕ) → clocks ≤ 4 → (gs : List Guard) → all (λ g. guard_in_range g && guard_known clocks g) gs ≡ true → all (λ g. ltb g.clock 4) gs ≡ true
unfolding guard_known
known-four clocks few [] h = refl
known-four clocks few (g ∷ gs) h =
    let a = both (guard_in_range g && ltb g.clock clocks) (all (λ f. guard_in_range f && ltb f.clock clocks) gs) h in
    let b = both (guard_in_range g) (ltb g.clock clocks) a.0 in
    let low = ltb-true g.clock clocks b.1 in
    rw (lt-ltb g.clock 4 (omega arith)) (known-four clocks few gs a.1)

edge-fits : (clocks places : ℕ) (e : Edge) → clocks ≤ 4 → edge_sound clocks places e ≡ true → Fit e
edge-fits clocks places e few h =
    let q = edge-parts clocks places e h in
    record { guards = q.guards.long; resets = q.resets.long; clocks = known-four clocks few (guards_of e) q.guards.front }

-- its edges lead from places to places, and ask about the four clocks
pub edged_pattern : (p : Pattern) → sound_of p ≡ true → (longest : ℕ) → Edged (layout_of p longest) p.edges p.edgecount
unfolding layout_of
edged_pattern p h longest =
    record {
      few = (parts p h).edges.few;
      froms = λ i low. (edge-parts p.clocks p.placecount (edge_in p.edges i) (edge-sound p h i low)).from_place;
      tos = λ i low. (edge-parts p.clocks p.placecount (edge_in p.edges i) (edge-sound p h i low)).to_place;
      fits = λ i low. edge-fits p.clocks p.placecount (edge_in p.edges i) (parts p h).few_clocks (edge-sound p h i low);
    }

pub known_pattern : KnownPattern
unfolding layout_of
known_pattern p h longest short v entered staying =
    known_of (layout-laid p longest h short) (edged_pattern p h longest) (record { entered = entered; staying = staying })

-- ---- no move leaves the cells

reset-long : (e : Edge) (cs : Clocks) → length e.resets ≡ 4 → length cs ≡ 4 → length (after_resets e cs) ≡ 4
unfolding after_resets
reset-long e cs a b = length-zip _ e.resets cs (a ∙ sym b) ∙ b

module _ (p : Pattern) (h : sound_of p ≡ true) (longest : ℕ) (laid : Laid (layout_of p longest)) where
  in_place : (k : ℕ) → T (kinds.is_start (place_at p k).kind) → k < p.placecount
  in_place k t = by (ltb k p.placecount) refl
    where
      by : (b : Bool) → ltb k p.placecount ≡ b → k < p.placecount
      by true q = ltb-true k p.placecount q
      by false q =
          let e : kinds.is_start (place_at p k).kind ≡ false = ap kinds.is_start (not-in_use p h k (ltb-false k p.placecount q)) in
          let y : ◌≡◌ {A = Bool} true false = sym (T_true _ t) ∙ e in
          let z : ◌≡◌ {A = ℕ} 0 1 = cc in
          absurd (omega arith)

  begin-cell : (k : ℕ) → k < p.placecount → Cell (layout_of p longest) (entering (held_automaton p) k)
  unfolding layout_of
  begin-cell k low =
      record { short = omega arith; place_in = low; within = record { in0 = laid.some0; in1 = laid.some1; in2 = laid.some2; in3 = laid.some3 }; four = refl }

  tick-cell : (cs : Clocks) → length cs ≡ 4 → index.Within (layout_of p longest).radices (held p (later 1 cs)) × (length (held p (later 1 cs)) ≡ 4)
  tick-cell cs four =
      rw (tick-same p longest cs) (ticked-within (layout_of p longest) cs laid, ticked-long (layout_of p longest) cs laid four)

  move_cell : (s x : State Clocks) → Cell (layout_of p longest) s → Move (held_automaton p) longest s x → Cell (layout_of p longest) x
  unfolding layout_of
  move_cell s x c (stays low) =
      let t = tick-cell s.clocks c.four in
      record { short = low; place_in = c.place_in; within = t.0; four = t.1 }
  move_cell s x c (takes {e = e} low m) =
      let t = tick-cell s.clocks c.four in
      let r = in-edges p.edges p.edgecount e m.known in
      let sound : edge_sound p.clocks p.placecount e ≡ true = subst (λ (d : Edge). edge_sound p.clocks p.placecount d ≡ true) r.2 (edge-sound p h r.0 r.1) in
      record {
        short = low;
        place_in = (edge-parts p.clocks p.placecount e sound).to_place;
        within = reset-within (layout_of p longest).radices e (held p (later 1 s.clocks)) t.0;
        four = reset-long e (held p (later 1 s.clocks)) (resets-four p.clocks p.placecount e sound) t.1;
      }

pub closed_pattern : ClosedPattern
unfolding layout_of
closed_pattern p h longest short t states U seen =
    let laid = layout-laid p longest h short in
    record {
      short = λ s m. (in-seen (layout_of p longest) laid t states U seen s m).short;
      begins_in = λ k z. seen-in (layout_of p longest) laid t states U seen (entering (held_automaton p) k) (begin-cell p h longest laid k (in_place p h longest laid k z));
      moves_in = λ s x m move. seen-in (layout_of p longest) laid t states U seen x (move_cell p h longest laid s x (in-seen (layout_of p longest) laid t states U seen s m) move);
    }
