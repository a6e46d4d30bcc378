-- `step` makes the step or answers none: too long for the record, no such edge, or it cannot be taken.
use Rattle.std.proofs.Common.{◌≡◌, ◌≤◌, ◌<◌, ◌^◌, ◌∙◌, sym, ℕ, ℤ, nat_abs, Bool, true, List, get_or, arith, to_z, of_z}
use Rattle.std.specs.Int.{w64}
use Rattle.integers.proofs.Ranges.{abs_fits_64}
use Rattle.integers.proofs.Casts.{read_back}
use Rattle.pattern.specs.declared.Edge.{Edge}
use Rattle.pattern.specs.declared.Place.{Place}
use Rattle.pattern.specs.declared.Pattern.{Pattern}
use Rattle.pattern.specs.Clocks.{Clocks, later}
use Rattle.pattern.specs.InUse.{place_at, edge_at}
use Rattle.pattern.specs.Sound.{no_place, sound_of}
use Rattle.pattern.proofs.SoundLaws.{parts}
use Rattle.record.specs.Run.{Step, can_step, clocks_after}
use Rattle.std.proofs.lemmas.List.{get_or_default}
use Rattle.price_runs.specs.declared.Stand.{Stand}
use Rattle.price_runs.specs.Stand.{can_leave, Held}
use Rattle.price_runs.proofs.RunLaws.{edge-at-sound, edge_found, edge_lacked, can_leave_lem, no_edge_lem, room, walks, made, not-fitting, not_able}
use Rattle.price_runs.proofs.Course.step.Goals as goal

module _ (p : Pattern) (ds : List ℕ) (vs : List ℤ) (s : Stand) (x : Step) (h : Held p ds vs s) where
  -- the worth so far, as the machine reads it
  reads-worth : to_z w64 (of_z w64 s.worth) ≡ s.worth
  reads-worth = let k = h.size in read_back w64 s.worth (abs_fits_64 s.worth (2 ^ 60) (omega arith) (omega arith))

  -- the place as the code reads it, whatever it would read past the array's end
  place_is : sound_of p ≡ true → (k : ℕ) (d : Place) → k < p.placecount → get_or p.places k d ≡ place_at p k
  place_is sound k d l =
      let few = (parts p sound).places.few in
      let long = (parts p sound).places.long in
      get_or_default p.places k d no_place (omega arith)

  -- the step as the code tries it: the guards on the clocks as the stay leaves them
  tried : (e : Edge) (ticked : Clocks) (r : Bool) → (x.edge < p.edgecount) × (e ≡ edge_at p x.edge)
      → ticked ≡ later x.stay s.clocks
      → r ≡ can_leave e s.place x.stay ticked
      → can_step p s.place s.clocks x ≡ r
  tried e ticked r found grew is = can_leave_lem p s.place s.clocks x found.0 ∙ sym (is ∙ rw (grew, found.1))

pub returns-then-s-stay : goal.returns-then-s-stay
returns-then-s-stay c =
    let a = c.args in
    not-fitting a.self.now.pattern a.self.now.lent.durations.now a.self.now.lent.values.now a.s c.requires (record { edge = a.edge; stay = a.stay }) c.if-s-stay.true

pub returns-in_err-e : goal.returns-in_err-e
returns-in_err-e c =
    let a = c.args in
    let x : Step = record { edge = a.edge; stay = a.stay } in
    let none = c.in_err-e.ensures.lookup in
    rw c.from_residual.ensures
    (not_able a.self.now.pattern a.self.now.lent.durations.now a.self.now.lent.values.now a.s c.requires x
    (no_edge_lem a.self.now.pattern a.s.place a.s.clocks x (edge_lacked a.self.now.pattern a.edge c.in_use.result.now c.args.self.now.sound c.in_use.ensures none.3)))

pub returns-then-not-can_leave : goal.returns-then-not-can_leave
returns-then-not-can_leave c =
    let a = c.args in
    let x : Step = record { edge = a.edge; stay = a.stay } in
    not_able a.self.now.pattern a.self.now.lent.durations.now a.self.now.lent.values.now a.s c.requires x
    (tried a.self.now.pattern a.self.now.lent.durations.now a.self.now.lent.values.now a.s x c.requires c.in_ok-e.field-0.now c.grown-clocks.result c.can_leave.result (edge_found a.self.now.pattern a.edge c.in_use.result.now c.in_ok-e.field-0.now c.in_use.ensures c.in_ok-e.ensures.lookup.3) c.grown-clocks.ensures c.can_leave.ensures ∙ c.if-not-can_leave.true)

pub bounds-p-from : goal.bounds-p-from
bounds-p-from c =
    let a = c.args in
    let few = (parts a.self.now.pattern c.args.self.now.sound).places.few in
    let found = edge_found a.self.now.pattern a.edge c.in_use.result.now c.in_ok-e.field-0.now c.in_use.ensures c.in_ok-e.ensures.lookup.3 in
    rw (c.from.ensures, found.1) (omega (arith, (edge-at-sound a.self.now.pattern a.edge c.args.self.now.sound found.0).1.0))

pub stay_in-there-requires : goal.stay_in-there-requires
stay_in-there-requires c =
    let a = c.args in
    let ds = a.self.now.lent.durations.now in
    let vs = a.self.now.lent.values.now in
    let x : Step = record { edge = a.edge; stay = a.stay } in
    let h = c.requires in
    let found = edge_found a.self.now.pattern a.edge c.in_use.result.now c.in_ok-e.field-0.now c.in_use.ensures c.in_ok-e.ensures.lookup.3 in
    let ends = (edge-at-sound a.self.now.pattern a.edge a.self.now.sound found.0).1 in
    rw (c.from.ensures, c.from-2.ensures, found.1, reads-worth a.self.now.pattern ds vs a.s x h)
    (walks a.self.now.pattern ds vs a.s h a.self.now.sound a.self.now.kept _ _ a.stay (place_is a.self.now.pattern ds vs a.s x h a.self.now.sound _ _ ends.0) ends.0 c.if-s-stay.false)

pub returns : goal.returns
returns c =
    let a = c.args in
    let ds = a.self.now.lent.durations.now in
    let vs = a.self.now.lent.values.now in
    let there = c.stay_in-there in
    let x : Step = record { edge = a.edge; stay = a.stay } in
    let h = c.requires in
    let found = edge_found a.self.now.pattern a.edge c.in_use.result.now c.in_ok-e.field-0.now c.in_use.ensures c.in_ok-e.ensures.lookup.3 in
    let ends = (edge-at-sound a.self.now.pattern a.edge a.self.now.sound found.0).1 in
    let stayed = rw (c.from.ensures, c.from-2.ensures, found.1, place_is a.self.now.pattern ds vs a.s x h a.self.now.sound (edge_at a.self.now.pattern a.edge).from _ ends.0, reads-worth a.self.now.pattern ds vs a.s x h) at there.ensures in
    let small : nat_abs there.result.worth ≤ 2 ^ 60 = let k = h.size in let f = c.if-s-stay.false in omega (arith, stayed.size) in
    let can = tried a.self.now.pattern ds vs a.s x h c.in_ok-e.field-0.now c.grown-clocks.result c.can_leave.result found c.grown-clocks.ensures c.can_leave.ensures ∙ c.if-not-can_leave.false in
    let clocks : c.after_resets.result ≡ clocks_after a.self.now.pattern a.s.clocks x = c.after_resets.ensures ∙ rw (c.grown-clocks.ensures, found.1) in
    let worth = read_back w64 there.result.worth (abs_fits_64 there.result.worth (2 ^ 60) small (omega arith)) in
    rw (← worth, ← clocks, ← found.1) at (made a.self.now.pattern ds vs a.s h x there.result can c.if-s-stay.false stayed)

pub grown-clocks-requires : goal.grown-clocks-requires
grown-clocks-requires c =
    let a = c.args in
    room a.self.now.pattern a.self.now.lent.durations.now a.self.now.lent.values.now a.s c.requires a.stay c.if-s-stay.false
