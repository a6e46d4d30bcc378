-- Holding the clocks goes unnoticed: what the automaton reaches, seen with its clocks held, is what the held one reaches.
use mathlib.Core.Path.{◌≡◌, sym, ap, subst, ◌∙◌}
use mathlib.Core.Bool.{Bool}
use mathlib.Core.Option.{some}
use mathlib.Core.List.{Memᴰ}
use Prim.Native.Nat.{ℕ, zero, suc}
use lib.Dec.{T}
use Rattle.weighting.specs.Weighting.{Weighting}
use Rattle.walks.specs.Automaton.{Automaton, View, State, entering, stayed, taken, Same}
use Rattle.walks.specs.Walks.{Takes, Move, stays, takes, Reach, held, begin, move}
use Rattle.walks.specs.Holding.{Holding, held_at, hold_state}
use Rattle.walks.specs.Tables.{opening}
use Rattle.walks.specs.Claims.{HeldWalks}
use Rattle.walks.proofs.States.{opening-starts, opening-holds}

module _ {C E : Type 0} (A : Automaton C E) (hold : C → C) (h : Holding A hold) where
  abbrev B : Automaton C E
  B = held_at hold A

  hold_entering : (p : ℕ) → hold_state hold (entering A p) ≡ entering B p
  hold_entering p = λ i. record { len = 0; entered = Bool.true; place = p; clocks = h.of_zeros i }

  hold_stayed : (s : State C) → hold_state hold (stayed A s) ≡ stayed B (hold_state hold s)
  hold_stayed s = λ i.
      record { len = suc s.len; entered = Bool.false; place = s.place; clocks = sym (h.of_tick s.clocks) i }

  hold_taken : (s : State C) (e : E) → Memᴰ e A.edges → hold_state hold (taken A e s) ≡ taken B e (hold_state hold s)
  hold_taken s e m = λ i.
      record {
        len = suc s.len;
        entered = Bool.true;
        place = A.target e;
        clocks = (h.of_reset e m (A.tick s.clocks) ∙ ap (A.reset e) (sym (h.of_tick s.clocks))) i;
      }

  hold_guards : (s : State C) (e : E) → Memᴰ e A.edges → A.holds e (hold (A.tick (hold s.clocks))) ≡ A.holds e (A.tick s.clocks)
  hold_guards s e m = ap (A.holds e) (h.of_tick s.clocks) ∙ h.of_holds e m (A.tick s.clocks)

  hold_takes : (s : State C) (e : E) → Takes A s e → Takes B (hold_state hold s) e
  hold_takes s e k = record { known = k.known; fits = k.fits; guarded = rw (hold_guards s e k.known) k.guarded }

  takes_back : (s : State C) (e : E) → Takes B (hold_state hold s) e → Takes A s e
  takes_back s e k = record { known = k.known; fits = k.fits; guarded = rw (hold_guards s e k.known) at k.guarded }

  hold_move : {high : ℕ} {s x : State C} → Move A high s x → Move B high (hold_state hold s) (hold_state hold x)
  hold_move {high} {s} (stays l) = subst (Move B high (hold_state hold s)) (sym (hold_stayed s)) (stays l)
  hold_move {high} {s} (takes {e = e} l k) =
      subst (Move B high (hold_state hold s)) (sym (hold_taken s e k.known)) (takes l (hold_takes s e k))

  move_back : {high : ℕ} {s r y : State C} → hold_state hold s ≡ r → Move B high r y → (x : State C) × (hold_state hold x ≡ y) × Move A high s x
  move_back {high} {s} {r} {y} e m = go (subst (λ (q : State C). Move B high q y) (sym e) m)
    where
      go : {z : State C} → Move B high (hold_state hold s) z → (x : State C) × (hold_state hold x ≡ z) × Move A high s x
      go (stays l) = (stayed A s, hold_stayed s, stays l)
      go (takes {e = e} l k) = (taken A e s, hold_taken s e k.known, takes l (takes_back s e k))

  module _ {W : Type 0} (𝓦 : Weighting W) (Q : Same C) (𝓥 : View W) (high : ℕ) where
    abbrev Plain : ℕ → State C → W → Type 0
    Plain = Reach 𝓦 A 𝓥 high (opening 𝓦 A Q)

    abbrev Held : ℕ → State C → W → Type 0
    Held = Reach 𝓦 B 𝓥 high (opening 𝓦 B Q)

    -- the opening is seen, too
    begun : (p : ℕ) → T (A.is_start p) → Plain zero (entering A p) 𝓦.unit
    begun p k = held (opening-starts 𝓦 A Q p k)

    pub seen : {n : ℕ} {s : State C} {w : W} → Plain n s w → Held n (hold_state hold s) w
    seen (held {s = s} {w = w} e) =
        let k = opening-holds 𝓦 A Q s w e in
        let p : hold_state hold s ≡ entering B s.place = ap (hold_state hold) k.1 ∙ hold_entering s.place in
        rw (k.2, p) (held (opening-starts 𝓦 B Q s.place k.0))
    seen (begin {n = n} {p = p} k) =
        subst (λ (r : State C). Held (suc n) r 𝓦.unit) (sym (hold_entering p)) (begin k)
    seen (move r g m) = move (seen r) g (hold_move m)

    pub seen_back : {n : ℕ} {r : State C} {w : W} → Held n r w → (s : State C) × (hold_state hold s ≡ r) × Plain n s w
    seen_back (held {s = r} {w = w} e) =
        let k = opening-holds 𝓦 B Q r w e in
        (entering A r.place, hold_entering r.place ∙ sym k.1, rw k.2 (begun r.place k.0))
    seen_back (begin {p = p} k) = (entering A p, hold_entering p, begin k)
    seen_back (move {n = n} {s = r} {x = y} {w = w} {g = g} q e m) = go (seen_back q)
      where
        go : (s : State C) × (hold_state hold s ≡ r) × Plain n s w → (x : State C) × (hold_state hold x ≡ y) × Plain (suc n) x (𝓦.combine w g)
        go k =
            let j = move_back k.1 m in
            (j.0, j.1, move k.2 (subst (λ (z : State C). 𝓥 n z.entered z.place ≡ some g) (sym k.1) e) j.2)

pub held-walks : {W C E : Type 0} (𝓦 : Weighting W) (A : Automaton C E) (Q : Same C) (𝓥 : View W) (high : ℕ) → HeldWalks 𝓦 A Q 𝓥 high
held-walks 𝓦 A Q 𝓥 high hold h n r w = (
  λ k. subst (λ (y : State _). Reach 𝓦 (held_at hold A) 𝓥 high (opening 𝓦 (held_at hold A) Q) n y w) k.1 (seen A hold h 𝓦 Q 𝓥 high k.2),
  λ k. seen_back A hold h 𝓦 Q 𝓥 high k,
)
