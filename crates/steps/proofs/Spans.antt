-- What a step means: the spans are what the guards ask, and the step made of an edge does what the edge does.
use Prim.Native.Nat.{ℕ, zero, suc, ◌+◌, ◌≤◌, ◌<◌, min, max}
use native.Mathlib.Omega.{arith}
use mathlib.Core.Path.{◌≡◌, refl, sym, ap, ap₂, ◌∙◌}
use mathlib.Core.Bool.{Bool, true, false, cond, ◌&&◌, and-true}
use mathlib.Core.List.{List, [], ◌∷◌, zip_with}
use borrow.Author.Tests.{ltb-true, leb-true, lt-ltb, le-leb, eqb-true, eqb-false}
use lib.Dec.{eqb, leb, ltb}
use lib.ListN.{length, get_or, set, take}
use lib.Seq.{get_or-set_same, get_or-set_other}
use Rattle.std.specs.List.{fold, zip}
use Rattle.integers.proofs.Tests.{both_true}
use Rattle.pattern.specs.declared.Sign.{Sign}
use Rattle.pattern.specs.declared.Sign.TheVariants.{Less, AtMost, More, AtLeast}
use Rattle.pattern.specs.declared.Guard.{Guard}
use Rattle.pattern.specs.declared.Edge.{Edge}
use Rattle.pattern.specs.Slots.{all}
use Rattle.pattern.specs.InUse.{guards_of}
use Rattle.pattern.specs.Sound.{no_guard}
use Rattle.pattern.specs.Clocks.{Clocks, clock_at, on_side, guard_holds, guards_hold, after_resets}
use Rattle.pattern.proofs.ListLaws.{take-in_use, take_more}
use Rattle.pattern.proofs.SlotLaws.{all_snoc}
use Rattle.pattern.proofs.SoundLaws.{both}
use Rattle.steps.specs.declared.Span.{Span}
use Rattle.steps.specs.declared.Step.{Step}
use Rattle.steps.specs.Steps.{edge_in, step_in, in_span, Fit, StepOf, Steps}
use Rattle.steps.specs.Made.{narrowed, narrowed_on, span_of, step_of}

pub span_more : (e : Edge) (k n : ℕ) → narrowed_on k (get_or e.guards n no_guard) (span_of e k n) ≡ span_of e k (n + 1)
unfolding span_of
span_more e k n =
    let up : suc n ≡ n + 1 = omega arith in
    ap (span_of e k) up

-- ---- a span narrowed by a guard

-- two tests with the same true cases are the same
same_test : (a b : Bool) → (a ≡ true → b ≡ true) → (b ≡ true → a ≡ true) → a ≡ b
same_test true b f g = sym (f refl)
same_test false true f g = g refl
same_test false false f g = refl

lt-min : (x a b : ℕ) → ltb x (min a b) ≡ ltb x a && ltb x b
lt-min x a b =
    same_test (ltb x (min a b)) (ltb x a && ltb x b)
    (λ e. let h = ltb-true x (min a b) e in both_true (ltb x a) (ltb x b) (lt-ltb x a (omega arith)) (lt-ltb x b (omega arith)))
    (λ e. let h = both (ltb x a) (ltb x b) e in let p = ltb-true x a h.0 in let q = ltb-true x b h.1 in lt-ltb x (min a b) (omega arith))

max-le : (x a b : ℕ) → leb (max a b) x ≡ leb a x && leb b x
max-le x a b =
    same_test (leb (max a b) x) (leb a x && leb b x)
    (λ e. let h = leb-true (max a b) x e in both_true (leb a x) (leb b x) (le-leb a x (omega arith)) (le-leb b x (omega arith)))
    (λ e. let h = both (leb a x) (leb b x) e in let p = leb-true a x h.0 in let q = leb-true b x h.1 in le-leb (max a b) x (omega arith))

lt-next : (x b : ℕ) → ltb x (b + 1) ≡ leb x b
lt-next x b =
    same_test (ltb x (b + 1)) (leb x b)
    (λ e. let h = ltb-true x (b + 1) e in le-leb x b (omega arith))
    (λ e. let h = leb-true x b e in lt-ltb x (b + 1) (omega arith))

next_le : (x b : ℕ) → leb (b + 1) x ≡ ltb b x
next_le x b =
    same_test (leb (b + 1) x) (ltb b x)
    (λ e. let h = leb-true (b + 1) x e in lt-ltb b x (omega arith))
    (λ e. let h = ltb-true b x e in le-leb (b + 1) x (omega arith))

and_last : (a b c : Bool) → a && (b && c) ≡ (a && b) && c
and_last true b c = refl
and_last false b c = refl

and-swap : (a b c : Bool) → (a && c) && b ≡ (a && b) && c
and-swap true true c = and-true c
and-swap true false true = refl
and-swap true false false = refl
and-swap false b c = refl

-- what a guard asks of clock k with value x: nothing if it is about another clock
abbrev guard_on : (k x : ℕ) → Guard → Bool
guard_on k x g = cond (eqb g.clock k) (on_side g.sign x g.bound) true

narrowed-in : (s : Span) (sign : Sign) (b x : ℕ) → in_span (narrowed s sign b) x ≡ in_span s x && on_side sign x b
narrowed-in s Less b x = ap (λ (t : Bool). leb s.low x && t) (lt-min x s.upto b) ∙ and_last (leb s.low x) (ltb x s.upto) (ltb x b)
narrowed-in s AtMost b x = ap (λ (t : Bool). leb s.low x && t) (lt-min x s.upto (b + 1) ∙ ap (λ (t : Bool). ltb x s.upto && t) (lt-next x b)) ∙ and_last (leb s.low x) (ltb x s.upto) (leb x b)
narrowed-in s More b x = ap (λ (t : Bool). t && ltb x s.upto) (max-le x s.low (b + 1) ∙ ap (λ (t : Bool). leb s.low x && t) (next_le x b)) ∙ and-swap (leb s.low x) (ltb x s.upto) (ltb b x)
narrowed-in s AtLeast b x = ap (λ (t : Bool). t && ltb x s.upto) (max-le x s.low b) ∙ and-swap (leb s.low x) (ltb x s.upto) (leb b x)

on_in : (k x : ℕ) (g : Guard) (s : Span) → in_span (narrowed_on k g s) x ≡ in_span s x && guard_on k x g
on_in k x g s = by (eqb g.clock k)
  where
    by : (t : Bool) → in_span (cond t (narrowed s g.sign g.bound) s) x ≡ in_span s x && cond t (on_side g.sign x g.bound) true
    by true = narrowed-in s g.sign g.bound x
    by false = sym (and-true _)

-- the span that n guards leave has the values that they ask for
span_in : (e : Edge) (k x n : ℕ) → x < 65536 → n ≤ length e.guards → in_span (span_of e k n) x ≡ all (guard_on k x) (take n e.guards)
unfolding span_of
span_in e k x zero small few = both_true (leb 0 x) (ltb x 65536) (le-leb 0 x (omega arith)) (lt-ltb x 65536 small)
span_in e k x (suc n) small few =
    let up : n + 1 ≡ suc n = omega arith in
    on_in k x (get_or e.guards n no_guard) (span_of e k n)
    ∙ ap (λ (t : Bool). t && guard_on k x (get_or e.guards n no_guard)) (span_in e k x n small (omega arith))
    ∙ sym (all_snoc (guard_on k x) (take n e.guards) (get_or e.guards n no_guard))
    ∙ ap (all (guard_on k x)) (sym (take_more n e.guards no_guard (omega arith)) ∙ ap (λ (m : ℕ). take m e.guards) up)

-- ---- all four clocks

and_pull : (a h r : Bool) → a && (h && r) ≡ h && (a && r)
and_pull true h r = refl
and_pull false true r = refl
and_pull false false r = refl

module _ (cs : Clocks) where
  -- what the guards ask of clock k
  abbrev on : ℕ → List Guard → Bool
  on k gs = all (guard_on k (clock_at cs k)) gs

  -- guards about four clocks hold if each clock has what they ask of it
  four-clocks : (gs : List Guard) → all (λ g. ltb g.clock 4) gs ≡ true → on 0 gs && (on 1 gs && (on 2 gs && on 3 gs)) ≡ all (guard_holds cs) gs
  four-clocks [] h = refl
  four-clocks (g ∷ gs) h = by (eqb g.clock 0) refl (eqb g.clock 1) refl (eqb g.clock 2) refl ∙ ap (λ (t : Bool). guard_holds cs g && t) (four-clocks gs few.1)
    where
      few : (ltb g.clock 4 ≡ true) × (all (λ f. ltb f.clock 4) gs ≡ true)
      few = both (ltb g.clock 4) (all (λ f. ltb f.clock 4) gs) h

      Goal : Type 0
      Goal = on 0 (g ∷ gs) && (on 1 (g ∷ gs) && (on 2 (g ∷ gs) && on 3 (g ∷ gs))) ≡ guard_holds cs g && (on 0 gs && (on 1 gs && (on 2 gs && on 3 gs)))

      by : (a : Bool) → eqb g.clock 0 ≡ a → (b : Bool) → eqb g.clock 1 ≡ b → (c : Bool) → eqb g.clock 2 ≡ c → Goal
      by true p b q c r =
          let e : g.clock ≡ 0 = eqb-true g.clock 0 p in
          rw e (sym (and_last (on_side g.sign (clock_at cs 0) g.bound) (on 0 gs) (on 1 gs && (on 2 gs && on 3 gs))))
      by false p true q c r =
          let e : g.clock ≡ 1 = eqb-true g.clock 1 q in
          let o = on_side g.sign (clock_at cs 1) g.bound in
          rw e (ap (λ (t : Bool). on 0 gs && t) (sym (and_last o (on 1 gs) (on 2 gs && on 3 gs))) ∙ and_pull (on 0 gs) o (on 1 gs && (on 2 gs && on 3 gs)))
      by false p false q true r =
          let e : g.clock ≡ 2 = eqb-true g.clock 2 r in
          let o = on_side g.sign (clock_at cs 2) g.bound in
          rw e (ap (λ (t : Bool). on 0 gs && (on 1 gs && t)) (sym (and_last o (on 2 gs) (on 3 gs))) ∙ ap (λ (t : Bool). on 0 gs && t) (and_pull (on 1 gs) o (on 2 gs && on 3 gs)) ∙ and_pull (on 0 gs) o (on 1 gs && (on 2 gs && on 3 gs)))
      by false p false q false r =
          let x = ltb-true g.clock 4 few.0 in
          let y = eqb-false g.clock 0 p in
          let z = eqb-false g.clock 1 q in
          let w = eqb-false g.clock 2 r in
          let e : g.clock ≡ 3 = omega arith in
          let o = on_side g.sign (clock_at cs 3) g.bound in
          rw e (ap (λ (t : Bool). on 0 gs && (on 1 gs && t)) (and_pull (on 2 gs) o (on 3 gs)) ∙ ap (λ (t : Bool). on 0 gs && t) (and_pull (on 1 gs) o (on 2 gs && on 3 gs)) ∙ and_pull (on 0 gs) o (on 1 gs && (on 2 gs && on 3 gs)))

-- ---- the step of an edge

four_are : {A : Type 0} (xs : List A) (d : A) → length xs ≡ 4 → xs ≡ get_or xs 0 d ∷ get_or xs 1 d ∷ get_or xs 2 d ∷ get_or xs 3 d ∷ []
four_are [] d e = absurd (let z : ◌≡◌ {A = ℕ} 0 4 = e in omega arith)
four_are (a ∷ []) d e = absurd (let z : ◌≡◌ {A = ℕ} 1 4 = e in omega arith)
four_are (a ∷ b ∷ []) d e = absurd (let z : ◌≡◌ {A = ℕ} 2 4 = e in omega arith)
four_are (a ∷ b ∷ c ∷ []) d e = absurd (let z : ◌≡◌ {A = ℕ} 3 4 = e in omega arith)
four_are (a ∷ b ∷ c ∷ f ∷ []) d e = refl
four_are (a ∷ b ∷ c ∷ f ∷ g ∷ xs) d e = absurd (let z : suc (suc (suc (suc (suc (length xs))))) ≡ 4 = e in omega arith)

-- four tests one after the other
four_tests : (a b c d : Bool) → ((a && b) && c) && d ≡ a && (b && (c && (d && true)))
four_tests a b c d = sym (ap (λ (t : Bool). a && (b && (c && t))) (and-true d) ∙ and_last a b (c && d) ∙ and_last (a && b) c d)

pub four_held : (ss : List Span) (cs : Clocks) (s : Span) → length ss ≡ 4 → length cs ≡ 4
    → fold (λ (b : Bool) (p : Span × ℕ). b && in_span p.0 p.1) true (zip ss cs)
    ≡ in_span (get_or ss 0 s) (get_or cs 0 0) && (in_span (get_or ss 1 s) (get_or cs 1 0) && (in_span (get_or ss 2 s) (get_or cs 2 0) && (in_span (get_or ss 3 s) (get_or cs 3 0) && true)))
four_held ss cs s e f =
    rw (four_are ss s e, four_are cs 0 f)
    (four_tests (in_span (get_or ss 0 s) (get_or cs 0 0)) (in_span (get_or ss 1 s) (get_or cs 1 0)) (in_span (get_or ss 2 s) (get_or cs 2 0)) (in_span (get_or ss 3 s) (get_or cs 3 0)))

-- the step made of an edge is a step of it
step-made : (e : Edge) → Fit e → StepOf e (step_of e)
unfolding guards_hold after_resets zip_with
step-made e fit =
    record {
      leads = refl;
      goes = λ cs small.
          let n = min e.count 4 in
          let few : n ≤ length e.guards = (let y = fit.guards in omega arith) in
          ap₂ ◌&&◌ (span_in e 0 (clock_at cs 0) n (small 0 (omega arith)) few)
          (ap₂ ◌&&◌ (span_in e 1 (clock_at cs 1) n (small 1 (omega arith)) few)
          (ap₂ ◌&&◌ (span_in e 2 (clock_at cs 2) n (small 2 (omega arith)) few)
          (and-true _ ∙ span_in e 3 (clock_at cs 3) n (small 3 (omega arith)) few)))
          ∙ ap (λ (gs : List Guard). on cs 0 gs && (on cs 1 gs && (on cs 2 gs && on cs 3 gs))) (take-in_use e.count 4 e.guards fit.guards)
          ∙ four-clocks cs (guards_of e) fit.clocks;
      after = λ cs four.
          sym (ap₂ (λ (rs : List Bool) (xs : Clocks). zip_with (λ reset c. cond reset 0 c) rs xs) (four_are e.resets false fit.resets) (four_are cs 0 four));
    }

-- step k as well as those before it
pub written-more : (ss : List Step) (es : List Edge) (k : ℕ) (v : Step) → k < length ss → v ≡ step_of (edge_in es k) → ((j : ℕ) → j < k → step_in ss j ≡ step_of (edge_in es j)) → (j : ℕ) → j < k + 1 → step_in (set ss k v) j ≡ step_of (edge_in es j)
written-more ss es k v low is h j small = by (eqb j k) refl
  where
    by : (b : Bool) → eqb j k ≡ b → step_in (set ss k v) j ≡ step_of (edge_in es j)
    by true e =
        let q : j ≡ k = eqb-true j k e in
        rw q (get_or-set_same ss k v _ low ∙ is)
    by false e =
        let q = eqb-false j k e in
        get_or-set_other ss k j v _ q ∙ h j (omega arith)

pub steps-made : (es : List Edge) (count : ℕ) (ss : List Step) → ((i : ℕ) → i < count → Fit (edge_in es i)) → ((i : ℕ) → i < count → step_in ss i ≡ step_of (edge_in es i)) → Steps es count ss
steps-made es count ss fit is =
    record { at = λ i low. rw (is i low) (step-made (edge_in es i) (fit i low)) }
