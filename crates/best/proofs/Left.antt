-- The tables that are left: those of feeding the whole record.
use Prim.Native.Nat.{ℕ, zero, suc, ◌+◌, ◌-◌, ◌*◌, ◌≤◌}
use native.Mathlib.Nat.{suc-mul}
use native.Mathlib.Omega.{arith}
use mathlib.Core.Path.{◌≡◌, refl, sym, ap, subst, ◌∙◌}
use mathlib.Core.List.{List, [], ◌∷◌, ◌++◌, map, append_assoc, append-nil}
use mathlib.Core.Option.{Option, none}
use mathlib.Core.Bool.{Bool, true, false, cond}
use borrow.Author.Tests.{leb-true, ltb-true, ltb-false, eq-eqb, le-leb, le-ltb}
use lib.Dec.{leb, ltb}
use lib.ListN.{length, take, drop, replicate, length-append, length-replicate, length-take, length-drop, replicate-append-replicate}
use lib.IntN.{ℤ, pos}
use Rattle.pattern.specs.declared.Pattern.{Pattern}
use Rattle.pattern.specs.declared.Refusal.{Refusal}
use Rattle.pattern.specs.Slots.{all}
use Rattle.pattern.specs.Distance.{Sample}
use Rattle.record.specs.Record.{Book, ticks_of, pieces_of, book_of, total, value_in_range}
use Rattle.pattern.proofs.SoundLaws.{both}
use Rattle.record.proofs.ListLaws.{all_take, all_drop}
use Rattle.record.proofs.RecordLaws.{parts}
use Rattle.monitor.specs.declared.State.{State}
use Rattle.book.specs.View.{view_of}
use Rattle.monitor.specs.Cells.{written}
use Rattle.monitor.specs.Tick.{open_table, ticks_later}
use Rattle.monitor.specs.Open.{unless_refused, marks, open_state, open_first, open_second}
use Rattle.monitor.specs.Feed.{Call, piece_broken, table_after, feed_state, feed_first, feed_second}
use Rattle.monitor.specs.Demand.{refusal_by, book_after}
use Rattle.monitor.proofs.Written.{written_again, written_same, marks_again}
use Rattle.monitor.proofs.Between.{Fine, Between, book_table, next, next-length, ticks-in}
use Rattle.monitor.proofs.Demand.{feed_given, after, opened}
use Rattle.best.specs.Claims.{cut_in, call_for, whole_record, first_after, second_after, TablesLeft}
use Rattle.best.proofs.Whole.{causes}

module _ (p : Pattern) where
  -- ---- a piece fed in pieces

  accepted : (b : Book) (x : Sample) (d : ℕ) → Fine p x → 1 ≤ d → d ≤ 65535 → length b + d ≤ 2147483647 → refusal_by p b (call_for x d) ≡ none
  unfolding refusal_by piece_broken
  accepted b x d fine some-ticks short room =
      rw (le-leb 1 d some-ticks, le-leb d 65535 short, eq-eqb (length x) p.channels fine.0, fine.1, le-ltb 2147483647 (length b + d) room, length-replicate d (pos 0), length-replicate {A = ℕ} d 0, le-ltb d d (omega arith))

  -- ---- what stands between the calls, by what was lent first

  module _ (t₀ u₀ : List ℤ) where
    record Standing (b : Book) (s : State) (t u : List ℤ) : Type 0 where
      between : Between p b s t u
      first : t ≡ written p (book_table p b) t₀
      second : u ≡ marks p u₀

    -- a call that is accepted
    standing_on : (b : Book) (s : State) (t u : List ℤ) (c : Call) → refusal_by p b c ≡ none → Standing b s t u
        → Standing (b ++ replicate c.duration c.values) (feed_state p s t u c) (feed_first p s t u c) (feed_second p s t u c)
    standing_on b s t u c none_given h =
        let given = feed_given p b s t u h.between c none_given in
        let n = next p b s t u h.between c none_given in
        let long = next-length p b s t u h.between c none_given in
        let book : book_after p b c ≡ n = ap (λ (o : Option Refusal). unless_refused o n b) none_given in
        record {
          between = subst (λ (q : Book). Between p q (feed_state p s t u c) (feed_first p s t u c) (feed_second p s t u c)) book (after p b s t u h.between c);
          first =
              ap (λ (o : Option Refusal). unless_refused o (written p (table_after p s t c.values c.duration) t) t) given
              ∙ written_same p _ _ t (λ x m. ticks-in p b s t u h.between c none_given c.duration (omega arith) x m)
              ∙ ap (λ (k : ℕ). written p (ticks_later p (view_of p n) (open_table p) k) t) (sym long)
              ∙ ap (written p (book_table p n)) h.first
              ∙ written_again p (book_table p n) (book_table p b) t₀;
          second = ap (λ (o : Option Refusal). unless_refused o (marks p u) u) given ∙ ap (marks p) h.second ∙ marks_again p u₀;
        }

    -- what some calls leave is what is due after the book B
    abbrev Ends : Book → State → (first second : List ℤ) → List Call → Type 0
    Ends B s t u cs = (first_after p s t u cs ≡ written p (book_table p B) t₀) × (second_after p s t u cs ≡ marks p u₀)

    -- a piece in pieces, and then other calls
    piece_then : (x : Sample) → Fine p x → (cs : List Call) (B : Book) (most d : ℕ) (b : Book) (s : State) (t u : List ℤ)
        → d ≤ most → 1 ≤ d → length b + d ≤ 2147483647 → Standing b s t u
        → ((s' : State) (t' u' : List ℤ) → Standing (b ++ replicate d x) s' t' u' → Ends B s' t' u' cs)
        → Ends B s t u (map (call_for x) (cut_in most d) ++ cs)
    unfolding cut_in
    piece_then x fine cs B zero d b s t u low some-ticks room h k = absurd (omega arith)
    piece_then x fine cs B (suc most) d b s t u low some-ticks room h k =
        by (ltb 65535 d) refl (piece_then x fine cs B most (d - 65535) (b ++ replicate 65535 x))
      where
        by : (y : Bool) → ltb 65535 d ≡ y
            → ((s' : State) (t' u' : List ℤ) → d - 65535 ≤ most → 1 ≤ d - 65535 → length (b ++ replicate 65535 x) + (d - 65535) ≤ 2147483647 → Standing (b ++ replicate 65535 x) s' t' u'
            → ((s'' : State) (t'' u'' : List ℤ) → Standing ((b ++ replicate 65535 x) ++ replicate (d - 65535) x) s'' t'' u'' → Ends B s'' t'' u'' cs)
            → Ends B s' t' u' (map (call_for x) (cut_in most (d - 65535)) ++ cs))
            → Ends B s t u (map (call_for x) (cond y (65535 ∷ cut_in most (d - 65535)) (d ∷ [])) ++ cs)
        by true e again =
            let l = ltb-true 65535 d e in
            let c = call_for x 65535 in
            let long : length (b ++ replicate 65535 x) ≡ length b + 65535 = length-append b (replicate 65535 x) ∙ ap (λ (n : ℕ). length b + n) (length-replicate 65535 x) in
            let all_of : (b ++ replicate 65535 x) ++ replicate (d - 65535) x ≡ b ++ replicate d x =
            append_assoc b (replicate 65535 x) (replicate (d - 65535) x)
            ∙ ap (◌++◌ b) (replicate-append-replicate 65535 (d - 65535) x ∙ (let z : 65535 + (d - 65535) ≡ d = omega arith in ap (λ (n : ℕ). replicate n x) z)) in
            again (feed_state p s t u c) (feed_first p s t u c) (feed_second p s t u c) (omega arith) (omega arith) (omega arith)
            (standing_on b s t u c (accepted b x 65535 fine (omega arith) (omega arith) (omega arith)) h)
            (λ s'' t'' u'' g. k s'' t'' u'' (subst (λ (q : Book). Standing q s'' t'' u'') all_of g))
        by false e again =
            let l = ltb-false 65535 d e in
            let c = call_for x d in
            k (feed_state p s t u c) (feed_first p s t u c) (feed_second p s t u c)
            (standing_on b s t u c (accepted b x d fine some-ticks l room) h)

    -- ---- the whole record

    record_ends : (ds : List ℕ) (vs : List ℤ) (b : Book) (s : State) (t u : List ℤ) → length vs ≡ length ds * p.channels → all value_in_range vs ≡ true → all (leb 1) ds ≡ true
        → length b + total ds ≤ 2147483647 → Standing b s t u
        → Ends (b ++ ticks_of (pieces_of p.channels ds vs)) s t u (whole_record (pieces_of p.channels ds vs))
    unfolding ticks_of pieces_of total whole_record
    record_ends [] vs b s t u agree values lasting room h = (h.first ∙ ap (λ (q : Book). written p (book_table p q) t₀) (sym (append-nil b)), h.second)
    record_ends (d ∷ ds) vs b s t u agree values lasting room h =
        let n = p.channels in
        let x = take n vs in
        let m = suc-mul (length ds) n in
        let l = length-take n vs in
        let g = length-drop n vs in
        let q = both (leb 1 d) (all (leb 1) ds) lasting in
        let long : length (b ++ replicate d x) ≡ length b + d = length-append b (replicate d x) ∙ ap (λ (k : ℕ). length b + k) (length-replicate d x) in
        piece_then x (omega arith, all_take value_in_range n vs values) (whole_record (pieces_of n ds (drop n vs))) (b ++ (replicate d x ++ ticks_of (pieces_of n ds (drop n vs)))) d d b s t u
        (omega arith) (leb-true 1 d q.0) (omega arith) h
        (λ s' t' u' k. subst (λ (w : Book). Ends w s' t' u' (whole_record (pieces_of n ds (drop n vs)))) (append_assoc b (replicate d x) (ticks_of (pieces_of n ds (drop n vs))))
        (record_ends ds (drop n vs) (b ++ replicate d x) s' t' u' (omega arith) (all_drop value_in_range n vs values) q.1 (omega arith) k))

pub tables-left : TablesLeft
unfolding book_of
tables-left p ds vs t u none_given s =
    let k = causes p ds vs (length t) (length u) none_given in
    let r = parts p.channels ds vs k.0 in
    let room : length {A = Sample} [] + total ds ≤ 2147483647 = let q = r.short in omega arith in
    let start : Standing p t u [] (open_state p t u s) (open_first p t u) (open_second p t u) =
    record { between = opened p s t u k.1; first = rw k.1; second = rw k.1 } in
    let e = record_ends p t u ds vs [] (open_state p t u s) (open_first p t u) (open_second p t u) r.agree r.values r.lasting room start in
    (rw none_given (sym e.0), rw none_given (sym e.1))
