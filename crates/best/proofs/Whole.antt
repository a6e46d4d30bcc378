-- Opening, and then the whole record: from the causes to the tables that are left.
use Prim.Native.Nat.{ℕ, ◌≤◌}
use mathlib.Core.Path.{◌≡◌, sym, ap, ◌∙◌}
use mathlib.Core.List.{List, [], ◌∷◌}
use mathlib.Core.Option.{none}
use mathlib.Core.Bool.{Bool, true, not}
use borrow.Author.Tests.{not-false}
use lib.ListN.{length}
use lib.IntN.{ℤ}
use Rattle.pattern.specs.declared.Pattern.{Pattern}
use Rattle.pattern.specs.declared.Refusal.{Refusal}
use Rattle.pattern.specs.declared.Refusal.TheVariants.{UnsoundPattern, BrokenRecord, TableTooShort}
use Rattle.pattern.specs.Sound.{sound_of}
use Rattle.pattern.specs.Cells.{cells_needed}
use Rattle.record.specs.Record.{Book, total, record_sound, book_of}
use Rattle.book.specs.View.{before}
use Rattle.flags.specs.Flags.{Flagged}
use Rattle.monitor.specs.Cells.{layout, written}
use Rattle.monitor.specs.Tick.{open_table}
use Rattle.monitor.specs.State.{no_ticks}
use Rattle.monitor.specs.Open.{table_too_short, marks, open_refusal, open_first, open_second}
use Rattle.monitor.proofs.Written.{written_again, marks_again}
use Rattle.monitor.proofs.Accepted.{no_cause}
use Rattle.monitor.proofs.Demand.{open_parts, fresh}
use Rattle.best.specs.declared.Search.{Search}
use Rattle.best.specs.Best.{chosen_to, best_refusal, best_first, best_second}
use Rattle.best.specs.Search.{table_to, chosen_in, Fit}
use Rattle.best.proofs.Pieces.{book-long}

module _ (p : Pattern) (ds : List ℕ) (vs : List ℤ) where
  abbrev B : Book
  B = book_of p.channels ds vs

  -- no cause: 8 does not hold, and an opening is not refused
  pub causes : (first second : ℕ) → best_refusal p ds vs first second ≡ none → (record_sound p.channels ds vs ≡ true) × (open_refusal p first second ≡ none)
  unfolding best_refusal open_refusal
  causes first second e =
      let third : List (Bool × Refusal) = (table_too_short p first second, TableTooShort) ∷ [] in
      let one = no_cause (not (sound_of p)) UnsoundPattern ((not (record_sound p.channels ds vs), BrokenRecord) ∷ third) e in
      let two = no_cause (not (record_sound p.channels ds vs)) BrokenRecord third one.1 in
      (not-false (record_sound p.channels ds vs) two.0, rw one.0 two.1)

  -- a sound pattern and record are refused as an opening is
  pub as-opening : (first second : ℕ) → sound_of p ≡ true → record_sound p.channels ds vs ≡ true → best_refusal p ds vs first second ≡ open_refusal p first second
  unfolding best_refusal open_refusal
  as-opening first second sound fits = rw (sound, fits)

  module _ (t u : List ℤ) (none_given : best_refusal p ds vs (length t) (length u) ≡ none) where
    opens : open_refusal p (length t) (length u) ≡ none
    opens = (causes (length t) (length u) none_given).1

    -- after the opening nothing was fed
    pub fit : (s : Search) → s.state ≡ no_ticks → chosen_in s.choice ≡ none → Fit p ds vs 0 s (open_first p t u)
    unfolding total chosen_to before
    fit s state choice =
        let k = open_parts p (length t) (length u) opens in
        let h = fresh p t u k in
        rw opens
        (record {
          sound = k.0;
          fits = (causes (length t) (length u) none_given).0;
          searched = (state ∙ ap (λ (l : List ℤ). record { ticks = 0; last = l }) h.last, choice);
          first_long = h.first_long;
          first = sym (written_again p (open_table p) (open_table p) t);
        })

    -- the flags of an opened table are right for the first
    pub flagged : (f : List ℕ) → ((x : List ℤ) → cells_needed p ≤ length x → Flagged (layout p) (written p (open_table p) x) f)
        → Flagged (layout p) (open_first p t u) f
    flagged f h = rw opens (h t (open_parts p (length t) (length u) opens).1)

    pub is-sound : sound_of p ≡ true
    is-sound = (open_parts p (length t) (length u) opens).0

    -- the second table holds marks, and is as long as it was
    pub second_open : (cells_needed p ≤ length (open_second p t u)) × (open_second p t u ≡ marks p (open_second p t u))
    second_open =
        let h = fresh p t u (open_parts p (length t) (length u) opens) in
        rw opens (h.second_long, sym (marks_again p u))

    -- what is left
    pub first-left : (t' : List ℤ) → t' ≡ written p (table_to p B (total ds)) (open_first p t u) → t' ≡ best_first p ds vs t u
    first-left t' e =
        e ∙ rw (opens, none_given) (written_again p (table_to p B (total ds)) (open_table p) t ∙ ap (λ (n : ℕ). written p (table_to p B n) t) (sym (book-long p p.channels ds vs)))

    pub second-left : open_second p t u ≡ best_second p ds vs t u
    second-left = rw (opens, none_given)
