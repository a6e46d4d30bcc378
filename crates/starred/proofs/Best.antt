-- What each run of document 01's pattern on its record is worth, and the best at each end.
use native.Mathlib.Omega.{arith}
use mathlib.Core.Path.{◌≡◌, refl}
use mathlib.Core.List.{zip_with}
use mathlib.Core.Option.{some}
use lib.IntN.{pos, negsuc}
use Rattle.integers.specs.Least.{min_z}
use Rattle.weighting.specs.declared.Weighing.TheVariants.{Margin, Sum}
use Rattle.weighting.specs.Weighting.{combine_from}
use Rattle.pattern.specs.Clocks.{guards_hold, after_resets}
use Rattle.pattern.specs.Distance.{place_worth, distances_of}
use Rattle.record.specs.Record.{book_of, pieces_of, sample_at, ticks_of}
use Rattle.record.specs.Joined.{agrees, absorb, joined, observed}
use Rattle.record.specs.Run.{can_step, goes, is_run, length_of}
use Rattle.record.specs.Worth.{stay_worth, stay_worths, run_worth, price_of}
use Rattle.monitor.specs.Demand.{InWindow, BestRun}
use Rattle.pattern_text.specs.Example.{example}
use Rattle.record_text.specs.Text.{durations_of, values_of}
use Rattle.starred.specs.Example.{book}
use Rattle.starred.proofs.Runs.{two}
use Rattle.starred.proofs.Ends.{looked, too_long_lem, best_run, good}

margin-0_1_1 : price_of (example Margin) book 0 (two 1 1) ≡ some (pos 5)
unfolding durations_of values_of zip_with combine_from place_worth distances_of book_of pieces_of sample_at ticks_of agrees absorb joined observed can_step goes is_run length_of stay_worth stay_worths run_worth price_of guards_hold after_resets min_z
margin-0_1_1 = refl

margin_1_1_1 : price_of (example Margin) book 1 (two 1 1) ≡ some (pos 5)
unfolding durations_of values_of zip_with combine_from place_worth distances_of book_of pieces_of sample_at ticks_of agrees absorb joined observed can_step goes is_run length_of stay_worth stay_worths run_worth price_of guards_hold after_resets min_z
margin_1_1_1 = refl

margin-0_1_2 : price_of (example Margin) book 0 (two 1 2) ≡ some (pos 5)
unfolding durations_of values_of zip_with combine_from place_worth distances_of book_of pieces_of sample_at ticks_of agrees absorb joined observed can_step goes is_run length_of stay_worth stay_worths run_worth price_of guards_hold after_resets min_z
margin-0_1_2 = refl

margin-0-2_1 : price_of (example Margin) book 0 (two 2 1) ≡ some (pos 5)
unfolding durations_of values_of zip_with combine_from place_worth distances_of book_of pieces_of sample_at ticks_of agrees absorb joined observed can_step goes is_run length_of stay_worth stay_worths run_worth price_of guards_hold after_resets min_z
margin-0-2_1 = refl

margin-2_1_1 : price_of (example Margin) book 2 (two 1 1) ≡ some (negsuc 24)
unfolding durations_of values_of zip_with combine_from place_worth distances_of book_of pieces_of sample_at ticks_of agrees absorb joined observed can_step goes is_run length_of stay_worth stay_worths run_worth price_of guards_hold after_resets min_z
margin-2_1_1 = refl

margin_1_1_2 : price_of (example Margin) book 1 (two 1 2) ≡ some (pos 5)
unfolding durations_of values_of zip_with combine_from place_worth distances_of book_of pieces_of sample_at ticks_of agrees absorb joined observed can_step goes is_run length_of stay_worth stay_worths run_worth price_of guards_hold after_resets min_z
margin_1_1_2 = refl

margin_1_2_1 : price_of (example Margin) book 1 (two 2 1) ≡ some (negsuc 24)
unfolding durations_of values_of zip_with combine_from place_worth distances_of book_of pieces_of sample_at ticks_of agrees absorb joined observed can_step goes is_run length_of stay_worth stay_worths run_worth price_of guards_hold after_resets min_z
margin_1_2_1 = refl

margin-0-2-2 : price_of (example Margin) book 0 (two 2 2) ≡ some (pos 5)
unfolding durations_of values_of zip_with combine_from place_worth distances_of book_of pieces_of sample_at ticks_of agrees absorb joined observed can_step goes is_run length_of stay_worth stay_worths run_worth price_of guards_hold after_resets min_z
margin-0-2-2 = refl

there-margin-2 : InWindow (example Margin) book 2 2 (pos 5)
unfolding length_of
there-margin-2 =
    record {
      begin = 0;
      run = record { steps = two 1 1; price = margin-0_1_1; lasts = refl; ends = refl };
      low = omega arith;
      high = omega arith;
    }

pub margin-end-2 : BestRun (example Margin) book 2 (pos 5) 2
margin-end-2 =
    best_run Margin 2 (pos 5) 2 there-margin-2
    (record {
      one_one = looked Margin 2 (good Margin (pos 5) 2) 1 1 0 (pos 5) refl margin-0_1_1 refl;
      one_two = too_long_lem Margin 2 (good Margin (pos 5) 2) 1 2 (omega arith);
      two_one = too_long_lem Margin 2 (good Margin (pos 5) 2) 2 1 (omega arith);
      two_two = too_long_lem Margin 2 (good Margin (pos 5) 2) 2 2 (omega arith);
    })

there-margin-3 : InWindow (example Margin) book 3 2 (pos 5)
unfolding length_of
there-margin-3 =
    record {
      begin = 1;
      run = record { steps = two 1 1; price = margin_1_1_1; lasts = refl; ends = refl };
      low = omega arith;
      high = omega arith;
    }

pub margin-end-3 : BestRun (example Margin) book 3 (pos 5) 2
margin-end-3 =
    best_run Margin 3 (pos 5) 2 there-margin-3
    (record {
      one_one = looked Margin 3 (good Margin (pos 5) 2) 1 1 1 (pos 5) refl margin_1_1_1 refl;
      one_two = looked Margin 3 (good Margin (pos 5) 2) 1 2 0 (pos 5) refl margin-0_1_2 refl;
      two_one = looked Margin 3 (good Margin (pos 5) 2) 2 1 0 (pos 5) refl margin-0-2_1 refl;
      two_two = too_long_lem Margin 3 (good Margin (pos 5) 2) 2 2 (omega arith);
    })

there-margin_4 : InWindow (example Margin) book 4 3 (pos 5)
unfolding length_of
there-margin_4 =
    record {
      begin = 1;
      run = record { steps = two 1 2; price = margin_1_1_2; lasts = refl; ends = refl };
      low = omega arith;
      high = omega arith;
    }

pub margin-end_4 : BestRun (example Margin) book 4 (pos 5) 3
margin-end_4 =
    best_run Margin 4 (pos 5) 3 there-margin_4
    (record {
      one_one = looked Margin 4 (good Margin (pos 5) 3) 1 1 2 (negsuc 24) refl margin-2_1_1 refl;
      one_two = looked Margin 4 (good Margin (pos 5) 3) 1 2 1 (pos 5) refl margin_1_1_2 refl;
      two_one = looked Margin 4 (good Margin (pos 5) 3) 2 1 1 (negsuc 24) refl margin_1_2_1 refl;
      two_two = looked Margin 4 (good Margin (pos 5) 3) 2 2 0 (pos 5) refl margin-0-2-2 refl;
    })

sum-0_1_1 : price_of (example Sum) book 0 (two 1 1) ≡ some (pos 10)
unfolding durations_of values_of zip_with combine_from place_worth distances_of book_of pieces_of sample_at ticks_of agrees absorb joined observed can_step goes is_run length_of stay_worth stay_worths run_worth price_of guards_hold after_resets min_z
sum-0_1_1 = refl

sum_1_1_1 : price_of (example Sum) book 1 (two 1 1) ≡ some (pos 40)
unfolding durations_of values_of zip_with combine_from place_worth distances_of book_of pieces_of sample_at ticks_of agrees absorb joined observed can_step goes is_run length_of stay_worth stay_worths run_worth price_of guards_hold after_resets min_z
sum_1_1_1 = refl

sum-0_1_2 : price_of (example Sum) book 0 (two 1 2) ≡ some (pos 45)
unfolding durations_of values_of zip_with combine_from place_worth distances_of book_of pieces_of sample_at ticks_of agrees absorb joined observed can_step goes is_run length_of stay_worth stay_worths run_worth price_of guards_hold after_resets min_z
sum-0_1_2 = refl

sum-0-2_1 : price_of (example Sum) book 0 (two 2 1) ≡ some (pos 40)
unfolding durations_of values_of zip_with combine_from place_worth distances_of book_of pieces_of sample_at ticks_of agrees absorb joined observed can_step goes is_run length_of stay_worth stay_worths run_worth price_of guards_hold after_resets min_z
sum-0-2_1 = refl

sum-2_1_1 : price_of (example Sum) book 2 (two 1 1) ≡ some (pos 10)
unfolding durations_of values_of zip_with combine_from place_worth distances_of book_of pieces_of sample_at ticks_of agrees absorb joined observed can_step goes is_run length_of stay_worth stay_worths run_worth price_of guards_hold after_resets min_z
sum-2_1_1 = refl

sum_1_1_2 : price_of (example Sum) book 1 (two 1 2) ≡ some (pos 40)
unfolding durations_of values_of zip_with combine_from place_worth distances_of book_of pieces_of sample_at ticks_of agrees absorb joined observed can_step goes is_run length_of stay_worth stay_worths run_worth price_of guards_hold after_resets min_z
sum_1_1_2 = refl

sum_1_2_1 : price_of (example Sum) book 1 (two 2 1) ≡ some (pos 15)
unfolding durations_of values_of zip_with combine_from place_worth distances_of book_of pieces_of sample_at ticks_of agrees absorb joined observed can_step goes is_run length_of stay_worth stay_worths run_worth price_of guards_hold after_resets min_z
sum_1_2_1 = refl

sum-0-2-2 : price_of (example Sum) book 0 (two 2 2) ≡ some (pos 40)
unfolding durations_of values_of zip_with combine_from place_worth distances_of book_of pieces_of sample_at ticks_of agrees absorb joined observed can_step goes is_run length_of stay_worth stay_worths run_worth price_of guards_hold after_resets min_z
sum-0-2-2 = refl

there-sum-2 : InWindow (example Sum) book 2 2 (pos 10)
unfolding length_of
there-sum-2 =
    record {
      begin = 0;
      run = record { steps = two 1 1; price = sum-0_1_1; lasts = refl; ends = refl };
      low = omega arith;
      high = omega arith;
    }

pub sum-end-2 : BestRun (example Sum) book 2 (pos 10) 2
sum-end-2 =
    best_run Sum 2 (pos 10) 2 there-sum-2
    (record {
      one_one = looked Sum 2 (good Sum (pos 10) 2) 1 1 0 (pos 10) refl sum-0_1_1 refl;
      one_two = too_long_lem Sum 2 (good Sum (pos 10) 2) 1 2 (omega arith);
      two_one = too_long_lem Sum 2 (good Sum (pos 10) 2) 2 1 (omega arith);
      two_two = too_long_lem Sum 2 (good Sum (pos 10) 2) 2 2 (omega arith);
    })

there-sum-3 : InWindow (example Sum) book 3 2 (pos 40)
unfolding length_of
there-sum-3 =
    record {
      begin = 1;
      run = record { steps = two 1 1; price = sum_1_1_1; lasts = refl; ends = refl };
      low = omega arith;
      high = omega arith;
    }

pub sum-end-3 : BestRun (example Sum) book 3 (pos 40) 2
sum-end-3 =
    best_run Sum 3 (pos 40) 2 there-sum-3
    (record {
      one_one = looked Sum 3 (good Sum (pos 40) 2) 1 1 1 (pos 40) refl sum_1_1_1 refl;
      one_two = looked Sum 3 (good Sum (pos 40) 2) 1 2 0 (pos 45) refl sum-0_1_2 refl;
      two_one = looked Sum 3 (good Sum (pos 40) 2) 2 1 0 (pos 40) refl sum-0-2_1 refl;
      two_two = too_long_lem Sum 3 (good Sum (pos 40) 2) 2 2 (omega arith);
    })

there-sum_4 : InWindow (example Sum) book 4 2 (pos 10)
unfolding length_of
there-sum_4 =
    record {
      begin = 2;
      run = record { steps = two 1 1; price = sum-2_1_1; lasts = refl; ends = refl };
      low = omega arith;
      high = omega arith;
    }

pub sum-end_4 : BestRun (example Sum) book 4 (pos 10) 2
sum-end_4 =
    best_run Sum 4 (pos 10) 2 there-sum_4
    (record {
      one_one = looked Sum 4 (good Sum (pos 10) 2) 1 1 2 (pos 10) refl sum-2_1_1 refl;
      one_two = looked Sum 4 (good Sum (pos 10) 2) 1 2 1 (pos 40) refl sum_1_1_2 refl;
      two_one = looked Sum 4 (good Sum (pos 10) 2) 2 1 1 (pos 15) refl sum_1_2_1 refl;
      two_two = looked Sum 4 (good Sum (pos 10) 2) 2 2 0 (pos 40) refl sum-0-2-2 refl;
    })
