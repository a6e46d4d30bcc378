-- The starred values, computed through the definitions.
use mathlib.Core.Path.{◌≡◌, refl, sym, ap, ◌∙◌}
use mathlib.Core.List.{flat_map, zip_with}
use Rattle.weighting.specs.declared.Weighing.TheVariants.{Margin, Sum}
use Rattle.weighting.specs.Weighting.{combine_from}
use Rattle.pattern.specs.Slots.{slots}
use Rattle.pattern.specs.Sound.{test_unused, guard_unused, place_unused, edge_unused, bound_in_range, unsaid_zero, test_in_range, test_known, test_sound, guard_in_range, guard_known, header_in_range, place_sound, edge_sound, sound_of}
use Rattle.pattern.specs.Cells.{bounds_on, largest, ceiling_of, clock_cells, cells_for, cells_needed}
use Rattle.pattern.specs.Clocks.{guards_hold, after_resets}
use Rattle.pattern.specs.Distance.{place_worth, distances_of}
use Rattle.pattern_text.specs.Examples as pattern-text
use Rattle.pattern_read.specs.Reading.{due_to}
use Rattle.record.specs.Record.{total, record_sound, book_of, pieces_of, sample_at, ticks_of}
use Rattle.record.specs.Joined.{agrees, absorb, joined, observed}
use Rattle.record.specs.Run.{can_step, goes, is_run, length_of, steps_of}
use Rattle.record.specs.Worth.{stay_worth, stay_worths, run_worth, price_of}
use Rattle.record_text.specs.Text.{durations_of, values_of}
use Rattle.record_text.specs.Example.{example_text}
use Rattle.record_text.specs.Examples as record-text
use Rattle.record_read.specs.Check.{checked_of, checked_as, check_number}
use Rattle.record_read.proofs.Numbers.{check_numbers}
use Rattle.price.specs.Price.{steps_fit}
use Rattle.starred.specs.Starred.{Starred}
use Rattle.starred.proofs.Ends.{no_run}
use Rattle.starred.proofs.Best.{margin-end-2, margin-end-3, margin-end_4, sum-end-2, sum-end-3, sum-end_4}

accepted : check_number 1 example_text ≡ 0
accepted = sym (check_numbers 1 example_text) ∙ ap (λ o. checked_as (checked_of o)) record-text.sound

pub starred_hold : Starred
unfolding durations_of values_of flat_map slots test_unused guard_unused place_unused edge_unused bound_in_range test_in_range test_known unsaid_zero test_sound guard_in_range guard_known header_in_range place_sound edge_sound sound_of bounds_on largest ceiling_of clock_cells cells_for cells_needed steps_fit record_sound total book_of pieces_of sample_at ticks_of agrees absorb joined observed can_step goes is_run length_of steps_of stay_worth stay_worths run_worth price_of guards_hold after_resets zip_with combine_from place_worth distances_of
starred_hold = (
  ap due_to (pattern-text.reads Margin),
  (
    ap due_to (pattern-text.reads Sum),
    (
      accepted,
      (
        record-text.reads,
        (refl, (no_run Margin, (margin-end-2, (margin-end-3, (margin-end_4, (sum-end-2, (sum-end-3, (sum-end_4, (refl, (refl, tt)))))))))),
      ),
    ),
  ),
)
