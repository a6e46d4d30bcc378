-- The starred edge values of document 01, as one list of claims, and one theorem that covers it.
use Rattle.std.specs.Prelude.{◌≡◌, List, [], ◌∷◌, pos}
use Rattle.std.proofs.Math.Option.{some}
use Rattle.weighting.specs.declared.Weighing.TheVariants.{Margin, Sum}
use Rattle.pattern.specs.Cells.{cells_numbers}
use Rattle.pattern_text.specs.Example.{example_text, example}
use Rattle.pattern_read.specs.Reading.{read_numbers}
use Rattle.record_text.specs.Text.{read_record}
use Rattle.record_text.specs.Example as record-text
use Rattle.record_read.specs.Check.{check_number}
use Rattle.price.specs.Price.{priced_numbers}
use Rattle.monitor.specs.Demand.{BestRun, NoRun}
use Rattle.starred.specs.Example.{durations, values, book}

-- each claim of a list holds
abbrev pub Each : List (Type 0) → Type 0
Each [] = Unit
Each (claim ∷ claims) = claim × Each claims

abbrev pub starred : List (Type 0)
starred =
    -- The example is what document 01 prints: its pattern's text is accepted and read as this pattern, and so is the text with
    -- `sum`; its record's two lines are accepted and read as these pieces.
    (read_numbers (example_text Margin) ≡ (0, example Margin))
    ∷ (read_numbers (example_text Sum) ≡ (0, example Sum))
    ∷ (check_number 1 record-text.example_text ≡ 0)
    ∷ (read_record record-text.example_text ≡ some record-text.example)
    -- "Cells needed above: 5 × 2 × 3 × 5 = 150."
    ∷ (cells_numbers (example Margin) ≡ (0, 150))
    -- "End 1 above: no run, length 0."
    ∷ NoRun (example Margin) book 1 (pos 0) 0
    -- "Each of the three ends listed above": end, begin and score 2 0 5, 3 1 5, 4 1 5; the length is the end less the begin.
    ∷ BestRun (example Margin) book 2 (pos 5) 2
    ∷ BestRun (example Margin) book 3 (pos 5) 2
    ∷ BestRun (example Margin) book 4 (pos 5) 3
    -- "The same with `sum`: end 2 gives 10 from 0; end 3 gives 40 from 1; end 4 gives 10 from 2."
    ∷ BestRun (example Sum) book 2 (pos 10) 2
    ∷ BestRun (example Sum) book 3 (pos 40) 2
    ∷ BestRun (example Sum) book 4 (pos 10) 2
    -- "Sum, begin 0, edges 0 then 1, stays 2 and 1: 40, for the first piece counts 5 once."
    ∷ (priced_numbers (example Sum) durations values 0 (0 ∷ 1 ∷ []) (2 ∷ 1 ∷ []) ≡ (0, pos 40))
    -- "Same edges, stays 3 and 1: refusal 10, clock 3 is not below 3."
    ∷ (priced_numbers (example Sum) durations values 0 (0 ∷ 1 ∷ []) (3 ∷ 1 ∷ []) ≡ (10, pos 0))
    ∷ []

-- Theorem: every starred value is as document 01 says.
abbrev pub Starred : Type 0
Starred = Each starred
