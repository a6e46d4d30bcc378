-- `stay_in` goes through piece after piece: the end, and the worth there, stay the same.
use Rattle.price_stays.proofs.WalkLaws.{Far}
use Rattle.price_stays.proofs.stay_in.Given as goal

abbrev pub invariant-loop-at : goal.invariant-loop-at
invariant-loop-at l = Far l.stay.weighing l.stay.place l.stay.channels l.stay.lent.durations.now l.stay.lent.values.now l.stay.first l.initial.at l.at

abbrev pub decreases-loop-at : goal.decreases-loop-at
decreases-loop-at l = l.at.left
