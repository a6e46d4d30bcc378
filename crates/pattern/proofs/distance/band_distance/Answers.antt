use Rattle.std.proofs.Common.{rules}
use Rattle.weighting.proofs.Least.{min_is}
use Rattle.pattern.proofs.distance.band_distance.Goals as goal

pub returns : goal.returns
returns c = search (rules, min_is)
