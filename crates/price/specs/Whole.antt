-- How the code goes through a whole run, from its begin to its end place. No promise of a public operation speaks of this.
use Rattle.std.specs.Prelude.{ℕ, ◌+◌, ◌<◌, ◌≡◌, List, cond, length, take, get_or, Option, Some, None}
use Rattle.weighting.proofs.Weightings.{weighting_of}
use Rattle.pattern.specs.declared.Pattern.{Pattern}
use Rattle.pattern.specs.InUse.{place_at, edge_at}
use Rattle.pattern.specs.Kinds.{is_start}
use Rattle.pattern.specs.Clocks.{zero_clocks}
use Rattle.record.specs.Record.{total}
use Rattle.price_runs.specs.declared.Stand.{Stand}
use Rattle.price.specs.declared.Begin.{Begin}

-- The piece that begin lies in, and the ticks of it that lie before begin.
pub record Found (durations : List ℕ) (begin : ℕ) (r : Begin) : Type 0 where
  pub inside : r.piece < length durations
  pub below : r.used < get_or durations r.piece 0
  pub is : begin ≡ total (take r.piece durations) + r.used

-- Where the run stands at the begin, "all clocks 0".
abbrev pub stand_of : Pattern → (edge used left : ℕ) → Stand
stand_of p edge used left =
    record {
      place = (edge_at p edge).from;
      clocks = zero_clocks;
      piece = 0;
      used = used;
      left = left;
      worth = (weighting_of p.weighing).unit;
    }

-- "It enters a start place at b"
abbrev pub start_of : Pattern → (edge used left : ℕ) → Option Stand
start_of p edge used left =
    cond (is_start (place_at p (edge_at p edge).from).kind) (Some (stand_of p edge used left)) None
