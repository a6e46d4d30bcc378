use Rattle.std.proofs.Common.{rules, ◌≡◌, ◌∙◌, sum, sym}
use Rattle.std.proofs.iter.runs.Made.{chains}
use Rattle.record.proofs.RecordLaws.{total_is}
use Rattle.record.proofs.rules.ticks.Goals as goal

pub returns : goal.returns
returns c = let added : c.sum.result ≡ sum c.args.durations.now = search (rules, chains) in added ∙ sym (total_is c.args.durations.now)
