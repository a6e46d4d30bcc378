use Rattle.price_stays.proofs.Stay.sample.Goals as goal
use Rattle.record.proofs.RecordLaws.{part-sample}

pub returns : goal.returns
returns c = part-sample c.args.self.now.channels c.args.piece c.args.self.now.lent.values.now
