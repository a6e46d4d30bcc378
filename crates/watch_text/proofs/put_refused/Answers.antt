use native.Mathlib.Omega.{arith}
use Rattle.text_put.proofs.PutLaws.{puts_then}
use Rattle.watch_text.specs.Shown.{refused_text}
use Rattle.watch_text.proofs.Sizes.{refused_short}
use Rattle.watch_text.proofs.put_refused.Goals as goal

pub returns : goal.returns
unfolding refused_text
returns c =
    let number = c.from.ensures in
    record {
      put = puts_then c.word.ensures (puts_then (rw (c.from-2.ensures, number) at c.number.ensures) c.byte.ensures);
      r_bound = refused_short c.args.r (let o = c.from.type_inv in omega arith);
    }
