-- `read_parts` meets its contract: the parts that are left, added to those so far, give the same.
use Rattle.std.proofs.Common.{sym, ap, ◌∙◌, rules}
use Rattle.line_lists.specs.Lists.{with_part, no_parts}
use Rattle.line_lists.proofs.Gather.{all_read, gather, gather-end, next_part}
use Rattle.line_lists.proofs.PartsLaws.{gathered_is}
use Rattle.line_lists.proofs.read_parts.Goals as goal

pub loop-part-init : goal.loop-part-init
loop-part-init g c =
    let P = g.T.Part in
    ap (λ s. gather (with_part P.in_range (P.known c.args.count)) s (all_read P.reads c.args.text.now)) (sym c.none-all.ensures)

pub loop-part-preserved : goal.loop-part-preserved
loop-part-preserved g c =
    let P = g.T.Part in
    let l = c.loop-part in
    let k = next_part P.reads g.met.T.Part.shorter (with_part {size = g.row.N} P.in_range (P.known c.args.count)) (no_parts g.row.N P.unused) l.all l.rest.now c.args.text.now c.read.result c.read.ensures in
    search (k, l.invariant, c.with-all.ensures, rules)

pub returns : goal.returns
returns g c =
    let P = g.T.Part in
    let l = c.loop-part in
    sym (sym (gathered_is g.row.N c.requires P.unused P.in_range (P.known c.args.count) (all_read P.reads c.args.text.now))
    ∙ l.invariant ∙ gather-end P.reads g.met.T.Part.shorter (with_part P.in_range (P.known c.args.count)) l.all l.rest.now (sym c.in_default.ensures))
