-- `links_of` goes from the last edge to the first, and puts each before the list of its place.
use Rattle.table.proofs.Linking.{LinkedFrom}
use Rattle.table.proofs.links_of.Given as goal

abbrev pub invariant-loop-i : goal.invariant-loop-i
invariant-loop-i l = LinkedFrom l.edges l.count l.i l.firsts l.nexts
