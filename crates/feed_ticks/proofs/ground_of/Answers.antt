-- `ground_of`: what a sound pattern's layout, edges, links and steps are known for.
use mathlib.Core.Path.{◌≡◌, refl, sym, subst}
use Rattle.pattern.specs.declared.Pattern.{Pattern}
use Rattle.pattern.specs.Kinds.{is_start, is_end}
use Rattle.pattern.specs.Sound.{sound_of}
use mathlib.Core.Bool.{true}
use Rattle.cells.specs.declared.Layout.{Layout}
use Rattle.cells.specs.Layout.{Laid}
use Rattle.table.specs.Edges.{Edged}
use Rattle.table.proofs.Steps.{edged_sourced}
use Rattle.table_laws.proofs.Patterns.{edged_pattern}
use Rattle.monitor.specs.Cells.{layout}
use Rattle.monitor.proofs.CellLaws.{laid}
use Rattle.feed_ticks.proofs.ground_of.Goals as goal

module _ (p : Pattern) (l : Layout) (sound : sound_of p ≡ true) (is : l ≡ layout p) where
  fits : Laid l
  fits = subst Laid (sym is) (laid p sound)

  edged : Edged l p.edges p.edgecount
  edged = subst (λ (x : Layout). Edged x p.edges p.edgecount) (sym is) (edged_pattern p sound p.high)

pub links_of-links-requires : goal.links_of-links-requires
links_of-links-requires c =
    let i = c.p.inside in
    let k = c.p.invariant in
    rw (c.from-count.ensures) (edged_sourced (fits i.pattern i.layout k.0 k.1) (edged i.pattern i.layout k.0 k.1))

pub steps_of-steps-requires : goal.steps_of-steps-requires
steps_of-steps-requires c =
    let e = edged c.p.inside.pattern c.p.inside.layout c.p.invariant.0 c.p.invariant.1 in
    rw (c.from-count.ensures) (e.few, e.fits)

pub invariant_of-result : goal.invariant_of-result
invariant_of-result c =
    let i = c.p.inside in
    let k = c.p.invariant in
    record {
      laid = fits i.pattern i.layout k.0 k.1;
      edged = rw (c.from-count.ensures) (edged i.pattern i.layout k.0 k.1);
      linked = c.links_of-links.ensures;
      stepped = c.steps_of-steps.ensures;
    }

pub returns : goal.returns
returns c =
    let starts = c.flags_by-starts.ensures is_start (λ k r h. h.1) in
    let ends = c.flags_by-ends.ensures is_end (λ k r h. h.1) in
    rw (starts, ends, c.from-count.ensures, c.from.ensures, c.p.invariant.1, ← c.p.view_is) refl
