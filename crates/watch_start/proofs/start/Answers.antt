-- The record judged and the monitor opened, for a pattern that is sound.
use mathlib.Core.Path.{◌≡◌, ap, ◌∙◌}
use Rattle.pattern_text.specs.Text.{accepted, read_of}
use Rattle.pattern_text.proofs.Theorems.{sound_means_read}
use Rattle.watch_steps.specs.Steps.{start_with, start_watch}
use Rattle.watch_start.proofs.Opening.{read-accepted, opened_start, start-stands}
use Rattle.watch_start.proofs.start.Goals as goal
use Rattle.watch_start.proofs.start.Goals.{In-Ok, After-start_at}

is : (c : In-Ok) → read_of c.args.pattern.now ≡ accepted c.in-Ok.p
is c = read-accepted _ _ c.in-Ok.ensures.value

pub invariant_of-opened : goal.invariant_of-opened
invariant_of-opened c = (sound_means_read c.in-Ok.p).1 (c.args.pattern.now, is (goal.at.invariant_of-opened c).In-Ok)

started : (c : After-start_at) → c.start_at.result ≡ start_watch (accepted c.in-Ok.p) c.args.text.now
started c = c.start_at.ensures ∙ ap (start_with c.in-Ok.p) c.opened.ensures.value ∙ opened_start c.in-Ok.p _

pub returns-in-Ok : goal.returns-in-Ok
returns-in-Ok c =
    let a = c.args in
    let o = c.opened.ensures in
    let e = is (goal.at.returns-in-Ok c).In-Ok in
    record {
      value = rw e (started c);
      first_after = rw e o.first_after;
      second_after = rw e o.second_after;
      standing =
          rw (started c, o.first_after, o.second_after)
          (start-stands a.text.now a.first.now a.second.now c.requires.0 c.requires.1 (accepted c.in-Ok.p) (λ q f. (sound_means_read q).1 (a.pattern.now, e ∙ f)));
    }
