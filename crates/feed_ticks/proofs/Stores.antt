-- A place that an array read past its end gives.
use mathlib.Core.List.{[]}
use Rattle.pattern.specs.declared.Kind.TheVariants.{Start}
use Rattle.pattern.specs.declared.Place.{Place}

abbrev pub unset : Place
unset = record { kind = Start; tests = []; count = 0 }
