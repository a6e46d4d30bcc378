-- The resets of an edge: "at least one clock, rising, or no bracket at all".
use Rattle.std.specs.Prelude.{ℕ, ◌+◌, min, List, [], ◌∷◌, true, false, cond, ◌&&◌, leb, ltb, set, replicate}
use Rattle.text_scan.specs.Scan.{cap}
use Rattle.line_lists.specs.declared.Resets.{Resets}

-- no clock so far
abbrev pub no_resets : Resets
no_resets = record { flags = replicate 4 false; least = 0; known = true }

-- one clock more: known, and above the one before it
unfoldable pub add_reset : (clocks : ℕ) → Resets → ℕ → Resets
add_reset clocks s c = record {
  flags = cond (ltb c 4) (set s.flags c true) s.flags;
  least = c + 1;
  known = s.known && (leb s.least c && ltb c clocks);
}

-- some clocks more, each held
abbrev pub added : (clocks : ℕ) → Resets → List ℕ → Resets
added clocks s [] = s
added clocks s (c ∷ cs) = added clocks (add_reset clocks s (min cap c)) cs
