-- What a place's kind allows: "`start`, `plain`, `end` or `both` (start and end)".
use Rattle.std.specs.Prelude.{Bool, true, false}
use Rattle.pattern.specs.declared.Kind.{Kind}
use Rattle.pattern.specs.declared.Kind.TheVariants.{Start, Plain, End, Both}

-- a run may begin there
abbrev pub is_start : Kind → Bool
is_start Start = true
is_start Plain = false
is_start End = false
is_start Both = true

-- a run may end there
abbrev pub is_end : Kind → Bool
is_end Start = false
is_end Plain = false
is_end End = true
is_end Both = true
