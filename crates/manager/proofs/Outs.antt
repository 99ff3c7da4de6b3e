-- A rank taken away.
use lib.Seq.{set_out}

-- A list stays as it is where an element is set past its end.
pub ruleset outs = (set_out)
