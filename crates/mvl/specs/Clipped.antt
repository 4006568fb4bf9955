-- A meaning with nothing said where there is nothing to carry. Assumes nothing.
use Rattle.std.specs.Prelude.{cond, ◌&&◌, nat_lt}
use Rattle.mvl.specs.Labels.{Meaning}

-- the meaning with carry 0 where there is no such label or no such value: it is exactly the radix, the labels and what labels make of values,
-- so that two meanings that agree in these are one when clipped
abbrev pub clipped : Meaning → Meaning
clipped m = record { radix = m.radix; labels = m.labels; carry = λ k v. cond (nat_lt k m.labels && nat_lt v m.radix) (m.carry k v) 0 }
