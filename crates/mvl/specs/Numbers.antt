-- The number of each refusal. Where several apply, the smallest is given. Assumes nothing.
use Rattle.std.specs.Prelude.{ℕ}
use Rattle.mvl.specs.declared.refusal.Refusal.{Refusal}
use Rattle.mvl.specs.declared.refusal.Refusal.TheVariants.{Unserved, BadCard, NoEdge, NoVariable, NoValue, NoLabel, WrongLength, WrongRadix, ShortMemory, BrokenImage, TooWide, NoPlace, OtherHeader, NoRoom}

abbrev pub number : Refusal → ℕ
-- for what was handed in
number Unserved = 1
number BadCard = 2
number NoEdge = 3
number NoVariable = 4
number NoValue = 5
number NoLabel = 6
number WrongLength = 7
number WrongRadix = 8
number ShortMemory = 9
number BrokenImage = 10
-- for how the table stands
number TooWide = 11
number NoPlace = 12
number OtherHeader = 13
number NoRoom = 14
