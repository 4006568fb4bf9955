-- What is shown of each refusal: its number, and the reason in words. Assumes nothing.
use Rattle.std.specs.Prelude.{ℕ, List, ◌++◌, codes, decimal}
use Rattle.mvl.specs.Numbers.{number}
use Rattle.mvl.specs.declared.refusal.Refusal.{Refusal}
use Rattle.mvl.specs.declared.refusal.Refusal.TheVariants.{Unserved, BadCard, NoEdge, NoVariable, NoValue, NoLabel, WrongLength, WrongRadix, ShortMemory, BrokenImage, TooWide, NoPlace, OtherHeader, NoRoom}

abbrev pub reason : Refusal → List ℕ
reason Unserved = codes "it does not serve this radix"
reason BadCard = codes "a count, size or capacity of the card is out of range"
reason NoEdge = codes "the edge is not one of this table"
reason NoVariable = codes "there is no such variable"
reason NoValue = codes "a value or byte is too large for its use"
reason NoLabel = codes "there is no such label"
reason WrongLength = codes "a length is wrong"
reason WrongRadix = codes "the radices differ"
reason ShortMemory = codes "the memory is shorter than the image"
reason BrokenImage = codes "the image is broken"
reason TooWide = codes "the variable has more values than the radix"
reason NoPlace = codes "there is no place below to exchange with"
reason OtherHeader = codes "the header is another table's"
reason NoRoom = codes "there are not enough free nodes"

-- as `5 (a value or byte is too large for its use)`
abbrev pub text : Refusal → List ℕ
text r = decimal (number r) ++ (codes " (" ++ (reason r ++ codes ")"))
