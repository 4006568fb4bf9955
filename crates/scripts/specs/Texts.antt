-- What is printed of why a script stops. Assumes nothing.
use Rattle.std.specs.Prelude.{ℕ, List, ◌++◌, codes, decimal, Some, None, string_bytes}
use Rattle.scripts.specs.declared.entry.Expected.{Expected}
use Rattle.scripts.specs.declared.entry.Expected.TheVariants.{Command, LabellingKind, OperationKind, Number, LineEnd}
use Rattle.scripts.specs.declared.entry.Unread.{Unread}
use Rattle.scripts.specs.declared.entry.Unread.TheVariants.{Senseless, NoMemory}
use Rattle.scripts.specs.declared.entry.Fault.{Fault}
use Rattle.scripts.specs.declared.entry.Fault.TheVariants.{Unread as UnreadLine, Lacking, NoMemory as NoRoom}
use Rattle.scripts.specs.declared.entry.Failure.{Failure}
use Rattle.scripts.specs.declared.reply.Missing.{Missing}
use Rattle.scripts.specs.declared.reply.Missing.TheVariants.{Labelling, Operation, Table, Unturned}

abbrev pub expected_text : Expected → List ℕ
expected_text Command = codes "a command (--help lists them)"
expected_text LabellingKind = codes "plain, complement or cyclic"
expected_text OperationKind = codes "min, max, cyclic-sum, truncated-sum or table"
expected_text Number = codes "a number from 0 to 255"
expected_text LineEnd = codes "the end of the line"

abbrev pub missing_text : Missing → List ℕ
missing_text Labelling = codes "a labelling to be chosen on a line before"
missing_text Operation = codes "an operation to be chosen on a line before"
missing_text Table = codes "the operation at hand to be a table that is not turned"
missing_text Unturned = codes "the operation at hand not to be turned"

-- as `expected a number from 0 to 255, found 'x'`
abbrev pub unread_text : Unread → List ℕ
unread_text (Senseless expected (Some word)) = codes "expected " ++ (expected_text expected ++ (codes ", found '" ++ (string_bytes word ++ codes "'")))
unread_text (Senseless expected None) = codes "expected " ++ (expected_text expected ++ codes ", found the end of the line")
unread_text NoMemory = codes "there is not enough memory"

abbrev pub fault_text : Fault → List ℕ
fault_text (UnreadLine unread) = unread_text unread
fault_text (Lacking missing) = codes "expected " ++ missing_text missing
fault_text NoRoom = unread_text NoMemory

-- as `line 7: expected a number from 0 to 255, found 'x'`; no line is at fault where memory is short
abbrev pub stop_text : ℕ → Fault → List ℕ
stop_text line (UnreadLine (Senseless expected found)) = codes "line " ++ (decimal line ++ (codes ": " ++ unread_text (Senseless expected found)))
stop_text line (UnreadLine NoMemory) = unread_text NoMemory
stop_text line (Lacking missing) = codes "line " ++ (decimal line ++ (codes ": " ++ fault_text (Lacking missing)))
stop_text line NoRoom = unread_text NoMemory

abbrev pub failure_text : Failure → List ℕ
failure_text f = stop_text f.line f.fault
