-- The number by which each fault is told, and the cause inside it (0 where there is none).
use Rattle.std.specs.Prelude.{ℕ}
use Rattle.faults.specs.declared.causes.Cause.{Cause}
use Rattle.faults.specs.declared.causes.Cause.TheVariants.{NoExtent, PastReel, NoTempo, TempoAboveLimit, ExtentAboveLimit, Other}
use Rattle.faults.specs.declared.reel.ReelFault.{ReelFault}
use Rattle.faults.specs.declared.reel.ReelFault.TheVariants.{OddBytes, TooLong}
use Rattle.faults.specs.declared.session.SessionFault.{SessionFault}
use Rattle.faults.specs.declared.session.SessionFault.TheVariants.{NotHeld, BeyondEnd, EmptyRange, RangePastEnd, Unlawful, ClipboardEmpty, PastEmpty, FutureEmpty, HoldsOut, ExtentLimit, ElementLimit, FewCells, BeyondTally, OutputShort, RenderTooLong, NoSample, CellsOutside}
use Rattle.faults.specs.declared.script.ScriptFault.{ScriptFault}
use Rattle.faults.specs.declared.script.Stop.{Stop}
use Rattle.faults.specs.declared.script.Stop.TheVariants.{End, NoRoom, CutShort, BadReel}
use Rattle.faults.specs.declared.script.ScriptFault.TheVariants.{Refused, UnknownKind, PayloadLength}

abbrev pub cause_number : Cause → ℕ
cause_number NoExtent = 1
cause_number PastReel = 2
cause_number NoTempo = 3
cause_number TempoAboveLimit = 4
cause_number ExtentAboveLimit = 5
cause_number (Other n) = n

abbrev pub reel_number : ReelFault → ℕ
reel_number OddBytes = 19
reel_number TooLong = 21

abbrev pub session_number : SessionFault → ℕ
session_number NotHeld = 1
session_number BeyondEnd = 2
session_number EmptyRange = 3
session_number RangePastEnd = 4
session_number (Unlawful c) = 5
session_number ClipboardEmpty = 6
session_number PastEmpty = 7
session_number FutureEmpty = 8
session_number HoldsOut = 9
session_number ExtentLimit = 10
session_number ElementLimit = 11
session_number FewCells = 12
session_number BeyondTally = 13
session_number OutputShort = 14
session_number RenderTooLong = 15
session_number NoSample = 17
session_number CellsOutside = 18

abbrev pub session_cause : SessionFault → ℕ
session_cause NotHeld = 0
session_cause BeyondEnd = 0
session_cause EmptyRange = 0
session_cause RangePastEnd = 0
session_cause (Unlawful c) = cause_number c
session_cause ClipboardEmpty = 0
session_cause PastEmpty = 0
session_cause FutureEmpty = 0
session_cause HoldsOut = 0
session_cause ExtentLimit = 0
session_cause ElementLimit = 0
session_cause FewCells = 0
session_cause BeyondTally = 0
session_cause OutputShort = 0
session_cause RenderTooLong = 0
session_cause NoSample = 0
session_cause CellsOutside = 0

abbrev pub script_number : ScriptFault → ℕ
script_number (Refused f) = session_number f
script_number UnknownKind = 23
script_number PayloadLength = 24

abbrev pub script_cause : ScriptFault → ℕ
script_cause (Refused f) = session_cause f
script_cause UnknownKind = 0
script_cause PayloadLength = 0

-- why a run of a script stopped; 0 at its end
abbrev pub stop_number : Stop → ℕ
stop_number End = 0
stop_number NoRoom = 14
stop_number CutShort = 22
stop_number (BadReel f) = reel_number f
