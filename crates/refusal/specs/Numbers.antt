-- The number of each refusal: document 01's, and those of requests 2027-05 and 2027-06.
use Rattle.std.specs.Prelude.{ℕ}
use Rattle.refusal.specs.declared.Refusal.{Refusal}
use Rattle.refusal.specs.declared.Refusal.TheVariants.{WideGap, StoreFull, ManyKnown, BadContent, ShortSlice, ManyPredecessors, BadGuardContent, GuardsFull, LongJournal, UnknownMark, BadRecord, PendingFull, ShortOutput, BadHashText, NoSender, NoWire, BadSweepLists, BadNonceCounts, BadTrace}

abbrev pub refusal_number : Refusal → ℕ
refusal_number WideGap = 1
refusal_number StoreFull = 2
refusal_number ManyKnown = 3
refusal_number BadContent = 4
refusal_number ShortSlice = 5
refusal_number ManyPredecessors = 6
refusal_number BadGuardContent = 7
refusal_number GuardsFull = 8
refusal_number LongJournal = 9
refusal_number UnknownMark = 10
refusal_number BadRecord = 11
refusal_number PendingFull = 12
refusal_number ShortOutput = 13
refusal_number BadHashText = 14
refusal_number NoSender = 15
refusal_number NoWire = 16
refusal_number BadSweepLists = 17
refusal_number BadNonceCounts = 18
refusal_number BadTrace = 19
