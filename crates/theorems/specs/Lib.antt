-- The laws of the documents, over the promises of the services. Nothing here is used by a program, so a change of a law proves no program
-- anew, and each law rests on public definitions and laws only.
-- What the promises come to: a tape that is read, and a whole code that no cause refuses.
pub mod Read
pub mod Passed
-- What reading answers and leaves, handed on to the other services; for tables and for the calls from C.
pub mod RoundTrip
pub mod RoundTripText
-- Where a tape breaks that reading refuses with 5.
pub mod Located
-- Letters on a desk with which no tape ends.
pub mod DeskEnds
-- Where a call for totals answers 0, no litre is lost.
pub mod CellDigits
-- What a text of 01's accounts still gives.
pub mod OldTexts
-- The third demand for pattern texts and the call from C.
pub mod ThirdDemand
pub mod ThirdDemanded
-- Every piece stands by itself: for tables, and for pattern texts and the calls from C. The text of a table, which loads to it.
pub mod StandsAlone
pub mod StandsAloneProved
pub mod PatternText
pub mod PatternTextLaws
pub mod PatternTextCases
pub mod StandsAloneText
pub mod StandsAloneTextProved
-- The statements of document 03 over pattern texts, under 03's names, by the definitions of this repository. 03's own definitions stand here
-- word for word but for kind `Z`, the letters of the hot side and accounts above 9 (02, Jobs 2, 3 and 7).
pub mod Paper03Pattern
pub mod Paper03Codes
pub mod Numbers
pub mod Paper03
pub mod Paper03Laws
-- 03's own definitions of codes and texts come to the same: codes, fields, lines, the tree, refusals.
pub mod Paper03Read
pub mod Paper03Same
pub mod Paper03Fields
pub mod Paper03Load
pub mod Paper03Tree
pub mod Paper03Refusals
-- 03's marks, by its followers and steps with fuel, are the words that reading promises.
pub mod Paper03Marks
pub mod Paper03Places
pub mod Paper03MarksSame
-- So 03's statements hold as they stand there, and its contracts of spelling, reading and settling are met.
pub mod Paper03Promise
pub mod Paper03Promised
pub mod Paper03Entry
pub mod Paper03Spell
pub mod Paper03Reading
pub mod Paper03Settle
-- Where a text has none of these three they are 03's as 03 has them.
pub mod Paper03Plain
pub mod Paper03PlainLaws
pub mod Paper03PlainMarks
pub mod Paper03PlainMarksLaws
pub mod Paper03PlainEntry
pub mod Paper03PlainEntryLaws
