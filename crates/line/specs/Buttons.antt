-- "`Button::South` and its fellows carry the fixed numbers of src/constants.rs": the buttons.
-- Public contracts rest on these definitions; they assume nothing.
use Rattle.line.specs.declared.ev.Button.{Button}

abbrev pub Unknown : Button
Unknown = record { 0 = 0 }

abbrev pub South : Button
South = record { 0 = 1 }

abbrev pub East : Button
East = record { 0 = 2 }

abbrev pub C : Button
C = record { 0 = 3 }

abbrev pub North : Button
North = record { 0 = 4 }

abbrev pub West : Button
West = record { 0 = 5 }

abbrev pub Z : Button
Z = record { 0 = 6 }

abbrev pub LeftTrigger : Button
LeftTrigger = record { 0 = 7 }

abbrev pub RightTrigger : Button
RightTrigger = record { 0 = 8 }

abbrev pub LeftTrigger2 : Button
LeftTrigger2 = record { 0 = 9 }

abbrev pub RightTrigger2 : Button
RightTrigger2 = record { 0 = 10 }

abbrev pub Select : Button
Select = record { 0 = 11 }

abbrev pub Start : Button
Start = record { 0 = 12 }

abbrev pub Mode : Button
Mode = record { 0 = 13 }

abbrev pub LeftThumb : Button
LeftThumb = record { 0 = 14 }

abbrev pub RightThumb : Button
RightThumb = record { 0 = 15 }

abbrev pub DPadUp : Button
DPadUp = record { 0 = 16 }

abbrev pub DPadDown : Button
DPadDown = record { 0 = 17 }

abbrev pub DPadLeft : Button
DPadLeft = record { 0 = 18 }

abbrev pub DPadRight : Button
DPadRight = record { 0 = 19 }
