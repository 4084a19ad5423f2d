-- "`Button::South` and its fellows carry the fixed numbers of src/constants.rs": the axes.
-- Public contracts rest on these definitions; they assume nothing.
use Rattle.line.specs.declared.ev.Axis.{Axis}

abbrev pub Unknown : Axis
Unknown = record { 0 = 0 }

abbrev pub LeftStickX : Axis
LeftStickX = record { 0 = 1 }

abbrev pub LeftStickY : Axis
LeftStickY = record { 0 = 2 }

abbrev pub LeftZ : Axis
LeftZ = record { 0 = 3 }

abbrev pub RightStickX : Axis
RightStickX = record { 0 = 4 }

abbrev pub RightStickY : Axis
RightStickY = record { 0 = 5 }

abbrev pub RightZ : Axis
RightZ = record { 0 = 6 }

abbrev pub DPadX : Axis
DPadX = record { 0 = 7 }

abbrev pub DPadY : Axis
DPadY = record { 0 = 8 }
