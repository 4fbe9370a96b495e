-- A frame as it is kept.
use Rattle.wire.specs.declared.framing.Frame as kept
use Rattle.wire.specs.declared.reading.Framed as read
use Rattle.wire.specs.Framing.{Frame, Framed}
use Rattle.wire.specs.Reading.{sender_view}

abbrev pub frame_view : kept.Frame → Frame
frame_view f = record { length = f.length; closes = f.closes; encoded = f.encoded; expects = f.expects }

abbrev pub framed_view : read.Framed → Framed
framed_view f = record { method = f.method.items; target = f.target.items; sender = sender_view f.sender; frame = frame_view f.frame }
