-- What the begin of a transfer asks of what is kept of the images.
use Rattle.std.specs.Prelude.{◌<◌, length}
use Rattle.cc_images.specs.Images.{Images}

-- the end will find its place
abbrev pub HasRoomToBegin : Images → Type 0
HasRoomToBegin i = length i.unknown.ranges < i.unknown.room
