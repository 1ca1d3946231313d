-- How each definition of a stream steps at an event.
pub mod ObjectEvents
pub mod TouchedEvents
pub mod SizeEvents
pub mod TouchEvents
pub mod HoldEvents
