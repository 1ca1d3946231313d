-- In the order in which the definitions build on each other.
pub mod Laws
pub mod Facts
pub mod ByPlaces
pub mod ByPlacesDirty
pub mod ByPlacesGrown
pub mod ByPlacesResident
pub mod ByPlacesSizes
pub mod ByPlacesImage
pub mod LeastPages
