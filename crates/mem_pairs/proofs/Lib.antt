mod BlocksLaws
mod EditsLaws
mod PlacesLaws
mod ReadsLaws
mod ScansLaws
mod ShownLaws
