mod FirstObjects
mod FirstStatics
mod FrameLaws
mod HeapLaws
mod Openings
mod OrderLaws
